-- The shared checker on a state that is bytes (document 02, order 9): answers and lent memory.
-- Assumes nothing.
use Rattle.std.specs.Prelude.{List, [], ◌∷◌, ℕ, length, get_or}
use Rattle.std.proofs.Math.Option.{Option}
use Rattle.refusal.specs.Outcome.{refusal, success, Outcome, done}
use Rattle.schedule.specs.Schedule.{State, Service, empty}
use Rattle.shared.specs.declared.Places.{Places}
use Rattle.shared.specs.declared.Job.{Job}
use Rattle.shared.specs.Service.{unless_refused}
use Rattle.shared.specs.Operations.{enter_refusal, entered, work_after_entry, call_refusal, called, verdicts_of, work_after_call}
use Rattle.state_bytes.specs.Bytes.{decode_state, encode_state}

-- the empty state, in the lent bytes
unfoldable pub start_op : Outcome
start_op = done (encode_state empty ∷ [])

-- "Entry names where the inputs lie": start and length of circuit, y, message and proof
unfoldable pub places_of : List ℕ → Places
places_of n =
    record {
      circuit = record { start = get_or n 0 0; len = get_or n 1 0 };
      y = record { start = get_or n 2 0; len = get_or n 3 0 };
      message = record { start = get_or n 4 0; len = get_or n 5 0 };
      proof = record { start = get_or n 6 0; len = get_or n 7 0 };
    }

-- an entry, which leaves the bytes of the state and the work buffer; a refused one leaves the bytes as they were
unfoldable pub enter_op : List ℕ → ℕ → List ℕ → List ℕ → List ℕ → Outcome
enter_op state caller places buffer work =
    let s : State Job = decode_state state in
    let p : Places = places_of places in
    let r : Option ℕ = enter_refusal caller p buffer work s in
    record {
      answer = unless_refused r refusal (success []);
      left = unless_refused r (λ k. state) (encode_state (entered caller p buffer work s)) ∷ work_after_entry caller p buffer work s ∷ [];
    }

-- a call: "the answer counts the instances checked in that call", and holds "these verdicts, each under its caller"; it leaves the bytes of
-- the state, the verdicts and the work buffer, and a refused one the first two as they were
unfoldable pub call_op : List ℕ → ℕ → List ℕ → List ℕ → List ℕ → Outcome
call_op state quota buffer verdicts work =
    let s : State Job = decode_state state in
    let r : Option ℕ = call_refusal quota work s in
    let x : List (Service ℕ) × State Job = called quota buffer work s in
    record {
      answer = unless_refused r refusal (success (length x.0 ∷ []));
      left =
          unless_refused r (λ k. state) (encode_state x.1) ∷ unless_refused r (λ k. verdicts) (verdicts_of x.0) ∷ work_after_call quota work s ∷ [];
    }
