-- The theorem that the bytes keep the state.
-- Assumes nothing.
use mathlib.Core.Path.{◌≡◌, refl, sym, ap, ◌∙◌, subst}
use mathlib.Core.List.{List, [], ◌∷◌}
use mathlib.Core.Option.{Option, none, some}
use Prim.Native.Nat.{ℕ}
use Rattle.schedule.specs.Schedule.{State, Service, empty, serve}
use Rattle.schedule.specs.History.{after_entry}
use Rattle.shared.specs.declared.Job.{Job}
use Rattle.shared.specs.Service.{unless_refused, service_at, job_at}
use Rattle.shared.specs.Operations.{enter_refusal, entered, call_refusal, called, Lent, enter, call, state_after}
use Rattle.state_bytes.specs.Bytes.{decode_state, encode_state}
use Rattle.shared_bytes.specs.Operations.{start_op, places_of, enter_op, call_op}
use Rattle.shared_bytes.specs.Theorem.{StateFits, LentFits, state_left, numbers_of, bytes_after, BytesKeepState}
use Rattle.shared_bytes.proofs.Back.{state-back, state-long}
use Rattle.shared_bytes.proofs.Fits.{decoded-fits, empty-state-fits, entered-fits, called-fits}

-- the bytes that an entry leaves are those of the state after it
entry-left : (o : Option ℕ) (b : List ℕ) (t : State Job) → StateFits (unless_refused o (λ (k : ℕ). decode_state b) t)
    → decode_state (unless_refused o (λ (k : ℕ). b) (encode_state (unless_refused o (λ (k : ℕ). decode_state b) t))) ≡ unless_refused o (λ (k : ℕ). decode_state b) t
entry-left none b t f = state-back t f
entry-left (some k) b t f = refl

-- and so of a call
call-left : (o : Option ℕ) (b : List ℕ) (x : List (Service ℕ) × State Job)
    → StateFits (unless_refused {A = List (Service ℕ) × State Job} o (λ (k : ℕ). ([], decode_state b)) x).1
    → decode_state (unless_refused o (λ (k : ℕ). b) (encode_state (unless_refused {A = List (Service ℕ) × State Job} o (λ (k : ℕ). ([], decode_state b)) x).1))
    ≡ (unless_refused {A = List (Service ℕ) × State Job} o (λ (k : ℕ). ([], decode_state b)) x).1
call-left none b x f = state-back x.1 f
call-left (some k) b x f = refl

follows-from : (events : List Lent) (b : List ℕ) → StateFits (decode_state b) → LentFits events
    → decode_state (bytes_after b events) ≡ state_after (decode_state b) events
unfolding bytes_after state_after LentFits enter_op call_op entered called places_of
follows-from [] b f l = refl
follows-from (enter c p buffer work ∷ events) b f l =
    let s : State Job = decode_state b in
    let t : State Job = entered c p buffer work s in
    let fits : StateFits t = entered-fits c p buffer work s l.0 f in
    let e : decode_state (state_left (enter_op b c (numbers_of p) buffer work)) ≡ t = entry-left (enter_refusal c p buffer work s) b (after_entry 16 c (job_at p) s) fits in
    follows-from events (state_left (enter_op b c (numbers_of p) buffer work)) (subst StateFits (sym e) fits) l.1
    ∙ ap (λ (z : State Job). state_after z events) e
follows-from (call quota buffer work ∷ events) b f l =
    let s : State Job = decode_state b in
    let t : State Job = (called quota buffer work s).1 in
    let fits : StateFits t = called-fits buffer l.0 quota work s f in
    let e : decode_state (state_left (call_op b quota buffer [] work)) ≡ t = call-left (call_refusal quota work s) b (serve 16 (λ c. service_at buffer) quota s) fits in
    follows-from events (state_left (call_op b quota buffer [] work)) (subst StateFits (sym e) fits) l.1
    ∙ ap (λ (z : State Job). state_after z events) e

follows-empty : (events : List Lent) → LentFits events → decode_state (bytes_after (state_left start_op) events) ≡ state_after empty events
unfolding start_op
follows-empty events l =
    let e : decode_state (encode_state empty) ≡ empty = state-back empty empty-state-fits in
    follows-from events (encode_state empty) (subst StateFits (sym e) empty-state-fits) l ∙ ap (λ (z : State Job). state_after z events) e

pub bytes-keep-state : BytesKeepState
bytes-keep-state = record { back = state-back; long = state-long; total = decoded-fits; follows = follows-empty }
