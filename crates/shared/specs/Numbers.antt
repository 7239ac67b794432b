-- Theorem: the numbers that the shared checker gives are those of the refusals, and 0 where a proof is accepted. So none is 4 (document 02,
-- order 2, "which is no longer given"), no refusal is told as an entry that was taken, and no verdict is 255, which stands under a caller that
-- has none.
-- Assumes nothing.
use Rattle.std.specs.Prelude.{◌≡◌, List, ◌≢◌, ◌⊎◌, ℕ}
use Rattle.std.proofs.Math.Option.{some}
use Rattle.refusal.specs.declared.Refusal.{Refusal}
use Rattle.refusal.specs.Refusal.{number_of}
use Rattle.schedule.specs.Schedule.{State}
use Rattle.schedule.specs.Alone.{verdict_in}
use Rattle.shared.specs.declared.Places.{Places}
use Rattle.shared.specs.declared.Job.{Job}
use Rattle.shared.specs.Operations.{enter_refusal, call_refusal, called}

-- the number of a refusal
pub record IsRefusal (k : ℕ) : Type 0 where
  pub which : Refusal
  pub same : number_of which ≡ k

-- from any state: of an entry, of a call, and of a verdict in a call
pub record SharedNumbers : Type 0 where
  pub entry : (c : ℕ) (p : Places) (buffer work : List ℕ) (s : State Job) (k : ℕ) → enter_refusal c p buffer work s ≡ some k → IsRefusal k
  pub call : (quota : ℕ) (work : List ℕ) (s : State Job) (k : ℕ) → call_refusal quota work s ≡ some k → IsRefusal k
  pub verdict : (quota : ℕ) (buffer work : List ℕ) (s : State Job) (c v : ℕ) → verdict_in c (called quota buffer work s).0 ≡ some v
      → (v ≡ 0) ⊎ IsRefusal v
  pub not_0 : (k : ℕ) → IsRefusal k → k ≢ 0
  pub no_four : (k : ℕ) → IsRefusal k → k ≢ 4
  pub no_255 : (quota : ℕ) (buffer work : List ℕ) (s : State Job) (c : ℕ) → verdict_in c (called quota buffer work s).0 ≢ some 255
