-- What an operation that is lent a work buffer answers and leaves, whatever else it is lent and whatever it does with it.
-- Assumes nothing.
use mathlib.Core.Path.{◌≡◌, sym, ap, ap₂, ◌∙◌}
use mathlib.Core.Bool.{Bool}
use mathlib.Core.List.{List, [], ◌∷◌, ◌++◌}
use Prim.Native.Nat.{ℕ, ◌+◌, ◌*◌, ◌≤◌, ◌<◌}
use native.Mathlib.Omega.{arith}
use borrow.Author.Tests.{le-leb, lt-leb}
use lib.Dec.{leb}
use lib.ListN.{length, take, drop, replicate}
use lib.Seq.{length-take-le}
use Rattle.bits.proofs.Copies.{fill_end}
use Rattle.refusal.specs.Refusal.{number_of}
use Rattle.std.specs.Prelude.{Result, Ok, Err}
use Rattle.refusal.specs.Outcome.{Outcome, refuses, unless}
use Rattle.circuit.specs.Circuit.{Circuit}
use Rattle.circuit.specs.File.{max_inputs, max_gates, circuit_of, Reading, read_circuit}
use Rattle.circuit.specs.Operations.{read_op, leaving, on_legal_work}
use Rattle.circuit.specs.Answers.{read_paper}
use Rattle.circuit.specs.declared.Sizes.{Sizes}
use Rattle.circuit.specs.declared.Fault.{Fault}
use Rattle.mpc.specs.Steps.{Known, memory_bytes}
use Rattle.mpc.proofs.Opened.{opened, opened-refused, opened-legal, circuit-inputs, circuit-gates}

-- the limits of a circuit
pub known-few : (s : List ℕ) (z : Sizes) → Known s z → (z.inputs ≤ max_inputs) × (z.gates ≤ max_gates)
known-few s z k = (k.legal.laid.few_inputs, k.legal.laid.few_gates)

-- a work buffer that passes the test has the bytes that are needed
pub work-long : (need bytes size : ℕ) → need ≡ bytes → need ≤ size → bytes ≤ size
work-long need bytes size e l = omega (arith, e, l)

-- a work buffer m of n bytes whose first k are cleared to z is all zero, where k is n
pub all-cleared : (m z : List ℕ) (k n : ℕ) → z ≡ replicate (length (take k m)) 0 → length m ≡ n → k ≡ n → z ++ drop k m ≡ replicate n 0
all-cleared m z k n e l h =
    ap (λ (x : List ℕ). x ++ drop k m) (e ∙ ap (λ (i : ℕ). replicate i 0) (length-take-le k m (omega (arith, l, h))))
    ∙ fill_end m k (omega (arith, l, h)) (omega (arith, l, h)) ∙ ap (λ (i : ℕ). replicate i 0) l

module _ (s : List ℕ) (lent : List (List ℕ)) (work : List ℕ) (f : Circuit → Outcome) (r : Result Sizes Fault) (e : read_paper r ≡ read_op s) where
  -- the file is refused
  pub work-refused : (k : Fault) → r ≡ Err k → refuses (number_of k.refusal) (lent ++ work ∷ []) ≡ on_legal_work (read_circuit s) lent work f
  work-refused k p = sym (ap (λ (x : Reading). on_legal_work x lent work f) (opened-refused s k r p e))

  module _ (z : Sizes) (p : r ≡ Ok z) (need : ℕ) (q : need ≡ memory_bytes z) where
    -- the test of the work buffer, after the reading
    tested : unless (leb need (length work)) 6 (lent ++ work ∷ []) (leaving (f (circuit_of s)) (replicate (length work) 0)) ≡ on_legal_work (read_circuit s) lent work f
    tested =
        let k : Known s z = opened s z r p e in
        let w : need ≡ 64 * ((circuit_of s).inputs + length (circuit_of s).gates) + 4096
        = q ∙ ap₂ (λ (i g : ℕ). 64 * (i + g) + 4096) (sym (circuit-inputs s _ _ _ _ k)) (sym (circuit-gates s _ _ _ _ k)) in
        ap (λ (x : ℕ). unless (leb x (length work)) 6 (lent ++ work ∷ []) (leaving (f (circuit_of s)) (replicate (length work) 0))) w
        ∙ sym (ap (λ (x : Reading). on_legal_work x lent work f) (opened-legal s z r p e))

    -- the work buffer is too short
    pub work-short : length work < need → refuses 6 (lent ++ work ∷ []) ≡ on_legal_work (read_circuit s) lent work f
    work-short l = sym (ap (λ (b : Bool). unless b 6 (lent ++ work ∷ []) (leaving (f (circuit_of s)) (replicate (length work) 0))) (lt-leb need (length work) l)) ∙ tested

    -- it is long enough, and is left all zero
    pub work-left : need ≤ length work → (x : Outcome) → x ≡ f (circuit_of s) → (w : List ℕ) → w ≡ replicate (length work) 0
        → leaving x w ≡ on_legal_work (read_circuit s) lent work f
    work-left l x t w u =
        ap₂ leaving t u
        ∙ sym (ap (λ (b : Bool). unless b 6 (lent ++ work ∷ []) (leaving (f (circuit_of s)) (replicate (length work) 0))) (le-leb need (length work) l))
        ∙ tested
