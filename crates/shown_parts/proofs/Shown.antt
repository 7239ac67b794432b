-- The bits that a cut shows.
-- Assumes nothing.
use mathlib.Core.Path.{◌≡◌, refl, sym, ap, ap₂, ◌∙◌}
use mathlib.Core.Bool.{Bool, true, false, cond}
use mathlib.Core.List.{List, [], ◌∷◌}
use Prim.Native.Nat.{ℕ, zero, suc, ◌+◌, ◌≤◌, ◌<◌}
use native.Mathlib.Omega.{arith}
use borrow.Author.Tests.{lt-ltb, le-ltb}
use lib.Dec.{ltb}
use lib.ListN.{length, take}
use Rattle.bits.specs.Bits.{tabulate}
use Rattle.bits.proofs.Tabulate.{length-tabulate}
use Rattle.circuit.specs.Circuit.{ands, Gate, xor, and, inv}
use Rattle.circuit.specs.Fields as fields
use Rattle.circuit.specs.FieldSteps as steps
use Rattle.circuit.specs.File.{outputs_of, gates_of, head_of, output_wire, next_of, gates_in_order, circuit_of}
use Rattle.circuit.specs.Steps.{gates_from, Chained, walks, gate_at}
use Rattle.circuit.proofs.Answered.{gates-count}
use Rattle.circuit.proofs.Run.{good_chain-walks, gates-order}
use Rattle.plain.specs.Showing.{shown_bits}
use Rattle.mpc.specs.Steps.{Known}
use Rattle.mpc.proofs.Opened.{sized}

-- the first k gates of the chain
take-gates : (s : List ℕ) (k g h : ℕ) → k ≤ g → take k (gates_from s g h) ≡ gates_from s k h
unfolding steps.gates_from fields.chain_from
take-gates s zero g h l = refl
take-gates s (suc k) zero h l = absurd (omega arith)
take-gates s (suc k) (suc g) h l = ap (λ (gs : List Gate). gate_at s h ∷ gs) (take-gates s k g (next_of s h) (omega arith))

-- the first gates have at most as many AND gates as all
ands-take : (k : ℕ) (gs : List Gate) → ands (take k gs) ≤ ands gs
unfolding ands
ands-take zero gs = omega arith
ands-take (suc k) [] = omega arith
ands-take (suc k) (xor a b c ∷ gs) = ands-take k gs
ands-take (suc k) (and a b c ∷ gs) = omega (arith, ands-take k gs)
ands-take (suc k) (inv a c ∷ gs) = ands-take k gs

-- the chain of a legal file
pub chained : (s : List ℕ) (i o g a : ℕ) → Known s (sized i o g a) → (h : ℕ) → h ≡ head_of s → Chained s i o g h
chained s i o g a k h p = record { laid = k.legal.laid; chain = ap₂ (walks s) k.legal.laid.gates p ∙ good_chain-walks s k.legal.chain }

-- a legal file, with a cut
module _ (s : List ℕ) (i o g a : ℕ) (f : Known s (sized i o g a)) (k : ℕ) where
  -- below G, the AND gates passed
  pub shown-below : (h r : ℕ) → h ≡ head_of s → k < g → r ≡ ands (gates_from s k h) → r ≡ shown_bits (circuit_of s) k
  unfolding shown_bits fields.circuit_of
  shown-below h r p l e =
      let q : take k (gates_in_order s) ≡ gates_from s k h
      = ap (take k) (sym (gates-order s)) ∙ take-gates s k (gates_of s) (head_of s) (omega (arith, f.legal.laid.gates)) ∙ ap (gates_from s k) (sym p) in
      let t : ltb k (length (gates_in_order s)) ≡ true = lt-ltb k (length (gates_in_order s)) (omega (arith, gates-count s, f.legal.laid.gates)) in
      rw (t, q) e

  -- else all of them, and the outputs
  pub shown-all : g ≤ k → a + o ≡ shown_bits (circuit_of s) k
  unfolding shown_bits fields.circuit_of
  shown-all l =
      let t : ltb k (length (gates_in_order s)) ≡ false = le-ltb k (length (gates_in_order s)) (omega (arith, gates-count s, f.legal.laid.gates)) in
      rw (t, length-tabulate (outputs_of s) (output_wire s)) (ap₂ ◌+◌ f.ands f.legal.laid.outputs)

  -- at most all
  pub shown-few : shown_bits (circuit_of s) k ≤ a + o
  unfolding shown_bits fields.circuit_of
  shown-few = pick (ltb k (length (gates_in_order s)))
    where
      pick : (b : Bool) → cond b (ands (take k (gates_in_order s))) (ands (gates_in_order s) + length (tabulate (outputs_of s) (output_wire s))) ≤ a + o
      pick true = omega (arith, ands-take k (gates_in_order s), f.ands)
      pick false = omega (arith, length-tabulate (outputs_of s) (output_wire s), f.ands, f.legal.laid.outputs)
