-- The numbers that reading answers are small, and so are the slots.
-- Assumes nothing.
use mathlib.Core.Path.{◌≡◌, refl, ap, ◌∙◌}
use mathlib.Core.Logic.{⊎_elim}
use mathlib.Core.List.{List, [], ◌∷◌}
use Prim.Native.Nat.{ℕ, ◌≤◌, ◌<◌, ◌^◌}
use native.Mathlib.Omega.{arith}
use lib.ListN.{length, get_or}
use Rattle.bits.proofs.Numbers.{lt-or-le}
use Rattle.circuit.specs.FieldSteps.{limits}
use Rattle.refusal.specs.Outcome.{Answer, refusal_at, success}
use Rattle.circuit.specs.Circuit.{Gate, xor, and, inv, ands}
use Rattle.circuit.specs.Fields as fields
use Rattle.circuit.specs.File.{max_gates, fields_of, inputs_of, outputs_of, gates_of, gates_in_order, refused, read_circuit}
use Rattle.circuit.specs.Steps.{link_of}
use Rattle.circuit.specs.Operations.{read_op}
use Rattle.circuit.specs.Answers.{read_paper}
use Rattle.circuit.specs.declared.Sizes.{Sizes}
use Rattle.circuit.specs.declared.Fault.{Fault}
use Rattle.std.specs.Prelude.{Ok, Err}
use Rattle.refusal.specs.declared.Refusal.{Refusal}
use Rattle.circuit.proofs.Walking.{fault-low}
use Rattle.circuit.proofs.Faults.{read-fault}
use Rattle.circuit.proofs.Answered.{refusal-refused, gates-count, read-success, success-passed}
use Rattle.circuit.proofs.Readings.{header, limits-few}

-- the AND gates are some of the gates
ands-le : (gs : List Gate) → ands gs ≤ length gs
unfolding ands
ands-le [] = omega arith
ands-le (xor a b c ∷ gs) = omega (arith, ands-le gs)
ands-le (and a b c ∷ gs) = omega (arith, ands-le gs)
ands-le (inv a c ∷ gs) = omega (arith, ands-le gs)

-- value k of a success
abbrev value_at : ℕ → Answer → ℕ
value_at k (refusal_at n x) = 0
value_at k (success vs) = get_or vs k 0

-- what reading answers fits 32 bits
pub read_small : (s : List ℕ) (z : Sizes) → read_paper (Ok z) ≡ read_op s
    → (z.inputs < 2 ^ 32) × ((z.outputs < 2 ^ 32) × ((z.gates < 2 ^ 32) × (z.ands < 2 ^ 32)))
read_small s z e =
    let p = success-passed s _ e in
    let f = e ∙ read-success s p in
    let l = limits-few max_gates (inputs_of s) (outputs_of s) (gates_of s) (header max_gates (fields_of s) _ _ _ (limits max_gates (inputs_of s) (outputs_of s) (gates_of s)) refl refl refl refl ∙ p.front.limited) in
    let i : z.inputs ≡ inputs_of s = ap (value_at 0) f in
    let o : z.outputs ≡ outputs_of s = ap (value_at 1) f in
    let g : z.gates ≡ gates_of s = ap (value_at 2) f in
    let a : z.ands ≡ ands (gates_in_order s) = ap (value_at 3) f in
    let b = ands-le (gates_in_order s) in
    let n = gates-count s in
    (omega arith, (omega arith, (omega arith, omega arith)))

-- the slot of a refused reading is at most the largest G
slot-few : (s : List ℕ) (k x : ℕ) → read_circuit s ≡ refused k x → x ≤ max_gates
unfolding fields.chain_walk
slot-few s k x e =
    ⊎_elim
    (λ (l : k < 19). omega (arith, read-fault.slotless s k x l e))
    (λ (l : 19 ≤ k). let p = (read-fault.chain s k x l).0 e in
    let m = limits-few max_gates (inputs_of s) (outputs_of s) (gates_of s) (header max_gates (fields_of s) _ _ _ (limits max_gates (inputs_of s) (outputs_of s) (gates_of s)) refl refl refl refl ∙ p.0.limited) in
    omega (arith, fault-low (gates_of s) (link_of s) k x p.1, m.1.1))
    (lt-or-le k 19)

-- so it fits 32 bits
pub slot_small : (s : List ℕ) (f : Fault) → read_paper (Err f) ≡ read_op s → f.slot < 2 ^ 32
slot_small s f e = omega (arith, slot-few s _ f.slot (refusal-refused s _ f.slot e))
