-- `circuit::records::record_with` meets its contract: the kind as the code reads it picks the gate.
-- Assumes nothing.
use mathlib.Core.Path.{◌≡◌, ◌∙◌, sym}
use Prim.Native.Nat.{ℕ, ◌+◌, ◌-◌, ◌*◌}
use native.Mathlib.Omega.{arith}
use borrow.Author.Tests.{eq-eqb, ne_eqb}
use Rattle.circuit.specs.Fields.{Fields, field, outputs_of, kind_of}
use Rattle.circuit.specs.FieldSteps.{record_of, gate_of}
use Rattle.circuit.proofs.Slots.{fits, at-few}
use Rattle.circuit.proofs.records.record_with.Goals as goal

-- a field of the record as the code finds it
place : (x : Fields) (o k i r : ℕ) → o ≡ outputs_of x → r ≡ x (4 + o + 4 * (k - 1) + i) → r ≡ x (4 + outputs_of x + 4 * (k - 1) + i)
place x o k i r e h = rw e at h

kind-place : (x : Fields) (o k r : ℕ) → o ≡ outputs_of x → r ≡ x (4 + o + 4 * (k - 1)) → r ≡ kind_of x k
kind-place x o k r e h = rw e at h

pub overflow_add-at : goal.overflow_add-at
overflow_add-at c = omega (arith, at-few _ _ _ _ c.requires)

pub overflow_sub-at : goal.overflow_sub-at
overflow_sub-at c = c.requires.first

pub overflow_mul-at : goal.overflow_mul-at
overflow_mul-at c = omega (arith, at-few _ _ _ _ c.requires)

pub overflow_add-at-2 : goal.overflow_add-at-2
overflow_add-at-2 c = omega (arith, at-few _ _ _ _ c.requires)

pub field-kind-requires : goal.field-kind-requires
field-kind-requires c = let p = c.requires in (p.known, fits _ _ _ _ (omega arith) p.room)

pub overflow_add-at-3 : goal.overflow_add-at-3
overflow_add-at-3 c = omega (arith, at-few _ _ _ _ c.requires)

pub field-a-requires : goal.field-a-requires
field-a-requires c = let p = c.requires in (p.known, fits _ _ _ _ (omega arith) p.room)

pub overflow_add-at-4 : goal.overflow_add-at-4
overflow_add-at-4 c = omega (arith, at-few _ _ _ _ c.requires)

pub field-b-requires : goal.field-b-requires
field-b-requires c = let p = c.requires in (p.known, fits _ _ _ _ (omega arith) p.room)

pub overflow_add-at-5 : goal.overflow_add-at-5
overflow_add-at-5 c = omega (arith, at-few _ _ _ _ c.requires)

pub field-next-requires : goal.field-next-requires
field-next-requires c = let p = c.requires in (p.known, fits _ _ _ _ (omega arith) p.room)

pub returns-then-kind-eq1 : goal.returns-then-kind-eq1
unfolding record_of gate_of
returns-then-kind-eq1 c =
    let p = c.requires in
    let v = c.args in
    let x = field v.bytes v.s.now in
    let kind = kind-place x v.outputs v.slot _ p.outputs c.field-kind.ensures in
    let a = place x v.outputs v.slot 1 _ p.outputs c.field-a.ensures in
    let b = place x v.outputs v.slot 2 _ p.outputs c.field-b.ensures in
    let next = place x v.outputs v.slot 3 _ p.outputs c.field-next.ensures in
    simp (eq-eqb _ _ (sym kind ∙ c.if-kind-eq1.true)) (cc)

pub returns-then-kind-eq2 : goal.returns-then-kind-eq2
unfolding record_of gate_of
returns-then-kind-eq2 c =
    let p = c.requires in
    let v = c.args in
    let x = field v.bytes v.s.now in
    let kind = kind-place x v.outputs v.slot _ p.outputs c.field-kind.ensures in
    let a = place x v.outputs v.slot 1 _ p.outputs c.field-a.ensures in
    let b = place x v.outputs v.slot 2 _ p.outputs c.field-b.ensures in
    let next = place x v.outputs v.slot 3 _ p.outputs c.field-next.ensures in
    simp (ne_eqb _ _ (λ e. c.if-kind-eq1.false (kind ∙ e)), eq-eqb _ _ (sym kind ∙ c.if-kind-eq2.true)) (cc)

pub returns : goal.returns
unfolding record_of gate_of
returns c =
    let p = c.requires in
    let v = c.args in
    let x = field v.bytes v.s.now in
    let kind = kind-place x v.outputs v.slot _ p.outputs c.field-kind.ensures in
    let a = place x v.outputs v.slot 1 _ p.outputs c.field-a.ensures in
    let next = place x v.outputs v.slot 3 _ p.outputs c.field-next.ensures in
    simp (ne_eqb _ _ (λ e. c.if-kind-eq1.false (kind ∙ e)), ne_eqb _ _ (λ e. c.if-kind-eq2.false (kind ∙ e))) (cc)
