-- `legality::good_record` meets its contract.
-- Assumes nothing.
use native.Mathlib.Omega.{arith}
use Rattle.std.proofs.lemmas.Bool.Decides.{nat_tests}
use Rattle.circuit.specs.Fields.{good_record}
use Rattle.circuit.proofs.Slots.{fits, at-few}
use Rattle.legality.proofs.good_record.Goals as goal

pub overflow_add-at : goal.overflow_add-at
overflow_add-at c = omega (arith, at-few _ _ _ _ c.requires)

pub overflow_sub-at : goal.overflow_sub-at
overflow_sub-at c = c.requires.first

pub overflow_mul-at : goal.overflow_mul-at
overflow_mul-at c = omega (arith, at-few _ _ _ _ c.requires)

pub overflow_add-at-2 : goal.overflow_add-at-2
overflow_add-at-2 c = omega (arith, at-few _ _ _ _ c.requires)

pub field-kind-requires : goal.field-kind-requires
field-kind-requires c = let p = c.requires in (p.known, fits _ _ _ _ (omega arith) p.room)

pub overflow_add-at-3 : goal.overflow_add-at-3
overflow_add-at-3 c = omega (arith, at-few _ _ _ _ c.requires)

pub field-b-requires : goal.field-b-requires
field-b-requires c = let p = c.requires in (p.known, fits _ _ _ _ (omega arith) p.room)

pub returns-then-kind-eq2 : goal.returns-then-kind-eq2
unfolding good_record
returns-then-kind-eq2 c = grind (arith, nat_tests)

pub returns-then-kind-eq3 : goal.returns-then-kind-eq3
unfolding good_record
returns-then-kind-eq3 c = grind (arith, nat_tests)

pub returns-else-kind-eq3 : goal.returns-else-kind-eq3
unfolding good_record
returns-else-kind-eq3 c = grind (arith, nat_tests)
