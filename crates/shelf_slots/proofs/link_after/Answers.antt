-- `shelf_slots::link_after` meets its contract.
-- Assumes nothing.
use borrow.Author.Tests.{eq-eqb, ne_eqb}
use Rattle.shelf_slots.specs.Steps.{link_after}
use Rattle.shelf_slots.proofs.link_after.Goals as goal

pub returns-then-before-eq0 : goal.returns-then-before-eq0
unfolding link_after
returns-then-before-eq0 c = rw (eq-eqb _ 0 c.if-before-eq0.true)

pub returns-else-before-eq0 : goal.returns-else-before-eq0
unfolding link_after
returns-else-before-eq0 c = rw (ne_eqb _ 0 c.if-before-eq0.false) c.slot_at.ensures
