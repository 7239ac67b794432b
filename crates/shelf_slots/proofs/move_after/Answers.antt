-- `shelf_slots::move_after` meets its contract: the slot, then the two links.
-- Assumes nothing.
use native.Mathlib.Omega.{arith}
use lib.ListN.{length}
use Rattle.shelf_slots.specs.Steps.{moved_after}
use Rattle.shelf_slots.proofs.Links.{link-room}
use Rattle.shelf_slots.proofs.move_after.Goals as goal

pub read_u16-after-requires : goal.read_u16-after-requires
read_u16-after-requires c =
    let b = c in
    omega (arith, c.link_after-link.ensures, link-room b.args.before (length b.args.page.now) b.requires.0)

pub write_u16-requires-2 : goal.write_u16-requires-2
write_u16-requires-2 c =
    let b = c in
    omega (arith, c.link_after-link.ensures, c.write_u16.auto.s, c.put_slot.auto.page, link-room b.args.before (length b.args.page.now) b.requires.0)

pub returns : goal.returns
unfolding moved_after
returns c = cc
