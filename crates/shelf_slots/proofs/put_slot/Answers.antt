-- `shelf_slots::put_slot` meets its contract: the next slot, then the root.
-- Assumes nothing.
use Rattle.shelf_slots.specs.Slots.{put_slot}
use Rattle.shelf_slots.proofs.put_slot.Goals as goal

pub returns : goal.returns
unfolding put_slot
returns c = cc
