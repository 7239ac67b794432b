-- `shelf_slots::put_heads` meets its contract: one head, then the other.
-- Assumes nothing.
use Rattle.shelf_slots.specs.Slots.{put_heads}
use Rattle.shelf_slots.proofs.put_heads.Goals as goal

pub returns : goal.returns
unfolding put_heads
returns c = cc
