-- `shelf_slots::put_root` meets its contract: the part of the page is stored.
-- Assumes nothing.
use Rattle.bits.proofs.Copies.{part-stored}
use Rattle.shelf_slots.proofs.put_root.Goals as goal

pub returns : goal.returns
returns c =
    let x = c.args in
    part-stored x.page.now c.copy_from_slice.new.self x.root.now x.at 16 c.requires.0 c.requires.1 c.copy_from_slice.ensures.after
