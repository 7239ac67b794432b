-- `cover::height` meets its contract: the height is the logarithm of the least power of two that is at least M.
-- Assumes nothing.
use Rattle.cover.proofs.Least.{height-log}
use Rattle.cover.proofs.height.Goals as goal

pub returns : goal.returns
returns c =
    let p = c.next_power_of_two.ensures in
    let l = c.ilog2.ensures in
    height-log c.args.m c.next_power_of_two.result c.ilog2.result p.power p.lower_bound p.upper_bound l.power_le l.next_power_gt
