-- `instance::sending::put` meets its contract.
-- Assumes nothing.
use mathlib.Core.Path.{refl}
use native.Mathlib.Omega.{arith}
use Rattle.instance.proofs.Laid.{put-part, put-made}
use Rattle.instance.proofs.sending.put.Goals as goal

pub overflow_add-to : goal.overflow_add-to
overflow_add-to c = omega (arith, c.requires)

pub slice_bounds-copy-end : goal.slice_bounds-copy-end
slice_bounds-copy-end c = c.requires

pub copy-requires : goal.copy-requires
copy-requires c = let x = c.args in put-part x.at x.from.now x.part.now c.requires

pub returns : goal.returns
returns c = let x = c.args in record {
  value = refl;
  part_after = put-made x.at x.from.now x.part.now c.requires _ c.copy.ensures;
}
