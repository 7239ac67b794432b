-- `stepping::masters::child` meets its contract.
-- Assumes nothing.
use mathlib.Core.Path.{refl, sym, ap, ◌∙◌}
use native.Mathlib.Omega.{arith}
use Prim.Native.Nat.{◌%◌}
use lib.ListN.{length}
use Rattle.bits.proofs.Rows.{row-length}
use Rattle.stepping.proofs.Paths.{child-row}
use Rattle.stepping.proofs.masters.child.Goals as goal

pub overflow_cast-x : goal.overflow_cast-x
overflow_cast-x c = omega (arith, c.requires)

pub children-requires : goal.children-requires
children-requires c = refl

pub copy_from_slice-requires : goal.copy_from_slice-requires
copy_from_slice-requires c =
    sym (ap length c.row.ensures ∙ row-length c.children.new.out 16 (c.args.x % 2) (omega (arith, c.children.auto.out)))

pub returns : goal.returns
returns c = c.copy_from_slice.ensures.after ∙ (c.row.ensures ∙ child-row c.args.tree c.args.x _ _ c.children.ensures)
