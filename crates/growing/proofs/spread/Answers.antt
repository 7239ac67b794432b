-- `growing::spread` meets its contract: the row of node k, and the part of nodes 2k and 2k + 1.
-- Assumes nothing.
use Rattle.bits.proofs.Rows.{row-length}
use Rattle.tree.specs.Tree.{children}
use Rattle.cover.specs.Steps.{put_row}
use Rattle.growing.proofs.Growing.{row_put}
use native.Mathlib.Omega.{arith}
use mathlib.Core.Path.{refl, sym, ap, ◌∙◌}
use lib.ListN.{length}
use Prim.Native.Nat.{◌*◌, ◌+◌}
use Rattle.growing.proofs.spread.Goals as goal

pub copy-requires : goal.copy-requires
copy-requires c = sym (ap length c.row.ensures ∙ row-length c.args.nodes.now 16 c.args.k (omega arith))

pub returns : goal.returns
returns c =
    let x = c.args in
    row_put 32 x.k (x.k * 32) (x.k * 32 + 32) refl refl x.nodes.now _
    ∙ ap (put_row 32 x.nodes.now x.k) (c.children.ensures ∙ ap (children x.j x.k) (c.copy.ensures ∙ c.row.ensures))
