-- `growing::follow` meets its contract: the row of node k, and the part of nodes 2k and 2k + 1.
-- Assumes nothing.
use Rattle.bits.proofs.Rows.{row-length}
use Rattle.cover.specs.Steps.{put_row, follow_of}
use Rattle.growing.proofs.Growing.{row_put}
use native.Mathlib.Omega.{arith}
use mathlib.Core.Path.{refl, sym, ap, ◌∙◌}
use mathlib.Core.List.{List, ◌++◌}
use lib.ListN.{length}
use Prim.Native.Nat.{ℕ, ◌*◌, ◌+◌}
use Rattle.growing.proofs.follow.Goals as goal

pub copy-requires : goal.copy-requires
copy-requires c = sym (ap length c.row.ensures ∙ row-length c.args.nodes.now 16 c.args.k (omega (arith, c.requires.1.1.1)))

pub returns : goal.returns
returns c =
    let x = c.args in
    let f = follow_of x.j x.marks.now x.values.now in (
      c.follow_pair.ensures.0,
      row_put 32 x.k (x.k * 32) (x.k * 32 + 32) refl refl x.nodes.now _
          ∙ ap (put_row 32 x.nodes.now x.k) (c.follow_pair.ensures.1 ∙ ap (λ (v : List ℕ). f (2 * x.k) v ++ f (2 * x.k + 1) v) (c.copy.ensures ∙ c.row.ensures)),
    )
