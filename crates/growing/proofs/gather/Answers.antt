-- `growing::gather` meets its contract: the rows of the opened nodes below k stand one after the other.
-- Assumes nothing.
use Rattle.bits.proofs.Rows.{row-length}
use borrow.Rule.Slice.PartMut.{mid_len}
use Rattle.growing.proofs.Writing.{written_none, room, turn_more, turn-skip, written_all}
use native.Mathlib.Omega.{arith}
use mathlib.Core.Path.{refl, sym, ap, ◌∙◌}
use Prim.Native.Nat.{◌+◌}
use lib.ListN.{length}
use Rattle.growing.proofs.gather.Goals as goal
use Rattle.growing.proofs.gather.Goals.{then-is_opened, else-is_opened}

pub loop-k-init : goal.loop-k-init
loop-k-init c = (refl, written_none _ _ _)

pub overflow_add-at : goal.overflow_add-at
overflow_add-at c = omega (arith, room _ _ (length c.args.marks.now) c.loop-k.k c.loop-k.at c.loop-k.out c.loop-k.invariant.1 c.loop-k-test.true (sym c.is_opened.ensures ∙ c.if-is_opened.true) (c.loop-k.invariant.0 ∙ c.requires.1))

pub row-requires : goal.row-requires
row-requires c = tt

pub slice_bounds-copy-end : goal.slice_bounds-copy-end
slice_bounds-copy-end c = room _ _ (length c.args.marks.now) c.loop-k.k c.loop-k.at c.loop-k.out c.loop-k.invariant.1 c.loop-k-test.true (sym c.is_opened.ensures ∙ c.if-is_opened.true) (c.loop-k.invariant.0 ∙ c.requires.1)

pub copy-requires : goal.copy-requires
copy-requires c =
    let x = c.args in
    let l = c.loop-k in
    mid_len l.at (l.at + 16) l.out (room _ _ (length x.marks.now) l.k l.at l.out l.invariant.1 c.loop-k-test.true (sym c.is_opened.ensures ∙ c.if-is_opened.true) (l.invariant.0 ∙ c.requires.1))
    ∙ omega arith
    ∙ sym (ap length c.row.ensures ∙ row-length x.nodes.now 16 l.k (omega (arith, c.requires.0, c.loop-k-test.true)))

pub loop-k-preserved : goal.loop-k-preserved
loop-k-preserved c =
    let l = c.loop-k in
    let x = c.args in
    elim c.if-is_opened.branch [
      | then-is_opened w ↦
          let o = sym c.is_opened.ensures ∙ w.if-is_opened.true in
          let r = room _ _ (length x.marks.now) l.k l.at l.out l.invariant.1 c.loop-k-test.true o (l.invariant.0 ∙ c.requires.1) in
          turn_more _ _ _ l.k l.at _ l.out _ l.invariant.1 l.invariant.0 _ o r w.copy.auto.to (w.copy.ensures ∙ w.row.ensures) w.out-is w.at-is
      | else-is_opened w ↦ turn-skip _ _ _ l.k l.at _ l.out _ l.invariant.1 l.invariant.0 (sym c.is_opened.ensures ∙ w.if-is_opened.false) w.out-is w.at-is
    ]

pub returns : goal.returns
returns c = let l = c.loop-k in written_all _ _ (length c.args.marks.now) l.k l.at l.out l.invariant.1 (omega arith) (omega arith) (l.invariant.0 ∙ c.requires.1)
