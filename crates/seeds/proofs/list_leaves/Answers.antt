-- `seeds::list_leaves` meets its contract: the table holds the first k leaves.
-- Assumes nothing.
use Rattle.seeds.proofs.Leaves.{leaf-is, leaf-below, listed-none, listed_more, listed-all}
use native.Mathlib.Omega.{arith}
use mathlib.Core.Path.{refl, ◌∙◌}
use Prim.Native.Nat.{◌<◌}
use lib.ListN.{length, length-set}
use Rattle.seeds.proofs.list_leaves.Goals as goal

pub clear-requires : goal.clear-requires
clear-requires c = tt

pub loop-k-init : goal.loop-k-init
loop-k-init c = (refl, listed-none c.args.list.now _ (length c.args.table.now) c.clear.ensures)

pub bounds-table-leaf : goal.bounds-table-leaf
bounds-table-leaf c =
    let x = c.args in
    let l = c.loop-k in
    omega (arith, leaf-is x.list.now l.k _ c.read_u16-leaf.ensures, leaf-below x.m x.list.now l.k c.requires.0 (omega arith), l.invariant.0, c.clear.auto.s, c.requires.1)

pub loop-k-preserved : goal.loop-k-preserved
loop-k-preserved c =
    let x = c.args in
    let l = c.loop-k in
    let e = leaf-is x.list.now l.k _ c.read_u16-leaf.ensures in
    let w : c.read_u16-leaf.result < length l.table =
    omega (arith, e, leaf-below x.m x.list.now l.k c.requires.0 (omega arith), l.invariant.0, c.clear.auto.s, c.requires.1) in
    (length-set l.table _ _ ∙ l.invariant.0, listed_more x.list.now l.k _ l.table e w l.invariant.1)

pub returns : goal.returns
returns c = let l = c.loop-k in listed-all c.args.list.now l.k _ l.table (omega arith) (l.invariant.0 ∙ c.clear.auto.s) l.invariant.1
