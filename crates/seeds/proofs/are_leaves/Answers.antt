-- `seeds::are_leaves` meets its contract: none of the first k leaves is at or above m.
-- Assumes nothing.
use Rattle.seeds.proofs.Leaves.{leaf-is, below_none, below_more, below_all, leaf-above}
use native.Mathlib.Omega.{arith}
use Rattle.seeds.proofs.are_leaves.Goals as goal

pub loop-k-init : goal.loop-k-init
loop-k-init c = below_none _ _

pub returns-then-leaf-m : goal.returns-then-leaf-m
returns-then-leaf-m c = let x = c.args in leaf-above x.m x.list.now c.loop-k.k (omega arith) (omega (arith, leaf-is x.list.now c.loop-k.k _ c.read_u16-leaf.ensures, c.if-leaf-m.true))

pub loop-k-preserved : goal.loop-k-preserved
loop-k-preserved c =
    let x = c.args in
    let l = c.loop-k in
    below_more x.m x.list.now l.k (omega (arith, leaf-is x.list.now l.k _ c.read_u16-leaf.ensures, c.if-leaf-m.false)) l.invariant

pub returns : goal.returns
returns c = let l = c.loop-k in below_all c.args.m c.args.list.now l.k (omega arith) l.invariant
