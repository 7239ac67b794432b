-- `derivation::committing::take_first` meets its contract. The loop's invariant: the commitments of the first i parties are taken in.
-- Assumes nothing.
use native.Mathlib.Omega.{arith}
use mathlib.Core.Path.{refl, sym, ◌∙◌}
use mathlib.Core.List.{[]}
use Prim.Native.Nat.{◌-◌}
use Rattle.derivation.specs.Steps.{commitment_but}
use Rattle.derivation.proofs.Together.{four-there, none_is}
use Rattle.derivation.proofs.Committed.{coms-none, coms-room, coms-more, coms-turn, coms-own, taken-all}
use Rattle.derivation.proofs.committing.take_first.Goals as goal

pub start_commitments-s-requires : goal.start_commitments-s-requires
start_commitments-s-requires c = tt

pub loop-i-init : goal.loop-i-init
loop-i-init c =
    let x = c.args in
    (omega arith, coms-none x.j.number (commitment_but x.j x.n x.p x.theirs.now x.seeds.now []) _ c.start_commitments-s.ensures)

pub four_without-requires : goal.four_without-requires
four_without-requires c = omega (arith, c.requires.1.0, c.loop-i-test.true)

pub take_four-s-requires : goal.take_four-s-requires
take_four-s-requires c =
    let o = c in
    let x = o.args in
    let l = c.loop-i in
    let there = four-there l.i (x.n - 1) x.p (sym c.four_without.ensures ∙ c.if-four_without.true) in (
      coms-room x.j.number l.i (commitment_but x.j x.n x.p x.theirs.now x.seeds.now []) l.s l.invariant.1,
      (omega (arith, there, o.requires.1.0), omega (arith, there, o.requires.1.1)),
    )

pub loop-i-smaller-then-four_without : goal.loop-i-smaller-then-four_without
loop-i-smaller-then-four_without c =
    omega (arith, four-there c.loop-i.i (c.args.n - 1) c.args.p (sym c.four_without.ensures ∙ c.if-four_without.true))

pub loop-i-preserved-then-four_without : goal.loop-i-preserved-then-four_without
loop-i-preserved-then-four_without c =
    let o = c in
    let x = o.args in
    let l = c.loop-i in
    let four = sym c.four_without.ensures ∙ c.if-four_without.true in
    let there = four-there l.i (x.n - 1) x.p four in (
      there,
      coms-more x.j.number l.i (commitment_but x.j x.n x.p x.theirs.now x.seeds.now []) l.s l.invariant.1 4 _ _
          (coms-own x.j x.n x.p x.theirs.now x.seeds.now [] l.i (none_is l.i (x.n - 1) x.p four))
          (c.take_four-s.ensures x.n [] (omega (arith, there, o.requires.0))),
    )

pub slice_bounds-take_one-end : goal.slice_bounds-take_one-end
slice_bounds-take_one-end c = refl

pub take_one-s-requires : goal.take_one-s-requires
take_one-s-requires c =
    let o = c in
    let x = o.args in
    let l = c.loop-i in
    (coms-room x.j.number l.i (commitment_but x.j x.n x.p x.theirs.now x.seeds.now []) l.s l.invariant.1, (omega (arith, c.loop-i-test.true), (o.requires.1.0, o.requires.1.1)))

pub loop-i-smaller : goal.loop-i-smaller
loop-i-smaller c = omega (arith, c.loop-i-test.true)

pub loop-i-preserved : goal.loop-i-preserved
loop-i-preserved c =
    let x = c.args in
    let l = c.loop-i in
    (omega (arith, c.loop-i-test.true), coms-turn x.j.number l.i (commitment_but x.j x.n x.p x.theirs.now x.seeds.now []) l.s l.invariant.1 _ _ refl c.take_one-s.ensures)

pub returns : goal.returns
returns c =
    let x = c.args in
    let l = c.loop-i in
    taken-all x.j.number l.i (x.n - 1) (commitment_but x.j x.n x.p x.theirs.now x.seeds.now []) l.s l.invariant.1 (omega arith)
