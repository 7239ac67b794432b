-- `four::round4` meets its contract. The invariant: the round is done on the first k states.
-- Assumes nothing.
use native.Mathlib.Omega.{arith}
use mathlib.Core.Path.{◌≡◌, ap, ◌∙◌}
use Prim.Native.Nat.{ℕ, ◌<◌}
use Rattle.four.specs.Steps.{state_of, rounded_by}
use Rattle.four.proofs.States.{each_below, below_none, below-turn, below-state, below_all, rounded-is}
use Rattle.four.proofs.round4.Invariants.{rnd}
use Rattle.four.proofs.round4.Goals as goal

pub loop-k-init : goal.loop-k-init
loop-k-init c = below_none _ _

pub loop-k-preserved : goal.loop-k-preserved
loop-k-preserved c =
    let parted = c in
    let taken = parted in
    let l = taken.loop-k in
    let less : l.k < 4 = omega arith in
    let given = taken in
    let x = given.args in
    let size = given.requires.1 in
    below-turn (rnd x.ir) x.s.now l.s _ _ l.k l.invariant
    (parted.round_in_planes-b.ensures
    ∙ ap (rounded_by given.round_constant-c.result)
    (taken.state-a.ensures ∙ ap (state_of l.k) l.invariant ∙ below-state (rnd x.ir) x.s.now size l.k less)
    ∙ rounded-is (state_of l.k x.s.now) given.round_constant-c.result x.ir given.round_constant-c.ensures)
    c.put.ensures

pub returns : goal.returns
returns c =
    let x = c.args in
    let size = c.requires.1 in
    let e : c.loop-k.k ≡ 4 = omega arith in
    c.loop-k.invariant ∙ ap (λ (k : ℕ). each_below (rnd x.ir) k x.s.now) e ∙ below_all (rnd x.ir) x.s.now size
