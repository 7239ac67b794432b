-- `instance::committing::commit` meets its contract.
-- Assumes nothing.
use mathlib.Core.Path.{ap, ◌∙◌}
use mathlib.Core.List.{[], flatten}
use native.Mathlib.Omega.{arith}
use Prim.Native.Nat.{ℕ, ◌-◌, ◌≤◌}
use Rattle.keccak.proofs.Steps.{absorbs-room}
use Rattle.hashing.specs.Digest.{given}
use Rattle.derivation.specs.Steps.{commitment_but}
use Rattle.derivation.proofs.Committed.{coms-room}
use Rattle.instance.proofs.Committed.{coms-empty, coms-all}
use Rattle.instance.proofs.committing.commit.Goals as goal

pub finish-requires : goal.finish-requires
unfolding flatten
finish-requires c = coms-room c.args.inst.context.number 0 (λ (i : ℕ). []) _ c.start_commitments.ensures

pub returns-then-n-eq0 : goal.returns-then-n-eq0
returns-then-n-eq0 c =
    let x = c.args in
    coms-empty x.inst.context.number x.inst.parties _ _ _ c.if-n-eq0.true c.start_commitments.ensures c.finish.ensures

pub take_first-first-requires : goal.take_first-first-requires
take_first-first-requires c = (omega arith, c.requires)

pub take_one-requires : goal.take_one-requires
take_one-requires c =
    let o = c in
    let x = o.args in
    let room = coms-room x.inst.context.number (x.inst.parties - 1) (commitment_but x.inst.context x.inst.parties x.p x.theirs.now x.seeds.now []) _ c.take_first-first.ensures in
    (room, (omega arith, o.requires))

pub finish-requires-2 : goal.finish-requires-2
finish-requires-2 c =
    let x = c.args in
    rw c.take_one.ensures
    (absorbs-room 136 (omega arith) _ _ (coms-room x.inst.context.number (x.inst.parties - 1) (commitment_but x.inst.context x.inst.parties x.p x.theirs.now x.seeds.now []) _ c.take_first-first.ensures))

pub returns : goal.returns
returns c =
    let o = c in
    let x = o.args in
    let some : 1 ≤ x.inst.parties = omega arith in
    coms-all x.inst.context x.inst.parties x.p x.theirs.now x.seeds.now x.corrections.now _ _ some (λ k. (c.shared_slice_known-1.given k).fits)
    c.take_first-first.ensures (c.finish-2.ensures ∙ ap given c.take_one.ensures)
