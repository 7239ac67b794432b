-- `instance::sending::digests` meets its contract.
-- Assumes nothing.
use mathlib.Core.Path.{sym, ◌∙◌}
use native.Mathlib.Omega.{arith}
use Prim.Native.Nat.{ℕ}
use lib.ListN.{length-replicate}
use Rattle.bits.proofs.Copies.{prefix-length}
use Rattle.instance.proofs.Rooms.{few-parties, lent-kept, lent-end, lent-seeded, lent_rows, lent-planes, seed-length}
use Rattle.instance.proofs.Committed.{first-room}
use Rattle.instance.proofs.Sent.{clean, masked-made, ran-made, commitments-made, online-made, few-masked, front-inside, front-back, front-taken}
use Rattle.instance.proofs.sending.digests.Goals as goal

pub hold_parties-requires : goal.hold_parties-requires
hold_parties-requires c = (c.requires.0, c.requires.1.1)

pub commit_first-first-requires : goal.commit_first-first-requires
commit_first-first-requires c = let k = lent-kept _ _ _ _ _ c.requires.0 c.hold_parties.new.memory c.hold_parties.auto.memory in (lent-planes _ _ _ _ _ k, lent-seeded _ _ _ _ _ k)

pub overflow_sub-n : goal.overflow_sub-n
overflow_sub-n c = omega (arith, (lent-seeded _ _ _ _ _ c.requires.0).some)

pub seed_of-last-requires : goal.seed_of-last-requires
seed_of-last-requires c = let k = lent-kept _ _ _ _ _ c.requires.0 c.hold_parties.new.memory c.hold_parties.auto.memory in (lent-planes _ _ _ _ _ k, (lent-seeded _ _ _ _ _ k, omega (arith, (lent-seeded _ _ _ _ _ k).some)))

pub slice_bounds-masked-end : goal.slice_bounds-masked-end
slice_bounds-masked-end c = omega (arith, length-replicate {A = ℕ} 64 0, few-masked _ _ _ c.requires.0.known c.oct-m.ensures)

pub slice_bounds-run_tapes-end : goal.slice_bounds-run_tapes-end
slice_bounds-run_tapes-end c = sym (prefix-length _ 64 (few-masked _ _ _ c.requires.0.known c.oct-m.ensures))

pub run_tapes-requires : goal.run_tapes-requires
run_tapes-requires c =
    let k = lent-kept _ _ _ _ _ c.requires.0 c.hold_parties.new.memory c.hold_parties.auto.memory in
    (k, (c.requires.1.0, (clean _ _ _ _ _ _ _ k c.args.witness.now c.hold_parties.ensures.memory_after_2, prefix-length _ 64 (few-masked _ _ _ c.requires.0.known c.oct-m.ensures) ∙ c.oct-m.ensures)))

pub commit_last-commitments-requires : goal.commit_last-commitments-requires
commit_last-commitments-requires c =
    let k = lent-kept _ _ _ _ _ c.requires.0 c.hold_parties.new.memory c.hold_parties.auto.memory in
    let v = lent-kept _ _ _ _ _ c.requires.0 c.run_tapes.new.memory (c.run_tapes.auto.memory ∙ c.hold_parties.auto.memory) in
    let seeded = lent-seeded _ _ _ _ _ k in
    (lent-planes _ _ _ _ _ v, (lent-end _ _ _ _ _ v, (seeded.some, (seeded.few, (first-room _ _ _ _ c.commit_first-first.ensures, seed-length _ _ _ _ _ seeded (omega (arith, seeded.some)) c.seed_of-last.ensures)))))

pub slice_bounds-masked-end-2 : goal.slice_bounds-masked-end-2
slice_bounds-masked-end-2 c = front-inside 64 c.oct-m.result c.run_tapes.new.masked (few-masked _ _ _ c.requires.0.known c.oct-m.ensures) c.run_tapes.auto.masked

pub slice_bounds-online-end : goal.slice_bounds-online-end
slice_bounds-online-end c = front-taken 64 c.oct-m.result c.run_tapes.new.masked (few-masked _ _ _ c.requires.0.known c.oct-m.ensures) c.run_tapes.auto.masked

pub overflow_cast-n : goal.overflow_cast-n
overflow_cast-n c = omega (arith, few-parties _ _ _ _ _ c.requires.0)

pub online-online-requires : goal.online-online-requires
online-online-requires c = let v = lent-kept _ _ _ _ _ c.requires.0 c.run_tapes.new.memory (c.run_tapes.auto.memory ∙ c.hold_parties.auto.memory) in (lent-planes _ _ _ _ _ v, (few-parties _ _ _ _ _ v, lent_rows _ _ _ _ _ v))

pub returns : goal.returns
returns c =
    let x = c.args in
    let k = lent-kept _ _ _ _ _ c.requires.0 c.hold_parties.new.memory c.hold_parties.auto.memory in
    let w = c.args.witness.now in
    let ran = ran-made _ _ _ _ _ _ _ k w c.hold_parties.ensures.memory_after_2 _ c.run_tapes.ensures.memory_after c.run_tapes.ensures.memory_after_2 in
    let masked = front-back 64 c.oct-m.result c.run_tapes.new.masked (few-masked _ _ _ c.requires.0.known c.oct-m.ensures) c.run_tapes.auto.masked ∙ masked-made _ _ _ _ _ _ _ k w c.hold_parties.ensures.memory_after_2 _ c.run_tapes.ensures.masked_after in (
      commitments-made x.s.now x.z x.inst.parties x.inst.context x.master.now c.hold_parties.new.memory c.run_tapes.new.memory c.seed_of-last.result c.commit_last-commitments.result c.commit_first-first.result (lent-seeded _ _ _ _ _ k).some c.hold_parties.ensures.memory_after ran.corrections c.commit_first-first.ensures c.seed_of-last.ensures c.commit_last-commitments.ensures,
      online-made _ _ _ _ _ _ _ _ _ masked ran c.online-online.ensures,
    )
