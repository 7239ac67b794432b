-- `verifying::recompute` meets its contract. The loop's invariant: the stretch of instance j is next, the outputs of those before it are
-- tested, and their digests taken in.
-- Assumes nothing.
use mathlib.Core.Path.{◌≡◌, refl, ap, ◌∙◌}
use native.Mathlib.Omega.{arith}
use lib.ListN.{length}
use Rattle.circuit.specs.File.{circuit_of}
use Rattle.proof.specs.Steps.{ask_of, asks_in}
use Rattle.proof.specs.File.{hides}
use Rattle.proof.proofs.Leaves.{opened-few, length-master_in}
use Rattle.proof.proofs.Sizes.{start_none}
use Rattle.proof.proofs.Inside.{stretches-after}
use Rattle.proof_tests.specs.Steps.{output_at, commitments_at, online_at}
use Rattle.proof_tests.proofs.Verified.{every-none, every-turn, every-end, turn_inside, turn-place, turn-size, turn-unused, turn-output, turn-online, turn-commitments, sponge-room, digest-length, commitments-none, commitments-turn, online-none, online-turn, hstar-made}
use Rattle.verifying.proofs.recompute.Goals as goal

pub overflow_add-at : goal.overflow_add-at
overflow_add-at c =
    let x = c.args in
    let q = c.requires in
    omega (arith, q.1.1.1.0, opened-few x.k.instances q.1.0.few (hides (asks_in x.k.parties x.table.now)))

pub loop-j-init : goal.loop-j-init
loop-j-init c =
    let x = c.args in
    let k = circuit_of x.s.now in
    let m = x.k.instances in
    let n = x.k.parties in
    let ask = asks_in n x.table.now in
    (start_none k m n ask x.opened c.requires.1.1.1.0, (refl, (every-none (output_at k m n ask x.proof.now x.y.now), (commitments-none (commitments_at k m n ask x.proof.now) c.start_all_commitments-all.result c.start_all_commitments-all.ensures, online-none (online_at k m n ask x.proof.now) c.start_all_online-online.result c.start_all_online-online.ensures))))

pub stretch_bytes-requires : goal.stretch_bytes-requires
stretch_bytes-requires c =
    let q = c.requires in
    (q.0.known, (q.0.tree, omega (arith, c.asked-p.ensures, q.1.0.asking.parties c.loop-j.j)))

pub overflow_add-end : goal.overflow_add-end
overflow_add-end c =
    let x = c.args in
    let l = c.loop-j in
    let n = x.k.parties in
    omega (arith, turn_inside (circuit_of x.s.now) n x.k.instances (asks_in n x.table.now) x.proof.now c.requires.1.0.size l.j l.at c.stretch_bytes.result (ask_of n c.asked-p.result) c.loop-j-test.true l.invariant.0 (ap (ask_of n) c.asked-p.ensures) c.stretch_bytes.ensures, c.well_formed.1.1.1.1.1.1.1.0.0)

pub master-seed-requires : goal.master-seed-requires
master-seed-requires c = omega (arith, c.requires.1.0.few, c.loop-j-test.true)

pub slice_bounds-check_instance-end : goal.slice_bounds-check_instance-end
slice_bounds-check_instance-end c =
    let x = c.args in
    let l = c.loop-j in
    let n = x.k.parties in
    turn_inside (circuit_of x.s.now) n x.k.instances (asks_in n x.table.now) x.proof.now c.requires.1.0.size l.j l.at c.stretch_bytes.result (ask_of n c.asked-p.result) c.loop-j-test.true l.invariant.0 (ap (ask_of n) c.asked-p.ensures) c.stretch_bytes.ensures

pub check_instance-r-requires : goal.check_instance-r-requires
check_instance-r-requires c =
    let x = c.args in
    let l = c.loop-j in
    let k = circuit_of x.s.now in
    let m = x.k.instances in
    let n = x.k.parties in
    let ask = asks_in n x.table.now in
    let q = c.requires in
    let low = c.loop-j-test.true in (
      record {
        known = q.0.known;
        tree = q.0.tree;
        room = omega (arith, l.invariant.1.0, q.0.room);
      },
      (
        omega (arith, c.asked-p.ensures, q.1.0.asking.parties l.j),
        (
          ap length c.master-seed.ensures ∙ length-master_in m x.nodes.now q.1.1.1.1.rows l.j low,
          (
            turn-size k n m ask x.proof.now q.1.0.size l.j l.at c.stretch_bytes.result (ask_of n c.asked-p.result) low l.invariant.0 (ap (ask_of n) c.asked-p.ensures) c.stretch_bytes.ensures,
            turn-unused k n m ask x.proof.now q.1.0.size l.j l.at c.stretch_bytes.result (ask_of n c.asked-p.result) low l.invariant.0 (ap (ask_of n) c.asked-p.ensures) c.stretch_bytes.ensures q.1.1.0,
          ),
        ),
      ),
    )

pub absorb-all-requires : goal.absorb-all-requires
absorb-all-requires c = (omega arith, (refl, sponge-room _ c.loop-j.all c.loop-j.invariant.1.1.1.0))

pub absorb-online-requires : goal.absorb-online-requires
absorb-online-requires c = (omega arith, (refl, sponge-room _ c.loop-j.online c.loop-j.invariant.1.1.1.1))

pub loop-j-preserved : goal.loop-j-preserved
loop-j-preserved c =
    let x = c.args in
    let l = c.loop-j in
    let k = circuit_of x.s.now in
    let m = x.k.instances in
    let n = x.k.parties in
    let ask = asks_in n x.table.now in
    let q = c.requires in
    let low = c.loop-j-test.true in
    let i = l.invariant.1 in
    let r = c.check_instance-r.result in (
      turn-place k n m ask x.proof.now q.1.0.size l.j l.at c.stretch_bytes.result (ask_of n c.asked-p.result) low l.invariant.0 (ap (ask_of n) c.asked-p.ensures) c.stretch_bytes.ensures,
      (
        c.check_instance-r.auto.memory ∙ i.0,
        (
          every-turn (output_at k m n ask x.proof.now x.y.now) l.j l.agrees r.agrees _ i.1.0
              (turn-output k n m ask x.proof.now q.1.0.size l.j l.at c.stretch_bytes.result (ask_of n c.asked-p.result) low l.invariant.0 (ap (ask_of n) c.asked-p.ensures) c.stretch_bytes.ensures c.header_salt-salt.result c.header_salt-salt.ensures x.y.now r.agrees c.check_instance-r.ensures.0)
              refl,
          (
            commitments-turn (commitments_at k m n ask x.proof.now) l.j l.all c.absorb-all.result r.commitments i.1.1.0
                (turn-commitments k n m ask x.proof.now q.1.0.size l.j l.at c.stretch_bytes.result (ask_of n c.asked-p.result) low l.invariant.0 (ap (ask_of n) c.asked-p.ensures) c.stretch_bytes.ensures c.header_salt-salt.result c.header_salt-salt.ensures x.nodes.now _ r.commitments q.1.1.1.1.masters c.master-seed.ensures c.check_instance-r.ensures.1.0)
                c.absorb-all.ensures,
            online-turn (online_at k m n ask x.proof.now) l.j l.online c.absorb-online.result r.online i.1.1.1
                (turn-online k n m ask x.proof.now q.1.0.size l.j l.at c.stretch_bytes.result (ask_of n c.asked-p.result) low l.invariant.0 (ap (ask_of n) c.asked-p.ensures) c.stretch_bytes.ensures c.header_salt-salt.result c.header_salt-salt.ensures r.online c.check_instance-r.ensures.1.1)
                c.absorb-online.ensures,
          ),
        ),
      ),
    )

pub finish-requires : goal.finish-requires
finish-requires c = sponge-room _ c.loop-j.all c.loop-j.invariant.1.1.1.0

pub slice_bounds-transcript-end : goal.slice_bounds-transcript-end
slice_bounds-transcript-end c = digest-length _ c.finish.result c.finish.ensures

pub finish-requires-2 : goal.finish-requires-2
finish-requires-2 c = sponge-room _ c.loop-j.online c.loop-j.invariant.1.1.1.1

pub slice_bounds-transcript-end-2 : goal.slice_bounds-transcript-end-2
slice_bounds-transcript-end-2 c = digest-length _ c.finish-2.result c.finish-2.ensures

pub returns : goal.returns
returns c =
    let x = c.args in
    let l = c.loop-j in
    let k = circuit_of x.s.now in
    let m = x.k.instances in
    let n = x.k.parties in
    let i = l.invariant.1.1 in
    let ask = asks_in n x.table.now in
    let q : l.j ≡ m = omega arith in (
      every-end (output_at k m n ask x.proof.now x.y.now) l.j m l.agrees q i.0,
      hstar-made k m n ask x.proof.now (λ a. (c.shared_slice_known-5-1.given a).fits) l.j m l.all l.online c.finish.result
          c.finish-2.result c.transcript-hstar.result q i.1.0 i.1.1 c.finish.ensures c.finish-2.ensures c.transcript-hstar.ensures,
    )

pub header_salt-salt-requires : goal.header_salt-salt-requires
header_salt-salt-requires c =
    let x = c.args in
    omega (arith, c.requires.1.0.size, stretches-after (circuit_of x.s.now) x.k.parties x.k.instances (asks_in x.k.parties x.table.now) x.k.instances)
