-- `proof_tests::unused_bits::all_unused` meets its contract. The loop's invariant: the stretch of instance j is next, and the tests of those before it are made.
-- Assumes nothing.
use mathlib.Core.Path.{refl, ap}
use native.Mathlib.Omega.{arith}
use Rattle.circuit.specs.File.{circuit_of}
use Rattle.instance.specs.Opened.{stretch_unused}
use Rattle.proof.specs.Steps.{ask_of, asks_in}
use Rattle.proof.specs.File.{hides}
use Rattle.proof.proofs.Leaves.{opened-few}
use Rattle.proof.proofs.Sizes.{start_none}
use Rattle.proof_tests.proofs.Verified.{unused_at, every-none, every-turn, every-end, turn_inside, turn-place, turn-size, turn-test}
use Rattle.proof_tests.proofs.unused_bits.all_unused.Goals as goal

pub overflow_add-at : goal.overflow_add-at
overflow_add-at c =
    let x = c.args in
    let q = c.requires in
    omega (arith, q.1.1.1, opened-few x.k.instances q.1.1.0.few (hides (asks_in x.k.parties x.table.now)))

pub loop-j-init : goal.loop-j-init
loop-j-init c =
    let x = c.args in
    let ask = asks_in x.k.parties x.table.now in
    (start_none (circuit_of x.s.now) x.k.instances x.k.parties ask x.opened c.requires.1.1.1, every-none (unused_at (circuit_of x.s.now) x.k.instances x.k.parties ask x.proof.now))

pub stretch_bytes-requires : goal.stretch_bytes-requires
stretch_bytes-requires c =
    let q = c.requires in
    (q.0, (q.1.0, omega (arith, c.asked-p.ensures, q.1.1.0.asking.parties c.loop-j.j)))

pub overflow_add-end : goal.overflow_add-end
overflow_add-end c =
    let x = c.args in
    let l = c.loop-j in
    let n = x.k.parties in
    omega (arith, turn_inside (circuit_of x.s.now) n x.k.instances (asks_in n x.table.now) x.proof.now c.requires.1.1.0.size l.j l.at c.stretch_bytes.result (ask_of n c.asked-p.result) c.loop-j-test.true l.invariant.0 (ap (ask_of n) c.asked-p.ensures) c.stretch_bytes.ensures)

pub slice_bounds-stretch_unused-end : goal.slice_bounds-stretch_unused-end
slice_bounds-stretch_unused-end c =
    let x = c.args in
    let l = c.loop-j in
    let n = x.k.parties in
    turn_inside (circuit_of x.s.now) n x.k.instances (asks_in n x.table.now) x.proof.now c.requires.1.1.0.size l.j l.at c.stretch_bytes.result (ask_of n c.asked-p.result) c.loop-j-test.true l.invariant.0 (ap (ask_of n) c.asked-p.ensures) c.stretch_bytes.ensures

pub stretch_unused-good-requires : goal.stretch_unused-good-requires
stretch_unused-good-requires c =
    let x = c.args in
    let l = c.loop-j in
    let n = x.k.parties in
    let q = c.requires in
    (q.0, (q.1.0, (omega (arith, c.asked-p.ensures, q.1.1.0.asking.parties l.j), turn-size (circuit_of x.s.now) n x.k.instances (asks_in n x.table.now) x.proof.now q.1.1.0.size l.j l.at c.stretch_bytes.result (ask_of n c.asked-p.result) c.loop-j-test.true l.invariant.0 (ap (ask_of n) c.asked-p.ensures) c.stretch_bytes.ensures)))

pub loop-j-preserved : goal.loop-j-preserved
loop-j-preserved c =
    let x = c.args in
    let l = c.loop-j in
    let n = x.k.parties in
    let ask = asks_in n x.table.now in
    let size = c.requires.1.1.0.size in (
      turn-place (circuit_of x.s.now) n x.k.instances ask x.proof.now size l.j l.at c.stretch_bytes.result (ask_of n c.asked-p.result) c.loop-j-test.true l.invariant.0 (ap (ask_of n) c.asked-p.ensures) c.stretch_bytes.ensures,
      every-turn (unused_at (circuit_of x.s.now) x.k.instances n ask x.proof.now) l.j l.good c.stretch_unused-good.result _ l.invariant.1
          (turn-test (circuit_of x.s.now) n x.k.instances ask x.proof.now size l.j l.at c.stretch_bytes.result (ask_of n c.asked-p.result) c.loop-j-test.true l.invariant.0 (ap (ask_of n) c.asked-p.ensures) c.stretch_bytes.ensures (stretch_unused (circuit_of x.s.now) n) c.stretch_unused-good.result c.stretch_unused-good.ensures)
          refl,
    )

pub returns : goal.returns
returns c =
    let x = c.args in
    let l = c.loop-j in
    every-end (unused_at (circuit_of x.s.now) x.k.instances x.k.parties (asks_in x.k.parties x.table.now) x.proof.now) l.j x.k.instances l.good (omega arith) l.invariant.1
