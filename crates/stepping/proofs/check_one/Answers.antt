-- `stepping::check_one` meets its contract.
-- Assumes nothing.
use borrow.Author.Rules.{rules}
use mathlib.Core.Path.{ap, ◌∙◌}
use native.Mathlib.Omega.{arith}
use Rattle.circuit.specs.File.{circuit_of}
use Rattle.cover.specs.Masters.{masters_context}
use Rattle.proof.specs.Steps.{ask_of, asks_in}
use Rattle.proof_tests.proofs.Checks.{tested-opened, tested-values, tested-marks}
use Rattle.stepping.proofs.Paths.{path-seen}
use Rattle.proof_tests.proofs.Verified.{turn_inside, turn-size, turn-unused, turn-output, turn-online, turn-made}
use Rattle.stepping.proofs.check_one.Goals as goal

pub asked-p-requires : goal.asked-p-requires
asked-p-requires c = tt

pub overflow_add-first : goal.overflow_add-first
overflow_add-first c =
    let x = c.args in
    omega (arith, tested-opened x.s.now x.f x.proof.now x.table.now x.marks.now c.requires.0)

pub slice_bounds-master_of-end : goal.slice_bounds-master_of-end
slice_bounds-master_of-end c =
    let x = c.args in
    tested-opened x.s.now x.f x.proof.now x.table.now x.marks.now c.requires.0

pub master_of-seed-requires : goal.master_of-seed-requires
master_of-seed-requires c =
    let x = c.args in
    let t = c.requires.0 in
    (t.sized.few, (c.requires.1.1, (tested-marks x.s.now x.f x.proof.now x.table.now x.marks.now t, tested-values x.s.now x.f x.proof.now x.table.now x.marks.now t)))

pub stretch_start-at-requires : goal.stretch_start-at-requires
stretch_start-at-requires c = (c.requires.0, omega (arith, c.requires.1.1))

pub stretch_bytes-requires : goal.stretch_bytes-requires
stretch_bytes-requires c =
    let t = c.requires.0 in
    (t.known, (t.tree, omega (arith, c.asked-p.ensures, t.sized.asking.parties c.args.j)))

pub overflow_add-end : goal.overflow_add-end
overflow_add-end c =
    let x = c.args in
    let n = x.f.counts.parties in
    omega (arith, turn_inside (circuit_of x.s.now) n x.f.counts.instances (asks_in n x.table.now) x.proof.now c.requires.0.sized.size x.j c.stretch_start-at.result c.stretch_bytes.result (ask_of n c.asked-p.result) c.requires.1.1 c.stretch_start-at.ensures (ap (ask_of n) c.asked-p.ensures) c.stretch_bytes.ensures, c.well_formed.1.1.1.1.1.0.0)

pub slice_bounds-check_instance-end-2 : goal.slice_bounds-check_instance-end-2
slice_bounds-check_instance-end-2 c =
    let x = c.args in
    let n = x.f.counts.parties in
    turn_inside (circuit_of x.s.now) n x.f.counts.instances (asks_in n x.table.now) x.proof.now c.requires.0.sized.size x.j c.stretch_start-at.result c.stretch_bytes.result (ask_of n c.asked-p.result) c.requires.1.1 c.stretch_start-at.ensures (ap (ask_of n) c.asked-p.ensures) c.stretch_bytes.ensures

pub check_instance-requires : goal.check_instance-requires
check_instance-requires c =
    let x = c.args in
    let t = c.requires.0 in
    let low = c.requires.1.1 in
    let k = circuit_of x.s.now in
    let m = x.f.counts.instances in
    let n = x.f.counts.parties in
    let ask = asks_in n x.table.now in (
      record { known = t.known; tree = t.tree; room = c.requires.1.0 },
      (
        omega (arith, c.asked-p.ensures, t.sized.asking.parties x.j),
        (
          search rules,
          (
            turn-size k n m ask x.proof.now t.sized.size x.j c.stretch_start-at.result c.stretch_bytes.result (ask_of n c.asked-p.result) low c.stretch_start-at.ensures (ap (ask_of n) c.asked-p.ensures) c.stretch_bytes.ensures,
            turn-unused k n m ask x.proof.now t.sized.size x.j c.stretch_start-at.result c.stretch_bytes.result (ask_of n c.asked-p.result) low c.stretch_start-at.ensures (ap (ask_of n) c.asked-p.ensures) c.stretch_bytes.ensures t.unused,
          ),
        ),
      ),
    )

pub returns : goal.returns
returns c =
    let x = c.args in
    let t = c.requires.0 in
    let low = c.requires.1.1 in
    let k = circuit_of x.s.now in
    let m = x.f.counts.instances in
    let n = x.f.counts.parties in
    let ask = asks_in n x.table.now in
    let r = c.check_instance.result in (
      turn-output k n m ask x.proof.now t.sized.size x.j c.stretch_start-at.result c.stretch_bytes.result (ask_of n c.asked-p.result) low c.stretch_start-at.ensures (ap (ask_of n) c.asked-p.ensures) c.stretch_bytes.ensures c.header_salt-salt.result c.header_salt-salt.ensures x.y.now r.agrees c.check_instance.ensures.0,
      (
        turn-made k n m ask x.proof.now t.sized.size x.j c.stretch_start-at.result c.stretch_bytes.result (ask_of n c.asked-p.result) low c.stretch_start-at.ensures (ap (ask_of n) c.asked-p.ensures) c.stretch_bytes.ensures c.header_salt-salt.result c.header_salt-salt.ensures c.master_of-seed.result r.commitments
            (path-seen x.s.now x.f x.proof.now x.table.now x.marks.now t x.j low c.asked-p.result c.asked-p.ensures c.master_of-seed.result c.masters_tree.result (c.masters_tree.ensures ∙ ap masters_context c.header_salt-salt.ensures) c.master_of-seed.ensures) c.check_instance.ensures.1.0,
        turn-online k n m ask x.proof.now t.sized.size x.j c.stretch_start-at.result c.stretch_bytes.result (ask_of n c.asked-p.result) low c.stretch_start-at.ensures (ap (ask_of n) c.asked-p.ensures) c.stretch_bytes.ensures c.header_salt-salt.result c.header_salt-salt.ensures r.online c.check_instance.ensures.1.1,
      ),
    )

pub header_salt-salt-requires : goal.header_salt-salt-requires
header_salt-salt-requires c =
    let x = c.args in
    omega (arith, tested-opened x.s.now x.f x.proof.now x.table.now x.marks.now c.requires.0)
