-- `proof::asking::proof_bytes` meets its contract: the loop's invariant is that `at` is where the stretch of instance j starts.
-- Assumes nothing.
use native.Mathlib.Omega.{arith}
use mathlib.Core.Path.{ap, ◌∙◌}
use Prim.Native.Nat.{ℕ}
use Rattle.circuit.specs.File.{circuit_of}
use Rattle.instance.specs.Stretch.{stretch_bytes}
use Rattle.proof.specs.File.{hides}
use Rattle.proof.specs.Steps.{ask_of, asks_in}
use Rattle.proof.proofs.Leaves.{opened-few}
use Rattle.proof.proofs.Sizes.{start_none, start-more, start-end, stretch-few}
use Rattle.proof.proofs.asking.proof_bytes.Goals as goal

pub overflow_add-at : goal.overflow_add-at
overflow_add-at c =
    let x = c.args in
    let p = c.requires in
    omega (arith, p.1.1.1.1, opened-few x.k.instances p.1.1.0 (hides (asks_in x.k.parties x.table.now)))

pub loop-j-init : goal.loop-j-init
loop-j-init c =
    let x = c.args in
    let p = c.requires in
    let w = opened-few x.k.instances p.1.1.0 (hides (asks_in x.k.parties x.table.now)) in
    (omega (arith, p.1.1.1.1), start_none (circuit_of x.s.now) x.k.instances x.k.parties (asks_in x.k.parties x.table.now) x.opened p.1.1.1.1)

pub asked-p-requires : goal.asked-p-requires
asked-p-requires c = tt

pub stretch_bytes-at-requires : goal.stretch_bytes-at-requires
stretch_bytes-at-requires c =
    let b = c in
    (b.requires.0, (b.requires.1.0, omega (arith, c.asked-p.ensures, b.requires.1.1.1.0.parties c.loop-j.j)))

pub overflow_add-at-in-loop-j : goal.overflow_add-at-in-loop-j
overflow_add-at-in-loop-j c =
    let b = c in
    let x = b.args in
    let w = stretch-few x.s.now x.z.inputs x.z.outputs x.z.gates x.z.ands b.requires.0 x.k.parties (ask_of x.k.parties c.asked-p.result) in
    omega (arith, c.stretch_bytes-at.ensures, b.requires.1.1.0, c.loop-j.invariant)

pub loop-j-preserved : goal.loop-j-preserved
loop-j-preserved c =
    let b = c in
    let l = c.loop-j in
    let x = b.args in
    let w = stretch-few x.s.now x.z.inputs x.z.outputs x.z.gates x.z.ands b.requires.0 x.k.parties (ask_of x.k.parties c.asked-p.result) in (
      omega (arith, c.stretch_bytes-at.ensures, l.invariant),
      start-more (circuit_of x.s.now) x.k.instances x.k.parties (asks_in x.k.parties x.table.now) l.j l.at c.stretch_bytes-at.result l.invariant.1
          (c.stretch_bytes-at.ensures ∙ ap (λ (p : ℕ). stretch_bytes (circuit_of x.s.now) x.k.parties (ask_of x.k.parties p)) c.asked-p.ensures),
    )

pub returns : goal.returns
returns c =
    let l = c.loop-j in
    let x = c.args in
    start-end (circuit_of x.s.now) x.k.instances x.k.parties (asks_in x.k.parties x.table.now) l.j x.k.instances l.at (omega arith) (omega arith) l.invariant.1
