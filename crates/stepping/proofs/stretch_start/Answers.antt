-- `stepping::stretch_start` meets its contract: the loop's invariant is that `at` is where the stretch of instance i starts.
-- Assumes nothing.
use mathlib.Core.Path.{ap, ◌∙◌}
use Prim.Native.Nat.{ℕ}
use native.Mathlib.Omega.{arith}
use Rattle.circuit.specs.File.{circuit_of}
use Rattle.instance.specs.Stretch.{stretch_bytes}
use Rattle.proof.specs.File.{hides}
use Rattle.proof.specs.Steps.{ask_of, asks_in}
use Rattle.proof.proofs.Leaves.{opened-few}
use Rattle.proof.proofs.Sizes.{start_none, start-more, start-end, stretch-few}
use Rattle.stepping.proofs.stretch_start.Goals as goal

pub overflow_add-at : goal.overflow_add-at
overflow_add-at c =
    let x = c.args in
    let t = c.requires.0 in
    omega (arith, t.cover, opened-few x.f.counts.instances t.sized.few (hides (asks_in x.f.counts.parties x.table.now)))

pub loop-i-init : goal.loop-i-init
loop-i-init c =
    let x = c.args in
    let t = c.requires.0 in
    let w = opened-few x.f.counts.instances t.sized.few (hides (asks_in x.f.counts.parties x.table.now)) in
    (omega (arith, t.cover), start_none (circuit_of x.s.now) x.f.counts.instances x.f.counts.parties (asks_in x.f.counts.parties x.table.now) x.f.opened t.cover)

pub asked-p-requires : goal.asked-p-requires
asked-p-requires c = tt

pub stretch_bytes-at-requires : goal.stretch_bytes-at-requires
stretch_bytes-at-requires c =
    let t = c.requires.0 in
    (t.known, (t.tree, omega (arith, c.asked-p.ensures, t.sized.asking.parties c.loop-i.i)))

pub overflow_add-at-in-loop-i : goal.overflow_add-at-in-loop-i
overflow_add-at-in-loop-i c =
    let x = c.args in
    let t = c.requires.0 in
    let w = stretch-few x.s.now x.f.sizes.inputs x.f.sizes.outputs x.f.sizes.gates x.f.sizes.ands t.known x.f.counts.parties (ask_of x.f.counts.parties c.asked-p.result) in
    omega (arith, c.stretch_bytes-at.ensures, t.sized.few, c.requires.1, c.loop-i.invariant)

pub loop-i-preserved : goal.loop-i-preserved
loop-i-preserved c =
    let x = c.args in
    let t = c.requires.0 in
    let l = c.loop-i in
    let w = stretch-few x.s.now x.f.sizes.inputs x.f.sizes.outputs x.f.sizes.gates x.f.sizes.ands t.known x.f.counts.parties (ask_of x.f.counts.parties c.asked-p.result) in (
      omega (arith, c.stretch_bytes-at.ensures, l.invariant),
      start-more (circuit_of x.s.now) x.f.counts.instances x.f.counts.parties (asks_in x.f.counts.parties x.table.now) l.i l.at c.stretch_bytes-at.result l.invariant.1
          (c.stretch_bytes-at.ensures ∙ ap (λ (p : ℕ). stretch_bytes (circuit_of x.s.now) x.f.counts.parties (ask_of x.f.counts.parties p)) c.asked-p.ensures),
    )

pub returns : goal.returns
returns c =
    let x = c.args in
    let l = c.loop-i in
    start-end (circuit_of x.s.now) x.f.counts.instances x.f.counts.parties (asks_in x.f.counts.parties x.table.now) l.i x.j l.at (omega arith) (omega arith) l.invariant.1
