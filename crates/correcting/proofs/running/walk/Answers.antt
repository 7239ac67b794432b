-- `correcting::running::walk` meets its contract. The loop's invariant: the gates that are left, from the memory so far, give what all of them give.
-- Assumes nothing.
use native.Mathlib.Omega.{arith}
use mathlib.Core.Path.{◌≡◌, refl, sym, ap, ◌∙◌}
use Prim.Native.Nat.{◌+◌, ◌-◌, ◌<◌}
use Rattle.circuit.proofs.Chain.{Here, here, inside, next-read, gate-read, and_one-le, ands-turn}
use Rattle.circuit.proofs.Run.{wired-on}
use Rattle.planes.specs.Steps.{rows_at}
use Rattle.planes.specs.declared.Layout.{Layout}
use Rattle.gates.proofs.Steps.{room-kept}
use Rattle.walk.proofs.Turns.{layout-room, layout-wires, layout-ands, layout-wired}
use Rattle.correcting.specs.Steps.{walked}
use Rattle.correcting.proofs.Turns.{walked_end, walk_turn}
use Rattle.correcting.proofs.running.walk.Goals.{In-loop}
use Rattle.correcting.proofs.running.walk.Goals as goal

-- what the chain says of the slot in hand
abbrev Ok : (c : In-loop) → Type 0
Ok c = Here c.args.s.now (c.args.z.gates - c.loop.counter) c.loop.slot

ok : (c : In-loop) → Ok c
ok c = here _ _ _ (omega arith) c.loop.invariant.chain

pub loop-init : goal.loop-init
loop-init c =
    let x = c.args in
    let p = c.requires.0 in
    let all : x.z.gates - 0 ≡ x.z.gates = omega arith in
    rw all
    record {
      count = omega (arith, p.count, layout-ands _ _ c.layout-l.ensures);
      chain = p.chained.chain;
      reads = layout-wired _ _ c.layout-l.ensures x.s.now x.z.gates x.head p.reads;
      same = refl;
    }

pub record-r-requires : goal.record-r-requires
record-r-requires c =
    let k = ok c in
    let l = c.requires.0.chained.laid in
    inside _ _ _ _ _ l k.first (omega (arith, k.low, l.gates))

pub overflow_sub-slot : goal.overflow_sub-slot
overflow_sub-slot c = (ok (goal.at.overflow_sub-slot c).In-loop).first

pub overflow_add-z : goal.overflow_add-z
overflow_add-z c =
    let l = c.requires.0.chained.laid in
    omega (arith, ok (goal.at.overflow_add-z c).In-loop, l.gates, l.few_inputs, l.few_gates)

pub gate-requires : goal.gate-requires
gate-requires c =
    let z = c.requires.0 in
    let l = c.loop in
    let i = l.invariant in
    let k = ok (goal.at.gate-requires c).In-loop in
    let a = z.chained.laid in
    let e = c.layout-l.ensures in
    let wires = layout-wires _ _ e in
    let left = c.args.z.gates - l.counter in
    let taken : 0 < left = omega arith in (
      record {
        memory = room-kept _ _ _ l.auto.memory (layout-room _ _ e _ z.memory);
        first = omega (arith, k.first, k.low, a.gates, wires);
        second = omega (arith, k.first, k.low, a.gates, wires);
        output = omega (arith, k.first, k.low, a.gates, wires);
        order = omega (arith, ands-turn _ left l.slot l.t _ _ _ c.record-r.ensures taken refl i.count);
      },
      (
        rw (gate-read _ _ _ c.record-r.ensures) (wired-on _ _ _ _ taken i.reads).0,
        omega (arith, c.requires.1, ap (λ (x : Layout). rows_at x) e, l.auto.memory),
      ),
    )

pub overflow_add-t : goal.overflow_add-t
overflow_add-t c =
    omega (arith, and_one-le c.record-r.result.gate, c.loop.invariant.count, c.requires.0.memory.few_words, layout-ands _ _ c.layout-l.ensures)

pub loop-preserved : goal.loop-preserved
loop-preserved c =
    let x = c.args in
    let l = c.loop in
    let i = l.invariant in
    let k = ok (goal.at.loop-preserved c).In-loop in
    let e = c.record-r.ensures in
    let n = next-read _ _ _ e in
    let a = c.and_one-t.ensures in
    let left = x.z.gates - l.counter in
    let taken : 0 < left = omega arith in
    let one_less : x.z.gates - (l.counter + 1) ≡ left - 1 = omega arith in
    rw one_less
    record {
      count = ands-turn _ left l.slot l.t c.and_one-t.result _ _ e taken a i.count;
      chain = rw n k.rest;
      reads = rw n (wired-on _ _ _ _ taken i.reads).1;
      same =
          walk_turn _ x.last x.s.now x.z.inputs left l.slot l.t c.and_one-t.result l.memory _ _ _ e taken k.first c.requires.0.chained.laid.inputs
          c.gate.ensures a i.same;
    }

pub returns : goal.returns
returns c =
    let x = c.args in
    sym (walked_end _ _ _ _ _ _ _ (omega arith)) ∙ c.loop.invariant.same
    ∙ ap (λ (k : Layout). walked k x.last x.s.now x.z.gates x.head 0 x.memory.now) c.layout-l.ensures
