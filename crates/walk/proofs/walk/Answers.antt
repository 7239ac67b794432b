-- `walk::walk` meets its contract. The loop's invariant: the gates that are left, from the memory so far, give what all of them give.
-- Assumes nothing.
use native.Mathlib.Omega.{arith}
use mathlib.Core.Path.{◌≡◌, sym, ap, ◌∙◌}
use Prim.Native.Nat.{◌+◌, ◌-◌, ◌<◌}
use Rattle.circuit.proofs.Chain.{Here, here, inside, next-read, gate-read, ands-turn}
use Rattle.circuit.proofs.Run.{wired-on}
use Rattle.planes.specs.declared.Layout.{Layout}
use Rattle.gates.proofs.Steps.{room-kept}
use Rattle.walk.specs.Steps.{walked}
use Rattle.walk.proofs.Turns.{layout-room, layout-wires, walked_end, walk_turn}
use Rattle.walk.proofs.walk.Goals.{In-loop}
use Rattle.walk.proofs.walk.Goals as goal

-- what the chain says of the slot in hand
abbrev Ok : (c : In-loop) → Type 0
Ok c = Here c.args.s.now (c.args.z.gates - c.loop.counter) c.loop.slot

ok : (c : In-loop) → Ok c
ok c = here _ _ _ (omega arith) c.loop.invariant.chain

pub record-r-requires : goal.record-r-requires
record-r-requires c =
    let k = ok c in
    let l = c.requires.chained.laid in
    inside _ _ _ _ _ l k.first (omega (arith, k.low, l.gates))

pub overflow_sub-slot : goal.overflow_sub-slot
overflow_sub-slot c = (ok (goal.at.overflow_sub-slot c).In-loop).first

pub overflow_add-z : goal.overflow_add-z
overflow_add-z c =
    let l = c.requires.chained.laid in
    omega (arith, ok (goal.at.overflow_add-z c).In-loop, l.gates, l.few_inputs, l.few_gates)

pub gate-requires : goal.gate-requires
gate-requires c =
    let z = c.requires in
    let l = c.loop in
    let k = ok (goal.at.gate-requires c).In-loop in
    let a = z.chained.laid in
    let wires = layout-wires _ _ c.layout-l.ensures in (
      record {
        memory = room-kept _ _ _ l.auto.memory (layout-room _ _ c.layout-l.ensures _ z.memory);
        first = omega (arith, k.first, k.low, a.gates, wires);
        second = omega (arith, k.first, k.low, a.gates, wires);
        output = omega (arith, k.first, k.low, a.gates, wires);
        order = omega (arith, l.invariant.count);
      },
      rw (gate-read _ _ _ c.record-r.ensures) (wired-on _ _ _ _ (omega arith) l.invariant.reads).0,
    )

pub loop-preserved : goal.loop-preserved
loop-preserved c =
    let x = c.args in
    let l = c.loop in
    let i = l.invariant in
    let k = ok (goal.at.loop-preserved c).In-loop in
    let e = c.record-r.ensures in
    let n = next-read _ _ _ e in
    let a = c.and_one-t.ensures in
    let left = x.z.gates - l.counter in
    let taken : 0 < left = omega arith in
    let one_less : x.z.gates - (l.counter + 1) ≡ left - 1 = omega arith in
    rw one_less
    record {
      count = ands-turn _ left l.slot l.t c.and_one-t.result _ _ e taken a i.count;
      chain = rw n k.rest;
      reads = rw n (wired-on _ _ _ _ taken i.reads).1;
      same =
          walk_turn _ x.hidden x.s.now x.z.inputs left l.slot l.t c.and_one-t.result l.memory _ _ _ e taken k.first c.requires.chained.laid.inputs c.gate.ensures a
          i.same;
    }

pub returns : goal.returns
returns c =
    let x = c.args in
    sym (walked_end _ _ _ _ _ _ _ (omega arith)) ∙ c.loop.invariant.same
    ∙ ap (λ (k : Layout). walked k x.hidden x.s.now x.z.gates x.head 0 x.memory.now) c.layout-l.ensures
