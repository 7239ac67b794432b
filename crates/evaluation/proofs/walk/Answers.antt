-- `evaluation::walk` meets its contract. The loop's invariant: the gates that are left, from the values so far, give what all of them give.
-- Assumes nothing.
use mathlib.Core.Path.{◌≡◌, sym, ap, ◌∙◌}
use Prim.Native.Nat.{◌+◌, ◌-◌, ◌<◌}
use native.Mathlib.Omega.{arith}
use Rattle.circuit.specs.Steps.{walked}
use Rattle.circuit.proofs.Run.{within-room, walked_end, wired-on, walk_turn}
use Rattle.circuit.proofs.Chain.{Here, here, inside, next-read, gate-read}
use Rattle.evaluation.proofs.walk.Goals as goal
use Rattle.evaluation.proofs.walk.Goals.{In-loop}

-- some gates are left
left : (c : In-loop) → 0 < c.args.gates - c.loop.counter
left c = omega (arith, c.loop-test.true)

-- what the chain says of the slot in hand
ok : (c : In-loop) → Here c.args.s.now (c.args.gates - c.loop.counter) c.loop.slot
ok c = here _ _ _ (left c) c.loop.invariant.0

pub record-r-requires : goal.record-r-requires
record-r-requires c =
    let k = ok c in
    let l = c.requires.chained.laid in
    inside _ _ _ _ _ l k.first (omega arith)

pub gate_bit-x-requires : goal.gate_bit-x-requires
gate_bit-x-requires c =
    let l = c.loop in
    within-room l.values c.record-r.result.gate (l.auto.values ∙ c.requires.room)
    (rw (gate-read _ _ _ c.record-r.ensures) (wired-on _ _ _ _ (left (goal.at.gate_bit-x-requires c).In-loop) l.invariant.1.0).0)

pub overflow_sub-slot : goal.overflow_sub-slot
overflow_sub-slot c = (ok (goal.at.overflow_sub-slot c).In-loop).first

pub overflow_add-inputs : goal.overflow_add-inputs
overflow_add-inputs c = omega (arith, ok (goal.at.overflow_add-inputs c).In-loop, c.requires)

pub put_bit-requires : goal.put_bit-requires
put_bit-requires c = omega (arith, ok (goal.at.put_bit-requires c).In-loop, c.loop.auto.values, c.requires)

pub loop-preserved : goal.loop-preserved
loop-preserved c =
    let l = c.loop in
    let x = c.args in
    let i = (goal.at.loop-preserved c).In-loop in
    let k = ok i in
    let t = left i in
    let n = next-read _ _ _ c.record-r.ensures in
    let m : x.gates - (l.counter + 1) ≡ x.gates - l.counter - 1 = omega arith in
    rw m (
      rw n k.rest,
      (
        rw n (wired-on _ _ _ _ t l.invariant.1.0).1,
        ap (walked x.s.now (x.gates - l.counter - 1) c.record-r.result.next) c.put_bit.ensures
            ∙ walk_turn x.s.now x.inputs _ l.slot c.gate_bit-x.result l.values _ c.record-r.result c.record-r.ensures t k.first c.requires.chained.laid.inputs c.gate_bit-x.ensures l.invariant.1.1,
      ),
    )

pub returns : goal.returns
returns c = sym (walked_end _ _ _ _ (omega (arith, c.loop-test.false))) ∙ c.loop.invariant.1.1
