-- `masks::chain::walk` meets its contract. The loop's invariant: the gates that are left, from the memory so far, give what all of them give;
-- the byte at hand has the corrections of the last byte that is begun.
-- Assumes nothing.
use native.Mathlib.Omega.{arith}
use mathlib.Core.Path.{◌≡◌, sym, ap, ◌∙◌}
use Prim.Native.Nat.{◌+◌, ◌-◌, ◌<◌}
use Rattle.circuit.specs.File.{inputs_of}
use Rattle.circuit.specs.Steps.{and_one}
use Rattle.circuit.proofs.Chain.{Here, here, inside, gate-read, next-read, and_one-le}
use Rattle.circuit.proofs.Run.{wired-on}
use Rattle.masks.proofs.Turns.{ands-here, turn-asks, joint-end, joint-turn, count_turn, begun-turn}
use Rattle.masks.proofs.Joint.{ready-parts}
use Rattle.masks.proofs.chain.walk.Goals as goal
use Rattle.masks.proofs.chain.walk.Goals.{In-loop}

-- what the chain says of the slot in hand
abbrev Ok : (c : In-loop) → Type 0
Ok c = Here c.args.s.now (c.args.z.gates - c.loop.counter) c.loop.slot

ok : (c : In-loop) → Ok c
ok c = here _ _ _ (omega arith) c.loop.invariant.chain

pub record-r-requires : goal.record-r-requires
record-r-requires c =
    let k = ok c in
    let l = c.requires.chained.laid in
    inside _ _ _ _ _ l k.first (omega (arith, k.low, l.gates))

pub overflow_sub-out : goal.overflow_sub-out
overflow_sub-out c = (ok (goal.at.overflow_sub-out c).In-loop).first

pub overflow_add-out : goal.overflow_add-out
overflow_add-out c = omega (arith, ok (goal.at.overflow_add-out c).In-loop, c.requires.chained.laid)

pub pass-p-requires : goal.pass-p-requires
pass-p-requires c =
    let p = c.requires in
    let l = c.loop in
    let i = l.invariant in
    let k = ok (goal.at.pass-p-requires c).In-loop in
    let laid = p.chained.laid in
    turn-asks _ _ _ _ _ _ _ _ l.memory _ _ l.t _ p l.auto.memory i.count (omega arith) i.reads
    c.record-r.ensures (omega (arith, k.low, k.first, laid.gates)) (omega (arith, i.low, laid)) (omega arith) i.begun

pub loop-preserved : goal.loop-preserved
loop-preserved c =
    let l = c.loop in
    let i = l.invariant in
    let k = ok (goal.at.loop-preserved c).In-loop in
    let p = c.requires in
    let laid = p.chained.laid in
    let z = c.args.z in
    let s = c.args.s.now in
    let e = c.record-r.ensures in
    let n = next-read _ _ _ e in
    let left = z.gates - l.counter in
    let taken : 0 < left = omega arith in
    let one_less : z.gates - (l.counter + 1) ≡ left - 1 = omega arith in
    let out : z.inputs + (l.slot - 1) ≡ inputs_of s + l.slot - 1 = omega (arith, k.first, laid.inputs) in
    let m = c.pass-p.ensures.memory_after in
    let r = c.pass-p.ensures.ands_value.0 in
    let more = ands-here s left l.slot taken in
    let one = ap and_one (gate-read _ _ _ e) in
    rw one_less
    record {
      low = omega (arith, r, i.low, and_one-le c.record-r.result.gate);
      count = count_turn _ _ _ _ _ _ _ _ _ _ _ _ e taken out m r i.count;
      chain = rw n k.rest;
      reads = rw n (wired-on _ _ _ _ taken i.reads).1;
      begun =
          begun-turn _ _ _ _ _ _ _ _ _ _ _ _ e taken out m r _ _ _ c.pass-p.ensures.ands_value.1 i.begun (omega (arith, k.first, k.low, laid, p.row))
          (omega (arith, one, more, i.count)) (omega (arith, p.room, l.auto.memory));
      same = joint-turn _ _ _ _ _ _ _ _ _ _ _ _ e taken out m r _ i.same;
    }

pub returns : goal.returns
returns c = sym (joint-end _ _ _ _ _ _ _ _ (omega arith)) ∙ c.loop.invariant.same ∙ ready-parts _ _ _ _ _ c.requires
