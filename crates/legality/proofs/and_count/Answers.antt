-- `legality::and_count` meets its contract. The loop's invariant: the count and the AND gates that are left make up all of them.
-- Assumes nothing.
use mathlib.Core.List.{[]}
use mathlib.Core.Path.{◌≡◌, ap}
use Rattle.std.proofs.Math.Nat.{sub-zero}
use native.Mathlib.Omega.{arith}
use Prim.Native.Nat.{◌+◌, ◌-◌, ◌<◌}
use Rattle.circuit.specs.Circuit.{ands}
use Rattle.circuit.specs.Fields.{field}
use Rattle.circuit.proofs.Slots.{next-read, ands-turn, ands-none, inside, here, Here, gates-end, and_one-le}
use Rattle.legality.proofs.and_count.Goals as goal
use Rattle.legality.proofs.and_count.Goals.{In-loop}

-- what the chain says of the slot in hand
abbrev Ok : (c : In-loop) → Type 0
Ok c = Here (field c.args.f.width c.args.s.now) (c.args.f.gates - c.loop.counter) c.loop.slot

ok : (c : In-loop) → Ok c
ok c = here _ (c.args.f.gates - c.loop.counter) _ (omega arith) c.loop.invariant.1.0

pub loop-init : goal.loop-init
loop-init c = (omega arith, rw (sub-zero c.args.f.gates) (c.requires.chain, omega arith))

pub record_with-r-requires : goal.record_with-r-requires
record_with-r-requires c =
    let k = ok c in
    let l = c.requires.laid in
    inside _ _ _ _ _ _ l k.first (omega arith)

pub overflow_add-count : goal.overflow_add-count
overflow_add-count c = omega (arith, and_one-le c.record_with-r.result.gate)

pub loop-preserved : goal.loop-preserved
loop-preserved c =
    let l = c.loop in
    let k = ok (goal.at.loop-preserved c).In-loop in
    let one : c.args.f.gates - (l.counter + 1) ≡ c.args.f.gates - l.counter - 1 = omega arith in
    let more : 0 < c.args.f.gates - l.counter = omega arith in (
      omega (arith, and_one-le c.record_with-r.result.gate),
      rw one
          (rw (next-read _ _ _ c.record_with-r.ensures) k.rest, ands-turn _ _ _ _ _ _ _ c.record_with-r.ensures more c.and_one-count.ensures l.invariant.1.1),
    )

pub returns : goal.returns
returns c =
    let l = c.loop in
    let e = ap ands (gates-end (field c.args.f.width c.args.s.now) (c.args.f.gates - l.counter) l.slot (omega arith)) in
    let z : ands [] ≡ 0 = ands-none in
    omega (arith, l.invariant.1.1)
