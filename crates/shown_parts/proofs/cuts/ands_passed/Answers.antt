-- `shown_parts::cuts::ands_passed` meets its contract. The loop's invariant: the count and the AND gates up to the cut make up all of them.
-- Assumes nothing.
use mathlib.Core.List.{[]}
use mathlib.Core.Path.{◌≡◌, ap, ◌∙◌}
use Prim.Native.Nat.{ℕ, ◌+◌, ◌-◌, ◌<◌}
use Rattle.std.proofs.Math.Nat.{sub-zero}
use native.Mathlib.Omega.{arith}
use Rattle.circuit.specs.Circuit.{ands}
use Rattle.circuit.specs.Steps.{walks}
use Rattle.circuit.proofs.Chain.{next-read, ands-turn, ands-none, inside, here, Here, gates-end, and_one-le}
use Rattle.shown_parts.proofs.cuts.ands_passed.Goals as goal
use Rattle.shown_parts.proofs.cuts.ands_passed.Goals.{In-loop}

-- what the chain says of the slot in hand
abbrev Ok : (c : In-loop) → Type 0
Ok c =
    let x = c.args in
    Here x.s.now ((x.cut - c.loop.counter) + (x.z.gates - x.cut)) c.loop.slot

ok : (c : In-loop) → Ok c
ok c =
    let x = c.args in
    let e : x.cut + (x.z.gates - x.cut) ≡ x.z.gates = omega arith in
    here _ _ _ (omega arith) (c.loop.invariant.1.0 _ (ap (λ (n : ℕ). walks x.s.now n x.head) e ∙ c.requires.0.chain))

pub loop-init : goal.loop-init
loop-init c =
    (omega arith, rw (sub-zero c.args.cut) (λ k w. w, omega arith))

pub record-r-requires : goal.record-r-requires
record-r-requires c =
    let k = ok c in
    let l = c.requires.0.laid in
    inside _ _ _ _ _ l k.first (omega arith)

pub overflow_add-count : goal.overflow_add-count
overflow_add-count c = omega (arith, and_one-le c.record-r.result.gate)

pub loop-preserved : goal.loop-preserved
loop-preserved c =
    let l = c.loop in
    let n : ℕ = c.args.cut - l.counter in
    let more : 0 < n = omega arith in
    let one : c.args.cut - (l.counter + 1) ≡ n - 1 = omega arith in
    let e : (k : ℕ) → n - 1 + k ≡ n + k - 1 = λ k. omega arith in (
      omega (arith, and_one-le c.record-r.result.gate),
      rw one (
        λ k w. rw (next-read _ _ _ c.record-r.ensures, e k) (here _ (n + k) _ (omega arith) (l.invariant.1.0 k w)).rest,
        ands-turn _ n _ _ _ _ _ c.record-r.ensures more c.and_one-count.ensures l.invariant.1.1,
      ),
    )

pub returns : goal.returns
returns c =
    let l = c.loop in
    let e = ap ands (gates-end c.args.s.now (c.args.cut - l.counter) l.slot (omega arith)) in
    let z : ands [] ≡ 0 = ands-none in
    omega (arith, l.invariant.1.1)
