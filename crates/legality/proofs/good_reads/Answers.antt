-- `legality::good_reads` meets its contract. The loop's invariant: the gates that are left, with the wires flagged so far, pass as all of them do.
-- Assumes nothing.
use mathlib.Core.Bool.{Bool, true}
use mathlib.Core.List.{List}
use mathlib.Core.Path.{◌≡◌, sym, ap, ◌∙◌}
use Prim.Native.Nat.{ℕ, ◌+◌, ◌-◌, ◌<◌, ◌≤◌}
use Rattle.std.proofs.Math.Nat.{sub-zero}
use native.Mathlib.Omega.{arith}
use lib.ListN.{length-replicate}
use Rattle.bits.specs.Bits.{odd}
use Rattle.bits.specs.Steps.{put_bit}
use Rattle.bits.proofs.Numbers.{odd-bit_val}
use Rattle.circuit.specs.Fields.{field, reads_written}
use Rattle.circuit.specs.FieldSteps.{gates_from, inputs_first}
use Rattle.circuit.specs.Steps.{wire_bytes, seen}
use Rattle.circuit.proofs.Slots.{next-read, reads-turn, reads-fail, inside, here, Here, gates-end, seen_none}
use Rattle.legality.proofs.good_reads.Goals as goal
use Rattle.legality.proofs.good_reads.Goals.{In-loop}

odd-one : odd 1 ≡ true
odd-one = odd-bit_val true

-- what the chain says of the slot in hand
abbrev Ok : (c : In-loop) → Type 0
Ok c = Here (field c.args.f.width c.args.s.now) (c.args.f.gates - c.loop.counter) c.loop.slot

ok : (c : In-loop) → Ok c
ok c = here _ (c.args.f.gates - c.loop.counter) _ (omega arith) c.loop.invariant.1.0

pub loop-init : goal.loop-init
unfolding inputs_first
loop-init c = (
  length-replicate {A = ℕ} wire_bytes 0,
  rw (sub-zero c.args.f.gates)
      (c.requires.chain, rw (← c.requires.laid.inputs) (ap (λ (f : ℕ → Bool). reads_written f (gates_from (field c.args.f.width c.args.s.now) c.args.f.gates c.args.f.head)) (seen_none _ wire_bytes))),
)

pub record_with-r-requires : goal.record_with-r-requires
record_with-r-requires c =
    let k = ok c in
    let l = c.requires.laid in
    inside _ _ _ _ _ _ l k.first (omega arith)

pub slice_bounds-reads_written-end : goal.slice_bounds-reads_written-end
slice_bounds-reads_written-end c = sym c.loop.invariant.0

pub reads_written-requires : goal.reads_written-requires
reads_written-requires c = c.loop.invariant.0

pub returns-then-not-reads_written : goal.returns-then-not-reads_written
returns-then-not-reads_written c =
    let l = c.loop in
    let t = sym c.reads_written.ensures ∙ c.if-not-reads_written.true in
    let more : 0 < c.args.f.gates - l.counter = omega arith in
    sym (reads-fail _ _ _ _ _ _ c.record_with-r.ensures more t) ∙ l.invariant.1.1

pub slice_bounds-put_bit-end : goal.slice_bounds-put_bit-end
slice_bounds-put_bit-end c = sym c.loop.invariant.0

pub overflow_sub-slot : goal.overflow_sub-slot
overflow_sub-slot c = (ok (goal.at.overflow_sub-slot c).In-loop).first

pub overflow_add-inputs : goal.overflow_add-inputs
overflow_add-inputs c = omega (arith, ok (goal.at.overflow_add-inputs c).In-loop)

pub put_bit-requires : goal.put_bit-requires
put_bit-requires c = omega (arith, ok (goal.at.put_bit-requires c).In-loop)

pub loop-preserved : goal.loop-preserved
loop-preserved c =
    let l = c.loop in
    let x = c in
    let k = ok (goal.at.loop-preserved c).In-loop in
    let t = sym c.reads_written.ensures ∙ c.if-not-reads_written.false in
    let one : x.args.f.gates - (l.counter + 1) ≡ x.args.f.gates - l.counter - 1 = omega arith in
    let more : 0 < x.args.f.gates - l.counter = omega arith in (
      c.put_bit.auto.s ∙ l.invariant.0,
      rw one (
        rw (next-read _ _ _ c.record_with-r.ensures) k.rest,
        ap (λ (f : List ℕ). reads_written (seen x.args.f.inputs f) (gates_from (field x.args.f.width x.args.s.now) (x.args.f.gates - l.counter - 1) c.record_with-r.result.next)) (c.put_bit.ensures ∙ ap (put_bit l.flags (x.args.f.inputs + (l.slot - 1))) odd-one)
            ∙ reads-turn _ _ _ _ _ _ c.record_with-r.ensures more t x.requires.laid.inputs k.first (omega arith)
            ∙ l.invariant.1.1,
      ),
    )

pub returns : goal.returns
unfolding reads_written
returns c =
    let l = c.loop in
    let none : c.args.f.gates - l.counter ≤ 0 = omega arith in
    rw (gates-end _ _ _ none) at l.invariant.1.1
