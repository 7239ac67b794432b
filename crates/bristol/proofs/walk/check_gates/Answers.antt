-- `bristol::walk::check_gates` meets its contract. The loop's invariant: the lines that are left, below those whose wires are flagged, give what all of them give.
-- Assumes nothing.
use native.Mathlib.Omega.{arith}
use mathlib.Core.Path.{◌≡◌, refl, sym}
use Prim.Native.Nat.{ℕ, ◌+◌, ◌-◌}
use lib.ListN.{length-replicate}
use Rattle.std.proofs.lemmas.Result.{err_from_is_err_and}
use Rattle.bristol_lines.proofs.Lined.{walked_none, walked-refused, writes-inside, walked_more, walked-over, walked_all}
use Rattle.circuit.specs.Steps.{wire_bytes}
use Rattle.circuit.proofs.Slots.{zero_bits}
use Rattle.bristol.proofs.walk.check_gates.Goals as goal

pub loop-init : goal.loop-init
loop-init c =
    let x = c.args in
    walked_none x.s.now x.z x.c.at _ (length-replicate {A = ℕ} wire_bytes 0) (zero_bits wire_bytes)

pub check_line-requires : goal.check_line-requires
check_line-requires c = (c.loop.invariant.room, c.requires)

pub returns-in_err-wire : goal.returns-in_err-wire
returns-in_err-wire c =
    let x = c.args in
    let p = err_from_is_err_and c.from_residual.result c.from_residual.ensures.1 in
    rw (p.1, p.2) (walked-refused x.s.now x.z x.c.at _ _ _ c.loop.invariant _ (omega arith) c.in_err-wire.ensures)

pub slice_bounds-put_bit-end : goal.slice_bounds-put_bit-end
slice_bounds-put_bit-end c = sym c.loop.invariant.room

pub put_bit-requires : goal.put_bit-requires
put_bit-requires c =
    let x = c.args in
    writes-inside x.s.now x.z x.c.at _ _ _ c.loop.invariant c.requires _ _ c.in_ok-wire.ensures

pub loop-preserved : goal.loop-preserved
loop-preserved c =
    let x = c.args in
    let e : x.z.gates - (c.loop.counter + 1) ≡ x.z.gates - c.loop.counter - 1 = omega arith in
    rw e (walked_more x.s.now x.z x.c.at _ _ _ c.loop.invariant c.requires (omega arith) _ _ c.in_ok-wire.ensures _ c.put_bit.ensures)

pub returns-then-first-s : goal.returns-then-first-s
returns-then-first-s c =
    let x = c.args in
    walked-over x.s.now x.z x.c.at _ _ _ c.loop.invariant (omega arith) _ _ (record { starts = c.next_start-first.ensures; ends = refl }) c.if-first-s.true

pub returns : goal.returns
returns c =
    let x = c.args in
    walked_all x.s.now x.z x.c.at _ _ _ c.loop.invariant (omega arith) _ _ (record { starts = c.next_start-first.ensures; ends = refl }) c.if-first-s.false
