-- `bits::row` meets its contract: a party below the number of whole rows has its row inside, and any other has not.
-- Assumes nothing.
use native.Mathlib.Omega.{arith}
use mathlib.Core.Path.{◌≡◌, sym}
use Prim.Native.Nat.{◌+◌, ◌-◌, ◌*◌}
use lib.ListN.{length}
use Rattle.bits.proofs.Rows.{row-empty, row_inside, row-outside, inside, outside}
use Rattle.bits.proofs.row.Goals as goal

pub returns-then-len-eq0 : goal.returns-then-len-eq0
returns-then-len-eq0 c =
    let x = c.args in
    rw c.if-len-eq0.true (sym (row-empty x.s.now x.party))

pub overflow_mul-a : goal.overflow_mul-a
overflow_mul-a c =
    let x = c.args in
    omega (arith, inside (length x.s.now) x.len x.party (omega arith) c.if-party-s.true)

pub overflow_add-e : goal.overflow_add-e
overflow_add-e c =
    let x = c.args in
    omega (arith, inside (length x.s.now) x.len x.party (omega arith) c.if-party-s.true)

pub slice_bounds-result-end-then-party-s : goal.slice_bounds-result-end-then-party-s
slice_bounds-result-end-then-party-s c =
    let x = c.args in
    inside (length x.s.now) x.len x.party (omega arith) c.if-party-s.true

pub returns-then-party-s : goal.returns-then-party-s
returns-then-party-s c =
    let x = c.args in
    let e : x.party * x.len + x.len - x.party * x.len ≡ x.len = omega arith in
    let i = inside (length x.s.now) x.len x.party (omega arith) c.if-party-s.true in
    rw e (sym (row_inside x.s.now x.len x.party i))

pub returns-else-party-s : goal.returns-else-party-s
returns-else-party-s c =
    let x = c.args in
    sym (row-outside x.s.now x.len x.party (outside (length x.s.now) x.len x.party (omega arith) c.if-party-s.false))
