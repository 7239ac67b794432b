-- `choice::make_room` meets its contract: the loop's invariant is that the instances from place k on have gone up by one, and are above the new one.
-- Assumes nothing.
use native.Mathlib.Omega.{arith}
use mathlib.Core.Path.{◌≡◌}
use Prim.Native.Nat.{◌+◌, ◌-◌}
use Rattle.choice.proofs.Choosing.{moved_none, moved_down, room-below}
use Rattle.choice.proofs.make_room.Goals as goal

pub loop-k-init : goal.loop-k-init
loop-k-init c = moved_none c.args.t c.args.x c.args.chosen.now c.requires.0

pub returns-then-c-x : goal.returns-then-c-x
returns-then-c-x c =
    let x = c.args in
    let l = c.loop-k in
    let s : l.k - 1 + 1 ≡ l.k = omega arith in
    rw s
    (room-below x.t x.x x.chosen.now l.k l.chosen c.requires.0 l.invariant
    (λ j q. let e : j ≡ l.k - 1 = omega (arith, q) in rw e (omega arith)))

pub loop-k-preserved : goal.loop-k-preserved
loop-k-preserved c =
    let x = c.args in
    let l = c.loop-k in
    let s : l.k - 1 + 1 ≡ l.k = omega arith in
    rw s (moved_down x.t x.x x.chosen.now l.k l.chosen c.requires.0 (omega arith) l.invariant (omega arith))

pub returns : goal.returns
returns c =
    let x = c.args in
    let l = c.loop-k in
    let z : l.k ≡ 0 = omega (arith, c.loop-k-test.false) in
    room-below x.t x.x x.chosen.now 0 l.chosen c.requires.0 (rw z at l.invariant) (λ j q. absurd (omega (arith, q)))
