-- `keccak::sponge::absorb_lanes` meets its contract: the loop's invariant is that of the bytes, at a lane's start.
-- Assumes nothing.
use lib.ListN.{drop_of_length-le, length}
use Rattle.keccak.proofs.Steps.{absorbs-segment, joined-full, joined-part}
use Prim.Native.Nat.{◌+◌, ◌≤◌}
use Rattle.keccak.specs.Steps.{absorbs}
use native.Mathlib.Omega.{arith}
use mathlib.Core.Path.{refl, sym, ap, ◌∙◌}
use Rattle.keccak.proofs.sponge.absorb_lanes.Goals as goal

pub loop-i-preserved-then-at-rate : goal.loop-i-preserved-then-at-rate
loop-i-preserved-then-at-rate c =
    let b = c in
    let x = b.args in
    let l = c.loop-i in
    let w : l.i + c.min-m.result ≤ length x.«data».now = omega arith in (
      w,
      (
        omega arith,
        (
          omega arith,
          (
            omega arith,
            absorbs-segment x.rate x.«data».now l.i c.min-m.result l.l _ l.at _ l.invariant.1.1.1.0 (omega arith) w
                c.xor_lanes.ensures
                (joined-full _ _ _ _ _ c.if-at-rate.true c.permute.ensures refl)
                ∙ l.invariant.1.1.1.1,
          ),
        ),
      ),
    )

pub loop-i-preserved : goal.loop-i-preserved
loop-i-preserved c =
    let b = c in
    let x = b.args in
    let l = c.loop-i in
    let w : l.i + c.min-m.result ≤ length x.«data».now = omega arith in (
      w,
      (
        omega arith,
        (
          omega arith,
          (
            omega arith,
            absorbs-segment x.rate x.«data».now l.i c.min-m.result l.l _ l.at _ l.invariant.1.1.1.0 (omega arith) w
                c.xor_lanes.ensures
                (joined-part _ _ _ _ _ c.if-at-rate.false refl refl)
                ∙ l.invariant.1.1.1.1,
          ),
        ),
      ),
    )

pub returns : goal.returns
unfolding absorbs
returns c =
    let x = c.args in
    let l = c.loop-i in
    ap (absorbs x.rate (record { lanes = l.l; fill = l.at })) (sym (drop_of_length-le x.«data».now {i = l.i} (omega arith))) ∙ l.invariant.1.1.1.1
