-- `keccak::sponge::absorb_in` meets its contract: the three parts of the slice, one after the other.
-- Assumes nothing.
use Prim.Native.Nat.{◌%◌, ℕ, ◌-◌, ◌<◌}
use lib.Seq.{length-take-le}
use lib.ListN.{take, length-take, length-drop, length}
use Rattle.keccak.specs.Steps.{sponge_of}
use Rattle.keccak.proofs.Steps.{absorbs-room, absorbs-aligned, absorbs-parts}
use native.Mathlib.Omega.{arith}
use mathlib.Core.Path.{◌≡◌, ap}
use Rattle.keccak.specs.declared.sponge.Sponge.{Sponge}
use Rattle.keccak.proofs.sponge.absorb_in.Goals as goal

pub absorb_lanes-b-requires : goal.absorb_lanes-b-requires
absorb_lanes-b-requires c =
    let b = c in
    let x = b.args in
    let some : 0 < x.rate = omega arith in
    let h : ℕ = (8 - x.fill % 8) % 8 in
    let A = take h x.«data».now in
    let n : length A ≡ h = length-take-le h x.«data».now (omega arith) in (
      omega arith,
      (
        omega arith,
        (
          rw (ap (λ (t : Sponge). t.fill) c.absorb_bytes-a.ensures) (omega (arith, absorbs-aligned x.rate some b.requires.1.0 A (sponge_of x.l.now x.fill) b.requires.1.1)),
          (rw (ap (λ (t : Sponge). t.fill) c.absorb_bytes-a.ensures) (absorbs-room x.rate some A (sponge_of x.l.now x.fill) b.requires.1.1), simp (length-take, length-drop) (omega arith)),
        ),
      ),
    )

pub absorb_bytes-requires-2 : goal.absorb_bytes-requires-2
absorb_bytes-requires-2 c =
    let b = c in
    let x = b.args in
    let some : 0 < x.rate = omega arith in (
      omega arith,
      rw (ap (λ (t : Sponge). t.fill) c.absorb_lanes-b.ensures)
          (absorbs-room x.rate some _ _
          (rw (ap (λ (t : Sponge). t.fill) c.absorb_bytes-a.ensures) (absorbs-room x.rate some _ (sponge_of x.l.now x.fill) b.requires.1.1))),
    )

pub returns : goal.returns
returns c =
    let x = c.args in
    let n = length x.«data».now in
    let h : ℕ = (8 - x.fill % 8) % 8 in
    absorbs-parts x.rate (sponge_of x.l.now x.fill) _ _ _ x.«data».now h (n - (n - h) % 8) (omega arith) (omega arith)
    c.absorb_bytes-a.ensures
    c.absorb_lanes-b.ensures
    c.absorb_bytes-2.ensures
