-- `bits::write_u16` meets its contract: the two stores are those of the number's bytes.
-- Assumes nothing.
use native.Mathlib.Omega.{arith}
use mathlib.Core.Path.{◌≡◌, ap₂}
use Prim.Native.Nat.{ℕ, ◌/◌, ◌%◌}
use lib.ListN.{set, length-set}
use native.Mathlib.Numerals.{add-one}
use Rattle.bits.specs.Bytes.{le_bytes}
use Rattle.bits.proofs.write_u16.Goals as goal

pub bounds-s-at-2 : goal.bounds-s-at-2
bounds-s-at-2 c = simp length-set (omega arith)

pub returns : goal.returns
unfolding le_bytes
returns c =
    let a = c.args in
    let e : a.x / 256 ≡ a.x / 256 % 256 = omega arith in
    ap₂ (λ (i y : ℕ). set (set a.s.now a.at (a.x % 256)) i y) (add-one a.at) e
