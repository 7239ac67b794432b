-- `legality::is_written` meets its contract.
-- Assumes nothing.
use mathlib.Core.Path.{◌≡◌, refl, ap, ◌∙◌}
use mathlib.Core.Bool.{Bool, true, false}
use Prim.Native.Nat.{ℕ}
use native.Mathlib.Omega.{arith}
use lib.Dec.{eqb}
use borrow.Author.Tests.{lt-ltb, le-ltb}
use Rattle.bits.specs.Bits.{bit_val}
use Rattle.bits.proofs.Packing.{bit_at-end}
use Rattle.circuit.specs.Steps.{seen}
use Rattle.legality.proofs.is_written.Goals as goal

bit-set : (b : Bool) → eqb (bit_val b) 1 ≡ b
bit-set true = refl
bit-set false = refl

pub returns-then-wire-inputs : goal.returns-then-wire-inputs
unfolding seen
returns-then-wire-inputs c = rw (lt-ltb _ _ c.if-wire-inputs.true)

pub returns-then-wire-lt-MAX_WIRES : goal.returns-then-wire-lt-MAX_WIRES
unfolding seen
returns-then-wire-lt-MAX_WIRES c = rw (le-ltb _ _ c.if-wire-inputs.false) (ap (λ (x : ℕ). eqb x 1) c.bit.ensures ∙ bit-set _)

pub returns : goal.returns
unfolding seen
returns c = rw (le-ltb _ _ c.if-wire-inputs.false, bit_at-end c.args.flags.now c.args.wire (omega arith))
