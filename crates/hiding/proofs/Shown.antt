-- What bytes show of bits: packed bits read back, and the row of the cut after all gates.
-- Assumes nothing.
use mathlib.Core.Path.{◌≡◌, sym, ap, ◌∙◌}
use mathlib.Core.Bool.{Bool, false}
use mathlib.Core.List.{List}
use Prim.Native.Nat.{ℕ, ◌+◌, ◌<◌}
use native.Mathlib.Omega.{arith}
use borrow.Author.Tests.{le-ltb}
use lib.ListN.{length, get_or}
use Rattle.bits.specs.Bits.{tabulate, pack, unpack}
use Rattle.bits.proofs.Packing.{unpack-pack}
use Rattle.bits.proofs.Tabulate.{get_d_tabulate}
use Rattle.circuit.specs.Circuit.{Circuit}
use Rattle.plain.specs.Tapes.{ands_of}
use Rattle.plain.specs.Showing.{honest_run, row_bits, shown_bits, first_bits}
use Rattle.plain.proofs.Lengths.{first-all, length-honest}

-- packed bits of one number are equal if their bytes are
pub pack-injective : (a b : List Bool) → length a ≡ length b → pack a ≡ pack b → a ≡ b
pack-injective a b l e = sym (unpack-pack a) ∙ (λ j. unpack (l j) (e j)) ∙ unpack-pack b

-- a list given place by place fixes its places
pub tabulate-injective : (n : ℕ) (f g : ℕ → Bool) → tabulate n f ≡ tabulate n g → (k : ℕ) → k < n → f k ≡ g k
tabulate-injective n f g e k h =
    sym (get_d_tabulate n f k false h) ∙ ap (λ (l : List Bool). get_or l k false) e ∙ get_d_tabulate n g k false h

-- the cut after all gates shows all bits
shown-all : (c : Circuit) → shown_bits c (length c.gates) ≡ ands_of c + length c.outputs
unfolding shown_bits
shown-all c = rw (le-ltb (length c.gates) (length c.gates) (omega arith))

-- is shown whole
pub row-all : (c : Circuit) (n p : ℕ) (w tapes : List ℕ)
    → first_bits (shown_bits c (length c.gates)) (row_bits (honest_run c n w tapes) p) ≡ row_bits (honest_run c n w tapes) p
row-all c n p w tapes =
    first-all (shown_bits c (length c.gates)) (row_bits (honest_run c n w tapes) p) (length-honest c n p w tapes ∙ sym (shown-all c))
