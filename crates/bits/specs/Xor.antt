-- XOR of bits: of two, and over the n shares of a value.
-- Assumes nothing.
use Rattle.std.specs.Prelude.{Bool, true, false, not, ℕ, zero, suc}

infixl 32 ◌⊕◌
abbrev pub ◌⊕◌ : Bool → Bool → Bool
true ⊕ b = not b
false ⊕ b = b

-- the XOR of f 0 .. f (n - 1)
unfoldable pub xors : ℕ → (ℕ → Bool) → Bool
xors zero f = false
xors (suc n) f = xors n f ⊕ f n
