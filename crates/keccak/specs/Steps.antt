-- What only the contracts of steps use, beside the sponge byte by byte of Streaming.antt, which is passed on.
-- Assumes nothing.
use Rattle.std.specs.Prelude.{◌≡◌, List, [], ◌∷◌, ℕ, zero, suc, ◌+◌, ◌-◌, length}
use Rattle.keccak.specs.declared.sponge.Sponge.{Sponge}
use Rattle.keccak.specs.declared.sponge.Squeezed.{Squeezed}
unfoldable pub use Rattle.keccak.specs.Streaming.{permuted, byte_at, xor_byte, empty, turned, absorb_byte, absorbs, padded, squeeze_byte, squeezes}

-- the sponge of these lanes, with that many bytes taken of the present block
abbrev pub sponge_of : List ℕ → ℕ → Sponge
sponge_of l n = record { lanes = l; fill = n }

-- the lanes with bytes XORed in, from byte k of the state on
unfoldable pub xor_bytes : List ℕ → ℕ → List ℕ → List ℕ
xor_bytes l k [] = l
xor_bytes l k (b ∷ M) = xor_bytes (xor_byte l k b) (k + 1) M

-- the padding is taken in: the block is full, and not yet permuted
unfoldable pub closed : ℕ → ℕ → Sponge → Sponge
closed rate first s = record { lanes = xor_byte (xor_byte s.lanes s.fill first) (rate - 1) 0x80; fill = rate }

-- the byte at the fill, beside the sponge after it
abbrev pub given_byte : Sponge → Squeezed
given_byte s = record { sponge = record { lanes = s.lanes; fill = s.fill + 1 }; byte = byte_at s.lanes s.fill }

-- the sponge after the next n bytes
unfoldable pub squeezed : ℕ → ℕ → Sponge → Sponge
squeezed rate zero s = s
squeezed rate (suc n) s = squeezed rate n (squeeze_byte rate s).sponge

-- what giving out as many bytes as the lent slice has leaves: the sponge after them, and the slice holding them
pub record Given (rate : ℕ) (s : Sponge) (lent : List ℕ) (after : Sponge) (left : List ℕ) : Type 0 where
  pub sponge : after ≡ squeezed rate (length lent) s
  pub bytes : left ≡ squeezes rate (length lent) s
