-- The sponge taken in and given out byte by byte, on 25 lanes and the number of bytes taken of the present block.
-- `proofs/Absorbing.antt` and `Squeezing.antt` show that this makes the functions of Sponge.antt.
-- Assumes nothing.
use Rattle.std.specs.Prelude.{cond, List, [], ◌∷◌, ℕ, zero, suc, ◌+◌, ◌-◌, ◌*◌, ◌/◌, ◌%◌, ◌^◌, eqb, get_or, set, replicate}
use Rattle.std.specs.Int.Bits.{bit_xor}
use Rattle.keccak.specs.declared.sponge.Sponge.{Sponge}
use Rattle.keccak.specs.declared.sponge.Squeezed.{Squeezed}
use Rattle.permutation.specs.Permutation.{lanes, lane_array, rounds}

-- Keccak-f[1600] on lanes
abbrev pub permuted : List ℕ → List ℕ
permuted l = lanes (rounds 24 (lane_array l))

-- byte k of the state is byte k mod 8 of lane k / 8, lowest first
unfoldable pub byte_at : List ℕ → ℕ → ℕ
byte_at l k = get_or l (k / 8) 0 / 2 ^ (8 * (k % 8)) % 256

-- the lanes with b XORed into byte k of the state
unfoldable pub xor_byte : List ℕ → ℕ → ℕ → List ℕ
xor_byte l k b = set l (k / 8) (bit_xor (get_or l (k / 8) 0) (b * 2 ^ (8 * (k % 8))))

-- the sponge before the first byte
unfoldable pub empty : Sponge
empty = record { lanes = replicate 25 0; fill = 0 }

-- a full block is followed by the permutation and an empty one
unfoldable pub turned : ℕ → Sponge → Sponge
turned rate s = cond (eqb s.fill rate) (record { lanes = permuted s.lanes; fill = 0 }) s

-- one byte is taken in
unfoldable pub absorb_byte : ℕ → Sponge → ℕ → Sponge
absorb_byte rate s b = turned rate (record { lanes = xor_byte s.lanes s.fill b; fill = s.fill + 1 })

-- the bytes are taken in one after the other
unfoldable pub absorbs : ℕ → Sponge → List ℕ → Sponge
absorbs rate s [] = s
absorbs rate s (b ∷ M) = absorbs rate (absorb_byte rate s b) M

-- the padding: its first byte at the fill, its last bit at the end of the block, and the permutation
unfoldable pub padded : ℕ → ℕ → Sponge → Sponge
padded rate first s =
    record { lanes = permuted (xor_byte (xor_byte s.lanes s.fill first) (rate - 1) 0x80); fill = 0 }

-- one byte is given out, beside the sponge after it
unfoldable pub squeeze_byte : ℕ → Sponge → Squeezed
squeeze_byte rate s =
    let t : Sponge = turned rate s in
    record { sponge = record { lanes = t.lanes; fill = t.fill + 1 }; byte = byte_at t.lanes t.fill }

-- the next n bytes
unfoldable pub squeezes : ℕ → ℕ → Sponge → List ℕ
squeezes rate zero s = []
squeezes rate (suc n) s = (squeeze_byte rate s).byte ∷ squeezes rate n (squeeze_byte rate s).sponge
