-- What only the contracts of steps use: no definition of the paper stands here.
-- Assumes nothing.
use Rattle.std.specs.Prelude.{List, [], ◌∷◌, ◌++◌, ℕ, ◌+◌, ◌*◌, ◌/◌, ◌%◌, ◌^◌, replicate}
use Rattle.std.specs.Int.Bits.{bit_xor, bit_and}
use Rattle.bits.specs.Bits.{tabulate, test_bit, from_bits}
use Rattle.bits.specs.Bytes.{le_at}
use Rattle.words.specs.Steps.{at, fill, gathered}

-- 8 bytes of s, from j on, as a number, and each step after it, n in all; zeros for the rest of 8
unfoldable pub row_words : ℕ → List ℕ → ℕ → ℕ → List ℕ
row_words n s j step = fill (λ p. p) (λ p. le_at 8 s (j + p * step)) n (replicate 8 0)

-- the byte of s at j, and every 64th after it, as a word, and the same from every 8th byte after j, 8 words in all
unfoldable pub column_words : List ℕ → ℕ → List ℕ
column_words s j = tabulate 8 (λ t. gathered 8 s (j + 8 * t) 64)

-- two words, the bits of x at the d places above those of m exchanged for those of y at the places of m
unfoldable pub exchanged_pair : ℕ → ℕ → ℕ → ℕ → List ℕ
exchanged_pair m d x y =
    let t : ℕ = bit_and (bit_xor (x / 2 ^ d) y) m in
    bit_xor x (t * 2 ^ d % 2 ^ 64) ∷ bit_xor y t ∷ []

-- words i and i + 4 of 8 so exchanged, as words 2 i and 2 i + 1
unfoldable pub exchanged : ℕ → ℕ → List ℕ → List ℕ
exchanged m d r =
    exchanged_pair m d (at r 0) (at r 4) ++ exchanged_pair m d (at r 1) (at r 5) ++ exchanged_pair m d (at r 2) (at r 6)
    ++ exchanged_pair m d (at r 3) (at r 7)

-- of 8 words, bit t of byte b of word p at bit p of byte b of word t
unfoldable pub transposed_rows : List ℕ → List ℕ
transposed_rows r = tabulate 8 (λ t. from_bits 64 (λ k. test_bit (at r (k % 8)) (8 * (k / 8) + t)))

-- byte b of each of the first n of 8 words at j, and each step after the one before
unfoldable pub stored_column : ℕ → List ℕ → ℕ → ℕ → ℕ → List ℕ → List ℕ
stored_column n w b j step m = fill (λ t. j + t * step) (λ t. at w t / 2 ^ (8 * b) % 256) n m
