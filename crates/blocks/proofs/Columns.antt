-- Eight words read from rows or from columns of bytes, and the bytes of their transposition stored: one turn of each loop.
-- Assumes nothing.
use mathlib.Core.Path.{◌≡◌, refl, sym, ap, ap₂, ◌∙◌}
use mathlib.Core.Bool.{Bool, false}
use mathlib.Core.List.{List, [], ◌∷◌}
use mathlib.Core.Logic.{⊎_elim}
use Prim.Native.Nat.{ℕ, zero, suc, ◌+◌, ◌*◌, ◌/◌, ◌%◌, ◌^◌, ◌≤◌, ◌<◌}
use native.Mathlib.Nat.{lt_of_lt_of_le}
use native.Mathlib.Omega.{arith}
use lib.ListN.{get_or, set, replicate}
use lib.Pow.{pow_mono}
use Rattle.bits.specs.Bits.{tabulate, test_bit, from_bits}
use Rattle.bits.specs.Bytes.{le_at}
use Rattle.bits.proofs.Numbers.{ext-bits, from_bits-lt, lt-or-le, test_bit-from_bits, test_bit-high, test_bit-mod, test_bit-shr, test_bit-zero}
use Rattle.bits.proofs.Tabulate.{get_d_tabulate, get_or-tabulate-end}
use Rattle.words.specs.Steps.{at, gathered, turned}
use Rattle.words.proofs.Fill.{fill-at, fill-cong, fill_none, fill-other, fill-turn}
use Rattle.words.proofs.Turns.{blocks, blocks-bit, gathered-bit, le_at-blocks}
use Rattle.blocks.specs.Steps.{row_words, column_words, transposed_rows, stored_column}

-- no byte of the column stored yet
pub column-none : (w : List ℕ) (b j step : ℕ) (m : List ℕ) → m ≡ stored_column 0 w b j step m
unfolding stored_column
column-none w b j step m = fill_none _ _ m

-- one more
pub column-turn : (w : List ℕ) (b j step i : ℕ) (k m : List ℕ) → m ≡ stored_column i w b j step k
    → set m (j + i * step) (at w i / 2 ^ (8 * b) % 256) ≡ stored_column (i + 1) w b j step k
unfolding stored_column
column-turn w b j step i k m e = fill-turn _ _ k m i _ _ e refl refl

-- byte b of word t of 8 transposed words, of which n are not zero there
column-byte : (n : ℕ) (r : List ℕ) (b t : ℕ) (f : ℕ → Bool) → n ≤ 8 → b < 8 → t < 8 → ((p : ℕ) → p < n → test_bit (at r p) (8 * b + t) ≡ f p)
    → ((p : ℕ) → n ≤ p → test_bit (at r p) (8 * b + t) ≡ false) → at (transposed_rows r) t / 2 ^ (8 * b) % 256 ≡ from_bits n f
unfolding transposed_rows
column-byte n r b t f few hb ht some none =
    let row : ℕ → ℕ = λ q. from_bits 64 (λ k. test_bit (at r (k % 8)) (8 * (k / 8) + q)) in
    let x : ℕ = at (tabulate 8 row) t in
    let v : ℕ = x / 2 ^ (8 * b) in
    ext-bits 8 (v % 256) (from_bits n f) (omega arith) (lt_of_lt_of_le (from_bits-lt n f) (pow_mono few))
    (λ p h.
    let q : (8 * b + p) % 8 ≡ p = omega arith in
    let c : 8 * ((8 * b + p) / 8) + t ≡ 8 * b + t = omega arith in
    test_bit-mod v 8 p h ∙ test_bit-shr x (8 * b) p ∙ ap (λ (u : ℕ). test_bit u (8 * b + p)) (get_d_tabulate 8 row t 0 ht)
    ∙ test_bit-from_bits 64 (λ k. test_bit (at r (k % 8)) (8 * (k / 8) + t)) (8 * b + p) (omega arith)
    ∙ ap₂ (λ (i j : ℕ). test_bit (at r i) j) q c
    ∙ ⊎_elim
    (λ m. some p m ∙ sym (test_bit-from_bits n f p m))
    (λ m. none p m ∙ sym (test_bit-high n (from_bits n f) p (from_bits-lt n f) m))
    (lt-or-le p n))

-- a column of 8 transposed words is a byte of each row turned
pub column-turned : (n k : ℕ) (s m v r w : List ℕ) (j step to stride b : ℕ) → n ≤ 8 → k ≤ 8 → b < 8
    → ((p t : ℕ) → p < n → t < 8 → test_bit (at r p) (8 * b + t) ≡ test_bit (at s (j + p * step)) t)
    → ((p t : ℕ) → n ≤ p → test_bit (at r p) (8 * b + t) ≡ false) → w ≡ transposed_rows r → v ≡ stored_column k w b to stride m
    → v ≡ turned n k s j step to stride m
unfolding turned stored_column
column-turned n k s m v r w j step to stride b hn hk hb some none e d =
    d ∙ fill-cong (λ t. to + t * stride) (λ t. at w t / 2 ^ (8 * b) % 256) (λ t. from_bits n (λ p. test_bit (at s (j + p * step)) t)) m k
    (λ t l.
    ap (λ (u : List ℕ). at u t / 2 ^ (8 * b) % 256) e
    ∙ column-byte n r b t (λ p. test_bit (at s (j + p * step)) t) hn hb (omega arith) (λ p h. some p t h (omega arith)) (λ p h. none p t h))

-- the bits of the words of rows
pub row-bits : (n : ℕ) (s : List ℕ) (j step b p t : ℕ) → ((k : ℕ) → get_or s k 0 < 256) → n ≤ 8 → b < 8 → p < n → t < 8
    → test_bit (at (row_words n s j step) p) (8 * b + t) ≡ test_bit (at s (j + b + p * step)) t
unfolding row_words blocks
row-bits n s j step b p t small few hb hp ht =
    let k : ℕ = j + p * step in
    let place : k + b ≡ j + b + p * step = omega arith in
    ap (λ (x : ℕ). test_bit x (8 * b + t))
    (fill-at (λ i. i) (λ i. le_at 8 s (j + i * step)) (replicate 8 0) n p hp (omega arith) (λ u x y. omega arith) ∙ le_at-blocks 8 s k)
    ∙ blocks-bit 8 (λ i. get_or s (k + i) 0) (λ i. small (k + i)) 8 b t hb ht ∙ ap (λ (x : ℕ). test_bit (at s x) t) place

-- zeros all along
replicate-zero : (n p : ℕ) → ◌≡◌ {A = ℕ} (get_or (replicate n 0) p 0) 0
replicate-zero zero p = refl
replicate-zero (suc n) zero = refl
replicate-zero (suc n) (suc p) = replicate-zero n p

pub row-none : (n : ℕ) (s : List ℕ) (j step z p : ℕ) → n ≤ p → test_bit (at (row_words n s j step) p) z ≡ false
unfolding row_words
row-none n s j step z p h =
    ap (λ (x : ℕ). test_bit x z) (fill-other (λ i. i) (λ i. le_at 8 s (j + i * step)) (replicate 8 0) n p (λ t l. omega arith) ∙ replicate-zero 8 p)
    ∙ test_bit-zero z

-- and of the words of columns
pub column-bits : (s : List ℕ) (j b p t : ℕ) → p < 8 → b < 8 → t < 8 → test_bit (at (column_words s j) p) (8 * b + t) ≡ test_bit (at s (j + 64 * b + p * 8)) t
unfolding column_words
column-bits s j b p t hp hb ht =
    let place : j + 8 * p + b * 64 ≡ j + 64 * b + p * 8 = omega arith in
    ap (λ (x : ℕ). test_bit x (8 * b + t)) (get_d_tabulate 8 (λ q. gathered 8 s (j + 8 * q) 64) p 0 hp)
    ∙ gathered-bit 8 s (j + 8 * p) 64 b t hb ht ∙ ap (λ (x : ℕ). test_bit (at s x) t) place

pub column-end : (s : List ℕ) (j z p : ℕ) → 8 ≤ p → test_bit (at (column_words s j) p) z ≡ false
unfolding column_words
column-end s j z p h = ap (λ (x : ℕ). test_bit x z) (get_or-tabulate-end 8 (λ q. gathered 8 s (j + 8 * q) 64) p 0 h) ∙ test_bit-zero z

-- no row read yet
pub rows_none : (s : List ℕ) (j step : ℕ) → replicate 8 0 ≡ row_words 0 s j step
unfolding row_words
rows_none s j step = fill_none _ _ (replicate 8 0)

-- one more
pub rows-turn : (s : List ℕ) (j step i x : ℕ) (r : List ℕ) → r ≡ row_words i s j step → x ≡ le_at 8 s (j + i * step) → set r i x ≡ row_words (i + 1) s j step
unfolding row_words
rows-turn s j step i x r e d = fill-turn _ _ (replicate 8 0) r i i x e refl d

-- one word more before others
more : {x y : ℕ} {l k : List ℕ} → x ≡ y → l ≡ k → x ∷ l ≡ y ∷ k
more p q = ap₂ (λ (u : ℕ) (v : List ℕ). u ∷ v) p q

-- eight words gathered
pub columns-read : (s : List ℕ) (j : ℕ) {a b c d e f g h : ℕ} → a ≡ gathered 8 s j 64 → b ≡ gathered 8 s (j + 8) 64 → c ≡ gathered 8 s (j + 16) 64
    → d ≡ gathered 8 s (j + 24) 64 → e ≡ gathered 8 s (j + 32) 64 → f ≡ gathered 8 s (j + 40) 64 → g ≡ gathered 8 s (j + 48) 64
    → h ≡ gathered 8 s (j + 56) 64 → a ∷ b ∷ c ∷ d ∷ e ∷ f ∷ g ∷ h ∷ [] ≡ column_words s j
unfolding column_words
columns-read s j pa pb pc pd pe pf pg ph =
    let start : j ≡ j + 8 * 0 = omega arith in
    more (pa ∙ ap (λ (i : ℕ). gathered 8 s i 64) start) (more pb (more pc (more pd (more pe (more pf (more pg (more ph refl)))))))
