-- Bytes gathered in a word, transposed and stored, and one turn of each loop that does so.
-- Assumes nothing.
use mathlib.Core.Path.{◌≡◌, refl, sym, ap, ap₂, ◌∙◌}
use mathlib.Core.Bool.{Bool, false}
use mathlib.Core.List.{List}
use mathlib.Core.Logic.{⊎_elim}
use Prim.Native.Nat.{ℕ, zero, suc, ◌+◌, ◌*◌, ◌/◌, ◌%◌, ◌^◌, ◌≤◌, ◌<◌}
use native.Mathlib.Nat.{add_comm, lt_of_lt_of_le, eq-or-lt_of_le, le_of_suc-le-suc, mul-le-mul_left, mul-le-mul_right, mul-suc, suc-mul}
use native.Mathlib.Omega.{arith}
use native.Mathlib.Numerals.{add-one}
use lib.Arith.{digits_lt}
use lib.Bits.{bit_or, or_shifted_r}
use lib.ListN.{get_or, set}
use lib.Pow.{pow-add, pow_mono, pow_pos, shl_exact}
use Rattle.bits.specs.Bits.{test_bit, from_bits}
use Rattle.bits.specs.Bytes.{le_at}
use Rattle.bits.proofs.Little.{le_at-last, le_at-zero, pow-bytes}
use Rattle.bits.proofs.Numbers.{ext-bits, from_bits-cong, from_bits-lt, from_bits-test_bit, lt-or-le, test_bit-block, test_bit-from_bits, test_bit-high, test_bit-low, test_bit-mod, test_bit-shr}
use Rattle.words.proofs.Fill.{fill-cong, fill_none, fill-turn}
use Rattle.words.specs.Steps.{at, fill, transposed, gathered, scattered, turned}
use Rattle.words.proofs.Swaps.{transposed-bit}

-- n numbers of w bits, one above the other
unfoldable pub blocks : ℕ → (ℕ → ℕ) → ℕ → ℕ
blocks w f zero = 0
blocks w f (suc n) = f n * 2 ^ (w * n) + blocks w f n

module _ (w : ℕ) (f : ℕ → ℕ) (small : (i : ℕ) → f i < 2 ^ w) where
  -- they make a number of w n bits
  pub blocks-lt : (n : ℕ) → blocks w f n < 2 ^ (w * n)
  unfolding blocks
  blocks-lt zero = pow_pos (w * 0)
  blocks-lt (suc n) =
      let e : w * suc n ≡ w + w * n = omega (arith, mul-suc w n) in
      rw (e, pow-add 2 w (w * n)) (digits_lt {m = 2 ^ w} {c = 2 ^ (w * n)} (small n) (blocks-lt n))

  -- bit e of number q stands at place w q + e
  pub blocks-bit : (n q e : ℕ) → q < n → e < w → test_bit (blocks w f n) (w * q + e) ≡ test_bit (f q) e
  unfolding blocks
  blocks-bit zero q e l m = absurd (omega arith)
  blocks-bit (suc n) q e l m =
      ⊎_elim
      (λ i. rw i (test_bit-block (f n) (w * n) (blocks w f n) e (blocks-lt n)))
      (λ lt. test_bit-low (f n) (w * n) (blocks w f n) (w * q + e) (omega (arith, mul-suc w q, mul-le-mul_left w lt)) ∙ blocks-bit n q e lt m)
      (eq-or-lt_of_le (le_of_suc-le-suc l))

-- the number in n bytes
pub le_at-blocks : (n : ℕ) (s : List ℕ) (k : ℕ) → le_at n s k ≡ blocks 8 (λ i. get_or s (k + i) 0) n
unfolding blocks
le_at-blocks zero s k = le_at-zero s k
le_at-blocks (suc n) s k =
    le_at-last n s k ∙ ap₂ (λ (x y : ℕ). x + get_or s (k + n) 0 * y) (le_at-blocks n s k) (pow-bytes n) ∙ add_comm _ _

-- n bytes, each above the one before, are the word gathered
pub gather-blocks : (n : ℕ) (s : List ℕ) (j step : ℕ) → ((i : ℕ) → get_or s i 0 < 256) → blocks 8 (λ i. at s (j + i * step)) n ≡ gathered n s j step
unfolding gathered
gather-blocks n s j step h =
    let f : ℕ → ℕ = λ i. at s (j + i * step) in
    let small : (i : ℕ) → f i < 2 ^ 8 = λ i. h (j + i * step) in
    sym (from_bits-test_bit (8 * n) (blocks 8 f n) (blocks-lt 8 f small n))
    ∙ from_bits-cong (8 * n) _ (λ k. test_bit (at s (j + k / 8 * step)) (k % 8))
    (λ k l.
    let i : k ≡ 8 * (k / 8) + k % 8 = omega arith in
    ap (test_bit (blocks 8 f n)) i ∙ blocks-bit 8 f small n (k / 8) (k % 8) (omega arith) (omega arith))

-- the sum of 8 bytes at their places
pub gather-sum : (s : List ℕ) (j step x a b : ℕ) → ((i : ℕ) → get_or s i 0 < 256) → a ≡ get_or s j 0 → b ≡ get_or s (j + step) 0
    → x ≡ a + b * 256 + get_or s (j + 2 * step) 0 * 65536 + get_or s (j + 3 * step) 0 * 16777216 + get_or s (j + 4 * step) 0 * 4294967296
    + get_or s (j + 5 * step) 0 * 1099511627776 + get_or s (j + 6 * step) 0 * 281474976710656 + get_or s (j + 7 * step) 0 * 72057594037927936
    → x ≡ gathered 8 s j step
unfolding blocks
gather-sum s j step x a b h ea eb e =
    let f : ℕ → ℕ = λ i. at s (j + i * step) in
    let p0 : j ≡ j + 0 * step = omega arith in
    let p1 : j + step ≡ j + 1 * step = omega arith in
    let q0 : a ≡ f 0 = ea ∙ ap (at s) p0 in
    let q1 : b ≡ f 1 = eb ∙ ap (at s) p1 in
    let sum : x ≡ blocks 8 f 8 = omega arith in
    sum ∙ gather-blocks 8 s j step h

-- no byte yet
pub gather_none : (f : ℕ → ℕ) → 0 ≡ blocks 8 f 0
unfolding blocks
gather_none f = refl

-- one byte more, put above the others
pub gather-turn : (s : List ℕ) (j step i x b : ℕ) → ((k : ℕ) → get_or s k 0 < 256) → i < 8 → x ≡ blocks 8 (λ k. at s (j + k * step)) i → b ≡ get_or s (j + i * step) 0
    → bit_or x (b * 2 ^ (8 * i) % 2 ^ 64) ≡ blocks 8 (λ k. at s (j + k * step)) (i + 1)
unfolding blocks
gather-turn s j step i x b h l e d =
    let f : ℕ → ℕ = λ k. at s (j + k * step) in
    let small : (k : ℕ) → f k < 2 ^ 8 = λ k. h (j + k * step) in
    let hx : x < 2 ^ (8 * i) = omega (arith, blocks-lt 8 f small i) in
    let hb : b < 2 ^ 8 = omega (arith, small i) in
    ap (bit_or x) (shl_exact {a = b} 8 (8 * i) 64 hb (omega arith)) ∙ or_shifted_r b (8 * i) x hx
    ∙ ap₂ (λ (u v : ℕ). u * 2 ^ (8 * i) + v) d e ∙ rw add-one

-- the place of byte i lies inside
pub place-within : (i n step : ℕ) → i < n → i * step + step ≤ n * step
place-within i n step h = omega (arith, mul-le-mul_right step h, suc-mul i step)

-- a product by 8
pub times_eight : (n step : ℕ) → n ≡ 8 → n * step ≡ 8 * step
times_eight n step e = ap (λ (k : ℕ). k * step) e

-- a bit of the word gathered
pub gathered-bit : (n : ℕ) (s : List ℕ) (j step p t : ℕ) → p < n → t < 8 → test_bit (gathered n s j step) (8 * p + t) ≡ test_bit (at s (j + p * step)) t
unfolding gathered
gathered-bit n s j step p t l m =
    let q : (8 * p + t) / 8 ≡ p = omega arith in
    let r : (8 * p + t) % 8 ≡ t = omega arith in
    test_bit-from_bits (8 * n) (λ k. test_bit (at s (j + k / 8 * step)) (k % 8)) (8 * p + t) (omega arith)
    ∙ ap₂ (λ (u v : ℕ). test_bit (at s (j + u * step)) v) q r

-- and none beyond the last byte
gathered-end : (n : ℕ) (s : List ℕ) (j step z : ℕ) → 8 * n ≤ z → test_bit (gathered n s j step) z ≡ false
unfolding gathered
gathered-end n s j step z h = test_bit-high (8 * n) _ z (from_bits-lt (8 * n) _) h

-- eight stores, each step after the one before
pub eight-fills : (f : ℕ → ℕ) (j step : ℕ) (w : List ℕ)
    → set
    (set (set (set (set (set (set (set w j (f 0)) (j + step) (f 1)) (j + 2 * step) (f 2)) (j + 3 * step) (f 3)) (j + 4 * step) (f 4)) (j + 5 * step) (f 5))
    (j + 6 * step) (f 6)) (j + 7 * step) (f 7)
    ≡ fill (λ t. j + t * step) f 8 w
eight-fills f j step w =
    let pos : ℕ → ℕ = λ t. j + t * step in
    let turn : (k : ℕ) (t : List ℕ) → t ≡ fill pos f k w → set t (pos k) (f k) ≡ fill pos f (k + 1) w = λ k t e. fill-turn pos f w t k (pos k) (f k) e refl refl in
    let first = fill-turn pos f w w 0 j (f 0) (fill_none pos f w) (omega arith) refl in
    let second = fill-turn pos f w _ 1 (j + step) (f 1) first (omega arith) refl in
    turn 7 _ (turn 6 _ (turn 5 _ (turn 4 _ (turn 3 _ (turn 2 _ second)))))

-- the bytes of a word
pub eight-stores : (x j step : ℕ) (w : List ℕ)
    → set
    (set
    (set
    (set
    (set (set (set (set w j (x % 256)) (j + step) (x / 2 ^ 8 % 256)) (j + 2 * step) (x / 2 ^ 16 % 256)) (j + 3 * step) (x / 2 ^ 24 % 256)) (j + 4 * step)
    (x / 2 ^ 32 % 256)) (j + 5 * step) (x / 2 ^ 40 % 256)) (j + 6 * step) (x / 2 ^ 48 % 256)) (j + 7 * step) (x / 2 ^ 56 % 256)
    ≡ scattered 8 x j step w
unfolding scattered
eight-stores x j step w =
    let f : ℕ → ℕ = λ t. x / 2 ^ (8 * t) % 256 in
    let e : x % 256 ≡ f 0 = omega arith in
    rw e (eight-fills f j step w)

-- a byte of the transposed word
turned-byte : (n : ℕ) (s : List ℕ) (j step x y t : ℕ) → n ≤ 8 → t < 8 → x ≡ gathered n s j step → y ≡ transposed x
    → y / 2 ^ (8 * t) % 256 ≡ from_bits n (λ p. test_bit (at s (j + p * step)) t)
turned-byte n s j step x y t few l e f =
    let b : ℕ → Bool = λ p. test_bit (at s (j + p * step)) t in
    let v = y / 2 ^ (8 * t) in
    ext-bits 8 (v % 256) (from_bits n b) (omega arith) (lt_of_lt_of_le (from_bits-lt n b) (pow_mono few))
    (λ p h.
    test_bit-mod v 8 p h ∙ test_bit-shr y (8 * t) p ∙ ap (λ (u : ℕ). test_bit u (8 * t + p)) f ∙ transposed-bit x p t h l
    ∙ ap (λ (u : ℕ). test_bit u (8 * p + t)) e
    ∙ ⊎_elim
    (λ m. gathered-bit n s j step p t m l ∙ sym (test_bit-from_bits n b p m))
    (λ m. gathered-end n s j step (8 * p + t) (omega arith) ∙ sym (test_bit-high n (from_bits n b) p (from_bits-lt n b) m))
    (lt-or-le p n))

-- the bytes of the transposed word
pub turned-word : (n r : ℕ) (s m v : List ℕ) (j step k stride x y : ℕ) → n ≤ 8 → r ≤ 8 → x ≡ gathered n s j step → y ≡ transposed x
    → v ≡ scattered r y k stride m → v ≡ turned n r s j step k stride m
unfolding turned scattered
turned-word n r s m v j step k stride x y hn hr e f g =
    g ∙ fill-cong (λ t. k + t * stride) (λ t. y / 2 ^ (8 * t) % 256) (λ t. from_bits n (λ p. test_bit (at s (j + p * step)) t)) m r
    (λ t l. turned-byte n s j step x y t hn (omega arith) e f)

-- no byte stored yet
pub scatter-none : (x j step : ℕ) (w : List ℕ) → w ≡ scattered 0 x j step w
unfolding scattered
scatter-none x j step w = fill_none _ _ w

-- one byte more
pub scatter-turn : (x j step i : ℕ) (w m : List ℕ) → m ≡ scattered i x j step w
    → set m (j + i * step) (x / 2 ^ (8 * i) % 256) ≡ scattered (i + 1) x j step w
unfolding scattered
scatter-turn x j step i w m e = fill-turn _ _ w m i _ _ e refl refl
