-- Numbers in byte strings, lowest byte first: `le_at` reads what `le_bytes` writes, for every number of bytes.
-- Assumes nothing.
use mathlib.Core.Path.{◌≡◌, refl, sym, ap, ap₂, ◌∙◌}
use mathlib.Core.List.{List, [], ◌∷◌, ◌++◌}
use mathlib.Core.Logic.{◌⊎◌, inl, inr, ⊎_elim}
use Prim.Native.Nat.{ℕ, zero, suc, ◌+◌, ◌*◌, ◌/◌, ◌%◌, ◌^◌, ◌≤◌, ◌<◌}
use native.Mathlib.Nat.{add-zero, div-div-eq-div-mul, div-one, mul_assoc, one-le-pow, pow-suc, pow-succ', mul-suc, suc-add, zero-add}
use native.Mathlib.Numerals.{add-one}
use native.Mathlib.Omega.{arith}
use lib.Arith.{mod-mul}
use lib.Bits.{bit_or, or_shifted_r}
use lib.ListN.{length, get_or, take, drop, set, length-set}
use lib.Pow.{pow-add, shl_exact}
use lib.Seq.{sets, drop-cons, get_or-set_other, get_or-set_same}
use Rattle.bits.specs.Bytes.{le_at, le_bytes}

-- a number of n bytes is one of 8 n bits
pub pow-bytes : (n : ℕ) → 256 ^ n ≡ 2 ^ (8 * n)
pow-bytes zero = refl
pow-bytes (suc n) = pow-suc 256 n ∙ ap (λ (x : ℕ). x * 256) (pow-bytes n) ∙ sym (ap (λ (k : ℕ). 2 ^ k) (mul-suc 8 n) ∙ pow-add 2 (8 * n) 8)

-- the number in no bytes
pub le_at-zero : (s : List ℕ) (k : ℕ) → le_at 0 s k ≡ 0
unfolding le_at
le_at-zero s k = refl

-- the first byte is the lowest
pub le_at-suc : (n : ℕ) (s : List ℕ) (k : ℕ) → le_at (suc n) s k ≡ get_or s k 0 + 256 * le_at n s (k + 1)
unfolding le_at
le_at-suc n s k = refl

-- the number in one byte
pub le_at-one : (s : List ℕ) (k : ℕ) → le_at 1 s k ≡ get_or s k 0
unfolding le_at
le_at-one s k = omega arith

-- the number in m + n bytes is that in the first m, and above it that in the n after them
pub le_at-add : (m n : ℕ) (s : List ℕ) (k : ℕ) → le_at (m + n) s k ≡ le_at m s k + le_at n s (k + m) * 256 ^ m
unfolding le_at
le_at-add zero n s k =
    let p : le_at (0 + n) s k ≡ le_at n s k = ap (λ (i : ℕ). le_at i s k) (zero-add n) in
    let q : le_at n s (k + 0) ≡ le_at n s k = ap (le_at n s) (add-zero k) in
    omega arith
le_at-add (suc m) n s k =
    let e : le_at (suc m + n) s k ≡ get_or s k 0 + 256 * le_at (m + n) s (k + 1) = ap (λ (i : ℕ). le_at i s k) (suc-add m n) in
    let q : k + 1 + m ≡ k + suc m = omega arith in
    let y = le_at n s (k + suc m) in
    let p : le_at n s (k + 1 + m) * 256 ^ m ≡ y * 256 ^ m = ap (λ (i : ℕ). le_at n s i * 256 ^ m) q in
    let z : y * 256 ^ suc m ≡ y * 256 ^ m * 256 = ap (λ (x : ℕ). y * x) (pow-suc 256 m) ∙ sym (mul_assoc y (256 ^ m) 256) in
    omega (arith, le_at-add m n s (k + 1))

-- the last byte is the highest
pub le_at-last : (n : ℕ) (s : List ℕ) (k : ℕ) → le_at (suc n) s k ≡ le_at n s k + get_or s (k + n) 0 * 256 ^ n
le_at-last n s k = ap (λ (i : ℕ). le_at i s k) (sym (add-one n)) ∙ le_at-add n 1 s k ∙ ap (λ (y : ℕ). le_at n s k + y * 256 ^ n) (le_at-one s (k + n))

-- equal bytes make equal numbers
pub le_at-cong : (n : ℕ) (s t : List ℕ) (k j : ℕ) → ((i : ℕ) → i < n → get_or s (k + i) 0 ≡ get_or t (j + i) 0) → le_at n s k ≡ le_at n t j
le_at-cong zero s t k j h = le_at-zero s k ∙ sym (le_at-zero t j)
le_at-cong (suc n) s t k j h =
    le_at-last n s k ∙ ap₂ (λ (x y : ℕ). x + y * 256 ^ n) (le_at-cong n s t k j (λ i l. h i (omega arith))) (h n (omega arith)) ∙ sym (le_at-last n t j)

-- n bytes make a number below 256 ^ n
pub le_at-lt : (n : ℕ) (s : List ℕ) (k : ℕ) → ((i : ℕ) → get_or s i 0 < 256) → le_at n s k < 256 ^ n
unfolding le_at
le_at-lt zero s k b = omega arith
le_at-lt (suc n) s k b = omega (arith, b k, le_at-lt n s (k + 1) b, pow-suc 256 n)

-- a number of n bytes put above one of m bytes by a shift and an OR, in a word of w bits
pub or_above : (w m n : ℕ) (s : List ℕ) (k x y : ℕ) → ((i : ℕ) → get_or s i 0 < 256) → 8 * n + 8 * m ≤ w → x ≡ le_at m s k → y ≡ le_at n s (k + m)
    → bit_or x (y * 2 ^ (8 * m) % 2 ^ w) ≡ le_at (m + n) s k
or_above w m n s k x y b l p q =
    let hx : x < 2 ^ (8 * m) = omega (arith, le_at-lt m s k b, pow-bytes m) in
    let hy : y < 2 ^ (8 * n) = omega (arith, le_at-lt n s (k + m) b, pow-bytes n) in
    let e : y * 2 ^ (8 * m) ≡ le_at n s (k + m) * 256 ^ m = ap₂ (λ (i j : ℕ). i * j) q (sym (pow-bytes m)) in
    ap (bit_or x) (shl_exact {a = y} (8 * n) (8 * m) w hy l) ∙ or_shifted_r y (8 * m) x hx ∙ omega (arith, le_at-add m n s k)

-- the bytes are n
pub length-le_bytes : (n x : ℕ) → length (le_bytes n x) ≡ n
unfolding le_bytes
length-le_bytes zero x = refl
length-le_bytes (suc n) x = ap suc (length-le_bytes n (x / 256))

-- a byte less, and i bytes less
shift-more : (x i : ℕ) → x / 256 / 256 ^ i ≡ x / 256 ^ suc i
shift-more x i = div-div-eq-div-mul x 256 (256 ^ i) ∙ ap (λ (y : ℕ). x / y) (sym (pow-succ' 256 i))

-- byte i of a number
pub get_or-le_bytes : (n x i : ℕ) → i < n → get_or (le_bytes n x) i 0 ≡ x / 256 ^ i % 256
unfolding le_bytes
get_or-le_bytes zero x i h = absurd (omega arith)
get_or-le_bytes (suc n) x zero h = omega arith
get_or-le_bytes (suc n) x (suc i) h = get_or-le_bytes n (x / 256) i (omega arith) ∙ ap (λ (y : ℕ). y % 256) (shift-more x i)

-- each of them is a byte
pub le_bytes-lt : (n x i : ℕ) → get_or (le_bytes n x) i 0 < 256
unfolding le_bytes
le_bytes-lt zero x i = omega arith
le_bytes-lt (suc n) x zero = omega arith
le_bytes-lt (suc n) x (suc i) = le_bytes-lt n (x / 256) i

-- the bytes of a number are its m lowest, and then those of what is above them
pub le_bytes-add : (m n x : ℕ) → le_bytes (m + n) x ≡ le_bytes m x ++ le_bytes n (x / 256 ^ m)
unfolding le_bytes
le_bytes-add zero n x = ap₂ le_bytes (zero-add n) (sym (div-one x))
le_bytes-add (suc m) n x =
    ap (λ (i : ℕ). le_bytes i x) (suc-add m n)
    ∙ ap (λ (t : List ℕ). x % 256 ∷ t) (le_bytes-add m n (x / 256) ∙ ap (λ (y : ℕ). le_bytes m (x / 256) ++ le_bytes n y) (shift-more x m))

-- a remainder by 256 ^ (n + 1) in two parts
pub mod-bytes : (n x : ℕ) → x % 256 ^ suc n ≡ (x / 256 % 256 ^ n) * 256 + x % 256
mod-bytes n x = ap (λ (y : ℕ). x % y) (pow-suc 256 n) ∙ mod-mul x {m = 256 ^ n} {c = 256} (one-le-pow n 256 (omega arith)) (omega arith)

-- the n lowest bytes are those of the remainder by 256 ^ n
pub le_bytes-mod : (n x : ℕ) → le_bytes n (x % 256 ^ n) ≡ le_bytes n x
unfolding le_bytes
le_bytes-mod zero x = refl
le_bytes-mod (suc n) x =
    let e = mod-bytes n x in
    let p : x % 256 ^ suc n % 256 ≡ x % 256 = omega arith in
    let q : x % 256 ^ suc n / 256 ≡ x / 256 % 256 ^ n = omega arith in
    ap₂ ◌∷◌ p (ap (le_bytes n) q ∙ le_bytes-mod n (x / 256))

-- two runs of stores, one after the other
pub sets-append : {A : Type 0} (a b s : List A) (k : ℕ) → sets s k (a ++ b) ≡ sets (sets s k a) (k + length a) b
sets-append [] b s k = ap (λ (i : ℕ). sets s i b) (sym (add-zero k))
sets-append (x ∷ a) b s k =
    let e : suc k + length a ≡ k + suc (length a) = omega arith in
    sets-append a b (set s k x) (suc k) ∙ ap (λ (i : ℕ). sets (sets (set s k x) (suc k) a) i b) e

-- a number written in two parts: the m lowest bytes, and the n above them
pub write-parts : (m n : ℕ) (s : List ℕ) (k x : ℕ) → sets (sets s k (le_bytes m (x % 256 ^ m))) (k + m) (le_bytes n (x / 256 ^ m)) ≡ sets s k (le_bytes (m + n) x)
write-parts m n s k x =
    let y = le_bytes n (x / 256 ^ m) in
    ap₂ (λ (t : List ℕ) (i : ℕ). sets (sets s k t) (k + i) y) (le_bytes-mod m x) (sym (length-le_bytes m x))
    ∙ sym (ap (sets s k) (le_bytes-add m n x) ∙ sets-append (le_bytes m x) y s k)

-- a byte in front moves every place by one
pub le_at-cons : (n y : ℕ) (s : List ℕ) (k : ℕ) → le_at n (y ∷ s) (suc k) ≡ le_at n s k
le_at-cons n y s k = le_at-cong n (y ∷ s) s (suc k) k (λ i l. ap (λ (j : ℕ). get_or (y ∷ s) j 0) (suc-add k i))

-- what is written is read again
pub le_at-le_bytes : (n x : ℕ) → le_at n (le_bytes n x) 0 ≡ x % 256 ^ n
unfolding le_at le_bytes
le_at-le_bytes zero x = omega arith
le_at-le_bytes (suc n) x =
    let t = le_bytes n (x / 256) in
    omega (arith, mod-bytes n x, le_at-cons n (x % 256) t 0, le_at-le_bytes n (x / 256))

-- what is read is written again
pub le_bytes-le_at : (n : ℕ) (s : List ℕ) (k : ℕ) → ((i : ℕ) → get_or s i 0 < 256) → k + n ≤ length s → le_bytes n (le_at n s k) ≡ take n (drop k s)
unfolding le_at le_bytes
le_bytes-le_at zero s k b h = refl
le_bytes-le_at (suc n) s k b h =
    let y = get_or s k 0 in
    let l = le_at n s (k + 1) in
    let p : (y + 256 * l) % 256 ≡ y = omega (arith, b k) in
    let q : (y + 256 * l) / 256 ≡ l = omega (arith, b k) in
    let e : le_bytes n l ≡ take n (drop (suc k) s) = le_bytes-le_at n s (k + 1) b (omega arith) ∙ ap (λ (i : ℕ). take n (drop i s)) (add-one k) in
    ap₂ ◌∷◌ p (ap (le_bytes n) q ∙ e) ∙ sym (ap (take (suc n)) (drop-cons s k 0 (omega arith)))

module _ {A : Type 0} (d : A) where
  -- what a run of stores from place k on leaves before and after it
  pub get_or-sets-other : (vs s : List A) (k i : ℕ) → (i < k) ⊎ (k + length vs ≤ i) → get_or (sets s k vs) i d ≡ get_or s i d
  get_or-sets-other [] s k i h = refl
  get_or-sets-other (v ∷ vs) s k i h =
      get_or-sets-other vs (set s k v) (suc k) i (⊎_elim (λ l. inl (omega arith)) (λ l. inr (omega arith)) h)
      ∙ get_or-set_other s k i v d (⊎_elim (λ l. omega arith) (λ l. omega arith) h)

  -- and what it stores
  pub get_d_sets : (vs s : List A) (k i : ℕ) → k + length vs ≤ length s → i < length vs → get_or (sets s k vs) (k + i) d ≡ get_or vs i d
  get_d_sets [] s k i h l = absurd (omega arith)
  get_d_sets (v ∷ vs) s k zero h l =
      ap (λ (j : ℕ). get_or (sets (set s k v) (suc k) vs) j d) (add-zero k) ∙ get_or-sets-other vs (set s k v) (suc k) k (inl (omega arith))
      ∙ get_or-set_same s k v d (omega arith)
  get_d_sets (v ∷ vs) s k (suc i) h l =
      let e : k + suc i ≡ suc k + i = omega arith in
      ap (λ (j : ℕ). get_or (sets (set s k v) (suc k) vs) j d) e
      ∙ get_d_sets vs (set s k v) (suc k) i (omega (arith, length-set s k v)) (omega arith)

-- a number written into a string is read there
pub le_at-sets : (n : ℕ) (s : List ℕ) (k x : ℕ) → k + n ≤ length s → le_at n (sets s k (le_bytes n x)) k ≡ x % 256 ^ n
le_at-sets n s k x h =
    let z = length-le_bytes n x in
    le_at-cong n (sets s k (le_bytes n x)) (le_bytes n x) k 0
    (λ i l. get_d_sets 0 (le_bytes n x) s k i (omega arith) (omega arith) ∙ sym (ap (λ (j : ℕ). get_or (le_bytes n x) j 0) (zero-add i)))
    ∙ le_at-le_bytes n x

-- a number that stands before or after what is written is kept
pub le_at-sets-other : (m : ℕ) (vs s : List ℕ) (k j : ℕ) → (j + m ≤ k) ⊎ (k + length vs ≤ j) → le_at m (sets s k vs) j ≡ le_at m s j
le_at-sets-other m vs s k j h =
    le_at-cong m (sets s k vs) s j j
    (λ i l. get_or-sets-other 0 vs s k (j + i) (⊎_elim (λ q. inl (omega arith)) (λ q. inr (omega arith)) h))
