-- Bits in byte strings: packing and unpacking, the unused bits, and one bit put.
-- Assumes nothing.
use mathlib.Core.Path.{◌≡◌, refl, sym, ap, ap₂, ◌∙◌, subst⁻¹}
use mathlib.Core.Bool.{Bool, true, false}
use mathlib.Core.List.{List, [], ◌∷◌}
use mathlib.Core.Logic.{◌↔◌, ⊎_elim, ◌≢◌}
use Prim.Native.Nat.{ℕ, zero, suc, ◌+◌, ◌-◌, ◌*◌, ◌/◌, ◌%◌, ◌^◌, ◌≤◌, ◌<◌}
use native.Mathlib.Nat.{add-zero, mod-lt, pow-succ'}
use native.Mathlib.Numerals.{one-add}
use native.Mathlib.Omega.{arith}
use borrow.Author.Tests.{eq-eqb, eqb-true}
use lib.Arith.{digits_lt}
use lib.Bits.{bit_or}
use lib.Dec.{eqb}
use lib.ListN.{length, get_or, set, length-set, get_or-eq_default}
use lib.Pow.{mod-pow-add, pow-add, pow_pos, shl_exact, shr_le, shr_lt, split}
use lib.Seq.{ext_get_or, get_or-set_same, get_or-set_other, set_out}
use Rattle.bits.specs.Bits.{tabulate, bit_val, odd, test_bit, from_bits, bit_at, oct, pack, unpack, none, unused_zero}
use Rattle.bits.specs.Steps.{put_bit}
use Rattle.bits.proofs.Numbers.{lt-or-le, eq-or-ne, bit-at, bit_val-lt, ext-bits, from_bits-lt, mod-two, test_bit-bit_val, test_bit-block, test_bit-from_bits, test_bit-high, test_bit-low, test_bit-mod, test_bit-shr, test_bit-zero}
use Rattle.bits.proofs.Tabulate.{length-tabulate, get_d_tabulate, get_or-tabulate-end, tabulate-cong, tabulate-get_or}
use Rattle.bits.proofs.Bitwise.{or-zero, zero_or}
use Rattle.bits.proofs.Tests.{test-eq}

-- bit t of byte j
pub bit_at-byte : (s : List ℕ) (j t : ℕ) → t < 8 → bit_at s (8 * j + t) ≡ test_bit (get_or s j 0) t
unfolding bit_at
bit_at-byte s j t h =
    let p : (8 * j + t) / 8 ≡ j = omega arith in
    let q : (8 * j + t) % 8 ≡ t = omega arith in
    ap₂ (λ (x y : ℕ). test_bit (get_or s x 0) y) p q

-- beyond the end of a string no bit is set
pub bit_at-end : (s : List ℕ) (i : ℕ) → 8 * length s ≤ i → bit_at s i ≡ false
unfolding bit_at
bit_at-end s i h =
    let l : length s ≤ i / 8 = omega arith in
    ap (λ (x : ℕ). test_bit x (i % 8)) (get_or-eq_default s 0 l) ∙ test_bit-zero (i % 8)

-- byte strings of one length with equal bits are equal
pub ext-bit_at : (a b : List ℕ) → ((i : ℕ) → get_or a i 0 < 256) → ((i : ℕ) → get_or b i 0 < 256) → length a ≡ length b
    → ((i : ℕ) → i < 8 * length a → bit_at a i ≡ bit_at b i) → a ≡ b
ext-bit_at a b ha hb l h =
    ext_get_or 0 a b l
    (λ i m. ext-bits 8 (get_or a i 0) (get_or b i 0) (ha i) (hb i)
    (λ z q. sym (bit_at-byte a i z q) ∙ h (8 * i + z) (omega arith) ∙ bit_at-byte b i z q))

-- packed bits take oct of their number bytes
pub length-pack : (bs : List Bool) → length (pack bs) ≡ oct (length bs)
unfolding pack
length-pack bs = length-tabulate _ _

-- and each of them is a byte
pub pack-lt : (bs : List Bool) (i : ℕ) → get_or (pack bs) i 0 < 256
unfolding pack
pack-lt bs i =
    let f : ℕ → ℕ = λ j. from_bits 8 (λ t. get_or bs (8 * j + t) false) in
    let n = oct (length bs) in
    ⊎_elim (λ h. rw (get_d_tabulate n f i 0 h) (from_bits-lt 8 _)) (λ h. rw (get_or-tabulate-end n f i 0 h) (omega arith)) (lt-or-le i n)

-- bit k of packed bits is the k-th of them, and false beyond them
pub bit_at-pack : (bs : List Bool) (k : ℕ) → bit_at (pack bs) k ≡ get_or bs k false
unfolding pack bit_at
bit_at-pack bs k =
    let f : ℕ → ℕ = λ j. from_bits 8 (λ t. get_or bs (8 * j + t) false) in
    let n = oct (length bs) in
    let e : 8 * (k / 8) + k % 8 ≡ k = omega arith in
    ⊎_elim
    (λ h. ap (λ (x : ℕ). test_bit x (k % 8)) (get_d_tabulate n f (k / 8) 0 h) ∙ test_bit-from_bits 8 _ (k % 8) (omega arith) ∙ ap (λ (i : ℕ). get_or bs i false) e)
    (λ h. ap (λ (x : ℕ). test_bit x (k % 8)) (get_or-tabulate-end n f (k / 8) 0 h) ∙ test_bit-zero (k % 8) ∙ sym (get_or-eq_default bs false (omega arith)))
    (lt-or-le (k / 8) n)

-- k bits are unpacked
pub length-unpack : (k : ℕ) (s : List ℕ) → length (unpack k s) ≡ k
unfolding unpack
length-unpack k s = length-tabulate k (bit_at s)

-- each of them is the string's
pub get_or-unpack : (k : ℕ) (s : List ℕ) (i : ℕ) → i < k → get_or (unpack k s) i false ≡ bit_at s i
unfolding unpack
get_or-unpack k s i h = get_d_tabulate k (bit_at s) i false h

-- what is packed is unpacked again
pub unpack-pack : (bs : List Bool) → unpack (length bs) (pack bs) ≡ bs
unfolding unpack
unpack-pack bs = tabulate-cong (length bs) (bit_at (pack bs)) (λ i. get_or bs i false) (λ i h. bit_at-pack bs i) ∙ tabulate-get_or bs false

-- in a list with no bit set each is false
pub none-all : (l : List Bool) → none l ≡ true → (i : ℕ) → get_or l i false ≡ false
unfolding none
none-all [] e i = refl
none-all (true ∷ l) e i = absurd (let z : ◌≡◌ {A = ℕ} 0 1 = cc in omega arith)
none-all (false ∷ l) e zero = refl
none-all (false ∷ l) e (suc i) = none-all l e i

-- a list of which each is false has no bit set
pub all_none : (l : List Bool) → ((i : ℕ) → i < length l → get_or l i false ≡ false) → none l ≡ true
unfolding none
all_none [] h = refl
all_none (b ∷ l) h = rw (h 0 (omega arith)) (all_none l (λ i k. h (suc i) (omega arith)))

-- if the unused bits are zero, every bit from k on is false
pub unused-all : (k : ℕ) (s : List ℕ) → unused_zero k s ≡ true → (i : ℕ) → k ≤ i → bit_at s i ≡ false
unfolding unused_zero
unused-all k s e i l =
    ⊎_elim
    (λ h.
    let q : k + (i - k) ≡ i = omega arith in
    let n = 8 * length s - k in
    ap (bit_at s) (sym q) ∙ sym (get_d_tabulate n (λ j. bit_at s (k + j)) (i - k) false (omega arith)) ∙ none-all (tabulate n (λ j. bit_at s (k + j))) e (i - k))
    (λ h. bit_at-end s i h)
    (lt-or-le i (8 * length s))

-- if every bit from k to the string's end is false, the unused bits are zero
pub all-unused : (k : ℕ) (s : List ℕ) → ((i : ℕ) → k ≤ i → i < 8 * length s → bit_at s i ≡ false) → unused_zero k s ≡ true
unfolding unused_zero
all-unused k s h =
    let n = 8 * length s - k in
    all_none (tabulate n (λ j. bit_at s (k + j)))
    (λ i l. let q : i < n = omega (arith, length-tabulate n (λ j. bit_at s (k + j))) in get_d_tabulate n (λ j. bit_at s (k + j)) i false q ∙ h (k + i) (omega arith) (omega arith))

-- the unused bits of packed bits are zero
pub unused-pack : (bs : List Bool) → unused_zero (length bs) (pack bs) ≡ true
unused-pack bs = all-unused (length bs) (pack bs) (λ i l m. bit_at-pack bs i ∙ get_or-eq_default bs false l)

-- a string of oct k bytes whose unused bits are zero is packed again from its k bits
pub pack-unpack : (k : ℕ) (s : List ℕ) → ((i : ℕ) → get_or s i 0 < 256) → length s ≡ oct k → unused_zero k s ≡ true → pack (unpack k s) ≡ s
pack-unpack k s b l u =
    let n = length-unpack k s in
    ext-bit_at (pack (unpack k s)) s (pack-lt (unpack k s)) b (length-pack (unpack k s) ∙ ap oct n ∙ sym l)
    (λ i m. bit_at-pack (unpack k s) i ∙ ⊎_elim (λ h. get_or-unpack k s i h) (λ h. get_or-eq_default (unpack k s) false (omega arith) ∙ sym (unused-all k s u i h)) (lt-or-le i k))

-- a byte of which no bit is set is zero
pub byte-zero : (s : List ℕ) (j : ℕ) → get_or s j 0 < 256 → ((t : ℕ) → t < 8 → bit_at s (8 * j + t) ≡ false) → get_or s j 0 ≡ 0
byte-zero s j b h = ext-bits 8 (get_or s j 0) 0 b (omega arith) (λ t l. sym (bit_at-byte s j t l) ∙ h t l ∙ sym (test_bit-zero t))

-- r, which gathers the bits from bit k on of the first i bytes, is zero where those bits are, and only there
abbrev pub Clear : List ℕ → ℕ → ℕ → ℕ → Type 0
Clear s k i r = (r ≡ 0) ↔ ((t : ℕ) → k ≤ t → t < 8 * i → bit_at s t ≡ false)

-- the byte that holds bit k, without the bits below it
pub clear_first : (s : List ℕ) (k : ℕ) → get_or s (k / 8) 0 < 256 → Clear s k (k / 8 + 1) (get_or s (k / 8) 0 / 2 ^ (k % 8))
clear_first s k b =
    let x = get_or s (k / 8) 0 in
    let z = k % 8 in
    let above : (d : ℕ) → z + d < 8 → bit_at s (8 * (k / 8) + (z + d)) ≡ test_bit (x / 2 ^ z) d = λ d l. bit_at-byte s (k / 8) (z + d) l ∙ sym (test_bit-shr x z d) in (
      λ e t l m.
          let d = t - k in
          let q : t ≡ 8 * (k / 8) + (z + d) = omega arith in
          ap (bit_at s) q ∙ above d (omega arith) ∙ ap (λ (y : ℕ). test_bit y d) e ∙ test_bit-zero d,
      λ h. ext-bits 8 (x / 2 ^ z) 0 (omega (arith, shr_le x z)) (omega arith)
          (λ d l. ⊎_elim
          (λ m. sym (above d m) ∙ h (8 * (k / 8) + (z + d)) (omega arith) (omega arith))
          (λ m. test_bit-shr x z d ∙ test_bit-high 8 x (z + d) b m)
          (lt-or-le (z + d) 8) ∙ sym (test_bit-zero d)),
    )

-- one byte more
pub clear-more : (s : List ℕ) (k i r : ℕ) → get_or s i 0 < 256 → k ≤ 8 * i → Clear s k i r → Clear s k (i + 1) (bit_or r (get_or s i 0))
clear-more s k i r b l g =
    let x = get_or s i 0 in (
      λ e t p m.
          let z = zero_or r x e in
          ⊎_elim
          (λ h. g.0 z.0 t p h)
          (λ h.
          let d = t - 8 * i in
          let q : t ≡ 8 * i + d = omega arith in
          ap (bit_at s) q ∙ bit_at-byte s i d (omega arith) ∙ ap (λ (y : ℕ). test_bit y d) z.1 ∙ test_bit-zero d)
          (lt-or-le t (8 * i)),
      λ h. or-zero r x (g.1 (λ t p m. h t p (omega arith))) (byte-zero s i b (λ t m. h (8 * i + t) (omega arith) (omega arith))),
    )

-- all bytes
pub clear-all : (s : List ℕ) (k i r : ℕ) → length s ≤ i → Clear s k i r → eqb r 0 ≡ unused_zero k s
clear-all s k i r n g =
    test-eq (eqb r 0) (unused_zero k s) (λ e. all-unused k s (λ t l m. g.0 (eqb-true r 0 e) t l (omega arith))) (λ e. eq-eqb r 0 (g.1 (λ t l m. unused-all k s e t l)))

-- a number is what stands above bit z, bit z, and what stands below it
pub parts : (x z : ℕ) → x ≡ x / 2 ^ suc z * 2 ^ suc z + (bit_val (test_bit x z) * 2 ^ z + x % 2 ^ z)
parts x z =
    let e : x % 2 ^ suc z ≡ (x / 2 ^ z % 2) * 2 ^ z + x % 2 ^ z = ap (λ (k : ℕ). x % 2 ^ k) (sym (one-add z)) ∙ mod-pow-add x 1 z in
    omega (arith, split x (suc z), e, ap (λ (y : ℕ). y * 2 ^ z) (bit-at x z))

-- a number with bit z put to b, in three parts
pub put-parts : (x z : ℕ) (b : Bool) → x - bit_val (test_bit x z) * 2 ^ z + bit_val b * 2 ^ z ≡ x / 2 ^ suc z * 2 ^ suc z + (bit_val b * 2 ^ z + x % 2 ^ z)
put-parts x z b = omega (arith, parts x z)

-- a bit at its place is part of the number
pub test_bit-le : (x z : ℕ) → bit_val (test_bit x z) * 2 ^ z ≤ x
test_bit-le x z = omega (arith, parts x z)

-- a number's lowest bit shifted to place z < w in a word of w bits
pub shift-bit : (w y z : ℕ) → z < w → y % 2 * 2 ^ z % 2 ^ w ≡ bit_val (odd y) * 2 ^ z
shift-bit w y z h =
    let l : 1 + z ≤ w = omega arith in
    let q : y % 2 < 2 ^ 1 = omega arith in
    shl_exact {a = y % 2} 1 z w q l ∙ ap (λ (k : ℕ). k * 2 ^ z) (mod-two y)

-- bit z and what stands below it are z + 1 bits
low-lt : (x z : ℕ) (b : Bool) → bit_val b * 2 ^ z + x % 2 ^ z < 2 ^ suc z
low-lt x z b = rw (pow-succ' 2 z) (digits_lt {m = 2} {c = 2 ^ z} (bit_val-lt b) (mod-lt x (pow_pos z)))

-- a number of w bits with bit z < w put is one of w bits
pub put-lt : (w x z : ℕ) (b : Bool) → x < 2 ^ w → z < w → x - bit_val (test_bit x z) * 2 ^ z + bit_val b * 2 ^ z < 2 ^ w
put-lt w x z b h l =
    let d = w - suc z in
    let q : w ≡ d + suc z = omega arith in
    let m : x / 2 ^ suc z < 2 ^ d = shr_lt d (suc z) (rw q at h) in
    rw (put-parts x z b, q, pow-add 2 d (suc z)) (digits_lt m (low-lt x z b))

-- bit z that was put
pub put_same : (x z : ℕ) (b : Bool) → test_bit (x - bit_val (test_bit x z) * 2 ^ z + bit_val b * 2 ^ z) z ≡ b
put_same x z b =
    let lo = x % 2 ^ z in
    ap (λ (y : ℕ). test_bit y z) (put-parts x z b) ∙ test_bit-low (x / 2 ^ suc z) (suc z) (bit_val b * 2 ^ z + lo) z (omega arith)
    ∙ ap (test_bit (bit_val b * 2 ^ z + lo)) (sym (add-zero z)) ∙ test_bit-block (bit_val b) z lo 0 (mod-lt x (pow_pos z)) ∙ test_bit-bit_val b

-- the other bits are kept
pub put_other : (x z : ℕ) (b : Bool) (t : ℕ) → t ≢ z → test_bit (x - bit_val (test_bit x z) * 2 ^ z + bit_val b * 2 ^ z) t ≡ test_bit x t
put_other x z b t h =
    let hi = x / 2 ^ suc z in
    let lo = bit_val b * 2 ^ z + x % 2 ^ z in
    ap (λ (y : ℕ). test_bit y t) (put-parts x z b)
    ∙ ⊎_elim
    (λ l. test_bit-low hi (suc z) lo t (omega arith) ∙ test_bit-low (bit_val b) z (x % 2 ^ z) t l ∙ test_bit-mod x z t l)
    (λ l.
    let d = t - suc z in
    let q : t ≡ suc z + d = omega arith in
    ap (test_bit (hi * 2 ^ suc z + lo)) q ∙ test_bit-block hi (suc z) lo d (low-lt x z b) ∙ test_bit-shr x (suc z) d ∙ ap (test_bit x) (sym q))
    (lt-or-le t z)

-- the string keeps its length
pub length-put_bit : (s : List ℕ) (k : ℕ) (b : Bool) → length (put_bit s k b) ≡ length s
unfolding put_bit
length-put_bit s k b = length-set s (k / 8) _

-- its bytes stay bytes
pub put_bit-lt : (s : List ℕ) (k : ℕ) (b : Bool) → ((i : ℕ) → get_or s i 0 < 256) → (i : ℕ) → get_or (put_bit s k b) i 0 < 256
unfolding put_bit
put_bit-lt s k b h i =
    let x = get_or s (k / 8) 0 in
    let v = x - bit_val (test_bit x (k % 8)) * 2 ^ (k % 8) + bit_val b * 2 ^ (k % 8) in
    ⊎_elim
    (λ l. ⊎_elim
    (λ e. subst⁻¹ (λ (y : ℕ). y < 256) (ap (λ (j : ℕ). get_or (set s (k / 8) v) j 0) e ∙ get_or-set_same s (k / 8) v 0 l) (put-lt 8 x (k % 8) b (h (k / 8)) (omega arith)))
    (λ e. subst⁻¹ (λ (y : ℕ). y < 256) (get_or-set_other s (k / 8) i v 0 e) (h i))
    (eq-or-ne i (k / 8)))
    (λ l. subst⁻¹ (λ (t : List ℕ). get_or t i 0 < 256) (set_out s (k / 8) v l) (h i))
    (lt-or-le (k / 8) (length s))

-- the bit that was put
pub bit_at-put_bit : (s : List ℕ) (k : ℕ) (b : Bool) → k < 8 * length s → bit_at (put_bit s k b) k ≡ b
unfolding put_bit bit_at
bit_at-put_bit s k b h = ap (λ (x : ℕ). test_bit x (k % 8)) (get_or-set_same s (k / 8) _ 0 (omega arith)) ∙ put_same (get_or s (k / 8) 0) (k % 8) b

-- the other bits are kept
pub bit_at-put_bit-other : (s : List ℕ) (k : ℕ) (b : Bool) (i : ℕ) → i ≢ k → bit_at (put_bit s k b) i ≡ bit_at s i
unfolding put_bit bit_at
bit_at-put_bit-other s k b i h =
    let x = get_or s (k / 8) 0 in
    let v = x - bit_val (test_bit x (k % 8)) * 2 ^ (k % 8) + bit_val b * 2 ^ (k % 8) in
    ⊎_elim
    (λ l. ⊎_elim
    (λ e.
    let d : i % 8 ≢ k % 8 = omega arith in
    rw e (ap (λ (y : ℕ). test_bit y (i % 8)) (get_or-set_same s (k / 8) v 0 l) ∙ put_other x (k % 8) b (i % 8) d))
    (λ e. ap (λ (y : ℕ). test_bit y (i % 8)) (get_or-set_other s (k / 8) (i / 8) v 0 e))
    (eq-or-ne (i / 8) (k / 8)))
    (λ l. ap (λ (t : List ℕ). test_bit (get_or t (i / 8) 0) (i % 8)) (set_out s (k / 8) v l))
    (lt-or-le (k / 8) (length s))

-- a bit put into packed bits: the list with that bit, packed
pub put_bit-pack : (bs : List Bool) (k : ℕ) (b : Bool) → k < length bs → put_bit (pack bs) k b ≡ pack (set bs k b)
put_bit-pack bs k b h =
    let l = length-pack bs in
    let n = length-set bs k b in
    ext-bit_at (put_bit (pack bs) k b) (pack (set bs k b)) (put_bit-lt (pack bs) k b (pack-lt bs)) (pack-lt (set bs k b))
    (length-put_bit (pack bs) k b ∙ l ∙ ap oct (sym n) ∙ sym (length-pack (set bs k b)))
    (λ i m. ⊎_elim
    (λ e. rw e (bit_at-put_bit (pack bs) k b (omega arith) ∙ sym (bit_at-pack (set bs k b) k ∙ get_or-set_same bs k b false h)))
    (λ e. bit_at-put_bit-other (pack bs) k b i e ∙ bit_at-pack bs i ∙ sym (bit_at-pack (set bs k b) i ∙ get_or-set_other bs k i b false e))
    (eq-or-ne i k))

-- the bits of a string with one put: the list with that bit
pub unpack-put_bit : (n : ℕ) (s : List ℕ) (k : ℕ) (b : Bool) → k < 8 * length s → k < n → unpack n (put_bit s k b) ≡ set (unpack n s) k b
unpack-put_bit n s k b h l =
    let u = length-unpack n s in
    let v = length-unpack n (put_bit s k b) in
    ext_get_or false (unpack n (put_bit s k b)) (set (unpack n s) k b) (v ∙ sym (length-set (unpack n s) k b ∙ u))
    (λ i m.
    let j : i < n = omega arith in
    get_or-unpack n (put_bit s k b) i j
    ∙ ⊎_elim
    (λ e. rw e (bit_at-put_bit s k b h ∙ sym (get_or-set_same (unpack n s) k b false (omega arith))))
    (λ e. bit_at-put_bit-other s k b i e ∙ sym (get_or-set_other (unpack n s) k i b false e ∙ get_or-unpack n s i j))
    (eq-or-ne i k))
