-- Words of columns: XOR, AND, parity and choice of words are those of the columns, for every number of parties.
-- Assumes nothing.
use mathlib.Core.Path.{◌≡◌, refl, sym, ap, ap₂, ◌∙◌}
use mathlib.Core.Bool.{Bool, true, false, cond, ◌&&◌}
use mathlib.Core.Logic.{⊎_elim}
use Prim.Native.Nat.{ℕ, zero, suc, ◌+◌, ◌-◌, ◌*◌, ◌%◌, ◌^◌, ◌≤◌, ◌<◌}
use native.Mathlib.Nat.{lt_of_le_of_lt, lt_of_lt_of_le, mod-eq_of_lt, pow-suc}
use native.Mathlib.Omega.{arith}
use borrow.Author.Tests.{eq-eqb, ne_eqb}
use lib.Bits.{bit_xor, bit_and, and_comm, and_le_l, and_lt, and_mask, and_zero_l, xor_lt}
use lib.Dec.{eqb}
use lib.Pow.{pow_mono, pow_pos, shl_exact}
use Rattle.bits.specs.Bits.{bit_val, odd, test_bit, from_bits}
use Rattle.bits.specs.Xor.{◌⊕◌, xors}
use Rattle.bits.proofs.Bitwise.{test_bit-and, test_bit-xor}
use Rattle.bits.proofs.Numbers.{eq-or-ne, ext-bits, from_bits-cong, from_bits-lt, from_bits-test_bit, lt-or-le, mod-two, test_bit-bit_val, test_bit-block, test_bit-from_bits, test_bit-high, test_bit-low, test_bit-zero}
use Rattle.bits.proofs.Xor.{taut, xors-cong}
use Rattle.words.specs.Words.{parity, every, place, broadcast_word, chosen}

-- an operation on numbers that goes bit by bit and keeps to n bits is the operation of the columns
module _ (op : ℕ → ℕ → ℕ) (h : Bool → Bool → Bool)
    (at : (x y z : ℕ) → test_bit (op x y) z ≡ h (test_bit x z) (test_bit y z))
    (small : (k x y : ℕ) → x < 2 ^ k → y < 2 ^ k → op x y < 2 ^ k) where
  word-op : (n : ℕ) (f g : ℕ → Bool) → op (from_bits n f) (from_bits n g) ≡ from_bits n (λ i. h (f i) (g i))
  word-op n f g =
      ext-bits n (op (from_bits n f) (from_bits n g)) (from_bits n (λ i. h (f i) (g i)))
      (small n (from_bits n f) (from_bits n g) (from_bits-lt n f) (from_bits-lt n g)) (from_bits-lt n _)
      (λ z l. at (from_bits n f) (from_bits n g) z ∙ ap₂ h (test_bit-from_bits n f z l) (test_bit-from_bits n g z l)
      ∙ sym (test_bit-from_bits n (λ i. h (f i) (g i)) z l))

-- XOR of words
pub word-xor : (n : ℕ) (f g : ℕ → Bool) → bit_xor (from_bits n f) (from_bits n g) ≡ from_bits n (λ i. f i ⊕ g i)
word-xor = word-op bit_xor ◌⊕◌ test_bit-xor xor_lt

-- AND of words
pub word_and : (n : ℕ) (f g : ℕ → Bool) → bit_and (from_bits n f) (from_bits n g) ≡ from_bits n (λ i. f i && g i)
word_and = word-op bit_and ◌&&◌ test_bit-and and_lt

-- the parity of a word's first k bits
pub word-parity : (n k : ℕ) (f : ℕ → Bool) → k ≤ n → parity k (from_bits n f) ≡ xors k f
unfolding parity
word-parity n k f h = xors-cong k (test_bit (from_bits n f)) f (λ i l. test_bit-from_bits n f i (omega arith))

-- AND with a bit at each place is the word or nothing, at any width that holds the word
pub and-every : (n : ℕ) (b : Bool) (x : ℕ) → x < 2 ^ n → bit_and (every n b) x ≡ bit_val b * x
unfolding every
and-every n true x h =
    let e : 1 * (2 ^ n - 1) ≡ 2 ^ n - 1 = omega arith in
    let d : x ≡ 1 * x = omega arith in
    ap (λ (k : ℕ). bit_and k x) e ∙ and_comm (2 ^ n - 1) x ∙ and_mask x n ∙ mod-eq_of_lt h ∙ d
and-every n false x h =
    let e : 0 * (2 ^ n - 1) ≡ 0 = omega arith in
    let d : 0 ≡ 0 * x = omega arith in
    ap (λ (k : ℕ). bit_and k x) e ∙ and_zero_l x ∙ d

-- a bit at each place makes a number of n bits
pub every-lt : (n : ℕ) (b : Bool) → every n b < 2 ^ n
unfolding every
every-lt n true = omega (arith, pow_pos n)
every-lt n false = omega (arith, pow_pos n)

-- the lowest bit of a byte at each of 64 places
pub every-word : (m x : ℕ) → x ≡ m % 2 → x * 18446744073709551615 ≡ every 64 (odd m)
unfolding every
every-word m x e = ap (λ (k : ℕ). k * 18446744073709551615) (e ∙ mod-two m)

-- no bit set
from_bits-none : (n : ℕ) → from_bits n (λ i. false) ≡ 0
unfolding from_bits
from_bits-none zero = refl
from_bits-none (suc n) = omega (arith, from_bits-none n)

-- a word times a bit
pub word-times : (n : ℕ) (b : Bool) (f : ℕ → Bool) → bit_val b * from_bits n f ≡ from_bits n (λ i. b && f i)
word-times n true f = omega arith
word-times n false f = omega (arith, from_bits-none n)

-- what the parties say, at any width N that holds their word
pub word-broadcast : (N n : ℕ) (ma mb : Bool) (sa sb z o : ℕ → Bool) → n ≤ N
    → broadcast_word N ma mb (from_bits n sa) (from_bits n sb) (from_bits n z) (from_bits n o) ≡ from_bits n (λ i. (ma && sb i) ⊕ (mb && sa i) ⊕ z i ⊕ o i)
unfolding broadcast_word
word-broadcast N n ma mb sa sb z o h =
    let part : (b : Bool) (f : ℕ → Bool) → bit_and (every N b) (from_bits n f) ≡ from_bits n (λ i. b && f i) =
    λ b f. and-every N b (from_bits n f) (lt_of_lt_of_le (from_bits-lt n f) (pow_mono h)) ∙ word-times n b f in
    let first = ap₂ bit_xor (part ma sb) (part mb sa) ∙ word-xor n _ _ in
    let second = ap (λ (x : ℕ). bit_xor x (from_bits n z)) first ∙ word-xor n _ z in
    ap (λ (x : ℕ). bit_xor x (from_bits n o)) second ∙ word-xor n _ o

-- bit i of a choice
pub chosen-bit : (q old new i : ℕ) → test_bit (chosen q old new) i ≡ cond (test_bit q i) (test_bit old i) (test_bit new i)
unfolding chosen
chosen-bit q old new i =
    test_bit-xor new (bit_and (bit_xor old new) q) i
    ∙ ap (λ (b : Bool). test_bit new i ⊕ b) (test_bit-and (bit_xor old new) q i ∙ ap (λ (b : Bool). b && test_bit q i) (test_bit-xor old new i))
    ∙ taut 3 (λ a b c. c ⊕ ((b ⊕ c) && a)) (λ a b c. cond a b c) tt (test_bit q i) (test_bit old i) (test_bit new i)

-- a choice of words of n bits is one of n bits, whatever the places
pub chosen-lt : (n q old new : ℕ) → old < 2 ^ n → new < 2 ^ n → chosen q old new < 2 ^ n
unfolding chosen
chosen-lt n q old new h k =
    let l : bit_and (bit_xor old new) q < 2 ^ n = lt_of_le_of_lt (and_le_l (bit_xor old new) q) (xor_lt n old new h k) in
    xor_lt n new (bit_and (bit_xor old new) q) k l

-- a choice between two words
pub word-chosen : (n q old : ℕ) (f : ℕ → Bool) → old < 2 ^ n
    → chosen q old (from_bits n f) ≡ from_bits n (λ i. cond (test_bit q i) (test_bit old i) (f i))
word-chosen n q old f h =
    let x = chosen q old (from_bits n f) in
    sym (from_bits-test_bit n x (chosen-lt n q old (from_bits n f) h (from_bits-lt n f)))
    ∙ from_bits-cong n (test_bit x) (λ i. cond (test_bit q i) (test_bit old i) (f i))
    (λ i l. chosen-bit q old (from_bits n f) i ∙ ap (cond (test_bit q i) (test_bit old i)) (test_bit-from_bits n f i l))

-- the one bit of a power of two
pub test_bit-pow : (p i : ℕ) → test_bit (2 ^ p) i ≡ eqb i p
test_bit-pow p i =
    let e : 2 ^ p ≡ 1 * 2 ^ p + 0 = omega arith in
    ap (λ (x : ℕ). test_bit x i) e
    ∙ ⊎_elim
    (λ l. test_bit-low 1 p 0 i l ∙ test_bit-zero i ∙ sym (ne_eqb i p (omega arith)))
    (λ l.
    let d = i - p in
    let q : i ≡ p + d = omega arith in
    ap (test_bit (1 * 2 ^ p + 0)) q ∙ test_bit-block 1 p 0 d (pow_pos p)
    ∙ ⊎_elim
    (λ z. ap (test_bit 1) z ∙ test_bit-bit_val true ∙ sym (eq-eqb i p (omega arith)))
    (λ z. test_bit-high 1 1 d (omega arith) (omega arith) ∙ sym (ne_eqb i p (omega arith)))
    (eq-or-ne d 0))
    (lt-or-le i p)

-- a bit of a place's word
place-bit : (n p i : ℕ) → i < n → test_bit (place n p) i ≡ eqb i p
unfolding place
place-bit n p i l = test_bit-from_bits n (λ k. eqb k p) i l

-- a power of two below another
pow-lt : (n p : ℕ) → p < n → 2 ^ p < 2 ^ n
pow-lt n p h = let e : 2 ^ p < 2 ^ suc p = omega (arith, pow_pos p, pow-suc 2 p) in lt_of_lt_of_le e (pow_mono h)

-- the place of one of n parties
pub place_inside : (n p : ℕ) → p < n → 2 ^ p ≡ place n p
unfolding place
place_inside n p h =
    ext-bits n (2 ^ p) (place n p) (pow-lt n p h) (from_bits-lt n _) (λ i l. test_bit-pow p i ∙ sym (place-bit n p i l))

-- the same by a shift, in 64 bits
pub place-shift : (p : ℕ) → p < 64 → 1 * 2 ^ p % 2 ^ 64 ≡ place 64 p
place-shift p h = let e : 1 * 2 ^ p ≡ 2 ^ p = omega arith in shl_exact {a = 1} 1 p 64 (omega arith) (omega arith) ∙ e ∙ place_inside 64 p h

-- none of them
pub place-outside : (n p : ℕ) → n ≤ p → 0 ≡ place n p
unfolding place
place-outside n p h = sym (from_bits-cong n _ (λ i. false) (λ i l. ne_eqb i p (omega arith)) ∙ from_bits-none n)

-- the word of n parties with party p's bit as in another word, at any width N
pub word-delivered : (N n p shown : ℕ) (f : ℕ → Bool) → n ≤ N → shown < 2 ^ n
    → chosen (place N p) shown (from_bits n f) ≡ from_bits n (λ i. cond (eqb i p) (test_bit shown p) (f i))
word-delivered N n p shown f h lt =
    word-chosen n (place N p) shown f lt
    ∙ from_bits-cong n _ (λ i. cond (eqb i p) (test_bit shown p) (f i))
    (λ i l. ap (λ (b : Bool). cond b (test_bit shown i) (f i)) (place-bit N p i (omega arith))
    ∙ ⊎_elim (λ e. rw (eq-eqb i p e, e)) (λ e. rw (ne_eqb i p e)) (eq-or-ne i p))

-- a bit at each place
every-bit : (n : ℕ) (b : Bool) (i : ℕ) → i < n → test_bit (every n b) i ≡ b
every-bit n b i h =
    let x : ℕ = 2 ^ i in
    let one : test_bit x i ≡ true = test_bit-pow i i ∙ eq-eqb i i refl in
    let lt : x < 2 ^ n = pow-lt n i h in
    sym (and_true_r (test_bit (every n b) i)) ∙ ap (λ (c : Bool). test_bit (every n b) i && c) (sym one) ∙ sym (test_bit-and (every n b) x i)
    ∙ ap (λ (k : ℕ). test_bit k i) (and-every n b x lt) ∙ times b
  where
    and_true_r : (b : Bool) → b && true ≡ b
    and_true_r true = refl
    and_true_r false = refl

    times : (b : Bool) → test_bit (bit_val b * 2 ^ i) i ≡ b
    times true = let e : 1 * 2 ^ i ≡ 2 ^ i = omega arith in ap (λ (k : ℕ). test_bit k i) e ∙ test_bit-pow i i ∙ eq-eqb i i refl
    times false = let e : 0 * 2 ^ i ≡ 0 = omega arith in ap (λ (k : ℕ). test_bit k i) e ∙ test_bit-zero i

-- the word of n parties with party p's bit put to b, at any width N
pub word-put : (N n p : ℕ) (b : Bool) (f : ℕ → Bool) → n ≤ N → p < n
    → chosen (place N p) (every N b) (from_bits n f) ≡ from_bits n (λ i. cond (eqb i p) b (f i))
word-put N n p b f h l =
    let x : ℕ = chosen (place N p) (every N b) (from_bits n f) in
    let g : ℕ → Bool = λ i. cond (eqb i p) b (f i) in
    let w : from_bits n f < 2 ^ N = lt_of_lt_of_le (from_bits-lt n f) (pow_mono h) in
    ext-bits N x (from_bits n g) (chosen-lt N (place N p) (every N b) (from_bits n f) (every-lt N b) w) (lt_of_lt_of_le (from_bits-lt n g) (pow_mono h))
    (λ i q.
    chosen-bit (place N p) (every N b) (from_bits n f) i
    ∙ ap₂ (λ (c d : Bool). cond c d (test_bit (from_bits n f) i)) (place-bit N p i q) (every-bit N b i q)
    ∙ ⊎_elim
    (λ u. ap (cond (eqb i p) b) (test_bit-from_bits n f i u) ∙ sym (test_bit-from_bits n g i u))
    (λ u. rw (ne_eqb i p (omega arith)) (test_bit-high n (from_bits n f) i (from_bits-lt n f) u ∙ sym (test_bit-high n (from_bits n g) i (from_bits-lt n g) u)))
    (lt-or-le i n))

-- a function of a choice
module _ {A B : Type 0} (g : A → B) where
  pub cond_map : (b : Bool) (x y : A) → g (cond b x y) ≡ cond b (g x) (g y)
  cond_map true x y = refl
  cond_map false x y = refl
