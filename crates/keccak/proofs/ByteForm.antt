-- FIPS 202 on byte strings (Sponge) is FIPS 202 on bit strings (Bitstrings): the bytes of SHA3-256, SHAKE128 and SHAKE256 of a byte
-- string are b2h of the standard's function of its bits, h2b. The sponge and its padding are proved so for every rate of r ≤ 200
-- bytes and every suffix of at most 6 bits. A message's elements need not be below 256: either side reads the low 8 bits of each.
-- Assumes nothing.
use mathlib.Core.Path.{◌≡◌, refl, sym, ap, ap₂, ◌∙◌}
use mathlib.Core.Bool.{Bool, true, false, cond}
use mathlib.Core.List.{List, [], ◌∷◌, ◌++◌, zip_with, append_assoc, append-nil}
use mathlib.Core.Logic.{⊎_elim}
use Prim.Native.Nat.{ℕ, zero, suc, ◌+◌, ◌-◌, ◌*◌, ◌/◌, ◌%◌, ◌^◌, ◌≤◌, ◌<◌}
use native.Mathlib.Nat.{sub-zero, suc-sub-suc, suc-add, zero-add, mul-zero, mul-add-mod_self_left, mod-eq_of_lt, mod-lt, mod_self, mul-div-mul_left, mul-div-le, div-add-mod, add-mod-mod, mul-mod_right, lt-div-mul-add}
use native.Mathlib.Omega.{arith}
use borrow.Author.Tests.{le-leb, leb-true, ne_eqb}
use lib.Bits.{bit_xor}
use lib.Dec.{leb, eqb}
use lib.ListN.{length, get_or, take, drop, replicate, length-append, length-drop, length-replicate, get_or-eq_default, replicate-append-replicate}
use lib.Seq.{length-take-le, take-append-le, take-append-add, drop-append-add, drop-drop, take-nil, drop-nil}
use Rattle.bits.specs.Bits.{tabulate, test_bit, from_bits, bit_val, bit_at, odd, unpack}
use Rattle.bits.specs.Bytes.{le_bytes}
use Rattle.bits.specs.Xor.{◌⊕◌}
use Rattle.bits.proofs.Bitwise.{test_bit-xor}
use Rattle.bits.proofs.Little.{le_bytes-lt}
use Rattle.bits.proofs.Numbers.{lt-or-le, from_bits-lt, test_bit-bit_val, test_bit-block, test_bit-from_bits, test_bit-low, test_bit-mod, test_bit-shr}
use Rattle.bits.proofs.Packing.{all-unused, bit_at-end, get_or-unpack, length-unpack, pack-unpack}
use Rattle.bits.proofs.Tabulate.{length-tabulate, tabulate-cong}
use Rattle.bits.proofs.Xor.{xor-false}
use Rattle.permutation.specs.Permutation.{StateArray, rounds, from_string, lane, lanes, lane_bytes, to_string, keccak_f}
use Rattle.keccak.specs.Sponge.{xor_into, absorb_blocks, squeeze_blocks, padding, sponge, sha3_256, shake128, shake256}
use Rattle.keccak.proofs.Bytes.{Bytes, bytes-append, bytes_take, bytes-zeros}
use Rattle.keccak.proofs.Lengths.{length-absorb}
use Rattle.keccak.specs.Bitstrings.{zeros, xor_bits, from_bit_string, Lane, Plane, to_bit_string, KECCAK_p, pad10*1, block_of, absorb, squeeze, SPONGE, KECCAK, SHA3-256, SHAKE128, SHAKE256, h2b, b2h, SHA3_256_on_bytes, SHAKE128_on_bytes, SHAKE256_on_bytes, PadMultiple, TurnsEnough}

-- ---- lists given place by place

-- m places, and then n more
tabulate-add : {A : Type 0} (m n : ℕ) (f : ℕ → A) → tabulate (m + n) f ≡ tabulate m f ++ tabulate n (λ i. f (m + i))
tabulate-add zero n f =
    ap (λ (k : ℕ). tabulate k f) (zero-add n) ∙ tabulate-cong n f (λ i. f (0 + i)) (λ i h. ap f (sym (zero-add i)))
tabulate-add {A} (suc m) n f =
    ap (λ (k : ℕ). tabulate k f) (suc-add m n)
    ∙ ap (λ (t : List A). f 0 ∷ t)
    (tabulate-add m n (λ i. f (suc i))
    ∙ ap (λ (t : List A). tabulate m (λ i. f (suc i)) ++ t)
    (tabulate-cong n (λ i. f (suc (m + i))) (λ i. f (suc m + i)) (λ i h. ap f (sym (suc-add m i)))))

-- n bits that are all false
tabulate-false : (n : ℕ) → tabulate n (λ i. false) ≡ zeros n
tabulate-false zero = refl
tabulate-false (suc n) = ap (λ (t : List Bool). false ∷ t) (tabulate-false n)

-- n bits that are a string's, and false after its end: the string and zeros
tabulate-zeros : (n : ℕ) (X : List Bool) → length X ≤ n → tabulate n (λ i. get_or X i false) ≡ X ++ zeros (n - length X)
tabulate-zeros n [] h = tabulate-false n ∙ ap zeros (sym (sub-zero n))
tabulate-zeros zero (b ∷ X) h = absurd (omega arith)
tabulate-zeros (suc n) (b ∷ X) h =
    ap (λ (t : List Bool). b ∷ t) (tabulate-zeros n X (omega arith) ∙ ap (λ (k : ℕ). X ++ zeros k) (sym (suc-sub-suc n (length X))))

-- zeros and zeros after them
zeros-append : (m n : ℕ) (X : List Bool) → zeros m ++ (zeros n ++ X) ≡ zeros (m + n) ++ X
zeros-append m n X = sym (append_assoc (zeros m) (zeros n) X) ∙ ap (λ (t : List Bool). t ++ X) (replicate-append-replicate m n false)

-- ---- h2b

-- the bits of a byte, lowest first
abbrev byte_bits : ℕ → List Bool
byte_bits x = tabulate 8 (test_bit x)

-- a string of m bytes has 8 m bits
pub length-h2b : (X : List ℕ) → length (h2b X) ≡ 8 * length X
unfolding h2b
length-h2b X = length-unpack (8 * length X) X

-- bit k of the string of bits, and false after its end
pub get_or-h2b : (X : List ℕ) (k : ℕ) → get_or (h2b X) k false ≡ bit_at X k
unfolding h2b
get_or-h2b X k =
    ⊎_elim
    (λ h. get_or-unpack (8 * length X) X k h)
    (λ h. get_or-eq_default (unpack (8 * length X) X) false (omega (arith, length-unpack (8 * length X) X)) ∙ sym (bit_at-end X k h))
    (lt-or-le k (8 * length X))

-- the first byte's bits come first
h2b-cons : (x : ℕ) (X : List ℕ) → h2b (x ∷ X) ≡ byte_bits x ++ h2b X
unfolding h2b unpack bit_at
h2b-cons x X =
    let e : 8 * suc (length X) ≡ 8 + 8 * length X = omega arith in
    ap (λ (k : ℕ). tabulate k (bit_at (x ∷ X))) e ∙ tabulate-add 8 (8 * length X) (bit_at (x ∷ X))
    ∙ ap₂ ◌++◌
    (tabulate-cong 8 (bit_at (x ∷ X)) (test_bit x)
    (λ i h.
    let p : i / 8 ≡ 0 = omega arith in
    let q : i % 8 ≡ i = omega arith in
    ap₂ (λ (j t : ℕ). test_bit (get_or (x ∷ X) j 0) t) p q))
    (tabulate-cong (8 * length X) (λ i. bit_at (x ∷ X) (8 + i)) (bit_at X)
    (λ i h.
    let p : (8 + i) / 8 ≡ suc (i / 8) = omega arith in
    let q : (8 + i) % 8 ≡ i % 8 = omega arith in
    ap₂ (λ (j t : ℕ). test_bit (get_or (x ∷ X) j 0) t) p q))

-- no byte has no bit
h2b-nil : h2b [] ≡ []
unfolding h2b unpack
h2b-nil = refl

-- the bits of a byte alone
h2b-one : (x : ℕ) → h2b (x ∷ []) ≡ byte_bits x
h2b-one x = h2b-cons x [] ∙ ap (λ (t : List Bool). byte_bits x ++ t) h2b-nil

-- of two strings one after the other
pub h2b-append : (X Y : List ℕ) → h2b (X ++ Y) ≡ h2b X ++ h2b Y
h2b-append [] Y = ap (λ (t : List Bool). t ++ h2b Y) (sym h2b-nil)
h2b-append (x ∷ X) Y =
    h2b-cons x (X ++ Y) ∙ ap (λ (t : List Bool). byte_bits x ++ t) (h2b-append X Y) ∙ ap (λ (t : List Bool). t ++ h2b Y) (sym (h2b-cons x X))

-- of the first k bytes
pub take-h2b : (k : ℕ) (X : List ℕ) → take (8 * k) (h2b X) ≡ h2b (take k X)
take-h2b zero X = sym h2b-nil
take-h2b (suc k) [] = ap (take (8 * suc k)) h2b-nil ∙ take-nil (8 * suc k) ∙ sym h2b-nil
take-h2b (suc k) (x ∷ X) =
    let e : 8 * suc k ≡ 8 + 8 * k = omega arith in
    ap₂ take e (h2b-cons x X) ∙ take-append-add (byte_bits x) (h2b X) (8 * k)
    ∙ ap (λ (t : List Bool). byte_bits x ++ t) (take-h2b k X) ∙ sym (h2b-cons x (take k X))

-- of the bytes after them
pub drop-h2b : (k : ℕ) (X : List ℕ) → drop (8 * k) (h2b X) ≡ h2b (drop k X)
drop-h2b zero X = refl
drop-h2b (suc k) [] = ap (drop (8 * suc k)) h2b-nil ∙ drop-nil (8 * suc k) ∙ sym h2b-nil
drop-h2b (suc k) (x ∷ X) =
    let e : 8 * suc k ≡ 8 + 8 * k = omega arith in
    ap₂ drop e (h2b-cons x X) ∙ drop-append-add (byte_bits x) (h2b X) (8 * k) ∙ drop-h2b k X

-- of k zero bytes
pub h2b-zeros : (k : ℕ) → h2b (replicate k 0) ≡ zeros (8 * k)
unfolding test_bit odd
h2b-zeros zero = h2b-nil
h2b-zeros (suc k) =
    let e : 8 + 8 * k ≡ 8 * suc k = omega arith in
    h2b-cons 0 (replicate k 0) ∙ ap (λ (t : List Bool). zeros 8 ++ t) (h2b-zeros k) ∙ replicate-append-replicate 8 (8 * k) false ∙ ap zeros e

-- of the n lowest bytes of a number
pub h2b-le_bytes : (n x : ℕ) → h2b (le_bytes n x) ≡ tabulate (8 * n) (test_bit x)
unfolding le_bytes
h2b-le_bytes zero x = h2b-nil
h2b-le_bytes (suc n) x =
    let e : 8 + 8 * n ≡ 8 * suc n = omega arith in
    h2b-cons (x % 256) (le_bytes n (x / 256))
    ∙ ap₂ ◌++◌
    (tabulate-cong 8 (test_bit (x % 256)) (test_bit x) (λ i h. test_bit-mod x 8 i h))
    (h2b-le_bytes n (x / 256) ∙ tabulate-cong (8 * n) (test_bit (x / 256)) (λ i. test_bit x (8 + i)) (λ i h. test_bit-shr x 8 i))
    ∙ sym (tabulate-add 8 (8 * n) (test_bit x)) ∙ ap (λ (k : ℕ). tabulate k (test_bit x)) e

-- a string of bytes again from its bits
pub b2h-h2b : (X : List ℕ) → ((i : ℕ) → get_or X i 0 < 256) → b2h (h2b X) ≡ X
unfolding b2h h2b
b2h-h2b X b = pack-unpack (8 * length X) X b (omega arith) (all-unused (8 * length X) X (λ i l m. absurd (omega arith)))

-- ---- XOR

-- zeros change nothing
xor-zeros : (X : List Bool) → xor_bits X (zeros (length X)) ≡ X
unfolding zip_with
xor-zeros [] = refl
xor-zeros (b ∷ X) = ap₂ ◌∷◌ (xor-false b) (xor-zeros X)

-- P XORed into the first bytes of S: S ⊕ (P || 0^c)
pub h2b-xor : (S P : List ℕ) (c : ℕ) → 8 * length S ≡ 8 * length P + c → h2b (xor_into S P) ≡ xor_bits (h2b S) (h2b P ++ zeros c)
unfolding xor_into zip_with
h2b-xor S [] c e =
    let l : length (h2b S) ≡ c = omega (arith, length-h2b S) in
    sym (ap₂ (λ (t : List Bool) (k : ℕ). xor_bits (h2b S) (t ++ zeros k)) h2b-nil (sym l) ∙ xor-zeros (h2b S))
h2b-xor [] (p ∷ P) c e = absurd (omega arith)
h2b-xor (s ∷ S) (p ∷ P) c e =
    h2b-cons (bit_xor s p) (xor_into S P)
    ∙ ap₂ ◌++◌ (tabulate-cong 8 (test_bit (bit_xor s p)) (λ i. test_bit s i ⊕ test_bit p i) (λ i h. test_bit-xor s p i)) (h2b-xor S P c (omega arith))
    ∙ sym (ap₂ (λ (t u : List Bool). xor_bits t (u ++ zeros c)) (h2b-cons s S) (h2b-cons p P))

-- ---- the permutation

-- the state array of a string's bits
array-h2b : (S : List ℕ) → from_bit_string (h2b S) ≡ from_string S
unfolding from_bit_string from_string
array-h2b S = λ i x y z. get_or-h2b S (64 * (5 * y + x) + z) i

-- a lane's bytes
h2b-lane : (A : StateArray) (x y : ℕ) → h2b (le_bytes 8 (lane A x y)) ≡ Lane A x y
unfolding lane Lane
h2b-lane A x y =
    h2b-le_bytes 8 (from_bits 64 (A x y)) ∙ tabulate-cong 64 (test_bit (from_bits 64 (A x y))) (A x y) (λ z h. test_bit-from_bits 64 (A x y) z h)

-- the string of a state array
h2b-string : (A : StateArray) → h2b (to_string A) ≡ to_bit_string A
unfolding to_string to_bit_string Plane lane_bytes lanes
h2b-string A = simp (h2b-append, h2b-lane, append_assoc, append-nil)

-- Keccak-f[1600] on bytes is KECCAK_p[1600, 24] on their bits
pub h2b-keccak : (S : List ℕ) → h2b (keccak_f S) ≡ KECCAK_p (h2b S)
unfolding keccak_f KECCAK_p
h2b-keccak S = h2b-string (rounds 24 (from_string S)) ∙ ap (λ (A : StateArray). to_bit_string (rounds 24 A)) (sym (array-h2b S))

-- ---- lengths and bytes

-- what lanes are written to is bytes
bytes-lanes : (L : List ℕ) → Bytes (lane_bytes L)
unfolding lane_bytes
bytes-lanes [] i = omega arith
bytes-lanes (x ∷ L) i = bytes-append (le_bytes 8 x) (lane_bytes L) (le_bytes-lt 8 x) (bytes-lanes L) i

-- what Keccak-f[1600] leaves is bytes
bytes-keccak : (S : List ℕ) → Bytes (keccak_f S)
unfolding keccak_f to_string
bytes-keccak S = bytes-lanes (lanes (rounds 24 (from_string S)))

-- ---- absorbing

-- absorbing leaves bytes
bytes-absorb : (r n : ℕ) (S P : List ℕ) → Bytes S → Bytes (absorb_blocks r n S P)
unfolding absorb_blocks
bytes-absorb r zero S P h = h
bytes-absorb r (suc n) S P h = bytes-absorb r n (keccak_f (xor_into S (take r P))) (drop r P) (bytes-keccak (xor_into S (take r P)))

-- the last of n + 1 blocks
absorb-last : (r n : ℕ) (S P : List ℕ) → absorb_blocks r (suc n) S P ≡ keccak_f (xor_into (absorb_blocks r n S P) (take r (drop (r * n) P)))
unfolding absorb_blocks
absorb-last r zero S P = ap (λ (k : ℕ). keccak_f (xor_into S (take r (drop k P)))) (sym (mul-zero r))
absorb-last r (suc n) S P =
    let T = keccak_f (xor_into S (take r P)) in
    let e : r + r * n ≡ r * suc n = omega arith in
    absorb-last r n T (drop r P)
    ∙ ap (λ (t : List ℕ). keccak_f (xor_into (absorb_blocks r n T (drop r P)) (take r t))) (drop-drop (r * n) r P ∙ ap (λ (k : ℕ). drop k P) e)

-- block n of r bytes
h2b-block : (r : ℕ) (P : List ℕ) (n : ℕ) → h2b (take r (drop (r * n) P)) ≡ block_of (8 * r) (h2b P) n
unfolding block_of
h2b-block r P n =
    let e : 8 * (r * n) ≡ 8 * r * n = omega arith in
    sym (ap (λ (k : ℕ). take (8 * r) (drop k (h2b P))) (sym e) ∙ ap (take (8 * r)) (drop-h2b (r * n) P) ∙ take-h2b r (drop (r * n) P))

-- n blocks absorbed from the zero state, all of them in P
pub h2b-absorb : (r n : ℕ) (P : List ℕ) → r ≤ 200 → r * n ≤ length P
    → h2b (absorb_blocks r n (replicate 200 0) P) ≡ absorb KECCAK_p (8 * r) (1600 - 8 * r) (h2b P) n
unfolding absorb absorb_blocks
h2b-absorb r zero P l h = h2b-zeros 200
h2b-absorb r (suc n) P l h =
    let T = absorb_blocks r n (replicate 200 0) P in
    let B = take r (drop (r * n) P) in
    let c = 1600 - 8 * r in
    let lt : length T ≡ 200 = length-absorb r n (replicate 200 0) P (length-replicate {A = ℕ} 200 0) in
    let lb : length B ≡ r = length-take-le r (drop (r * n) P) (omega (arith, length-drop (r * n) P)) in
    ap h2b (absorb-last r n (replicate 200 0) P) ∙ h2b-keccak (xor_into T B)
    ∙ ap KECCAK_p
    (h2b-xor T B c (omega arith) ∙ ap₂ (λ (s b : List Bool). xor_bits s (b ++ zeros c)) (h2b-absorb r n P l (omega arith)) (h2b-block r P n))

-- the state after all blocks of P
h2b-absorbed : (r : ℕ) → r ≤ 200 → (P : List ℕ) (X : List Bool) → h2b P ≡ X
    → h2b (absorb_blocks r (length P / r) (replicate 200 0) P) ≡ absorb KECCAK_p (8 * r) (1600 - 8 * r) X (length X / (8 * r))
h2b-absorbed r fits P X e =
    let n : length P / r ≡ length X / (8 * r) =
    sym (ap (λ (t : List Bool). length t / (8 * r)) (sym e) ∙ ap (λ (k : ℕ). k / (8 * r)) (length-h2b P) ∙ mul-div-mul_left (length P) r (omega arith)) in
    h2b-absorb r (length P / r) P fits (mul-div-le (length P) r) ∙ ap₂ (absorb KECCAK_p (8 * r) (1600 - 8 * r)) e n

-- ---- squeezing

-- the blocks squeezed are bytes
bytes-squeeze : (r n : ℕ) (S : List ℕ) → Bytes S → Bytes (squeeze_blocks r n S)
unfolding squeeze_blocks
bytes-squeeze r zero S h = bytes-zeros 0
bytes-squeeze r (suc n) S h = bytes-append (take r S) (squeeze_blocks r n (keccak_f S)) (bytes_take r S h) (bytes-squeeze r n (keccak_f S) (bytes-keccak S))

-- a branch whose two sides are one value
cond_same : (b : Bool) (X Y R : List Bool) → (b ≡ true → X ≡ R) → Y ≡ R → cond b X Y ≡ R
cond_same true X Y R p q = p refl
cond_same false X Y R p q = q

-- n turns of steps 8 to 10 after Z: the first d bytes of Z and the n blocks squeezed from S
pub h2b-squeeze : (r d n : ℕ) (Z S : List ℕ) → squeeze KECCAK_p (8 * r) (8 * d) n (h2b Z) (h2b S) ≡ h2b (take d (Z ++ squeeze_blocks r n S))
unfolding squeeze squeeze_blocks
h2b-squeeze r d zero Z S = take-h2b d Z ∙ ap (λ (t : List ℕ). h2b (take d t)) (sym (append-nil Z))
h2b-squeeze r d (suc n) Z S =
    let Z' = Z ++ take r S in
    let R = squeeze_blocks r n (keccak_f S) in
    let next : List Bool → List Bool → List Bool = squeeze KECCAK_p (8 * r) (8 * d) n in
    let e : h2b Z ++ take (8 * r) (h2b S) ≡ h2b Z' = ap (λ (t : List Bool). h2b Z ++ t) (take-h2b r S) ∙ sym (h2b-append Z (take r S)) in
    ap₂ (λ (z t : List Bool). cond (leb (8 * d) (length z)) (take (8 * d) z) (next z t)) e (sym (h2b-keccak S))
    ∙ cond_same (leb (8 * d) (length (h2b Z'))) (take (8 * d) (h2b Z')) (next (h2b Z') (h2b (keccak_f S))) (h2b (take d (Z' ++ R)))
    (λ l. take-h2b d Z' ∙ ap h2b (sym (take-append-le d Z' R (omega (arith, leb-true (8 * d) (length (h2b Z')) l, length-h2b Z')))))
    (h2b-squeeze r d n Z' (keccak_f S))
    ∙ ap (λ (t : List ℕ). h2b (take d t)) (append_assoc Z (take r S) R)

-- a result is bytes
bytes-sponge : (r first : ℕ) (M : List ℕ) (d : ℕ) → Bytes (sponge r first M d)
unfolding sponge
bytes-sponge r first M d =
    let P = M ++ padding r first (length M) in
    let S = absorb_blocks r (length P / r) (replicate 200 0) P in
    bytes_take d (squeeze_blocks r (d / r + 1) S) (bytes-squeeze r (d / r + 1) S (bytes-absorb r (length P / r) (replicate 200 0) P (bytes-zeros 200)))

-- ---- padding, and the sponge

-- a number made of bits of which the highest is false
from_bits-top : (w : ℕ) (f : ℕ → Bool) → f w ≡ false → from_bits (suc w) f ≡ from_bits w f
unfolding from_bits
from_bits-top w f e = ap (λ (b : Bool). from_bits w f + bit_val b * 2 ^ w) e ∙ omega arith

-- the zeros of pad10*1 after a message of m bytes and a suffix of s bits: with the suffix and two ones they fill r - (m mod r) bytes
pad-zeros : (r m s : ℕ) → 0 < r → s ≤ 6 → 8 * (r - m % r) ≡ s + 2 + (8 * r - (8 * m + s + 2) % (8 * r)) % (8 * r)
pad-zeros r m s h l =
    let x = 8 * r in
    let y = 8 * (m % r) + s + 2 in
    let d = div-add-mod m r in
    let lt = mod-lt m h in
    let e : 8 * m + s + 2 ≡ x * (m / r) + y = omega arith in
    let p : (8 * m + s + 2) % x ≡ y % x = ap (λ (k : ℕ). k % x) e ∙ mul-add-mod_self_left x (m / r) y in
    ⊎_elim
    (λ (u : y < x).
    let a : y % x ≡ y = mod-eq_of_lt u in
    let b : (x - (8 * m + s + 2) % x) % x ≡ x - (8 * m + s + 2) % x = mod-eq_of_lt (omega arith) in
    omega arith)
    (λ (u : x ≤ y).
    let a : y % x ≡ 0 = ap (λ (k : ℕ). k % x) (omega arith) ∙ mod_self x in
    let c : x - (8 * m + s + 2) % x ≡ x = omega arith in
    let b : (x - (8 * m + s + 2) % x) % x ≡ 0 = ap (λ (k : ℕ). k % x) c ∙ mod_self x in
    omega arith)
    (lt-or-le y x)

-- the last byte of the padding
last-bits : byte_bits 0x80 ≡ zeros 7 ++ (true ∷ [])
unfolding test_bit odd
last-bits = refl

-- a suffix of at most 6 bits, and the byte that holds it, a 1 and zeros
module _ (suffix : List Bool) (short : length suffix ≤ 6) (first : ℕ) (made : first ≡ from_bits 8 (λ i. get_or (suffix ++ (true ∷ [])) i false)) where
  -- the bits of that byte
  first-bits : (w k : ℕ) → w ≤ 8 → w ≡ length suffix + 1 + k → tabulate w (test_bit first) ≡ suffix ++ (true ∷ zeros k)
  first-bits w k l e =
      let X = suffix ++ (true ∷ []) in
      let n = length-append suffix (true ∷ []) in
      let q : w - length X ≡ k = omega arith in
      ap (λ (x : ℕ). tabulate w (test_bit x)) made
      ∙ tabulate-cong w (test_bit (from_bits 8 (λ i. get_or X i false))) (λ i. get_or X i false) (λ i h. test_bit-from_bits 8 (λ j. get_or X j false) i (omega arith))
      ∙ tabulate-zeros w X (omega arith) ∙ append_assoc suffix (true ∷ []) (zeros (w - length X)) ∙ ap (λ (t : ℕ). suffix ++ (true ∷ zeros t)) q

  -- its highest bit is false
  first-lt : first < 2 ^ 7
  first-lt =
      let f : ℕ → Bool = λ i. get_or (suffix ++ (true ∷ [])) i false in
      let e : first ≡ from_bits 7 f = made ∙ from_bits-top 7 f (get_or-eq_default (suffix ++ (true ∷ [])) false (omega (arith, length-append suffix (true ∷ [])))) in
      omega (arith, from_bits-lt 7 f)

  -- the only byte of the padding: the suffix, 1, zeros, 1
  only-bits : (k : ℕ) → 8 ≡ length suffix + 2 + k → byte_bits (first + 0x80) ≡ suffix ++ (true ∷ (zeros k ++ (true ∷ [])))
  only-bits k e =
      let y = 1 * 2 ^ 7 + first in
      let p : first + 0x80 ≡ y = omega arith in
      ap byte_bits p ∙ tabulate-add 7 1 (test_bit y)
      ∙ ap₂ (λ (t : List Bool) (b : Bool). t ++ (b ∷ []))
      (tabulate-cong 7 (test_bit y) (test_bit first) (λ i h. test_bit-low 1 7 first i h) ∙ first-bits 7 k (omega arith) (omega arith))
      (test_bit-block 1 7 first 0 first-lt ∙ test_bit-bit_val true)
      ∙ append_assoc suffix (true ∷ zeros k) (true ∷ [])

  -- more than one byte of padding: the suffix, 1, zeros, 1
  more-bits : (n k : ℕ) → 8 * n + 16 ≡ length suffix + 2 + k → h2b (first ∷ (replicate n 0 ++ (0x80 ∷ []))) ≡ suffix ++ (true ∷ (zeros k ++ (true ∷ [])))
  more-bits n k e =
      let a = 7 - length suffix in
      let q : a + (8 * n + 7) ≡ k = omega arith in
      h2b-cons first (replicate n 0 ++ (0x80 ∷ []))
      ∙ ap₂ ◌++◌ (first-bits 8 a (omega arith) (omega arith)) (h2b-append (replicate n 0) (0x80 ∷ []) ∙ ap₂ ◌++◌ (h2b-zeros n) (h2b-one 0x80 ∙ last-bits))
      ∙ append_assoc suffix (true ∷ zeros a) (zeros (8 * n) ++ (zeros 7 ++ (true ∷ [])))
      ∙ ap (λ (t : List Bool). suffix ++ (true ∷ t))
      (ap (λ (t : List Bool). zeros a ++ t) (zeros-append (8 * n) 7 (true ∷ [])) ∙ zeros-append a (8 * n + 7) (true ∷ []) ∙ ap (λ (t : ℕ). zeros t ++ (true ∷ [])) q)

  -- padding of q bytes: the suffix, 1, zeros, 1
  pad-bits : (q k : ℕ) → 8 * q ≡ length suffix + 2 + k
      → h2b (cond (eqb q 1) ((first + 0x80) ∷ []) (first ∷ (replicate (q - 2) 0 ++ (0x80 ∷ [])))) ≡ suffix ++ (true ∷ (zeros k ++ (true ∷ [])))
  pad-bits zero k e = absurd (omega arith)
  pad-bits (suc zero) k e = h2b-one (first + 0x80) ∙ only-bits k e
  pad-bits (suc (suc n)) k e = rw (ne_eqb (suc (suc n)) 1 (omega arith)) (more-bits (suc (suc n) - 2) k (omega arith))

  -- the padded message: B.2's padding is the suffix and pad10*1
  pub h2b-padded : (r : ℕ) → 0 < r → (M : List ℕ) → h2b (M ++ padding r first (length M)) ≡ h2b M ++ suffix ++ pad10*1 (8 * r) (length (h2b M ++ suffix))
  unfolding padding pad10*1
  h2b-padded r pos M =
      let N = h2b M ++ suffix in
      let j = (8 * r - (length N + 2) % (8 * r)) % (8 * r) in
      let n : length N ≡ 8 * length M + length suffix = length-append (h2b M) suffix ∙ ap (λ (k : ℕ). k + length suffix) (length-h2b M) in
      let z : 8 * (r - length M % r) ≡ length suffix + 2 + j =
      pad-zeros r (length M) (length suffix) pos short ∙ ap (λ (k : ℕ). length suffix + 2 + (8 * r - (k + 2) % (8 * r)) % (8 * r)) (sym n) in
      h2b-append M (padding r first (length M)) ∙ ap (λ (t : List Bool). h2b M ++ t) (pad-bits (r - length M % r) j z)
      ∙ sym (append_assoc (h2b M) suffix (true ∷ (zeros j ++ (true ∷ []))))

  -- the bits of the sponge on bytes are the standard's sponge on bits, for every rate of r bytes
  pub h2b-sponge : (r : ℕ) → 0 < r → r ≤ 200 → (M : List ℕ) (d : ℕ) → h2b (sponge r first M d) ≡ SPONGE KECCAK_p pad10*1 (8 * r) (h2b M ++ suffix) (8 * d)
  unfolding sponge SPONGE
  h2b-sponge r pos fits M d =
      let P = M ++ padding r first (length M) in
      let S = absorb_blocks r (length P / r) (replicate 200 0) P in
      let n : d / r ≡ 8 * d / (8 * r) = sym (mul-div-mul_left d r (omega arith)) in
      sym (h2b-squeeze r d (d / r + 1) [] S)
      ∙ ap₂ (λ (k : ℕ) (z : List Bool). squeeze KECCAK_p (8 * r) (8 * d) (k + 1) z (h2b S)) n h2b-nil
      ∙ ap (squeeze KECCAK_p (8 * r) (8 * d) (8 * d / (8 * r) + 1) []) (h2b-absorbed r fits P _ (h2b-padded r pos M))

  -- and its bytes are b2h of them
  pub sponge-bits : (r : ℕ) → 0 < r → r ≤ 200 → (M : List ℕ) (d : ℕ) → sponge r first M d ≡ b2h (SPONGE KECCAK_p pad10*1 (8 * r) (h2b M ++ suffix) (8 * d))
  sponge-bits r pos fits M d = sym (b2h-h2b (sponge r first M d) (bytes-sponge r first M d)) ∙ ap b2h (h2b-sponge r pos fits M d)

-- ---- the three functions

-- SHA3-256 on bytes
pub sha3-256-bits : SHA3_256_on_bytes
unfolding sha3_256 SHA3-256 KECCAK from_bits
sha3-256-bits M = sponge-bits (false ∷ true ∷ []) (omega arith) 0x06 refl 136 (omega arith) (omega arith) M 32

-- SHAKE128 on bytes, d of them
pub shake128-bits : SHAKE128_on_bytes
unfolding shake128 SHAKE128 KECCAK from_bits
shake128-bits M d = sponge-bits (true ∷ true ∷ true ∷ true ∷ []) (omega arith) 0x1f refl 168 (omega arith) (omega arith) M d

-- SHAKE256 on bytes, d of them
pub shake256-bits : SHAKE256_on_bytes
unfolding shake256 SHAKE256 KECCAK from_bits
shake256-bits M d = sponge-bits (true ∷ true ∷ true ∷ true ∷ []) (omega arith) 0x1f refl 136 (omega arith) (omega arith) M d

-- ---- where the definitions on bit strings say a line of the standard otherwise: the difference modulo x, the number of turns

-- Algorithm 9's output: m + len(P) is a multiple of x
pub pad-multiple : PadMultiple
unfolding pad10*1
pad-multiple x m h =
    let a = (m + 2) % x in
    let j = (x - a) % x in
    let d = div-add-mod (m + 2) x in
    let lt = mod-lt (m + 2) h in
    let e : m + length (true ∷ (zeros j ++ (true ∷ []))) ≡ m + 2 + j = omega (arith, length-append (zeros j) (true ∷ []), length-replicate j false) in
    let f : m + 2 + (x - a) ≡ x * ((m + 2) / x + 1) = omega arith in
    ap (λ (k : ℕ). k % x) e ∙ add-mod-mod (m + 2) (x - a) x ∙ ap (λ (k : ℕ). k % x) f ∙ mul-mod_right x ((m + 2) / x + 1)

module _ (f : List Bool → List Bool) (r d : ℕ) (room : (S : List Bool) → r ≤ length (f S)) where
  -- steps 8 to 10 with n turns, enough for d bits after Z, and with more of them
  more-turns : (n m : ℕ) → n ≤ m → (Z S : List Bool) → r ≤ length S → d ≤ length Z + n * r → squeeze f r d m Z S ≡ squeeze f r d n Z S
  unfolding squeeze
  more-turns zero zero l Z S k h = refl
  more-turns zero (suc m) l Z S k h =
      rw (le-leb d (length (Z ++ take r S)) (omega (arith, length-append Z (take r S)))) (take-append-le d Z (take r S) (omega arith))
  more-turns (suc n) zero l Z S k h = absurd (omega arith)
  more-turns (suc n) (suc m) l Z S k h =
      let Z' = Z ++ take r S in
      ap (cond (leb d (length Z')) (take d Z'))
      (more-turns n m (omega arith) Z' (f S) (room S) (omega (arith, length-append Z (take r S), length-take-le r S k)))

-- d / r + 1 turns are enough
pub turns-enough : TurnsEnough
turns-enough f r d room m h l S k = more-turns f r d room (d / r + 1) m l [] S k (omega (arith, lt-div-mul-add {a = d} h))

-- a lane has 64 bits
length-Lane : (A : StateArray) (i j : ℕ) → length (Lane A i j) ≡ 64
unfolding Lane
length-Lane A i j = length-tabulate 64 (A i j)

-- KECCAK_p[1600, 24] leaves 1600 bits
pub length-KECCAK-p : (S : List Bool) → length (KECCAK_p S) ≡ 1600
unfolding KECCAK_p to_bit_string Plane
length-KECCAK-p S = simp (length-append, length-Lane)
