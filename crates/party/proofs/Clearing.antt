-- Clearing the unused bits of a row.
-- Assumes nothing.
use native.Mathlib.Omega.{arith}
use native.Mathlib.Nat.{mod-lt, mod-eq_of_lt, mod-one, one-mul}
use native.Mathlib.Numerals.{add-one}
use mathlib.Core.Path.{◌≡◌, refl, sym, ap, ◌∙◌}
use mathlib.Core.List.{List, [], ◌∷◌, ◌++◌, append-nil, append_assoc}
use Prim.Native.Nat.{ℕ, zero, suc, ◌+◌, ◌-◌, ◌*◌, ◌/◌, ◌%◌, ◌^◌, ◌≤◌, ◌<◌, min}
use lib.Pow.{pow_pos, pow-lt}
use lib.ListN.{length, get_or, set, take, drop, replicate, length-set, length-drop, drop_of_length-le}
use lib.Seq.{take-suc-set, length-take-le}
use borrow.Rule.Slice.PartMut.{put_mid, same_len_mid}
use Rattle.hashing.specs.declared.Context.{Context}
use Rattle.keccak.proofs.Absorbing.{Bytes}
use mathlib.Core.Bool.{true, false}
use Rattle.bits.specs.Bits.{bit_at, unused_zero}
use Rattle.bits.proofs.Numbers.{test_bit-mod, test_bit-high}
use Rattle.bits.proofs.Packing.{all-unused}
use Rattle.keccak.specs.Sponge.{shake128}
use Rattle.hashing.specs.Inputs.{tape_input}
use Rattle.party.specs.Derive.{clear_from, tape_row}
use Rattle.keccak.proofs.Lengths.{length-shake128}

-- all bits cleared
clear-all : (s : List ℕ) → clear_from 0 s ≡ replicate (length s) 0
unfolding clear_from
clear-all [] = refl
clear-all (x ∷ s) = rw (clear-all s, mod-one x)

-- no bit cleared
pub clear_none : (k : ℕ) (s : List ℕ) → Bytes s → 8 * length s ≤ k → s ≡ clear_from k s
unfolding clear_from
clear_none k [] h w = refl
clear_none k (x ∷ s) h w =
    let m : min k 8 ≡ 8 = omega arith in
    rw (m, mod-eq_of_lt {n = x} {m = 256} (h 0)) (ap (λ (z : List ℕ). x ∷ z) (clear_none (k - 8) s (λ i. h (suc i)) (omega arith)))

-- the whole bytes before bit 8q + z, what is left of its byte, and zeros
clear-parts : (q z : ℕ) (s : List ℕ) → z < 8 → Bytes s → q < length s
    → take q s ++ (get_or s q 0 % 2 ^ z ∷ replicate (length s - (q + 1)) 0) ≡ clear_from (8 * q + z) s
unfolding clear_from
clear-parts q z [] w h l = absurd (omega arith)
clear-parts zero z (x ∷ s) w h l =
    let m : min (8 * 0 + z) 8 ≡ z = omega arith in
    let k : 8 * 0 + z - 8 ≡ 0 = omega arith in
    let n : suc (length s) - (0 + 1) ≡ length s = omega arith in
    rw (m, k, n, clear-all s)
clear-parts (suc q) z (x ∷ s) w h l =
    let m : min (8 * suc q + z) 8 ≡ 8 = omega arith in
    let k : 8 * suc q + z - 8 ≡ 8 * q + z = omega arith in
    let n : suc (length s) - (suc q + 1) ≡ length s - (q + 1) = omega arith in
    rw (m, k, n, mod-eq_of_lt {n = x} {m = 256} (h 0)) (ap (λ (y : List ℕ). x ∷ y) (clear-parts q z s w (λ i. h (suc i)) (omega arith)))

-- 1 moved up by z places in a byte
pub byte_shl : (z : ℕ) → z < 8 → 1 * 2 ^ z % 256 ≡ 2 ^ z
byte_shl z w = rw (one-mul (2 ^ z)) (mod-eq_of_lt (pow-lt w))

pub byte-some : (k : ℕ) → 0 < 1 * 2 ^ (k % 8) % 256
byte-some k = rw (byte_shl (k % 8) (omega arith)) (pow_pos (k % 8))

-- a byte cleared in part, and zeros written to the part after it
abbrev pub cleared : ℕ → List ℕ → ℕ
cleared k s = get_or s (k / 8) 0 % (1 * 2 ^ (k % 8) % 256)

module _ (k : ℕ) (s Z : List ℕ) (h : Bytes s) (w : k / 8 < length s) where
  pub clear-code : Z ≡ replicate (length (take (length (set s (k / 8) (cleared k s)) - (k / 8 + 1)) (drop (k / 8 + 1) (set s (k / 8) (cleared k s))))) 0
      → put_mid (k / 8 + 1) (length (set s (k / 8) (cleared k s)) - (k / 8 + 1)) (set s (k / 8) (cleared k s)) Z ≡ clear_from k s
  clear-code e =
      let T : List ℕ = set s (k / 8) (cleared k s) in
      let l : length T ≡ length s = length-set s (k / 8) (cleared k s) in
      let d : length (drop (k / 8 + 1) T) ≡ length T - (k / 8 + 1) = length-drop (k / 8 + 1) T in
      let n : length (take (length T - (k / 8 + 1)) (drop (k / 8 + 1) T)) ≡ length s - (k / 8 + 1) =
      length-take-le (length T - (k / 8 + 1)) (drop (k / 8 + 1) T) (omega arith) ∙ omega arith in
      let none : drop (length T - (k / 8 + 1)) (drop (k / 8 + 1) T) ≡ [] = drop_of_length-le (drop (k / 8 + 1) T) {i = length T - (k / 8 + 1)} (omega arith) in
      let t : take (k / 8 + 1) T ≡ take (k / 8) s ++ (cleared k s ∷ []) = rw (add-one (k / 8)) (take-suc-set s (k / 8) (cleared k s) w) in
      let f : Z ≡ replicate (length s - (k / 8 + 1)) 0 = e ∙ ap (λ (y : ℕ). replicate y 0) n in
      let k8 : 8 * (k / 8) + k % 8 ≡ k = omega arith in
      ap (λ (y : List ℕ). y ++ (Z ++ drop (length T - (k / 8 + 1)) (drop (k / 8 + 1) T))) t
      ∙ (ap (λ (y : List ℕ). (take (k / 8) s ++ (cleared k s ∷ [])) ++ (Z ++ y)) none
      ∙ (ap (λ (y : List ℕ). (take (k / 8) s ++ (cleared k s ∷ [])) ++ y) (append-nil Z ∙ f)
      ∙ (append_assoc (take (k / 8) s) (cleared k s ∷ []) (replicate (length s - (k / 8 + 1)) 0)
      ∙ (ap (λ (y : ℕ). take (k / 8) s ++ (get_or s (k / 8) 0 % y ∷ replicate (length s - (k / 8 + 1)) 0)) (byte_shl (k % 8) (omega arith))
      ∙ (clear-parts (k / 8) (k % 8) s (omega arith) h w ∙ ap (λ (y : ℕ). clear_from y s) k8)))))

  pub clear_kept : length Z ≡ length (take (length (set s (k / 8) (cleared k s)) - (k / 8 + 1)) (drop (k / 8 + 1) (set s (k / 8) (cleared k s))))
      → length (put_mid (k / 8 + 1) (length (set s (k / 8) (cleared k s)) - (k / 8 + 1)) (set s (k / 8) (cleared k s)) Z) ≡ length s
  clear_kept e = same_len_mid (k / 8 + 1) (length (set s (k / 8) (cleared k s)) - (k / 8 + 1)) (set s (k / 8) (cleared k s)) Z e ∙ length-set s (k / 8) (cleared k s)

-- a row keeps its length
pub length-clear : (k : ℕ) (s : List ℕ) → length (clear_from k s) ≡ length s
unfolding clear_from
length-clear k [] = refl
length-clear k (x ∷ s) = ap suc (length-clear (k - 8) s)

pub length-tape : (j : Context) (i : ℕ) (seed : List ℕ) (k len : ℕ) → length (tape_row j i seed k len) ≡ len
unfolding tape_row
length-tape j i seed k len = length-clear k _ ∙ length-shake128 _ len

get_or-clear : (k m : ℕ) (s : List ℕ) → get_or (clear_from k s) m 0 ≡ get_or s m 0 % 2 ^ min (k - 8 * m) 8
unfolding clear_from
get_or-clear k m [] = sym (mod-eq_of_lt {n = 0} (pow_pos (min (k - 8 * m) 8)))
get_or-clear k zero (x ∷ s) = let e : k - 8 * 0 ≡ k = omega arith in rw e
get_or-clear k (suc m) (x ∷ s) = let e : k - 8 * suc m ≡ k - 8 - 8 * m = omega arith in rw e (get_or-clear (k - 8) m s)

-- the bits before bit k are as they were, and the others are clear
pub clear-before : (k i : ℕ) (s : List ℕ) → i < k → bit_at (clear_from k s) i ≡ bit_at s i
unfolding bit_at
clear-before k i s w = rw (get_or-clear k (i / 8) s) (test_bit-mod (get_or s (i / 8) 0) (min (k - 8 * (i / 8)) 8) (i % 8) (omega arith))

pub clear-after : (k i : ℕ) (s : List ℕ) → k ≤ i → bit_at (clear_from k s) i ≡ false
unfolding bit_at
clear-after k i s w =
    let e : ℕ = min (k - 8 * (i / 8)) 8 in
    rw (get_or-clear k (i / 8) s) (test_bit-high e (get_or s (i / 8) 0 % 2 ^ e) (i % 8) (mod-lt (get_or s (i / 8) 0) (pow_pos e)) (omega arith))

-- a tape's unused bits are zero
pub tape-unused : (j : Context) (i : ℕ) (seed : List ℕ) (k len : ℕ) → unused_zero k (tape_row j i seed k len) ≡ true
unfolding tape_row
tape-unused j i seed k len = all-unused k (clear_from k (shake128 (tape_input j i seed) len)) (λ b l m. clear-after k b _ l)
