-- Absorbing byte by byte and padding make the standard's absorbing phase.
-- Assumes nothing.
use mathlib.Core.Path.{◌≡◌, refl, sym, ap, ap₂, ◌∙◌}
use mathlib.Core.List.{List, [], ◌∷◌, ◌++◌, append_assoc}
use mathlib.Core.Logic.{⊎_elim, ◌≢◌}
use Prim.Native.Nat.{ℕ, zero, suc, ◌+◌, ◌-◌, ◌*◌, ◌/◌, ◌%◌, ◌^◌, ◌≤◌, ◌<◌}
use native.Mathlib.Nat.{mod-eq_of_lt, mul_assoc, lt_of_lt_of_le, div-eq_of_lt, suc-mul, add_comm, add-mod_right, add-mul-mod_self_right, mul-div_cancel}
use native.Mathlib.Omega.{arith}
use lib.Bits.{bit_xor, xor_comm, xor_lt, xor_shifted, xor_shr, xor_mod, xor_zero_r}
use lib.ListN.{length, get_or, set, take, drop, length-append, length-set, length-drop, take-append-drop, replicate, length-replicate}
use native.Mathlib.Numerals.{add-one}
use lib.Pow.{pow-add, pow_mono, shl-shr, shl_lt}
use lib.Seq.{ext_get_or, length-take-le, take_all, take-append-le, drop-append-le, get_or-set_same, get_or-set_other, set-get_or, set-set, drop-cons, take-suc-set, drop-set-lt}
use borrow.Author.Tests.{eq-eqb, ne_eqb}
use Rattle.bits.proofs.Little.{pow-bytes}
use Rattle.bits.proofs.Numbers.{eq-or-ne, lt-or-le}
use Rattle.keccak.specs.declared.sponge.Sponge.{Sponge}
use Rattle.permutation.specs.Permutation.{lane_bytes, keccak_f}
use Rattle.keccak.specs.Sponge.{xor_into, absorb_blocks, padding}
use Rattle.keccak.specs.Steps.{permuted, xor_bytes, byte_at, xor_byte, absorbs, padded}
use Rattle.permutation.proofs.Agree.{length-lanes, lanes-lt}
use Rattle.permutation.proofs.Lanes.{Lanes64}
use Rattle.keccak.proofs.Bytes.{bytes-tail, bytes-append, bytes_take, bytes_drop}
pub use Rattle.keccak.proofs.Bytes.{Bytes}
use Rattle.keccak.proofs.Steps.{xor_bytes-append, absorbs-block, turned-full, turned-part, absorbs-append}
use Rattle.bits.proofs.Ops.{bit_xor-assoc, shifted-xor}
use Rattle.permutation.proofs.Strings.{length-lane_bytes, get_or-lane_bytes, keccak_f-lanes}

-- 25 lanes of 64 bits
pub record State (l : List ℕ) : Type 0 where
  pub long : length l ≡ 25
  pub small : Lanes64 l

-- a byte shifted up to one place leaves nothing at another
other_byte : (b j k : ℕ) → b < 256 → j ≢ k → b * 2 ^ (8 * j) / 2 ^ (8 * k) % 256 ≡ 0
other_byte b j k h n =
    ⊎_elim
    (λ l.
    let lt : b * 2 ^ (8 * j) < 2 ^ (8 * k) =
    lt_of_lt_of_le (shl_lt {a = b} 8 (8 * j) h) (pow_mono {i = 8 + 8 * j} {j = 8 * k} (omega arith)) in
    rw (div-eq_of_lt lt))
    (λ l.
    let d : ℕ = j - k - 1 in
    let e : 8 * j ≡ 8 * d + 8 + 8 * k = omega arith in
    let p : b * 2 ^ (8 * j) ≡ b * 2 ^ (8 * d) * 256 * 2 ^ (8 * k) =
    ap (λ (x : ℕ). b * 2 ^ x) e ∙ ap (λ (x : ℕ). b * x) (pow-add 2 (8 * d + 8) (8 * k) ∙ ap (λ (x : ℕ). x * 2 ^ (8 * k)) (pow-add 2 (8 * d) 8))
    ∙ simp mul_assoc in
    rw (p, shl-shr (b * 2 ^ (8 * d) * 256) (8 * k)) (omega arith))
    (lt-or-le j k)

-- byte k of L with b XORed into byte j
xor-byte-at : (L b j k : ℕ) → b < 256 → bit_xor L (b * 2 ^ (8 * j)) / 2 ^ (8 * k) % 256 ≡ bit_xor (L / 2 ^ (8 * k) % 256) (b * 2 ^ (8 * j) / 2 ^ (8 * k) % 256)
xor-byte-at L b j k h = rw (xor_shr L (b * 2 ^ (8 * j)) (8 * k)) (xor_mod (L / 2 ^ (8 * k)) (b * 2 ^ (8 * j) / 2 ^ (8 * k)) 8)

-- byte k of the state's string
pub byte-is : (l : List ℕ) (k : ℕ) → k < 8 * length l → get_or (lane_bytes l) k 0 ≡ byte_at l k
unfolding byte_at
byte-is l k h = get_or-lane_bytes l k h ∙ rw (pow-bytes (k % 8))

module _ (l : List ℕ) (st : State l) (k : ℕ) (in-state : k < 200) (b : ℕ) (byte : b < 256) where
  xor_byte-long : length (xor_byte l k b) ≡ 25
  unfolding xor_byte
  xor_byte-long = length-set l (k / 8) _ ∙ st.long

  -- a byte XORed in leaves 25 lanes of 64 bits
  pub xor_byte-state : State (xor_byte l k b)
  unfolding xor_byte
  xor_byte-state =
      let L : ℕ = get_or l (k / 8) 0 in
      let up : b * 2 ^ (8 * (k % 8)) < 2 ^ 64 =
      lt_of_lt_of_le (shl_lt {a = b} 8 (8 * (k % 8)) byte) (pow_mono {i = 8 + 8 * (k % 8)} {j = 64} (omega arith)) in
      let v : ℕ = bit_xor L (b * 2 ^ (8 * (k % 8))) in
      let n = st.long in
      record {
        long = xor_byte-long;
        small = λ i.
            ⊎_elim
            (λ e. rw (e, get_or-set_same l (k / 8) v 0 (omega arith)) (xor_lt 64 L _ (st.small (k / 8)) up))
            (λ e. rw (get_or-set_other l (k / 8) i v 0 e) (st.small i))
            (eq-or-ne i (k / 8));
      }

  -- the byte at place i after b is XORed into byte k
  byte-after : (i : ℕ) → i < 200 → byte_at (xor_byte l k b) i ≡ get_or (set (lane_bytes l) k (bit_xor (byte_at l k) b)) i 0
  unfolding xor_byte byte_at
  byte-after i h =
      let n = st.long in
      let m : length (lane_bytes l) ≡ 200 = length-lane_bytes l ∙ ap (λ (x : ℕ). 8 * x) n in
      let L : ℕ = get_or l (k / 8) 0 in
      let v : ℕ = bit_xor L (b * 2 ^ (8 * (k % 8))) in
      let w : ℕ = bit_xor (L / 2 ^ (8 * (k % 8)) % 256) b in
      ⊎_elim
      (λ e.
      rw (e, get_or-set_same l (k / 8) v 0 (omega arith), get_or-set_same (lane_bytes l) k w 0 (omega arith))
      (xor-byte-at L b (k % 8) (k % 8) byte ∙ rw (shl-shr b (8 * (k % 8)), mod-eq_of_lt byte)))
      (λ ne.
      rw (get_or-set_other (lane_bytes l) k i w 0 ne, byte-is l i (omega arith))
      (⊎_elim
      (λ e.
      let ne' : k % 8 ≢ i % 8 = λ q. ne (omega arith) in
      rw (e, get_or-set_same l (k / 8) v 0 (omega arith))
      (xor-byte-at L b (k % 8) (i % 8) byte ∙ rw (other_byte b (k % 8) (i % 8) byte ne', xor_zero_r)))
      (λ ne'. rw (get_or-set_other l (k / 8) (i / 8) v 0 ne'))
      (eq-or-ne (i / 8) (k / 8))))
      (eq-or-ne i k)

  -- a byte XORed into the lanes is a byte XORed into the string
  pub xor_byte-bytes : lane_bytes (xor_byte l k b) ≡ set (lane_bytes l) k (bit_xor (get_or (lane_bytes l) k 0) b)
  xor_byte-bytes =
      let n = st.long in
      let m : length (lane_bytes l) ≡ 200 = length-lane_bytes l ∙ ap (λ (x : ℕ). 8 * x) n in
      let m' : length (lane_bytes (xor_byte l k b)) ≡ 200 = length-lane_bytes (xor_byte l k b) ∙ ap (λ (x : ℕ). 8 * x) xor_byte-long in
      rw (byte-is l k (omega arith))
      (ext_get_or 0 (lane_bytes (xor_byte l k b)) _ (m' ∙ sym (length-set (lane_bytes l) k _ ∙ m))
      (λ i h. byte-is (xor_byte l k b) i (omega (arith, xor_byte-long)) ∙ byte-after i (omega arith)))

-- the permutation leaves 25 lanes of 64 bits
pub permuted-state : (l : List ℕ) → State (permuted l)
permuted-state l = record { long = length-lanes _; small = λ k. lanes-lt _ k }

-- bytes XORed in leave 25 lanes of 64 bits
pub xor_bytes-state : (M l : List ℕ) (j : ℕ) → State l → Bytes M → j + length M ≤ 200 → State (xor_bytes l j M)
unfolding xor_bytes
xor_bytes-state [] l j st h k = st
xor_bytes-state (b ∷ M) l j st h k =
    xor_bytes-state M (xor_byte l j b) (j + 1) (xor_byte-state l st j (omega arith) b (h 0)) (bytes-tail b M h) (omega arith)

-- the string after a byte at place j, from there on
set-from : (S : List ℕ) (j b : ℕ) (M : List ℕ) → j < length S
    → take (j + 1) (set S j (bit_xor (get_or S j 0) b)) ++ xor_into (drop (j + 1) (set S j (bit_xor (get_or S j 0) b))) M
    ≡ take j S ++ xor_into (drop j S) (b ∷ M)
unfolding xor_into
set-from S j b M h =
    let v : ℕ = bit_xor (get_or S j 0) b in
    rw (add-one, take-suc-set S j v h, drop-set-lt (suc j) S j v (omega arith), drop-cons S j 0 h, append_assoc)

-- bytes XORed into the lanes are bytes XORed into the string
pub xor_bytes-bytes : (M l : List ℕ) (j : ℕ) → State l → Bytes M → j + length M ≤ 200
    → lane_bytes (xor_bytes l j M) ≡ take j (lane_bytes l) ++ xor_into (drop j (lane_bytes l)) M
unfolding xor_bytes
xor_bytes-bytes [] l j st h k = unfold xor_into in sym (take-append-drop j (lane_bytes l))
xor_bytes-bytes (b ∷ M) l j st h k =
    let m : length (lane_bytes l) ≡ 200 = length-lane_bytes l ∙ ap (λ (x : ℕ). 8 * x) st.long in
    xor_bytes-bytes M (xor_byte l j b) (j + 1) (xor_byte-state l st j (omega arith) b (h 0)) (bytes-tail b M h) (omega arith)
    ∙ ap (λ (S : List ℕ). take (j + 1) S ++ xor_into (drop (j + 1) S) M) (xor_byte-bytes l st j (omega arith) b (h 0))
    ∙ set-from (lane_bytes l) j b M (omega arith)

-- zero bytes change nothing
xor_byte-zero : (l : List ℕ) (k : ℕ) → xor_byte l k 0 ≡ l
unfolding xor_byte
xor_byte-zero l k = let e : 0 * 2 ^ (8 * (k % 8)) ≡ 0 = omega arith in rw (e, xor_zero_r) (set-get_or l (k / 8) 0)

xor_bytes-zeros : (n : ℕ) (l : List ℕ) (j : ℕ) → xor_bytes l j (replicate n 0) ≡ l
unfolding xor_bytes
xor_bytes-zeros zero l j = refl
xor_bytes-zeros (suc n) l j = ap (λ (x : List ℕ). xor_bytes x (j + 1) (replicate n 0)) (xor_byte-zero l j) ∙ xor_bytes-zeros n l (j + 1)

-- two bytes XORed into one place
xor_byte-twice : (l : List ℕ) (k a b : ℕ) → k / 8 < length l → xor_byte (xor_byte l k a) k b ≡ xor_byte l k (bit_xor a b)
unfolding xor_byte
xor_byte-twice l k a b h =
    let L : ℕ = get_or l (k / 8) 0 in
    let p : ℕ = 2 ^ (8 * (k % 8)) in
    let v : ℕ = bit_xor L (a * p) in
    rw (get_or-set_same l (k / 8) v 0 h, set-set, bit_xor-assoc L (a * p) (b * p), shifted-xor a b (8 * (k % 8)))

-- the padding, XORed in, is its first byte and its last bit
padding-bytes : (r first m : ℕ) (l : List ℕ) → State l → r < 200 → m < r → first < 128
    → xor_bytes l m (padding r first m) ≡ xor_byte (xor_byte l m first) (r - 1) 0x80
unfolding padding xor_bytes
padding-bytes r first m l st h k f =
    let e : m % r ≡ m = mod-eq_of_lt k in
    let n = st.long in
    let lane : m / 8 < length l = omega arith in
    rw e
    (⊎_elim
    (λ one.
    let at : r - 1 ≡ m = omega arith in
    let s : bit_xor first 0x80 ≡ first + 0x80 = xor_comm first 0x80 ∙ xor_shifted 1 7 first f ∙ (let z : 1 * 2 ^ 7 + first ≡ first + 0x80 = omega arith in z) in
    rw (eq-eqb (r - m) 1 one, at) (sym (xor_byte-twice l m first 0x80 lane ∙ ap (xor_byte l m) s)))
    (λ more.
    let at : m + 1 + (r - m - 2) ≡ r - 1 = omega arith in
    rw (ne_eqb (r - m) 1 more)
    (xor_bytes-append (replicate (r - m - 2) 0) (0x80 ∷ []) (xor_byte l m first) (m + 1)
    ∙ rw (xor_bytes-zeros (r - m - 2) (xor_byte l m first) (m + 1), length-replicate {A = ℕ} (r - m - 2) 0, at)))
    (eq-or-ne (r - m) 1))

module _ (r first : ℕ) (some : 0 < r) (below : r < 200) (small : first < 128) where
  -- the padding fills the last block
  padding-length : (m : ℕ) → m < r → m + length (padding r first m) ≡ r
  unfolding padding
  padding-length m h =
      let e : m % r ≡ m = mod-eq_of_lt h in
      rw e
      (⊎_elim
      (λ one. rw (eq-eqb (r - m) 1 one) (omega arith))
      (λ more. rw (ne_eqb (r - m) 1 more) (simp (length-append, length-replicate) (omega arith)))
      (eq-or-ne (r - m) 1))

  -- the padding depends on the length modulo the rate
  padding-mod : (m n : ℕ) → m % r ≡ n % r → padding r first m ≡ padding r first n
  unfolding padding
  padding-mod m n e = rw e

  -- the padded message is one block longer than its whole blocks
  pub padded-length : (n : ℕ) (M : List ℕ) → n * r ≤ length M → length M < n * r + r → length (M ++ padding r first (length M)) / r ≡ suc n
  padded-length n M a b =
      let m : ℕ = length M - n * r in
      let q : length M % r ≡ m =
      ap (λ (x : ℕ). x % r) (let z : length M ≡ m + n * r = omega arith in z) ∙ add-mul-mod_self_right m n r ∙ mod-eq_of_lt (omega arith) in
      let p : length M + length (padding r first (length M)) ≡ suc n * r =
      ap (λ (X : List ℕ). length M + length X) (padding-mod (length M) m (q ∙ sym (mod-eq_of_lt (omega arith))))
      ∙ (let z : length M + length (padding r first m) ≡ n * r + r = omega (arith, padding-length m (omega arith)) in z) ∙ sym (suc-mul n r) in
      ap (λ (x : ℕ). x / r) (length-append M (padding r first (length M)) ∙ p) ∙ mul-div_cancel (suc n) some

  -- each byte of the padding is a byte
  padding-byte : (m : ℕ) → Bytes (padding r first m)
  unfolding padding
  padding-byte m i =
      ⊎_elim
      (λ one. rw (eq-eqb (r - m % r) 1 one) (single i))
      (λ more. rw (ne_eqb (r - m % r) 1 more) (long i))
      (eq-or-ne (r - m % r) 1)
    where
      single : Bytes ((first + 0x80) ∷ [])
      single zero = omega arith
      single (suc i) = omega arith

      rest : (n : ℕ) → Bytes (replicate n 0 ++ (0x80 ∷ []))
      rest zero zero = omega arith
      rest zero (suc i) = omega arith
      rest (suc n) zero = omega arith
      rest (suc n) (suc i) = rest n i

      long : Bytes (first ∷ (replicate (r - m % r - 2) 0 ++ (0x80 ∷ [])))
      long zero = omega arith
      long (suc i) = rest (r - m % r - 2) i

  -- a last block, shorter than the rate, and the padding
  last_block : (M l : List ℕ) → State l → Bytes M → length M < r
      → padded r first (absorbs r (record { lanes = l; fill = 0 }) M)
      ≡ record { lanes = permuted (xor_bytes l 0 (M ++ padding r first (length M))); fill = 0 }
  unfolding padded
  last_block M l st h k =
      let e : 0 + length M ≡ length M = omega arith in
      let t : Sponge = record { lanes = xor_bytes l 0 M; fill = 0 + length M } in
      let a : absorbs r (record { lanes = l; fill = 0 }) M ≡ t = absorbs-block r M l 0 some (omega arith) ∙ turned-part r t (omega arith) in
      rw (a, xor_bytes-append M (padding r first (length M)) l 0, e, padding-bytes r first (length M) (xor_bytes l 0 M) (xor_bytes-state M l 0 st h (omega arith)) below k small)

  -- the string after bytes are XORed in from its start
  block-bytes : (M l : List ℕ) → State l → Bytes M → length M ≤ r → lane_bytes (permuted (xor_bytes l 0 M)) ≡ keccak_f (xor_into (lane_bytes l) M)
  block-bytes M l st h k =
      let x = xor_bytes-state M l 0 st h (omega arith) in
      keccak_f-lanes (xor_bytes l 0 M) x.long ∙ ap keccak_f (xor_bytes-bytes M l 0 st h (omega arith))

  -- a whole block
  whole-block : (B l : List ℕ) → length B ≡ r
      → absorbs r (record { lanes = l; fill = 0 }) B ≡ record { lanes = permuted (xor_bytes l 0 B); fill = 0 }
  whole-block B l n =
      absorbs-block r B l 0 some (omega arith) ∙ turned-full r (record { lanes = xor_bytes l 0 B; fill = 0 + length B }) (omega arith)

  -- one block more
  absorb-more : (n : ℕ) (S P : List ℕ) → absorb_blocks r (suc n) S P ≡ absorb_blocks r n (keccak_f (xor_into S (take r P))) (drop r P)
  unfolding absorb_blocks
  absorb-more n S P = refl

  -- absorbing a message of n whole blocks and a rest, and padding it, absorbs n + 1 blocks of the padded message
  pub absorbed : (n : ℕ) (M l : List ℕ) → State l → Bytes M → n * r ≤ length M → length M < n * r + r
      → (l' : List ℕ) × (padded r first (absorbs r (record { lanes = l; fill = 0 }) M) ≡ record { lanes = l'; fill = 0 }) × State l'
      × (lane_bytes l' ≡ absorb_blocks r (suc n) (lane_bytes l) (M ++ padding r first (length M)))
  absorbed zero M l st h a b =
      let P : List ℕ = M ++ padding r first (length M) in
      let k : length M < r = omega arith in
      let n : length P ≡ r = length-append M (padding r first (length M)) ∙ padding-length (length M) k in (
        permuted (xor_bytes l 0 P),
        last_block M l st h k,
        permuted-state (xor_bytes l 0 P),
        block-bytes P l st (bytes-append M _ h (padding-byte (length M))) (omega arith)
            ∙ ap (λ (X : List ℕ). keccak_f (xor_into (lane_bytes l) X)) (sym (take_all r P (omega arith))) ∙ (unfold absorb_blocks in refl),
      )
  absorbed (suc n) M l st h a b =
      let p = padding r first (length M) in
      let e : suc n * r ≡ r + n * r = suc-mul n r ∙ add_comm (n * r) r in
      let B : List ℕ = take r M in
      let R : List ℕ = drop r M in
      let nB : length B ≡ r = length-take-le r M (omega arith) in
      let nR : length R ≡ length M - r = length-drop r M in
      let l₂ : List ℕ = permuted (xor_bytes l 0 B) in
      let ih = absorbed n R l₂ (permuted-state (xor_bytes l 0 B)) (bytes_drop r M h) (omega arith) (omega arith) in
      let s : absorbs r (record { lanes = l; fill = 0 }) M ≡ absorbs r (record { lanes = l₂; fill = 0 }) R =
      ap (absorbs r (record { lanes = l; fill = 0 })) (sym (take-append-drop r M)) ∙ absorbs-append r B R _
      ∙ ap (λ (t : Sponge). absorbs r t R) (whole-block B l nB) in
      let q : padding r first (length R) ≡ p =
      padding-mod (length R) (length M)
      (sym (ap (λ (x : ℕ). x % r) (let z : length M ≡ length R + r = omega arith in z) ∙ add-mod_right (length R) r)) in
      let rest : drop r (M ++ p) ≡ R ++ padding r first (length R) = drop-append-le r M p (omega arith) ∙ ap (λ (X : List ℕ). R ++ X) (sym q) in
      let front : keccak_f (xor_into (lane_bytes l) (take r (M ++ p))) ≡ lane_bytes l₂ =
      ap (λ (X : List ℕ). keccak_f (xor_into (lane_bytes l) X)) (take-append-le r M p (omega arith))
      ∙ sym (block-bytes B l st (bytes_take r M h) (omega arith)) in (
        ih.0,
        ap (padded r first) s ∙ ih.1,
        ih.2,
        ih.3 ∙ sym (absorb-more (suc n) (lane_bytes l) (M ++ p) ∙ ap₂ (λ (S X : List ℕ). absorb_blocks r (suc n) S X) front rest),
      )
