-- A message of less than a block, closed: the lanes of the message and its padding.
-- Assumes nothing.
use native.Mathlib.Omega.{arith}
use native.Mathlib.Nat.{zero-mul}
use mathlib.Core.Path.{◌≡◌, refl, sym, ap, ap₂, ◌∙◌}
use mathlib.Core.List.{List, [], ◌∷◌, ◌++◌, append_assoc}
use Prim.Native.Nat.{ℕ, zero, suc, ◌+◌, ◌-◌, ◌*◌, ◌/◌, ◌%◌, ◌^◌, ◌<◌}
use lib.Bits.{bit_xor, xor_zero_r}
use lib.ListN.{length, get_or, set, drop, replicate, length-append, length-replicate, drop_of_length-le}
use lib.Seq.{set-get_or, set_at, get_or_at}
use Rattle.bits.specs.Bytes.{le_at}
use Rattle.hashing.proofs.Hashes.{bytes-append, bytes_one}
use Rattle.keccak.specs.declared.sponge.Sponge.{Sponge}
use Rattle.keccak.specs.Steps.{empty, absorbs, closed, xor_byte, xor_bytes}
use Rattle.keccak.proofs.Absorbing.{Bytes}
use Rattle.keccak.proofs.Bytes.{bytes-zeros}
use Rattle.keccak.proofs.Steps.{turned-part, absorbs-block, xor_bytes-append}
use Rattle.keccak.proofs.WholeLanes.{xor_bytes-lane-turn}

-- n lanes of a string of bytes, from byte i on
unfoldable pub lanes_at : ℕ → List ℕ → ℕ → List ℕ
lanes_at zero m i = []
lanes_at (suc n) m i = le_at 8 m i ∷ lanes_at n m (i + 8)

-- the padding behind a message, up to the end of its last lane
abbrev pub padding : ℕ → ℕ → List ℕ
padding first z = first ∷ replicate z 0

-- whole lanes XORed into zeros, behind the lanes p
lanes-in : (n w : ℕ) (m p : List ℕ) → Bytes m → length m ≡ 8 * (length p + n)
    → xor_bytes (p ++ replicate (w + n) 0) (8 * length p) (drop (8 * length p) m) ≡ p ++ (lanes_at n m (8 * length p) ++ replicate w 0)
unfolding xor_bytes lanes_at
lanes-in zero w m p bytes l =
    let none : w + 0 ≡ w = omega arith in
    ap₂ (λ (t : ℕ) (u : List ℕ). xor_bytes (p ++ replicate t 0) (8 * length p) u) none (drop_of_length-le m {i = 8 * length p} (omega arith))
lanes-in (suc n) w m p bytes l =
    let i : ℕ = 8 * length p in
    let k : ℕ = 0 / 8 + length p in
    let x : ℕ = le_at 8 m i in
    let r : List ℕ = replicate (w + n) 0 in
    let q : List ℕ = p ++ x ∷ [] in
    let at : length p ≡ k = omega arith in
    let put : set (p ++ 0 ∷ r) k (bit_xor (get_or (p ++ 0 ∷ r) k 0) x) ≡ q ++ r =
    ap (λ (y : ℕ). set (p ++ 0 ∷ r) k (bit_xor y x)) (get_or_at p 0 r 0 k at) ∙ set_at p 0 r x k at ∙ sym (append_assoc p (x ∷ []) r) in
    let lq : length q ≡ length p + 1 = length-append p (x ∷ []) in
    let one : w + suc n ≡ suc (w + n) = omega arith in
    let start : i ≡ 0 + i = omega arith in
    let next : 8 * (length p + 1) ≡ 8 * length q = omega arith in
    let next' : 0 + 8 * (length p + 1) ≡ 8 * length q = omega arith in
    let after : i + 8 ≡ 8 * length q = omega arith in
    ap₂ (λ (t u : ℕ). xor_bytes (p ++ replicate t 0) u (drop i m)) one start
    ∙ sym (xor_bytes-lane-turn m 0 (length p) (p ++ 0 ∷ r) x bytes (omega arith) (omega arith) refl)
    ∙ ap₂ (λ (s : List ℕ) (t : ℕ). xor_bytes s (0 + 8 * (length p + 1)) (drop t m)) put next
    ∙ ap (λ (t : ℕ). xor_bytes (q ++ r) t (drop (8 * length q) m)) next'
    ∙ lanes-in n w m q bytes (omega arith)
    ∙ ap (λ (t : ℕ). q ++ (lanes_at n m t ++ replicate w 0)) (sym after)
    ∙ append_assoc p (x ∷ []) (lanes_at n m (i + 8) ++ replicate w 0)

-- zeros change nothing
xor-none : (l : List ℕ) (k : ℕ) → xor_byte l k 0 ≡ l
unfolding xor_byte
xor-none l k =
    ap (λ (x : ℕ). set l (k / 8) (bit_xor (get_or l (k / 8) 0) x)) (zero-mul (2 ^ (8 * (k % 8))))
    ∙ ap (set l (k / 8)) (xor_zero_r (get_or l (k / 8) 0)) ∙ set-get_or l (k / 8) 0

xor-zeros : (z : ℕ) (l : List ℕ) (k : ℕ) → xor_bytes l k (replicate z 0) ≡ l
unfolding xor_bytes
xor-zeros zero l k = refl
xor-zeros (suc z) l k = ap (λ (t : List ℕ). xor_bytes t (k + 1) (replicate z 0)) (xor-none l k) ∙ xor-zeros z l (k + 1)

-- the message M with its padding is n lanes, below the rate; w lanes are zeros, but for the last bit of the padding
module _ (rate first z n w : ℕ) (M : List ℕ) (few : length M < rate) (small : first < 256) (l : length M + suc z ≡ 8 * n) (all : w + n ≡ 25) (bytes : Bytes M) where
  pub closed_block : (closed rate first (absorbs rate empty M)).lanes ≡ xor_byte (lanes_at n (M ++ padding first z) 0 ++ replicate w 0) (rate - 1) 0x80
  unfolding closed empty xor_bytes
  closed_block =
      let pad : List ℕ = padding first z in
      let X : List ℕ = xor_bytes (replicate 25 0) 0 M in
      let p : ℕ = 0 + length M in
      let s : Sponge = record { lanes = X; fill = p } in
      let took : absorbs rate (record { lanes = replicate 25 0; fill = 0 }) M ≡ s =
      absorbs-block rate M (replicate 25 0) 0 (omega arith) (omega arith) ∙ turned-part rate s (omega arith) in
      let padded : xor_byte X p first ≡ xor_bytes (replicate 25 0) 0 (M ++ pad) =
      sym (xor_bytes-append M pad (replicate 25 0) 0 ∙ xor-zeros z (xor_byte X p first) (p + 1)) in
      let long : length (M ++ pad) ≡ 8 * (0 + n) = length-append M pad ∙ omega (arith, length-replicate {A = ℕ} z 0) in
      let b : Bytes (M ++ pad) = bytes-append M pad bytes (bytes-append (first ∷ []) (replicate z 0) (bytes_one first small) (bytes-zeros z)) in
      ap (λ (t : Sponge). xor_byte (xor_byte t.lanes t.fill first) (rate - 1) 0x80) took
      ∙ ap (λ (t : List ℕ). xor_byte t (rate - 1) 0x80)
      (padded ∙ ap (λ (t : ℕ). xor_bytes (replicate t 0) 0 (M ++ pad)) (sym all) ∙ lanes-in n w (M ++ pad) [] b long)
