-- Whole lanes: eight byte steps at a lane's start are one step on the lane.
-- Assumes nothing.
use mathlib.Core.Path.{ap₂, ◌≡◌, refl, sym, ap, ◌∙◌}
use mathlib.Core.Logic.{⊎_elim}
use mathlib.Core.List.{[], List, ◌∷◌, ◌++◌}
use Prim.Native.Nat.{ℕ, zero, suc, ◌+◌, ◌*◌, ◌/◌, ◌%◌, ◌^◌, ◌≤◌, ◌<◌}
use native.Mathlib.Nat.{mul_assoc, pow-suc, add-mul, div-add-mod', mul-lt-mul_of_pos_right}
use native.Mathlib.Omega.{arith}
use lib.Bits.{xor_zero_r, bit_xor, xor_comm, xor_shifted}
use lib.ListN.{length, get_or, set, take, drop, length-append, length-set, length-take, take-append-drop}
use lib.Pow.{pow-add, pow_pos, shr-shr}
use lib.Seq.{set-get_or, set_out, get_or-set_same, set-set, drop-drop, sets, sets-eq, take_at}
use Rattle.bits.specs.Bytes.{le_at, le_bytes}
use Rattle.bits.proofs.Numbers.{lt-or-le}
use Rattle.bits.proofs.Little.{le_at-lt, le_bytes-le_at, length-le_bytes}
use Rattle.bits.proofs.Ops.{bit_xor-assoc}
use Rattle.keccak.specs.declared.sponge.Sponge.{Sponge}
use Rattle.keccak.specs.declared.sponge.Squeezed.{Squeezed}
use Rattle.keccak.specs.Steps.{byte_at, xor_byte, xor_bytes, turned, squeeze_byte, squeezes, squeezed}
use Rattle.keccak.proofs.Steps.{xor_bytes-append, turned-part, turned-room, turned-aligned}

-- the lowest byte of y and the rest, j bytes up, do not overlap
split-bytes : (y j : ℕ) → bit_xor (y % 256 * 2 ^ (8 * j)) (y / 256 * 2 ^ (8 * (j + 1))) ≡ y * 2 ^ (8 * j)
split-bytes y j =
    let p : ℕ = 2 ^ (8 * j) in
    let e : 2 ^ (8 * (j + 1)) ≡ 256 * p =
    ap (λ (n : ℕ). 2 ^ n) (let q : 8 * (j + 1) ≡ 8 + 8 * j = omega arith in q) ∙ pow-add 2 8 (8 * j) in
    let low : y % 256 * p < 2 ^ (8 * (j + 1)) = rw e (mul-lt-mul_of_pos_right (let h : y % 256 < 256 = omega arith in h) (pow_pos (8 * j))) in
    xor_comm (y % 256 * p) (y / 256 * 2 ^ (8 * (j + 1)))
    ∙ xor_shifted (y / 256) (8 * (j + 1)) (y % 256 * p) low
    ∙ ap (λ (n : ℕ). y / 256 * n + y % 256 * p) e
    ∙ ap (λ (n : ℕ). n + y % 256 * p) (sym (mul_assoc (y / 256) 256 p))
    ∙ sym (add-mul (y / 256 * 256) (y % 256) p)
    ∙ ap (λ (n : ℕ). n * p) (div-add-mod' y 256)

-- a sum of XORs into one lane
merge : (L y j : ℕ) → bit_xor (bit_xor L (y % 256 * 2 ^ (8 * j))) (y / 256 * 2 ^ (8 * (j + 1))) ≡ bit_xor L (y * 2 ^ (8 * j))
merge L y j = bit_xor-assoc L _ _ ∙ ap (bit_xor L) (split-bytes y j)

module _ (f : ℕ) (start : f % 8 ≡ 0) where
  -- byte j of the lane at f
  xor-in-lane : (l : List ℕ) (j b : ℕ) → j < 8 → xor_byte l (f + j) b ≡ set l (f / 8) (bit_xor (get_or l (f / 8) 0) (b * 2 ^ (8 * j)))
  unfolding xor_byte
  xor-in-lane l j b h =
      let q : (f + j) / 8 ≡ f / 8 = omega arith in
      let r : (f + j) % 8 ≡ j = omega arith in
      rw (q, r)

  -- the last m bytes of a lane XORed in
  xor_bytes-rest : (m j : ℕ) (l : List ℕ) (y : ℕ) → j + m ≡ 8 → y < 256 ^ m → f / 8 < length l
      → xor_bytes l (f + j) (le_bytes m y) ≡ set l (f / 8) (bit_xor (get_or l (f / 8) 0) (y * 2 ^ (8 * j)))
  unfolding xor_bytes le_bytes
  xor_bytes-rest zero j l y e h k =
      let a : y * 2 ^ (8 * j) ≡ 0 = ap (λ (x : ℕ). x * 2 ^ (8 * j)) (let z : y ≡ 0 = omega arith in z) ∙ (let z : 0 * 2 ^ (8 * j) ≡ 0 = omega arith in z) in
      sym (rw (a, xor_zero_r) (set-get_or l (f / 8) 0))
  xor_bytes-rest (suc m) j l y e h k =
      let L : ℕ = get_or l (f / 8) 0 in
      let v : ℕ = bit_xor L (y % 256 * 2 ^ (8 * j)) in
      let y' : y / 256 < 256 ^ m = omega (arith, pow-suc 256 m) in
      let a : f + j + 1 ≡ f + (j + 1) = omega arith in
      ap₂ (λ (t : List ℕ) (n : ℕ). xor_bytes t n (le_bytes m (y / 256))) (xor-in-lane l j (y % 256) (omega arith)) a
      ∙ xor_bytes-rest m (j + 1) (set l (f / 8) v) (y / 256) (omega arith) y' (simp length-set k)
      ∙ rw (set-set, get_or-set_same l (f / 8) v 0 k, merge L y j)

  -- a lane that is not there takes nothing in
  xor_bytes-outside : (l : List ℕ) → length l ≤ f / 8 → (M : List ℕ) (j : ℕ) → j + length M ≤ 8 → xor_bytes l (f + j) M ≡ l
  unfolding xor_bytes
  xor_bytes-outside l k [] j h = refl
  xor_bytes-outside l k (b ∷ M) j h =
      let a : f + j + 1 ≡ f + (j + 1) = omega arith in
      ap₂ (λ (t : List ℕ) (n : ℕ). xor_bytes t n M) (xor-in-lane l j b (omega arith) ∙ set_out l (f / 8) _ k) a
      ∙ xor_bytes-outside l k M (j + 1) (omega arith)

  -- a lane XORed in byte by byte
  pub xor_bytes-lane : (l : List ℕ) (x : ℕ) → x < 2 ^ 64 → xor_bytes l f (le_bytes 8 x) ≡ set l (f / 8) (bit_xor (get_or l (f / 8) 0) x)
  xor_bytes-lane l x h =
      let a : f + 0 ≡ f = omega arith in
      let b : x * 2 ^ (8 * 0) ≡ x = omega arith in
      ⊎_elim
      (λ k. let r = xor_bytes-rest 8 0 l x (omega arith) h k in rw (a, b) at r)
      (λ k.
      let n : length (le_bytes 8 x) ≡ 8 = length-le_bytes 8 x in
      let r = xor_bytes-outside l k (le_bytes 8 x) 0 (omega arith) in
      (rw a at r) ∙ sym (set_out l (f / 8) _ k))
      (lt-or-le (f / 8) (length l))

module _ (rate f : ℕ) (start : f % 8 ≡ 0) (fits : f + 8 ≤ rate) where
  -- the last m bytes of a lane
  squeeze-rest : (m j : ℕ) (l : List ℕ) → j + m ≤ 8
      → (squeezes rate m (record { lanes = l; fill = f + j }) ≡ le_bytes m (get_or l (f / 8) 0 / 2 ^ (8 * j)))
      × (squeezed rate m (record { lanes = l; fill = f + j }) ≡ record { lanes = l; fill = f + (j + m) })
  unfolding squeezes squeezed squeeze_byte le_bytes byte_at
  squeeze-rest zero j l h = (refl, (let a : j ≡ j + 0 = omega arith in rw (← a)))
  squeeze-rest (suc m) j l h =
      let t : Sponge = record { lanes = l; fill = f + j } in
      let q : (f + j) / 8 ≡ f / 8 = omega arith in
      let r : (f + j) % 8 ≡ j = omega arith in
      let a : f + j + 1 ≡ f + (j + 1) = omega arith in
      let b : j + 1 + m ≡ j + suc m = omega arith in
      let ih = squeeze-rest m (j + 1) l (omega arith) in
      let up : get_or l (f / 8) 0 / 2 ^ (8 * j) / 256 ≡ get_or l (f / 8) 0 / 2 ^ (8 * (j + 1)) =
      shr-shr (get_or l (f / 8) 0) (8 * j) 8 ∙ ap (λ (n : ℕ). get_or l (f / 8) 0 / 2 ^ n) (let z : 8 * j + 8 ≡ 8 * (j + 1) = omega arith in z) in
      rw (turned-part rate t (omega arith), q, r, a, up)
      (ap {B = List ℕ} (λ s. get_or l (f / 8) 0 / 2 ^ (8 * j) % 256 ∷ s) ih.0, ih.1 ∙ rw b)

  -- a lane given out byte by byte
  pub squeeze-lane : (l : List ℕ)
      → (squeezes rate 8 (record { lanes = l; fill = f }) ≡ le_bytes 8 (get_or l (f / 8) 0))
      × (squeezed rate 8 (record { lanes = l; fill = f }) ≡ record { lanes = l; fill = f + 8 })
  squeeze-lane l =
      let a : f + 0 ≡ f = omega arith in
      let b : get_or l (f / 8) 0 / 2 ^ (8 * 0) ≡ get_or l (f / 8) 0 = omega arith in
      let r = squeeze-rest 8 0 l (omega arith) in
      rw (a, b) at r

-- the eight bytes from place i on, read as a lane, are what stands there
pub next-lane : (s : List ℕ) (i : ℕ) → ((k : ℕ) → get_or s k 0 < 256) → i + 8 ≤ length s → le_bytes 8 (le_at 8 s i) ++ drop (i + 8) s ≡ drop i s
next-lane s i small h =
    ap (λ (l : List ℕ). l ++ drop (i + 8) s) (le_bytes-le_at 8 s i small h)
    ∙ ap (λ (l : List ℕ). take 8 (drop i s) ++ l) (sym (drop-drop 8 i s))
    ∙ take-append-drop 8 (drop i s)

-- the first byte given out turns the block first, so it makes no difference to turn it before
squeeze-turned : (rate : ℕ) (s : Sponge) → 0 < rate → s.fill ≤ rate → squeeze_byte rate s ≡ squeeze_byte rate (turned rate s)
unfolding squeeze_byte
squeeze-turned rate s some h = rw (turned-part rate (turned rate s) (turned-room rate some s h))

-- a lane given out, from the sponge before its block is turned
pub squeeze-next-lane : (rate : ℕ) (s : Sponge) → 0 < rate → rate % 8 ≡ 0 → s.fill % 8 ≡ 0 → s.fill ≤ rate
    → (squeezes rate 8 s ≡ le_bytes 8 (get_or (turned rate s).lanes ((turned rate s).fill / 8) 0))
    × (squeezed rate 8 s ≡ record { lanes = (turned rate s).lanes; fill = (turned rate s).fill + 8 })
unfolding squeezes squeezed
squeeze-next-lane rate s some whole start h =
    let t : Sponge = turned rate s in
    let lt = turned-room rate some s h in
    let al = turned-aligned rate some whole s h in
    let e = squeeze-turned rate s some h in
    let r = squeeze-lane rate t.fill (omega arith) (omega arith) t.lanes in (
      ap (λ (q : Squeezed). q.byte ∷ squeezes rate 7 q.sponge) e ∙ r.0,
      ap (λ (q : Squeezed). squeezed rate 7 q.sponge) e ∙ r.1,
    )

-- a lane written at place i stands behind what stood before it
pub take-lane : (out : List ℕ) (i x : ℕ) → i + 8 ≤ length out → take (i + 8) (sets out i (le_bytes 8 x)) ≡ take i out ++ le_bytes 8 x
take-lane out i x h =
    let v : List ℕ = le_bytes 8 x in
    let n : length v ≡ 8 = length-le_bytes 8 x in
    let k : length (take i out ++ v) ≡ i + 8 = simp (length-append, length-take) (omega arith) in
    ap (take (i + 8)) (sets-eq v out i (omega arith)) ∙ take_at (take i out ++ v) (drop (i + length v) out) (i + 8) k

-- one lane more of the bytes XORed in
pub xor_bytes-turn : (P : List ℕ) (k i : ℕ) (l : List ℕ) (x : ℕ) → ((n : ℕ) → get_or P n 0 < 256) → i + 8 ≤ length P → (k + i) % 8 ≡ 0 → x ≡ le_at 8 P i
    → xor_bytes (set l ((k + i) / 8) (bit_xor (get_or l ((k + i) / 8) 0) x)) (k + (i + 8)) (drop (i + 8) P) ≡ xor_bytes l (k + i) (drop i P)
xor_bytes-turn P k i l x small w start e =
    let M : List ℕ = le_bytes 8 (le_at 8 P i) in
    let n : length M ≡ 8 = length-le_bytes 8 (le_at 8 P i) in
    let lane : set l ((k + i) / 8) (bit_xor (get_or l ((k + i) / 8) 0) x) ≡ xor_bytes l (k + i) M =
    ap (λ (y : ℕ). set l ((k + i) / 8) (bit_xor (get_or l ((k + i) / 8) 0) y)) e ∙ sym (xor_bytes-lane (k + i) start l (le_at 8 P i) (le_at-lt 8 P i small)) in
    ap₂ (λ (t : List ℕ) (m : ℕ). xor_bytes t m (drop (i + 8) P)) lane (let z : k + (i + 8) ≡ k + i + length M = omega arith in z)
    ∙ sym (xor_bytes-append M (drop (i + 8) P) l (k + i))
    ∙ ap (xor_bytes l (k + i)) (next-lane P i small w)

-- the same by the number of the lane
pub xor_bytes-lane-turn : (P : List ℕ) (k j : ℕ) (l : List ℕ) (x : ℕ) → ((n : ℕ) → get_or P n 0 < 256) → 8 * j + 8 ≤ length P → k % 8 ≡ 0 → x ≡ le_at 8 P (8 * j)
    → xor_bytes (set l (k / 8 + j) (bit_xor (get_or l (k / 8 + j) 0) x)) (k + 8 * (j + 1)) (drop (8 * (j + 1)) P) ≡ xor_bytes l (k + 8 * j) (drop (8 * j) P)
xor_bytes-lane-turn P k j l x small w lane-start e =
    let i : ℕ = 8 * j in
    let start : (k + i) % 8 ≡ 0 = omega arith in
    let place : k / 8 + j ≡ (k + i) / 8 = omega arith in
    let next : 8 * (j + 1) ≡ i + 8 = omega arith in
    rw (place, next) (xor_bytes-turn P k i l x small w start e)
