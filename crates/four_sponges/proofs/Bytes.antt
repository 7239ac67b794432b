-- The bytes of a state within a block: a slice that is filled with them, and what a sponge gives out.
-- Assumes nothing.
use mathlib.Core.Path.{◌≡◌, refl, sym, ap, ap₂, ◌∙◌}
use mathlib.Core.List.{List, [], ◌∷◌, ◌++◌}
use mathlib.Core.Logic.{⊎_elim, inl}
use Prim.Native.Nat.{ℕ, zero, suc, ◌+◌, ◌-◌, ◌*◌, ◌/◌, ◌%◌, ◌≤◌, ◌<◌}
use native.Mathlib.Omega.{arith}
use borrow.Rule.Slice.PartMut.{put_mid}
use lib.ListN.{length, get_or, set, take, drop, length-append, length-drop, get_or-append}
use lib.Seq.{sets, length-sets, length-take-le}
use Rattle.bits.specs.Bits.{tabulate}
use Rattle.bits.specs.Bytes.{le_bytes}
use Rattle.bits.proofs.Little.{get_or-le_bytes, get_d_sets, get_or-sets-other, length-le_bytes, pow-bytes}
use Rattle.bits.proofs.Numbers.{lt-or-le}
use Rattle.bits.proofs.Tabulate.{get_d_tabulate, length-tabulate, tabulate-cong, tabulate-get_or}
use Rattle.keccak.specs.declared.sponge.Sponge.{Sponge}
use Rattle.keccak.specs.Steps.{byte_at, squeeze_byte, squeezes}
use Rattle.keccak.proofs.Steps.{turned-part}
use Rattle.four.specs.Steps.{state_of}
use Rattle.four_sponges.specs.Steps.{opened}
use Rattle.four_sponges.proofs.Rows.{put-part}

-- lane i of state k
pub lane_of : (s : List ℕ) (k i : ℕ) → i < 25 → get_or (state_of k s) i 0 ≡ get_or s (4 * i + k) 0
unfolding state_of
lane_of s k i h = get_d_tabulate 25 (λ j. get_or s (4 * j + k) 0) i 0 h

-- byte j of lane i of a state
pub lane_byte : (l : List ℕ) (i j : ℕ) → j < 8 → get_or (le_bytes 8 (get_or l i 0)) j 0 ≡ byte_at l (8 * i + j)
unfolding byte_at
lane_byte l i j h =
    let q : (8 * i + j) / 8 ≡ i = omega arith in
    let r : (8 * i + j) % 8 ≡ j = omega arith in
    get_or-le_bytes 8 (get_or l i 0) j h ∙ rw (q, r, pow-bytes j)

-- n bytes, of which the first i are f 0, .., f (i - 1)
pub record Filled (n : ℕ) (f : ℕ → ℕ) (i : ℕ) (l : List ℕ) : Type 0 where
  pub within : i ≤ n
  pub long : length l ≡ n
  pub front : (j : ℕ) → j < i → get_or l j 0 ≡ f j

module _ (n : ℕ) (f : ℕ → ℕ) where
  pub filled_none : (l : List ℕ) → length l ≡ n → Filled n f 0 l
  filled_none l e = record { within = omega arith; long = e; front = λ j h. absurd (omega arith) }

  -- the bytes v more
  pub filled_more : (i m : ℕ) (l v : List ℕ) → Filled n f i l → length v ≡ m → i + m ≤ n → ((j : ℕ) → j < m → get_or v j 0 ≡ f (i + j))
      → Filled n f (i + m) (sets l i v)
  filled_more i m l v h e k g =
      record {
        within = k;
        long = length-sets l i v ∙ h.long;
        front = λ j q.
            ⊎_elim
            (λ b. get_or-sets-other 0 v l i j (inl b) ∙ h.front j b)
            (λ b.
            let z : j ≡ i + (j - i) = omega arith in
            ap (λ (t : ℕ). get_or (sets l i v) t 0) z ∙ get_d_sets 0 v l i (j - i) (omega (arith, h.long)) (omega arith)
            ∙ g (j - i) (omega arith) ∙ ap f (sym z))
            (lt-or-le j i);
      }

  -- all of them
  pub filled-end : (i : ℕ) (l : List ℕ) → Filled n f i l → n ≤ i → l ≡ tabulate n f
  filled-end i l h k =
      sym (tabulate-get_or l 0) ∙ ap (λ (m : ℕ). tabulate m (λ j. get_or l j 0)) h.long
      ∙ tabulate-cong n (λ j. get_or l j 0) f (λ j q. h.front j (omega arith))

-- a slice filled in two parts, one after the other
pub filled-parts : (f : ℕ → ℕ) (a : ℕ) (out L R : List ℕ) → a ≤ length out → L ≡ tabulate (length (take a out)) f
    → R ≡ tabulate (length (take (length (L ++ drop a out) - a) (drop a (L ++ drop a out)))) (λ j. f (a + j))
    → put_mid a (length (L ++ drop a out) - a) (L ++ drop a out) R ≡ tabulate (length out) f
filled-parts f a out L R h p q =
    let n : ℕ = length out in
    let O : List ℕ = L ++ drop a out in
    let m : ℕ = length O - a in
    let p' : L ≡ tabulate a f = p ∙ ap (λ (k : ℕ). tabulate k f) (length-take-le a out h) in
    let x : length L ≡ a = ap length p' ∙ length-tabulate a f in
    let z : length O ≡ n = length-append L (drop a out) ∙ omega (arith, length-drop a out) in
    let w : length (take m (drop a O)) ≡ m = length-take-le m (drop a O) (omega (arith, length-drop a O)) in
    let q' : R ≡ tabulate m (λ j. f (a + j)) = q ∙ ap (λ (k : ℕ). tabulate k (λ j. f (a + j))) w in
    let y : length R ≡ m = ap length q' ∙ length-tabulate m (λ j. f (a + j)) in
    let first : Filled n f a O =
    record {
      within = h;
      long = z;
      front = λ j b. get_or-append L (drop a out) 0 j (omega arith) ∙ ap (λ (t : List ℕ). get_or t j 0) p' ∙ get_d_tabulate a f j 0 b;
    } in
    let e : m ≡ a + m - a = omega arith in
    ap (λ (k : ℕ). put_mid a k O R) e ∙ put-part a m O R (omega arith) y
    ∙ filled-end n f (a + m) (sets O a R)
    (filled_more n f a m O R first y (omega arith) (λ j b. ap (λ (t : List ℕ). get_or t j 0) q' ∙ get_d_tabulate m (λ i. f (a + i)) j 0 b))
    (omega arith)

-- one lane more
pub filled-lane : (n : ℕ) (l : List ℕ) (i x : ℕ) (out out' : List ℕ) → Filled n (byte_at l) (8 * i) out → 8 * i + 8 ≤ n → x ≡ get_or l i 0
    → out' ≡ sets out (8 * i) (le_bytes 8 x) → Filled n (byte_at l) (8 * (i + 1)) out'
filled-lane n l i x out out' h k e q =
    let z : 8 * (i + 1) ≡ 8 * i + 8 = omega arith in
    rw (z, q, e) (filled_more n (byte_at l) (8 * i) 8 out (le_bytes 8 (get_or l i 0)) h (length-le_bytes 8 (get_or l i 0)) k (λ j b. lane_byte l i j b))

-- one byte more
pub filled-byte : (n : ℕ) (f : ℕ → ℕ) (i x : ℕ) (out : List ℕ) → Filled n f i out → i < n → x ≡ f i → Filled n f (i + 1) (set out i x)
filled-byte n f i x out h k e =
    filled_more n f i 1 out (x ∷ []) h refl (omega arith)
    (λ j b.
    let z : j ≡ 0 = omega arith in
    let y : i ≡ i + j = omega arith in
    ap (λ (t : ℕ). get_or (x ∷ []) t 0) z ∙ e ∙ ap f y)

-- what a sponge gives out within its block, from byte j on
squeezes-from : (rate n : ℕ) (l : List ℕ) (j : ℕ) → j + n ≤ rate
    → squeezes rate n (record { lanes = l; fill = j }) ≡ tabulate n (λ i. byte_at l (j + i))
unfolding squeezes squeeze_byte
squeezes-from rate zero l j h = refl
squeezes-from rate (suc n) l j h =
    let a : j ≡ j + 0 = omega arith in
    ap (λ (t : Sponge). byte_at t.lanes t.fill ∷ squeezes rate n (record { lanes = t.lanes; fill = t.fill + 1 }))
    (turned-part rate (record { lanes = l; fill = j }) (omega arith))
    ∙ ap₂ (λ (x : ℕ) (X : List ℕ). x ∷ X) (ap (byte_at l) a)
    (squeezes-from rate n l (j + 1) (omega arith)
    ∙ tabulate-cong n (λ i. byte_at l (j + 1 + i)) (λ i. byte_at l (j + suc i)) (λ i q. ap (byte_at l) (let z : j + 1 + i ≡ j + suc i = omega arith in z)))

-- from the start of its block on
pub squeezes-block : (rate n : ℕ) (l : List ℕ) → n ≤ rate → squeezes rate n (opened l) ≡ tabulate n (byte_at l)
squeezes-block rate n l h =
    squeezes-from rate n l 0 (omega arith)
    ∙ tabulate-cong n (λ i. byte_at l (0 + i)) (byte_at l) (λ i q. ap (byte_at l) (let z : 0 + i ≡ i = omega arith in z))
