-- The nodes below several nodes that follow one another, put in their rows at once.
-- Assumes nothing.
use native.Mathlib.Omega.{arith}
use mathlib.Core.Path.{◌≡◌, refl, sym, ap, ap₂, ◌∙◌}
use mathlib.Core.List.{List, ◌++◌, flatten, append_assoc, append-nil}
use Prim.Native.Nat.{ℕ, zero, suc, ◌+◌, ◌-◌, ◌*◌, ◌^◌, ◌≤◌, ◌<◌}
use borrow.Rule.Slice.PartMut.{put_mid}
use lib.ListN.{length, take, drop, length-append, length-drop, take-append-drop}
use lib.Seq.{take_at, drop_at, drop-drop, take-take, take-add, length-take-le}
use Rattle.hashing.specs.declared.Context.{Context}
use Rattle.bits.specs.Bits.{tabulate}
use Rattle.bits.specs.Bytes.{row_of}
use Rattle.bits.proofs.Rows.{row_inside}
use Rattle.bits.proofs.Tabulate.{tabulate-cong}
use Rattle.tree.specs.Tree.{children}
use Rattle.tree.proofs.Lengths.{length-children}
use Rattle.cover.specs.Steps.{put_row}
use Rattle.four_sponges.specs.Steps.{four_rows}
use Rattle.four_sponges.proofs.Rows.{four-eq}
use Rattle.growing.specs.Steps.{spreads}
use Rattle.growing.proofs.Growing.{Grown, grown-more, row-front}

-- n bytes from byte a on replaced
abbrev pub put_at : ℕ → ℕ → List ℕ → List ℕ → List ℕ
put_at a n s v = take a s ++ (v ++ drop (a + n) s)

-- two parts, one after the other
put_two : (a m n : ℕ) (s v w : List ℕ) → length v ≡ m → a + m ≤ length s → put_at (a + m) n (put_at a m s v) w ≡ put_at a (m + n) s (v ++ w)
put_two a m n s v w l u =
    let R : List ℕ = drop (a + m) s in
    let t : length (take a s) ≡ a = length-take-le a s (omega arith) in
    let f : length (take a s ++ v) ≡ a + m = length-append (take a s) v ∙ omega arith in
    let e : put_at a m s v ≡ (take a s ++ v) ++ R = sym (append_assoc (take a s) v R) in
    let k : a + m + n ≡ a + (m + n) = omega arith in
    ap₂ (λ (x y : List ℕ). x ++ (w ++ y)) (ap (take (a + m)) e ∙ take_at (take a s ++ v) R (a + m) f)
    (sym (drop-drop n (a + m) (put_at a m s v)) ∙ ap (drop n) (ap (drop (a + m)) e ∙ drop_at (take a s ++ v) R (a + m) f) ∙ drop-drop n (a + m) s ∙ ap (λ (x : ℕ). drop x s) k)
    ∙ append_assoc (take a s) v (w ++ drop (a + (m + n)) s)
    ∙ ap (λ (x : List ℕ). take a s ++ x) (sym (append_assoc v w (drop (a + (m + n)) s)))

put-length : (a m : ℕ) (s v : List ℕ) → length v ≡ m → a + m ≤ length s → length (put_at a m s v) ≡ length s
put-length a m s v l u =
    length-append (take a s) (v ++ drop (a + m) s) ∙ omega (arith, length-append v (drop (a + m) s), length-drop (a + m) s, length-take-le a s (omega arith))

-- a row before them is as it was
put-row : (a m : ℕ) (s v : List ℕ) (i : ℕ) → length v ≡ m → a + m ≤ length s → i * 16 + 16 ≤ a → row_of (put_at a m s v) 16 i ≡ row_of s 16 i
put-row a m s v i l u w =
    row-front (put_at a m s v) 16 i a w (omega (arith, put-length a m s v l u))
    ∙ ap (λ (z : List ℕ). row_of z 16 i) (take_at (take a s) (v ++ drop (a + m) s) a (length-take-le a s (omega arith)))
    ∙ sym (row-front s 16 i a w (omega arith))

-- a row of 32 bytes is such a part
put_is : (k : ℕ) (s v : List ℕ) → put_row 32 s k v ≡ put_at (k * 32) 32 s v
unfolding put_row
put_is k s v = refl

module _ (j : Context) where
  -- below n nodes: each has its value from before
  spreads-put : (n k : ℕ) (s : List ℕ) → n ≤ k → k * 32 + n * 32 ≤ length s
      → spreads n j k s ≡ put_at (k * 32) (n * 32) s (flatten (tabulate n (λ i. children j (k + i) (row_of s 16 (k + i)))))
  unfolding spreads flatten
  spreads-put zero k s w u =
      let e : k * 32 ≡ k * 32 + 0 * 32 = omega arith in
      sym (take-append-drop (k * 32) s) ∙ ap (λ (x : ℕ). take (k * 32) s ++ drop x s) e
  spreads-put (suc n) k s w u =
      let c : List ℕ = children j k (row_of s 16 k) in
      let g : ℕ → List ℕ = λ i. children j (k + suc i) (row_of s 16 (k + suc i)) in
      let lc : length c ≡ 32 = length-children j k (row_of s 16 k) in
      let S : List ℕ = put_at (k * 32) 32 s c in
      let ls : length S ≡ length s = put-length (k * 32) 32 s c lc (omega arith) in
      let at : (k + 1) * 32 ≡ k * 32 + 32 = omega arith in
      let all : 32 + n * 32 ≡ suc n * 32 = omega arith in
      let k0 : k ≡ k + 0 = omega arith in
      ap (spreads n j (k + 1)) (put_is k s c)
      ∙ spreads-put n (k + 1) S (omega arith) (omega arith)
      ∙ ap (λ (z : List (List ℕ)). put_at ((k + 1) * 32) (n * 32) S (flatten z))
      (tabulate-cong n (λ i. children j (k + 1 + i) (row_of S 16 (k + 1 + i))) g
      (λ i h. let q : k + 1 + i ≡ k + suc i = omega arith in
      ap (λ (x : ℕ). children j x (row_of S 16 x)) q ∙ ap (children j (k + suc i)) (put-row (k * 32) 32 s c (k + suc i) lc (omega arith) (omega arith))))
      ∙ ap (λ (x : ℕ). put_at x (n * 32) S (flatten (tabulate n g))) at
      ∙ put_two (k * 32) 32 (n * 32) s c (flatten (tabulate n g)) lc (omega arith)
      ∙ ap₂ (λ (x : ℕ) (y : ℕ). put_at (k * 32) x s (children j y (row_of s 16 y) ++ flatten (tabulate n g))) all k0

-- value i of four rows
four-value : (s : List ℕ) (k i : ℕ) → i < 4 → k * 16 + 64 ≤ length s → take 16 (drop (16 * i) (take 64 (drop (k * 16) s))) ≡ row_of s 16 (k + i)
four-value s k i w u =
    let X : List ℕ = drop (k * 16) s in
    let lx : length X ≡ length s - k * 16 = length-drop (k * 16) s in
    let lt : length (take (16 * i) X) ≡ 16 * i = length-take-le (16 * i) X (omega arith) in
    let sum : 64 ≡ 16 * i + (64 - 16 * i) = omega arith in
    let at : k * 16 + 16 * i ≡ (k + i) * 16 = omega arith in
    ap (λ (x : ℕ). take 16 (drop (16 * i) (take x X))) sum
    ∙ ap (λ (z : List ℕ). take 16 (drop (16 * i) z)) (take-add (16 * i) (64 - 16 * i) X)
    ∙ ap (take 16) (drop_at (take (16 * i) X) (take (64 - 16 * i) (drop (16 * i) X)) (16 * i) lt)
    ∙ take-take 16 (64 - 16 * i) (drop (16 * i) X) (omega arith)
    ∙ ap (take 16) (drop-drop (16 * i) (k * 16) s ∙ ap (λ (x : ℕ). drop x s) at)
    ∙ sym (row_inside s 16 (k + i) (omega arith))

-- four at once
pub four-put : (j : Context) (k : ℕ) (s z v : List ℕ) → 4 ≤ k → k * 32 + 128 ≤ length s → v ≡ take (k * 16 + 64 - k * 16) (drop (k * 16) s)
    → z ≡ four_rows (λ i. children j (k + i) (take 16 (drop (16 * i) v))) → put_mid (k * 32) (k * 32 + 128 - k * 32) s z ≡ spreads 4 j k s
unfolding flatten
four-put j k s z v w u e d =
    let from : k * 16 + 64 - k * 16 ≡ 64 = omega arith in
    let to : k * 32 + 128 - k * 32 ≡ 128 = omega arith in
    let g : ℕ → List ℕ = λ i. children j (k + i) (row_of s 16 (k + i)) in
    let row : (i : ℕ) → i < 4 → children j (k + i) (take 16 (drop (16 * i) v)) ≡ g i =
    λ i h. ap (λ (x : List ℕ). children j (k + i) (take 16 (drop (16 * i) x))) (e ∙ ap (λ (n : ℕ). take n (drop (k * 16) s)) from) ∙ ap (children j (k + i)) (four-value s k i h (omega arith)) in
    let f : z ≡ flatten (tabulate 4 g) =
    d ∙ four-eq (λ i. children j (k + i) (take 16 (drop (16 * i) v))) g (row 0 (omega arith)) (row 1 (omega arith)) (row 2 (omega arith)) (row 3 (omega arith))
    ∙ simp (append_assoc, append-nil) in
    ap₂ (λ (x y : List ℕ). take (k * 32) s ++ (x ++ y)) f (ap (λ (n : ℕ). drop n (drop (k * 32) s)) to ∙ drop-drop 128 (k * 32) s) ∙ sym (spreads-put j 4 k s w (omega arith))

-- the rows that stand, with those below n nodes more
module _ (rule : ℕ → List ℕ → List ℕ) (root : List ℕ) (sized : (x : ℕ) (v : List ℕ) → length (rule x v) ≡ 16) (l : length root ≡ 16) (h : ℕ) (j : Context) where
  pub grown-spreads : (n k : ℕ) (s : List ℕ) → 1 ≤ k → k + n ≤ 2 ^ h → length s ≡ 2 ^ h * 32
      → ((i : ℕ) (v : List ℕ) → k ≤ i → i < k + n → children j i v ≡ rule (2 * i) v ++ rule (2 * i + 1) v) → Grown rule root h k s
      → Grown rule root h (k + n) (spreads n j k s)
  unfolding spreads
  grown-spreads zero k s p u q same g = let e : k ≡ k + 0 = omega arith in rw e at g
  grown-spreads (suc n) k s p u q same g =
      let v : List ℕ = row_of s 16 k in
      let S : List ℕ = put_row 32 s k (children j k v) in
      let e : k + 1 + n ≡ k + suc n = omega arith in
      let ls : length S ≡ length s = ap length (put_is k s (children j k v)) ∙ put-length (k * 32) 32 s (children j k v) (length-children j k v) (omega arith) in
      let G : Grown rule root h (k + 1) S = grown-more rule root sized l h k s S p (omega arith) q g (ap (put_row 32 s k) (same k v (omega arith) (omega arith))) in
      rw e at (grown-spreads n (k + 1) S (omega arith) (omega arith) (ls ∙ q) (λ i x a b. same i x (omega arith) (omega arith)) G)
