-- Bytes and rows that are written into a memory: what then stands there, and what stands after them.
-- Assumes nothing.
use mathlib.Core.Path.{◌≡◌, refl, sym, ap, ap₂, ◌∙◌}
use mathlib.Core.Bool.{Bool, true, false, cond}
use mathlib.Core.List.{List, [], ◌∷◌, ◌++◌, flatten, append_assoc}
use Prim.Native.Nat.{ℕ, suc, ◌+◌, ◌-◌, ◌*◌, ◌≤◌, ◌<◌}
use native.Mathlib.Omega.{arith}
use borrow.Author.Tests.{eq-eqb, ne_eqb}
use lib.Dec.{eqb}
use lib.ListN.{length, take, drop, set, length-append, length-drop}
use lib.Seq.{sets, sets-eq, drop-drop, take_at, drop_at, take-set-le, length-take-le}
use Rattle.bits.specs.Bits.{tabulate}
use Rattle.bits.specs.Bytes.{row_of}
use Rattle.bits.proofs.Rows.{row_inside, row_fits, flatten-more, length-flatten}
use Rattle.bits.proofs.Tabulate.{length-tabulate, get_d_tabulate, tabulate-cong}
use Rattle.derivation.proofs.Together.{part-first, flatten-add}

-- bytes after others
pub sets_more : (m : List ℕ) (i : ℕ) (u v : List ℕ) → sets m i (u ++ v) ≡ sets (sets m i u) (i + length u) v
sets_more m i [] v = let e : i ≡ i + 0 = omega arith in ap (λ (k : ℕ). sets m k v) e
sets_more m i (x ∷ u) v =
    let e : suc i + length u ≡ i + suc (length u) = omega arith in
    sets_more (set m i x) (suc i) u v ∙ ap (λ (k : ℕ). sets (sets (set m i x) (suc i) u) k v) e

-- what stands before them is as it was
sets-ahead : (m : List ℕ) (i : ℕ) (v : List ℕ) (k : ℕ) → k ≤ i → take k (sets m i v) ≡ take k m
sets-ahead m i [] k h = refl
sets-ahead m i (x ∷ v) k h = sets-ahead (set m i x) (suc i) v k (omega arith) ∙ take-set-le k m i x h

-- they stand there
pub sets-here : (m : List ℕ) (i k : ℕ) (v : List ℕ) → length v ≡ k → i + k ≤ length m → take k (drop i (sets m i v)) ≡ v
sets-here m i k v e h =
    let post : List ℕ = drop (i + length v) m in
    ap (λ (t : List ℕ). take k (drop i t)) (sets-eq v m i (omega (arith, e)) ∙ append_assoc (take i m) v post)
    ∙ ap (take k) (drop_at (take i m) (v ++ post) i (length-take-le i m (omega arith))) ∙ take_at v post k e

-- nothing is written yet
pub none_written : (m : List ℕ) (to : ℕ) → m ≡ sets m to (flatten [])
unfolding flatten
none_written m to = refl

-- a part that stands before what is written
pub part-ahead : (c k i : ℕ) (m v : List ℕ) → k + c ≤ i → take c (drop k (sets m i v)) ≡ take c (drop k m)
part-ahead c k i m v h =
    sym (part-first c k i (sets m i v) h) ∙ ap (λ (t : List ℕ). take c (drop k t)) (sets-ahead m i v i (omega arith)) ∙ part-first c k i m h

-- row i of n rows that stand in a memory
pub row-part : (len n i a : ℕ) (m : List ℕ) → i < n → a + n * len ≤ length m → row_of (take (n * len) (drop a m)) len i ≡ take len (drop (a + i * len) m)
row-part len n i a m h l =
    let k : length (take (n * len) (drop a m)) ≡ n * len = length-take-le (n * len) (drop a m) (omega (arith, length-drop a m)) in
    row_inside (take (n * len) (drop a m)) len i (omega (arith, row_fits n len i h, k))
    ∙ part-first len (i * len) (n * len) (drop a m) (row_fits n len i h) ∙ ap (take len) (drop-drop (i * len) a m)

-- rows of len bytes
module _ (len : ℕ) (f : ℕ → List ℕ) (size : (i : ℕ) → length (f i) ≡ len) where
  pub rows-length : (n : ℕ) → length (flatten (tabulate n f)) ≡ n * len
  rows-length n =
      length-flatten len (tabulate n f) (λ k h. ap length (get_d_tabulate n f k [] (omega (arith, length-tabulate n f))) ∙ size k)
      ∙ ap (λ (k : ℕ). k * len) (length-tabulate n f)

  -- one of n rows is another
  pub row-changed : (n p : ℕ) (r : List ℕ) → p < n
      → flatten (tabulate n (λ i. cond (eqb i p) r (f i)))
      ≡ take (p * len) (flatten (tabulate n f)) ++ r ++ drop (p * len + len) (flatten (tabulate n f))
  row-changed n p r h =
      let q : ℕ = n - suc p in
      let g : ℕ → List ℕ = λ i. cond (eqb i p) r (f i) in
      let e : n ≡ suc p + (n - suc p) = omega arith in
      let parts : (x : ℕ → List ℕ) → flatten (tabulate n x) ≡ (flatten (tabulate p x) ++ x p) ++ flatten (tabulate q (λ k. x (suc p + k)))
      = λ x. ap (λ (k : ℕ). flatten (tabulate k x)) e ∙ flatten-add (suc p) q x
      ∙ ap (λ (t : List ℕ). t ++ flatten (tabulate q (λ k. x (suc p + k)))) (sym (flatten-more p x)) in
      let A : List ℕ = flatten (tabulate p f) in
      let C : List ℕ = flatten (tabulate q (λ k. f (suc p + k))) in
      let low : flatten (tabulate p g) ≡ A = ap flatten (tabulate-cong p g f (λ i l. rw (ne_eqb i p (λ d. omega arith)) refl)) in
      let here : g p ≡ r = rw (eq-eqb p p refl) refl in
      let high : flatten (tabulate q (λ k. g (suc p + k))) ≡ C
      = ap flatten (tabulate-cong q (λ k. g (suc p + k)) (λ k. f (suc p + k)) (λ k l. rw (ne_eqb (suc p + k) p (λ d. omega arith)) refl)) in
      let first : take (p * len) (flatten (tabulate n f)) ≡ A
      = ap (take (p * len)) (parts f ∙ append_assoc A (f p) C) ∙ take_at A (f p ++ C) (p * len) (rows-length p) in
      let last : drop (p * len + len) (flatten (tabulate n f)) ≡ C
      = ap (drop (p * len + len)) (parts f) ∙ drop_at (A ++ f p) C (p * len + len) (omega (arith, length-append A (f p), rows-length p, size p)) in
      parts g ∙ ap₂ ◌++◌ (ap₂ ◌++◌ (low ∙ sym first) here) (high ∙ sym last)

-- n rows, of which no row is another
pub row_kept : (n : ℕ) (f : ℕ → List ℕ) (r : List ℕ) → flatten (tabulate n (λ i. cond (eqb i n) r (f i))) ≡ flatten (tabulate n f)
row_kept n f r = ap flatten (tabulate-cong n (λ i. cond (eqb i n) r (f i)) f (λ i l. rw (ne_eqb i n (λ d. omega arith)) refl))

-- either of two strings of one length
pub either-length : (b : Bool) (x y : List ℕ) (k : ℕ) → length x ≡ k → length y ≡ k → length (cond b x y) ≡ k
either-length true x y k h l = h
either-length false x y k h l = l
