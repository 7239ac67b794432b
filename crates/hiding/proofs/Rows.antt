-- The rows of the tapes: the bits that a party uses, and one row replaced.
-- Assumes nothing.
use mathlib.Core.Path.{◌≡◌, sym, ap, ap₂, ◌∙◌, fun_ext}
use mathlib.Core.Bool.{Bool, true, false, cond}
use mathlib.Core.List.{List, ◌++◌, append_assoc}
use mathlib.Core.Logic.{◌≢◌, ◌⊎◌, inl, inr, ⊎_elim}
use Prim.Native.Nat.{ℕ, suc, ◌+◌, ◌-◌, ◌*◌, ◌≤◌, ◌<◌}
use native.Mathlib.Omega.{arith}
use borrow.Author.Tests.{eq-eqb, le-ltb}
use lib.Dec.{eqb}
use lib.ListN.{length, get_or, take, drop, length-append, length-take, length-drop}
use lib.Seq.{length-take-le, take_at, drop_at, get_or-take, get_or-drop, get_or-append-add, ext_get_or}
use Rattle.bits.proofs.Numbers.{lt-or-le}
use Rattle.bits.proofs.Rows.{row_inside, row-outside, row-length, row-get_or, row_fits}
use Rattle.circuit.specs.Circuit.{Circuit}
use Rattle.plain.specs.Tapes.{ands_of, row_bytes, tape_row, input_masks, used_bits, with_row}

-- place k of a list that begins with a places
pub get_d_past : {A : Type 0} (xs ys : List A) (a k : ℕ) (d : A) → length xs ≡ a → get_or (xs ++ ys) (a + k) d ≡ get_or ys k d
get_d_past xs ys a k d e = rw (← e) (get_or-append-add xs ys k d)

-- beyond the inputs no wire has shares yet
pub inputs_end : (c : Circuit) (tapes : List ℕ) (k : ℕ) → c.inputs ≤ k → input_masks c tapes k ≡ (λ i. false)
unfolding input_masks
inputs_end c tapes k h = fun_ext (λ i. rw (le-ltb k c.inputs h))

-- the last party uses no product shares
pub used-last : (c : Circuit) (n p : ℕ) → suc p ≡ n → used_bits c n p ≡ c.inputs + ands_of c
unfolding used_bits
used-last c n p h = rw (eq-eqb (suc p) n h)

-- the bits that a party uses are in its row
pub used-inside : (c : Circuit) (n p : ℕ) → used_bits c n p ≤ c.inputs + 2 * ands_of c
unfolding used_bits
used-inside c n p = go (eqb (suc p) n)
  where
    go : (b : Bool) → cond b (c.inputs + ands_of c) (c.inputs + 2 * ands_of c) ≤ c.inputs + 2 * ands_of c
    go true = omega arith
    go false = omega arith

-- a list with the len places from a on replaced by r
module _ (a len : ℕ) (r s : List ℕ) (h : a + len ≤ length s) (e : length r ≡ len) where
  -- it begins with a + len places
  front : length (take a s ++ r) ≡ a + len
  front = simp (length-append, length-take) (omega arith)

  -- its length stays
  length-with : length (take a s ++ r ++ drop (a + len) s) ≡ length s
  length-with = simp (length-append, length-take, length-drop) (omega arith)

  -- what stands before the part
  take-with : take a (take a s ++ r ++ drop (a + len) s) ≡ take a s
  take-with = rw append_assoc (take_at (take a s) (r ++ drop (a + len) s) a (length-take-le a s (omega arith)))

  -- the part
  part-with : take len (drop a (take a s ++ r ++ drop (a + len) s)) ≡ r
  part-with =
      rw (append_assoc, drop_at (take a s) (r ++ drop (a + len) s) a (length-take-le a s (omega arith))) (take_at r (drop (a + len) s) len e)

  -- what stands after it
  drop-with : drop (a + len) (take a s ++ r ++ drop (a + len) s) ≡ drop (a + len) s
  drop-with = drop_at (take a s ++ r) (drop (a + len) s) (a + len) front

  -- a place outside the part
  get_or-with : (j : ℕ) → (j < a) ⊎ (a + len ≤ j) → get_or (take a s ++ r ++ drop (a + len) s) j 0 ≡ get_or s j 0
  get_or-with j =
      ⊎_elim
      (λ l. sym (get_or-take a _ j 0 l) ∙ ap (λ (t : List ℕ). get_or t j 0) take-with ∙ get_or-take a s j 0 l)
      (λ l.
      let k : ℕ = j - (a + len) in
      let q : j ≡ a + len + k = omega arith in
      ap (λ (i : ℕ). get_or (take a s ++ r ++ drop (a + len) s) i 0) q
      ∙ get_d_past (take a s ++ r) (drop (a + len) s) (a + len) k 0 front
      ∙ get_or-drop (a + len) s k 0
      ∙ ap (λ (i : ℕ). get_or s i 0) (sym q))

-- the tapes of n parties with a row of party p
module _ (c : Circuit) (n p : ℕ) (l : p < n) (tapes : List ℕ) (size : length tapes ≡ n * row_bytes c) (r : List ℕ) (e : length r ≡ row_bytes c) where
  -- party p's row is inside
  fits : p * row_bytes c + row_bytes c ≤ length tapes
  fits = omega (arith, row_fits n (row_bytes c) p l)

  -- they keep their length
  pub length-with_row : length (with_row c p r tapes) ≡ length tapes
  unfolding with_row
  length-with_row = length-with (p * row_bytes c) (row_bytes c) r tapes fits e

  -- that row is party p's
  pub row_here : tape_row c (with_row c p r tapes) p ≡ r
  unfolding with_row
  row_here =
      row_inside (with_row c p r tapes) (row_bytes c) p (omega (arith, length-with_row, fits))
      ∙ part-with (p * row_bytes c) (row_bytes c) r tapes fits e

  -- the bytes outside that row stay
  pub byte-other : (k : ℕ) → (k < p * row_bytes c) ⊎ (p * row_bytes c + row_bytes c ≤ k) → get_or (with_row c p r tapes) k 0 ≡ get_or tapes k 0
  unfolding with_row
  byte-other = get_or-with (p * row_bytes c) (row_bytes c) r tapes fits e

  -- another row's place is before it or after it
  apart : (i k : ℕ) → i ≢ p → k < row_bytes c
      → (i * row_bytes c + k < p * row_bytes c) ⊎ (p * row_bytes c + row_bytes c ≤ i * row_bytes c + k)
  apart i k m h =
      ⊎_elim
      (λ q. inl (omega (arith, row_fits p (row_bytes c) i q)))
      (λ q. inr (omega (arith, row_fits i (row_bytes c) p (omega arith))))
      (lt-or-le i p)

  -- the other rows stay
  pub row_other : (i : ℕ) → i ≢ p → tape_row c (with_row c p r tapes) i ≡ tape_row c tapes i
  unfolding with_row
  row_other i m =
      ⊎_elim
      (λ h. row-outside (with_row c p r tapes) (row_bytes c) i (omega (arith, length-with_row)) ∙ sym (row-outside tapes (row_bytes c) i h))
      (λ h.
      let q : i * row_bytes c + row_bytes c ≤ length (with_row c p r tapes) = omega (arith, length-with_row) in
      let size-i : length (tape_row c (with_row c p r tapes) i) ≡ row_bytes c = row-length (with_row c p r tapes) (row_bytes c) i q in
      ext_get_or 0 (tape_row c (with_row c p r tapes) i) (tape_row c tapes i) (size-i ∙ sym (row-length tapes (row_bytes c) i h))
      (λ k b.
      let j : k < row_bytes c = omega arith in
      row-get_or (with_row c p r tapes) (row_bytes c) i k q j
      ∙ get_or-with (p * row_bytes c) (row_bytes c) r tapes fits e (i * row_bytes c + k) (apart i k m j)
      ∙ sym (row-get_or tapes (row_bytes c) i k h j)))
      (lt-or-le (length tapes) (i * row_bytes c + row_bytes c))

  -- replaced once more, it does not matter
  pub row-again : (z : List ℕ) → with_row c p z (with_row c p r tapes) ≡ with_row c p z tapes
  unfolding with_row
  row-again z =
      ap₂ (λ (x y : List ℕ). x ++ z ++ y) (take-with (p * row_bytes c) (row_bytes c) r tapes fits e)
      (drop-with (p * row_bytes c) (row_bytes c) r tapes fits e)
