-- The listed leaves: the test on them, and the table that is made of them.
-- Assumes nothing.
use native.Mathlib.Omega.{arith}
use native.Mathlib.Numerals.{add-one}
use mathlib.Core.Path.{◌≡◌, refl, sym, ap, ◌∙◌}
use mathlib.Core.Bool.{Bool, true, false, not, and-true, and-false}
use mathlib.Core.Logic.{⊎_elim}
use mathlib.Core.List.{List}
use Prim.Native.Nat.{ℕ, zero, suc, ◌+◌, ◌*◌, ◌≤◌, ◌<◌}
use borrow.Author.Tests.{le-leb, lt-leb, eq-eqb, ne_eqb, not-true}
use lib.Dec.{eqb, leb}
use lib.ListN.{length, get_or, set, replicate, length-set}
use lib.Seq.{get_or-set_same, get_or-set_other, ext_get_or}
use Rattle.bits.specs.Bits.{bit_val, tabulate}
use Rattle.bits.specs.Bytes.{le_at}
use Rattle.bits.proofs.Numbers.{lt-or-le, eq-or-ne}
use Rattle.bits.proofs.Tabulate.{length-tabulate, get_d_tabulate}
use Rattle.cover.specs.Cover.{some}
use Rattle.cover.specs.Steps.{hidden_by, marks_of}
use Rattle.cover.proofs.Search.{and_second, clash, some-true}
use Rattle.cover.proofs.Masters.{marks-same}
use Rattle.seeds.specs.Operations.{leaf_count, leaf_at, listed, are_leaves}

-- the number of a leaf, as it is read
pub leaf-is : (list : List ℕ) (k r : ℕ) → r ≡ le_at 2 list (2 * k) → r ≡ leaf_at list k
unfolding leaf_at
leaf-is list k r e = e

module _ (M : ℕ) (list : List ℕ) where
  -- of the first k leaves none is at or above M
  pub Below : ℕ → Type 0
  Below k = some k (λ t. leb M (leaf_at list t)) ≡ false

  pub below_none : Below 0
  unfolding Below some
  below_none = refl

  pub below_more : (k : ℕ) → leaf_at list k < M → Below k → Below (k + 1)
  unfolding Below some
  below_more k w e = rw (add-one k, lt-leb M (leaf_at list k) w) e

  pub leaf-above : (k : ℕ) → k < leaf_count list → M ≤ leaf_at list k → false ≡ are_leaves M list
  unfolding are_leaves
  leaf-above k u w =
      rw (some-true (leaf_count list) (λ t. leb M (leaf_at list t)) k u (le-leb M (leaf_at list k) w)) (sym (and-false (leb 1 (leaf_count list))))

  pub below_all : (k : ℕ) → k ≡ leaf_count list → Below k → leb 1 (leaf_count list) ≡ are_leaves M list
  unfolding are_leaves Below
  below_all k e b =
      rw (sym (ap (λ (n : ℕ). some n (λ t. leb M (leaf_at list t))) e) ∙ b) (sym (and-true (leb 1 (leaf_count list))))

  pub leaf-below : (k : ℕ) → are_leaves M list ≡ true → k < leaf_count list → leaf_at list k < M
  unfolding are_leaves
  leaf-below k e u =
      ⊎_elim
      (λ (w : leaf_at list k < M). w)
      (λ (w : M ≤ leaf_at list k).
      absurd
      (clash (some-true (leaf_count list) (λ t. leb M (leaf_at list t)) k u (le-leb M (leaf_at list k) w)) (not-true _ (and_second (leb 1 (leaf_count list)) _ e))))
      (lt-or-le (leaf_at list k) M)

-- the table, after k leaves
module _ (list : List ℕ) where
  pub Listed : ℕ → List ℕ → Type 0
  Listed k table = (i : ℕ) → i < length table → get_or table i 0 ≡ bit_val (some k (λ t. eqb (leaf_at list t) i))

  pub listed-none : (table : List ℕ) (n : ℕ) → table ≡ replicate n 0 → Listed 0 table
  unfolding Listed some
  listed-none table n e i w = ap (λ (s : List ℕ). get_or s i 0) e ∙ zero-at n i
    where
      zero-at : (n i : ℕ) → ◌≡◌ {A = ℕ} (get_or (replicate n 0) i 0) 0
      zero-at zero i = refl
      zero-at (suc n) zero = refl
      zero-at (suc n) (suc i) = zero-at n i

  pub listed_more : (k leaf : ℕ) (table : List ℕ) → leaf ≡ leaf_at list k → leaf < length table → Listed k table → Listed (k + 1) (set table leaf 1)
  unfolding Listed some
  listed_more k leaf table e w g i u =
      rw (add-one k)
      (⊎_elim
      (λ (q : i ≡ leaf).
      rw (q, get_or-set_same table leaf 1 0 w, eq-eqb (leaf_at list k) leaf (sym e)) refl)
      (λ ne.
      rw (get_or-set_other table leaf i 1 0 ne, ne_eqb (leaf_at list k) i (λ q. ne (sym (e ∙ q)))) (g i (omega (arith, length-set table leaf 1))))
      (eq-or-ne i leaf))

  pub listed-all : (k n : ℕ) (table : List ℕ) → k ≡ leaf_count list → length table ≡ n → Listed k table → table ≡ tabulate n (λ i. bit_val (listed list i))
  unfolding Listed listed
  listed-all k n table e l g =
      let f : ℕ → ℕ = λ i. bit_val (some (leaf_count list) (λ t. eqb (leaf_at list t) i)) in
      ext_get_or 0 table (tabulate n f) (l ∙ sym (length-tabulate n f))
      (λ i w. g i w ∙ ap (λ (m : ℕ). bit_val (some m (λ t. eqb (leaf_at list t) i))) e ∙ sym (get_d_tabulate n f i 0 (omega arith)))

  -- the marks by the table are those of the listed leaves
  pub marks-listed : (h M n : ℕ) (table : List ℕ) → M ≤ n → table ≡ tabulate n (λ i. bit_val (listed list i)) → marks_of h M (hidden_by table 0) ≡ marks_of h M (listed list)
  unfolding hidden_by
  marks-listed h M n table w e =
      marks-same M (hidden_by table 0) (listed list)
      (λ i u.
      ap (λ (x : ℕ). not (eqb x 0)) (ap (λ (s : List ℕ). get_or s i 0) e ∙ get_d_tabulate n (λ k. bit_val (listed list k)) i 0 (omega arith))
      ∙ bit_test (listed list i))
      h
    where
      bit_test : (b : Bool) → not (eqb (bit_val b) 0) ≡ b
      bit_test true = refl
      bit_test false = refl
