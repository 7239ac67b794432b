-- The nested choices are among the candidates, and all fields of a candidate are small.
-- Assumes nothing.
use mathlib.Core.Path.{sym, subst, ◌∙◌}
use mathlib.Core.Bool.{Bool, true, false, cond}
use mathlib.Core.List.{List, [], ◌∷◌}
use mathlib.Core.Logic.{⊎_elim}
use Prim.{Unit, tt}
use Prim.Native.Nat.{ℕ, zero, suc, ◌+◌, ◌≤◌, ◌<◌}
use native.Mathlib.Omega.{arith}
use lib.Dec.{eqb}
use lib.ListN.{get_or}
use Rattle.bits.proofs.Numbers.{lt-or-le}
use Rattle.small.specs.Small.{below, product, record_ranges, ranges}
use Rattle.small.specs.Steps.{wires, second_of, records_on, two_records, heads, records_of, direct}
use Rattle.small.proofs.Members.{In, in-cons, in_one, choose-in, choose-more, in-tabulate, tabulate-in}
use Rattle.small.proofs.Order.{Rising, Ascending, rising-one, rising-cons, rising-below, ascending-choose, ascending-end}
use Rattle.small.proofs.Gates.{wires-in, wire-input, wire-other}

-- ranges of rising numbers below 256
unfoldable pub Low : List (List ℕ) → Type 0
Low [] = Unit {0}
Low (vs ∷ rs) = ((v : ℕ) → In v vs → v < 256) × (Rising vs × Low rs)

pub product_small : (rs : List (List ℕ)) → Low rs → (s : List ℕ) → In s (product rs) → (i : ℕ) → get_or s i 0 < 256
unfolding Low product
product_small [] l s h i = subst (λ (t : List ℕ). get_or t i 0 < 256) (sym (in_one s [] h)) (omega arith)
product_small (vs ∷ rs) l s h i =
    let p = choose-in s vs (λ _. product rs) h in
    subst (λ (t : List ℕ). get_or t i 0 < 256) (sym p.same) (each i p.value p.rest (l.0 p.value p.value_in) (product_small rs l.1.1 p.rest p.rest_in))
  where
    each : (i x : ℕ) (t : List ℕ) → x < 256 → ((j : ℕ) → get_or t j 0 < 256) → get_or (x ∷ t) i 0 < 256
    each zero x t a f = a
    each (suc j) x t a f = f j

pub product-ascending : (rs : List (List ℕ)) → Low rs → Ascending (product rs)
unfolding Low product
product-ascending [] l = ascending-end
product-ascending (vs ∷ rs) l = ascending-choose vs (λ _. product rs) l.1.0 (λ v h. product-ascending rs l.1.1)

-- numbers below n
pub in-below : (v n : ℕ) → v < n → In v (below n)
in-below v n h = in-tabulate n (λ i. i) v h

pub below_in : (v n : ℕ) → In v (below n) → v < n
below_in v n h = let p = tabulate-in v n (λ i. i) h in omega (arith, p.1.0, p.1.1)

low-one : (x : ℕ) → x < 256 → (v : ℕ) → In v (x ∷ []) → v < 256
low-one x h v i = let e = in_one v x i in omega arith

low_below : (n : ℕ) → n ≤ 256 → (v : ℕ) → In v (below n) → v < 256
low_below n h v i = omega (arith, below_in v n i)

low-kinds : (v : ℕ) → In v (1 ∷ 2 ∷ 3 ∷ []) → v < 256
low-kinds v h = ⊎_elim (λ e. omega arith) (λ h. ⊎_elim (λ e. omega arith) (λ h. let e = in_one v 3 h in omega arith) (in-cons v 2 (3 ∷ []) h)) (in-cons v 1 (2 ∷ 3 ∷ []) h)

pub rising-kinds : Rising (1 ∷ 2 ∷ 3 ∷ [])
rising-kinds = rising-cons 1 2 (3 ∷ []) (omega arith) (rising-cons 2 3 [] (omega arith) (rising-one 3))

low-records : (W G n : ℕ) → W ≤ 256 → suc G ≤ 256 → Low (record_ranges W G n)
unfolding Low record_ranges
low-records W G zero a b = tt
low-records W G (suc n) a b =
    (low-kinds, (rising-kinds, (low_below W a, (rising-below W, (low_below W a, (rising-below W, (low_below (suc G) b, (rising-below (suc G), low-records W G n a b))))))))

pub low-ranges : (I G : ℕ) → I ≤ 2 → G ≤ 2 → Low (ranges I G)
unfolding Low ranges
low-ranges I G a b = (
  low-one I (omega arith),
  (
    rising-one I,
    (
      low-one 1 (omega arith),
      (
        rising-one 1,
        (
          low-one G (omega arith),
          (
            rising-one G,
            (low_below (suc G) (omega arith), (rising-below (suc G), (low_below (I + G) (omega arith), (rising-below (I + G), low-records (I + G) G G (omega arith) (omega arith))))),
          ),
        ),
      ),
    ),
  ),
)

-- the second wire of a record is below W, also where it is 0
second-low : (k : ℕ) (ws : List ℕ) (v W : ℕ) → 0 < W → ((u : ℕ) → In u ws → u < W) → In v (second_of k ws) → v < W
unfolding second_of
second-low k ws v W a f h = pick (eqb k 3) h
  where
    pick : (b : Bool) → In v (cond b (0 ∷ []) ws) → v < W
    pick true i = let e = in_one v 0 i in omega arith
    pick false i = f v i

-- records with wires below W and links up to G
module _ (W G : ℕ) (some : 0 < W) where
  pub records-more : (ws : List ℕ) (next n : ℕ) (rest : List (List ℕ)) → ((v : ℕ) → In v ws → v < W) → next < suc G
      → ((t : List ℕ) → In t rest → In t (product (record_ranges W G n))) → (s : List ℕ) → In s (records_on ws next rest)
      → In s (product (record_ranges W G (suc n)))
  unfolding records_on product record_ranges
  records-more ws next n rest w l r =
      choose-more (1 ∷ 2 ∷ 3 ∷ []) (1 ∷ 2 ∷ 3 ∷ []) _ _ (λ v h. h)
      (λ k _.
      choose-more ws (below W) _ _ (λ v h. in-below v W (w v h))
      (λ a _.
      choose-more (second_of k ws) (below W) _ _ (λ v h. in-below v W (second-low k ws v W some w h))
      (λ b _.
      choose-more (next ∷ []) (below (suc G)) _ _ (λ v h. let e = in_one v next h in in-below v (suc G) (omega arith))
      (λ v _. r))))

-- the wires of a gate are below W
wires-low : (I e w W : ℕ) → I ≤ W → e < W → (v : ℕ) → In v (wires I e w) → v < W
wires-low I e w W a b v h =
    let p = wires-in I e w v h in
    ⊎_elim (λ l. let q = p.1.1 ∙ wire-input I e p.0 l in omega arith) (λ l. let q = p.1.1 ∙ wire-other I e p.0 l in omega arith) (lt-or-le p.0 I)

module _ (I : ℕ) (some : 1 ≤ I) where
  inputs-low : (W : ℕ) → I ≤ W → (v : ℕ) → In v (wires I 0 I) → v < W
  inputs-low W a = wires-low I 0 I W a (omega arith)

  two-more : (h : ℕ) → In h (heads 2) → (t : List ℕ) → In t (two_records I h) → In t (product (record_ranges (I + 2) 2 2))
  unfolding heads two_records product record_ranges
  two-more h i t j =
      ⊎_elim
      (λ e. up (subst (λ (x : ℕ). In t (two_records I x)) e j))
      (λ i. down (subst (λ (x : ℕ). In t (two_records I x)) (in_one h 2 i) j))
      (in-cons h 1 (2 ∷ []) i)
    where
      last : (s : List ℕ) → In s ([] ∷ []) → In s (product (record_ranges (I + 2) 2 0))
      last s i = i

      up : In t (two_records I 1) → In t (product (record_ranges (I + 2) 2 2))
      up j =
          records-more (I + 2) 2 (omega arith) (wires I 0 I) 2 1 _ (inputs-low (I + 2) (omega arith)) (omega arith)
          (records-more (I + 2) 2 (omega arith) (wires I I (I + 1)) 0 0 _ (wires-low I I (I + 1) (I + 2) (omega arith) (omega arith)) (omega arith) last)
          t j

      down : In t (two_records I 2) → In t (product (record_ranges (I + 2) 2 2))
      down j =
          records-more (I + 2) 2 (omega arith) (wires I (I + 1) (I + 1)) 0 1 _ (wires-low I (I + 1) (I + 1) (I + 2) (omega arith) (omega arith)) (omega arith)
          (records-more (I + 2) 2 (omega arith) (wires I 0 I) 1 0 _ (inputs-low (I + 2) (omega arith)) (omega arith) last)
          t j

  heads-low : (G : ℕ) → G ≤ 2 → (v : ℕ) → In v (heads G) → v < suc G
  unfolding heads
  heads-low zero a v h = let e = in_one v 0 h in omega arith
  heads-low (suc zero) a v h = let e = in_one v 1 h in omega arith
  heads-low (suc (suc n)) a v h = ⊎_elim (λ e. omega arith) (λ i. let e = in_one v 2 i in omega arith) (in-cons v 1 (2 ∷ []) h)

  records-more-of : (G : ℕ) → G ≤ 2 → (h : ℕ) → In h (heads G) → (t : List ℕ) → In t (records_of I G h) → In t (product (record_ranges (I + G) G G))
  unfolding records_of record_ranges product
  records-more-of zero a h i t j = j
  records-more-of (suc zero) a h i t j =
      records-more (I + 1) 1 (omega arith) (wires I 0 I) 0 0 _ (inputs-low (I + 1) (omega arith)) (omega arith) (λ s i. i) t j
  records-more-of (suc (suc zero)) a h i t j = two-more h i t j
  records-more-of (suc (suc (suc n))) a h i t j = absurd (omega arith)

  pub direct-more : (G : ℕ) → G ≤ 2 → (s : List ℕ) → In s (direct I G) → In s (product (ranges I G))
  unfolding direct ranges product
  direct-more G a =
      choose-more _ _ _ _ (λ v h. h) (λ _ _.
      choose-more _ _ _ _ (λ v h. h) (λ _ _.
      choose-more _ _ _ _ (λ v h. h) (λ _ _.
      choose-more (heads G) (below (suc G)) _ _ (λ v h. in-below v (suc G) (heads-low G a v h)) (λ h i.
      choose-more _ _ _ _ (λ v h. h) (λ _ _. records-more-of G a h i)))))
