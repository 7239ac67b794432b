-- The file at each place of the nested choices, and how many there are.
-- Assumes nothing.
use mathlib.Core.Path.{◌≡◌, refl, sym, ap, ap₂, ◌∙◌}
use mathlib.Core.Bool.{Bool, true, false, cond}
use mathlib.Core.List.{List, [], ◌∷◌, ◌++◌, append-nil}
use Prim.Native.Nat.{ℕ, zero, suc, ◌+◌, ◌*◌, ◌/◌, ◌%◌, ◌≤◌, ◌<◌}
use native.Mathlib.Nat.{zero-mul, div-add-mod', div-lt_iff_lt-mul, mod-lt, mul-le-mul, mul_comm}
use native.Mathlib.Omega.{arith}
use lib.Dec.{eqb}
use lib.ListN.{length, get_or}
use Rattle.bits.proofs.Tabulate.{length-tabulate, get_d_tabulate}
use Rattle.small.specs.Small.{below, choose}
use Rattle.small.specs.Steps.{wires, records_on, two_records, heads, records_of, direct, gates_on, record_at, pairs, per_head, count_of, pair_at, fields_at}
use Rattle.small.proofs.Places.{choose-length, choose-at, head_at, one-length, digits_lt, records-length, records-at}

module _ (I : ℕ) where
  -- the last records of a file
  abbrev end : List (List ℕ)
  end = [] ∷ []

  last-length : (e w next : ℕ) → length (records_on (wires I e w) next end) ≡ gates_on w
  last-length e w next = records-length I e w next 1 end refl ∙ omega arith

  last-at : (e w next r : ℕ) → r < gates_on w → get_or (records_on (wires I e w) next end) r [] ≡ record_at I e w r next
  last-at e w next r h =
      let p : r ≡ r * 1 + 0 = omega arith in
      ap (λ (k : ℕ). get_or (records_on (wires I e w) next end) k []) p
      ∙ records-at I e w next 1 end refl r 0 h (omega arith)
      ∙ append-nil (record_at I e w r next)

  -- the records of both slots
  both-length : (e w f v next last : ℕ) → length (records_on (wires I e w) next (records_on (wires I f v) last end)) ≡ gates_on w * gates_on v
  both-length e w f v next last = records-length I e w next (gates_on v) _ (last-length f v last)

  both_at : (e w f v next last r : ℕ) → 0 < gates_on v → r < gates_on w * gates_on v
      → get_or (records_on (wires I e w) next (records_on (wires I f v) last end)) r [] ≡ record_at I e w (r / gates_on v) next ++ record_at I f v (r % gates_on v) last
  both_at e w f v next last r some h =
      let n = gates_on v in
      let low : r % n < n = mod-lt r some in
      ap (λ (k : ℕ). get_or (records_on (wires I e w) next (records_on (wires I f v) last end)) k []) (sym (div-add-mod' r n))
      ∙ records-at I e w next n _ (last-length f v last) (r / n) (r % n) ((div-lt_iff_lt-mul {k = n} {x = r} {y = gates_on w} some).1 h) low
      ∙ ap (λ (t : List ℕ). record_at I e w (r / n) next ++ t) (last-at f v last (r % n) low)

  two-length : (h : ℕ) → length (two_records I h) ≡ pairs I
  unfolding two_records pairs
  two-length h = pick (eqb h 1)
    where
      pick : (b : Bool) → length (cond b (records_on (wires I 0 I) 2 (records_on (wires I I (I + 1)) 0 end)) (records_on (wires I (I + 1) (I + 1)) 0 (records_on (wires I 0 I) 1 end))) ≡ gates_on I * gates_on (I + 1)
      pick true = both-length 0 I I (I + 1) 2 0
      pick false = both-length (I + 1) (I + 1) 0 I 0 1 ∙ mul_comm (gates_on (I + 1)) (gates_on I)

  pub gates-some : (w : ℕ) → 0 < w → 0 < gates_on w
  unfolding gates_on
  gates-some w h = omega arith

  module _ (some : 1 ≤ I) where
    two_at : (h r : ℕ) → r < pairs I → get_or (two_records I h) r [] ≡ pair_at I h r
    unfolding two_records pairs pair_at
    two_at h r l = pick (eqb h 1)
      where
        pick : (b : Bool)
            → get_or (cond b (records_on (wires I 0 I) 2 (records_on (wires I I (I + 1)) 0 end)) (records_on (wires I (I + 1) (I + 1)) 0 (records_on (wires I 0 I) 1 end))) r []
            ≡ cond b (record_at I 0 I (r / gates_on (I + 1)) 2 ++ record_at I I (I + 1) (r % gates_on (I + 1)) 0) (record_at I (I + 1) (I + 1) (r / gates_on I) 0 ++ record_at I 0 I (r % gates_on I) 1)
        pick true = both_at 0 I I (I + 1) 2 0 r (gates-some (I + 1) (omega arith)) l
        pick false = both_at (I + 1) (I + 1) 0 I 0 1 r (gates-some I some) (omega (arith, mul_comm (gates_on (I + 1)) (gates_on I)))

-- the whole list, where m lists of records go with each head and output wire
module _ (I G m : ℕ) (each : (h : ℕ) → length (records_of I G h) ≡ m) where
  abbrev row : ℕ → List (List ℕ)
  row h = choose (below (I + G)) (λ _. records_of I G h)

  abbrev rows : List (List ℕ)
  rows = choose (heads G) row

  row-size : (h : ℕ) → length (row h) ≡ (I + G) * m
  row-size h = choose-length (λ _. records_of I G h) m (λ _. each h) (below (I + G)) ∙ ap (λ (k : ℕ). k * m) (length-tabulate (I + G) (λ i. i))

  rows-size : length rows ≡ length (heads G) * ((I + G) * m)
  rows-size = choose-length row ((I + G) * m) row-size (heads G)

  abbrev sized : List (List ℕ)
  sized = choose (G ∷ []) (λ _. rows)

  direct-size : length (direct I G) ≡ length (heads G) * ((I + G) * m)
  unfolding direct
  direct-size = one-length I (λ _. choose (1 ∷ []) (λ _. sized)) ∙ one-length 1 (λ _. sized) ∙ one-length G (λ _. rows) ∙ rows-size

  direct-digits : (j o r : ℕ) → j < length (heads G) → o < I + G → r < m
      → get_or (direct I G) (j * ((I + G) * m) + (o * m + r)) [] ≡ I ∷ 1 ∷ G ∷ get_or (heads G) j 0 ∷ o ∷ get_or (records_of I G (get_or (heads G) j 0)) r []
  unfolding direct
  direct-digits j o r a b c =
      let z = o * m + r in
      let y : z < (I + G) * m = digits_lt o r (I + G) m b c in
      let k = j * ((I + G) * m) + z in
      let x : k < length rows = omega (arith, digits_lt j z (length (heads G)) ((I + G) * m) a y, rows-size) in
      let w : k < length sized = omega (arith, one-length G (λ _. rows)) in
      let v : k < length (choose (1 ∷ []) (λ _. sized)) = omega (arith, one-length 1 (λ _. sized)) in
      let h = get_or (heads G) j 0 in
      head_at I [] (λ _. choose (1 ∷ []) (λ _. sized)) k v
      ∙ ap (λ (t : List ℕ). I ∷ t)
      (head_at 1 [] (λ _. sized) k w
      ∙ ap (λ (t : List ℕ). 1 ∷ t)
      (head_at G [] (λ _. rows) k x
      ∙ ap (λ (t : List ℕ). G ∷ t)
      (choose-at row ((I + G) * m) row-size (heads G) j z a y
      ∙ ap (λ (t : List ℕ). h ∷ t)
      (choose-at (λ _. records_of I G h) m (λ _. each h) (below (I + G)) o r (omega (arith, length-tabulate (I + G) (λ (i : ℕ). i))) c
      ∙ ap (λ (i : ℕ). i ∷ get_or (records_of I G h) r []) (get_d_tabulate (I + G) (λ i. i) o 0 b)))))

module _ (I : ℕ) (some : 1 ≤ I) where
  none_each : (h : ℕ) → length (records_of I 0 h) ≡ 1
  unfolding records_of
  none_each h = refl

  one_each : (h : ℕ) → length (records_of I 1 h) ≡ gates_on I
  unfolding records_of
  one_each h = last-length I 0 I 0

  two-each : (h : ℕ) → length (records_of I 2 h) ≡ pairs I
  unfolding records_of
  two-each h = two-length I h

  -- how many there are
  pub direct-count : (G : ℕ) → G ≤ 2 → length (direct I G) ≡ count_of I G
  unfolding count_of heads per_head
  direct-count zero h = direct-size I 0 1 none_each ∙ omega arith
  direct-count (suc zero) h = direct-size I 1 (gates_on I) one_each ∙ omega arith
  direct-count (suc (suc zero)) h = direct-size I 2 (pairs I) two-each
  direct-count (suc (suc (suc n))) h = absurd (omega arith)

  pub pairs-some : 0 < pairs I
  unfolding pairs
  pairs-some =
      let a = gates-some I I some in
      let b = gates-some I (I + 1) (omega arith) in
      omega (arith, mul-le-mul {n₁ = 1} {m₁ = 1} {n₂ = gates_on I} {m₂ = gates_on (I + 1)} (omega arith) (omega arith))

  none-place : (place : ℕ) → place < I → get_or (direct I 0) place [] ≡ fields_at I 0 place
  unfolding heads records_of fields_at
  none-place place h =
      let e : place ≡ 0 * ((I + 0) * 1) + (place * 1 + 0) = omega (arith, zero-mul ((I + 0) * 1)) in
      ap (λ (k : ℕ). get_or (direct I 0) k []) e ∙ direct-digits I 0 1 none_each 0 place 0 (omega arith) (omega arith) (omega arith)

  one_place : (place : ℕ) → place < (I + 1) * gates_on I → get_or (direct I 1) place [] ≡ fields_at I 1 place
  unfolding heads records_of fields_at
  one_place place h =
      let m = gates_on I in
      let g = gates-some I I some in
      let e : place ≡ 0 * ((I + 1) * m) + (place / m * m + place % m) = omega (arith, zero-mul ((I + 1) * m), div-add-mod' place m) in
      let low : place % m < m = mod-lt place g in
      ap (λ (k : ℕ). get_or (direct I 1) k []) e
      ∙ direct-digits I 1 m one_each 0 (place / m) (place % m) (omega arith) ((div-lt_iff_lt-mul {k = m} {x = place} {y = I + 1} g).1 h) low
      ∙ ap (λ (t : List ℕ). I ∷ 1 ∷ 1 ∷ 1 ∷ place / m ∷ t) (last-at I 0 I 0 (place % m) low)

  two-place : (place : ℕ) → place < 2 * per_head I → get_or (direct I 2) place [] ≡ fields_at I 2 place
  unfolding heads records_of fields_at per_head
  two-place place h =
      let m = pairs I in
      let per = (I + 2) * m in
      let g = pairs-some in
      let f : 0 < per = omega (arith, mul-le-mul {n₁ = 1} {m₁ = 1} {n₂ = I + 2} {m₂ = m} (omega arith) (omega arith)) in
      let j = place / per in
      let q = place % per in
      let j-low : j < 2 = (div-lt_iff_lt-mul {k = per} {x = place} {y = 2} f).1 h in
      let q-low : q < per = mod-lt place f in
      let r-low : q % m < m = mod-lt q g in
      let e : place ≡ j * per + (q / m * m + q % m) = omega (arith, div-add-mod' q m, div-add-mod' place per) in
      ap (λ (k : ℕ). get_or (direct I 2) k []) e
      ∙ direct-digits I 2 m two-each j (q / m) (q % m) j-low ((div-lt_iff_lt-mul {k = m} {x = q} {y = I + 2} g).1 q-low) r-low
      ∙ ap₂ (λ (x : ℕ) (t : List ℕ). I ∷ 1 ∷ 2 ∷ x ∷ q / m ∷ t) (head_of j j-low)
      (ap (λ (x : ℕ). get_or (two_records I x) (q % m) []) (head_of j j-low) ∙ two_at I some (1 + j) (q % m) r-low)
    where
      head_of : (j : ℕ) → j < 2 → get_or (1 ∷ 2 ∷ []) j 0 ≡ 1 + j
      head_of zero l = refl
      head_of (suc zero) l = refl
      head_of (suc (suc j)) l = absurd (omega arith)

  -- the fields of the file at a place
  pub direct-place : (G place : ℕ) → G ≤ 2 → place < count_of I G → get_or (direct I G) place [] ≡ fields_at I G place
  unfolding count_of
  direct-place zero place h l = none-place place l
  direct-place (suc zero) place h l = one_place place l
  direct-place (suc (suc zero)) place h l = two-place place l
  direct-place (suc (suc (suc n))) place h l = absurd (omega arith)
