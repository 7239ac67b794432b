-- Theorem, every-small-circuit: the candidates that are kept are the files of the nested choices.
-- Assumes nothing.
use mathlib.Core.Path.{◌≡◌, refl, sym, ap₂, subst}
use mathlib.Core.Bool.{Bool, true, false, cond, ◌&&◌, ◌||◌}
use mathlib.Core.List.{List, [], ◌∷◌, map}
use mathlib.Core.Logic.{◌⊎◌, inl, inr, ⊎_elim}
use Prim.Native.Nat.{ℕ, zero, suc, ◌+◌, ◌≤◌, ◌<◌}
use native.Mathlib.Omega.{arith}
use borrow.Author.Tests.{eqb-true, eq-eqb, leb-true}
use lib.Dec.{eqb, leb}
use lib.ListN.{length, get_or}
use Rattle.bits.proofs.Numbers.{lt-or-le}
use Rattle.bits.proofs.Tests.{and-true-left, and-true-right}
use Rattle.circuit.specs.File.{Reading, refused, legal, read_circuit}
use Rattle.small.specs.Order.{Before}
use Rattle.small.specs.Small.{product, ranges, in_bytes, has_sizes, small_files, small_sizes}
use Rattle.small.specs.Steps.{wire_of, wires, second_of, records_on, two_records, heads, records_of, direct}
use Rattle.small.specs.Theorem.{IsSmall, StandsAt, EverySmallCircuit}
use Rattle.small.proofs.Members.{In, in_map, map-in, in-keep, keep-in, in_place, place_of}
use Rattle.small.proofs.Order.{Rising, Ascending, before-not, rising-one, rising-cons, rising-below, rising-tabulate, ascending-end, ascending-choose, ascending-map, ascending-keep, ascending-same, ascending-places}
use Rattle.small.proofs.Bytes.{bytes-byte, bytes-before}
use Rattle.small.proofs.Gates.{wire-input, wire-other}
use Rattle.small.proofs.Shapes.{direct-in}
use Rattle.small.proofs.Ranges.{Low, product_small, product-ascending, low-ranges, rising-kinds, direct-more}
use Rattle.small.proofs.Whole.{complete, file-small, direct-whole}

-- the wires that a gate reads rise
wires-rise : (I e w : ℕ) → (w ≤ I) ⊎ ((I ≤ e) × (w ≤ I + 1)) → Rising (wires I e w)
unfolding wires
wires-rise I e w h =
    rising-tabulate w (wire_of I e)
    (λ i j a b.
    let p : i < I = ⊎_elim (λ l. omega arith) (λ l. omega arith) h in
    let q = wire-input I e i p in
    ⊎_elim (λ l. let r = wire-input I e j l in omega arith) (λ l. let r = wire-other I e j l in ⊎_elim (λ m. omega arith) (λ m. omega arith) h) (lt-or-le j I))

second-rises : (k : ℕ) (ws : List ℕ) → Rising ws → Rising (second_of k ws)
unfolding second_of
second-rises k ws r = pick (eqb k 3)
  where
    pick : (b : Bool) → Rising (cond b (0 ∷ []) ws)
    pick true = rising-one 0
    pick false = r

-- so the nested choices ascend
records-ascend : (ws : List ℕ) (next : ℕ) (rest : List (List ℕ)) → Rising ws → Ascending rest → Ascending (records_on ws next rest)
unfolding records_on
records-ascend ws next rest r a =
    ascending-choose (1 ∷ 2 ∷ 3 ∷ []) _ rising-kinds (λ k _.
    ascending-choose ws _ r (λ _ _.
    ascending-choose (second_of k ws) _ (second-rises k ws r) (λ _ _.
    ascending-choose (next ∷ []) _ (rising-one next) (λ _ _. a))))

two-ascend : (I h : ℕ) → Ascending (two_records I h)
unfolding two_records
two-ascend I h = pick (eqb h 1)
  where
    pick : (b : Bool) → Ascending (cond b (records_on (wires I 0 I) 2 (records_on (wires I I (I + 1)) 0 ([] ∷ []))) (records_on (wires I (I + 1) (I + 1)) 0 (records_on (wires I 0 I) 1 ([] ∷ []))))
    pick true =
        records-ascend (wires I 0 I) 2 _ (wires-rise I 0 I (inl (omega arith)))
        (records-ascend (wires I I (I + 1)) 0 _ (wires-rise I I (I + 1) (inr (omega arith, omega arith))) ascending-end)
    pick false =
        records-ascend (wires I (I + 1) (I + 1)) 0 _ (wires-rise I (I + 1) (I + 1) (inr (omega arith, omega arith)))
        (records-ascend (wires I 0 I) 1 _ (wires-rise I 0 I (inl (omega arith))) ascending-end)

records-of-ascend : (I G h : ℕ) → Ascending (records_of I G h)
unfolding records_of
records-of-ascend I zero h = ascending-end
records-of-ascend I (suc zero) h = records-ascend (wires I 0 I) 0 _ (wires-rise I 0 I (inl (omega arith))) ascending-end
records-of-ascend I (suc (suc n)) h = two-ascend I h

heads-rise : (G : ℕ) → Rising (heads G)
unfolding heads
heads-rise zero = rising-one 0
heads-rise (suc zero) = rising-one 1
heads-rise (suc (suc n)) = rising-cons 1 2 [] (omega arith) (rising-one 2)

direct-ascends : (I G : ℕ) → Ascending (direct I G)
unfolding direct
direct-ascends I G =
    ascending-choose _ _ (rising-one I) (λ _ _.
    ascending-choose _ _ (rising-one 1) (λ _ _.
    ascending-choose _ _ (rising-one G) (λ _ _.
    ascending-choose _ _ (heads-rise G) (λ h _.
    ascending-choose _ _ (rising-below (I + G)) (λ _ _. records-of-ascend I G h)))))

-- the sizes of the order
pub record Given (I G : ℕ) : Type 0 where
  pub some : 1 ≤ I
  pub few : I ≤ 2
  pub most : G ≤ 2

pub given : (I O G : ℕ) → small_sizes I O G ≡ true → Given I G
unfolding small_sizes
given I O G e =
    let a = and-true-left (eqb I 1 || eqb I 2) (eqb O 1) (and-true-left _ (leb G 2) e) in
    let g = leb-true G 2 (and-true-right ((eqb I 1 || eqb I 2) && eqb O 1) (leb G 2) e) in
    pick (eqb I 1) (eqb I 2) refl refl a g
  where
    pick : (p q : Bool) → eqb I 1 ≡ p → eqb I 2 ≡ q → p || q ≡ true → G ≤ 2 → Given I G
    pick true q a b h g = let n = eqb-true I 1 a in record { some = omega arith; few = omega arith; most = g }
    pick false true a b h g = let n = eqb-true I 2 b in record { some = omega arith; few = omega arith; most = g }
    pick false false a b h g = absurd (let z : ◌≡◌ {A = ℕ} 0 1 = cc in omega arith)

module _ (I G : ℕ) where
  -- the test of the sizes
  small-sizes : (s : List ℕ) → IsSmall I G s → has_sizes I G (read_circuit s) ≡ true
  unfolding has_sizes
  small-sizes s p =
      rw p.reads (ap₂ ◌&&◌ (ap₂ ◌&&◌ (eq-eqb p.circuit.inputs I p.inputs) (eq-eqb (length p.circuit.outputs) 1 p.outputs)) (eq-eqb (length p.circuit.gates) G p.gates))

  sizes-small : (s : List ℕ) → ((i : ℕ) → get_or s i 0 < 256) → has_sizes I G (read_circuit s) ≡ true → IsSmall I G s
  unfolding has_sizes
  sizes-small s b h = pick (read_circuit s) refl h
    where
      pick : (r : Reading) → read_circuit s ≡ r → has_sizes I G r ≡ true → IsSmall I G s
      pick (refused k x) e h = absurd (let z : ◌≡◌ {A = ℕ} 0 1 = cc in omega arith)
      pick (legal c) e h =
          let p = and-true-left (eqb c.inputs I && eqb (length c.outputs) 1) (eqb (length c.gates) G) h in
          record {
            byte = b;
            circuit = c;
            reads = e;
            inputs = eqb-true c.inputs I (and-true-left (eqb c.inputs I) (eqb (length c.outputs) 1) p);
            outputs = eqb-true (length c.outputs) 1 (and-true-right (eqb c.inputs I) (eqb (length c.outputs) 1) p);
            gates = eqb-true (length c.gates) G (and-true-right (eqb c.inputs I && eqb (length c.outputs) 1) (eqb (length c.gates) G) h);
          }

module _ (I G : ℕ) (g : Given I G) where
  abbrev test : List ℕ → Bool
  test s = has_sizes I G (read_circuit s)

  low : Low (ranges I G)
  low = low-ranges I G g.few g.most

  candidate-small : (xs : List ℕ) → In xs (product (ranges I G)) → (i : ℕ) → get_or xs i 0 < 256
  candidate-small xs h = product_small (ranges I G) low xs h

  candidate-bytes : (s : List ℕ) → In s (map in_bytes (product (ranges I G))) → (i : ℕ) → get_or s i 0 < 256
  candidate-bytes s h i =
      let p = map-in in_bytes s (product (ranges I G)) h in
      subst (λ (t : List ℕ). get_or t i 0 < 256) (sym p.1.0) (bytes-byte p.0 i)

  bytes-ascend : (l : List (List ℕ)) → ((xs : List ℕ) → In xs l → In xs (product (ranges I G))) → Ascending l → Ascending (map in_bytes l)
  bytes-ascend l h a = ascending-map in_bytes l (λ s t i j b. bytes-before s t (candidate-small s (h s i)) (candidate-small t (h t j)) b) a

  -- a member of the nested choices is a small circuit's
  direct-small : (xs : List ℕ) → In xs (direct I G) → IsSmall I G (in_bytes xs)
  direct-small xs h =
      let p = direct-in I G xs h in
      let low-xs = candidate-small xs (direct-more I g.some G g.most xs h) in
      file-small I G xs g.some g.few g.most low-xs
      (rw p.same (direct-whole I G p.output p.head p.records g.most p.head_in p.output-low p.records-in))

  -- what is kept of the candidates: the files of the nested choices
  pub small-direct : small_files I G ≡ map in_bytes (direct I G)
  unfolding small_files
  small-direct =
      ascending-same _ _
      (ascending-keep test _ (bytes-ascend (product (ranges I G)) (λ xs h. h) (product-ascending (ranges I G) low)))
      (bytes-ascend (direct I G) (direct-more I g.some G g.most) (direct-ascends I G))
      (λ s h.
      let p = keep-in test s (map in_bytes (product (ranges I G))) h in
      complete I G g.most s (sizes-small I G s (candidate-bytes s p.0) p.1))
      (λ s h.
      let p = map-in in_bytes s (direct I G) h in
      rw p.1.0
      (in-keep test (in_bytes p.0) _ (in_map in_bytes p.0 _ (direct-more I g.some G g.most p.0 p.1.1))
      (small-sizes I G (in_bytes p.0) (direct-small p.0 p.1.1))))

  files-ascend : Ascending (small_files I G)
  unfolding small_files
  files-ascend = ascending-keep test _ (bytes-ascend (product (ranges I G)) (λ xs h. h) (product-ascending (ranges I G) low))

  every : (s : List ℕ) → IsSmall I G s → (place : ℕ) × StandsAt I G s place
  every s p =
      let i : In s (small_files I G) = rw small-direct (complete I G g.most s p) in
      let q = place_of s [] (small_files I G) i in
      (q.0, record { inside = q.1.0; there = q.1.1 })

  no_other : (place : ℕ) → place < length (small_files I G) → IsSmall I G (get_or (small_files I G) place [])
  unfolding small_files
  no_other place h =
      let p = keep-in test _ (map in_bytes (product (ranges I G))) (in_place (small_files I G) [] place h) in
      sizes-small I G _ (candidate-bytes _ p.0) p.1

  upward : (j k : ℕ) → j < k → k < length (small_files I G) → Before (get_or (small_files I G) j []) (get_or (small_files I G) k [])
  upward j k h l = ascending-places (small_files I G) j k files-ascend h l

  not-later : (s : List ℕ) (j k : ℕ) → StandsAt I G s j → StandsAt I G s k → j < k → ⊥
  not-later s j k a b l =
      let q : Before s s = subst (λ (t : List ℕ). Before s t) b.there (subst (λ (t : List ℕ). Before t (get_or (small_files I G) k [])) a.there (upward j k l b.inside)) in
      before-not s s q q

  one_place : (s : List ℕ) (j k : ℕ) → StandsAt I G s j → StandsAt I G s k → j ≡ k
  one_place s j k a b =
      ⊎_elim (λ l. absurd (not-later s j k a b l)) (λ l. ⊎_elim (λ m. absurd (not-later s k j b a m)) (λ m. omega arith) (lt-or-le k j)) (lt-or-le j k)

-- Theorem, every-small-circuit
pub every-small-circuit : EverySmallCircuit
every-small-circuit =
    record {
      all = λ I G e. every I G (given I 1 G e);
      once = λ I G e. one_place I G (given I 1 G e);
      only = λ I G e. no_other I G (given I 1 G e);
      ascending = λ I G e. upward I G (given I 1 G e);
    }
