-- What stands at a place of nested choices: places are numbers whose digits are the choices.
-- Assumes nothing.
use mathlib.Core.Path.{◌≡◌, refl, sym, ap, ap₂, ◌∙◌}
use mathlib.Core.List.{List, [], ◌∷◌, ◌++◌, map}
use mathlib.Core.Logic.{⊎_elim}
use Prim.Native.Nat.{ℕ, zero, suc, ◌+◌, ◌-◌, ◌*◌, ◌/◌, ◌%◌, ◌≤◌, ◌<◌}
use native.Mathlib.Nat.{add-mul, mul_assoc, suc-mul, one-mul, zero-mul, div-add-mod', div-lt_iff_lt-mul, mod-lt, mul-le-mul_right}
use native.Mathlib.Omega.{arith}
use borrow.Author.Tests.{lt-ltb, le-ltb}
use lib.ListN.{length, get_or, length-append, length-map, get_or-append}
use lib.Seq.{get_or-append-add}
use Rattle.bits.proofs.Numbers.{lt-or-le}
use Rattle.bits.proofs.Tabulate.{length-tabulate, get_d_tabulate}
use Rattle.small.specs.Small.{choose}
use Rattle.small.specs.Steps.{wire_of, wires, second_of, records_on, gates_on, kind_at, first_at, second_at, record_at}

pub map_at : (f : List ℕ → List ℕ) (l : List (List ℕ)) (k : ℕ) → k < length l → get_or (map f l) k [] ≡ f (get_or l k [])
map_at f [] k h = absurd (omega arith)
map_at f (x ∷ l) zero h = refl
map_at f (x ∷ l) (suc k) h = map_at f l k (omega arith)

-- each value has n lists after it
module _ (f : ℕ → List (List ℕ)) (n : ℕ) (each : (v : ℕ) → length (f v) ≡ n) where
  pub choose-length : (vs : List ℕ) → length (choose vs f) ≡ length vs * n
  unfolding choose
  choose-length [] = sym (zero-mul n)
  choose-length (v ∷ vs) =
      length-append (map (λ t. v ∷ t) (f v)) (choose vs f)
      ∙ omega (arith, length-map (f v) (λ t. v ∷ t), each v, choose-length vs, suc-mul (length vs) n)

  pub choose-at : (vs : List ℕ) (q r : ℕ) → q < length vs → r < n → get_or (choose vs f) (q * n + r) [] ≡ get_or vs q 0 ∷ get_or (f (get_or vs q 0)) r []
  unfolding choose
  choose-at [] q r a b = absurd (omega arith)
  choose-at (v ∷ vs) zero r a b =
      let e : 0 * n + r ≡ r = omega (arith, zero-mul n) in
      ap (λ (k : ℕ). get_or (map (λ t. v ∷ t) (f v) ++ choose vs f) k []) e
      ∙ get_or-append (map (λ t. v ∷ t) (f v)) (choose vs f) [] r (omega (arith, length-map (f v) (λ t. v ∷ t), each v))
      ∙ map_at (λ t. v ∷ t) (f v) r (omega (arith, each v))
  choose-at (v ∷ vs) (suc q) r a b =
      let e : suc q * n + r ≡ length (map (λ t. v ∷ t) (f v)) + (q * n + r) = omega (arith, length-map (f v) (λ t. v ∷ t), each v, suc-mul q n) in
      ap (λ (k : ℕ). get_or (map (λ t. v ∷ t) (f v) ++ choose vs f) k []) e
      ∙ get_or-append-add (map (λ t. v ∷ t) (f v)) (choose vs f) (q * n + r) []
      ∙ choose-at vs q r (omega arith) b

-- the lists of the first value, and those after them
module _ (v : ℕ) (vs : List ℕ) (f : ℕ → List (List ℕ)) where
  pub head_at : (r : ℕ) → r < length (f v) → get_or (choose (v ∷ vs) f) r [] ≡ v ∷ get_or (f v) r []
  unfolding choose
  head_at r h =
      get_or-append (map (λ t. v ∷ t) (f v)) (choose vs f) [] r (omega (arith, length-map (f v) (λ t. v ∷ t))) ∙ map_at (λ t. v ∷ t) (f v) r h

  pub skip_at : (r : ℕ) → get_or (choose (v ∷ vs) f) (length (f v) + r) [] ≡ get_or (choose vs f) r []
  unfolding choose
  skip_at r =
      ap (λ (k : ℕ). get_or (map (λ t. v ∷ t) (f v) ++ choose vs f) (k + r) []) (sym (length-map (f v) (λ t. v ∷ t)))
      ∙ get_or-append-add (map (λ t. v ∷ t) (f v)) (choose vs f) r []

  pub more-length : length (choose (v ∷ vs) f) ≡ length (f v) + length (choose vs f)
  unfolding choose
  more-length = length-append (map (λ t. v ∷ t) (f v)) (choose vs f) ∙ omega (arith, length-map (f v) (λ t. v ∷ t))

-- one value
pub one-length : (v : ℕ) (f : ℕ → List (List ℕ)) → length (choose (v ∷ []) f) ≡ length (f v)
unfolding choose
one-length v f = more-length v [] f ∙ omega arith

-- a number whose square is not 0
positive : (w : ℕ) → 0 < w * w → 0 < w
positive zero h = absurd (omega (arith, zero-mul 0))
positive (suc w) h = omega arith

-- two digits
pub digits_lt : (a b w n : ℕ) → a < w → b < n → a * n + b < w * n
digits_lt a b w n h l = omega (arith, suc-mul a n, mul-le-mul_right {m = suc a} {n = w} n (omega arith))

-- the digits of a place: of gate r, and of q after it
spread-pair : (k a b w n q r t : ℕ) → k * (w * w) + t ≡ r → a * w + b ≡ t → r * n + q ≡ k * (w * (w * n)) + (a * (w * n) + (b * n + q))
spread-pair k a b w n q r t er et =
    omega (arith, ap (λ (x : ℕ). x * n) er, ap (λ (x : ℕ). x * n) et, add-mul (k * (w * w)) t n, add-mul (a * w) b n, mul_assoc k (w * w) n, mul_assoc a w n, ap (λ (x : ℕ). k * x) (mul_assoc w w n))

spread-single : (a w n q r : ℕ) → 2 * (w * w) + a ≡ r → r * n + q ≡ 2 * (w * (w * n)) + (a * n + q)
spread-single a w n q r er = omega (arith, ap (λ (x : ℕ). x * n) er, add-mul (2 * (w * w)) a n, mul_assoc 2 (w * w) n, mul_assoc w w n)

module _ (I e w next n : ℕ) (rest : List (List ℕ)) (size : length rest ≡ n) where
  abbrev ws : List ℕ
  ws = wires I e w

  -- what follows a kind, and what follows its first wire
  abbrev linked : List (List ℕ)
  linked = choose (next ∷ []) (λ _. rest)

  abbrev after : ℕ → List (List ℕ)
  after kind = choose ws (λ a. choose (second_of kind ws) (λ b. linked))

  linked-length : length linked ≡ n
  linked-length = one-length next (λ _. rest) ∙ size

  wires-length : length ws ≡ w
  unfolding wires
  wires-length = length-tabulate w (wire_of I e)

  wire-at : (i : ℕ) → i < w → get_or ws i 0 ≡ wire_of I e i
  unfolding wires
  wire-at i h = get_d_tabulate w (wire_of I e) i 0 h

  -- XOR and AND: two wires
  row-length : length (choose ws (λ b. linked)) ≡ w * n
  row-length = choose-length (λ b. linked) n (λ _. linked-length) ws ∙ ap (λ (k : ℕ). k * n) wires-length

  pair-length : length (choose ws (λ a. choose ws (λ b. linked))) ≡ w * (w * n)
  pair-length = choose-length (λ a. choose ws (λ b. linked)) (w * n) (λ _. row-length) ws ∙ ap (λ (k : ℕ). k * (w * n)) wires-length

  pair-at : (a b q : ℕ) → a < w → b < w → q < n
      → get_or (choose ws (λ a. choose ws (λ b. linked))) (a * (w * n) + (b * n + q)) [] ≡ wire_of I e a ∷ wire_of I e b ∷ next ∷ get_or rest q []
  pair-at a b q h i j =
      choose-at (λ a. choose ws (λ b. linked)) (w * n) (λ _. row-length) ws a (b * n + q) (omega (arith, wires-length)) (digits_lt b q w n i j)
      ∙ ap₂ ◌∷◌ (wire-at a h)
      (choose-at (λ b. linked) n (λ _. linked-length) ws b q (omega (arith, wires-length)) j
      ∙ ap₂ ◌∷◌ (wire-at b i) (head_at next [] (λ _. rest) q (omega arith)))

  -- INV: one wire, and 0
  single-length : length (choose ws (λ a. choose (0 ∷ []) (λ b. linked))) ≡ w * n
  single-length =
      choose-length (λ a. choose (0 ∷ []) (λ b. linked)) n (λ _. one-length 0 (λ b. linked) ∙ linked-length) ws ∙ ap (λ (k : ℕ). k * n) wires-length

  single-at : (a q : ℕ) → a < w → q < n → get_or (choose ws (λ a. choose (0 ∷ []) (λ b. linked))) (a * n + q) [] ≡ wire_of I e a ∷ 0 ∷ next ∷ get_or rest q []
  single-at a q h j =
      choose-at (λ a. choose (0 ∷ []) (λ b. linked)) n (λ _. one-length 0 (λ b. linked) ∙ linked-length) ws a q (omega (arith, wires-length)) j
      ∙ ap₂ ◌∷◌ (wire-at a h)
      (head_at 0 [] (λ b. linked) q (omega (arith, linked-length)) ∙ ap (λ (l : List ℕ). 0 ∷ l) (head_at next [] (λ _. rest) q (omega arith)))

  -- the three kinds
  after-xor : length (after 1) ≡ w * (w * n)
  unfolding second_of
  after-xor = pair-length

  after-and : length (after 2) ≡ w * (w * n)
  unfolding second_of
  after-and = pair-length

  after-inv : length (after 3) ≡ w * n
  unfolding second_of
  after-inv = single-length

  square : w * w * n ≡ w * (w * n)
  square = mul_assoc w w n

  pub records-length : length (records_on ws next rest) ≡ gates_on w * n
  unfolding records_on gates_on
  records-length =
      more-length 1 (2 ∷ 3 ∷ []) after
      ∙ omega (arith, more-length 2 (3 ∷ []) after, one-length 3 after, after-xor, after-and, after-inv, add-mul (2 * (w * w)) w n, mul_assoc 2 (w * w) n, square)

  -- kind 1 or 2
  two-kinds : (k a b q : ℕ) → k < 2 → a < w → b < w → q < n
      → get_or (choose (1 ∷ 2 ∷ 3 ∷ []) after) (k * (w * (w * n)) + (a * (w * n) + (b * n + q))) [] ≡ (1 + k) ∷ wire_of I e a ∷ wire_of I e b ∷ next ∷ get_or rest q []
  unfolding second_of
  two-kinds zero a b q h i j l =
      let z = a * (w * n) + (b * n + q) in
      let y : z < w * (w * n) = digits_lt a (b * n + q) w (w * n) i (digits_lt b q w n j l) in
      let p : 0 * (w * (w * n)) + z ≡ z = omega (arith, zero-mul (w * (w * n))) in
      ap (λ (k : ℕ). get_or (choose (1 ∷ 2 ∷ 3 ∷ []) after) k []) p
      ∙ head_at 1 (2 ∷ 3 ∷ []) after z (omega (arith, after-xor))
      ∙ ap (λ (t : List ℕ). 1 ∷ t) (pair-at a b q i j l)
  two-kinds (suc zero) a b q h i j l =
      let z = a * (w * n) + (b * n + q) in
      let y : z < w * (w * n) = digits_lt a (b * n + q) w (w * n) i (digits_lt b q w n j l) in
      let p : 1 * (w * (w * n)) + z ≡ length (after 1) + z = omega (arith, one-mul (w * (w * n)), after-xor) in
      ap (λ (k : ℕ). get_or (choose (1 ∷ 2 ∷ 3 ∷ []) after) k []) p
      ∙ skip_at 1 (2 ∷ 3 ∷ []) after z
      ∙ head_at 2 (3 ∷ []) after z (omega (arith, after-and))
      ∙ ap (λ (t : List ℕ). 2 ∷ t) (pair-at a b q i j l)
  two-kinds (suc (suc k)) a b q h i j l = absurd (omega arith)

  -- kind 3
  inv-kind : (a q : ℕ) → a < w → q < n
      → get_or (choose (1 ∷ 2 ∷ 3 ∷ []) after) (2 * (w * (w * n)) + (a * n + q)) [] ≡ 3 ∷ wire_of I e a ∷ 0 ∷ next ∷ get_or rest q []
  unfolding second_of
  inv-kind a q i l =
      let z = a * n + q in
      let y : z < w * n = digits_lt a q w n i l in
      let p : 2 * (w * (w * n)) + z ≡ length (after 1) + (length (after 2) + z) = omega (arith, after-xor, after-and) in
      ap (λ (k : ℕ). get_or (choose (1 ∷ 2 ∷ 3 ∷ []) after) k []) p
      ∙ skip_at 1 (2 ∷ 3 ∷ []) after (length (after 2) + z)
      ∙ skip_at 2 (3 ∷ []) after z
      ∙ head_at 3 [] after z (omega (arith, after-inv))
      ∙ ap (λ (t : List ℕ). 3 ∷ t) (single-at a q i l)

  -- record r, and list q after it
  pub records-at : (r q : ℕ) → r < gates_on w → q < n → get_or (records_on ws next rest) (r * n + q) [] ≡ record_at I e w r next ++ get_or rest q []
  unfolding records_on record_at kind_at first_at second_at gates_on
  records-at r q h l = ⊎_elim (λ m. pairs_of m) (λ m. inv-of m) (lt-or-le r (2 * (w * w)))
    where
      pairs_of : r < 2 * (w * w) → get_or (records_on ws next rest) (r * n + q) [] ≡ record_at I e w r next ++ get_or rest q []
      pairs_of m =
          let some : 0 < w * w = omega arith in
          let more : 0 < w = positive w some in
          let k = r / (w * w) in
          let t = r % (w * w) in
          let a = t / w in
          let b = t % w in
          let k-low : k < 2 = (div-lt_iff_lt-mul {k = w * w} {x = r} {y = 2} some).1 m in
          let t-low : t < w * w = mod-lt r some in
          let a-low : a < w = (div-lt_iff_lt-mul {k = w} {x = t} {y = w} more).1 t-low in
          let b-low : b < w = mod-lt t more in
          let er : k * (w * w) + t ≡ r = div-add-mod' r (w * w) in
          let et : a * w + b ≡ t = div-add-mod' t w in
          let p : r * n + q ≡ k * (w * (w * n)) + (a * (w * n) + (b * n + q)) = spread-pair k a b w n q r t er et in
          rw (lt-ltb r (2 * (w * w)) m)
          (ap (λ (i : ℕ). get_or (choose (1 ∷ 2 ∷ 3 ∷ []) after) i []) p ∙ two-kinds k a b q k-low a-low b-low l)

      inv-of : 2 * (w * w) ≤ r → get_or (records_on ws next rest) (r * n + q) [] ≡ record_at I e w r next ++ get_or rest q []
      inv-of m =
          let a = r - 2 * (w * w) in
          let er : 2 * (w * w) + a ≡ r = omega arith in
          let p : r * n + q ≡ 2 * (w * (w * n)) + (a * n + q) = spread-single a w n q r er in
          rw (le-ltb r (2 * (w * w)) m)
          (ap (λ (i : ℕ). get_or (choose (1 ∷ 2 ∷ 3 ∷ []) after) i []) p ∙ inv-kind a q (omega arith) l)
