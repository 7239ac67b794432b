-- What the code leaves: fields written one after the other, and the answer at a place.
-- Assumes nothing.
use mathlib.Core.Path.{◌≡◌, refl, sym, ap, ap₂, subst, ◌∙◌}
use mathlib.Core.Bool.{Bool, true, false, cond}
use mathlib.Core.List.{List, [], ◌∷◌, ◌++◌, append_assoc, append-nil}
use mathlib.Core.Logic.{⊎_elim}
use Prim.Native.Nat.{ℕ, zero, suc, ◌+◌, ◌-◌, ◌*◌, ◌/◌, ◌%◌, ◌≤◌, ◌<◌}
use native.Mathlib.Omega.{arith}
use borrow.Author.Tests.{lt-ltb, le-ltb, ne_eqb}
use lib.Dec.{eqb}
use lib.ListN.{length, get_or, length-append, length-map}
use lib.Seq.{sets}
use Rattle.bits.specs.Bytes.{le_bytes}
use Rattle.bits.proofs.Little.{sets-append}
use Rattle.bits.proofs.Numbers.{lt-or-le}
use Rattle.refusal.specs.Outcome.{success, refuses, Outcome}
use Rattle.circuit.specs.Building.{front, builds}
use Rattle.circuit.specs.File.{width}
use Rattle.building.specs.Steps.{four_bytes}
use Rattle.building.proofs.Built.{built, not-built}
use Rattle.building.proofs.Bytes.{at_front}
use Rattle.small.specs.Small.{in_bytes, small_files, small_sizes, has_passed, small_op}
use Rattle.small.specs.declared.Gate.{Gate}
use Rattle.small.specs.Steps.{wire_of, direct, gates_on, kind_at, first_at, second_at, gate_at, record_fields, record_at, front_of, pairs, per_head, count_of, pair_at, fields_at}
use Rattle.small.specs.Theorem.{NeverEmpty, Counts}
use Rattle.small.proofs.Bytes.{bytes-length}
use Rattle.small.proofs.Every.{Given, given, small-direct}
use Rattle.small.proofs.Files.{direct-count, direct-place}
use Rattle.small.proofs.Places.{map_at}

-- fields joined, and four of them
pub bytes-append : (xs ys : List ℕ) → in_bytes (xs ++ ys) ≡ in_bytes xs ++ in_bytes ys
unfolding in_bytes
bytes-append [] ys = refl
bytes-append (x ∷ xs) ys = ap (λ (t : List ℕ). le_bytes width x ++ t) (bytes-append xs ys) ∙ sym (append_assoc (le_bytes width x) (in_bytes xs) (in_bytes ys))

pub four-fields : (a b c d : ℕ) → four_bytes a b c d ≡ in_bytes (a ∷ b ∷ c ∷ d ∷ [])
unfolding four_bytes in_bytes
four-fields a b c d = ap (λ (t : List ℕ). le_bytes width a ++ (le_bytes width b ++ (le_bytes width c ++ t))) (sym (append-nil (le_bytes width d)))

one_field : (a : ℕ) → le_bytes width a ≡ in_bytes (a ∷ [])
unfolding in_bytes
one_field a = sym (append-nil (le_bytes width a))

-- fields written after others
pub after-fields : (out : List ℕ) (k n : ℕ) (xs ys : List ℕ) → n ≡ k + length xs
    → sets (sets out (width * k) (in_bytes xs)) (width * n) (in_bytes ys) ≡ sets out (width * k) (in_bytes (xs ++ ys))
after-fields out k n xs ys e =
    let p : width * n ≡ width * k + length (in_bytes xs) = omega (arith, bytes-length xs) in
    ap (λ (i : ℕ). sets (sets out (width * k) (in_bytes xs)) i (in_bytes ys)) p
    ∙ sym (ap (sets out (width * k)) (bytes-append xs ys) ∙ sets-append (in_bytes xs) (in_bytes ys) out (width * k))

-- the header, and the output wire after it
pub front-written : (out one two : List ℕ) (I G h o : ℕ) → one ≡ sets out (width * 0) (four_bytes I 1 G h) → two ≡ sets one (width * 4) (le_bytes width o)
    → two ≡ sets out 0 (in_bytes (front_of I G h o))
front-written out one two I G h o p q =
    q
    ∙ ap₂ (λ (l t : List ℕ). sets l (width * 4) t) (p ∙ ap (sets out (width * 0)) (four-fields I 1 G h)) (one_field o)
    ∙ after-fields out 0 4 (I ∷ 1 ∷ G ∷ h ∷ []) (o ∷ []) refl

-- the records after the front, and one record after another
pub rest-written : (out one two : List ℕ) (I G h o : ℕ) (t : List ℕ) → one ≡ sets out 0 (in_bytes (front_of I G h o)) → two ≡ sets one (width * 5) (in_bytes t)
    → two ≡ sets out 0 (in_bytes (front_of I G h o ++ t))
rest-written out one two I G h o t p q = q ∙ ap (λ (l : List ℕ). sets l (width * 5) (in_bytes t)) p ∙ after-fields out 0 5 (front_of I G h o) t refl

pub next-written : (out one two : List ℕ) (a b c d : ℕ) (t : List ℕ) → one ≡ sets out (width * 5) (in_bytes (a ∷ b ∷ c ∷ d ∷ [])) → two ≡ sets one (width * 9) (in_bytes t)
    → two ≡ sets out (width * 5) (in_bytes (a ∷ b ∷ c ∷ d ∷ t))
next-written out one two a b c d t p q = q ∙ ap (λ (l : List ℕ). sets l (width * 9) (in_bytes t)) p ∙ after-fields out 5 9 (a ∷ b ∷ c ∷ d ∷ []) t refl

-- gate r, as the code finds it
module _ (I e w r : ℕ) where
  pub pair-gate : (x y : ℕ) → r < 2 * (w * w) → x ≡ wire_of I e (r % (w * w) / w) → y ≡ wire_of I e (r % (w * w) % w)
      → ◌≡◌ {A = Gate} (record { kind = 1 + r / (w * w); a = x; b = y }) (gate_at I e w r)
  unfolding gate_at kind_at first_at second_at
  pair-gate x y h p q = rw (p, q, lt-ltb r (2 * (w * w)) h)

  pub single-gate : (x : ℕ) → 2 * (w * w) ≤ r → x ≡ wire_of I e (r - 2 * (w * w)) → ◌≡◌ {A = Gate} (record { kind = 3; a = x; b = 0 }) (gate_at I e w r)
  unfolding gate_at kind_at first_at second_at
  single-gate x h p = rw (p, le-ltb r (2 * (w * w)) h)

-- its record
gate-record : (I e w r next : ℕ) (g : Gate) → g ≡ gate_at I e w r → record_fields g next ≡ record_at I e w r next
unfolding gate_at record_at
gate-record I e w r next g p = ap (λ (x : Gate). record_fields x next) p

-- the records of both slots
module _ (I h r n : ℕ) (g k : Gate) (out one two : List ℕ) where
  pub pair-up : h ≡ 1 → n ≡ gates_on (I + 1) → g ≡ gate_at I 0 I (r / n) → k ≡ gate_at I I (I + 1) (r % n)
      → one ≡ sets out (width * 5) (in_bytes (record_fields g 2)) → two ≡ sets one (width * 9) (in_bytes (record_fields k 0))
      → two ≡ sets out (width * 5) (in_bytes (pair_at I h r))
  unfolding pair_at
  pair-up e m p q x y =
      next-written out one two _ _ _ _ (record_fields k 0) x y
      ∙ rw e
      (ap (λ (t : List ℕ). sets out (width * 5) (in_bytes t))
      (ap₂ ◌++◌ (gate-record I 0 I (r / n) 2 g p) (gate-record I I (I + 1) (r % n) 0 k q)
      ∙ ap (λ (i : ℕ). record_at I 0 I (r / i) 2 ++ record_at I I (I + 1) (r % i) 0) m))

  pub pair-down : (h ≡ 1 → ⊥) → n ≡ gates_on I → g ≡ gate_at I (I + 1) (I + 1) (r / n) → k ≡ gate_at I 0 I (r % n)
      → one ≡ sets out (width * 5) (in_bytes (record_fields g 0)) → two ≡ sets one (width * 9) (in_bytes (record_fields k 1))
      → two ≡ sets out (width * 5) (in_bytes (pair_at I h r))
  unfolding pair_at
  pair-down e m p q x y =
      next-written out one two _ _ _ _ (record_fields k 1) x y
      ∙ rw (ne_eqb h 1 e)
      (ap (λ (t : List ℕ). sets out (width * 5) (in_bytes t))
      (ap₂ ◌++◌ (gate-record I (I + 1) (I + 1) (r / n) 0 g p) (gate-record I 0 I (r % n) 1 k q)
      ∙ ap (λ (i : ℕ). record_at I (I + 1) (I + 1) (r / i) 0 ++ record_at I 0 I (r % i) 1) m))

-- whole files
module _ (I place : ℕ) (out one two : List ℕ) where
  pub one_written : (n : ℕ) (g : Gate) → n ≡ gates_on I → g ≡ gate_at I 0 I (place % n)
      → one ≡ sets out 0 (in_bytes (front_of I 1 1 (place / n))) → two ≡ sets one (width * 5) (in_bytes (record_fields g 0))
      → two ≡ sets out 0 (in_bytes (fields_at I 1 place))
  unfolding fields_at
  one_written n g m p x y =
      rest-written out one two I 1 1 (place / n) (record_fields g 0) x y
      ∙ ap (λ (t : List ℕ). sets out 0 (in_bytes (front_of I 1 1 (place / n) ++ t))) (gate-record I 0 I (place % n) 0 g p)
      ∙ ap (λ (i : ℕ). sets out 0 (in_bytes (front_of I 1 1 (place / i) ++ record_at I 0 I (place % i) 0))) m

  pub two-written : (n m : ℕ) → n ≡ per_head I → m ≡ pairs I → one ≡ sets out 0 (in_bytes (front_of I 2 (1 + place / n) (place % n / m)))
      → two ≡ sets one (width * 5) (in_bytes (pair_at I (1 + place / n) (place % n % m))) → two ≡ sets out 0 (in_bytes (fields_at I 2 place))
  unfolding fields_at
  two-written n m p q x y =
      rest-written out one two I 2 (1 + place / n) (place % n / m) (pair_at I (1 + place / n) (place % n % m)) x y
      ∙ ap₂ (λ (i j : ℕ). sets out 0 (in_bytes (front_of I 2 (1 + place / i) (place % i / j) ++ pair_at I (1 + place / i) (place % i % j)))) p q

-- the number of files
module _ (I G : ℕ) where
  pub count_none : G ≡ 0 → I ≡ count_of I G
  unfolding count_of
  count_none e = rw e

  pub count-one : (n : ℕ) → G ≡ 1 → n ≡ gates_on I → (I + 1) * n ≡ count_of I G
  unfolding count_of
  count-one n e p = rw (e, p)

  pub count-two : (n : ℕ) → G ≡ 2 → n ≡ per_head I → 2 * n ≡ count_of I G
  unfolding count_of
  count-two n e p = rw (e, p)

-- the length of a file
pair-length : (I h r : ℕ) → length (pair_at I h r) ≡ 8
unfolding pair_at record_at
pair-length I h r = pick (eqb h 1) _ _ _ _ _ _ _ _ _ _ _ _ _ _ _ _
  where
    pick : (b : Bool) (a c d e f g i j k l m n o p q s : ℕ)
        → length (cond b (a ∷ c ∷ d ∷ e ∷ f ∷ g ∷ i ∷ j ∷ []) (k ∷ l ∷ m ∷ n ∷ o ∷ p ∷ q ∷ s ∷ [])) ≡ 8
    pick true a c d e f g i j k l m n o p q s = refl
    pick false a c d e f g i j k l m n o p q s = refl

fields-length : (I G place : ℕ) → G ≤ 2 → length (fields_at I G place) ≡ 5 + 4 * G
unfolding fields_at record_at
fields-length I zero place h = refl
fields-length I (suc zero) place h = refl
fields-length I (suc (suc zero)) place h =
    let j : ℕ = 1 + place / per_head I in
    let r : ℕ = place % per_head I in
    length-append (front_of I 2 j (r / pairs I)) (pair_at I j (r % pairs I)) ∙ ap (λ (n : ℕ). 5 + n) (pair-length I j (r % pairs I))
fields-length I (suc (suc (suc n))) place h = absurd (omega arith)

module _ (I G : ℕ) (g : Given I G) where
  files-count : length (small_files I G) ≡ count_of I G
  files-count = ap length (small-direct I G g) ∙ length-map (direct I G) in_bytes ∙ direct-count I g.some G g.most

  -- the file at a place
  file-at : (place : ℕ) → place < count_of I G → get_or (small_files I G) place [] ≡ in_bytes (fields_at I G place)
  file-at place h =
      ap (λ (l : List (List ℕ)). get_or l place []) (small-direct I G g)
      ∙ map_at in_bytes (direct I G) place (omega (arith, direct-count I g.some G g.most))
      ∙ ap in_bytes (direct-place I g.some G place g.most h)

-- what small answers
module _ (I O G place : ℕ) (out : List ℕ) where
  pub op-beyond : small_sizes I O G ≡ false → small_op I O G place out ≡ refuses 29 (out ∷ [])
  unfolding small_op
  op-beyond e = rw e

  module _ (e : small_sizes I O G ≡ true) (g : Given I G) where
    pub op-passed : count_of I G ≤ place → small_op I O G place out ≡ has_passed out
    unfolding small_op
    op-passed h = rw (e, le-ltb place (length (small_files I G)) (omega (arith, files-count I G g)))

    op-builds : place < count_of I G → small_op I O G place out ≡ builds (in_bytes (fields_at I G place)) out
    unfolding small_op
    op-builds h = rw (e, lt-ltb place (length (small_files I G)) (omega (arith, files-count I G g)), file-at I G g place h)

    module _ (h : place < count_of I G) where
      size : length (in_bytes (fields_at I G place)) ≡ width * (5 + 4 * G)
      size = omega (arith, bytes-length (fields_at I G place), fields-length I G place g.most)

      pub op-short : length out < width * (5 + 4 * G) → small_op I O G place out ≡ refuses 6 (out ∷ [])
      op-short l = op-builds h ∙ not-built (in_bytes (fields_at I G place)) out (omega (arith, size))

      pub op-written : width * (5 + 4 * G) ≤ length out → (new : List ℕ) → new ≡ sets out 0 (in_bytes (fields_at I G place))
          → ◌≡◌ {A = Outcome} (record { answer = success (width * (5 + 4 * G) ∷ []); left = new ∷ [] }) (small_op I O G place out)
      op-written l new n =
          let f : new ≡ front (in_bytes (fields_at I G place)) out = n ∙ at_front (in_bytes (fields_at I G place)) out (omega (arith, size)) in
          ap₂ (λ (k : ℕ) (x : List ℕ). record { answer = success (k ∷ []); left = x ∷ [] }) (sym size) f
          ∙ sym (op-builds h ∙ built (in_bytes (fields_at I G place)) out (omega (arith, size)))

-- a length that is told is that of a file
module _ (I O G place k : ℕ) (out : List ℕ) where
  abbrev Told : Outcome → Type 0
  Told o = o.answer ≡ success (k ∷ [])

  told-refused : (n : ℕ) → Told (refuses n (out ∷ [])) → 20 ≤ k
  told-refused n t = absurd (let z : ◌≡◌ {A = ℕ} 0 1 = cc in omega arith)

  told-passed : Told (has_passed out) → 20 ≤ k
  told-passed t = absurd (let z : ◌≡◌ {A = ℕ} 0 1 = cc in omega arith)

  told-written : (n : ℕ) (new : List ℕ) → 20 ≤ n → Told (record { answer = success (n ∷ []); left = new ∷ [] }) → 20 ≤ k
  told-written n new h t = let e : n ≡ k = cc in omega arith

  told-file : (file : List ℕ) → 20 ≤ length file → Told (builds file out) → 20 ≤ k
  told-file file h t =
      ⊎_elim (λ l. told-refused 6 (subst Told (not-built file out l) t)) (λ l. told-written (length file) (front file out) h (subst Told (built file out l) t))
      (lt-or-le (length out) (length file))

  pub told-long : Told (small_op I O G place out) → 20 ≤ k
  told-long t = pick (small_sizes I O G) refl
    where
      pick : (b : Bool) → small_sizes I O G ≡ b → 20 ≤ k
      pick false e = told-refused 29 (subst Told (op-beyond I O G place out e) t)
      pick true e =
          let g = given I O G e in
          ⊎_elim
          (λ l. told-file (in_bytes (fields_at I G place)) (omega (arith, size I O G place out e g l)) (subst Told (op-builds I O G place out e g l) t))
          (λ l. told-passed (subst Told (op-passed I O G place out e g l) t))
          (lt-or-le place (count_of I G))

-- Theorem, never-empty
pub never-empty : NeverEmpty
never-empty = record { long = told-long }

-- Theorem, counts
pub counts : Counts
unfolding small_sizes count_of gates_on pairs per_head
counts =
    record {
      one_none = files-count 1 0 (given 1 1 0 refl);
      one_one = files-count 1 1 (given 1 1 1 refl);
      one_two = files-count 1 2 (given 1 1 2 refl);
      two_none = files-count 2 0 (given 2 1 0 refl);
      two_one = files-count 2 1 (given 2 1 1 refl);
      two_two = files-count 2 2 (given 2 1 2 refl);
    }
