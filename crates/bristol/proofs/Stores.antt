-- Stores of fields and records into a list, and what it then holds.
-- Assumes nothing.
use mathlib.Core.Path.{◌≡◌, refl, sym, ap, ap₂, ◌∙◌}
use mathlib.Core.Bool.{cond}
use mathlib.Core.List.{List, ◌++◌, flatten, append_assoc}
use Prim.Native.Nat.{ℕ, zero, suc, ◌+◌, ◌-◌, ◌*◌, ◌%◌, ◌≤◌, ◌<◌}
use native.Mathlib.Nat.{suc-mul, suc-add}
use native.Mathlib.Numerals.{add-one}
use native.Mathlib.Omega.{arith}
use lib.Dec.{eqb}
use lib.ListN.{length, take, drop, length-append}
use lib.Seq.{sets, sets-eq, length-sets, take_at, drop_at, drop-append-add, drop-drop, take-add}
use borrow.Author.Tests.{eq-eqb, ne_eqb}
use Rattle.bits.specs.Bits.{tabulate}
use Rattle.bits.specs.Bytes.{le_bytes}
use Rattle.bits.proofs.Little.{length-le_bytes, le_bytes-mod, sets-append}
use Rattle.bits.proofs.Rows.{flatten-more}
use Rattle.bits.proofs.Tabulate.{tabulate-cong}
use Rattle.circuit.specs.File.{width}
use Rattle.circuit.specs.Steps.{record_size, output_place}
use Rattle.building.specs.Steps.{four_bytes}

-- a part that is put in the place of another as long
pub sets-at : (l p q s r : List ℕ) (i : ℕ) → l ≡ p ++ (q ++ s) → length p ≡ i → length q ≡ length r → sets l i r ≡ p ++ (r ++ s)
sets-at l p q s r i e a b =
    let n = ap length e ∙ length-append p (q ++ s) in
    let m = length-append q s in
    sets-eq r l i (omega arith)
    ∙ ap₂ (λ (x y : List ℕ). x ++ r ++ y) (ap (take i) e ∙ take_at p (q ++ s) i a)
    (ap (drop (i + length r)) e ∙ ap (λ (k : ℕ). drop (k + length r) (p ++ (q ++ s))) (sym a) ∙ drop-append-add p (q ++ s) (length r) ∙ drop_at q s (length r) b)
    ∙ append_assoc p r s

-- of a number above a field its low 32 bits are written
pub four_low : (a b c d : ℕ) → four_bytes (a % 4294967296) (b % 4294967296) (c % 4294967296) (d % 4294967296) ≡ four_bytes a b c d
unfolding four_bytes
four_low a b c d = rw (le_bytes-mod width a, le_bytes-mod width b, le_bytes-mod width c, le_bytes-mod width d)

-- parts of w bytes each
module _ (w : ℕ) where
  pub parts-length : (n : ℕ) (f : ℕ → List ℕ) → ((j : ℕ) → j < n → length (f j) ≡ w) → length (flatten (tabulate n f)) ≡ n * w
  unfolding flatten
  parts-length zero f e = omega arith
  parts-length (suc n) f e =
      rw length-append (omega (arith, parts-length n (λ j. f (suc j)) (λ j h. e (suc j) (omega arith)), e 0 (omega arith), suc-mul n w))

  -- any list of so many parts
  pub parts-of : (n : ℕ) (l : List ℕ) → flatten (tabulate n (λ k. take w (drop (k * w) l))) ≡ take (n * w) l
  unfolding flatten
  parts-of zero l = ap (λ (k : ℕ). take k l) z
    where
      z : 0 ≡ 0 * w
      z = omega arith
  parts-of (suc n) l =
      let first : drop (0 * w) l ≡ l = ap (λ (k : ℕ). drop k l) z in
      ap₂ (λ (a b : List ℕ). take w a ++ b) first
      (ap flatten (tabulate-cong n (λ k. take w (drop (suc k * w) l)) (λ k. take w (drop (k * w) (drop w l)))
      (λ k h. ap (take w) (ap (λ (i : ℕ). drop i l) (more k) ∙ sym (drop-drop (k * w) w l))))
      ∙ parts-of n (drop w l))
      ∙ sym (ap (λ (k : ℕ). take k l) (more n) ∙ take-add w (n * w) l)
    where
      z : 0 * w ≡ 0
      z = omega arith

      more : (k : ℕ) → suc k * w ≡ w + k * w
      more k = suc-mul k w ∙ omega arith

-- the parts before one, that one, and those after it
pub parts-split : (n j : ℕ) (f : ℕ → List ℕ) → j < n
    → flatten (tabulate n f) ≡ flatten (tabulate j f) ++ (f j ++ flatten (tabulate (n - suc j) (λ k. f (suc j + k))))
unfolding flatten
parts-split zero j f h = absurd (omega arith)
parts-split (suc n) zero f h =
    let p : suc n - 1 ≡ n = omega arith in
    rw p (ap (λ (r : List ℕ). f 0 ++ r) (ap flatten (tabulate-cong n (λ k. f (suc k)) (λ k. f (1 + k)) (λ k l. ap f (sym (one k))))))
  where
    one : (k : ℕ) → 1 + k ≡ suc k
    one k = omega arith
parts-split (suc n) (suc j) f h =
    let p : suc n - suc (suc j) ≡ n - suc j = omega arith in
    rw p
    (ap (λ (r : List ℕ). f 0 ++ r)
    (parts-split n j (λ k. f (suc k)) (omega arith)
    ∙ ap (λ (r : List ℕ). flatten (tabulate j (λ k. f (suc k))) ++ (f (suc j) ++ r))
    (ap flatten (tabulate-cong (n - suc j) (λ k. f (suc (suc j + k))) (λ k. f (suc (suc j) + k)) (λ k l. ap f (sym (suc-add (suc j) k))))))
    ∙ sym (append_assoc (f 0) (flatten (tabulate j (λ k. f (suc k)))) _))

-- f, with r at place j
unfoldable pub put_at : (ℕ → List ℕ) → ℕ → List ℕ → ℕ → List ℕ
put_at f j r k = cond (eqb k j) r (f k)

pub put-here : (f : ℕ → List ℕ) (j : ℕ) (r : List ℕ) (k : ℕ) → k ≡ j → put_at f j r k ≡ r
unfolding put_at
put-here f j r k e = rw (eq-eqb k j e)

pub put_other : (f : ℕ → List ℕ) (j : ℕ) (r : List ℕ) (k : ℕ) → (k ≡ j → ⊥) → put_at f j r k ≡ f k
unfolding put_at
put_other f j r k n = rw (ne_eqb k j n)

-- one of the parts put anew
pub put-part : (a c : List ℕ) (n : ℕ) (f : ℕ → List ℕ) (j : ℕ) (r : List ℕ) (at : ℕ) → j < n → ((k : ℕ) → k < n → length (f k) ≡ record_size) → length r ≡ record_size
    → at ≡ length a + record_size * j → sets (a ++ (flatten (tabulate n f) ++ c)) at r ≡ a ++ (flatten (tabulate n (put_at f j r)) ++ c)
put-part a c n f j r at h e g p =
    let before = flatten (tabulate j f) in
    let after = flatten (tabulate (n - suc j) (λ k. f (suc j + k))) in
    let len : length before ≡ j * record_size = parts-length record_size j f (λ k l. e k (omega arith)) in
    let whole : a ++ (flatten (tabulate n f) ++ c) ≡ (a ++ before) ++ (f j ++ (after ++ c)) =
    ap (λ (l : List ℕ). a ++ (l ++ c)) (parts-split n j f h)
    ∙ ap (λ (l : List ℕ). a ++ l) (append_assoc before (f j ++ after) c ∙ ap (λ (l : List ℕ). before ++ l) (append_assoc (f j) after c))
    ∙ sym (append_assoc a before (f j ++ (after ++ c))) in
    let same-before : flatten (tabulate j (put_at f j r)) ≡ before = ap flatten (tabulate-cong j (put_at f j r) f (λ k l. put_other f j r k (λ q. omega arith))) in
    let same_after : flatten (tabulate (n - suc j) (λ k. put_at f j r (suc j + k))) ≡ after =
    ap flatten (tabulate-cong (n - suc j) (λ k. put_at f j r (suc j + k)) (λ k. f (suc j + k)) (λ k l. put_other f j r (suc j + k) (λ q. omega arith))) in
    let anew : flatten (tabulate n (put_at f j r)) ≡ before ++ (r ++ after) =
    parts-split n j (put_at f j r) h
    ∙ ap₂ (λ (x y : List ℕ). x ++ (put_at f j r j ++ y)) same-before same_after
    ∙ ap (λ (x : List ℕ). before ++ (x ++ after)) (put-here f j r j refl) in
    sets-at _ (a ++ before) (f j) (after ++ c) r at whole (omega (arith, length-append a before)) (e j h ∙ sym g)
    ∙ append_assoc a before (r ++ (after ++ c))
    ∙ sym
    (ap (λ (l : List ℕ). a ++ (l ++ c)) anew
    ∙ ap (λ (l : List ℕ). a ++ l) (append_assoc before (r ++ after) c ∙ ap (λ (l : List ℕ). before ++ l) (append_assoc r after c)))

-- what is known after j of the output wires
pub record Outputs (out₀ : List ℕ) (n first : ℕ) (out : List ℕ) (j : ℕ) : Type 0 where
  pub few : j ≤ n
  pub room : length out ≡ length out₀
  pub stored : out ≡ sets out₀ (output_place 0) (flatten (tabulate j (λ k. le_bytes width (first + k))))

module _ (out₀ : List ℕ) (n first : ℕ) where
  pub outputs-start : Outputs out₀ n first out₀ 0
  unfolding flatten
  outputs-start = record { few = omega arith; room = refl; stored = refl }

  pub outputs-more : (out : List ℕ) (j : ℕ) → Outputs out₀ n first out j → j < n → (at : ℕ) → at ≡ output_place j → (new : List ℕ)
      → new ≡ sets out at (le_bytes width ((first + j) % 4294967296))
      → Outputs out₀ n first new (j + 1)
  outputs-more out j k h at a new e =
      let f : ℕ → List ℕ = λ k. le_bytes width (first + k) in
      let len : length (flatten (tabulate j f)) ≡ j * width = parts-length width j f (λ k h. length-le_bytes width (first + k)) in
      let p : output_place 0 + length (flatten (tabulate j f)) ≡ output_place j = omega arith in
      record {
        few = omega arith;
        room = ap length e ∙ length-sets out at (le_bytes width ((first + j) % 4294967296)) ∙ k.room;
        stored =
            e ∙ ap₂ (sets out) a (le_bytes-mod width (first + j))
            ∙ ap (λ (x : List ℕ). sets x (output_place j) (f j)) k.stored
            ∙ sym (ap (λ (i : ℕ). sets out₀ (output_place 0) (flatten (tabulate i f))) (add-one j) ∙ ap (sets out₀ (output_place 0)) (sym (flatten-more j f)) ∙ sets-append (flatten (tabulate j f)) (f j) out₀ (output_place 0)
            ∙ ap (λ (i : ℕ). sets (sets out₀ (output_place 0) (flatten (tabulate j f))) i (f j)) p);
      }

  pub outputs-all : (out : List ℕ) (j : ℕ) → Outputs out₀ n first out j → n ≤ j → out ≡ sets out₀ (output_place 0) (flatten (tabulate n (λ k. le_bytes width (first + k))))
  outputs-all out j k h =
      let e : j ≡ n = omega (arith, k.few) in
      k.stored ∙ ap (λ (i : ℕ). sets out₀ (output_place 0) (flatten (tabulate i (λ k. le_bytes width (first + k))))) e
