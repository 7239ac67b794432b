-- Four rows of equal length, one after the other: bytes put into each of them.
-- Assumes nothing.
use mathlib.Core.Path.{◌≡◌, refl, sym, ap, ap₂, ◌∙◌}
use mathlib.Core.List.{List, [], ◌∷◌, ◌++◌, append_assoc, append-nil}
use Prim.Native.Nat.{ℕ, zero, suc, ◌+◌, ◌-◌, ◌*◌, ◌≤◌, ◌<◌}
use borrow.Rule.Slice.PartMut.{mid_of, post_of, put_mid, Post-is, mid_len}
use native.Mathlib.Nat.{suc-mul}
use native.Mathlib.Numerals.{add-one}
use native.Mathlib.Omega.{arith}
use lib.ListN.{length, set, take, drop, length-append, length-drop, length-set, drop_of_length-le}
use lib.Seq.{sets, sets-eq, length-sets, drop-drop, drop-set-lt, take-add, take_all, take_at, drop_at, length-take-le}
use Rattle.four_sponges.specs.Steps.{stored, four_rows}

-- four equal rows
pub four-eq : (f g : ℕ → List ℕ) → f 0 ≡ g 0 → f 1 ≡ g 1 → f 2 ≡ g 2 → f 3 ≡ g 3 → four_rows f ≡ four_rows g
four-eq f g a b c d =
    ap₂ (λ (x y : List ℕ). x ++ y) (ap₂ (λ (x y : List ℕ). x ++ y) (ap₂ (λ (x y : List ℕ). x ++ y) a b) c) d

-- a part that is filled
put-sets : (a e : ℕ) (m z : List ℕ) → a ≤ e → e ≤ length m → length z ≡ e - a → put_mid a (e - a) m z ≡ sets m a z
put-sets a e m z h l q =
    let k : e ≡ a + length z = omega (arith, q) in
    sym (append_assoc (take a m) z (post_of a (e - a) m))
    ∙ ap (λ (t : List ℕ). (take a m ++ z) ++ t) (Post-is a e m h ∙ ap (λ (x : ℕ). drop x m) k) ∙ sym (sets-eq z m a (omega (arith, q)))

-- a part from a on is len bytes
pub part-size : (a len : ℕ) (m : List ℕ) → a + len ≤ length m → length (mid_of a (a + len - a) m) ≡ len
part-size a len m h = mid_len a (a + len) m h ∙ omega arith

-- and bytes put in its place are written there
pub put-part : (a len : ℕ) (m z : List ℕ) → a + len ≤ length m → length z ≡ len → put_mid a (a + len - a) m z ≡ sets m a z
put-part a len m z h e = put-sets a (a + len) m z (omega arith) h (e ∙ omega arith)

sets-cons : (x : ℕ) (M : List ℕ) (i : ℕ) (v : List ℕ) → sets (x ∷ M) (suc i) v ≡ x ∷ sets M i v
sets-cons x M i [] = refl
sets-cons x M i (y ∷ v) = sets-cons x (set M i y) (suc i) v

-- bytes put after a first part
sets-right : (A B : List ℕ) (i k : ℕ) (v : List ℕ) → k ≡ length A + i → sets (A ++ B) k v ≡ A ++ sets B i v
sets-right [] B i k v e = let q : k ≡ i = omega arith in ap (λ (n : ℕ). sets B n v) q
sets-right (x ∷ A) B i k v e =
    let q : k ≡ suc (length A + i) = omega arith in
    ap (λ (n : ℕ). sets (x ∷ (A ++ B)) n v) q ∙ sets-cons x (A ++ B) (length A + i) v ∙ ap (λ (t : List ℕ). x ∷ t) (sets-right A B i (length A + i) v refl)

set-left : (A B : List ℕ) (i x : ℕ) → i < length A → set (A ++ B) i x ≡ set A i x ++ B
set-left [] B i x h = absurd (omega arith)
set-left (y ∷ A) B zero x h = refl
set-left (y ∷ A) B (suc i) x h = ap (λ (t : List ℕ). y ∷ t) (set-left A B i x (omega arith))

-- bytes put into the first part
sets-left : (A B : List ℕ) (i : ℕ) (v : List ℕ) → i + length v ≤ length A → sets (A ++ B) i v ≡ sets A i v ++ B
sets-left A B i [] h = refl
sets-left A B i (x ∷ v) h =
    ap (λ (t : List ℕ). sets t (suc i) v) (set-left A B i x (omega arith)) ∙ sets-left (set A i x) B (suc i) v (omega (arith, length-set A i x))

-- one row more
pub stored-turn : (f : ℕ → List ℕ) (start len k : ℕ) (rows₀ rows z : List ℕ) → rows ≡ stored f start len k rows₀ → z ≡ f k
    → sets rows (k * len + start) z ≡ stored f start len (k + 1) rows₀
unfolding stored
stored-turn f start len k rows₀ rows z e d = rw add-one (ap₂ (λ (x y : List ℕ). sets x (k * len + start) y) e d)

-- what stands after bytes that are put is as it was
pub sets-after : (m : List ℕ) (i : ℕ) (v : List ℕ) (k : ℕ) → i + length v ≤ k → drop k (sets m i v) ≡ drop k m
sets-after m i [] k h = refl
sets-after m i (x ∷ v) k h = sets-after (set m i x) (suc i) v k (omega arith) ∙ drop-set-lt k m i x (omega arith)

-- the rows from row k on are as they were
pub stored-left : (f : ℕ → List ℕ) (start len : ℕ) → ((k : ℕ) → start + length (f k) ≤ len) → (k : ℕ) (rows : List ℕ)
    → drop (k * len) (stored f start len k rows) ≡ drop (k * len) rows
unfolding stored
stored-left f start len fits zero rows = refl
stored-left f start len fits (suc k) rows =
    let S : List ℕ = stored f start len k rows in
    let e : suc k * len ≡ k * len + len = suc-mul k len in
    sets-after S (k * len + start) (f k) (suc k * len) (omega (arith, e, fits k)) ∙ ap (λ (n : ℕ). drop n S) e ∙ sym (drop-drop len (k * len) S)
    ∙ ap (drop len) (stored-left f start len fits k rows) ∙ drop-drop len (k * len) rows ∙ ap (λ (n : ℕ). drop n rows) (sym e)

-- row k of four
module _ (len : ℕ) (g : ℕ → List ℕ) (size : (k : ℕ) → k < 4 → length (g k) ≡ len) where
  nested : four_rows g ≡ g 0 ++ (g 1 ++ (g 2 ++ g 3))
  nested = append_assoc (g 0 ++ g 1) (g 2) (g 3) ∙ append_assoc (g 0) (g 1) (g 2 ++ g 3)

  drop-1 : drop (1 * len) (four_rows g) ≡ g 1 ++ (g 2 ++ g 3)
  drop-1 =
      let e : 1 * len ≡ len = omega arith in
      ap₂ (λ (n : ℕ) (t : List ℕ). drop n t) e nested ∙ drop_at (g 0) (g 1 ++ (g 2 ++ g 3)) len (size 0 (omega arith))

  drop-2 : drop (2 * len) (four_rows g) ≡ g 2 ++ g 3
  drop-2 =
      let e : 2 * len ≡ 1 * len + len = omega arith in
      ap (λ (n : ℕ). drop n (four_rows g)) e ∙ sym (drop-drop len (1 * len) (four_rows g)) ∙ ap (drop len) drop-1 ∙ drop_at (g 1) (g 2 ++ g 3) len (size 1 (omega arith))

  drop-3 : drop (3 * len) (four_rows g) ≡ g 3
  drop-3 =
      let e : 3 * len ≡ 2 * len + len = omega arith in
      ap (λ (n : ℕ). drop n (four_rows g)) e ∙ sym (drop-drop len (2 * len) (four_rows g)) ∙ ap (drop len) drop-2 ∙ drop_at (g 2) (g 3) len (size 2 (omega arith))

  pub row-four : (k : ℕ) → k < 4 → take len (drop (k * len) (four_rows g)) ≡ g k
  row-four zero h =
      let e : 0 * len ≡ 0 = omega arith in
      ap (λ (n : ℕ). take len (drop n (four_rows g))) e ∙ ap (take len) nested ∙ take_at (g 0) (g 1 ++ (g 2 ++ g 3)) len (size 0 (omega arith))
  row-four (suc zero) h = ap (take len) drop-1 ∙ take_at (g 1) (g 2 ++ g 3) len (size 1 (omega arith))
  row-four (suc (suc zero)) h = ap (take len) drop-2 ∙ take_at (g 2) (g 3) len (size 2 (omega arith))
  row-four (suc (suc (suc zero))) h = ap (take len) drop-3 ∙ take_all len (g 3) (omega (arith, size 3 (omega arith)))
  row-four (suc (suc (suc (suc k)))) h = absurd (omega arith)

-- bytes put into each row
module _ (len start : ℕ) (g f : ℕ → List ℕ) (size : (k : ℕ) → k < 4 → length (g k) ≡ len) (fits : (k : ℕ) → start + length (f k) ≤ len) where
  changed : ℕ → List ℕ
  changed k = sets (g k) start (f k)

  changed-size : (k : ℕ) → k < 4 → length (changed k) ≡ len
  unfolding changed
  changed-size k h = length-sets (g k) start (f k) ∙ size k h

  two_size : length (changed 0 ++ g 1) ≡ len + len
  two_size = length-append (changed 0) (g 1) ∙ omega (arith, changed-size 0 (omega arith), size 1 (omega arith))

  two-done : length (changed 0 ++ changed 1) ≡ len + len
  two-done = length-append (changed 0) (changed 1) ∙ omega (arith, changed-size 0 (omega arith), changed-size 1 (omega arith))

  three-size : length (changed 0 ++ changed 1 ++ g 2) ≡ len + len + len
  three-size = length-append (changed 0 ++ changed 1) (g 2) ∙ omega (arith, two-done, size 2 (omega arith))

  three-done : length (changed 0 ++ changed 1 ++ changed 2) ≡ len + len + len
  three-done = length-append (changed 0 ++ changed 1) (changed 2) ∙ omega (arith, two-done, changed-size 2 (omega arith))

  two-first : length (g 0 ++ g 1) ≡ len + len
  two-first = length-append (g 0) (g 1) ∙ omega (arith, size 0 (omega arith), size 1 (omega arith))

  three-first : length (g 0 ++ g 1 ++ g 2) ≡ len + len + len
  three-first = length-append (g 0 ++ g 1) (g 2) ∙ omega (arith, two-first, size 2 (omega arith))

  three-next : length (changed 0 ++ g 1 ++ g 2) ≡ len + len + len
  three-next = length-append (changed 0 ++ g 1) (g 2) ∙ omega (arith, two_size, size 2 (omega arith))

  row-0 : sets (four_rows g) (0 * len + start) (f 0) ≡ changed 0 ++ g 1 ++ g 2 ++ g 3
  unfolding changed
  row-0 =
      let e : 0 * len + start ≡ start = omega arith in
      ap (λ (n : ℕ). sets (four_rows g) n (f 0)) e
      ∙ sets-left (g 0 ++ g 1 ++ g 2) (g 3) start (f 0) (omega (arith, three-first, fits 0))
      ∙ ap (λ (t : List ℕ). t ++ g 3)
      (sets-left (g 0 ++ g 1) (g 2) start (f 0) (omega (arith, two-first, fits 0))
      ∙ ap (λ (t : List ℕ). t ++ g 2) (sets-left (g 0) (g 1) start (f 0) (omega (arith, size 0 (omega arith), fits 0))))

  row-1 : sets (changed 0 ++ g 1 ++ g 2 ++ g 3) (1 * len + start) (f 1) ≡ changed 0 ++ changed 1 ++ g 2 ++ g 3
  unfolding changed
  row-1 =
      sets-left (changed 0 ++ g 1 ++ g 2) (g 3) (1 * len + start) (f 1) (omega (arith, three-next, fits 1))
      ∙ ap (λ (t : List ℕ). t ++ g 3)
      (sets-left (changed 0 ++ g 1) (g 2) (1 * len + start) (f 1) (omega (arith, two_size, fits 1))
      ∙ ap (λ (t : List ℕ). t ++ g 2) (sets-right (changed 0) (g 1) start (1 * len + start) (f 1) (omega (arith, changed-size 0 (omega arith)))))

  row-2 : sets (changed 0 ++ changed 1 ++ g 2 ++ g 3) (2 * len + start) (f 2) ≡ changed 0 ++ changed 1 ++ changed 2 ++ g 3
  unfolding changed
  row-2 =
      sets-left (changed 0 ++ changed 1 ++ g 2) (g 3) (2 * len + start) (f 2) (omega (arith, three-size, fits 2))
      ∙ ap (λ (t : List ℕ). t ++ g 3) (sets-right (changed 0 ++ changed 1) (g 2) start (2 * len + start) (f 2) (omega (arith, two-done)))

  row-3 : sets (changed 0 ++ changed 1 ++ changed 2 ++ g 3) (3 * len + start) (f 3) ≡ changed 0 ++ changed 1 ++ changed 2 ++ changed 3
  unfolding changed
  row-3 = sets-right (changed 0 ++ changed 1 ++ changed 2) (g 3) start (3 * len + start) (f 3) (omega (arith, three-done))

  pub stored-four : stored f start len 4 (four_rows g) ≡ four_rows (λ k. sets (g k) start (f k))
  unfolding stored changed
  stored-four =
      ap (λ (t : List ℕ). sets (sets (sets t (1 * len + start) (f 1)) (2 * len + start) (f 2)) (3 * len + start) (f 3)) row-0
      ∙ ap (λ (t : List ℕ). sets (sets t (2 * len + start) (f 2)) (3 * len + start) (f 3)) row-1
      ∙ ap (λ (t : List ℕ). sets t (3 * len + start) (f 3)) row-2 ∙ row-3

-- bytes put after those that stand in a row already
pub row_more : (U W w : List ℕ) (i m : ℕ) → length U ≡ i → length w ≡ m → i + m ≤ length W → sets (U ++ drop i W) i w ≡ (U ++ w) ++ drop (i + m) W
row_more U W w i m u l h =
    let d : length (drop i W) ≡ _ = length-drop i W in
    sets-right U (drop i W) 0 i w (omega (arith, u))
    ∙ ap (λ (t : List ℕ). U ++ t) (sets-eq w (drop i W) 0 (omega (arith, d, l)) ∙ ap (λ (n : ℕ). w ++ drop n (drop i W)) (let e : 0 + length w ≡ m = omega (arith, l) in e) ∙ ap (λ (t : List ℕ). w ++ t) (drop-drop m i W))
    ∙ sym (append_assoc U w (drop (i + m) W))

-- row k of four
abbrev pub row_in : ℕ → List ℕ → ℕ → List ℕ
row_in len rows k = take len (drop (k * len) rows)

pub row-size : (len : ℕ) (rows : List ℕ) (k : ℕ) → k < 4 → length rows ≡ 4 * len → length (row_in len rows k) ≡ len
row-size len rows zero h e = length-take-le len (drop (0 * len) rows) (omega (arith, length-drop (0 * len) rows))
row-size len rows (suc zero) h e = length-take-le len (drop (1 * len) rows) (omega (arith, length-drop (1 * len) rows))
row-size len rows (suc (suc zero)) h e = length-take-le len (drop (2 * len) rows) (omega (arith, length-drop (2 * len) rows))
row-size len rows (suc (suc (suc zero))) h e = length-take-le len (drop (3 * len) rows) (omega (arith, length-drop (3 * len) rows))
row-size len rows (suc (suc (suc (suc k)))) h e = absurd (omega arith)

-- they are the four rows
pub rows_whole : (len : ℕ) (rows : List ℕ) → length rows ≡ 4 * len → four_rows (row_in len rows) ≡ rows
rows_whole len rows e =
    let a : len + len ≡ 2 * len = omega arith in
    let b : 2 * len + len ≡ 3 * len = omega arith in
    let c : 3 * len + len ≡ 4 * len = omega arith in
    let z : take len (drop (0 * len) rows) ≡ take len rows = ap (λ (n : ℕ). take len (drop n rows)) (let q : 0 * len ≡ 0 = omega arith in q) in
    let o : drop (1 * len) rows ≡ drop len rows = ap (λ (n : ℕ). drop n rows) (let q : 1 * len ≡ len = omega arith in q) in
    let two : take len rows ++ take len (drop len rows) ≡ take (2 * len) rows = sym (take-add len len rows) ∙ ap (λ (n : ℕ). take n rows) a in
    let three : take (2 * len) rows ++ take len (drop (2 * len) rows) ≡ take (3 * len) rows = sym (take-add (2 * len) len rows) ∙ ap (λ (n : ℕ). take n rows) b in
    let all : take (3 * len) rows ++ take len (drop (3 * len) rows) ≡ rows =
    sym (take-add (3 * len) len rows) ∙ ap (λ (n : ℕ). take n rows) c ∙ take_all (4 * len) rows (omega (arith, e)) in
    ap₂ (λ (x y : List ℕ). x ++ take len y ++ take len (drop (2 * len) rows) ++ take len (drop (3 * len) rows)) z o
    ∙ ap (λ (t : List ℕ). t ++ take len (drop (2 * len) rows) ++ take len (drop (3 * len) rows)) two
    ∙ ap (λ (t : List ℕ). t ++ take len (drop (3 * len) rows)) three ∙ all

-- a whole row
pub sets-whole : (v l : List ℕ) → length v ≡ length l → sets l 0 v ≡ v
sets-whole v l e =
    sets-eq v l 0 (omega (arith, e)) ∙ ap (λ (t : List ℕ). v ++ t) (drop_of_length-le l {i = 0 + length v} (omega (arith, e))) ∙ append-nil v

-- four whole rows
pub stored-whole : (f : ℕ → List ℕ) (len : ℕ) (rows : List ℕ) → length rows ≡ 4 * len → ((k : ℕ) → 0 + length (f k) ≤ len)
    → ((k : ℕ) → k < 4 → length (f k) ≡ len) → stored f 0 len 4 rows ≡ four_rows f
stored-whole f len rows e fits size =
    let own : (k : ℕ) → k < 4 → length (row_in len rows k) ≡ len = λ k h. row-size len rows k h e in
    let one : (k : ℕ) → k < 4 → sets (row_in len rows k) 0 (f k) ≡ f k = λ k h. sets-whole (f k) (row_in len rows k) (size k h ∙ sym (own k h)) in
    ap (stored f 0 len 4) (sym (rows_whole len rows e)) ∙ stored-four len 0 (row_in len rows) f own fits
    ∙ four-eq (λ k. sets (row_in len rows k) 0 (f k)) f (one 0 (omega arith)) (one 1 (omega arith)) (one 2 (omega arith)) (one 3 (omega arith))
