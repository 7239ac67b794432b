-- Parts of different lengths one after the other, and where each of them stands.
-- Assumes nothing.
use mathlib.Core.Path.{◌≡◌, sym, ap, ◌∙◌}
use mathlib.Core.List.{List, [], ◌++◌, flatten, append_assoc, append-nil}
use mathlib.Core.Logic.{⊎_elim}
use Prim.Native.Nat.{ℕ, zero, suc, ◌+◌, ◌*◌, ◌/◌, ◌%◌, ◌≤◌, ◌<◌}
use native.Mathlib.Nat.{div-add-mod', div-lt_iff_lt-mul, mod-lt}
use native.Mathlib.Omega.{arith}
use lib.ListN.{length, get_or, take, drop, length-append, length-drop}
use lib.Seq.{take_at, drop_at, take_all, take-append-le, drop-append-le, ext_get_or}
use Rattle.bits.specs.Bits.{tabulate}
use Rattle.bits.specs.Bytes.{row_of}
use Rattle.bits.proofs.Numbers.{lt-or-le}
use Rattle.bits.proofs.Rows.{row_fits, row-get_or, flatten-more, length-flatten}
use Rattle.bits.proofs.Tabulate.{length-tabulate, get_d_tabulate}

-- the second of three parts
pub middle : (x y z : List ℕ) (m k : ℕ) → length x ≡ m → length y ≡ k → take k (drop m (x ++ (y ++ z))) ≡ y
middle x y z m k e f = rw (drop_at x (y ++ z) m e) (take_at y z k f)

-- a part ends before the later ones begin, where part j begins at start j and has size j places
pub before : (start size : ℕ → ℕ) → ((j : ℕ) → start (suc j) ≡ start j + size j) → (j m : ℕ) → j < m → start j + size j ≤ start m
before start size more j zero h = absurd (omega arith)
before start size more j (suc m) h =
    ⊎_elim (λ l. omega (arith, before start size more j m l, more m))
    (λ (l : m ≤ j). let q : j ≡ m = omega arith in rw q (omega (arith, more m)))
    (lt-or-le j m)

-- a header and parts f 0, f 1, .. of different lengths, where part j begins at start j
module _ (header : List ℕ) (f : ℕ → List ℕ) (start : ℕ → ℕ) (first : length header ≡ start 0)
    (more : (j : ℕ) → start (suc j) ≡ start j + length (f j)) where
  -- the header and the first m parts
  abbrev front : ℕ → List ℕ
  front m = header ++ flatten (tabulate m f)

  -- one part more
  front-more : (m : ℕ) → front (suc m) ≡ front m ++ f m
  front-more m = ap (λ (t : List ℕ). header ++ t) (sym (flatten-more m f)) ∙ sym (append_assoc header _ _)

  -- part m begins where they end
  pub length-parts : (m : ℕ) → length (front m) ≡ start m
  unfolding flatten
  length-parts zero = ap length (append-nil header) ∙ first
  length-parts (suc m) = ap length (front-more m) ∙ (length-append (front m) (f m) ∙ omega (arith, length-parts m, more m))

  -- part j stands at its place
  pub part_at : (m j : ℕ) → j < m → take (length (f j)) (drop (start j) (front m)) ≡ f j
  part_at zero j h = absurd (omega arith)
  part_at (suc m) j h =
      ap (λ (t : List ℕ). take (length (f j)) (drop (start j) t)) (front-more m)
      ∙ ⊎_elim
      (λ l.
      let b : start j + length (f j) ≤ length (front m) = omega (arith, before start (λ i. length (f i)) more j m l, length-parts m) in
      rw (
        drop-append-le (start j) (front m) (f m) (omega arith),
        take-append-le (length (f j)) (drop (start j) (front m)) (f m) (omega (arith, length-drop (start j) (front m))),
      )
      (part_at m j l))
      (λ l.
      let q : j ≡ m = omega arith in
      rw (q, drop_at (front m) (f m) (start m) (length-parts m)) (take_all (length (f m)) (f m) (omega arith)))
      (lt-or-le j m)

-- strings of n rows of len bytes whose rows are equal are equal
pub ext-rows : (n len : ℕ) (a b : List ℕ) → length a ≡ n * len → length b ≡ n * len
    → ((i : ℕ) → i < n → row_of a len i ≡ row_of b len i) → a ≡ b
ext-rows n len a b la lb h =
    ext_get_or 0 a b (la ∙ sym lb)
    (λ k m.
    let s : k < n * len = omega arith in
    ⊎_elim
    (λ some.
    let i : ℕ = k / len in
    let t : ℕ = k % len in
    let q : i * len + t ≡ k = div-add-mod' k len in
    let x : i < n = (div-lt_iff_lt-mul some).1 s in
    let r : t < len = mod-lt k some in
    let fits : i * len + len ≤ n * len = row_fits n len i x in
    ap (λ (z : ℕ). get_or a z 0) (sym q)
    ∙ (sym (row-get_or a len i t (omega arith) r)
    ∙ (ap (λ (z : List ℕ). get_or z t 0) (h i x)
    ∙ (row-get_or b len i t (omega arith) r ∙ ap (λ (z : ℕ). get_or b z 0) q))))
    (λ none. let z : len ≡ 0 = omega arith in absurd (omega (arith, rw z at s)))
    (lt-or-le 0 len))

-- n rows of len bytes
pub length-rows : (len n : ℕ) (f : ℕ → List ℕ) → ((i : ℕ) → length (f i) ≡ len) → length (flatten (tabulate n f)) ≡ n * len
length-rows len n f h =
    length-flatten len (tabulate n f) (λ i l. ap length (get_d_tabulate n f i [] (omega (arith, length-tabulate n f))) ∙ h i)
    ∙ ap (λ (m : ℕ). m * len) (length-tabulate n f)
