-- The bytes of a file that is built field by field: their number, the fields that they hold, one field more, and four.
-- Assumes nothing.
use mathlib.Core.Path.{◌≡◌, refl, sym, ap, ap₂, ◌∙◌}
use mathlib.Core.List.{List, ◌++◌}
use mathlib.Core.Logic.{⊎_elim}
use Prim.Native.Nat.{ℕ, zero, suc, ◌+◌, ◌*◌, ◌%◌, ◌≤◌, ◌<◌}
use native.Mathlib.Omega.{arith}
use native.Mathlib.Numerals.{add-one}
use lib.ListN.{length, drop, length-append}
use lib.Seq.{sets, sets-eq}
use Rattle.bits.specs.Bytes.{le_bytes}
use Rattle.bits.proofs.Little.{length-le_bytes, le_at-le_bytes, sets-append}
use Rattle.bits.proofs.Numbers.{lt-or-le}
use Rattle.circuit.specs.Building.{front}
use Rattle.circuit.specs.Fields.{Fields, field}
use Rattle.circuit.specs.File.{width}
use Rattle.circuit.proofs.Places.{le_at-left, le_at-right}
use Rattle.building.specs.Files.{bytes_of}
use Rattle.building.specs.Steps.{four_bytes}

module _ (x : Fields) where
  -- n fields are so many bytes
  pub bytes-length : (n : ℕ) → length (bytes_of x n) ≡ width * n
  unfolding bytes_of
  bytes-length zero = omega arith
  bytes-length (suc n) = omega (arith, length-append (bytes_of x n) (le_bytes width (x n)), bytes-length n, length-le_bytes width (x n))

  -- and are read again
  pub bytes-field : (n k : ℕ) → k < n → x k < 4294967296 → field width (bytes_of x n) k ≡ x k
  unfolding field bytes_of
  bytes-field zero k h small = absurd (omega arith)
  bytes-field (suc n) k h small =
      ⊎_elim
      (λ l. le_at-left width (bytes_of x n) (le_bytes width (x n)) (width * k) (omega (arith, bytes-length n)) ∙ bytes-field n k l small)
      (λ l.
      let e : k ≡ n = omega arith in
      let m : x n % 4294967296 ≡ x n = omega (arith, small, ap x e) in
      le_at-right width (bytes_of x n) (le_bytes width (x n)) (width * k) 0 (omega (arith, bytes-length n))
      ∙ le_at-le_bytes width (x n)
      ∙ m
      ∙ ap x (sym e))
      (lt-or-le k n)

  -- no field is written yet; and one field more
  pub bytes-none : (out : List ℕ) → out ≡ sets out 0 (bytes_of x 0)
  unfolding bytes_of
  bytes-none out = refl

  pub bytes-more : (out₀ out new : List ℕ) (k y : ℕ) → out ≡ sets out₀ 0 (bytes_of x k) → y ≡ x k → new ≡ sets out (width * k) (le_bytes width y)
      → new ≡ sets out₀ 0 (bytes_of x (k + 1))
  unfolding bytes_of
  bytes-more out₀ out new k y e f n =
      let p : 0 + length (bytes_of x k) ≡ width * k = omega (arith, bytes-length k) in
      n
      ∙ ap₂ (λ (l : List ℕ) (z : ℕ). sets l (width * k) (le_bytes width z)) e f
      ∙ sym
      (ap (λ (i : ℕ). sets out₀ 0 (bytes_of x i)) (add-one k)
      ∙ sets-append (bytes_of x k) (le_bytes width (x k)) out₀ 0
      ∙ ap (λ (i : ℕ). sets (sets out₀ 0 (bytes_of x k)) i (le_bytes width (x k))) p)

-- four fields at once are one after the other
pub four-apart : (out : List ℕ) (at a b c d : ℕ)
    → sets (sets (sets (sets out at (le_bytes width a)) (at + width) (le_bytes width b)) (at + 2 * width) (le_bytes width c)) (at + 3 * width) (le_bytes width d)
    ≡ sets out at (four_bytes a b c d)
unfolding four_bytes
four-apart out at a b c d =
    let A : List ℕ = le_bytes width a in
    let B : List ℕ = le_bytes width b in
    let C : List ℕ = le_bytes width c in
    let D : List ℕ = le_bytes width d in
    let p : at + length A ≡ at + width = omega (arith, length-le_bytes width a) in
    let q : at + width + length B ≡ at + 2 * width = omega (arith, length-le_bytes width b) in
    let r : at + 2 * width + length C ≡ at + 3 * width = omega (arith, length-le_bytes width c) in
    sym
    (sets-append A (B ++ (C ++ D)) out at
    ∙ ap (λ (i : ℕ). sets (sets out at A) i (B ++ (C ++ D))) p
    ∙ sets-append B (C ++ D) (sets out at A) (at + width)
    ∙ ap (λ (i : ℕ). sets (sets (sets out at A) (at + width) B) i (C ++ D)) q
    ∙ sets-append C D (sets (sets out at A) (at + width) B) (at + 2 * width)
    ∙ ap (λ (i : ℕ). sets (sets (sets (sets out at A) (at + width) B) (at + 2 * width) C) i D) r)

-- four fields more
pub bytes-four : (x : Fields) (out₀ out new : List ℕ) (k a b c d : ℕ) → out ≡ sets out₀ 0 (bytes_of x k)
    → a ≡ x k → b ≡ x (k + 1) → c ≡ x (k + 2) → d ≡ x (k + 3) → new ≡ sets out (width * k) (four_bytes a b c d)
    → new ≡ sets out₀ 0 (bytes_of x (k + 4))
bytes-four x out₀ out new k a b c d e fa fb fc fd n =
    let one : List ℕ = sets out (width * k) (le_bytes width a) in
    let two : List ℕ = sets one (width * k + width) (le_bytes width b) in
    let three : List ℕ = sets two (width * k + 2 * width) (le_bytes width c) in
    let e₁ = bytes-more x out₀ out one k a e fa refl in
    let p₁ : width * k + width ≡ width * (k + 1) = omega arith in
    let p₂ : width * k + 2 * width ≡ width * (k + 2) = omega arith in
    let p₃ : width * k + 3 * width ≡ width * (k + 3) = omega arith in
    let e₂ : two ≡ sets out₀ 0 (bytes_of x (k + 2)) =
    bytes-more x out₀ one two (k + 1) b e₁ fb (ap (λ (i : ℕ). sets one i (le_bytes width b)) p₁) ∙ ap (λ (i : ℕ). sets out₀ 0 (bytes_of x i)) (omega arith) in
    let e₃ : three ≡ sets out₀ 0 (bytes_of x (k + 3)) =
    bytes-more x out₀ two three (k + 2) c e₂ fc (ap (λ (i : ℕ). sets two i (le_bytes width c)) p₂) ∙ ap (λ (i : ℕ). sets out₀ 0 (bytes_of x i)) (omega arith) in
    bytes-more x out₀ three new (k + 3) d e₃ fd
    (n ∙ sym (four-apart out (width * k) a b c d) ∙ ap (λ (i : ℕ). sets three i (le_bytes width d)) p₃)
    ∙ ap (λ (i : ℕ). sets out₀ 0 (bytes_of x i)) (omega arith)

-- a file that is stored from the start on stands at the front
pub at_front : (file out : List ℕ) → length file ≤ length out → sets out 0 file ≡ front file out
at_front file out h =
    let z : 0 + length file ≡ length file = omega arith in
    sets-eq file out 0 (omega arith) ∙ ap (λ (i : ℕ). file ++ drop i out) z
