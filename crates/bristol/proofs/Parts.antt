-- The bytes of some fields, one by one and in fours.
-- Assumes nothing.
use mathlib.Core.Path.{◌≡◌, sym, ap, ◌∙◌}
use mathlib.Core.List.{List, ◌++◌, flatten, append_assoc, append-nil}
use Prim.Native.Nat.{ℕ, zero, suc, ◌+◌, ◌*◌}
use native.Mathlib.Omega.{arith}
use Rattle.bits.specs.Bits.{tabulate}
use Rattle.bits.specs.Bytes.{le_bytes}
use Rattle.bits.proofs.Rows.{flatten-more}
use Rattle.circuit.specs.Fields.{Fields}
use Rattle.circuit.specs.File.{width}
use Rattle.building.specs.Files.{bytes_of}
use Rattle.building.specs.Steps.{four_bytes}

module _ (x : Fields) where
  -- four fields at k
  abbrev pub four_at : ℕ → List ℕ
  four_at k = four_bytes (x k) (x (suc k)) (x (suc (suc k))) (x (suc (suc (suc k))))

  pub four-more : (k : ℕ) → bytes_of x (suc (suc (suc (suc k)))) ≡ bytes_of x k ++ four_at k
  unfolding bytes_of four_bytes
  four-more k =
      let b : List ℕ = bytes_of x k in
      let v₀ : List ℕ = le_bytes width (x k) in
      let v₁ : List ℕ = le_bytes width (x (suc k)) in
      let v₂ : List ℕ = le_bytes width (x (suc (suc k))) in
      let v₃ : List ℕ = le_bytes width (x (suc (suc (suc k)))) in
      append_assoc ((b ++ v₀) ++ v₁) v₂ v₃ ∙ append_assoc (b ++ v₀) v₁ (v₂ ++ v₃) ∙ append_assoc b v₀ (v₁ ++ (v₂ ++ v₃))

module _ (x : Fields) (n : ℕ) where
  -- one more part of the bytes from field n on
  more : (m : ℕ) (f : ℕ → List ℕ) (b : List ℕ) → b ≡ bytes_of x n ++ flatten (tabulate m f) → b ++ f m ≡ bytes_of x n ++ flatten (tabulate (suc m) f)
  more m f b e =
      ap (λ (l : List ℕ). l ++ f m) e ∙ append_assoc (bytes_of x n) (flatten (tabulate m f)) (f m)
      ∙ ap (λ (l : List ℕ). bytes_of x n ++ l) (flatten-more m f)

  -- m more fields
  pub bytes-each : (m : ℕ) → bytes_of x (n + m) ≡ bytes_of x n ++ flatten (tabulate m (λ j. le_bytes width (x (n + j))))
  unfolding bytes_of flatten
  bytes-each zero =
      let e : n + 0 ≡ n = omega arith in
      ap (bytes_of x) e ∙ sym (append-nil (bytes_of x n))
  bytes-each (suc m) =
      let e : n + suc m ≡ suc (n + m) = omega arith in
      ap (bytes_of x) e ∙ more m (λ j. le_bytes width (x (n + j))) (bytes_of x (n + m)) (bytes-each m)

  -- 4 m more fields
  pub bytes-fours : (m : ℕ) → bytes_of x (n + 4 * m) ≡ bytes_of x n ++ flatten (tabulate m (λ j. four_at x (n + 4 * j)))
  unfolding flatten
  bytes-fours zero =
      let e : n + 4 * 0 ≡ n = omega arith in
      ap (bytes_of x) e ∙ sym (append-nil (bytes_of x n))
  bytes-fours (suc m) =
      let e : n + 4 * suc m ≡ suc (suc (suc (suc (n + 4 * m)))) = omega arith in
      ap (bytes_of x) e ∙ four-more x (n + 4 * m) ∙ more m (λ j. four_at x (n + 4 * j)) (bytes_of x (n + 4 * m)) (bytes-fours m)
