-- Rows that are written one or four at a time: those that are there, and those that follow.
-- Assumes nothing.
use native.Mathlib.Nat.{add-mul}
use native.Mathlib.Omega.{arith}
use mathlib.Core.Path.{◌≡◌, sym, ap, ap₂, ◌∙◌}
use mathlib.Core.List.{List, flatten}
use Prim.Native.Nat.{ℕ, ◌+◌, ◌*◌, ◌≤◌, ◌<◌}
use lib.ListN.{length}
use lib.Seq.{sets}
use Rattle.bits.specs.Bits.{tabulate}
use Rattle.bits.proofs.Rows.{row_fits}
use Rattle.derivation.proofs.Together.{flatten-add}
use Rattle.instance.proofs.Written.{sets_more, rows-length}

-- rows after those that are written
pub rows_more : (len : ℕ) (f : ℕ → List ℕ) → ((i : ℕ) → length (f i) ≡ len) → (m : List ℕ) (to i r : ℕ) (w v : List ℕ) → w ≡ sets m to (flatten (tabulate i f))
    → v ≡ sets w (to + i * len) (flatten (tabulate r (λ k. f (i + k)))) → v ≡ sets m to (flatten (tabulate (i + r) f))
rows_more len f size m to i r w v ew ev =
    let rows : List ℕ = flatten (tabulate i f) in
    let next : List ℕ = flatten (tabulate r (λ k. f (i + k))) in
    let e : to + i * len ≡ to + length rows = omega (arith, rows-length len f size i) in
    ev ∙ ap₂ (λ (x : List ℕ) (k : ℕ). sets x k next) ew e ∙ sym (sets_more m to rows next) ∙ ap (sets m to) (sym (flatten-add i r f))

-- row i, and four rows from row i on, are in a memory that has room for n rows
module _ (n len to size : ℕ) (room : to + n * len ≤ size) where
  pub row_in : (i : ℕ) → i < n → to + i * len + len ≤ size
  row_in i h = omega (arith, row_fits n len i h)

  pub four-in : (i : ℕ) → i + 4 ≤ n → to + i * len + 4 * len ≤ size
  four-in i h = omega (arith, row_fits n len (i + 3) (omega arith), add-mul i 3 len)
