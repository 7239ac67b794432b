-- The unused bits of four rows cleared, one row after the other.
-- Assumes nothing.
use native.Mathlib.Omega.{arith}
use mathlib.Core.Path.{◌≡◌, ap, ap₂, ◌∙◌}
use mathlib.Core.List.{List}
use Prim.Native.Nat.{ℕ, ◌+◌, ◌-◌, ◌*◌, ◌≤◌, ◌<◌}
use lib.ListN.{length, get_or, take, drop, length-take}
use lib.Seq.{sets}
use Rattle.four_sponges.specs.Steps.{stored, four_rows}
use Rattle.four_sponges.proofs.Rows.{four-eq, row_in, row-four, sets-whole, stored-left, stored-four}
use Rattle.party.specs.Derive.{clear_from}
use Rattle.party.proofs.Clearing.{length-clear}

module _ (len : ℕ) (R : List ℕ) (used : List ℕ) where
  -- row t cleared
  abbrev pub cleared_row : ℕ → List ℕ
  cleared_row t = clear_from (get_or used t 0) (row_in len R t)

  row-short : (t : ℕ) → 0 + length (cleared_row t) ≤ len
  row-short t = omega (arith, length-clear (get_or used t 0) (row_in len R t), length-take len (drop (t * len) R))

  -- row k is as it was before it is cleared
  pub clear-turn : (k : ℕ) (rows z : List ℕ) → rows ≡ stored cleared_row 0 len k R
      → z ≡ clear_from (get_or used k 0) (take (k * len + len - k * len) (drop (k * len) rows)) → z ≡ cleared_row k
  clear-turn k rows z e d =
      let n : k * len + len - k * len ≡ len = omega arith in
      d ∙ ap₂ (λ (m : ℕ) (t : List ℕ). clear_from (get_or used k 0) (take m t)) n (ap (drop (k * len)) e ∙ stored-left cleared_row 0 len row-short k R)

  -- all four
  pub clear-four : (g : ℕ → List ℕ) → R ≡ four_rows g → ((k : ℕ) → k < 4 → length (g k) ≡ len)
      → stored cleared_row 0 len 4 R ≡ four_rows (λ k. clear_from (get_or used k 0) (g k))
  clear-four g e size =
      let one : (k : ℕ) → k < 4 → sets (g k) 0 (cleared_row k) ≡ clear_from (get_or used k 0) (g k) = λ k h.
      let same : row_in len R k ≡ g k = ap (λ (t : List ℕ). row_in len t k) e ∙ row-four len g size k h in
      let own : length (cleared_row k) ≡ length (g k) = length-clear (get_or used k 0) (row_in len R k) ∙ ap length same in
      sets-whole (cleared_row k) (g k) own ∙ ap (clear_from (get_or used k 0)) same in
      ap (stored cleared_row 0 len 4) e ∙ stored-four len 0 g cleared_row size row-short
      ∙ four-eq (λ k. sets (g k) 0 (cleared_row k)) (λ k. clear_from (get_or used k 0) (g k)) (one 0 (omega arith)) (one 1 (omega arith)) (one 2 (omega arith)) (one 3 (omega arith))
