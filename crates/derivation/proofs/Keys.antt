-- Four keys of 16 bytes that are read from a memory.
-- Assumes nothing.
use native.Mathlib.Omega.{arith}
use mathlib.Core.Path.{◌≡◌, ap, ◌∙◌}
use mathlib.Core.List.{List}
use Prim.Native.Nat.{ℕ, ◌+◌, ◌*◌, ◌≤◌, ◌<◌}
use lib.ListN.{length, take, drop, length-drop}
use lib.Seq.{length-take-le}
use Rattle.bits.proofs.Rows.{row_fits}
use Rattle.four_sponges.specs.Steps.{four_rows}
use Rattle.four_sponges.proofs.Rows.{row-four}

module _ (m : List ℕ) (start step : ℕ) (fits : start + 3 * step + 16 ≤ length m) where
  -- key k
  abbrev pub key_at : ℕ → List ℕ
  key_at k = take 16 (drop (start + k * step) m)

  pub key-size : (k : ℕ) → k < 4 → length (key_at k) ≡ 16
  key-size k h = length-take-le 16 (drop (start + k * step) m) (omega (arith, length-drop (start + k * step) m, row_fits 4 step k h))

  -- key k of those that are read
  pub key-read : (keys : List ℕ) → keys ≡ four_rows key_at → (k : ℕ) → k < 4 → take 16 (drop (k * 16) keys) ≡ key_at k
  key-read keys e k h = ap (λ (t : List ℕ). take 16 (drop (k * 16) t)) e ∙ row-four 16 key_at key-size k h
