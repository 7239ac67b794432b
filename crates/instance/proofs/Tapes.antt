-- The tapes that follow from rows of seeds: a party's row, the unused bits, and the tapes of all parties but one.
-- Assumes nothing.
use mathlib.Core.Path.{◌≡◌, refl}
use mathlib.Core.Bool.{true}
use mathlib.Core.List.{List}
use Prim.Native.Nat.{ℕ, zero, suc, ◌≤◌, ◌<◌}
use native.Mathlib.Omega.{arith}
use lib.ListN.{replicate}
use Rattle.hashing.specs.declared.Context.{Context}
use Rattle.bits.proofs.Rows.{row-tabulate}
use Rattle.circuit.specs.Circuit.{Circuit}
use Rattle.plain.specs.Tapes.{row_bytes, tape_row, used_bits, unused_rows, with_row}
use Rattle.plain.specs.Showing.{hidden}
use Rattle.party.specs.Derive as derive
use Rattle.party.proofs.Clearing.{length-tape, tape-unused}
use Rattle.instance.specs.Instance.{seed_of, tapes_of}
use Rattle.instance.specs.Steps.{tapes_but}
use Rattle.instance.proofs.Written.{row-changed}

module _ (c : Circuit) (n : ℕ) (j : Context) (seeds : List ℕ) where
  -- party i's tape
  abbrev pub tape_from : ℕ → List ℕ
  tape_from i = derive.tape_row j i (seed_of seeds i) (used_bits c n i) (row_bytes c)

  -- party i's tape follows from its seed
  pub tapes-row : (i : ℕ) → i < n → tape_row c (tapes_of c n j seeds) i ≡ tape_from i
  unfolding tapes_of
  tapes-row i h = row-tabulate (row_bytes c) n tape_from (λ k l. length-tape j k (seed_of seeds k) (used_bits c n k) (row_bytes c)) i h

  -- the unused bits of the first k rows are zero
  pub tapes-unused : (k : ℕ) → k ≤ n → unused_rows c n (tapes_of c n j seeds) k ≡ true
  unfolding unused_rows
  tapes-unused zero h = refl
  tapes-unused (suc k) h =
      rw (tapes-unused k (omega arith), tapes-row k (omega arith), tape-unused j k (seed_of seeds k) (used_bits c n k) (row_bytes c)) refl

  -- the tapes of all parties but p are all tapes with party p's hidden
  pub tapes-hidden : (p : ℕ) → p < n → tapes_but c n p j seeds ≡ hidden c p (tapes_of c n j seeds)
  unfolding tapes_but tapes_of with_row
  tapes-hidden p h =
      row-changed (row_bytes c) tape_from (λ k. length-tape j k (seed_of seeds k) (used_bits c n k) (row_bytes c)) n p (replicate (row_bytes c) 0) h
