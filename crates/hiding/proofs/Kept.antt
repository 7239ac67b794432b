-- A replay keeps the hidden party's broadcasts: row p of the rows that it gives is the row as lent, of any showing.
-- Assumes nothing.
use mathlib.Core.Path.{◌≡◌, refl, sym, ap, ◌∙◌}
use mathlib.Core.Bool.{Bool, true, ◌&&◌}
use mathlib.Core.List.{List, [], ◌∷◌}
use Prim.Native.Nat.{ℕ, ◌+◌, ◌<◌}
use native.Mathlib.Nat.{suc-add, zero-add}
use lib.ListN.{length}
use Rattle.bits.specs.Bits.{tabulate, oct, pack, unpack, bit_at, unused_zero}
use Rattle.bits.specs.Xor.{◌⊕◌, xors}
use Rattle.bits.specs.Bytes.{row_of}
use Rattle.bits.proofs.Packing.{length-pack, pack-unpack}
use Rattle.bits.proofs.Rows.{row-tabulate}
use Rattle.circuit.specs.Circuit.{Gate, xor, and, inv, Circuit, put, ands}
use Rattle.circuit.proofs.Chain.{put_same}
use Rattle.plain.specs.Run.{Column, next, broadcast, as_shown, outputs, run}
use Rattle.plain.specs.Tapes.{ands_of}
use Rattle.plain.specs.Showing.{run_with, row_bits, rows_of, Showing, replay_of}
use Rattle.hiding.specs.Hiding.{Bytes}
use Rattle.plain.proofs.Lengths.{length-row}

-- p's bits of the outputs are those of its row
outputs-lent : (n p : ℕ) (ws : List ℕ) (row : ℕ → Bool) (s : ℕ → Column) (m : ℕ → Bool)
    → row_bits (outputs n ws (as_shown p row) s m) p ≡ tabulate (length ws) row
unfolding outputs row_bits
outputs-lent n p [] row s m = refl
outputs-lent n p (w ∷ ws) row s m = λ j. put_same (s w) p (row 0) j ∷ outputs-lent n p ws (next row) s m j

-- p's bits of a run are those of its row
row-lent : (n p : ℕ) (outs : List ℕ) (gs : List Gate) (o z : ℕ → Column) (row : ℕ → Bool) (s : ℕ → Column) (m : ℕ → Bool)
    → row_bits (run n outs gs o z (as_shown p row) s m) p ≡ tabulate (ands gs + length outs) row
unfolding run row_bits ands
row-lent n p outs [] o z row s m = outputs-lent n p outs row s m ∙ ap (λ (k : ℕ). tabulate k row) (sym (zero-add (length outs)))
row-lent n p outs (xor a b c ∷ gs) o z row s m = row-lent n p outs gs o z row _ _
row-lent n p outs (and a b c ∷ gs) o z row s m =
    let x : Column = put (broadcast (m a) (m b) (s a) (s b) (z 0) (o 0)) p (row 0) in
    let r : row_bits (run n outs gs (next o) (next z) (as_shown p (next row)) (put s c (o 0)) (put m c ((m a && m b) ⊕ xors n x))) p
    ≡ tabulate (ands gs + length outs) (next row) =
    row-lent n p outs gs (next o) (next z) (next row) (put s c (o 0)) (put m c ((m a && m b) ⊕ xors n x)) in
    (λ j. put_same (broadcast (m a) (m b) (s a) (s b) (z 0) (o 0)) p (row 0) j ∷ r j) ∙ ap (λ (k : ℕ). tabulate k row) (sym (suc-add (ands gs) (length outs)))
row-lent n p outs (inv a c ∷ gs) o z row s m = row-lent n p outs gs o z row _ _

-- p of n parties hidden in a showing
module _ (c : Circuit) (n p : ℕ) (l : p < n) (x : Showing) where
  -- p's row in a replay holds the first bits of the row as lent, whatever that is
  pub replay-row : row_of (rows_of n (replay_of c n p x)) (oct (ands_of c + length c.outputs)) p ≡ pack (unpack (ands_of c + length c.outputs) x.row)
  unfolding rows_of replay_of run_with unpack
  replay-row =
      row-tabulate (oct (ands_of c + length c.outputs)) n (λ i. pack (row_bits (replay_of c n p x) i))
      (λ i h. length-pack (row_bits (replay_of c n p x) i) ∙ ap oct (length-row n c.outputs c.gates _ _ _ _ _ i)) p l
      ∙ ap pack (row-lent n p c.outputs c.gates _ _ (bit_at x.row) _ _)

  -- a row of A + O bits, unused bits zero, is kept byte for byte
  pub replay-keeps-row : Bytes (oct (ands_of c + length c.outputs)) x.row → unused_zero (ands_of c + length c.outputs) x.row ≡ true
      → row_of (rows_of n (replay_of c n p x)) (oct (ands_of c + length c.outputs)) p ≡ x.row
  replay-keeps-row b u = replay-row ∙ pack-unpack (ands_of c + length c.outputs) x.row b.small b.size u
