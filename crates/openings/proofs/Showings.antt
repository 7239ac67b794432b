-- Two showings of one set of tapes with different hidden parties: the tapes are whole again, and both witnesses are read.
-- Assumes nothing.
use mathlib.Core.Path.{◌≡◌, sym, ap, ◌∙◌}
use mathlib.Core.Bool.{Bool, false}
use mathlib.Core.List.{List, ◌++◌}
use mathlib.Core.Logic.{◌≢◌}
use Prim.Native.Nat.{ℕ, ◌+◌, ◌*◌, ◌<◌}
use native.Mathlib.Omega.{arith}
use lib.ListN.{length, take, drop, replicate, length-replicate, take-append-drop}
use lib.Seq.{take-add}
use Rattle.bits.specs.Bits.{tabulate, pack, bit_at, unpack}
use Rattle.bits.specs.Xor.{◌⊕◌, xors}
use Rattle.bits.proofs.Packing.{bit_at-pack, pack-unpack}
use Rattle.bits.proofs.Rows.{row_inside, row_fits}
use Rattle.bits.proofs.Tabulate.{get_d_tabulate, tabulate-cong}
use Rattle.bits.proofs.Xor.{xor-self-right}
use Rattle.circuit.specs.Circuit.{Circuit}
use Rattle.plain.specs.Tapes.{row_bytes, tape_row, input_masks, with_row}
use Rattle.plain.specs.Showing.{masked_input, masked_inputs, hidden, showing}
use Rattle.hiding.specs.Hiding.{Witness}
use Rattle.hiding.proofs.Rows.{row-again, row_other}
use Rattle.openings.specs.Openings.{unmasked}
use Rattle.openings.specs.Showings.{joined, TwoShowings}

-- a witness masked and unmasked
unmasked-again : (c : Circuit) (n : ℕ) (tapes w : List ℕ) → Witness c w → unmasked c n tapes (masked_inputs c n w tapes) ≡ w
unfolding unmasked masked_inputs masked_input unpack
unmasked-again c n tapes w h =
    ap pack (tabulate-cong c.inputs (λ k. bit_at (masked_inputs c n w tapes) k ⊕ xors n (input_masks c tapes k)) (bit_at w) (λ k l.
    ap (λ (b : Bool). b ⊕ xors n (input_masks c tapes k))
    (bit_at-pack (tabulate c.inputs (masked_input c n w tapes)) k ∙ get_d_tabulate c.inputs (masked_input c n w tapes) k false l)
    ∙ xor-self-right (bit_at w k) (xors n (input_masks c tapes k))))
    ∙ pack-unpack c.inputs w h.bytes.small h.bytes.size h.unused

-- p and q of n tapes
module _ (c : Circuit) (n p q : ℕ) (lp : p < n) (lq : q < n) (d : p ≢ q) (tapes : List ℕ) (size : length tapes ≡ n * row_bytes c) where
  abbrev zeros : List ℕ
  zeros = replicate (row_bytes c) 0

  -- the tapes with party p's own row
  row-own : with_row c p (tape_row c tapes p) tapes ≡ tapes
  unfolding with_row
  row-own =
      let a : ℕ = p * row_bytes c in
      ap (λ (r : List ℕ). r ++ drop (a + row_bytes c) tapes)
      (ap (λ (r : List ℕ). take a tapes ++ r) (row_inside tapes (row_bytes c) p (omega (arith, row_fits n (row_bytes c) p lp))) ∙ sym (take-add a (row_bytes c) tapes))
      ∙ take-append-drop (a + row_bytes c) tapes

  -- p's row from where q is hidden, the others from where p is
  tapes-whole : with_row c p (tape_row c (hidden c q tapes) p) (hidden c p tapes) ≡ tapes
  tapes-whole =
      row-again c n p lp tapes size zeros (length-replicate (row_bytes c) 0) (tape_row c (hidden c q tapes) p)
      ∙ ap (λ (r : List ℕ). with_row c p r tapes) (row_other c n q lq tapes size zeros (length-replicate (row_bytes c) 0) p d)
      ∙ row-own

-- both witnesses are read
pub two-showings : TwoShowings
unfolding joined showing
two-showings c n p q g g' lp lq d tapes w w' size hw hw' =
    let whole = tapes-whole c n p q lp lq d tapes size in
    record {
      one = ap (λ (t : List ℕ). unmasked c n t (masked_inputs c n w tapes)) whole ∙ unmasked-again c n tapes w hw;
      other = ap (λ (t : List ℕ). unmasked c n t (masked_inputs c n w' tapes)) whole ∙ unmasked-again c n tapes w' hw';
    }
