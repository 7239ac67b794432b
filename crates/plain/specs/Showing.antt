-- Corrections, masked inputs, broadcast rows and output as bytes; a showing and its cuts; a replay (document 01, "Tapes and run").
-- Assumes nothing.
use Rattle.std.specs.Prelude.{Bool, true, false, cond, ◌&&◌, ℕ, zero, suc, ◌+◌, ◌*◌, eqb, ltb, length, get_or, take, replicate}
use mathlib.Core.List.{List, map, flatten}
use Rattle.bits.specs.Bits.{tabulate, oct, pack, bit_at}
use Rattle.bits.specs.Xor.{◌⊕◌, xors}
use Rattle.circuit.specs.Circuit.{Circuit, ands}
use Rattle.plain.specs.Run.{Column, corrections, corrected, Channel, as_sent, as_shown, Transcript, run}
use Rattle.plain.specs.Tapes.{ands_of, row_bytes, input_masks, output_masks, product_shares, with_row}

-- the correction bits of the AND gates in chain order
unfoldable pub correction_bits : Circuit → ℕ → List ℕ → List Bool
correction_bits c n tapes = corrections n c.gates (output_masks c tapes) (product_shares c tapes) (input_masks c tapes)

-- "A wire's masked value is its value XOR its mask": of input wire w, for a witness
unfoldable pub masked_input : Circuit → ℕ → List ℕ → List ℕ → ℕ → Bool
masked_input c n witness tapes w = bit_at witness w ⊕ xors n (input_masks c tapes w)

unfoldable pub masked_inputs : Circuit → ℕ → List ℕ → List ℕ → List ℕ
masked_inputs c n witness tapes = pack (tabulate c.inputs (masked_input c n witness tapes))

-- the run with given corrections and masked inputs
unfoldable pub run_with : Circuit → ℕ → List ℕ → (ℕ → Bool) → (ℕ → Bool) → Channel → Transcript
run_with c n tapes corrections masked channel =
    run n c.outputs c.gates (output_masks c tapes) (corrected n corrections (product_shares c tapes)) channel (input_masks c tapes) masked

-- the run on a witness: each broadcast is delivered as sent
unfoldable pub run_on : Circuit → ℕ → List ℕ → List ℕ → (ℕ → Bool) → Transcript
run_on c n witness tapes corrections = run_with c n tapes corrections (masked_input c n witness tapes) as_sent

-- the run whose corrections are the right ones
unfoldable pub honest_run : Circuit → ℕ → List ℕ → List ℕ → Transcript
honest_run c n witness tapes = run_on c n witness tapes (λ t. get_or (correction_bits c n tapes) t false)

-- "A broadcast row holds A + O bits": party i's
unfoldable pub row_bits : Transcript → ℕ → List Bool
row_bits r i = map (λ (x : Column). x i) r.broadcasts

-- the n broadcast rows, one after the other
unfoldable pub rows_of : ℕ → Transcript → List ℕ
rows_of n r = flatten (tabulate n (λ i. pack (row_bits r i)))

-- the bits of a broadcast row that a cut after g gates shows: "g below G, shows of that row only the bits of the AND gates passed
-- .. the cut after G gates is the whole showing, output masks included"
unfoldable pub shown_bits : Circuit → ℕ → ℕ
shown_bits c g = cond (ltb g (length c.gates)) (ands (take g c.gates)) (ands_of c + length c.outputs)

-- the first k bits, "the rest zero"
unfoldable pub first_bits : ℕ → List Bool → List Bool
first_bits k bs = tabulate (length bs) (λ t. ltb t k && get_or bs t false)

-- "A showing with party p hidden is: the tapes with row p all zero, the corrections (all zero if p = n − 1), the masked inputs, row p
-- of the broadcasts."
pub record Showing : Type 0 where
  pub tapes : List ℕ
  pub corrections : List ℕ
  pub masked_inputs : List ℕ
  pub row : List ℕ

-- the tapes with row p all zero
abbrev pub hidden : Circuit → ℕ → List ℕ → List ℕ
hidden c p tapes = with_row c p (replicate (row_bytes c) 0) tapes

-- the showing of a run by n parties with p hidden, cut after g gates
unfoldable pub showing : Circuit → ℕ → ℕ → ℕ → List ℕ → List ℕ → Showing
showing c n p g witness tapes = record {
  tapes = hidden c p tapes;
  corrections = cond (eqb (suc p) n) (replicate (oct (ands_of c)) 0) (pack (correction_bits c n tapes));
  masked_inputs = masked_inputs c n witness tapes;
  row = pack (first_bits (shown_bits c g) (row_bits (honest_run c n witness tapes) p));
}

-- the replay of a showing: party p's broadcasts are those of its row
unfoldable pub replay_of : Circuit → ℕ → ℕ → Showing → Transcript
replay_of c n p x = run_with c n x.tapes (bit_at x.corrections) (bit_at x.masked_inputs) (as_shown p (bit_at x.row))
