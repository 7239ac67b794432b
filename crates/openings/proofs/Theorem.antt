-- Two openings give up the witness: a replay is the honest run on the masked inputs XOR the input masks.
-- Assumes nothing.
use mathlib.Core.Path.{◌≡◌, sym, ap, ◌∙◌, fun_ext}
use mathlib.Core.Bool.{Bool, true, false}
use mathlib.Core.List.{List}
use mathlib.Core.Logic.{◌≢◌, ⊎_elim}
use Prim.Native.Nat.{ℕ, ◌+◌, ◌<◌}
use native.Mathlib.Omega.{arith}
use lib.ListN.{length}
use Rattle.bits.specs.Bits.{tabulate, oct, pack, bit_at, unused_zero}
use Rattle.bits.specs.Xor.{◌⊕◌, xors}
use Rattle.bits.proofs.Numbers.{lt-or-le}
use Rattle.bits.proofs.Packing.{bit_at-pack, length-pack, pack-lt, unused-pack, unused-all}
use Rattle.bits.proofs.Tabulate.{length-tabulate, get_d_tabulate, get_or-tabulate-end}
use Rattle.bits.proofs.Xor.{xor-self-right, xors-false}
use Rattle.circuit.specs.Circuit.{Circuit}
use Rattle.plain.specs.Run.{corrected, as_sent, Transcript}
use Rattle.plain.specs.Tapes.{ands_of, input_masks, output_masks, product_shares}
use Rattle.plain.specs.Showing.{correction_bits, masked_input, run_with, run_on, honest_run, row_bits, rows_of, replay_of}
use Rattle.hiding.specs.Hiding.{Witness}
use Rattle.hiding.proofs.Masked.{bit}
use Rattle.hiding.proofs.Replay.{inputs-shown, masks-shown, products-shown}
use Rattle.hiding.proofs.Rows.{inputs_end}
use Rattle.hiding.proofs.RunLaws.{run-evaluates}
use Rattle.plain.proofs.Lengths.{length-row}
use Rattle.openings.specs.Openings.{Parts, Right, opening, replayed, unmasked, TwoOpenings}
use Rattle.openings.proofs.Twice.{Held, OthersHold, run-twice, rows-bits}

-- what n parties hold at first, with corrections cs
held : Circuit → ℕ → List ℕ → (ℕ → Bool) → Held
held c n tapes cs = record { masks = output_masks c tapes; products = corrected n cs (product_shares c tapes); shares = input_masks c tapes }

-- masked inputs XOR the input masks of n tapes
module _ (c : Circuit) (n : ℕ) (tapes masked : List ℕ) where
  -- of one input
  abbrev unmask : ℕ → Bool
  unmask w = bit_at masked w ⊕ xors n (input_masks c tapes w)

  -- they are I bits
  pub unmasked-witness : Witness c (unmasked c n tapes masked)
  unfolding unmasked
  unmasked-witness =
      let size : length (tabulate c.inputs unmask) ≡ c.inputs = length-tabulate c.inputs unmask in
      record {
        bytes = record { size = length-pack (tabulate c.inputs unmask) ∙ ap oct size; small = pack-lt (tabulate c.inputs unmask) };
        unused = ap (λ (k : ℕ). unused_zero k (pack (tabulate c.inputs unmask))) (sym size) ∙ unused-pack (tabulate c.inputs unmask);
      }

  -- masked again, they are the masked inputs
  masked_again : unused_zero c.inputs masked ≡ true → masked_input c n (unmasked c n tapes masked) tapes ≡ bit_at masked
  unfolding masked_input unmasked
  masked_again u = fun_ext (λ k.
      ap (λ (b : Bool). b ⊕ xors n (input_masks c tapes k)) (bit_at-pack (tabulate c.inputs unmask) k) ∙ ⊎_elim
      (λ h. rw (get_d_tabulate c.inputs unmask k false h) (xor-self-right (bit_at masked k) (xors n (input_masks c tapes k))))
      (λ h. rw (get_or-tabulate-end c.inputs unmask k false h, inputs_end c tapes k h, xors-false n) (sym (unused-all c.inputs masked u k h)))
      (lt-or-le k c.inputs))

-- parts of a run with right corrections
module _ (c : Circuit) (n : ℕ) (x : Parts) (right : Right c n x) where
  -- where p is hidden, the others hold what they held
  opening-holds : (p : ℕ) → p < n
      → OthersHold p (held c n (opening c n x p).tapes (bit_at (opening c n x p).corrections)) (held c n x.tapes (bit (correction_bits c n x.tapes)))
  unfolding opening held
  opening-holds p l = record {
    masks = masks-shown c n p l x.tapes right.tapes;
    products = rw right.corrections (products-shown c n p l x.tapes right.tapes);
    shares = inputs-shown c n p l x.tapes right.tapes;
  }

  -- a replay's row has A + O bits
  length-replayed : (p i : ℕ) → length (row_bits (replayed c n x p) i) ≡ ands_of c + length c.outputs
  unfolding replay_of run_with
  length-replayed p i = length-row n c.outputs c.gates _ _ _ _ _ i

  -- two replays that give the same rows are the honest run on the unmasked inputs
  pub replays-run : (p q : ℕ) → p < n → q < n → p ≢ q → rows_of n (replayed c n x p) ≡ rows_of n (replayed c n x q)
      → replayed c n x p ≡ honest_run c n (unmasked c n x.tapes x.masked_inputs) x.tapes
  unfolding replay_of honest_run run_on run_with opening held
  replays-run p q lp lq d e =
      run-twice n p q lp lq d c.outputs c.gates _ _ _ (bit_at x.masked_inputs) _ _ (opening-holds p lp) (opening-holds q lq)
      (rows-bits n (ands_of c + length c.outputs) (replayed c n x p) (replayed c n x q) (length-replayed p) (length-replayed q) e)
      ∙ ap (λ (m : ℕ → Bool). run_with c n x.tapes (bit (correction_bits c n x.tapes)) m as_sent)
      (sym (masked_again c n x.tapes x.masked_inputs right.unused))

-- two openings give up the witness
pub two-openings : TwoOpenings
two-openings s c legal n p q lp lq d x right y output rows output' rows' = record {
  witness = unmasked-witness c n x.tapes x.masked_inputs;
  gives =
      ap pack (sym (ap (λ (r : Transcript). r.output) (replays-run c n x right p q lp lq d (rows ∙ sym rows'))
      ∙ run-evaluates c n (omega arith) x.tapes (unmasked c n x.tapes x.masked_inputs))) ∙ output;
}
