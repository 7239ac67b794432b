-- Hiding: a row's partner shows the same under the other witness, and no other row does.
-- Assumes nothing.
use mathlib.Core.Path.{◌≡◌, refl, sym, ap, ◌∙◌, fun_ext}
use mathlib.Core.Bool.{Bool, true, false, cond, ◌&&◌}
use mathlib.Core.List.{List, ◌++◌}
use mathlib.Core.Logic.{⊎_elim}
use Prim.Native.Nat.{ℕ, suc, ◌+◌, ◌*◌, ◌<◌}
use native.Mathlib.Omega.{arith}
use borrow.Author.Tests.{eqb-false, lt-ltb, le-ltb}
use lib.Dec.{eqb}
use lib.ListN.{length, replicate, length-map}
use Rattle.bits.specs.Bits.{tabulate, oct, pack, bit_at}
use Rattle.bits.specs.Xor.{◌⊕◌, xors}
use Rattle.bits.proofs.Numbers.{lt-or-le}
use Rattle.bits.proofs.Xor.{ring}
use Rattle.circuit.specs.Circuit.{Circuit, eval_gates, evaluate}
use Rattle.plain.specs.Run.{Column, as_sent}
use Rattle.plain.specs.Tapes.{ands_of, row_bytes, tape_row, input_masks, output_masks, product_shares, with_row}
use Rattle.plain.specs.Showing.{correction_bits, masked_input, masked_inputs, run_with, run_on, honest_run, row_bits, shown_bits, first_bits, hidden, showing}
use Rattle.hiding.specs.Hiding.{Row, Witness, Partner, Hiding}
use Rattle.hiding.proofs.Columns.{xors-at}
use Rattle.hiding.proofs.Masked.{bit}
use Rattle.hiding.proofs.Flips.{turn, shift, mask_flips, corrections-kept, row_kept}
use Rattle.hiding.proofs.Rows.{row-again}
use Rattle.hiding.proofs.Shown.{pack-injective}
use Rattle.hiding.proofs.Partner.{share_flips, shares-last, shares-before, flips, flips-unused, flips-input, flips-mask, flips-product, changed, bit_at-changed, changed_row, rows-turn, witness-end}
use Rattle.hiding.proofs.Unique.{shown-fixes}

-- equal output bytes are equal output bits
same-outputs : (c : Circuit) (v u : ℕ → Bool) → pack (evaluate c v) ≡ pack (evaluate c u) → evaluate c v ≡ evaluate c u
unfolding evaluate
same-outputs c v u e =
    pack-injective (evaluate c v) (evaluate c u)
    (length-map c.outputs (eval_gates c.gates v) ∙ sym (length-map c.outputs (eval_gates c.gates u))) e

-- the parts of two showings that are equal but for what a test decides
cond-eq : (x y z : List ℕ) (b : Bool) → (b ≡ false → x ≡ y) → cond b z x ≡ cond b z y
cond-eq x y z true h = refl
cond-eq x y z false h = h refl

-- p of n parties hidden, witnesses w and w', row r of p
module _ (c : Circuit) (n p : ℕ) (l : p < n) (tapes : List ℕ) (size : length tapes ≡ n * row_bytes c) (w w' : List ℕ) (hw : Witness c w)
    (hw' : Witness c w') (r : List ℕ) (hr : Row c n p r) where
  -- the values of the wires at first
  abbrev v : ℕ → Bool
  v = bit_at w

  abbrev v' : ℕ → Bool
  v' = bit_at w'

  -- the tapes with r
  abbrev held : List ℕ
  held = with_row c p r tapes

  -- the changes, and the partner
  abbrev changes : List Bool
  changes = flips c n p v v' held

  abbrev partner : List ℕ
  partner = changed c r (bit changes)

  -- the tapes with the partner
  abbrev held' : List ℕ
  held' = with_row c p partner tapes

  -- the partner is a row of p
  partner-row : Row c n p partner
  partner-row = changed_row c n p r hr (bit changes) (flips-unused c n p v v' held)

  -- the rows with the partner
  rows-changed : (i k : ℕ) → bit_at (tape_row c held' i) k ≡ bit_at (tape_row c held i) k ⊕ (eqb i p && bit changes k)
  rows-changed =
      rows-turn c n p l tapes size r partner hr.bytes.size partner-row.bytes.size (bit changes)
      (bit_at-changed c n p r hr (bit changes) (flips-unused c n p v v' held))

  -- the input masks change where the witnesses differ
  inputs-changed : input_masks c held' ≡ shift p (input_masks c held) v v'
  unfolding input_masks
  inputs-changed = fun_ext (λ k. fun_ext (λ i. ⊎_elim
      (λ h. rw (lt-ltb k c.inputs h) (rows-changed i k ∙ rw (flips-input c n p v v' held k h)))
      (λ h. rw (le-ltb k c.inputs h, witness-end c w hw k h, witness-end c w' hw' k h) (simp ring))
      (lt-or-le k c.inputs)))

  -- the output masks as the flips say
  masks-changed : output_masks c held' ≡ turn p (output_masks c held) (bit (mask_flips c.gates v v' ++ share_flips c n p v v' held))
  unfolding output_masks
  masks-changed = fun_ext (λ t. fun_ext (λ i. rows-changed i (c.inputs + t) ∙ rw (flips-mask c n p v v' held t)))

  -- and the product shares
  products-changed : product_shares c held' ≡ turn p (product_shares c held) (bit (share_flips c n p v v' held))
  unfolding product_shares
  products-changed = fun_ext (λ t. fun_ext (λ i. rows-changed i (c.inputs + ands_of c + t) ∙ rw (flips-product c n p v v' held t)))

  -- the masked inputs are equal
  inputs-same : masked_input c n w held ≡ masked_input c n w' held'
  unfolding masked_input
  inputs-same = sym (fun_ext (λ k. ap (λ (s : ℕ → Column). v' k ⊕ xors n (s k)) inputs-changed
      ∙ rw (xors-at n p (input_masks c held k) (v k ⊕ v' k) l) (simp ring)))

  -- the corrections are, if p is not the last
  corrections-same : suc p < n → correction_bits c n held ≡ correction_bits c n held'
  unfolding correction_bits
  corrections-same h =
      sym (corrections-kept n p l c.gates (share_flips c n p v v' held) _ _ _ _ _ _ v v' (shares-last c n p v v' held)
      (shares-before c n p v v' held) masks-changed products-changed inputs-changed h)

  -- party p's rows are, for equal outputs
  row_same : evaluate c v ≡ evaluate c v' → row_bits (honest_run c n w held) p ≡ row_bits (honest_run c n w' held') p
  unfolding honest_run run_on run_with correction_bits evaluate masked_input
  row_same e =
      sym (row_kept n p l c.gates (share_flips c n p v v' held) _ _ _ _ _ _ v v' (shares-last c n p v v' held)
      (shares-before c n p v v' held) masks-changed products-changed inputs-changed c.outputs (masked_input c n w held) (λ k. refl) e)
      ∙ (λ j. row_bits (run_with c n held' (bit (correction_bits c n held')) (inputs-same j) as_sent) p)

  -- the tapes shown are
  hidden-same : hidden c p held ≡ hidden c p held'
  hidden-same =
      row-again c n p l tapes size r hr.bytes.size (replicate (row_bytes c) 0)
      ∙ sym (row-again c n p l tapes size partner partner-row.bytes.size (replicate (row_bytes c) 0))

  -- so every cut is
  cut-same : evaluate c v ≡ evaluate c v' → (g : ℕ) → showing c n p g w held ≡ showing c n p g w' held'
  unfolding showing masked_inputs
  cut-same e g =
      let k : cond (eqb (suc p) n) (replicate (oct (ands_of c)) 0) (pack (correction_bits c n held))
      ≡ cond (eqb (suc p) n) (replicate (oct (ands_of c)) 0) (pack (correction_bits c n held')) =
      cond-eq _ _ _ (eqb (suc p) n) (λ b. ap pack (corrections-same (omega (arith, eqb-false (suc p) n b)))) in
      λ j. record {
        tapes = hidden-same j;
        corrections = k j;
        masked_inputs = pack (tabulate c.inputs (inputs-same j));
        row = pack (first_bits (shown_bits c g) (row_same e j));
      }

  -- and no other row's whole showing is
  exactly-one : evaluate c v ≡ evaluate c v' → (r' : List ℕ) × Partner c n p tapes w w' r r'
  exactly-one e = (
    partner,
    record {
      row = partner-row;
      cuts = λ g _. cut-same e g;
      only = λ x hx q. shown-fixes c n p l tapes size w' x partner hx partner-row (sym q ∙ cut-same e (length c.gates));
    },
  )

-- "each row of p under the one has exactly one partner under the other"
pub hiding : Hiding
hiding s c _ n p l tapes ht w w' hw hw' e r hr =
    exactly-one c n p l tapes ht.bytes.size w w' hw hw' r hr (same-outputs c (bit_at w) (bit_at w') e)
