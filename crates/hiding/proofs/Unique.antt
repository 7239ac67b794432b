-- Two rows of the hidden party that show the same under one witness are equal.
-- Assumes nothing.
use mathlib.Core.Path.{◌≡◌, sym, ap, ◌∙◌, fun_ext}
use mathlib.Core.List.{List}
use mathlib.Core.Logic.{◌≢◌, ⊎_elim}
use Prim.Native.Nat.{ℕ, suc, ◌+◌, ◌-◌, ◌*◌, ◌≤◌, ◌<◌}
use native.Mathlib.Omega.{arith}
use borrow.Author.Tests.{ne_eqb, lt-ltb}
use lib.ListN.{length}
use Rattle.bits.specs.Bits.{pack, bit_at}
use Rattle.bits.specs.Xor.{◌⊕◌, xors}
use Rattle.bits.proofs.Numbers.{lt-or-le}
use Rattle.bits.proofs.Packing.{ext-bit_at, unused-all}
use Rattle.bits.proofs.Tabulate.{length-tabulate}
use Rattle.circuit.specs.Circuit.{Circuit}
use Rattle.plain.specs.Run.{Column, corrections, corrected, as_sent, run}
use Rattle.plain.specs.Tapes.{ands_of, row_bytes, tape_row, input_masks, output_masks, product_shares, used_bits, with_row}
use Rattle.plain.specs.Showing.{correction_bits, masked_input, masked_inputs, run_with, run_on, honest_run, row_bits, Showing, showing}
use Rattle.hiding.specs.Hiding.{Row}
use Rattle.hiding.proofs.Columns.{Others, all-agree, sum_agrees}
use Rattle.hiding.proofs.Masked.{bit}
use Rattle.hiding.proofs.Fixed.{cancel, row-fixes}
use Rattle.hiding.proofs.Rows.{inputs_end, used-last, used-inside, row_here, row_other}
use Rattle.plain.proofs.Lengths.{length-corrections, length-honest}
use Rattle.hiding.proofs.Shown.{pack-injective, tabulate-injective, row-all}

-- rows of one party are equal if their input masks, output masks and product shares are
rows-equal : (c : Circuit) (n p : ℕ) (x y : List ℕ) → Row c n p x → Row c n p y → ((k : ℕ) → k < c.inputs → bit_at x k ≡ bit_at y k)
    → ((k : ℕ) → k < ands_of c → (bit_at x (c.inputs + k) ≡ bit_at y (c.inputs + k)) × (bit_at x (c.inputs + ands_of c + k) ≡ bit_at y (c.inputs + ands_of c + k)))
    → x ≡ y
rows-equal c n p x y hx hy f g =
    ext-bit_at x y hx.bytes.small hy.bytes.small (hx.bytes.size ∙ sym hy.bytes.size)
    (λ k b. ⊎_elim
    (λ h. f k h)
    (λ h. ⊎_elim
    (λ a. let q : k ≡ c.inputs + (k - c.inputs) = omega arith in rw q (g (k - c.inputs) (omega arith)).0)
    (λ a. ⊎_elim
    (λ d. let q : k ≡ c.inputs + ands_of c + (k - (c.inputs + ands_of c)) = omega arith in rw q (g (k - (c.inputs + ands_of c)) (omega arith)).1)
    (λ d.
    let q : used_bits c n p ≤ k = omega (arith, used-inside c n p) in
    unused-all (used_bits c n p) x hx.unused k q ∙ sym (unused-all (used_bits c n p) y hy.unused k q))
    (lt-or-le k (c.inputs + 2 * ands_of c)))
    (lt-or-le k (c.inputs + ands_of c)))
    (lt-or-le k c.inputs))

-- p of n parties hidden, rows x and y of p, witness w
module _ (c : Circuit) (n p : ℕ) (l : p < n) (tapes : List ℕ) (size : length tapes ≡ n * row_bytes c) (w x y : List ℕ) (hx : Row c n p x)
    (hy : Row c n p y)
    (e : showing c n p (length c.gates) w (with_row c p x tapes) ≡ showing c n p (length c.gates) w (with_row c p y tapes)) where
  -- the tapes with either
  abbrev X : List ℕ
  X = with_row c p x tapes

  abbrev Y : List ℕ
  Y = with_row c p y tapes

  -- the other rows are equal
  others : (i : ℕ) → i ≢ p → tape_row c X i ≡ tape_row c Y i
  others i m = row_other c n p l tapes size x hx.bytes.size i m ∙ sym (row_other c n p l tapes size y hy.bytes.size i m)

  -- equal bits of the rows at p are equal bits of x and y
  here : (k : ℕ) → bit_at (tape_row c X p) k ≡ bit_at (tape_row c Y p) k → bit_at x k ≡ bit_at y k
  here k q =
      ap (λ (t : List ℕ). bit_at t k) (sym (row_here c n p l tapes size x hx.bytes.size)) ∙ q
      ∙ ap (λ (t : List ℕ). bit_at t k) (row_here c n p l tapes size y hy.bytes.size)

  -- the masked inputs fix the input masks
  inputs-fixed : input_masks c X ≡ input_masks c Y
  unfolding input_masks masked_input masked_inputs showing
  inputs-fixed = fun_ext (λ k. ⊎_elim
      (λ h. all-agree p (input_masks c X k) (input_masks c Y k) (agree k) (sum_agrees n p (input_masks c X k) (input_masks c Y k) l (agree k)
      (cancel (bit_at w k) _ _ (tabulate-injective c.inputs (masked_input c n w X) (masked_input c n w Y)
      (pack-injective _ _ (length-tabulate c.inputs _ ∙ sym (length-tabulate c.inputs _)) (ap (λ (a : Showing). a.masked_inputs) e)) k h))))
      (λ h. inputs_end c X k h ∙ sym (inputs_end c Y k h))
      (lt-or-le k c.inputs))
    where
      agree : (k : ℕ) → Others p (input_masks c X k) (input_masks c Y k)
      agree k i m = rw (others i m)

  -- the corrections shown are equal
  corrections-shown : suc p < n → correction_bits c n X ≡ correction_bits c n Y
  unfolding showing correction_bits
  corrections-shown h =
      pack-injective _ _ (length-corrections n c.gates _ _ _ ∙ sym (length-corrections n c.gates _ _ _))
      (rw (ne_eqb (suc p) n (λ q. omega arith)) at (ap (λ (a : Showing). a.corrections) e))

  -- party p's rows are
  row-shown : row_bits (honest_run c n w X) p ≡ row_bits (honest_run c n w Y) p
  unfolding showing
  row-shown =
      pack-injective _ _ (length-honest c n p w X ∙ sym (length-honest c n p w Y))
      (ap pack (sym (row-all c n p w X)) ∙ ap (λ (a : Showing). a.row) e ∙ ap pack (row-all c n p w Y))

  -- so the rows are equal
  pub shown-fixes : x ≡ y
  unfolding input_masks output_masks product_shares correction_bits masked_input honest_run run_on run_with
  shown-fixes =
      rows-equal c n p x y hx hy
      (λ k h. here k (rw (lt-ltb k c.inputs h) at (ap (λ (s : ℕ → Column). s k p) inputs-fixed)))
      (λ k h. let q = fixed k h in (here (c.inputs + k) q.0, here (c.inputs + ands_of c + k) q.1))
    where
      unused : suc p ≡ n → (k : ℕ) → product_shares c X k p ≡ product_shares c Y k p
      unused h k =
          let q : used_bits c n p ≤ c.inputs + ands_of c + k = omega (arith, used-last c n p h) in
          rw (row_here c n p l tapes size x hx.bytes.size, row_here c n p l tapes size y hy.bytes.size)
          (unused-all (used_bits c n p) x hx.unused _ q ∙ sym (unused-all (used_bits c n p) y hy.unused _ q))

      fixed : (k : ℕ) → k < ands_of c → (output_masks c X k p ≡ output_masks c Y k p) × (product_shares c X k p ≡ product_shares c Y k p)
      fixed = row-fixes n p l c.outputs c.gates (output_masks c X) (output_masks c Y) (product_shares c X) (product_shares c Y) (input_masks c X)
          (masked_input c n w X) (λ k i m. rw (others i m)) (λ k i m. rw (others i m)) unused
          (λ h. corrections-shown h ∙ ap (corrections n c.gates (output_masks c Y) (product_shares c Y)) (sym inputs-fixed))
          (row-shown ∙ ap (λ (s : ℕ → Column). row_bits (run n c.outputs c.gates (output_masks c Y)
          (corrected n (bit (corrections n c.gates (output_masks c Y) (product_shares c Y) s)) (product_shares c Y)) as_sent s (λ k. bit_at w k ⊕ xors n (s k))) p) (sym inputs-fixed))
