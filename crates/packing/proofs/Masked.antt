-- Mask corrections: the theorems. The corrections depend on the XORs over the parties alone.
-- Assumes nothing.
use mathlib.Core.Path.{◌≡◌, refl, sym, ap, ap₂, ◌∙◌, fun_ext}
use mathlib.Core.Bool.{Bool, true, false, ◌&&◌}
use mathlib.Core.List.{List, [], ◌∷◌}
use Prim.Native.Nat.{ℕ, zero, suc, ◌+◌, ◌-◌, ◌≤◌}
use native.Mathlib.Omega.{arith}
use borrow.Author.Tests.{eq-eqb}
use lib.Dec.{ltb}
use Rattle.bits.specs.Bits.{bit_at}
use Rattle.bits.specs.Xor.{◌⊕◌, xors}
use Rattle.bits.proofs.Packing.{unused-all}
use Rattle.bits.proofs.Tests.{and-true-right}
use Rattle.bits.proofs.Xor.{xor-false, xors-and, xors-cong, xors-suc, xors-xor}
use Rattle.circuit.specs.Circuit.{xor, and, inv, Circuit, put}
use Rattle.masks.specs.Masks.{mask_corrections}
use Rattle.plain.specs.Run.{Column, next, plus, corrections}
use Rattle.plain.specs.Tapes.{ands_of, tape_row, input_masks, output_masks, product_shares, used_bits, unused_rows}
use Rattle.plain.specs.Showing.{correction_bits}
use Rattle.packing.specs.Corrections.{MaskCorrections, TapeCorrections}
use Rattle.packing.proofs.Agree.{put_map}

-- the masks of shares
abbrev masks : ℕ → (ℕ → Column) → ℕ → Bool
masks n s w = xors n (s w)

-- the XORs of the product shares of the parties but the last
abbrev sums : ℕ → (ℕ → Column) → ℕ → Bool
sums n z t = xors (n - 1) (z t)

pub mask-corrections : MaskCorrections
unfolding corrections mask_corrections
mask-corrections n [] o z s = refl
mask-corrections n (xor a b c ∷ gs) o z s =
    mask-corrections n gs o z _
    ∙ ap (mask_corrections gs (masks n o) (sums n z)) (put_map (xors n) s c (plus (s a) (s b)) ∙ ap (put (masks n s) c) (xors-xor n (s a) (s b)))
mask-corrections n (and a b c ∷ gs) o z s =
    ap (λ (l : List Bool). ((masks n s a && masks n s b) ⊕ sums n z 0) ∷ l)
    (mask-corrections n gs (next o) (next z) _ ∙ ap (mask_corrections gs (next (masks n o)) (next (sums n z))) (put_map (xors n) s c (o 0)))
mask-corrections n (inv a c ∷ gs) o z s =
    mask-corrections n gs o z _ ∙ ap (mask_corrections gs (masks n o) (sums n z)) (put_map (xors n) s c (s a))

-- party n - 1's row has zeros from bit I + A on
pub last-zero : (c : Circuit) (k : ℕ) (tapes : List ℕ) → unused_rows c (suc k) tapes (suc k) ≡ true → (i : ℕ) → c.inputs + ands_of c ≤ i → bit_at (tape_row c tapes k) i ≡ false
unfolding unused_rows used_bits
last-zero c k tapes e i h =
    let q = and-true-right (unused_rows c (suc k) tapes k) _ e in
    unused-all (c.inputs + ands_of c) (tape_row c tapes k) (rw (eq-eqb (suc k) (suc k) refl) at q) i h

module _ (c : Circuit) (tapes : List ℕ) where
  -- the AND gates' output masks
  output-sums : (n : ℕ) → masks n (output_masks c tapes) ≡ (λ t. xors n (λ i. bit_at (tape_row c tapes i) (c.inputs + t)))
  unfolding output_masks
  output-sums n = fun_ext (λ t. xors-cong n _ _ (λ i l. refl))

  -- the product shares of all parties
  product-sums : (n : ℕ) → 1 ≤ n → unused_rows c n tapes n ≡ true
      → sums n (product_shares c tapes) ≡ (λ t. xors n (λ i. bit_at (tape_row c tapes i) (c.inputs + ands_of c + t)))
  unfolding product_shares
  product-sums zero h e = absurd (omega arith)
  product-sums (suc k) h e =
      let q : suc k - 1 ≡ k = omega arith in
      fun_ext (λ t.
      let f : ℕ → Bool = λ i. bit_at (tape_row c tapes i) (c.inputs + ands_of c + t) in
      ap (λ (j : ℕ). xors j (product_shares c tapes t)) q ∙ xors-cong k _ f (λ i l. refl)
      ∙ sym (xors-suc k f ∙ ap (λ (b : Bool). xors k f ⊕ b) (last-zero c k tapes e (c.inputs + ands_of c + t) (omega arith)) ∙ xor-false (xors k f)))

  -- the inputs' masks
  input-sums : (n : ℕ) → masks n (input_masks c tapes) ≡ (λ w. ltb w c.inputs && xors n (λ i. bit_at (tape_row c tapes i) w))
  unfolding input_masks
  input-sums n = fun_ext (λ w. xors-cong n _ _ (λ i l. refl) ∙ xors-and n (ltb w c.inputs) (λ i. bit_at (tape_row c tapes i) w))

pub tape-corrections : TapeCorrections
unfolding correction_bits
tape-corrections c n tapes h e =
    mask-corrections n c.gates (output_masks c tapes) (product_shares c tapes) (input_masks c tapes)
    ∙ ap (λ (o : ℕ → Bool). mask_corrections c.gates o (sums n (product_shares c tapes)) (masks n (input_masks c tapes))) (output-sums c tapes n)
    ∙ ap₂ (mask_corrections c.gates (λ t. xors n (λ i. bit_at (tape_row c tapes i) (c.inputs + t)))) (product-sums c tapes n h e) (input-sums c tapes n)
