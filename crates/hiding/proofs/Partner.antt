-- The partner of a row: the row with its changes, what it holds, and what the parties then hold.
-- Assumes nothing.
use mathlib.Core.Path.{◌≡◌, refl, sym, ap, ◌∙◌}
use mathlib.Core.Bool.{Bool, true, false, cond, ◌&&◌}
use mathlib.Core.List.{List, [], ◌++◌}
use mathlib.Core.Logic.{⊎_elim}
use Prim.Native.Nat.{ℕ, suc, ◌+◌, ◌*◌, ◌≤◌, ◌<◌}
use native.Mathlib.Nat.{add_assoc}
use native.Mathlib.Omega.{arith}
use borrow.Author.Tests.{eq-eqb, ne_eqb}
use lib.Dec.{eqb}
use lib.ListN.{length, length-append, get_or-append, get_or-eq_default}
use Rattle.bits.specs.Bits.{tabulate, oct, pack, bit_at}
use Rattle.bits.specs.Xor.{◌⊕◌}
use Rattle.bits.proofs.Numbers.{lt-or-le, eq-or-ne}
use Rattle.bits.proofs.Packing.{bit_at-pack, length-pack, pack-lt, unused-all, all-unused}
use Rattle.bits.proofs.Tabulate.{length-tabulate, get_d_tabulate, get_or-tabulate-end}
use Rattle.bits.proofs.Xor.{xor-false}
use Rattle.circuit.specs.Circuit.{Circuit}
use Rattle.plain.specs.Run.{Column, plus}
use Rattle.plain.specs.Tapes.{ands_of, row_bytes, tape_row, input_masks, output_masks, used_bits, with_row}
use Rattle.hiding.specs.Hiding.{Row, Witness}
use Rattle.hiding.proofs.Masked.{bit}
use Rattle.hiding.proofs.Flips.{mask_flips, product_flips, length-mask_flips, length-product_flips}
use Rattle.hiding.proofs.Rows.{get_d_past, used-inside, row_here, row_other}

-- the changes of party p's product shares: the last party has none
unfoldable pub share_flips : Circuit → ℕ → ℕ → (ℕ → Bool) → (ℕ → Bool) → List ℕ → List Bool
share_flips c n p v u tapes = cond (eqb (suc p) n) [] (product_flips n c.gates (output_masks c tapes) (input_masks c tapes) v u)

-- the last party has no changes of product shares
pub shares-last : (c : Circuit) (n p : ℕ) (v u : ℕ → Bool) (tapes : List ℕ) → suc p ≡ n → share_flips c n p v u tapes ≡ []
unfolding share_flips
shares-last c n p v u tapes h = rw (eq-eqb (suc p) n h)

-- a party before it has them all
pub shares-before : (c : Circuit) (n p : ℕ) (v u : ℕ → Bool) (tapes : List ℕ) → suc p < n
    → share_flips c n p v u tapes ≡ product_flips n c.gates (output_masks c tapes) (input_masks c tapes) v u
unfolding share_flips
shares-before c n p v u tapes h = rw (ne_eqb (suc p) n (λ e. omega arith))

-- the changes of party p's row, from witness v to u: input masks, output masks, product shares
unfoldable pub flips : Circuit → ℕ → ℕ → (ℕ → Bool) → (ℕ → Bool) → List ℕ → List Bool
flips c n p v u tapes = tabulate c.inputs (plus v u) ++ (mask_flips c.gates v u ++ share_flips c n p v u tapes)

module _ (c : Circuit) (n p : ℕ) (v u : ℕ → Bool) (tapes : List ℕ) where
  -- they are as many as the bits that party p uses
  length-flips : length (flips c n p v u tapes) ≡ used_bits c n p
  unfolding flips share_flips used_bits
  length-flips = simp (length-append, length-tabulate, length-mask_flips) (go (eqb (suc p) n))
    where
      o : ℕ → Column
      o = output_masks c tapes

      go : (b : Bool) → c.inputs + (ands_of c + length (cond b [] (product_flips n c.gates o (input_masks c tapes) v u)))
          ≡ cond b (c.inputs + ands_of c) (c.inputs + 2 * ands_of c)
      go true = omega arith
      go false = omega (arith, length-product_flips n c.gates o (input_masks c tapes) v u)

  -- the bits not used do not change
  pub flips-unused : (k : ℕ) → used_bits c n p ≤ k → bit (flips c n p v u tapes) k ≡ false
  flips-unused k h = get_or-eq_default (flips c n p v u tapes) false (omega (arith, length-flips))

  -- an input mask changes where the witnesses differ
  pub flips-input : (k : ℕ) → k < c.inputs → bit (flips c n p v u tapes) k ≡ v k ⊕ u k
  unfolding flips
  flips-input k h =
      get_or-append (tabulate c.inputs (plus v u)) (mask_flips c.gates v u ++ share_flips c n p v u tapes) false k
      (omega (arith, length-tabulate c.inputs (plus v u)))
      ∙ get_d_tabulate c.inputs (plus v u) k false h

  -- the output masks
  pub flips-mask : (t : ℕ) → bit (flips c n p v u tapes) (c.inputs + t) ≡ bit (mask_flips c.gates v u ++ share_flips c n p v u tapes) t
  unfolding flips
  flips-mask t =
      get_d_past (tabulate c.inputs (plus v u)) (mask_flips c.gates v u ++ share_flips c n p v u tapes) c.inputs t false
      (length-tabulate c.inputs (plus v u))

  -- the product shares
  pub flips-product : (t : ℕ) → bit (flips c n p v u tapes) (c.inputs + ands_of c + t) ≡ bit (share_flips c n p v u tapes) t
  flips-product t =
      ap (bit (flips c n p v u tapes)) (add_assoc c.inputs (ands_of c) t)
      ∙ flips-mask (ands_of c + t)
      ∙ get_d_past (mask_flips c.gates v u) (share_flips c n p v u tapes) (ands_of c) t false (length-mask_flips c.gates v u)

-- a row with its bits changed by d
unfoldable pub changed : Circuit → List ℕ → (ℕ → Bool) → List ℕ
changed c r d = pack (tabulate (c.inputs + 2 * ands_of c) (λ k. bit_at r k ⊕ d k))

module _ (c : Circuit) (n p : ℕ) (r : List ℕ) (hr : Row c n p r) (d : ℕ → Bool) (hd : (k : ℕ) → used_bits c n p ≤ k → d k ≡ false) where
  -- its bits
  pub bit_at-changed : (k : ℕ) → bit_at (changed c r d) k ≡ bit_at r k ⊕ d k
  unfolding changed
  bit_at-changed k =
      let f : ℕ → Bool = λ k. bit_at r k ⊕ d k in
      bit_at-pack (tabulate (c.inputs + 2 * ands_of c) f) k
      ∙ ⊎_elim
      (λ h. get_d_tabulate (c.inputs + 2 * ands_of c) f k false h)
      (λ h.
      let q : used_bits c n p ≤ k = omega (arith, used-inside c n p) in
      get_or-tabulate-end (c.inputs + 2 * ands_of c) f k false h ∙ sym (rw (unused-all (used_bits c n p) r hr.unused k q, hd k q)))
      (lt-or-le k (c.inputs + 2 * ands_of c))

  -- it is a row of that party
  pub changed_row : Row c n p (changed c r d)
  unfolding changed
  changed_row = record {
    bytes = record { size = length-pack _ ∙ ap oct (length-tabulate (c.inputs + 2 * ands_of c) _); small = pack-lt _ };
    unused = all-unused (used_bits c n p) (changed c r d) (λ k a b. bit_at-changed k ∙ rw (unused-all (used_bits c n p) r hr.unused k a, hd k a));
  }

-- the rows of the tapes with party p's row changed
pub rows-turn : (c : Circuit) (n p : ℕ) → p < n → (tapes : List ℕ) → length tapes ≡ n * row_bytes c
    → (r r' : List ℕ) → length r ≡ row_bytes c → length r' ≡ row_bytes c → (d : ℕ → Bool) → ((k : ℕ) → bit_at r' k ≡ bit_at r k ⊕ d k)
    → (i k : ℕ) → bit_at (tape_row c (with_row c p r' tapes) i) k ≡ bit_at (tape_row c (with_row c p r tapes) i) k ⊕ (eqb i p && d k)
rows-turn c n p l tapes size r r' e e' d h i k =
    ⊎_elim
    (λ (q : i ≡ p). rw (q, row_here c n p l tapes size r e, row_here c n p l tapes size r' e', eq-eqb p p refl) (h k))
    (λ m. rw (row_other c n p l tapes size r e i m, row_other c n p l tapes size r' e' i m, ne_eqb i p m) (sym (xor-false _)))
    (eq-or-ne i p)

-- a witness has no bit beyond the inputs
pub witness-end : (c : Circuit) (w : List ℕ) → Witness c w → (k : ℕ) → c.inputs ≤ k → bit_at w k ≡ false
witness-end c w hw k h = unused-all c.inputs w hw.unused k h
