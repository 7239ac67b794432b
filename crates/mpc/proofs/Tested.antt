-- The test of the unused bits of the tapes, row by row.
-- Assumes nothing.
use mathlib.Core.Path.{◌≡◌, refl, sym, ap, ap₂, ◌∙◌}
use mathlib.Core.Bool.{Bool, true, false, not, cond, ◌&&◌}
use mathlib.Core.List.{List}
use Prim.Native.Nat.{ℕ, suc, ◌+◌, ◌*◌}
use native.Mathlib.Numerals.{add-one}
use borrow.Author.Tests.{eqb-true, not-false}
use lib.Dec.{eqb}
use Rattle.bits.specs.Bits.{oct, unused_zero}
use Rattle.bits.specs.Bytes.{row_of}
use Rattle.bits.proofs.Tests.{and-true-left, and-true-right}
use Rattle.circuit.specs.File.{circuit_of}
use Rattle.plain.specs.Tapes.{ands_of, used_bits, unused_rows}
use Rattle.mpc.specs.Steps.{Known}
use Rattle.mpc.proofs.Opened.{sized, circuit-inputs, circuit-ands, circuit-row}

-- two lengths that are both as stated
pub both-lengths : (x y u v : ℕ) (r : Bool) → r ≡ eqb x y && eqb u v → not r ≡ false → (x ≡ y) × (u ≡ v)
both-lengths x y u v r q t =
    let z : eqb x y && eqb u v ≡ true = sym q ∙ not-false r t in
    (eqb-true x y (and-true-left (eqb x y) (eqb u v) z), eqb-true u v (and-true-right (eqb x y) (eqb u v) z))

module _ (s : List ℕ) (i o g a n : ℕ) (tapes : List ℕ) (k : Known s (sized i o g a)) where
  -- no row is looked at
  pub unused-none : true ≡ unused_rows (circuit_of s) n tapes 0
  unfolding unused_rows
  unused-none = refl

  -- the bits that party j uses
  used-right : (j : ℕ) → used_bits (circuit_of s) n j ≡ cond (eqb (suc j) n) (i + a) (i + 2 * a)
  unfolding used_bits
  used-right j = ap₂ (λ (x y : ℕ). cond (eqb (suc j) n) (x + y) (x + 2 * y)) (circuit-inputs s i o g a k) (circuit-ands s i o g a k)

  -- one row more
  pub unused-turn : (j u len : ℕ) (row : List ℕ) (b d : Bool) → b ≡ unused_rows (circuit_of s) n tapes j → len ≡ oct (i + 2 * a) → row ≡ row_of tapes len j
      → u ≡ cond (eqb (suc j) n) (i + a) (i + 2 * a) → d ≡ unused_zero u row → b && d ≡ unused_rows (circuit_of s) n tapes (j + 1)
  unfolding unused_rows
  unused-turn j u len row b d p q e h f =
      let m : row_of tapes len j ≡ row_of tapes (oct ((circuit_of s).inputs + 2 * ands_of (circuit_of s))) j
      = ap (λ (x : ℕ). row_of tapes x j) (q ∙ sym (circuit-row s i o g a k)) in
      ap₂ ◌&&◌ p (f ∙ ap₂ unused_zero (h ∙ sym (used-right j)) (e ∙ m)) ∙ ap (unused_rows (circuit_of s) n tapes) (sym (add-one j))
