-- The kind with a name, by the three tests in turn.
-- Assumes nothing.
use mathlib.Core.Path.{◌≡◌, refl, sym, ap, ◌∙◌}
use mathlib.Core.Bool.{Bool, true, false, ◌&&◌}
use mathlib.Core.List.{List, [], ◌∷◌}
use Prim.Native.Nat.{ℕ, ◌-◌}
use native.Mathlib.Omega.{arith}
use lib.Dec.{eqb}
use lib.ListN.{length, take, drop, length-drop}
use lib.Seq.{take_all}
use Rattle.std.specs.Cmp.Lexicographic.{pointwise}
use Rattle.bits.specs.Bytes.{same_bytes}
use Rattle.bristol_text.specs.Text.{tokens, the_last}
use Rattle.bristol_lines.specs.Rules.{name_xor, name_and, name_inv, kind_named}
use Rattle.bristol_text.specs.Steps.{LastToken}
use Rattle.bristol_lines.specs.declared.Kind.TheVariants.{Xor, And, Inv, Other}

module _ (t : List ℕ) where
  pub is-xor : same_bytes t name_xor ≡ true → Xor ≡ kind_named t
  unfolding kind_named
  is-xor e = rw e

  pub is-and : same_bytes t name_xor ≡ false → same_bytes t name_and ≡ true → And ≡ kind_named t
  unfolding kind_named
  is-and d e = rw (d, e)

  pub is-inv : same_bytes t name_xor ≡ false → same_bytes t name_and ≡ false → same_bytes t name_inv ≡ true → Inv ≡ kind_named t
  unfolding kind_named
  is-inv d e f = rw (d, e, f)

  pub is-other : same_bytes t name_xor ≡ false → same_bytes t name_and ≡ false → same_bytes t name_inv ≡ false → Other ≡ kind_named t
  unfolding kind_named
  is-other d e f = rw (d, e, f)

-- the test of the code on the last token
same-names : (s t : List ℕ) → same_bytes s t ≡ pointwise eqb s t
unfolding same_bytes
same-names [] [] = refl
same-names [] (y ∷ t) = refl
same-names (x ∷ s) [] = refl
same-names (x ∷ s) (y ∷ t) = ap (λ (b : Bool). eqb x y && b) (same-names s t)

pub tested : (l : List ℕ) (at : ℕ) → LastToken l at → (s name : List ℕ) → s ≡ name → (r : Bool) → r ≡ pointwise eqb (take (length l - at) (drop at l)) s
    → same_bytes (the_last (tokens l)) name ≡ r
tested l at k s name e r f =
    let last : take (length l - at) (drop at l) ≡ the_last (tokens l) =
    take_all (length l - at) (drop at l) (omega (arith, length-drop at l)) ∙ k.last in
    same-names (the_last (tokens l)) name ∙ sym (f ∙ rw (last, e) refl)
