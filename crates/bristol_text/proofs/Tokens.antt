-- The last token of a line, found from its end.
-- Assumes nothing.
use mathlib.Core.Path.{◌≡◌, refl, sym, ap, ◌∙◌}
use mathlib.Core.Bool.{Bool, true, false, cond}
use mathlib.Core.List.{List, [], ◌∷◌, ◌++◌}
use Prim.Native.Nat.{ℕ, zero, suc, ◌+◌, ◌-◌, ◌≤◌, ◌<◌}
use native.Mathlib.Numerals.{add-one}
use native.Mathlib.Omega.{arith}
use lib.Dec.{eqb}
use lib.ListN.{length, get_or, take, drop}
use lib.Seq.{drop-cons, drop-length, split_at}
use borrow.Author.Tests.{eq-eqb, ne_eqb}
use Rattle.bristol_text.specs.Text.{space, on_first, pieces, tokens, the_last}
use Rattle.bristol_text.specs.Steps.{LastToken}

-- a first piece goes on, whatever pieces follow those of a string
on-first-more : (x y : ℕ) (b : Bool) (ps qs : List (List ℕ))
    → on_first x (cond b ([] ∷ ps) (on_first y ps) ++ qs) ≡ on_first x (cond b ([] ∷ ps) (on_first y ps)) ++ qs
unfolding on_first
on-first-more x y true ps qs = refl
on-first-more x y false [] qs = refl
on-first-more x y false (p ∷ ps) qs = refl

on-first : (sep x : ℕ) (s : List ℕ) (qs : List (List ℕ)) → on_first x (pieces sep s ++ qs) ≡ on_first x (pieces sep s) ++ qs
unfolding pieces on_first
on-first sep x [] qs = refl
on-first sep x (y ∷ s) qs = on-first-more x y (eqb y sep) (pieces sep s) qs

join_more : (x : ℕ) (b : Bool) (ps qs rs : List (List ℕ)) → rs ≡ ps ++ qs → on_first x (ps ++ qs) ≡ on_first x ps ++ qs
    → cond b ([] ∷ rs) (on_first x rs) ≡ cond b ([] ∷ ps) (on_first x ps) ++ qs
join_more x true ps qs rs e f = ap (λ (l : List (List ℕ)). [] ∷ l) e
join_more x false ps qs rs e f = ap (on_first x) e ∙ f

-- the pieces of two strings with the byte sep between them are those of the first, and those of the second
pub pieces-join : (sep : ℕ) (s t : List ℕ) → pieces sep (s ++ sep ∷ t) ≡ pieces sep s ++ pieces sep t
unfolding pieces
pieces-join sep [] t = rw (eq-eqb sep sep refl)
pieces-join sep (x ∷ s) t = join_more x (eqb x sep) (pieces sep s) (pieces sep t) _ (pieces-join sep s t) (on-first sep x s (pieces sep t))

last_snoc : (ps : List (List ℕ)) (q : List ℕ) → the_last (ps ++ (q ∷ [])) ≡ q
unfolding the_last
last_snoc [] q = refl
last_snoc (p ∷ []) q = refl
last_snoc (p ∷ o ∷ ps) q = last_snoc (o ∷ ps) q

last_one : (q : List ℕ) → the_last (q ∷ []) ≡ q
unfolding the_last
last_one q = refl

alone-none : (sep : ℕ) → pieces sep [] ≡ [] ∷ []
unfolding pieces
alone-none sep = refl

alone-more : (sep x : ℕ) (t : List ℕ) → eqb x sep ≡ false → pieces sep t ≡ t ∷ [] → pieces sep (x ∷ t) ≡ (x ∷ t) ∷ []
unfolding pieces on_first
alone-more sep x t e f = rw (e, f)

-- what is known where the places from i on have no space
pub record Alone (l : List ℕ) (i : ℕ) : Type 0 where
  pub high : i ≤ length l
  pub alone : pieces space (drop i l) ≡ drop i l ∷ []

module _ (l : List ℕ) where
  pub alone-start : Alone l (length l)
  alone-start = record { high = omega arith; alone = rw (drop-length l) (alone-none space) }

  pub alone-whole : (i : ℕ) → i ≤ 0 → Alone l i → LastToken l 0
  unfolding tokens
  alone-whole zero h k = record { inside = k.high; last = sym (ap the_last k.alone ∙ last_one l) }
  alone-whole (suc m) h k = absurd (omega arith)

  -- the byte before place m + 1 is a space, or it is not
  module _ (m : ℕ) (k : Alone l (suc m)) where
    space-before : get_or l m 0 ≡ space → LastToken l (suc m)
    unfolding tokens
    space-before e =
        let parts : l ≡ take m l ++ space ∷ drop (suc m) l =
        split_at l m 0 k.high ∙ ap (λ (x : ℕ). take m l ++ x ∷ drop (suc m) l) e in
        record {
          inside = k.high;
          last =
              sym
              (ap (λ (t : List ℕ). the_last (pieces space t)) parts
              ∙ ap the_last (pieces-join space (take m l) (drop (suc m) l)
              ∙ ap (λ (ps : List (List ℕ)). pieces space (take m l) ++ ps) k.alone)
              ∙ last_snoc (pieces space (take m l)) (drop (suc m) l));
        }

    none_before : (get_or l m 0 ≡ space → ⊥) → Alone l m
    none_before n =
        record {
          high = omega (arith, k.high);
          alone = rw (drop-cons l m 0 k.high) (alone-more space (get_or l m 0) (drop (suc m) l) (ne_eqb _ _ n) k.alone);
        }

  pub alone-space : (i : ℕ) → 0 < i → Alone l i → get_or l (i - 1) 0 ≡ space → LastToken l (i - 1 + 1)
  alone-space zero h k e = absurd (omega arith)
  alone-space (suc m) h k e =
      let q : suc m - 1 ≡ m = omega arith in
      rw (q, add-one) (space-before m k (rw q at e))

  pub alone-back : (i : ℕ) → 0 < i → Alone l i → (get_or l (i - 1) 0 ≡ space → ⊥) → Alone l (i - 1)
  alone-back zero h k n = absurd (omega arith)
  alone-back (suc m) h k n =
      let q : suc m - 1 ≡ m = omega arith in
      rw q (none_before m k (rw q at n))
