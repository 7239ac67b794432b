-- A test of each number below n, which `all` over a range gives, is the test of one number more at each step.
-- Assumes nothing.
use Rattle.std.proofs.Common.{◌≡◌, ℕ, zero, suc, Bool, true, false, [], ◌∷◌, ◌++◌, map, arith, refl, sym, ap, ◌∙◌, add-one}
use Rattle.std.specs.List.{list_all, range_with_len}
use Rattle.std.proofs.lemmas.List.Folds.{list_all-append, list_all-map}
use Rattle.std.proofs.lemmas.List.FromFn.{map-range_with_len_more}
use mathlib.Core.Path.{ap₂}
use mathlib.Core.Bool.{◌&&◌}

and-true : (b : Bool) → (b && true) ≡ b
and-true true = refl
and-true false = refl

abbrev same : Bool → Bool
same b = b

pub every : (p f : ℕ → Bool) → f 0 ≡ true → ((n : ℕ) → f (suc n) ≡ (f n && p n)) → (n : ℕ) → list_all p (range_with_len 0 n) ≡ f n
every p f z s zero = sym z
every p f z s (suc n) =
    let more : map p (range_with_len 0 (suc n)) ≡ map p (range_with_len 0 n) ++ (p n ∷ []) = rw add-one at (map-range_with_len_more p 0 n n (omega arith)) in
    sym (list_all-map same p (range_with_len 0 (suc n)))
    ∙ ap (list_all same) more
    ∙ list_all-append same (map p (range_with_len 0 n)) (p n ∷ [])
    ∙ ap₂ ◌&&◌ (list_all-map same p (range_with_len 0 n) ∙ every p f z s n) (and-true (p n))
    ∙ sym (s n)
