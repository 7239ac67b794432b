-- Tests as Booleans: the parts of an AND, and two tests that hold together.
-- Assumes nothing.
use mathlib.Core.Path.{◌≡◌, refl, sym}
use mathlib.Core.Bool.{Bool, true, false, ◌&&◌}

-- if an AND holds, its left part does
pub and-true-left : (a b : Bool) → a && b ≡ true → a ≡ true
and-true-left true b e = refl
and-true-left false b e = e

-- and its right part
pub and-true-right : (a b : Bool) → a && b ≡ true → b ≡ true
and-true-right true b e = e
and-true-right false b e = cc

-- two tests of which each follows from the other are equal
pub test-eq : (a b : Bool) → (a ≡ true → b ≡ true) → (b ≡ true → a ≡ true) → a ≡ b
test-eq true true f g = refl
test-eq true false f g = sym (f refl)
test-eq false true f g = g refl
test-eq false false f g = refl
