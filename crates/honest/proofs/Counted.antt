-- A party count has its height, and no other number has one.
-- Assumes nothing.
use mathlib.Core.Path.{◌≡◌, refl, sym}
use mathlib.Core.Bool.{Bool, true, false, cond, not, true≢false}
use Prim.Native.Nat.{ℕ}
use lib.Dec.{eqb}
use Rattle.std.specs.Prelude.{Option, Some, None}
use Rattle.parties.specs.Parties.{height_of, is_party_count, counted}
use Rattle.honest.specs.Counted.{PartyCounts}

some-when : (b : Bool) (h : ℕ) → not b ≡ true → cond b None (Some h) ≡ Some h
some-when true h e = absurd (true≢false (sym e))
some-when false h e = refl

none-when : (b : Bool) (h : ℕ) → not b ≡ false → cond b None (Some h) ≡ None
none-when true h e = refl
none-when false h e = absurd (true≢false e)

some-height : (n : ℕ) → is_party_count n ≡ true → counted n ≡ Some (height_of n)
unfolding is_party_count counted
some-height n e = some-when (eqb (height_of n) 0) (height_of n) e

none-height : (n : ℕ) → is_party_count n ≡ false → counted n ≡ None
unfolding is_party_count counted
none-height n e = none-when (eqb (height_of n) 0) (height_of n) e

pub party-counts : PartyCounts
party-counts = record { some = some-height; none = none-height }
