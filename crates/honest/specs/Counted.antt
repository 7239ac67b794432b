-- The Option that the code has of a number of parties. Document 02, order 13: "n of 2, 4, 8, 16, 32 and 64".
-- Assumes nothing.
use Rattle.std.specs.Prelude.{◌≡◌, true, false, ℕ, Some, None}
use Rattle.parties.specs.Parties.{height_of, is_party_count, counted}

-- Theorem: a party count has its height, and no other number has one
pub record PartyCounts : Type 0 where
  pub some : (n : ℕ) → is_party_count n ≡ true → counted n ≡ Some (height_of n)
  pub none : (n : ℕ) → is_party_count n ≡ false → counted n ≡ None
