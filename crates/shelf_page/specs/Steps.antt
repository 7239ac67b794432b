-- What only the contracts of steps use: no definition of the paper stands here.
-- Assumes nothing.
use Rattle.std.specs.Prelude.{cond, Bool, true, List, ◌≡◌, ℕ, ◌+◌, get_or, Option, Some, None}
use Rattle.bits.specs.Counting.{count}
use Rattle.shelf_page.specs.declared.Shelf.{Shelf}
use Rattle.shelf_page.specs.Page.{size_of, ready_head, spare_head, draws_of, sound, chain, ended, next_of}

-- the shelf of a sound page: S, the heads and draws
unfoldable pub checked : List ℕ → Option Shelf
checked p =
    cond (sound p)
    (Some (record { size = size_of p; ready = ready_head p; spare = spare_head p; draws = draws_of p }))
    None

-- what counting a chain's slots leaves: whether the chain is ended, and, if so, its slots added to the counts
pub record Tallied (p : List ℕ) (S head : ℕ) (before : List ℕ) (ends : Bool) (counts : List ℕ) : Type 0 where
  pub is_ended : ends ≡ ended (next_of p) S S head
  pub added : ends ≡ true → (k : ℕ) → get_or counts k 0 ≡ get_or before k 0 + count k (chain (next_of p) S head)
