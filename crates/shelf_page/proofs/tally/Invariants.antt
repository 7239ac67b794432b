-- `shelf_page::tally` meets its contract. The loop's invariant: the counts, with what remains of the chain, are those at entry with the whole chain.
-- Assumes nothing.
use mathlib.Core.Path.{◌≡◌}
use Prim.Native.Nat.{ℕ, ◌+◌, ◌-◌}
use lib.ListN.{length, get_or}
use Rattle.bits.specs.Counting.{count}
use Rattle.shelf_page.specs.Page.{next_of, chain, ended}
use Rattle.shelf_page.proofs.tally.Given as goal

abbrev pub invariant-loop-turn : goal.invariant-loop-turn
invariant-loop-turn l = (length l.seen ≡ 256) × ((ended (next_of l.page) l.size (l.size - l._turn) l.slot ≡ ended (next_of l.page) l.size l.size l.head) × ((k : ℕ) → get_or l.seen k 0 + count k (chain (next_of l.page) (l.size - l._turn) l.slot) ≡ get_or l.initial.seen k 0 + count k (chain (next_of l.page) l.size l.head)))
