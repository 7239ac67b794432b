-- `shelf_page::blanks` meets its contract. The loop's invariant: what remains of the chain is ended, and its test is the whole chain's.
-- Assumes nothing.
use mathlib.Core.Bool.{true}
use mathlib.Core.Path.{◌≡◌}
use Prim.Native.Nat.{◌-◌}
use Rattle.shelf_page.specs.Page.{next_of, chain, ended, blank, zero_root}
use Rattle.shelf_page.proofs.blanks.Given as goal

abbrev pub invariant-loop-turn : goal.invariant-loop-turn
invariant-loop-turn l = (ended (next_of l.page) l.size (l.size - l._turn) l.slot ≡ true) × ((blank l.page (chain (next_of l.page) (l.size - l._turn) l.slot) ≡ blank l.page (chain (next_of l.page) l.size l.head)) × (l.zero ≡ zero_root))
