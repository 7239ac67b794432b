-- `shelf_page::each_once` meets its contract. The loop's invariant: the slots below k were counted once.
-- Assumes nothing.
use mathlib.Core.Bool.{true}
use mathlib.Core.Path.{◌≡◌}
use Prim.Native.Nat.{◌-◌}
use lib.ListN.{get_or}
use Rattle.shelf_page.specs.Page.{all_one}
use Rattle.shelf_page.proofs.each_once.Given as goal

abbrev pub invariant-loop-k : goal.invariant-loop-k
invariant-loop-k l = all_one (λ j. get_or l.seen j 0) (l.k - 1) ≡ true
