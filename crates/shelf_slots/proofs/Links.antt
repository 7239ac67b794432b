-- The links of a page.
-- Assumes nothing.
use mathlib.Core.Logic.{⊎_elim}
use Prim.Native.Nat.{ℕ, ◌+◌, ◌*◌, ◌≤◌}
use native.Mathlib.Omega.{arith}
use borrow.Author.Tests.{eq-eqb, ne_eqb}
use Rattle.bits.proofs.Numbers.{eq-or-ne}
use Rattle.shelf_slots.specs.Steps.{link_after}

-- the link that leads to a spare slot is inside the page
pub link-room : (before n : ℕ) → 12 + 18 * before ≤ n → link_after before + 2 ≤ n
unfolding link_after
link-room before n h =
    ⊎_elim (λ e. rw (eq-eqb before 0 e) (omega arith)) (λ e. rw (ne_eqb before 0 e) (omega (arith, e))) (eq-or-ne before 0)
