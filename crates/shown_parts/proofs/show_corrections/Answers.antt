-- `shown_parts::show_corrections` meets its contract.
-- Assumes nothing.
use mathlib.Core.Path.{ap, ◌∙◌}
use Prim.Native.Nat.{ℕ}
use Rattle.std.proofs.Common.{rules}
use native.Mathlib.Omega.{arith}
use lib.ListN.{replicate}
use Rattle.shown_parts.proofs.Shows.{corrections-hidden, corrections-shown}
use Rattle.shown_parts.proofs.show_corrections.Goals as goal

pub overflow_add-p : goal.overflow_add-p
overflow_add-p c = omega (arith, c.requires.0.few, c.requires.1.0)

pub give_corrections-requires : goal.give_corrections-requires
give_corrections-requires c = (c.requires.0, c.requires.1.1)

pub returns-then-p-n : goal.returns-then-p-n
returns-then-p-n c = corrections-hidden _ _ _ _ _ c.if-p-n.true (c.fill.ensures.after (λ y h. search rules) ∙ ap (λ (k : ℕ). replicate k 0) c.requires.1.1)

pub returns-else-p-n : goal.returns-else-p-n
returns-else-p-n c = corrections-shown _ _ _ _ _ c.if-p-n.false c.give_corrections.ensures
