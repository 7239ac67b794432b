-- `choice::write_choice` meets its contract: two bytes, then one.
-- Assumes nothing.
use mathlib.Core.List.{List}
use Rattle.choice.proofs.Choosing.{write-pair}
use mathlib.Core.Path.{ap, ◌∙◌}
use Prim.Native.Nat.{ℕ, ◌+◌}
use lib.ListN.{set}
use Rattle.choice.proofs.write_choice.Goals as goal

pub returns : goal.returns
returns c = ap (λ (o : List ℕ). set o (c.args.at + 2) c.args.p) c.write_u16.ensures ∙ write-pair c.args.out.now c.args.at c.args.i c.args.p
