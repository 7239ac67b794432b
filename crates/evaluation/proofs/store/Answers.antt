-- `evaluation::store` meets its contract. The loop's invariant: the first j bytes are the packed ones.
-- Assumes nothing.
use mathlib.Core.Path.{◌∙◌}
use native.Mathlib.Omega.{arith}
use Rattle.circuit.proofs.Run.{packed}
use Rattle.evaluation.proofs.store.Goals as goal

pub returns : goal.returns
returns c =
    let l = c.loop-j in
    packed _ _ _ _ (l.auto.y ∙ c.requires.0) (λ i h. l.invariant i (omega arith))
