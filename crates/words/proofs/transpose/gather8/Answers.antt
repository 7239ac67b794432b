-- `words::transpose::gather8` meets its contract: the sum of 8 bytes at their places.
-- Assumes nothing.
use Rattle.words.proofs.Turns.{gather-sum}
use mathlib.Core.Path.{refl}
use Rattle.words.proofs.transpose.gather8.Goals as goal

pub returns : goal.returns
returns c =
    let known = c in
    let x = known.args in
    gather-sum x.s.now x.j x.step _ _ _ (λ i. (known.shared_slice_known-9-1.given i).fits) refl refl c.join8.ensures
