-- `words::transpose::turn` meets its contract: a word gathered, transposed and stored.
-- Assumes nothing.
use Rattle.words.proofs.Turns.{turned-word}
use native.Mathlib.Omega.{arith}
use Rattle.words.proofs.transpose.turn.Goals as goal

pub returns : goal.returns
returns c =
    let stored = c in
    let turned = stored in
    turned-word _ _ _ _ _ _ _ _ _ _ _ (omega arith) (omega arith) turned.gather-x.ensures turned.transpose8.ensures stored.scatter.ensures
