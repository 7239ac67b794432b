-- `four::put` meets its contract: 25 lanes written.
-- Assumes nothing.
use mathlib.Core.Path.{refl}
use Rattle.words.specs.Steps.{fill}
use Rattle.four.specs.Steps.{put_state}
use Rattle.four.proofs.put.Goals as goal

pub returns : goal.returns
unfolding put_state fill
returns c = refl
