-- `four::join` meets its contract: one state put after the other.
-- Assumes nothing.
use mathlib.Core.Path.{ap, ◌∙◌}
use Rattle.four.specs.Steps.{put_state, joined}
use Rattle.four.proofs.join.Goals as goal

pub returns : goal.returns
unfolding joined
returns c =
    let x = c.args in
    c.put-4.ensures
    ∙ ap (put_state 3 x.d)
    (c.put-3.ensures
    ∙ ap (put_state 2 x.c) (c.put-2.ensures ∙ ap (put_state 1 x.b) c.put.ensures))
