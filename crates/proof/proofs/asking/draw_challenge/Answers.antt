-- `proof::asking::draw_challenge` meets its contract: the bytes of the challenge, and their table.
-- Assumes nothing.
use mathlib.Core.Path.{sym, ap₂, ◌∙◌}
use mathlib.Core.List.{List}
use Prim.Native.Nat.{ℕ, ◌*◌}
use native.Mathlib.Omega.{arith}
use Rattle.bits.proofs.Copies.{prefix-length}
use Rattle.instance.proofs.Sent.{front-inside, front-back, front-taken}
use Rattle.proof.specs.Steps.{table_of}
use Rattle.proof.proofs.Askings.{few-choices, few-parties}
use Rattle.proof.proofs.asking.draw_challenge.Goals as goal

pub slice_bounds-choices-end : goal.slice_bounds-choices-end
slice_bounds-choices-end c = few-choices _ _ _ _ _ _ _ c.requires.0

pub slice_bounds-draw_choices-end : goal.slice_bounds-draw_choices-end
slice_bounds-draw_choices-end c = sym (prefix-length (3 * c.args.k.chosen) 1533 (few-choices _ _ _ _ _ _ _ c.requires.0))

pub draw_choices-requires : goal.draw_choices-requires
draw_choices-requires c = (c.requires.0, prefix-length (3 * c.args.k.chosen) 1533 (few-choices _ _ _ _ _ _ _ c.requires.0))

pub slice_bounds-choices-end-2 : goal.slice_bounds-choices-end-2
slice_bounds-choices-end-2 c = front-inside 1533 (3 * c.args.k.chosen) c.draw_choices.new.choices (few-choices _ _ _ _ _ _ _ c.requires.0) c.draw_choices.auto.choices

pub slice_bounds-enter-end : goal.slice_bounds-enter-end
slice_bounds-enter-end c = front-taken 1533 (3 * c.args.k.chosen) c.draw_choices.new.choices (few-choices _ _ _ _ _ _ _ c.requires.0) c.draw_choices.auto.choices

pub overflow_cast-n : goal.overflow_cast-n
overflow_cast-n c = omega (arith, few-parties _ _ _ _ _ _ _ c.requires.0)

pub returns : goal.returns
returns c =
    let x = c.args in
    c.enter.ensures
    ∙ ap₂ (λ (i : ℕ) (t : List ℕ). table_of i x.k.parties t) c.requires.1 (front-back 1533 (3 * x.k.chosen) c.draw_choices.new.choices (few-choices _ _ _ _ _ _ _ c.requires.0) c.draw_choices.auto.choices ∙ c.draw_choices.ensures)
