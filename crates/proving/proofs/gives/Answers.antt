-- `proving::gives` meets its contract.
-- Assumes nothing.
use mathlib.Core.Path.{sym, ◌∙◌}
use Rattle.bits.proofs.Copies.{prefix-length}
use Rattle.instance.proofs.Sent.{front-inside, front-taken}
use Rattle.proving.proofs.Given.{few-output, gives_made}
use Rattle.proving.proofs.gives.Goals as goal

pub slice_bounds-out-end : goal.slice_bounds-out-end
slice_bounds-out-end c = few-output _ _ _ _ _ _ c.requires.1.0 c.oct-len.ensures

pub slice_bounds-evaluate-end : goal.slice_bounds-evaluate-end
slice_bounds-evaluate-end c = sym (prefix-length c.oct-len.result 32 (few-output _ _ _ _ _ _ c.requires.1.0 c.oct-len.ensures))

pub slice_bounds-out-end-2 : goal.slice_bounds-out-end-2
slice_bounds-out-end-2 c = front-inside 32 c.oct-len.result c.evaluate.new.y (few-output _ _ _ _ _ _ c.requires.1.0 c.oct-len.ensures) c.evaluate.auto.y

pub slice_bounds-same-end : goal.slice_bounds-same-end
slice_bounds-same-end c = front-taken 32 c.oct-len.result c.evaluate.new.y (few-output _ _ _ _ _ _ c.requires.1.0 c.oct-len.ensures) c.evaluate.auto.y

pub returns : goal.returns
returns c =
    let l = prefix-length c.oct-len.result 32 (few-output _ _ _ _ _ _ c.requires.1.0 c.oct-len.ensures) in
    gives_made _ _ _ _ _ _ _ c.requires.0 c.requires.1.0 c.requires.1.1 (l ∙ c.oct-len.ensures) _ _ _ _ c.evaluate.result _ c.evaluate.ensures (c.evaluate.auto.y ∙ l) c.same.ensures
