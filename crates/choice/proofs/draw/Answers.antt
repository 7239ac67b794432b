-- `choice::draw` meets its contract: the loop's invariant is that the first t instances are those after t draws.
-- Assumes nothing.
use native.Mathlib.Omega.{arith}
use native.Mathlib.Nat.{mod-lt}
use mathlib.Core.Path.{ap, ◌∙◌}
use Prim.Native.Nat.{ℕ, ◌-◌, ◌%◌, ◌<◌}
use Rattle.choice.specs.Challenge.{instances}
use Rattle.choice.proofs.Choosing.{draw-none, draw-more, draw-all}
use Rattle.choice.proofs.draw.Goals as goal

pub loop-t-init : goal.loop-t-init
loop-t-init c = let x = c.args in draw-none x.m x.stream.now x.chosen.now

pub choose-requires : goal.choose-requires
choose-requires c =
    let x = c.args in
    let l = c.loop-t in
    let w : c.read_u64.result % (x.m - l.t) < x.m - l.t = mod-lt c.read_u64.result (omega arith) in
    (omega arith, omega arith)

pub loop-t-preserved : goal.loop-t-preserved
loop-t-preserved c =
    let x = c.args in
    let l = c.loop-t in
    draw-more x.m x.stream.now l.t c.read_u64.result l.chosen c.choose.new.chosen (omega arith) c.read_u64.ensures l.invariant c.choose.ensures

pub returns : goal.returns
returns c =
    let x = c.args in
    let l = c.loop-t in
    draw-all x.m x.stream.now l.t l.chosen (omega arith) (omega arith) l.invariant ∙ ap (λ (k : ℕ). instances x.m k x.stream.now) l.auto.chosen
