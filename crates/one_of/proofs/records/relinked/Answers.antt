-- `one_of::records::relinked` meets its contract.
-- Assumes nothing.
use mathlib.Core.Path.{ap}
use Prim.Native.Nat.{ℕ, ◌+◌}
use Rattle.circuit.specs.File.{fields_of}
use Rattle.one_of.proofs.Coded.{relinked-last, relinked-same}
use Rattle.one_of.proofs.records.relinked.Goals as goal

pub returns-then-link-eq0 : goal.returns-then-link-eq0
returns-then-link-eq0 c =
    let x = c in
    relinked-last (fields_of x.args.s.now) x.args.link _ c.if-link-eq0.true (ap (λ (k : ℕ). k + 1) x.requires.gates)

pub returns : goal.returns
returns c =
    let x = c in
    relinked-same (fields_of x.args.s.now) x.args.link c.if-link-eq0.false
