-- `keccak::sponge::Sponge::squeeze_bytes` meets its contract: the loop's invariant: halfway through giving out.
-- Assumes nothing.
use Rattle.keccak.proofs.Steps.{Halfway}
use Rattle.keccak.proofs.sponge.Sponge.squeeze_bytes.Given as goal

abbrev pub invariant-loop-b : goal.invariant-loop-b
invariant-loop-b l =
    Halfway l.rate (record { lanes = l.initial.l; fill = l.initial.at }) l.initial.out l.out (record { lanes = l.l; fill = l.at }) l.b-index
