-- `instance::sending::run_tapes` meets its contract.
-- Assumes nothing.
use mathlib.Core.Path.{sym, ◌∙◌}
use native.Mathlib.Omega.{arith}
use Prim.Native.Nat.{ℕ}
use lib.ListN.{length-replicate}
use Rattle.bits.proofs.Copies.{prefix-length}
use Rattle.instance.proofs.Rooms.{few-parties, lent-held}
use Rattle.instance.proofs.Sent.{few-output}
use Rattle.instance.proofs.sending.run_tapes.Goals as goal

pub overflow_cast-k : goal.overflow_cast-k
overflow_cast-k c = omega (arith, few-parties _ _ _ _ _ c.requires.0)

pub slice_bounds-y-end : goal.slice_bounds-y-end
slice_bounds-y-end c = omega (arith, length-replicate {A = ℕ} 32 0, few-output _ _ _ c.requires.0.known c.oct-o.ensures)

pub slice_bounds-run_honest-end : goal.slice_bounds-run_honest-end
slice_bounds-run_honest-end c = sym (prefix-length _ 32 (few-output _ _ _ c.requires.0.known c.oct-o.ensures))

pub run_honest-requires : goal.run_honest-requires
run_honest-requires c =
    let p = c.requires in
    (lent-held _ _ _ _ _ p.0, (p.1.1.0, (p.1.0.size, (p.1.1.1, prefix-length _ 32 (few-output _ _ _ p.0.known c.oct-o.ensures) ∙ c.oct-o.ensures))))

pub returns : goal.returns
returns c = record {
  masked_after = c.run_honest.ensures.masked_after;
  memory_after = c.run_honest.ensures.memory_after;
  memory_after_2 = c.run_honest.ensures.memory_after_2;
}
