-- `planes::places::put_masked` meets its contract.
-- Assumes nothing.
use mathlib.Core.Path.{ap}
use Prim.Native.Nat.{ℕ}
use lib.ListN.{set}
use Rattle.planes.specs.Steps.{put_masked}
use Rattle.planes.proofs.places.put_masked.Goals as goal

pub returns : goal.returns
unfolding put_masked
returns c =
    let x = c.args in
    ap (λ (k : ℕ). set x.memory.now k x.x) c.masked_at.ensures
