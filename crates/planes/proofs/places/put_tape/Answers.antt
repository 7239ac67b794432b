-- `planes::places::put_tape` meets its contract.
-- Assumes nothing.
use mathlib.Core.Path.{ap, ◌∙◌}
use Prim.Native.Nat.{ℕ}
use Rattle.planes.specs.Steps.{put_tape}
use lib.Seq.{sets}
use Rattle.bits.specs.Bytes.{le_bytes}
use Rattle.planes.proofs.places.put_tape.Goals as goal

pub returns : goal.returns
unfolding put_tape
returns c =
    let x = c.args in
    c.write_u64.ensures ∙ ap (λ (k : ℕ). sets x.memory.now k (le_bytes 8 x.x)) c.tape_at.ensures
