-- `building::write_four` meets its contract: the four fields are written one after the other.
-- Assumes nothing.
use mathlib.Core.Path.{ap, ◌∙◌}
use mathlib.Core.List.{List}
use Prim.Native.Nat.{ℕ, ◌+◌, ◌*◌}
use lib.Seq.{sets}
use Rattle.bits.specs.Bytes.{le_bytes}
use Rattle.circuit.specs.File.{width}
use Rattle.building.proofs.Bytes.{four-apart}
use Rattle.building.proofs.write_four.Goals as goal

pub returns : goal.returns
returns c =
    let x = c.args in
    let at : ℕ = width * x.k in
    c.write_u32-4.ensures
    ∙ ap (λ (l : List ℕ). sets l (at + 3 * width) (le_bytes width x.d))
    (c.write_u32-3.ensures
    ∙ ap (λ (l : List ℕ). sets l (at + 2 * width) (le_bytes width x.c))
    (c.write_u32-2.ensures
    ∙ ap (λ (l : List ℕ). sets l (at + width) (le_bytes width x.b)) c.write_u32.ensures))
    ∙ four-apart x.out.now at x.a x.b x.c x.d
