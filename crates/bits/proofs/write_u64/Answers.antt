-- `bits::write_u64` meets its contract: the two halves are written one after the other.
-- Assumes nothing.
use mathlib.Core.Path.{ap, ◌∙◌}
use Prim.Native.Nat.{ℕ, ◌+◌, ◌/◌, ◌^◌}
use Rattle.bits.specs.Bytes.{le_bytes}
use lib.Seq.{sets}
use Rattle.bits.proofs.Little.{write-parts}
use mathlib.Core.List.{List}
use Rattle.bits.proofs.write_u64.Goals as goal

pub returns : goal.returns
returns c =
    let second = c in
    let first = second in
    let a = first.args in
    second.write_u32-2.ensures ∙ ap (λ (l : List ℕ). sets l (a.at + 4) (le_bytes 4 (a.x / 256 ^ 4))) first.write_u32.ensures ∙ write-parts 4 4 a.s.now a.at a.x
