-- `upgrade::write_fields` meets its contract. The loop's invariant: the first k fields are written.
-- Assumes nothing.
use mathlib.Core.Path.{◌≡◌, refl, ap, ◌∙◌}
use mathlib.Core.Logic.{inl}
use Prim.Native.Nat.{ℕ, ◌-◌}
use native.Mathlib.Omega.{arith}
use lib.ListN.{length}
use lib.Seq.{sets, length-sets}
use Rattle.building.specs.Files.{bytes_of}
use Rattle.building.proofs.Bytes.{bytes-more, bytes-none}
use Rattle.upgrade.specs.Upgrade.{old_fields}
use Rattle.upgrade.proofs.write_fields.Goals as goal

pub loop-k-init : goal.loop-k-init
loop-k-init c =
    let x = c.args in
    (refl, bytes-none (old_fields x.old.now) x.out.now)

pub field-x-requires : goal.field-x-requires
field-x-requires c = (inl refl, omega arith)

pub loop-k-preserved : goal.loop-k-preserved
loop-k-preserved c =
    let x = c.args in
    let i = c.loop-k.invariant in
    let e = bytes-more (old_fields x.old.now) x.out.now _ _ _ _ i.1 c.field-x.ensures c.write_u32.ensures in
    (ap length e ∙ length-sets x.out.now 0 (bytes_of (old_fields x.old.now) _), e)

pub returns : goal.returns
returns c =
    let x = c.args in
    let i = c.loop-k.invariant in
    let e : c.loop-k.k ≡ x.n = omega arith in
    i.1 ∙ ap (λ (k : ℕ). sets x.out.now 0 (bytes_of (old_fields x.old.now) k)) e
