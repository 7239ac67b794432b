-- `keccak::sponge::Sponge::squeeze` meets its contract: the three parts of the slice, one after the other.
-- Assumes nothing.
use Prim.Native.Nat.{◌%◌, ℕ, ◌-◌}
use lib.Seq.{length-take-le}
use lib.ListN.{take, length-take, length-drop, length-append, length}
use Rattle.keccak.proofs.Steps.{squeezed-room, squeezed-aligned, given-parts}
use Rattle.keccak.specs.Steps.{squeezed}
use native.Mathlib.Omega.{arith}
use mathlib.Core.Path.{◌≡◌, ap, ◌∙◌}
use Rattle.keccak.proofs.sponge.Sponge.squeeze.Goals as goal

pub squeeze_lanes-b-requires : goal.squeeze_lanes-b-requires
squeeze_lanes-b-requires c =
    let b = c in
    let x = b.args in
    let h : ℕ = (8 - x.self.fill % 8) % 8 in
    let n : length (take h x.out.now) ≡ h = length-take-le h x.out.now (omega arith) in
    let l : length c.squeeze_bytes-a.new.out ≡ h = c.squeeze_bytes-a.auto.out ∙ n in
    let e = c.squeeze_bytes-a.ensures.sponge ∙ ap (λ (k : ℕ). squeezed x.rate k x.self) n in (
      b.requires.0,
      (
        b.requires.1.0,
        (
          b.requires.1.1.0,
          (
            rw e (omega (arith, squeezed-aligned x.rate b.requires.0 b.requires.1.1.0 h x.self b.requires.1.1.1)),
            (
              rw e (squeezed-room x.rate b.requires.0 h x.self b.requires.1.1.1),
              simp (length-take, length-drop, length-append, l) (omega arith),
            ),
          ),
        ),
      ),
    )

pub squeeze_bytes-requires-2 : goal.squeeze_bytes-requires-2
squeeze_bytes-requires-2 c =
    let b = c in
    let x = b.args in (
      b.requires.0,
      (
        b.requires.1.0,
        rw c.squeeze_lanes-b.ensures.sponge
            (squeezed-room x.rate b.requires.0 _ _
            (rw c.squeeze_bytes-a.ensures.sponge (squeezed-room x.rate b.requires.0 _ x.self b.requires.1.1.1))),
      ),
    )

pub returns : goal.returns
returns c =
    let b = c in
    let x = b.args in
    let n = length x.out.now in
    let h : ℕ = (8 - x.self.fill % 8) % 8 in
    given-parts x.rate x.self _ _ _ x.out.now _ _ _ h (n - (n - h) % 8) b.requires.0 b.requires.1.1.1 (omega arith) (omega arith)
    c.squeeze_bytes-a.ensures
    c.squeeze_lanes-b.ensures
    c.squeeze_bytes-2.ensures
