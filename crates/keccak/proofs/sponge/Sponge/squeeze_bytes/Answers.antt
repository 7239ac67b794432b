-- `keccak::sponge::Sponge::squeeze_bytes` meets its contract: the loop's invariant: halfway through giving out.
-- Assumes nothing.
use mathlib.Core.List.{[], ◌∷◌, ◌++◌}
use native.Mathlib.Numerals.{add-one}
use lib.Seq.{take-suc-set}
use lib.ListN.{take, length-set}
use Rattle.keccak.proofs.Steps.{halfway-more, halfway-end, joined-full, joined-part}
use Rattle.keccak.specs.Steps.{byte_at, squeezes, squeezed, squeeze_byte, turned}
use Rattle.keccak.specs.declared.sponge.Sponge.{Sponge}
use Prim.Native.Nat.{◌+◌}
use native.Mathlib.Omega.{arith}
use mathlib.Core.Path.{◌≡◌, ap, ◌∙◌}
use Rattle.keccak.proofs.sponge.Sponge.squeeze_bytes.Goals as goal
use Rattle.keccak.proofs.sponge.Sponge.squeeze_bytes.Goals.{Joined-at-rate, then-at-rate, else-at-rate}

-- the sponge where the ways of the turn meet
joined : (c : Joined-at-rate)
    → ◌≡◌ {A = Sponge} (record { lanes = c.if-at-rate.l; fill = c.if-at-rate.at }) (turned c.args.rate (record { lanes = c.loop-b.l; fill = c.loop-b.at }))
joined c =
    elim c.if-at-rate.branch [
      | then-at-rate w ↦ joined-full _ _ _ _ _ w.if-at-rate.true (w.l-is ∙ w.permute.ensures) w.at-is
      | else-at-rate w ↦ joined-part _ _ _ _ _ w.if-at-rate.false w.l-is w.at-is
    ]

pub loop-b-preserved : goal.loop-b-preserved
unfolding squeezed squeezes squeeze_byte
loop-b-preserved c =
    let b = c in
    let x = b.args in
    let l = c.loop-b in
    let s : Sponge = record { lanes = l.l; fill = l.at } in
    let e = joined (goal.at.loop-b-preserved c).Joined-at-rate in
    halfway-more x.rate b.requires.0 x.self x.out.now l.out s l.b-index 1 _ _ l.invariant
    (omega arith)
    (length-set l.out l.b-index _)
    (ap (λ (t : Sponge). record { lanes = t.lanes; fill = t.fill + 1 }) e)
    (rw (add-one, take-suc-set l.out l.b-index c.byte_at.result (omega (arith, l.invariant.kept)), c.byte_at.ensures)
    (ap (λ (t : Sponge). take l.b-index l.out ++ (byte_at t.lanes t.fill ∷ [])) e))

pub returns : goal.returns
returns c =
    let b = c in
    let l = c.loop-b in
    halfway-end b.args.rate b.requires.0 b.args.self b.args.out.now l.out _ l.b-index l.invariant (omega arith)
