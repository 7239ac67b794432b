-- `keccak::sponge::Sponge::squeeze_lanes` meets its contract: the loop's invariant: halfway through giving out, at a lane's start.
-- Assumes nothing.
use Rattle.bits.specs.Bytes.{le_bytes}
use Prim.Native.Nat.{◌*◌, ◌/◌, ◌%◌, ℕ, ◌+◌}
use mathlib.Core.List.{List, ◌++◌}
use lib.ListN.{take, get_or}
use Rattle.keccak.proofs.WholeLanes.{squeeze-next-lane, take-lane}
use Rattle.keccak.proofs.Steps.{halfway-more, halfway-end, turned-aligned, joined-full, joined-part}
use Rattle.keccak.specs.declared.sponge.Sponge.{Sponge}
use Rattle.keccak.specs.Steps.{turned}
use native.Mathlib.Omega.{arith}
use mathlib.Core.Path.{◌≡◌, sym, ap, ◌∙◌}
use Rattle.keccak.proofs.sponge.Sponge.squeeze_lanes.Goals as goal
use Rattle.keccak.proofs.sponge.Sponge.squeeze_lanes.Goals.{Joined-from-rate, then-from-rate, else-from-rate}

-- the sponge where the ways of the turn meet
joined : (c : Joined-from-rate)
    → ◌≡◌ {A = Sponge} (record { lanes = c.if-from-rate.l; fill = c.if-from-rate.from }) (turned c.args.rate (record { lanes = c.loop-j.l; fill = c.loop-j.from }))
joined c =
    elim c.if-from-rate.branch [
      | then-from-rate w ↦ joined-full _ _ _ _ _ w.if-from-rate.true (w.l-is ∙ w.permute.ensures) w.from-is
      | else-from-rate w ↦ joined-part _ _ _ _ _ w.if-from-rate.false w.l-is w.from-is
    ]

-- the turned block is at a lane's start
starts : (c : Joined-from-rate) → c.if-from-rate.from % 8 ≡ 0
starts c =
    let b = c in
    let l = c.loop-j in
    rw (ap (λ (t : Sponge). t.fill) (joined c))
    (turned-aligned b.args.rate b.requires.0 b.requires.1.1.0 (record { lanes = l.l; fill = l.from }) l.invariant.0.room ∙ l.invariant.1)

pub loop-j-preserved : goal.loop-j-preserved
loop-j-preserved c =
    let b = c in
    let x = b.args in
    let l = c.loop-j in
    let s : Sponge = record { lanes = l.l; fill = l.from } in
    let next : 8 * (l.j + 1) ≡ 8 * l.j + 8 = omega arith in
    let e = joined (goal.at.loop-j-preserved c).Joined-from-rate in
    let n = squeeze-next-lane x.rate s b.requires.0 b.requires.1.1.0 l.invariant.1 l.invariant.0.room in
    let a = starts (goal.at.loop-j-preserved c).Joined-from-rate in (
      rw next (halfway-more x.rate b.requires.0 x.self x.out.now l.out s (8 * l.j) 8 _ _ l.invariant.0
          (omega arith)
          c.write_u64.auto.s
          (ap (λ (t : Sponge). record { lanes = t.lanes; fill = t.fill + 8 }) e ∙ sym n.1)
          (rw c.write_u64.ensures
          (take-lane l.out (8 * l.j) _ (omega (arith, l.invariant.0.kept))
          ∙ ap (λ (t : Sponge). take (8 * l.j) l.out ++ le_bytes 8 (get_or t.lanes (t.fill / 8) 0)) e
          ∙ ap (λ (v : List ℕ). take (8 * l.j) l.out ++ v) (sym n.0)))),
      omega arith,
    )

pub returns : goal.returns
returns c =
    let b = c in
    let l = c.loop-j in
    halfway-end b.args.rate b.requires.0 b.args.self b.args.out.now l.out _ (8 * l.j) l.invariant.0 (omega arith)
