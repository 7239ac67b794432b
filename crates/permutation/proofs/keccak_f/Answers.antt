-- `permutation::keccak_f` meets its contract. The loop's invariant: the lanes are those after ir rounds.
-- Assumes nothing.
use mathlib.Core.Path.{◌≡◌, ap, ◌∙◌}
use Prim.Native.Nat.{ℕ}
use native.Mathlib.Omega.{arith}
use borrow.Author.Rules.{rules}
use lib.ListN.{get_or}
use mir.Syntax.{w64}
use mir.Val.{Fits}
use Rattle.permutation.specs.Permutation.{rounds, lanes, lane_array}
use Rattle.permutation.proofs.Rounds.{rounds-none, rounds-more}
use Rattle.permutation.proofs.keccak_f.Goals as goal

pub loop-ir-init : goal.loop-ir-init
loop-ir-init c =
    let a = c.args.a in
    rounds-none a (search rules) (λ k. let h : Fits w64 (get_or a k 0) = search rules in h.fits)

pub loop-ir-preserved : goal.loop-ir-preserved
loop-ir-preserved c =
    let l = c.loop-ir in
    let A = lane_array c.args.a in
    rounds-more A l.ir l.s c.round-next.result l.invariant c.round-next.ensures

pub returns : goal.returns
returns c =
    let l = c.loop-ir in
    let e : l.ir ≡ 24 = omega arith in
    l.invariant ∙ ap (λ (n : ℕ). lanes (rounds n (lane_array c.args.a))) e
