-- What the test of the counts M and τ says.
-- Assumes nothing.
use mathlib.Core.Path.{◌≡◌}
use mathlib.Core.Bool.{true, ◌&&◌}
use Prim.Native.Nat.{ℕ, ◌≤◌, ◌<◌}
use borrow.Author.Tests.{leb-true, ltb-true}
use lib.Dec.{leb, ltb}
use Rattle.bits.proofs.Tests.{and-true-left, and-true-right}
use Rattle.seeds.specs.Operations.{are_counts}

-- M instances, τ of them chosen
pub record Fit (M tau : ℕ) : Type 0 where
  pub least : 2 ≤ M
  pub most : M ≤ 512
  pub some : 1 ≤ tau
  pub below : tau < M

pub counts-fit : (M tau : ℕ) → are_counts M tau ≡ true → Fit M tau
unfolding are_counts
counts-fit M tau e =
    let a = leb 2 M in
    let b = leb M 512 in
    let c = leb 1 tau in
    let d = ltb tau M in
    let e1 = and-true-right a (b && (c && d)) e in
    let e2 = and-true-right b (c && d) e1 in
    record {
      least = leb-true 2 M (and-true-left a (b && (c && d)) e);
      most = leb-true M 512 (and-true-left b (c && d) e1);
      some = leb-true 1 tau (and-true-left c d e2);
      below = ltb-true tau M (and-true-right c d e2);
    }
