-- `mpc::tests::holds_rows` meets its contract.
-- Assumes nothing.
use mathlib.Core.Path.{ap}
use native.Mathlib.Omega.{arith}
use native.Mathlib.Nat.{mul-le-mul}
use Prim.Native.Nat.{ℕ, ◌*◌, ◌≤◌}
use lib.Dec.{eqb}
use lib.ListN.{length}
use Rattle.mpc.proofs.tests.holds_rows.Goals as goal

pub overflow_mul-result : goal.overflow_mul-result
overflow_mul-result c =
    let x = c.args in
    let p = c.requires in
    let h : c.oct.result ≤ 4194304 = omega (arith, c.oct.ensures) in
    let m : x.n * c.oct.result ≤ 64 * 4194304 = mul-le-mul p.0 h in
    omega (arith, m)

pub returns : goal.returns
returns c =
    let x = c.args in
    ap (λ (k : ℕ). eqb (length x.s.now) (x.n * k)) c.oct.ensures
