-- `keccak::state::xor_lanes` meets its contract: the loop's invariant: what is left, XORed in from here, gives what all gives from the start.
-- Assumes nothing.
use Rattle.keccak.proofs.WholeLanes.{xor_bytes-lane-turn}
use Prim.Native.Nat.{◌+◌, ◌*◌}
use lib.ListN.{drop_of_length-le}
use Rattle.keccak.specs.Steps.{xor_bytes}
use native.Mathlib.Omega.{arith}
use mathlib.Core.Path.{sym, ap, ◌∙◌}
use Rattle.keccak.proofs.state.xor_lanes.Goals as goal

pub loop-j-preserved : goal.loop-j-preserved
loop-j-preserved c =
    let x = c.args in
    let l = c.loop-j in
    xor_bytes-lane-turn x.part.now x.k l.j l.l c.read_u64.result
    (λ n. (c.shared_slice_known-1.given n).fits)
    (omega arith)
    (omega arith)
    c.read_u64.ensures
    ∙ l.invariant

pub returns : goal.returns
unfolding xor_bytes
returns c =
    let x = c.args in
    let l = c.loop-j in
    ap (xor_bytes l.l (x.k + 8 * l.j)) (sym (drop_of_length-le x.part.now {i = 8 * l.j} (omega arith))) ∙ l.invariant
