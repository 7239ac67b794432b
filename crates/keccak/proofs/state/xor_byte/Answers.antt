-- `keccak::state::xor_byte` meets its contract: a byte shifted up within its lane loses no bit.
-- Assumes nothing.
use Prim.Native.Nat.{◌%◌, ◌*◌}
use lib.Pow.{shl_exact}
use Rattle.keccak.specs.Steps.{xor_byte}
use native.Mathlib.Omega.{arith}
use Rattle.keccak.proofs.state.xor_byte.Goals as goal

pub returns : goal.returns
unfolding xor_byte
returns c = let x = c.args in rw (shl_exact {a = x.b} 8 (8 * (x.k % 8)) 64 (omega arith) (omega arith))
