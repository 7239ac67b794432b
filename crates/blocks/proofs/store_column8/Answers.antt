-- `blocks::store_column8` meets its contract: eight stores are a fill of eight places.
-- Assumes nothing.
use native.Mathlib.Omega.{arith}
use Prim.Native.Nat.{◌*◌, ◌/◌, ◌%◌, ◌^◌}
use lib.ListN.{length-set}
use Rattle.words.specs.Steps.{at}
use Rattle.blocks.specs.Steps.{stored_column}
use Rattle.words.proofs.Turns.{eight-fills}
use Rattle.blocks.proofs.store_column8.Goals as goal

pub bounds-memory-j-2 : goal.bounds-memory-j-2
bounds-memory-j-2 c = simp length-set (omega arith)

pub bounds-memory-j-3 : goal.bounds-memory-j-3
bounds-memory-j-3 c = simp length-set (omega arith)

pub bounds-memory-j-4 : goal.bounds-memory-j-4
bounds-memory-j-4 c = simp length-set (omega arith)

pub bounds-memory-j-5 : goal.bounds-memory-j-5
bounds-memory-j-5 c = simp length-set (omega arith)

pub bounds-memory-j-6 : goal.bounds-memory-j-6
bounds-memory-j-6 c = simp length-set (omega arith)

pub bounds-memory-j-7 : goal.bounds-memory-j-7
bounds-memory-j-7 c = simp length-set (omega arith)

pub bounds-memory-j-8 : goal.bounds-memory-j-8
bounds-memory-j-8 c = simp length-set (omega arith)

pub returns : goal.returns
unfolding stored_column
returns c =
    let x = c.args in
    eight-fills (λ t. at x.w t / 2 ^ (8 * x.b) % 256) x.j x.step _
