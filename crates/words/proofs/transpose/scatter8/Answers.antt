-- `words::transpose::scatter8` meets its contract: eight stores are a fill of eight places.
-- Assumes nothing.
use Rattle.words.proofs.Turns.{eight-stores}
use native.Mathlib.Omega.{arith}
use lib.ListN.{length-set}
use Rattle.words.proofs.transpose.scatter8.Goals as goal

pub bounds-memory-j-2 : goal.bounds-memory-j-2
bounds-memory-j-2 c = simp length-set (omega arith)

pub bounds-memory-j-3 : goal.bounds-memory-j-3
bounds-memory-j-3 c = simp length-set (omega arith)

pub bounds-memory-j-4 : goal.bounds-memory-j-4
bounds-memory-j-4 c = simp length-set (omega arith)

pub bounds-memory-j-5 : goal.bounds-memory-j-5
bounds-memory-j-5 c = simp length-set (omega arith)

pub bounds-memory-j-6 : goal.bounds-memory-j-6
bounds-memory-j-6 c = simp length-set (omega arith)

pub bounds-memory-j-7 : goal.bounds-memory-j-7
bounds-memory-j-7 c = simp length-set (omega arith)

pub bounds-memory-j-8 : goal.bounds-memory-j-8
bounds-memory-j-8 c = simp length-set (omega arith)

pub returns : goal.returns
returns c = eight-stores c.args.x c.args.j c.args.step _
