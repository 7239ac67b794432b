-- `words::every` meets its contract: the lowest bit times a word of ones.
-- Assumes nothing.
use Rattle.bits.specs.Bits.{odd}
use Rattle.words.proofs.Columns.{every-lt, every-word}
use native.Mathlib.Omega.{arith}
use mathlib.Core.Path.{refl}
use Rattle.words.proofs.every.Goals as goal

pub overflow_mul-result : goal.overflow_mul-result
overflow_mul-result c = rw (every-word c.args.m _ refl) (omega (arith, every-lt 64 (odd c.args.m)))

pub returns : goal.returns
returns c = every-word c.args.m _ refl
