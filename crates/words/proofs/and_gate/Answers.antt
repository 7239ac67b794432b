-- `words::and_gate` meets its contract, on words and on columns.
-- Assumes nothing.
use mathlib.Core.Path.{◌≡◌, refl, ap}
use Prim.Native.Nat.{ℕ, ◌^◌, ◌<◌}
use lib.Bits.{bit_xor, bit_and}
use Rattle.bits.specs.Bits.{odd}
use Rattle.words.specs.Words.{every}
use Rattle.words.proofs.Columns.{every-lt}
use Rattle.words.proofs.Gate.{and-columns, and-masked, and_word}
use Rattle.words.proofs.and_gate.Goals as goal

every-fits : (m x : ℕ) → x ≡ every 64 (odd m) → x < 2 ^ 64
every-fits m x e = rw e (every-lt 64 (odd m))

pub returns : goal.returns
returns c =
    let start = c in
    let x = start.args in
    let f = start.ranges in
    let a = c.every.ensures in
    let b = c.every-2.ensures in
    let w = and_word x.hidden x.shown _ _ x.sa x.sb x.z x.o f.shown.fits (every-fits x.ma _ a) (every-fits x.mb _ b)
    f.sa.fits f.sb.fits f.z.fits f.o.fits x.ma x.mb _ _ a b c.chosen-own.ensures refl in
    let m = and-masked x.ma x.mb _ _ c.parity.ensures in record {
      word_value = w;
      masked_value = ap (bit_xor (bit_and x.ma x.mb)) c.parity.ensures;
      and_columns = and-columns _ _ _ _ _ _ _ _ _ _ w m;
    }
