-- `correcting_gate::correct` meets its contract.
-- Assumes nothing.
use mathlib.Core.Path.{ap}
use Prim.Native.Nat.{ℕ, ◌*◌, ◌/◌, ◌%◌}
use lib.Bits.{bit_xor, bit_and}
use Rattle.correcting_gate.proofs.Words.{word-done}
use Rattle.correcting_gate.proofs.correct.Goals as goal

pub returns : goal.returns
returns c =
    let x = c.args in record {
      correction_value = ap (bit_xor (bit_and (x.x / 2) (x.y / 2))) c.parity.ensures;
      word_value = word-done x.x x.y x.sa x.sb x.z x.o x.last _ _ _ _ _ c.parity.ensures c.every.ensures c.chosen-products.ensures
          c.every-2.ensures
          c.every-3.ensures;
      wire_value = ap (λ (k : ℕ). bit_xor (bit_and (bit_xor x.x (x.x / 2)) (bit_xor x.y (x.y / 2)) % 2) (3 * k)) c.parity-mask.ensures;
    }
