-- What only the contracts of steps use: no definition of the paper stands here.
-- Four fields as bytes.
-- Assumes nothing.
use Rattle.std.specs.Prelude.{List, ◌++◌, ℕ}
use Rattle.bits.specs.Bytes.{le_bytes}
use Rattle.circuit.specs.File.{width}

unfoldable pub four_bytes : ℕ → ℕ → ℕ → ℕ → List ℕ
four_bytes a b c d = le_bytes width a ++ (le_bytes width b ++ (le_bytes width c ++ le_bytes width d))
