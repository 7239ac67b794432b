-- What only the contracts of steps use: no definition of the paper stands here.
-- Assumes nothing.
use Rattle.std.specs.Prelude.{false, ℕ, get_or}
use Rattle.bits.specs.Bits.{from_bits}
use Rattle.permutation.specs.Permutation.{RC}

-- RC of the round ir as a number
unfoldable pub round_constant : ℕ → ℕ
round_constant ir = from_bits 64 (λ z. get_or (RC ir) z false)
