-- What only the contracts of steps use: no definition of the paper stands here.
-- Four states of 25 lanes stand in one list of 100, lane i of state k at 4 i + k.
-- Assumes nothing.
use Rattle.std.specs.Prelude.{List, ℕ, ◌+◌, ◌*◌, ◌/◌, ◌%◌, ◌^◌, ◌<◌, get_or, set, replicate}
use Rattle.std.specs.Int.Bits.{bit_xor}
use Rattle.bits.specs.Bits.{tabulate}
use Rattle.words.specs.Steps.{fill}
use Rattle.permutation.specs.Permutation.{θ, ρ, π, χ, lanes, lane_array}

-- lanes are numbers of 64 bits
abbrev pub Lanes64 : List ℕ → Type 0
Lanes64 a = (k : ℕ) → get_or a k 0 < 2 ^ 64

-- state k
unfoldable pub state_of : ℕ → List ℕ → List ℕ
state_of k s = tabulate 25 (λ i. get_or s (4 * i + k) 0)

-- f of each of the four
unfoldable pub each : (List ℕ → List ℕ) → List ℕ → List ℕ
each f s = tabulate 100 (λ j. get_or (f (state_of (j % 4) s)) (j / 4) 0)

-- b as state k
unfoldable pub put_state : ℕ → List ℕ → List ℕ → List ℕ
put_state k b s = fill (λ i. 4 * i + k) (λ i. get_or b i 0) 25 s

-- a, b, c and d as states 0 to 3
unfoldable pub joined : List ℕ → List ℕ → List ℕ → List ℕ → List ℕ
joined a b c d = put_state 3 d (put_state 2 c (put_state 1 b (put_state 0 a (replicate 100 0))))

-- the lanes after the steps θ, ρ, π, χ
unfoldable pub stepped : List ℕ → List ℕ
stepped a = lanes (χ (π (ρ (θ (lane_array a)))))

-- the same with c added to lane (0, 0)
unfoldable pub rounded_by : ℕ → List ℕ → List ℕ
rounded_by c a = set (stepped a) 0 (bit_xor (get_or (stepped a) 0 0) c)

-- plane y of 25 lanes
unfoldable pub plane : ℕ → List ℕ → List ℕ
plane y a = tabulate 5 (λ x. get_or a (5 * y + x) 0)
