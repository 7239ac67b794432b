-- Lists of bytes: the tail of one, two of them one after the other, the first n, all but these, and zeros.
-- Assumes nothing.
use mathlib.Core.List.{List, [], ◌∷◌, ◌++◌}
use Prim.Native.Nat.{ℕ, zero, suc, ◌<◌}
use native.Mathlib.Omega.{arith}
use lib.ListN.{get_or, take, drop, replicate}

-- each element is a byte
abbrev pub Bytes : List ℕ → Type 0
Bytes X = (i : ℕ) → get_or X i 0 < 256

pub bytes-tail : (x : ℕ) (X : List ℕ) → Bytes (x ∷ X) → Bytes X
bytes-tail x X h i = h (suc i)

pub bytes-append : (X Y : List ℕ) → Bytes X → Bytes Y → Bytes (X ++ Y)
bytes-append [] Y h k i = k i
bytes-append (x ∷ X) Y h k zero = h 0
bytes-append (x ∷ X) Y h k (suc i) = bytes-append X Y (bytes-tail x X h) k i

pub bytes_take : (n : ℕ) (X : List ℕ) → Bytes X → Bytes (take n X)
bytes_take zero X h i = omega arith
bytes_take (suc n) [] h i = omega arith
bytes_take (suc n) (x ∷ X) h zero = h 0
bytes_take (suc n) (x ∷ X) h (suc i) = bytes_take n X (bytes-tail x X h) i

pub bytes_drop : (n : ℕ) (X : List ℕ) → Bytes X → Bytes (drop n X)
bytes_drop zero X h i = h i
bytes_drop (suc n) [] h i = omega arith
bytes_drop (suc n) (x ∷ X) h i = bytes_drop n X (bytes-tail x X h) i

pub bytes-zeros : (n : ℕ) → Bytes (replicate n 0)
bytes-zeros zero i = omega arith
bytes-zeros (suc n) zero = omega arith
bytes-zeros (suc n) (suc i) = bytes-zeros n i
