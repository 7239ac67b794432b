-- Numbers in the parts of a joined string.
-- Assumes nothing.
use mathlib.Core.Path.{◌≡◌, ap, ◌∙◌}
use mathlib.Core.List.{List, ◌++◌}
use Prim.Native.Nat.{ℕ, ◌+◌, ◌≤◌}
use native.Mathlib.Omega.{arith}
use lib.ListN.{length, get_or, get_or-append}
use lib.Seq.{get_or-append-add}
use Rattle.bits.specs.Bytes.{le_at}
use Rattle.bits.proofs.Little.{le_at-cong}

pub le_at-left : (n : ℕ) (a b : List ℕ) (k : ℕ) → k + n ≤ length a → le_at n (a ++ b) k ≡ le_at n a k
le_at-left n a b k h = le_at-cong n (a ++ b) a k k (λ i l. get_or-append a b 0 (k + i) (omega arith))

pub le_at-right : (n : ℕ) (a b : List ℕ) (p k : ℕ) → p ≡ length a + k → le_at n (a ++ b) p ≡ le_at n b k
le_at-right n a b p k e =
    le_at-cong n (a ++ b) b p k
    (λ i l.
    let q : p + i ≡ length a + (k + i) = omega arith in
    ap (λ (x : ℕ). get_or (a ++ b) x 0) q ∙ get_or-append-add a b (k + i) 0)
