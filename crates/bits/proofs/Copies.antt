-- Copies of byte lists, and lists that are cleared.
-- Assumes nothing.
use native.Mathlib.Omega.{arith}
use native.Mathlib.Numerals.{add-one}
use mathlib.Core.Path.{◌≡◌, sym, ap, ap₂, ◌∙◌}
use mathlib.Core.List.{List, ◌++◌, append-nil, append_assoc}
use Prim.Native.Nat.{ℕ, ◌+◌, ◌-◌, ◌≤◌, ◌<◌}
use borrow.Rule.Slice.PartMut.{mid_of, post_of, put_mid, mid_len, Post-is}
use lib.ListN.{length, get_or, set, take, drop, replicate, length-replicate}
use lib.Seq.{sets, sets-eq, take-suc, take-suc-set, take_all, drop-length, length-take-le}

-- one more byte is copied
pub copy_more : (s d : List ℕ) (i : ℕ) → i < length d → length d ≡ length s → take i d ≡ take i s
    → take (i + 1) (set d i (get_or s i 0)) ≡ take (i + 1) s
copy_more s d i h l e =
    let w : i < length s = omega arith in
    rw (add-one i) (take-suc-set d i (get_or s i 0) h ∙ rw e (sym (take-suc s i 0 w)))

-- all bytes are copied
pub copy-end : (s d : List ℕ) (i : ℕ) → length d ≤ i → length d ≡ length s → take i d ≡ take i s → d ≡ s
copy-end s d i h l e = sym (take_all i d h) ∙ (e ∙ take_all i s (omega arith))

-- all bytes are zero
pub fill_end : (d : List ℕ) (i : ℕ) → i ≤ length d → length d ≤ i → replicate i 0 ++ drop i d ≡ replicate (length d) 0
fill_end d i a b =
    let e : i ≡ length d = omega arith in
    rw (e, drop-length d) (append-nil _)

-- the first k of n zeros
pub prefix-length : (k n : ℕ) → k ≤ n → length (take k (replicate {A = ℕ} n 0)) ≡ k
prefix-length k n h = length-take-le k (replicate {A = ℕ} n 0) (omega (arith, length-replicate {A = ℕ} n 0))

-- a part is cleared
pub part-cleared : (s d z : List ℕ) (a len : ℕ) → a + len ≤ length d → d ≡ s → z ≡ replicate (length (mid_of a (a + len - a) d)) 0
    → put_mid a (a + len - a) d z ≡ take a s ++ replicate len 0 ++ drop (a + len) s
part-cleared s d z a len h e q =
    let l : length (mid_of a (a + len - a) d) ≡ len = mid_len a (a + len) d h ∙ omega arith in
    sym (append_assoc (take a d) z (post_of a (a + len - a) d))
    ∙ ap₂ ◌++◌ (ap₂ ◌++◌ (ap (take a) e) (q ∙ ap (λ (n : ℕ). replicate n 0) l)) (Post-is a (a + len) d (omega arith) ∙ ap (drop (a + len)) e)

-- a part is stored
pub part-stored : (s r vs : List ℕ) (a n : ℕ) → a + n ≤ length s → length vs ≡ n → r ≡ vs → put_mid a (a + n - a) s r ≡ sets s a vs
part-stored s r vs a n h l e =
    sym (append_assoc (take a s) r (post_of a (a + n - a) s))
    ∙ ap₂ (λ (x y : List ℕ). take a s ++ x ++ y) e (Post-is a (a + n) s (omega arith) ∙ ap (λ (k : ℕ). drop (a + k) s) (sym l))
    ∙ sym (sets-eq vs s a (omega arith))
