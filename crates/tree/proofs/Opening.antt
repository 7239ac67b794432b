-- An opening gives every leaf but the one that it hides.
-- Assumes nothing.
use native.Mathlib.Omega.{arith}
use native.Mathlib.Nat.{pow-succ'}
use mathlib.Core.Path.{◌≡◌, sym, ap, ◌∙◌}
use mathlib.Core.Logic.{◌⊎◌, ⊎_elim, inl, inr}
use mathlib.Core.List.{List, ◌++◌, append_assoc}
use Prim.Native.Nat.{ℕ, zero, suc, ◌+◌, ◌-◌, ◌*◌, ◌^◌, ◌≤◌, ◌<◌}
use borrow.Author.Tests.{lt-ltb, le-ltb}
use lib.ListN.{length, get_or, take, drop, replicate, length-append, length-take, length-drop, length-replicate, get_or-append, drop_of_length-le}
use lib.Seq.{length-take-le, take_at, drop_at, take-append-le, drop-append-le, take-append-add, drop-append-add, get_or-append-add, get_or-take, get_or-drop, ext_get_or}
use Rattle.bits.specs.Bytes.{row_of}
use Rattle.bits.proofs.Numbers.{lt-or-le}
use Rattle.bits.proofs.Rows.{row-length, row-get_or}
use Rattle.tree.specs.Tree.{left_child, right_child, leaves_below, siblings_below, opened_below, hide, Opening, OpeningRows}
use Rattle.tree.proofs.Lengths.{length-left, length-right, length-leaves}

-- the hidden leaf is among the first, or among the others
hide-left : (p : ℕ) (L R : List ℕ) → 16 * p + 16 ≤ length L → hide p (L ++ R) ≡ hide p L ++ R
unfolding hide
hide-left p L R w =
    let a : 16 * p ≤ length L = omega arith in
    rw (take-append-le (16 * p) L R, drop-append-le (16 * p + 16) L R) (simp append_assoc)

hide-right : (p m : ℕ) (L R : List ℕ) → length L ≡ 16 * m → m ≤ p → hide p (L ++ R) ≡ L ++ hide (p - m) R
unfolding hide
hide-right p m L R l w =
    let a : 16 * p ≡ length L + 16 * (p - m) = omega arith in
    let b : 16 * p + 16 ≡ length L + (16 * (p - m) + 16) = omega arith in
    rw (b, drop-append-add L R (16 * (p - m) + 16), a, take-append-add L R (16 * (p - m))) (simp append_assoc)

opening-leaf : (p : ℕ) (v : List ℕ) → length v ≡ 16 → p < 2 ^ 0 → replicate 16 0 ≡ hide p v
unfolding hide
opening-leaf p v l w =
    let e : p ≡ 0 = omega arith in
    rw e (ap (λ (z : List ℕ). replicate 16 0 ++ z) (sym (drop_of_length-le v {i = 16 * 0 + 16} (omega arith))))

-- every other row is as it was
length-hide : (p : ℕ) (l : List ℕ) → 16 * p + 16 ≤ length l → length (hide p l) ≡ length l
unfolding hide
length-hide p l w = simp (length-append, length-take, length-drop, length-replicate {A = ℕ} 16 0) (omega arith)

apart : (p i k : ℕ) → k < 16 → (i ≡ p → ⊥) → (i * 16 + k < 16 * p) ⊎ (16 * p + 16 ≤ i * 16 + k)
apart p i k h other = ⊎_elim (λ x. inl x) (λ x. inr (omega (arith, other))) (lt-or-le (i * 16 + k) (16 * p))

hide-other : (p : ℕ) (l : List ℕ) (m : ℕ) → 16 * p + 16 ≤ length l → (m < 16 * p) ⊎ (16 * p + 16 ≤ m) → get_or (hide p l) m 0 ≡ get_or l m 0
unfolding hide
hide-other p l m w o =
    let t : length (take (16 * p) l) ≡ 16 * p = length-take-le (16 * p) l (omega arith) in
    let b : length (take (16 * p) l ++ replicate 16 0) ≡ 16 * p + 16 = length-append (take (16 * p) l) (replicate 16 0) ∙ omega (arith, length-replicate {A = ℕ} 16 0) in
    ⊎_elim
    (λ x. rw (get_or-append (take (16 * p) l ++ replicate 16 0) (drop (16 * p + 16) l) 0 m (omega arith), get_or-append (take (16 * p) l) (replicate 16 0) 0 m (omega arith)) (get_or-take (16 * p) l m 0 x))
    (λ x.
    let e : m ≡ length (take (16 * p) l ++ replicate 16 0) + (m - (16 * p + 16)) = omega arith in
    let f : 16 * p + 16 + (m - (16 * p + 16)) ≡ m = omega arith in
    ap (λ (q : ℕ). get_or ((take (16 * p) l ++ replicate 16 0) ++ drop (16 * p + 16) l) q 0) e
    ∙ (get_or-append-add (take (16 * p) l ++ replicate 16 0) (drop (16 * p + 16) l) (m - (16 * p + 16)) 0
    ∙ (get_or-drop (16 * p + 16) l (m - (16 * p + 16)) 0 ∙ ap (λ (q : ℕ). get_or l q 0) f)))
    o

hide-row : (p i : ℕ) (l : List ℕ) → 16 * p + 16 ≤ length l → 16 * i + 16 ≤ length l → (i ≡ p → ⊥) → row_of (hide p l) 16 i ≡ row_of l 16 i
hide-row p i l w x other =
    let n : length (hide p l) ≡ length l = length-hide p l w in
    let a : i * 16 + 16 ≤ length l = omega arith in
    let b : i * 16 + 16 ≤ length (hide p l) = omega arith in
    let u : length (row_of (hide p l) 16 i) ≡ 16 = row-length (hide p l) 16 i b in
    ext_get_or 0 (row_of (hide p l) 16 i) (row_of l 16 i) (u ∙ sym (row-length l 16 i a))
    (λ k h.
    let k16 : k < 16 = omega arith in
    row-get_or (hide p l) 16 i k b k16
    ∙ (hide-other p l (i * 16 + k) w (apart p i k k16 other) ∙ sym (row-get_or l 16 i k a k16)))

-- the leaves that follow from the opening of all but p are the leaves, with zeros at leaf p
pub opening : Opening
unfolding opened_below siblings_below leaves_below
opening j zero k p v l w = opening-leaf p v l w
opening j (suc h) k p v l w =
    let L : List ℕ = left_child j k v in
    let R : List ℕ = right_child j k v in
    let A : List ℕ = leaves_below j h (2 * k) L in
    let B : List ℕ = leaves_below j h (2 * k + 1) R in
    let a : length A ≡ 16 * 2 ^ h = length-leaves j h (2 * k) L (length-left j k v) in
    ⊎_elim
    (λ (s : p < 2 ^ h).
    let S : List ℕ = siblings_below j h (2 * k) p L in
    rw (lt-ltb _ _ s, drop_at R S 16 (length-right j k v), take_at R S 16 (length-right j k v), opening j h (2 * k) p L (length-left j k v) s)
    (sym (hide-left p A B (omega arith))))
    (λ (s : 2 ^ h ≤ p).
    let q : p - 2 ^ h < 2 ^ h = omega (arith, pow-succ' 2 h) in
    let S : List ℕ = siblings_below j h (2 * k + 1) (p - 2 ^ h) R in
    rw
    (le-ltb _ _ s, drop_at L S 16 (length-left j k v), take_at L S 16 (length-left j k v), opening j h (2 * k + 1) (p - 2 ^ h) R (length-right j k v) q)
    (sym (hide-right p (2 ^ h) A B a s)))
    (lt-or-le p (2 ^ h))

-- the same, at the row of every other leaf
pub opening-rows : OpeningRows
opening-rows j h k p i v l w x other =
    let n : length (leaves_below j h k v) ≡ 16 * 2 ^ h = length-leaves j h k v l in
    ap (λ (s : List ℕ). row_of s 16 i) (opening j h k p v l w) ∙ hide-row p i (leaves_below j h k v) (omega arith) (omega arith) other
