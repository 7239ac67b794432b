-- The lengths of the tree's nodes and leaves and of an opening.
-- Assumes nothing.
use native.Mathlib.Omega.{arith}
use native.Mathlib.Nat.{pow-succ'}
use mathlib.Core.Path.{◌≡◌, refl, ap, ◌∙◌}
use mathlib.Core.Bool.{Bool, true, false, cond}
use mathlib.Core.List.{List, [], ◌++◌}
use Prim.Native.Nat.{ℕ, zero, suc, ◌+◌, ◌-◌, ◌*◌, ◌^◌}
use lib.Dec.{ltb}
use lib.ListN.{length, take, drop, length-append, length-drop}
use lib.Seq.{length-take-le}
use Rattle.hashing.specs.declared.Context.{Context}
use Rattle.keccak.proofs.Lengths.{length-shake128}
use Rattle.tree.specs.Tree.{children, left_child, right_child, leaves_below, siblings_below, opened_below}

-- each child of a node has 16 bytes
module _ (j : Context) (k : ℕ) (v : List ℕ) where
  pub length-children : length (children j k v) ≡ 32
  unfolding children
  length-children = length-shake128 _ 32

  -- the left child comes first
  left_is : left_child j k v ≡ take 16 (children j k v)
  unfolding left_child
  left_is = refl

  right_is : right_child j k v ≡ drop 16 (children j k v)
  unfolding right_child
  right_is = refl

  pub length-left : length (left_child j k v) ≡ 16
  length-left = ap length left_is ∙ length-take-le 16 (children j k v) (omega (arith, length-children))

  pub length-right : length (right_child j k v) ≡ 16
  length-right = ap length right_is ∙ (length-drop 16 (children j k v) ∙ omega (arith, length-children))

-- 16 bytes for each leaf
pub length-leaves : (j : Context) (h k : ℕ) (v : List ℕ) → length v ≡ 16 → length (leaves_below j h k v) ≡ 16 * 2 ^ h
unfolding leaves_below
length-leaves j zero k v l = l
length-leaves j (suc h) k v l =
    length-append (leaves_below j h (2 * k) (left_child j k v)) (leaves_below j h (2 * k + 1) (right_child j k v))
    ∙ omega (arith, length-leaves j h (2 * k) (left_child j k v) (length-left j k v), length-leaves j h (2 * k + 1) (right_child j k v) (length-right j k v), pow-succ' 2 h)

-- both sides of a branch have one length
length-either : (b : Bool) (x y : List ℕ) (n : ℕ) → length x ≡ n → length y ≡ n → length (cond b x y) ≡ n
length-either true x y n p q = p
length-either false x y n p q = q

-- the sibling at the top comes first
siblings-start : (j : Context) (k p : ℕ) (v : List ℕ) → siblings_below j 0 k p v ≡ []
unfolding siblings_below
siblings-start j k p v = refl

siblings-step : (j : Context) (h k p : ℕ) (v : List ℕ)
    → siblings_below j (suc h) k p v
    ≡ cond (ltb p (2 ^ h)) (right_child j k v ++ siblings_below j h (2 * k) p (left_child j k v))
    (left_child j k v ++ siblings_below j h (2 * k + 1) (p - 2 ^ h) (right_child j k v))
unfolding siblings_below
siblings-step j h k p v = refl

-- 16 bytes for each level
pub length-siblings : (j : Context) (h k p : ℕ) (v : List ℕ) → length (siblings_below j h k p v) ≡ 16 * h
length-siblings j zero k p v = ap length (siblings-start j k p v)
length-siblings j (suc h) k p v =
    ap length (siblings-step j h k p v)
    ∙ length-either (ltb p (2 ^ h)) (right_child j k v ++ siblings_below j h (2 * k) p (left_child j k v))
    (left_child j k v ++ siblings_below j h (2 * k + 1) (p - 2 ^ h) (right_child j k v)) (16 * suc h)
    (length-append (right_child j k v) _ ∙ omega (arith, length-right j k v, length-siblings j h (2 * k) p (left_child j k v)))
    (length-append (left_child j k v) _ ∙ omega (arith, length-left j k v, length-siblings j h (2 * k + 1) (p - 2 ^ h) (right_child j k v)))

pub length-opened : (j : Context) (h k p : ℕ) (s : List ℕ) → length s ≡ 16 * h → length (opened_below j h k p s) ≡ 16 * 2 ^ h
unfolding opened_below
length-opened j zero k p s l = refl
length-opened j (suc h) k p s l =
    let t : length (take 16 s) ≡ 16 = length-take-le 16 s (omega arith) in
    let d : length (drop 16 s) ≡ 16 * h = length-drop 16 s ∙ omega arith in
    length-either (ltb p (2 ^ h)) _ _ (16 * 2 ^ suc h)
    (length-append (opened_below j h (2 * k) p (drop 16 s)) _ ∙ omega (arith, length-opened j h (2 * k) p (drop 16 s) d, length-leaves j h (2 * k + 1) (take 16 s) t, pow-succ' 2 h))
    (length-append (leaves_below j h (2 * k) (take 16 s)) _ ∙ omega (arith, length-opened j h (2 * k + 1) (p - 2 ^ h) (drop 16 s) d, length-leaves j h (2 * k) (take 16 s) t, pow-succ' 2 h))
