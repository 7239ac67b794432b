-- Levels of the tree: laws of `up`, `is_above` and `has_leaf`.
-- Assumes nothing.
use native.Mathlib.Omega.{arith}
use native.Mathlib.Nat.{pow-succ'}
use mathlib.Core.Path.{◌≡◌, refl, sym, ap, ◌∙◌}
use mathlib.Core.Bool.{Bool, true, false, ◌&&◌, ◌||◌, or-true}
use mathlib.Core.Logic.{⊎_elim}
use Prim.Native.Nat.{ℕ, zero, suc, ◌+◌, ◌*◌, ◌/◌, ◌^◌, ◌≤◌, ◌<◌}
use borrow.Author.Tests.{eqb-true, eq-eqb}
use lib.Dec.{eqb}
use lib.Pow.{pow_pos}
use Rattle.bits.proofs.Numbers.{lt-or-le}
use Rattle.cover.specs.Cover.{up, is_above, has_leaf}
use Rattle.cover.proofs.Search.{both, and_first, and_second, same_test, some-true, some_at}

pub up-zero : (x : ℕ) → up 0 x ≡ x
unfolding up
up-zero x = refl

pub up_suc : (e x : ℕ) → up (suc e) x ≡ up e (x / 2)
unfolding up
up_suc e x = refl

pub up-half : (e x : ℕ) → up (suc e) x ≡ up e x / 2
unfolding up
up-half zero x = refl
up-half (suc e) x = up-half e (x / 2)

pub up_up : (d e x : ℕ) → up d (up e x) ≡ up (e + d) x
unfolding up
up_up d zero x = let q : d ≡ 0 + d = omega arith in ap (λ (n : ℕ). up n x) q
up_up d (suc e) x = let q : suc (e + d) ≡ suc e + d = omega arith in up_up d e (x / 2) ∙ ap (λ (n : ℕ). up n x) q

pub up_le : (e x : ℕ) → up e x ≤ x
unfolding up
up_le zero x = omega arith
up_le (suc e) x = omega (arith, up_le e (x / 2))

-- a node of level h or lower has a node above it on each of the h levels above
pub up-node : (h e x : ℕ) → 2 ^ h ≤ x → e ≤ h → 1 ≤ up e x
unfolding up
up-node h zero x l w = omega (arith, pow_pos h)
up-node zero (suc e) x l w = absurd (omega arith)
up-node (suc h) (suc e) x l w = up-node h e (x / 2) (omega (arith, pow-succ' 2 h)) (omega arith)

-- level h is reached from the root in h steps, and not in fewer
pub up_root : (h x : ℕ) → 2 ^ h ≤ x → x < 2 ^ suc h → up h x ≡ 1
unfolding up
up_root zero x l u = omega arith
up_root (suc h) x l u = up_root h (x / 2) (omega (arith, pow-succ' 2 h)) (omega (arith, pow-succ' 2 (suc h)))

pub up-inside : (h e x : ℕ) → x < 2 ^ suc h → 1 ≤ up e x → e ≤ h
unfolding up
up-inside h zero x u p = omega arith
up-inside zero (suc e) x u p = absurd (omega (arith, up_le e (x / 2)))
up-inside (suc h) (suc e) x u p = omega (arith, up-inside h e (x / 2) (omega (arith, pow-succ' 2 (suc h))) p)

module _ (h : ℕ) where
  -- a node is above x if it is some levels up from x
  pub above : (e k x : ℕ) → x < 2 ^ suc h → 1 ≤ k → up e x ≡ k → is_above h k x ≡ true
  unfolding is_above
  above e k x u p q = some-true (suc h) (λ n. eqb (up n x) k) e (omega (arith, up-inside h e x u (omega arith))) (eq-eqb (up e x) k q)

  pub levels : (k x : ℕ) → is_above h k x ≡ true → (e : ℕ) × (e ≤ h) × (up e x ≡ k)
  unfolding is_above
  levels k x t = let r = some_at (suc h) (λ n. eqb (up n x) k) t in (r.0, omega (arith, r.1), eqb-true (up r.0 x) k r.2)

  module _ (leaves : ℕ → Bool) where
    pub has : (i e k : ℕ) → i < 2 ^ h → leaves i ≡ true → 1 ≤ k → up e (2 ^ h + i) ≡ k → has_leaf h leaves k ≡ true
    unfolding has_leaf
    has i e k l t p q =
        some-true (2 ^ h) (λ n. leaves n && is_above h k (2 ^ h + n)) i l (both t (above e k (2 ^ h + i) (omega (arith, pow-succ' 2 h)) p q))

    pub leaf-of : (k : ℕ) → has_leaf h leaves k ≡ true
        → (i : ℕ) × (i < 2 ^ h) × (leaves i ≡ true) × (is_above h k (2 ^ h + i) ≡ true)
    unfolding has_leaf
    leaf-of k t =
        let r = some_at (2 ^ h) (λ n. leaves n && is_above h k (2 ^ h + n)) t in
        (r.0, r.1, and_first (leaves r.0) _ r.2, and_second (leaves r.0) _ r.2)

    pub has-node : (k : ℕ) → has_leaf h leaves k ≡ true → 1 ≤ k
    has-node k t =
        let r = leaf-of k t in
        let s = levels k (2 ^ h + r.0) r.3 in
        omega (arith, up-node h s.0 (2 ^ h + r.0) (omega arith) s.1, s.2)

    -- what is below a node is below every node above it
    pub has-up : (d k : ℕ) → has_leaf h leaves k ≡ true → 1 ≤ up d k → has_leaf h leaves (up d k) ≡ true
    has-up d k t p =
        let r = leaf-of k t in
        let s = levels k (2 ^ h + r.0) r.3 in
        has r.0 (s.0 + d) (up d k) r.1 r.2 p (sym (up_up d s.0 (2 ^ h + r.0)) ∙ ap (up d) s.2)

    -- at or below a leaf is that leaf alone
    pub at_leaf : (i : ℕ) → i < 2 ^ h → has_leaf h leaves (2 ^ h + i) ≡ leaves i
    at_leaf i l = same_test (has_leaf h leaves (2 ^ h + i)) (leaves i) down
        (λ t. has i 0 (2 ^ h + i) l t (omega (arith, pow_pos h)) (up-zero (2 ^ h + i)))
      where
        same : (e j : ℕ) → j < 2 ^ h → up e (2 ^ h + j) ≡ 2 ^ h + i → j ≡ i
        same zero j w q = omega (arith, up-zero (2 ^ h + j))
        same (suc e) j w q = absurd (omega (arith, up_suc e (2 ^ h + j), up_le e ((2 ^ h + j) / 2)))

        down : has_leaf h leaves (2 ^ h + i) ≡ true → leaves i ≡ true
        down t =
            let r = leaf-of (2 ^ h + i) t in
            let s = levels (2 ^ h + i) (2 ^ h + r.0) r.3 in
            ap leaves (sym (same s.0 r.0 r.1 s.2)) ∙ r.2

    -- below any other node are its children
    pub at-node : (k : ℕ) → 1 ≤ k → k < 2 ^ h → has_leaf h leaves k ≡ has_leaf h leaves (2 * k) || has_leaf h leaves (2 * k + 1)
    at-node k p u = same_test (has_leaf h leaves k) (has_leaf h leaves (2 * k) || has_leaf h leaves (2 * k + 1)) down
        (λ t. either (has_leaf h leaves (2 * k)) (has_leaf h leaves (2 * k + 1)) (parent (2 * k) (omega arith)) (parent (2 * k + 1) (omega arith)) t)
      where
        either : (a b : Bool) → (a ≡ true → has_leaf h leaves k ≡ true) → (b ≡ true → has_leaf h leaves k ≡ true) → a || b ≡ true
            → has_leaf h leaves k ≡ true
        either true b f g t = f refl
        either false b f g t = g t

        parent : (c : ℕ) → c / 2 ≡ k → has_leaf h leaves c ≡ true → has_leaf h leaves k ≡ true
        parent c e t =
            let q : up 1 c ≡ k = up_suc 0 c ∙ up-zero (c / 2) ∙ e in
            ap (has_leaf h leaves) (sym q) ∙ has-up 1 c t (omega arith)

        child : (i e : ℕ) → i < 2 ^ h → leaves i ≡ true → up e (2 ^ h + i) ≡ k → has_leaf h leaves (2 * k) || has_leaf h leaves (2 * k + 1) ≡ true
        child i zero l t q = absurd (omega (arith, up-zero (2 ^ h + i)))
        child i (suc e) l t q =
            let c : ℕ = up e (2 ^ h + i) in
            let z : c / 2 ≡ k = sym (up-half e (2 ^ h + i)) ∙ q in
            ⊎_elim
            (λ (w : c < 2 * k + 1). ap (λ (b : Bool). b || has_leaf h leaves (2 * k + 1)) (has i e (2 * k) l t (omega arith) (omega arith)))
            (λ (w : 2 * k + 1 ≤ c).
            ap (λ (b : Bool). has_leaf h leaves (2 * k) || b) (has i e (2 * k + 1) l t (omega arith) (omega arith)) ∙ or-true (has_leaf h leaves (2 * k)))
            (lt-or-le c (2 * k + 1))

        down : has_leaf h leaves k ≡ true → has_leaf h leaves (2 * k) || has_leaf h leaves (2 * k + 1) ≡ true
        down t =
            let r = leaf-of k t in
            let s = levels k (2 ^ h + r.0) r.3 in
            child r.0 s.0 r.1 r.2 s.2
