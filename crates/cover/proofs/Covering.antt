-- The cover opens every unhidden leaf, each by one node, and no hidden one; and no shorter list of nodes does.
-- Assumes nothing.
use native.Mathlib.Omega.{arith}
use native.Mathlib.Nat.{pow-succ'}
use mathlib.Core.Path.{◌≡◌, refl, sym, ap, ◌∙◌}
use mathlib.Core.Bool.{Bool, true, false, not, ◌&&◌}
use mathlib.Core.Logic.{⊎_elim}
use mathlib.Core.List.{List}
use Prim.Native.Nat.{ℕ, zero, suc, ◌+◌, ◌-◌, ◌/◌, ◌^◌, ◌≤◌, ◌<◌}
use borrow.Author.Tests.{ltb-true, lt-ltb, not-true}
use lib.Dec.{ltb}
use lib.ListN.{length}
use Rattle.bits.proofs.Numbers.{lt-or-le}
use Rattle.cover.specs.Cover.{some, those, some_of, up, is_above, has_leaf, hidden, unhidden, opened, cover, follows, Opens, OneAbove, ExactlyOne, CoverLeast, CoverLength}
use Rattle.cover.proofs.Search.{both, and_first, and_second, clash, not_so, some-true, some_at, some_of-at, some_of-those, own-places, length-others}
use Rattle.cover.proofs.Levels.{up-zero, up_suc, up-half, up_up, up_le, up-node, up_root, above, levels, has, leaf-of, has-node, has-up, at_leaf}

-- where a test fails at 0 and passes at n, it turns somewhere between
turn : (n : ℕ) (f : ℕ → Bool) → f 0 ≡ false → f n ≡ true → (e : ℕ) × (e < n) × (f e ≡ false) × (f (suc e) ≡ true)
turn zero f a b = absurd (clash b a)
turn (suc n) f a b = go (f n) refl (turn n f a)
  where
    go : (t : Bool) → f n ≡ t → (f n ≡ true → (e : ℕ) × (e < n) × (f e ≡ false) × (f (suc e) ≡ true))
        → (e : ℕ) × (e < suc n) × (f e ≡ false) × (f (suc e) ≡ true)
    go true q below = let r = below q in (r.0, omega (arith, r.1), r.2, r.3)
    go false q below = (n, omega arith, q, b)

module _ (M : ℕ) (hides : ℕ → Bool) (i : ℕ) where
  hidden-is : i < M → hides i ≡ true → hidden M hides i ≡ true
  unfolding hidden
  hidden-is l t = both (lt-ltb i M l) t

  is_hidden : hidden M hides i ≡ true → (i < M) × (hides i ≡ true)
  unfolding hidden
  is_hidden t = (ltb-true i M (and_first _ _ t), and_second (ltb i M) _ t)

  pub unhidden-is : i < M → hides i ≡ false → unhidden M hides i ≡ true
  unfolding unhidden
  unhidden-is l t = both (lt-ltb i M l) (ap not t)

  is-unhidden : unhidden M hides i ≡ true → (i < M) × (hides i ≡ false)
  unfolding unhidden
  is-unhidden t = (ltb-true i M (and_first _ _ t), not-true (hides i) (and_second (ltb i M) _ t))

-- what it is to be opened
module _ (h M : ℕ) (hides : ℕ → Bool) where
  opened-is : (k : ℕ) → has_leaf h (unhidden M hides) k ≡ true → has_leaf h (hidden M hides) k ≡ false
      → has_leaf h (hidden M hides) (k / 2) ≡ true → opened h M hides k ≡ true
  unfolding opened
  opened-is k a b c = both a (both (ap not b) c)

  pub opened-unhidden : (k : ℕ) → opened h M hides k ≡ true → has_leaf h (unhidden M hides) k ≡ true
  unfolding opened
  opened-unhidden k t = and_first _ _ t

  pub opened-rest : (k : ℕ) → opened h M hides k ≡ true → (has_leaf h (hidden M hides) k ≡ false) × (has_leaf h (hidden M hides) (k / 2) ≡ true)
  unfolding opened
  opened-rest k t =
      let H : ℕ → Bool = has_leaf h (hidden M hides) in
      let r : not (H k) && H (k / 2) ≡ true = and_second (has_leaf h (unhidden M hides) k) _ t in
      (not-true (H k) (and_first _ _ r), and_second (not (H k)) _ r)

  -- every node above an opened one has a hidden leaf
  no-higher : (d k n : ℕ) → opened h M hides k ≡ true → up (suc d) k ≡ n → 1 ≤ n → has_leaf h (hidden M hides) n ≡ true
  no-higher d k n t q p =
      let z : up d (k / 2) ≡ n = sym (up_suc d k) ∙ q in
      ap (has_leaf h (hidden M hides)) (sym z) ∙ has-up h (hidden M hides) d (k / 2) (opened-rest k t).1 (omega arith)

  -- of two nodes above x, one opened and one without a hidden leaf, the opened one is the higher
  higher : (e a k n x : ℕ) → up e x ≡ k → up a x ≡ n → opened h M hides k ≡ true → has_leaf h (hidden M hides) n ≡ false → 1 ≤ n
      → (d : ℕ) × (up d n ≡ k)
  higher e a k n x q r t f p =
      ⊎_elim
      (λ (w : e < a).
      let s : e + suc (a - suc e) ≡ a = omega arith in
      absurd (clash (no-higher (a - suc e) k n t (ap (up (suc (a - suc e))) (sym q) ∙ up_up (suc (a - suc e)) e x ∙ ap (λ (m : ℕ). up m x) s ∙ r) p) f))
      (λ (w : a ≤ e).
      let s : a + (e - a) ≡ e = omega arith in
      (e - a, ap (up (e - a)) (sym r) ∙ up_up (e - a) a x ∙ ap (λ (m : ℕ). up m x) s ∙ q))
      (lt-or-le e a)

  -- at most one opened node is at or above a node
  one-above : (x k m : ℕ) → opened h M hides k && is_above h k x ≡ true → opened h M hides m && is_above h m x ≡ true → k ≡ m
  one-above x k m s t =
      let ok : opened h M hides k ≡ true = and_first _ _ s in
      let om : opened h M hides m ≡ true = and_first _ _ t in
      let a = levels h k x (and_second (opened h M hides k) _ s) in
      let b = levels h m x (and_second (opened h M hides m) _ t) in
      let u = higher a.0 b.0 k m x a.2 b.2 ok (opened-rest m om).0 (has-node h (unhidden M hides) m (opened-unhidden m om)) in
      let v = higher b.0 a.0 m k x b.2 a.2 om (opened-rest k ok).0 (has-node h (unhidden M hides) k (opened-unhidden k ok)) in
      omega (arith, up_le u.0 m, u.1, up_le v.0 k, v.1)

  -- what follows from the cover
  in-cover : (i : ℕ) → follows h (cover h M hides) i ≡ some (2 ^ suc h) (λ k. opened h M hides k && is_above h k (2 ^ h + i))
  unfolding follows cover
  in-cover i = some_of-those (λ k. is_above h k (2 ^ h + i)) (opened h M hides) (2 ^ suc h)

  -- an opened node is a node of the tree
  pub opened-node : (k : ℕ) → opened h M hides k ≡ true → k < 2 ^ suc h
  opened-node k o =
      let r = leaf-of h (unhidden M hides) k (opened-unhidden k o) in
      let s = levels h k (2 ^ h + r.0) r.3 in
      omega (arith, r.1, s.2, up_le s.0 (2 ^ h + r.0), pow-succ' 2 h)

  module _ (fits : M ≤ 2 ^ h) where
    -- no hidden leaf has an opened node at or above it
    none_above : (i k : ℕ) → i < M → hides i ≡ true → opened h M hides k ≡ true → is_above h k (2 ^ h + i) ≡ true → ⊥
    none_above i k l t o a =
        let s = levels h k (2 ^ h + i) a in
        clash (has h (hidden M hides) i s.0 k (omega arith) (hidden-is M hides i l t) (has-node h (unhidden M hides) k (opened-unhidden k o)) s.2)
        (opened-rest k o).0

    -- every unhidden leaf has one, if any leaf is hidden
    pub one-opened : (p i : ℕ) → p < M → hides p ≡ true → i < M → hides i ≡ false
        → (k : ℕ) × (opened h M hides k ≡ true) × (is_above h k (2 ^ h + i) ≡ true)
    one-opened p i lp tp l t =
        let x : ℕ = 2 ^ h + i in
        let u : x < 2 ^ suc h = omega (arith, pow-succ' 2 h) in
        let H : ℕ → Bool = hidden M hides in
        let first : has_leaf h H (up 0 x) ≡ false =
        ap (has_leaf h H) (up-zero x) ∙ at_leaf h H i (omega arith) ∙ not_so (H i) (λ s. clash (is_hidden M hides i s).1 t) in
        let last : has_leaf h H (up h x) ≡ true =
        ap (has_leaf h H) (up_root h x (omega arith) u)
        ∙ has h H p h 1 (omega arith) (hidden-is M hides p lp tp) (omega arith) (up_root h (2 ^ h + p) (omega arith) (omega (arith, pow-succ' 2 h))) in
        let r = turn h (λ e. has_leaf h H (up e x)) first last in
        let k : ℕ = up r.0 x in
        let n : 1 ≤ k = up-node h r.0 x (omega arith) (omega (arith, r.1)) in (
          k,
          opened-is k (has h (unhidden M hides) i r.0 k (omega arith) (unhidden-is M hides i l t) n refl) r.2
              (ap (has_leaf h H) (sym (up-half r.0 x)) ∙ r.3),
          above h r.0 k x u n refl,
        )

    -- exactly one
    one-alone : (p i : ℕ) → p < M → hides p ≡ true → i < M → hides i ≡ false → OneAbove h M hides i
    one-alone p i lp tp l t =
        let r = one-opened p i lp tp l t in
        record {
          node = r.0;
          is_opened = r.1;
          over = r.2;
          alone = λ k o a. one-above (2 ^ h + i) k r.0 (both o a) (both r.1 r.2);
        }

    -- so the cover opens what it should
    opens : (p : ℕ) → p < M → hides p ≡ true → Opens h M hides (cover h M hides)
    opens p lp tp = record {
      every = λ i l t.
          let r = one-opened p i lp tp l t in
          in-cover i
          ∙ some-true (2 ^ suc h) (λ k. opened h M hides k && is_above h k (2 ^ h + i)) r.0 (opened-node r.0 r.1) (both r.1 r.2);
      none = λ i l t.
          not_so (follows h (cover h M hides) i)
          (λ s.
          let r = some_at (2 ^ suc h) (λ k. opened h M hides k && is_above h k (2 ^ h + i)) (sym (in-cover i) ∙ s) in
          none_above i r.0 l t (and_first _ _ r.2) (and_second (opened h M hides r.0) _ r.2));
    }

    -- and no shorter list of nodes does
    fewest : (nodes : List ℕ) → Opens h M hides nodes → length (cover h M hides) ≤ length nodes
    unfolding cover follows
    fewest nodes w = own-places (λ k x. opened h M hides k && is_above h k x) one-above (2 ^ suc h) nodes (opened h M hides) (λ k l o. below k o)
      where
        below : (k : ℕ) → opened h M hides k ≡ true → some_of (λ x. opened h M hides k && is_above h k x) nodes ≡ true
        below k o =
            let r = leaf-of h (unhidden M hides) k (opened-unhidden k o) in
            let i : ℕ = r.0 in
            let x : ℕ = 2 ^ h + i in
            let m = is-unhidden M hides i r.2 in
            let s = levels h k x r.3 in
            let y = some_of-at (λ n. is_above h n x) nodes (w.every i m.0 m.1) in
            let n : ℕ = y.0 in
            let a = levels h n x y.1 in
            let free : has_leaf h (hidden M hides) n ≡ false =
            not_so _ (λ q.
            let j = leaf-of h (hidden M hides) n q in
            let d = is_hidden M hides j.0 j.2 in
            clash (y.2 (λ z. is_above h z (2 ^ h + j.0)) j.3) (w.none j.0 d.0 d.1)) in
            let pn : 1 ≤ n = omega (arith, up-node h a.0 x (omega arith) a.1, a.2) in
            let g = higher s.0 a.0 k n x s.2 a.2 o free pn in
            let un : n < 2 ^ suc h = omega (arith, r.1, a.2, up_le a.0 x, pow-succ' 2 h) in
            y.2 (λ z. opened h M hides k && is_above h k z) (both o (above h g.0 k n un (has-node h (unhidden M hides) k (opened-unhidden k o)) g.1))

    -- it has at most a node for each unhidden leaf
    at_most : length (cover h M hides) ≤ M - length (those M hides)
    unfolding cover
    at_most =
        omega (
          arith,
          length-others M hides,
          own-places (λ k i. opened h M hides k && is_above h k (2 ^ h + i)) (λ i. one-above (2 ^ h + i)) (2 ^ suc h) (those M (λ i. not (hides i)))
              (opened h M hides)
              (λ k l o.
              let r = leaf-of h (unhidden M hides) k (opened-unhidden k o) in
              let m = is-unhidden M hides r.0 r.2 in
              some_of-those (λ i. opened h M hides k && is_above h k (2 ^ h + i)) (λ i. not (hides i)) M
              ∙ some-true M (λ i. not (hides i) && (opened h M hides k && is_above h k (2 ^ h + i))) r.0 m.0 (both (ap not m.1) (both o r.3))),
        )

pub exactly-one : ExactlyOne
exactly-one = record {
  every = λ h M hides p i fits. one-alone h M hides fits p i;
  none = λ h M hides i k fits l t o. not_so (is_above h k (2 ^ h + i)) (none_above h M hides fits i k l t o);
}

pub cover-least : CoverLeast
cover-least = record {
  opens = λ h M hides p fits. opens h M hides fits p;
  least = λ h M hides nodes fits. fewest h M hides fits nodes;
}

pub cover-length : CoverLength
cover-length h M tau hides fits e = omega (arith, at_most h M hides fits, e)
