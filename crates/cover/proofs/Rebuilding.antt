-- The leaves that follow from the opened nodes' values are those of the whole tree.
-- Assumes nothing.
use native.Mathlib.Omega.{arith}
use native.Mathlib.Nat.{pow-succ'}
use mathlib.Core.Path.{◌≡◌, refl, sym, ap, ◌∙◌}
use mathlib.Core.Bool.{Bool, true, false, cond}
use mathlib.Core.Logic.{⊎_elim}
use mathlib.Core.List.{List, [], ◌∷◌, ◌++◌, map}
use Prim.Native.Nat.{ℕ, zero, suc, ◌+◌, ◌/◌, ◌%◌, ◌^◌, ◌≤◌, ◌<◌}
use borrow.Author.Tests.{lt-ltb, le-ltb}
use lib.Dec.{eqb, ltb}
use lib.ListN.{length, get_or, length-map, get_or-append}
use lib.Seq.{get_or-append_seam}
use Rattle.hashing.specs.declared.Context.{Context}
use Rattle.bits.specs.Bits.{bit_val}
use Rattle.bits.specs.Bytes.{row_of}
use Rattle.bits.proofs.Numbers.{lt-or-le}
use Rattle.bits.proofs.Rows.{row-flatten}
use Rattle.tree.specs.Tree.{left_child, right_child, node_value, leaves_below}
use Rattle.tree.proofs.Lengths.{length-left, length-right}
use Rattle.tree.proofs.Numbering.{leaf-node}
use Rattle.cover.specs.Cover.{those, up, unhidden, opened, cover}
use Rattle.cover.specs.Masters.{height, value_of, child_of, masters_context, opening, given, from_above, leaf_from, master_of, cover_of, master_from, MastersFollow, MastersAreLeaves}
use Rattle.cover.proofs.Search.{length-those}
use Rattle.cover.proofs.Levels.{up-zero, up_suc, up_le, levels, has-node}
use Rattle.cover.proofs.Covering.{opened-unhidden, opened-node, one-opened}
use Rattle.cover.proofs.Least.{least-height}

-- the place of a number among those that pass: as many are before it as pass below it
module _ (p : ℕ → Bool) where
  length-those-le : (m n : ℕ) → m ≤ n → length (those m p) ≤ length (those n p)
  length-those-le m zero l = let e : m ≡ 0 = omega arith in rw e (omega arith)
  length-those-le m (suc n) l =
      ⊎_elim
      (λ (w : m < suc n). omega (arith, length-those-le m n (omega arith), length-those n p))
      (λ (w : suc n ≤ m). let e : m ≡ suc n = omega arith in rw e (omega arith))
      (lt-or-le m (suc n))

  pub place-lt : (k n : ℕ) → k < n → p k ≡ true → length (those k p) < length (those n p)
  place-lt k n l t = omega (arith, length-those-le (suc k) n l, length-those k p, ap bit_val t)

  pub at_place : (n k : ℕ) → k < n → p k ≡ true → get_or (those n p) (length (those k p)) 0 ≡ k
  unfolding those
  at_place zero k l t = absurd (omega arith)
  at_place (suc n) k l t =
      ⊎_elim
      (λ (w : k < n). get_or-append (those n p) (cond (p n) (n ∷ []) []) 0 (length (those k p)) (place-lt k n w t) ∙ at_place n k w t)
      (λ (w : n ≤ k).
      let e : k ≡ n = omega arith in
      ap (λ (i : ℕ). get_or (those n p ++ cond (p n) (n ∷ []) []) (length (those i p)) 0) e
      ∙ ap (λ (b : Bool). get_or (those n p ++ cond b (n ∷ []) []) (length (those n p)) 0) (ap p (sym e) ∙ t)
      ∙ get_or-append_seam (those n p) n [] 0
      ∙ sym e)
      (lt-or-le k n)

pub get_d_map : (f : ℕ → List ℕ) (xs : List ℕ) (i : ℕ) → i < length xs → get_or (map f xs) i [] ≡ f (get_or xs i 0)
get_d_map f [] i l = absurd (omega arith)
get_d_map f (x ∷ xs) zero l = refl
get_d_map f (x ∷ xs) (suc i) l = get_d_map f xs i (omega arith)

-- a tree by any rule that gives 16 bytes
module _ (rule : ℕ → List ℕ → List ℕ) (root : List ℕ) (sized : (x : ℕ) (v : List ℕ) → length (rule x v) ≡ 16) (l : length root ≡ 16) where
  pub length-value : (d x : ℕ) → length (value_of rule root d x) ≡ 16
  unfolding value_of
  length-value zero x = l
  length-value (suc d) x = go (ltb x 2) (value_of rule root d (x / 2))
    where
      go : (b : Bool) (v : List ℕ) → length (cond b root (rule x v)) ≡ 16
      go true v = l
      go false v = sized x v

  value-more : (d x : ℕ) → x < 2 ^ suc d → value_of rule root (suc d) x ≡ value_of rule root d x
  unfolding value_of
  value-more zero x u = rw (lt-ltb x 2 (omega arith))
  value-more (suc d) x u =
      ap (λ (v : List ℕ). cond (ltb x 2) root (rule x v)) (value-more d (x / 2) (omega (arith, pow-succ' 2 (suc d))))

  -- every node but the root follows from its parent
  pub value-step : (h x : ℕ) → 2 ≤ x → x < 2 ^ suc h → value_of rule root h x ≡ rule x (value_of rule root h (x / 2))
  unfolding value_of
  value-step h x w u = sym (value-more h x u) ∙ rw (le-ltb x 2 w)

  module _ (h M : ℕ) (hides : ℕ → Bool) (fits : M ≤ 2 ^ h) where
    -- an opening gives each opened node its value
    given-value : (k : ℕ) → opened h M hides k ≡ true → given (opened h M hides) (opening h M hides rule root) k ≡ value_of rule root h k
    unfolding given opening cover
    given-value k o =
        let nodes : List ℕ = those (2 ^ suc h) (opened h M hides) in
        let n : length (map (value_of rule root h) nodes) ≡ length nodes = length-map nodes (value_of rule root h) in
        let u : k < 2 ^ suc h = opened-node h M hides k o in
        let i : ℕ = length (those k (opened h M hides)) in
        let w : i < length nodes = place-lt (opened h M hides) k (2 ^ suc h) u o in
        row-flatten 16 (map (value_of rule root h) nodes)
        (λ a b. ap length (get_d_map (value_of rule root h) nodes a (omega arith)) ∙ length-value h (get_or nodes a 0)) i (omega arith)
        ∙ get_d_map (value_of rule root h) nodes i w
        ∙ ap (value_of rule root h) (at_place (opened h M hides) (2 ^ suc h) k u o)

    -- so every node at or below an opened one gets its value
    below-opened : (d e x : ℕ) → x < 2 ^ suc h → e < d → opened h M hides (up e x) ≡ true
        → from_above (opened h M hides) rule (opening h M hides rule root) d x ≡ value_of rule root h x
    unfolding from_above
    below-opened zero e x u w o = absurd (omega arith)
    below-opened (suc d) zero x u w o =
        let t : opened h M hides x ≡ true = ap (opened h M hides) (sym (up-zero x)) ∙ o in
        rw t (given-value x t)
    below-opened (suc d) (suc e) x u w o =
        let o' : opened h M hides (up e (x / 2)) ≡ true = ap (opened h M hides) (sym (up_suc e x)) ∙ o in
        let p : 1 ≤ up e (x / 2) = has-node h (unhidden M hides) (up e (x / 2)) (opened-unhidden h M hides (up e (x / 2)) o') in
        let two : 2 ≤ x = omega (arith, up_le e (x / 2)) in
        go (opened h M hides x) refl (below-opened d e (x / 2) (omega arith) (omega arith) o') two
      where
        go : (b : Bool) → opened h M hides x ≡ b
            → from_above (opened h M hides) rule (opening h M hides rule root) d (x / 2) ≡ value_of rule root h (x / 2) → 2 ≤ x
            → cond b (given (opened h M hides) (opening h M hides rule root) x) (rule x (from_above (opened h M hides) rule (opening h M hides rule root) d (x / 2)))
            ≡ value_of rule root h x
        go true t q two = given-value x t
        go false t q two = ap (rule x) q ∙ sym (value-step h x two u)

    -- every unhidden leaf follows, as it is in the whole tree
    pub leaf-follows : (p i : ℕ) → p < M → hides p ≡ true → i < M → hides i ≡ false
        → leaf_from h M hides rule (opening h M hides rule root) i ≡ value_of rule root h (2 ^ h + i)
    unfolding leaf_from
    leaf-follows p i lp tp li ti =
        let r = one-opened h M hides fits p i lp tp li ti in
        let s = levels h r.0 (2 ^ h + i) r.2 in
        below-opened (suc h) s.0 (2 ^ h + i) (omega (arith, pow-succ' 2 h)) (omega (arith, s.1)) (ap (opened h M hides) s.2 ∙ r.1)

-- the tree of instance j
pub length-child : (j : Context) (x : ℕ) (v : List ℕ) → length (child_of j x v) ≡ 16
unfolding child_of
length-child j x v = go (eqb (x % 2) 0)
  where
    go : (b : Bool) → length (cond b (left_child j (x / 2) v) (right_child j (x / 2) v)) ≡ 16
    go true = length-left j (x / 2) v
    go false = length-right j (x / 2) v

node-value : (j : Context) (root : List ℕ) (h d x : ℕ) → d ≤ h → 2 ^ d ≤ x → x < 2 ^ suc d → value_of (child_of j) root h x ≡ node_value j root d x
unfolding value_of node_value child_of
node-value j root zero zero x w a b = refl
node-value j root (suc h) zero x w a b = rw (lt-ltb x 2 (omega arith))
node-value j root zero (suc d) x w a b = absurd (omega arith)
node-value j root (suc h) (suc d) x w a b =
    rw (le-ltb x 2 (omega (arith, pow-succ' 2 d)))
    (ap (child_of j x) (node-value j root h d (x / 2) (omega arith) (omega (arith, pow-succ' 2 d)) (omega (arith, pow-succ' 2 (suc d)))))

-- its leaves, by the rule from parent to child, are those of document 01
leaf-value : (j : Context) (h i : ℕ) (root : List ℕ) → length root ≡ 16 → i < 2 ^ h → value_of (child_of j) root h (2 ^ h + i) ≡ row_of (leaves_below j h 1 root) 16 i
leaf-value j h i root l w =
    node-value j root h h (2 ^ h + i) (omega arith) (omega arith) (omega (arith, pow-succ' 2 h)) ∙ sym (leaf-node j h i root l w)

pub masters-follow : MastersFollow
unfolding master_from cover_of master_of
masters-follow M hides salt root p i l lp tp li ti =
    leaf-follows (child_of (masters_context salt)) root (length-child (masters_context salt)) l (height M) M hides (least-height.fits M) p i lp tp li ti

pub masters-are-leaves : MastersAreLeaves
unfolding master_of
masters-are-leaves M salt root i l w = leaf-value (masters_context salt) (height M) i root l (omega (arith, least-height.fits M))
