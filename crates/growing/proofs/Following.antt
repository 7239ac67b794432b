-- The nodes that follow from the values of the opened nodes, in their rows: two for each node, and the leaves among them.
-- Assumes nothing.
use native.Mathlib.Omega.{arith}
use native.Mathlib.Nat.{pow-succ'}
use mathlib.Core.Path.{◌≡◌, refl, sym, ap, ap₂, ◌∙◌}
use mathlib.Core.Bool.{Bool, true, false, cond, ◌&&◌, and-false, and-true}
use mathlib.Core.Logic.{⊎_elim}
use mathlib.Core.List.{List, ◌++◌}
use Prim.Native.Nat.{ℕ, zero, suc, ◌+◌, ◌-◌, ◌*◌, ◌/◌, ◌^◌, ◌≤◌, ◌<◌}
use borrow.Author.Tests.{eq-eqb, ne_eqb, eqb-true}
use borrow.Rule.Slice.PartMut.{put_mid}
use lib.Dec.{eqb}
use lib.ListN.{length, get_or, drop, replicate, length-replicate, get_or-eq_default}
use Rattle.hashing.specs.declared.Context.{Context}
use Rattle.bits.specs.Bits.{bit_val}
use Rattle.bits.specs.Bytes.{row_of}
use Rattle.bits.proofs.Numbers.{lt-or-le}
use Rattle.bits.proofs.Rows.{row-length}
use Rattle.bits.proofs.Tabulate.{get_d_tabulate}
use Rattle.tree.specs.Tree.{children}
use Rattle.tree.proofs.Nodes.{both-parts}
use Rattle.cover.specs.Cover.{those, up, has_leaf, hidden, unhidden, opened, cover}
use Rattle.cover.specs.Masters.{height, value_of, child_of, masters_context, given, from_above, leaf_from, cover_bytes, master_from}
use Rattle.cover.specs.Steps.{mark_of, marks_of, opened_by, cover_by, nodes_of, given_by, follow_of}
use Rattle.cover.proofs.Search.{and_first, and_second, clash, not_so, length-those}
use Rattle.cover.proofs.Levels.{up-zero, up_suc, up_le, levels, has-node, has-up, at_leaf}
use Rattle.cover.proofs.Covering.{unhidden-is, opened-rest, one-opened}
use Rattle.cover.proofs.Least.{least-height}
use Rattle.cover.proofs.Rebuilding.{place-lt, value-step, length-child}
use Rattle.growing.specs.Steps.{shown_from}
use Rattle.growing.proofs.Marking.{same-opened, cover-marked}
use Rattle.growing.proofs.Growing.{children-pair, node_row_lem, length-nodes}

-- one node from the values: n of them are before it
module _ (marks values : List ℕ) (x n : ℕ) (at : n ≡ length (those x (opened_by marks))) where
  pub next-opened : opened_by marks x ≡ true → n + 1 ≡ length (those (suc x) (opened_by marks))
  next-opened t = omega (arith, length-those x (opened_by marks), ap bit_val t)

  pub next-other : opened_by marks x ≡ false → n ≡ length (those (suc x) (opened_by marks))
  next-other t = omega (arith, length-those x (opened_by marks), ap bit_val t)

  pub value-inside : x < length marks → length values ≡ 16 * length (cover_by marks) → opened_by marks x ≡ true → n * 16 + 16 ≤ length values
  value-inside u l t = omega (arith, place-lt (opened_by marks) x (length marks) u t)

  pub given-opened : (r : List ℕ) → opened_by marks x ≡ true → r ≡ row_of values 16 n → r ≡ given_by marks values x
  unfolding given_by given
  given-opened r t q = rw t (q ∙ ap (row_of values 16) at)

pub given-other : (marks values r : List ℕ) (x m : ℕ) → opened_by marks x ≡ false → m ≡ 16 → r ≡ replicate m 0 → r ≡ given_by marks values x
unfolding given_by
given-other marks values r x m t e q = rw t (q ∙ ap (λ (k : ℕ). replicate k 0) e)

-- the two nodes below node k
module _ (j : Context) (k : ℕ) (marks values value : List ℕ) where
  below-even : 2 * k / 2 ≡ k
  below-even = omega arith

  below-odd : (2 * k + 1) / 2 ≡ k
  below-odd = omega arith

  -- by the node rule
  pub pair-hashed : (out : List ℕ) → get_or marks k 0 ≡ 1 → out ≡ children j k value
      → out ≡ follow_of j marks values (2 * k) value ++ follow_of j marks values (2 * k + 1) value
  unfolding follow_of
  pair-hashed out t e = rw (below-even, below-odd, t) (e ∙ children-pair j k value)

  shut : (x : ℕ) → x / 2 ≡ k → get_or marks k 0 ≡ 1 → opened_by marks x ≡ false
  unfolding opened_by
  shut x e t = rw (e, t) (and-false (eqb (get_or marks x 0) 1))

  pub pair-next : (n : ℕ) → get_or marks k 0 ≡ 1 → n ≡ length (those (2 * k) (opened_by marks)) → n ≡ length (those (2 * k + 2) (opened_by marks))
  pair-next n t e =
      let two : suc (suc (2 * k)) ≡ 2 * k + 2 = omega arith in
      let one : (suc (2 * k)) / 2 ≡ k = omega arith in
      omega (
        arith,
        length-those (2 * k) (opened_by marks),
        length-those (suc (2 * k)) (opened_by marks),
        ap bit_val (shut (2 * k) below-even t),
        ap bit_val (shut (suc (2 * k)) one t),
        ap (λ (m : ℕ). length (those m (opened_by marks))) two,
      )

  -- from the values
  pub pair-given : (out a b : List ℕ) → (get_or marks k 0 ≡ 1 → ⊥) → length a ≡ 16 → a ≡ given_by marks values (2 * k) → b ≡ given_by marks values (2 * k + 1)
      → put_mid 16 (length (a ++ drop 16 out) - 16) (a ++ drop 16 out) b ≡ follow_of j marks values (2 * k) value ++ follow_of j marks values (2 * k + 1) value
  unfolding follow_of
  pair-given out a b t l e f = rw (below-even, below-odd, ne_eqb (get_or marks k 0) 1 t) (both-parts out a b 16 l ∙ ap₂ ◌++◌ e f)

-- an opened node has its mark
opened_inside : (marks : List ℕ) (x : ℕ) → opened_by marks x ≡ true → x < length marks
unfolding opened_by
opened_inside marks x t =
    ⊎_elim
    (λ (u : x < length marks). u)
    (λ (u : length marks ≤ x).
    let z : get_or marks x 0 ≡ 0 = get_or-eq_default marks 0 u in
    absurd (omega (arith, eqb-true (get_or marks x 0) 1 (and_first _ _ t))))
    (lt-or-le x (length marks))

-- lengths
module _ (marks values : List ℕ) (l : length values ≡ 16 * length (cover_by marks)) where
  length-given : (x : ℕ) → length (given_by marks values x) ≡ 16
  unfolding given_by given
  length-given x = go (opened_by marks x) refl
    where
      go : (b : Bool) → opened_by marks x ≡ b → length (cond b (given (opened_by marks) values x) (replicate 16 0)) ≡ 16
      go true t = row-length values 16 (length (those x (opened_by marks))) (value-inside marks values x _ refl (opened_inside marks x t) l t)
      go false t = length-replicate {A = ℕ} 16 0

  pub length-follow : (j : Context) (x : ℕ) (v : List ℕ) → length (follow_of j marks values x v) ≡ 16
  unfolding follow_of
  length-follow j x v = go (eqb (get_or marks (x / 2) 0) 1)
    where
      go : (b : Bool) → length (cond b (child_of j x v) (given_by marks values x)) ≡ 16
      go true = length-child j x v
      go false = length-given x

  pub length-regrown : (j : Context) (h : ℕ) → length (nodes_of (follow_of j marks values) (replicate 16 0) h) ≡ 16 * 2 ^ suc h
  length-regrown j h = length-nodes (follow_of j marks values) (replicate 16 0) (length-follow j) (length-replicate {A = ℕ} 16 0) h

-- with the marks of the nodes
module _ (j : Context) (h M : ℕ) (hides : ℕ → Bool) (values : List ℕ) (l : length values ≡ 16 * length (cover h M hides)) where
  fits-marks : length values ≡ 16 * length (cover_by (marks_of h M hides))
  fits-marks = l ∙ sym (ap (λ (s : List ℕ). 16 * length s) (cover-marked h M hides))

  mark-is : (k : ℕ) (a b : Bool) → k < 2 ^ suc h → has_leaf h (unhidden M hides) k ≡ a → has_leaf h (hidden M hides) k ≡ b
      → get_or (marks_of h M hides) k 0 ≡ bit_val a + 2 * bit_val b
  unfolding marks_of mark_of
  mark-is k a b u p q = get_d_tabulate (2 ^ suc h) (mark_of h M hides) k 0 u ∙ ap₂ (λ (x y : Bool). bit_val x + 2 * bit_val y) p q

  -- an opened node has its value
  follow-opened : (x : ℕ) (v : List ℕ) → x < 2 ^ suc h → opened h M hides x ≡ true
      → follow_of j (marks_of h M hides) values x v ≡ given (opened h M hides) values x
  unfolding follow_of given_by
  follow-opened x v u o =
      let m = mark-is (x / 2) (has_leaf h (unhidden M hides) (x / 2)) true (omega arith) refl (opened-rest h M hides x o).1 in
      let t : opened_by (marks_of h M hides) x ≡ true = ap (λ (f : ℕ → Bool). f x) (same-opened h M hides) ∙ o in
      rw (ne_eqb (get_or (marks_of h M hides) (x / 2) 0) 1 (λ e. omega (arith, m)), t)
      (ap (λ (f : ℕ → Bool). given f values x) (same-opened h M hides))

  -- a node below a node with unhidden leaves alone has its value by the rule
  follow-below : (x : ℕ) (v : List ℕ) → x < 2 ^ suc h → has_leaf h (unhidden M hides) (x / 2) ≡ true → has_leaf h (hidden M hides) (x / 2) ≡ false
      → follow_of j (marks_of h M hides) values x v ≡ child_of j x v
  unfolding follow_of
  follow-below x v u a b = rw (eq-eqb (get_or (marks_of h M hides) (x / 2) 0) 1 (mark-is (x / 2) true false (omega arith) a b))

  -- so every node above an unhidden leaf, at or below an opened one, is what follows
  follow-value : (d e x : ℕ) → x < 2 ^ suc h → e < d → has_leaf h (unhidden M hides) x ≡ true → opened h M hides (up e x) ≡ true
      → value_of (follow_of j (marks_of h M hides) values) (replicate 16 0) h x ≡ from_above (opened h M hides) (child_of j) values d x
  unfolding from_above
  follow-value zero e x u w a o = absurd (omega arith)
  follow-value (suc d) zero x u w a o =
      let t : opened h M hides x ≡ true = ap (opened h M hides) (sym (up-zero x)) ∙ o in
      let p : 1 ≤ x / 2 = has-node h (hidden M hides) (x / 2) (opened-rest h M hides x t).1 in
      rw t
      (value-step (follow_of j (marks_of h M hides) values) (replicate 16 0) (length-follow (marks_of h M hides) values fits-marks j) (length-replicate {A = ℕ} 16 0) h x (omega arith) u
      ∙ follow-opened x _ u t)
  follow-value (suc d) (suc e) x u w a o =
      let o' : opened h M hides (up e (x / 2)) ≡ true = ap (opened h M hides) (sym (up_suc e x)) ∙ o in
      let q : 1 ≤ up e (x / 2) = omega (arith, has-node h (hidden M hides) (up e (x / 2) / 2) (opened-rest h M hides (up e (x / 2)) o').1) in
      let p : 1 ≤ x / 2 = omega (arith, up_le e (x / 2)) in
      let s : up 1 x ≡ x / 2 = up_suc 0 x ∙ up-zero (x / 2) in
      let a' : has_leaf h (unhidden M hides) (x / 2) ≡ true =
      ap (has_leaf h (unhidden M hides)) (sym s) ∙ has-up h (unhidden M hides) 1 x a (omega arith) in
      let b : has_leaf h (hidden M hides) (x / 2) ≡ false =
      not_so (has_leaf h (hidden M hides) (x / 2)) (λ t. clash (has-up h (hidden M hides) e (x / 2) t q) (opened-rest h M hides (up e (x / 2)) o').0) in
      let n : opened h M hides x ≡ false = not_so (opened h M hides x) (λ t. clash (opened-rest h M hides x t).1 b) in
      rw n
      (value-step (follow_of j (marks_of h M hides) values) (replicate 16 0) (length-follow (marks_of h M hides) values fits-marks j) (length-replicate {A = ℕ} 16 0) h x (omega arith) u
      ∙ follow-below x _ u a' b
      ∙ ap (child_of j x) (follow-value d e (x / 2) (omega arith) (omega arith) a' o'))

  -- every unhidden leaf stands in its row, once a leaf p is hidden
  pub regrow-leaf : (p i : ℕ) → M ≤ 2 ^ h → p < M → hides p ≡ true → i < M → hides i ≡ false
      → row_of (nodes_of (follow_of j (marks_of h M hides) values) (replicate 16 0) h) 16 (2 ^ h + i) ≡ leaf_from h M hides (child_of j) values i
  unfolding leaf_from
  regrow-leaf p i fits lp tp li ti =
      let r = one-opened h M hides fits p i lp tp li ti in
      let s = levels h r.0 (2 ^ h + i) r.2 in
      let u : 2 ^ h + i < 2 ^ suc h = omega (arith, pow-succ' 2 h) in
      let a : has_leaf h (unhidden M hides) (2 ^ h + i) ≡ true = at_leaf h (unhidden M hides) i (omega arith) ∙ unhidden-is M hides i li ti in
      node_row_lem (follow_of j (marks_of h M hides) values) (replicate 16 0) (length-follow (marks_of h M hides) values fits-marks j) (length-replicate {A = ℕ} 16 0) h
      (2 ^ h + i) (has-node h (unhidden M hides) (2 ^ h + i) a) u
      ∙ follow-value (suc h) s.0 (2 ^ h + i) u (omega (arith, s.1)) a (ap (opened h M hides) s.2 ∙ r.1)

-- the masters that follow, each in its row
pub regrow-master : (M : ℕ) (hides : ℕ → Bool) (salt values : List ℕ) (p i : ℕ) → length values ≡ cover_bytes M hides → p < M → hides p ≡ true → i < M
    → hides i ≡ false
    → row_of (nodes_of (follow_of (masters_context salt) (marks_of (height M) M hides) values) (replicate 16 0) (height M)) 16 (2 ^ height M + i) ≡ master_from M hides salt values i
unfolding cover_bytes master_from
regrow-master M hides salt values p i l = regrow-leaf (masters_context salt) (height M) M hides values l p i (least-height.fits M)

-- nodes with unhidden leaves alone, by their marks
pub shown-at : (n k : ℕ) (marks : List ℕ) → shown_from n marks k ≡ true → (i : ℕ) → k ≤ i → i < k + n → get_or marks i 0 ≡ 1
unfolding shown_from
shown-at zero k marks t i a b = absurd (omega arith)
shown-at (suc n) k marks t i a b =
    ⊎_elim
    (λ (u : k < i). shown-at n (k + 1) marks (and_second (eqb (get_or marks k 0) 1) (shown_from n marks (k + 1)) t) i (omega arith) (omega arith))
    (λ (u : i ≤ k). let e : i ≡ k = omega arith in ap (λ (x : ℕ). get_or marks x 0) e ∙ eqb-true (get_or marks k 0) 1 (and_first _ _ t))
    (lt-or-le k i)

-- none of the nodes below them is opened
pub shown-next : (j : Context) (values value : List ℕ) (n k m : ℕ) (marks : List ℕ) → shown_from n marks k ≡ true
    → m ≡ length (those (2 * k) (opened_by marks)) → m ≡ length (those (2 * (k + n)) (opened_by marks))
unfolding shown_from
shown-next j values value zero k m marks t e = let q : 2 * k ≡ 2 * (k + 0) = omega arith in e ∙ ap (λ (x : ℕ). length (those x (opened_by marks))) q
shown-next j values value (suc n) k m marks t e =
    let two : 2 * k + 2 ≡ 2 * (k + 1) = omega arith in
    let all : 2 * (k + 1 + n) ≡ 2 * (k + suc n) = omega arith in
    shown-next j values value n (k + 1) m marks (and_second (eqb (get_or marks k 0) 1) (shown_from n marks (k + 1)) t)
    (pair-next j k marks values value m (eqb-true (get_or marks k 0) 1 (and_first _ _ t)) e ∙ ap (λ (x : ℕ). length (those x (opened_by marks))) two)
    ∙ ap (λ (x : ℕ). length (those x (opened_by marks))) all

-- four of them, mark by mark
pub four-marks : (marks : List ℕ) (k : ℕ)
    → eqb (get_or marks k 0) 1 && (eqb (get_or marks (k + 1) 0) 1 && (eqb (get_or marks (k + 2) 0) 1 && eqb (get_or marks (k + 3) 0) 1)) ≡ shown_from 4 marks k
unfolding shown_from
four-marks marks k =
    let b : k + 2 ≡ k + 1 + 1 = omega arith in
    let c : k + 3 ≡ k + 1 + 1 + 1 = omega arith in
    rw (b, c, and-true (eqb (get_or marks (k + 1 + 1 + 1) 0) 1))
