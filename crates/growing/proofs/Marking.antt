-- The marks, node by node from the last, and what they say of the opened nodes.
-- Assumes nothing.
use native.Mathlib.Omega.{arith}
use native.Mathlib.Nat.{pow-succ'}
use mathlib.Core.Path.{◌≡◌, refl, sym, ap, ap₂, fun_ext, ◌∙◌}
use mathlib.Core.Bool.{Bool, true, false, not, cond, ◌&&◌, ◌||◌}
use mathlib.Core.Logic.{⊎_elim}
use mathlib.Core.List.{List}
use Prim.Native.Nat.{ℕ, suc, ◌+◌, ◌-◌, ◌*◌, ◌/◌, ◌^◌, ◌≤◌, ◌<◌}
use native.Mathlib.Numerals.{add-one}
use mir.Val.{bool_byte}
use borrow.Author.Tests.{le-leb, lt-leb, lt-ltb, le-ltb, eq-eqb, ne_eqb}
use lib.Bits.{bit_or}
use lib.Dec.{eqb, leb, ltb}
use lib.ListN.{length, get_or, set}
use lib.Seq.{get_or-set_same, get_or-set_other, ext_get_or}
use Rattle.bits.specs.Bits.{bit_val, tabulate}
use Rattle.bits.proofs.Numbers.{lt-or-le, eq-or-ne}
use Rattle.bits.proofs.Tabulate.{length-tabulate, get_d_tabulate, get_or-tabulate-end}
use Rattle.cover.specs.Cover.{those, has_leaf, hidden, unhidden, opened, cover}
use Rattle.cover.specs.Steps.{hidden_by, mark_of, marks_of, leaf_mark, node_mark, opened_by, cover_by}
use Rattle.cover.proofs.Search.{not_so, length-those}
use Rattle.cover.proofs.Levels.{has-node, at_leaf, at-node}
use Rattle.cover.proofs.Covering.{opened-node}

both_bits : (a b c d : Bool) → bit_or (bit_val a + 2 * bit_val b) (bit_val c + 2 * bit_val d) ≡ bit_val (a || c) + 2 * bit_val (b || d)
both_bits true true true true = refl
both_bits true true true false = refl
both_bits true true false true = refl
both_bits true true false false = refl
both_bits true false true true = refl
both_bits true false true false = refl
both_bits true false false true = refl
both_bits true false false false = refl
both_bits false true true true = refl
both_bits false true true false = refl
both_bits false true false true = refl
both_bits false true false false = refl
both_bits false false true true = refl
both_bits false false true false = refl
both_bits false false false true = refl
both_bits false false false false = refl

module _ (h M : ℕ) where
  module _ (hides : ℕ → Bool) where
    mark-parent : (k : ℕ) → 1 ≤ k → k < 2 ^ h → bit_or (mark_of h M hides (2 * k)) (mark_of h M hides (2 * k + 1)) ≡ mark_of h M hides k
    unfolding mark_of
    mark-parent k p u =
        both_bits (has_leaf h (unhidden M hides) (2 * k)) (has_leaf h (hidden M hides) (2 * k)) (has_leaf h (unhidden M hides) (2 * k + 1)) (has_leaf h (hidden M hides) (2 * k + 1))
        ∙ sym (ap₂ (λ (a b : Bool). bit_val a + 2 * bit_val b) (at-node h (unhidden M hides) k p u) (at-node h (hidden M hides) k p u))

    mark-none : 0 ≡ mark_of h M hides 0
    unfolding mark_of
    mark-none =
        sym (ap₂ (λ (a b : Bool). bit_val a + 2 * bit_val b)
        (not_so (has_leaf h (unhidden M hides) 0) (λ t. omega (arith, has-node h (unhidden M hides) 0 t)))
        (not_so (has_leaf h (hidden M hides) 0) (λ t. omega (arith, has-node h (hidden M hides) 0 t))))

  -- a node is opened by the marks if it is opened
  module _ (hides : ℕ → Bool) where
    tests : (a b c d : Bool) → eqb (bit_val a + 2 * bit_val b) 1 && leb 2 (bit_val c + 2 * bit_val d) ≡ a && (not b && d)
    tests true true c d = refl
    tests true false true true = refl
    tests true false true false = refl
    tests true false false true = refl
    tests true false false false = refl
    tests false true c d = refl
    tests false false c d = refl

    opened-marked : (k : ℕ) → k < 2 ^ suc h → opened_by (marks_of h M hides) k ≡ opened h M hides k
    unfolding opened_by marks_of mark_of opened
    opened-marked k u =
        rw (get_d_tabulate (2 ^ suc h) (mark_of h M hides) k 0 u, get_d_tabulate (2 ^ suc h) (mark_of h M hides) (k / 2) 0 (omega arith))
        (tests (has_leaf h (unhidden M hides) k) (has_leaf h (hidden M hides) k) (has_leaf h (unhidden M hides) (k / 2)) (has_leaf h (hidden M hides) (k / 2)))

    opened-outside : (k : ℕ) → 2 ^ suc h ≤ k → opened_by (marks_of h M hides) k ≡ opened h M hides k
    unfolding opened_by marks_of
    opened-outside k w =
        rw (get_or-tabulate-end (2 ^ suc h) (mark_of h M hides) k 0 w) (sym (not_so (opened h M hides k) (λ o. omega (arith, opened-node h M hides k o))))

    pub same-opened : opened_by (marks_of h M hides) ≡ opened h M hides
    same-opened = fun_ext (λ k. ⊎_elim (opened-marked k) (opened-outside k) (lt-or-le k (2 ^ suc h)))

    pub length-marks : length (marks_of h M hides) ≡ 2 ^ suc h
    unfolding marks_of
    length-marks = length-tabulate (2 ^ suc h) (mark_of h M hides)

    -- so the cover by the marks is the cover
    pub cover-marked : cover_by (marks_of h M hides) ≡ cover h M hides
    unfolding cover
    cover-marked = ap (λ (n : ℕ). those n (opened_by (marks_of h M hides))) length-marks ∙ ap (those (2 ^ suc h)) same-opened

  module _ (table : List ℕ) (clear : ℕ) where
    mark-leaf : (i : ℕ) → i < 2 ^ h → leaf_mark table clear M i ≡ mark_of h M (hidden_by table clear) (2 ^ h + i)
    unfolding leaf_mark mark_of hidden unhidden hidden_by
    mark-leaf i l =
        go (ltb i M) (eqb (get_or table i 0) clear)
        ∙ sym (ap₂ (λ (a b : Bool). bit_val a + 2 * bit_val b) (at_leaf h (unhidden M (hidden_by table clear)) i l) (at_leaf h (hidden M (hidden_by table clear)) i l))
      where
        go : (a b : Bool) → cond a (cond b 1 2) 0 ≡ bit_val (a && not (not b)) + 2 * bit_val (a && not b)
        go true true = refl
        go true false = refl
        go false b = refl

    -- the nodes from k on have their marks
    pub Marked : List ℕ → ℕ → Type 0
    Marked marks k = (x : ℕ) → k ≤ x → x < 2 ^ suc h → get_or marks x 0 ≡ mark_of h M (hidden_by table clear) x

    node-right : (marks : List ℕ) (k : ℕ) → k < 2 ^ suc h → ((x : ℕ) → k < x → x < 2 ^ suc h → get_or marks x 0 ≡ mark_of h M (hidden_by table clear) x)
        → node_mark table clear M (2 ^ h) marks k ≡ mark_of h M (hidden_by table clear) k
    unfolding node_mark
    node-right marks k u done =
        let t : 2 ^ suc h ≡ 2 * 2 ^ h = pow-succ' 2 h in
        ⊎_elim
        (λ (w : k < 2 ^ h).
        ⊎_elim
        (λ (z : k ≡ 0). rw (lt-leb (2 ^ h) k w, z) (mark-none (hidden_by table clear)))
        (λ nz.
        rw (lt-leb (2 ^ h) k w, ne_eqb k 0 nz, done (2 * k) (omega (arith, nz)) (omega arith), done (2 * k + 1) (omega arith) (omega arith))
        (mark-parent (hidden_by table clear) k (omega (arith, nz)) w))
        (eq-or-ne k 0))
        (λ (w : 2 ^ h ≤ k).
        let e : 2 ^ h + (k - 2 ^ h) ≡ k = omega arith in
        rw (le-leb (2 ^ h) k w) (mark-leaf (k - 2 ^ h) (omega arith) ∙ ap (mark_of h M (hidden_by table clear)) e))
        (lt-or-le k (2 ^ h))

    pub marked-none : (marks : List ℕ) (k : ℕ) → 2 ^ suc h ≤ k → Marked marks k
    unfolding Marked
    marked-none marks k w = λ x a b. absurd (omega arith)

    pub marked_more : (marks : List ℕ) (leaves k v : ℕ) → length marks ≡ 2 ^ suc h → leaves ≡ length marks / 2 → 1 ≤ k → k ≤ length marks
        → Marked marks k → v ≡ node_mark table clear M leaves marks (k - 1) → Marked (set marks (k - 1) v) (k - 1)
    unfolding Marked
    marked_more marks leaves k v l n p u done q =
        let e : leaves ≡ 2 ^ h = omega (arith, pow-succ' 2 h) in
        λ x a b.
        ⊎_elim
        (λ (z : x ≡ k - 1).
        rw (z, get_or-set_same marks (k - 1) v 0 (omega arith))
        (q ∙ ap (λ (y : ℕ). node_mark table clear M y marks (k - 1)) e ∙ node-right marks (k - 1) (omega arith) (λ y c d. done y (omega arith) d)))
        (λ nz. get_or-set_other marks (k - 1) x v 0 nz ∙ done x (omega (arith, nz)) b)
        (eq-or-ne x (k - 1))

    pub marked_all : (marks : List ℕ) (k : ℕ) → length marks ≡ 2 ^ suc h → k ≤ 0 → Marked marks k → marks ≡ marks_of h M (hidden_by table clear)
    unfolding Marked marks_of
    marked_all marks k l z done =
        ext_get_or 0 marks (tabulate (2 ^ suc h) (mark_of h M (hidden_by table clear))) (l ∙ sym (length-tabulate (2 ^ suc h) (mark_of h M (hidden_by table clear))))
        (λ i w. done i (omega arith) (omega arith) ∙ sym (get_d_tabulate (2 ^ suc h) (mark_of h M (hidden_by table clear)) i 0 (omega arith)))

-- the mark of a leaf, and of a node, by the code's tests
module _ (table : List ℕ) (clear m i : ℕ) where
  pub mark-spare : m ≤ i → 0 ≡ leaf_mark table clear m i
  unfolding leaf_mark
  mark-spare w = rw (le-ltb i m w)

  pub mark-shown : i < m → get_or table i 0 ≡ clear → 1 ≡ leaf_mark table clear m i
  unfolding leaf_mark
  mark-shown w e = rw (lt-ltb i m w, eq-eqb (get_or table i 0) clear e)

  pub mark-hid : i < m → (get_or table i 0 ≡ clear → ⊥) → 2 ≡ leaf_mark table clear m i
  unfolding leaf_mark
  mark-hid w e = rw (lt-ltb i m w, ne_eqb (get_or table i 0) clear e)

module _ (table : List ℕ) (clear : ℕ) (m leaves : ℕ) (marks : List ℕ) (k : ℕ) where
  pub mark-of-leaf : leaves ≤ k → leaf_mark table clear m (k - leaves) ≡ node_mark table clear m leaves marks k
  unfolding node_mark
  mark-of-leaf w = rw (le-leb leaves k w)

  pub mark-of-none : k < leaves → k ≡ 0 → 0 ≡ node_mark table clear m leaves marks k
  unfolding node_mark
  mark-of-none w e = rw (lt-leb leaves k w, eq-eqb k 0 e)

  pub mark-of-pair : k < leaves → (k ≡ 0 → ⊥) → bit_or (get_or marks (2 * k) 0) (get_or marks (2 * k + 1) 0) ≡ node_mark table clear m leaves marks k
  unfolding node_mark
  mark-of-pair w e = rw (lt-leb leaves k w, ne_eqb k 0 e)

-- one opened node more, or none
pub byte_le : (b : Bool) → bool_byte b ≤ 1
byte_le true = omega arith
byte_le false = omega arith

byte-bit : (b : Bool) → bool_byte b ≡ bit_val b
byte-bit true = refl
byte-bit false = refl

pub count_none : (marks : List ℕ) → 0 ≡ length (those 0 (opened_by marks))
unfolding those
count_none marks = refl

pub count-more : (marks : List ℕ) (k r : ℕ) (o : Bool) → r ≡ length (those k (opened_by marks)) → o ≡ opened_by marks k
    → r + bool_byte o ≡ length (those (k + 1) (opened_by marks))
count-more marks k r o q e =
    ap₂ (λ (n : ℕ) (b : Bool). n + bool_byte b) q e ∙ ap (λ (x : ℕ). length (those k (opened_by marks)) + x) (byte-bit (opened_by marks k))
    ∙ sym (ap (λ (n : ℕ). length (those n (opened_by marks))) (add-one k) ∙ length-those k (opened_by marks))
