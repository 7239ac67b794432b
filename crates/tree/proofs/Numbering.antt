-- Leaf i of a tree of n leaves is node n + i.
-- Assumes nothing.
use native.Mathlib.Omega.{arith}
use native.Mathlib.Nat.{pow-succ', mul_assoc, mul_comm, mul-add}
use mathlib.Core.Path.{◌≡◌, refl, sym, ap, ◌∙◌}
use mathlib.Core.Logic.{⊎_elim}
use mathlib.Core.Bool.{true, false, cond}
use mathlib.Core.List.{List, ◌++◌}
use Prim.Native.Nat.{ℕ, zero, suc, ◌+◌, ◌-◌, ◌*◌, ◌/◌, ◌%◌, ◌^◌, ◌≤◌, ◌<◌}
use borrow.Author.Tests.{eq-eqb, ne_eqb}
use lib.Dec.{eqb}
use lib.ListN.{length, drop, length-append, length-drop}
use lib.Seq.{take_all, take-append-le, drop-append-le, drop-append-add}
use Rattle.hashing.specs.declared.Context.{Context}
use Rattle.bits.specs.Bytes.{row_of}
use Rattle.bits.proofs.Numbers.{lt-or-le}
use Rattle.bits.proofs.Rows.{row_inside}
use Rattle.parties.specs.Parties.{height_of}
use Rattle.parties.proofs.Counts.{height-pow, count_no}
use Rattle.tree.specs.Tree.{left_child, right_child, node_value, leaves_below, NodeChildren, LeafNode, LeafOfParty}
use Rattle.tree.proofs.Lengths.{length-left, length-right, length-leaves}

-- nodes 2k and 2k + 1 are the children of node k
module _ (j : Context) (m : List ℕ) (d k : ℕ) where
  pub node-left : node_value j m (suc d) (2 * k) ≡ left_child j k (node_value j m d k)
  unfolding node_value
  node-left = let e : 2 * k / 2 ≡ k = omega arith in rw (eq-eqb (2 * k % 2) 0 (omega arith), e)

  pub node-right : node_value j m (suc d) (2 * k + 1) ≡ right_child j k (node_value j m d k)
  unfolding node_value
  node-right = let e : (2 * k + 1) / 2 ≡ k = omega arith in rw (ne_eqb ((2 * k + 1) % 2) 0 (λ q. omega arith), e)

pub node-children : NodeChildren
node-children = record { left = node-left; right = node-right }

-- a node h levels below node c, which is a child of the node with value v, is h + 1 levels below that
node-below : (j : Context) (v : List ℕ) (h c x : ℕ) → 2 ^ h * c ≤ x → x < 2 ^ h * c + 2 ^ h
    → node_value j v (suc h) x ≡ node_value j (node_value j v 1 c) h x
unfolding node_value
node-below j v zero c x l u = let e : x ≡ c = omega arith in rw e
node-below j v (suc h) c x l u =
    let t : 2 ^ suc h ≡ 2 * 2 ^ h = pow-succ' 2 h in
    let p : 2 ^ suc h * c ≡ 2 * (2 ^ h * c) = ap (λ (y : ℕ). y * c) t ∙ mul_assoc 2 (2 ^ h) c in
    ap (λ (value : List ℕ). cond (eqb (x % 2) 0) (left_child j (x / 2) value) (right_child j (x / 2) value))
    (node-below j v h c (x / 2) (omega arith) (omega arith))

-- the rows of two lists, one after the other
pub row_first : (A B : List ℕ) (i : ℕ) → i * 16 + 16 ≤ length A → row_of (A ++ B) 16 i ≡ row_of A 16 i
row_first A B i w =
    let a : i * 16 ≤ length A = omega arith in
    let d : 16 ≤ length (drop (i * 16) A) = rw length-drop (omega arith) in
    row_inside (A ++ B) 16 i (rw length-append (omega arith))
    ∙ rw (drop-append-le (i * 16) A B, take-append-le 16 (drop (i * 16) A) B) (sym (row_inside A 16 i w))

pub row-second : (A B : List ℕ) (m i : ℕ) → length A ≡ 16 * m → m ≤ i → (i - m) * 16 + 16 ≤ length B → row_of (A ++ B) 16 i ≡ row_of B 16 (i - m)
row-second A B m i l a w =
    let e : i * 16 ≡ length A + (i - m) * 16 = omega arith in
    row_inside (A ++ B) 16 i (rw length-append (omega arith))
    ∙ rw (e, drop-append-add A B ((i - m) * 16)) (sym (row_inside B 16 (i - m) w))

row-whole : (v : List ℕ) (i : ℕ) → length v ≡ 16 → i < 1 → row_of v 16 i ≡ v
row-whole v i l w =
    let e : i ≡ 0 = omega arith in
    row_inside v 16 i (omega arith) ∙ rw e (take_all 16 v (omega arith))

-- 0 levels below the master is the master
leaf-self : (j : Context) (x : ℕ) (v : List ℕ) → v ≡ node_value j v 0 x
unfolding node_value
leaf-self j x v = refl

-- the leaves h levels below node k are the nodes from 2 ^ h * k on
pub leaf-below : (j : Context) (h k i : ℕ) (v : List ℕ) → length v ≡ 16 → i < 2 ^ h → row_of (leaves_below j h k v) 16 i ≡ node_value j v h (2 ^ h * k + i)
unfolding leaves_below
leaf-below j zero k i v l w = row-whole v i l w ∙ leaf-self j (2 ^ 0 * k + i) v
leaf-below j (suc h) k i v l w =
    let L : List ℕ = left_child j k v in
    let R : List ℕ = right_child j k v in
    let A : List ℕ = leaves_below j h (2 * k) L in
    let B : List ℕ = leaves_below j h (2 * k + 1) R in
    let t : 2 ^ suc h ≡ 2 * 2 ^ h = pow-succ' 2 h in
    let p : 2 ^ suc h * k ≡ 2 ^ h * (2 * k) = ap (λ (y : ℕ). y * k) (t ∙ mul_comm 2 (2 ^ h)) ∙ mul_assoc (2 ^ h) 2 k in
    let q : 2 ^ h * (2 * k + 1) ≡ 2 ^ h * (2 * k) + 2 ^ h * 1 = mul-add (2 ^ h) (2 * k) 1 in
    let a : length A ≡ 16 * 2 ^ h = length-leaves j h (2 * k) L (length-left j k v) in
    let b : length B ≡ 16 * 2 ^ h = length-leaves j h (2 * k + 1) R (length-right j k v) in
    let x : ℕ = 2 ^ suc h * k + i in
    ⊎_elim
    (λ (s : i < 2 ^ h).
    let e : 2 ^ h * (2 * k) + i ≡ x = omega arith in
    row_first A B i (omega arith)
    ∙ (leaf-below j h (2 * k) i L (length-left j k v) s
    ∙ (ap (λ (y : ℕ). node_value j L h y) e
    ∙ sym (node-below j v h (2 * k) x (omega arith) (omega arith) ∙ ap (λ (c : List ℕ). node_value j c h x) (node-left j v 0 k ∙ ap (left_child j k) (sym (leaf-self j k v)))))))
    (λ (s : 2 ^ h ≤ i).
    let e : 2 ^ h * (2 * k + 1) + (i - 2 ^ h) ≡ x = omega arith in
    row-second A B (2 ^ h) i a s (omega arith)
    ∙ (leaf-below j h (2 * k + 1) (i - 2 ^ h) R (length-right j k v) (omega arith)
    ∙ (ap (λ (y : ℕ). node_value j R h y) e
    ∙ sym (node-below j v h (2 * k + 1) x (omega arith) (omega arith) ∙ ap (λ (c : List ℕ). node_value j c h x) (node-right j v 0 k ∙ ap (right_child j k) (sym (leaf-self j k v)))))))
    (lt-or-le i (2 ^ h))

-- leaf i of a tree of height h is node 2 ^ h + i
pub leaf-node : LeafNode
leaf-node j h i master l w =
    let e : 2 ^ h * 1 ≡ 2 ^ h = omega arith in
    leaf-below j h 1 i master l w ∙ ap (λ (x : ℕ). node_value j master h (x + i)) e

-- "Leaf i is node n + i"
pub leaf-of-party : LeafOfParty
leaf-of-party j n i master t l w =
    let e : 2 ^ height_of n ≡ n = height-pow n (λ q. let f : false ≡ true = sym (count_no n q) ∙ t in let z : ◌≡◌ {A = ℕ} 0 1 = cc in omega arith) in
    leaf-node j (height_of n) i master l (omega arith) ∙ ap (λ (x : ℕ). node_value j master (height_of n) (x + i)) e
