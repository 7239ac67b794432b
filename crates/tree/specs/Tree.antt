-- The tree of an instance j. Document 01: "node 1 of the tree is the master; a node k's 32 bytes SHAKE128(2, j, k as u16,
-- value) are nodes 2k and 2k + 1. Leaf i is node n + i; a node's subtree is the same rule applied to its two children.
-- Opening all but p gives the siblings on the path to p, top first." Document 02, order 10, has the salt after the tag: an instance j is its
-- number with the salt of its proof.
-- Assumes nothing.
use Rattle.std.specs.Prelude.{true, cond, List, [], ◌++◌, ◌≡◌, ℕ, zero, suc, ◌+◌, ◌-◌, ◌*◌, ◌/◌, ◌%◌, ◌^◌, ◌<◌, eqb, ltb, length, take, drop, replicate}
use Rattle.hashing.specs.declared.Context.{Context}
use Rattle.bits.specs.Bytes.{row_of}
use Rattle.parties.specs.Parties.{height_of, is_party_count}
use Rattle.keccak.specs.Sponge.{shake128}
use Rattle.hashing.specs.Inputs.{node_input}

-- the values of nodes 2k and 2k + 1, from that of node k
unfoldable pub children : Context → ℕ → List ℕ → List ℕ
children j k value = shake128 (node_input j k value) 32

unfoldable pub left_child : Context → ℕ → List ℕ → List ℕ
left_child j k value = take 16 (children j k value)

unfoldable pub right_child : Context → ℕ → List ℕ → List ℕ
right_child j k value = drop 16 (children j k value)

-- the value of node x, d levels below the master: node 1 is the master, an even node x is the left child of node x / 2, an
-- odd one its right child
unfoldable pub node_value : Context → List ℕ → ℕ → ℕ → List ℕ
node_value j master zero x = master
node_value j master (suc d) x =
    let k : ℕ = x / 2 in
    let value : List ℕ = node_value j master d k in
    cond (eqb (x % 2) 0) (left_child j k value) (right_child j k value)

-- the leaves h levels below node k, in order
unfoldable pub leaves_below : Context → ℕ → ℕ → List ℕ → List ℕ
leaves_below j zero k value = value
leaves_below j (suc h) k value =
    leaves_below j h (2 * k) (left_child j k value) ++ leaves_below j h (2 * k + 1) (right_child j k value)

-- the siblings on the path from node k to its leaf p, h levels below, top first
unfoldable pub siblings_below : Context → ℕ → ℕ → ℕ → List ℕ → List ℕ
siblings_below j zero k p value = []
siblings_below j (suc h) k p value =
    cond (ltb p (2 ^ h)) (right_child j k value ++ siblings_below j h (2 * k) p (left_child j k value))
    (left_child j k value ++ siblings_below j h (2 * k + 1) (p - 2 ^ h) (right_child j k value))

-- the leaves h levels below node k that follow from the siblings on the path to leaf p, with zeros at leaf p
unfoldable pub opened_below : Context → ℕ → ℕ → ℕ → List ℕ → List ℕ
opened_below j zero k p siblings = replicate 16 0
opened_below j (suc h) k p siblings =
    cond (ltb p (2 ^ h)) (opened_below j h (2 * k) p (drop 16 siblings) ++ leaves_below j h (2 * k + 1) (take 16 siblings))
    (leaves_below j h (2 * k) (take 16 siblings) ++ opened_below j h (2 * k + 1) (p - 2 ^ h) (drop 16 siblings))

-- leaves with zeros at leaf p
unfoldable pub hide : ℕ → List ℕ → List ℕ
hide p leaves = take (16 * p) leaves ++ replicate 16 0 ++ drop (16 * p + 16) leaves

-- "a node k's 32 bytes .. are nodes 2k and 2k + 1": an even node is a left child, an odd one a right child
pub record NodeChildren : Type 0 where
  pub left : (j : Context) (master : List ℕ) (d k : ℕ) → node_value j master (suc d) (2 * k) ≡ left_child j k (node_value j master d k)
  pub right : (j : Context) (master : List ℕ) (d k : ℕ) → node_value j master (suc d) (2 * k + 1) ≡ right_child j k (node_value j master d k)

-- "Leaf i is node n + i", in a tree of height h: n is 2 ^ h
abbrev pub LeafNode : Type 0
LeafNode =
    (j : Context) (h i : ℕ) (master : List ℕ) → length master ≡ 16 → i < 2 ^ h
    → row_of (leaves_below j h 1 master) 16 i ≡ node_value j master h (2 ^ h + i)

-- "Leaf i is node n + i", for every number n of parties
abbrev pub LeafOfParty : Type 0
LeafOfParty =
    (j : Context) (n i : ℕ) (master : List ℕ) → is_party_count n ≡ true → length master ≡ 16 → i < n
    → row_of (leaves_below j (height_of n) 1 master) 16 i ≡ node_value j master (height_of n) (n + i)

-- "Opening all but p gives the siblings on the path to p": the leaves that follow from these are the leaves, with zeros at leaf p
abbrev pub Opening : Type 0
Opening =
    (j : Context) (h k p : ℕ) (value : List ℕ) → length value ≡ 16 → p < 2 ^ h
    → opened_below j h k p (siblings_below j h k p value) ≡ hide p (leaves_below j h k value)

-- the same, at the row of every other leaf
abbrev pub OpeningRows : Type 0
OpeningRows =
    (j : Context) (h k p i : ℕ) (value : List ℕ) → length value ≡ 16 → p < 2 ^ h → i < 2 ^ h → (i ≡ p → ⊥)
    → row_of (opened_below j h k p (siblings_below j h k p value)) 16 i ≡ row_of (leaves_below j h k value) 16 i
