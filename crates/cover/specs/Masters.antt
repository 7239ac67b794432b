-- The tree over the masters. Document 02, order 5: "Let the masters be the leaves of one tree whose node 1 is the root, at the least
-- power of two that is at least M, node rule 2 with j = 65,535." Order 10: the salt stands in every node, "the masters' tree included".
-- A rule gives the value of node x from that of its parent.
-- Assumes nothing.
use Rattle.std.specs.Prelude.{◌≡◌, Bool, true, false, cond, ℕ, zero, suc, ◌+◌, ◌*◌, ◌/◌, ◌%◌, ◌^◌, ◌≤◌, ◌<◌, eqb, leb, ltb, length, replicate}
use mathlib.Core.List.{List, map, flatten}
use Rattle.bits.specs.Bytes.{row_of}
use Rattle.hashing.specs.declared.Context.{Context}
use Rattle.hashing.specs.Inputs.{context_of}
use Rattle.tree.specs.Tree.{left_child, right_child, leaves_below}
use Rattle.cover.specs.Cover.{those, opened, cover}

-- the first e of h, h + 1, .. with M ≤ 2 ^ e, and h + d if none comes before it
unfoldable pub least_from : ℕ → ℕ → ℕ → ℕ
least_from zero h M = h
least_from (suc d) h M = cond (leb M (2 ^ h)) h (least_from d (suc h) M)

-- "at the least power of two that is at least M": the height of the tree over M masters, which has 2 ^ height M leaves
unfoldable pub height : ℕ → ℕ
height M = least_from M 0 M

-- the value of node x, at most d levels below the root: "node 1 is the root"
unfoldable pub value_of : (ℕ → List ℕ → List ℕ) → List ℕ → ℕ → ℕ → List ℕ
value_of rule root zero x = root
value_of rule root (suc d) x = cond (ltb x 2) root (rule x (value_of rule root d (x / 2)))

-- node rule 2: an even node is the left child of its parent, an odd one the right child
unfoldable pub child_of : Context → ℕ → List ℕ → List ℕ
child_of j x value = cond (eqb (x % 2) 0) (left_child j (x / 2) value) (right_child j (x / 2) value)

-- "Nodes come ascending": the values of the opened nodes
unfoldable pub opening : ℕ → ℕ → (ℕ → Bool) → (ℕ → List ℕ → List ℕ) → List ℕ → List ℕ
opening h M hides rule root = flatten (map (value_of rule root h) (cover h M hides))

-- the value of an opened node, among such values: as many stand before it as opened nodes have a smaller number
unfoldable pub given : (ℕ → Bool) → List ℕ → ℕ → List ℕ
given is_opened values k = row_of values 16 (length (those k is_opened))

-- the value of node x from that of the nearest opened node at or above it, less than d levels up
unfoldable pub from_above : (ℕ → Bool) → (ℕ → List ℕ → List ℕ) → List ℕ → ℕ → ℕ → List ℕ
from_above is_opened rule values zero x = replicate 16 0
from_above is_opened rule values (suc d) x =
    cond (is_opened x) (given is_opened values x) (rule x (from_above is_opened rule values d (x / 2)))

-- leaf i as it follows from the values of the opened nodes
unfoldable pub leaf_from : ℕ → ℕ → (ℕ → Bool) → (ℕ → List ℕ → List ℕ) → List ℕ → ℕ → List ℕ
leaf_from h M hides rule values i = from_above (opened h M hides) rule values (suc h) (2 ^ h + i)

-- the tree over the masters of a proof with this salt: "j = 65,535"
abbrev pub masters_context : List ℕ → Context
masters_context salt = context_of salt 65535

-- "Let the masters be the leaves of one tree whose node 1 is the root": the master of instance j is leaf j
unfoldable pub master_of : ℕ → List ℕ → List ℕ → ℕ → List ℕ
master_of M salt root j = value_of (child_of (masters_context salt)) root (height M) (2 ^ height M + j)

-- "Nodes come ascending after the header": the bytes of the opened nodes
unfoldable pub cover_of : ℕ → (ℕ → Bool) → List ℕ → List ℕ → List ℕ
cover_of M hides salt root = opening (height M) M hides (child_of (masters_context salt)) root

-- "16 bytes for each opened node"
unfoldable pub cover_bytes : ℕ → (ℕ → Bool) → ℕ
cover_bytes M hides = 16 * length (cover (height M) M hides)

-- "from which every unhidden leaf among the M follows": the master of instance j from the bytes of the opened nodes
unfoldable pub master_from : ℕ → (ℕ → Bool) → List ℕ → List ℕ → ℕ → List ℕ
master_from M hides salt values j = leaf_from (height M) M hides (child_of (masters_context salt)) values j

-- "the least power of two that is at least M"
pub record LeastHeight : Type 0 where
  pub fits : (M : ℕ) → M ≤ 2 ^ height M
  pub least : (M h : ℕ) → M ≤ 2 ^ h → height M ≤ h

-- "every unhidden leaf among the M follows": once a leaf p is hidden, a master from the opened nodes is the master
abbrev pub MastersFollow : Type 0
MastersFollow =
    (M : ℕ) (hides : ℕ → Bool) (salt root : List ℕ) (p i : ℕ) → length root ≡ 16 → p < M → hides p ≡ true → i < M → hides i ≡ false
    → master_from M hides salt (cover_of M hides salt root) i ≡ master_of M salt root i

-- "the masters be the leaves of one tree": a master is a leaf of the tree of document 01, "a node's subtree is the same rule applied to
-- its two children"
abbrev pub MastersAreLeaves : Type 0
MastersAreLeaves =
    (M : ℕ) (salt root : List ℕ) (i : ℕ) → length root ≡ 16 → i < M
    → master_of M salt root i ≡ row_of (leaves_below (masters_context salt) (height M) 1 root) 16 i
