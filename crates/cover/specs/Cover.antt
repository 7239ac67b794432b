-- The nodes that are opened for a set of hidden leaves. Document 02, order 5: "open the fewest nodes from which every unhidden leaf
-- among the M follows and no hidden one does. .. So that the bytes are fixed, a node is opened if it has an unhidden leaf and no hidden
-- leaf at or below it while its parent has a hidden one; spare leaves count as neither."
-- In a tree of height h node 1 is the root, node x / 2 is the parent of node x, and leaf i is node 2 ^ h + i. The first M of its
-- leaves are in use, the others spare; `hides i` says whether leaf i is hidden.
-- Assumes nothing.
use Rattle.std.specs.Prelude.{◌≡◌, Bool, true, false, cond, not, ◌&&◌, ◌||◌, List, [], ◌∷◌, ◌++◌, ℕ, zero, suc, ◌+◌, ◌-◌, ◌/◌, ◌^◌, ◌≤◌, ◌<◌, eqb, ltb, length}

-- whether a number below n passes
unfoldable pub some : ℕ → (ℕ → Bool) → Bool
some zero f = false
some (suc n) f = f n || some n f

-- the numbers below n that pass, ascending
unfoldable pub those : ℕ → (ℕ → Bool) → List ℕ
those zero f = []
those (suc n) f = those n f ++ cond (f n) (n ∷ []) []

-- whether a number of a list passes
unfoldable pub some_of : (ℕ → Bool) → List ℕ → Bool
some_of f [] = false
some_of f (x ∷ xs) = f x || some_of f xs

-- the node e levels above node x
unfoldable pub up : ℕ → ℕ → ℕ
up zero x = x
up (suc e) x = up e (x / 2)

-- whether node k is at or above node x, at most h levels up
unfoldable pub is_above : ℕ → ℕ → ℕ → Bool
is_above h k x = some (suc h) (λ e. eqb (up e x) k)

-- whether one of the given leaves is "at or below" node k
unfoldable pub has_leaf : ℕ → (ℕ → Bool) → ℕ → Bool
has_leaf h leaves k = some (2 ^ h) (λ i. leaves i && is_above h k (2 ^ h + i))

-- "spare leaves count as neither": a hidden leaf is one of the first M
unfoldable pub hidden : ℕ → (ℕ → Bool) → ℕ → Bool
hidden M hides i = ltb i M && hides i

-- and so is an unhidden leaf
unfoldable pub unhidden : ℕ → (ℕ → Bool) → ℕ → Bool
unhidden M hides i = ltb i M && not (hides i)

-- "an unhidden leaf and no hidden leaf at or below it while its parent has a hidden one"
unfoldable pub opened : ℕ → ℕ → (ℕ → Bool) → ℕ → Bool
opened h M hides k =
    has_leaf h (unhidden M hides) k && (not (has_leaf h (hidden M hides) k) && has_leaf h (hidden M hides) (k / 2))

-- "Nodes come ascending": the opened nodes, by number
unfoldable pub cover : ℕ → ℕ → (ℕ → Bool) → List ℕ
cover h M hides = those (2 ^ suc h) (opened h M hides)

-- whether leaf i follows from the nodes of a list: one of them is at or above it
unfoldable pub follows : ℕ → List ℕ → ℕ → Bool
follows h nodes i = some_of (λ k. is_above h k (2 ^ h + i)) nodes

-- "nodes from which every unhidden leaf among the M follows and no hidden one does"
pub record Opens (h M : ℕ) (hides : ℕ → Bool) (nodes : List ℕ) : Type 0 where
  pub every : (i : ℕ) → i < M → hides i ≡ false → follows h nodes i ≡ true
  pub none : (i : ℕ) → i < M → hides i ≡ true → follows h nodes i ≡ false

-- leaf i has an opened node at or above it, and one alone
pub record OneAbove (h M : ℕ) (hides : ℕ → Bool) (i : ℕ) : Type 0 where
  pub node : ℕ
  pub is_opened : opened h M hides node ≡ true
  pub over : is_above h node (2 ^ h + i) ≡ true
  pub alone : (k : ℕ) → opened h M hides k ≡ true → is_above h k (2 ^ h + i) ≡ true → k ≡ node

-- every unhidden leaf has exactly one opened node at or above it, once a leaf p is hidden; no hidden leaf has any
pub record ExactlyOne : Type 0 where
  pub every : (h M : ℕ) (hides : ℕ → Bool) (p i : ℕ) → M ≤ 2 ^ h → p < M → hides p ≡ true → i < M → hides i ≡ false
      → OneAbove h M hides i
  pub none : (h M : ℕ) (hides : ℕ → Bool) (i k : ℕ) → M ≤ 2 ^ h → i < M → hides i ≡ true → opened h M hides k ≡ true
      → is_above h k (2 ^ h + i) ≡ false

-- "open the fewest nodes": the cover opens what it should, once a leaf p is hidden, and "a cover with fewer nodes must be shown not to
-- exist"
pub record CoverLeast : Type 0 where
  pub opens : (h M : ℕ) (hides : ℕ → Bool) (p : ℕ) → M ≤ 2 ^ h → p < M → hides p ≡ true → Opens h M hides (cover h M hides)
  pub least : (h M : ℕ) (hides : ℕ → Bool) (nodes : List ℕ) → M ≤ 2 ^ h → Opens h M hides nodes → length (cover h M hides) ≤ length nodes

-- where tau of the M leaves are hidden, at most M - tau nodes are opened
abbrev pub CoverLength : Type 0
CoverLength = (h M tau : ℕ) (hides : ℕ → Bool) → M ≤ 2 ^ h → length (those M hides) ≡ tau → length (cover h M hides) ≤ M - tau
