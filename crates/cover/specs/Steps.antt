-- What only the contracts of steps use: no definition of the paper stands here. A mark for each node says what is at or below it, and
-- from the marks follows which nodes are opened. The values of the nodes stand in rows, row k that of node k.
-- Assumes nothing.
use Rattle.std.specs.Prelude.{Bool, not, cond, ◌&&◌, ℕ, suc, ◌+◌, ◌-◌, ◌*◌, ◌/◌, ◌^◌, eqb, leb, ltb, length, get_or, take, drop, replicate}
use mathlib.Core.List.{List, ◌++◌, flatten}
use Rattle.std.specs.Int.Bits.{bit_or}
use Rattle.bits.specs.Bits.{bit_val, tabulate}
use Rattle.hashing.specs.declared.Context.{Context}
use Rattle.cover.specs.Cover.{those, has_leaf, hidden, unhidden}
use Rattle.cover.specs.Masters.{value_of, child_of, given}

-- whether a table says that leaf i is hidden: its entry i is not the one that stands for none
unfoldable pub hidden_by : List ℕ → ℕ → ℕ → Bool
hidden_by table clear i = not (eqb (get_or table i 0) clear)

-- the mark of node k: 1 for an unhidden leaf at or below it, 2 for a hidden one, 3 for both
unfoldable pub mark_of : ℕ → ℕ → (ℕ → Bool) → ℕ → ℕ
mark_of h M hides k = bit_val (has_leaf h (unhidden M hides) k) + 2 * bit_val (has_leaf h (hidden M hides) k)

-- the marks of all nodes
unfoldable pub marks_of : ℕ → ℕ → (ℕ → Bool) → List ℕ
marks_of h M hides = tabulate (2 ^ suc h) (mark_of h M hides)

-- the mark of leaf i from its entry
unfoldable pub leaf_mark : List ℕ → ℕ → ℕ → ℕ → ℕ
leaf_mark table clear M i = cond (ltb i M) (cond (eqb (get_or table i 0) clear) 1 2) 0

-- the mark of node k from its leaf's entry, or from its children's marks
unfoldable pub node_mark : List ℕ → ℕ → ℕ → ℕ → List ℕ → ℕ → ℕ
node_mark table clear M leaves marks k =
    cond (leb leaves k) (leaf_mark table clear M (k - leaves)) (cond (eqb k 0) 0 (bit_or (get_or marks (2 * k) 0) (get_or marks (2 * k + 1) 0)))

-- whether node k is opened, by the marks: an unhidden leaf alone, and a hidden one below its parent
unfoldable pub opened_by : List ℕ → ℕ → Bool
opened_by marks k = eqb (get_or marks k 0) 1 && leb 2 (get_or marks (k / 2) 0)

-- the opened nodes, by the marks
abbrev pub cover_by : List ℕ → List ℕ
cover_by marks = those (length marks) (opened_by marks)

-- row x of the nodes' values, and zeros in row 0, which is no node
unfoldable pub node_row : (ℕ → List ℕ → List ℕ) → List ℕ → ℕ → ℕ → List ℕ
node_row rule root h x = cond (eqb x 0) (replicate 16 0) (value_of rule root h x)

-- the rows of all nodes, 16 bytes each
unfoldable pub nodes_of : (ℕ → List ℕ → List ℕ) → List ℕ → ℕ → List ℕ
nodes_of rule root h = flatten (tabulate (2 ^ suc h) (node_row rule root h))

-- rows of len bytes, with another row k
unfoldable pub put_row : ℕ → List ℕ → ℕ → List ℕ → List ℕ
put_row len s k row = take (k * len) s ++ (row ++ drop (k * len + len) s)

-- the value of an opened node, zeros for any other
unfoldable pub given_by : List ℕ → List ℕ → ℕ → List ℕ
given_by marks values x = cond (opened_by marks x) (given (opened_by marks) values x) (replicate 16 0)

-- node x from its parent's value, where the parent has unhidden leaves alone; else from the values of the opened nodes
unfoldable pub follow_of : Context → List ℕ → List ℕ → ℕ → List ℕ → List ℕ
follow_of j marks values x value = cond (eqb (get_or marks (x / 2) 0) 1) (child_of j x value) (given_by marks values x)
