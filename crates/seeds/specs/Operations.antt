-- The operations with their refusals. Document 01: "Hash, expand or open a tree, derive a challenge: 8, 9, 6." Document 02, order 5, has
-- the tree over the masters. Order 10: "A lent salt of another length gives 6."
-- "A refusal returns its number alone, and all lent buffers hold what they held."
-- Assumes nothing.
use Rattle.std.specs.Prelude.{Bool, not, ◌&&◌, ℕ, ◌*◌, ◌/◌, ◌%◌, eqb, leb, ltb, length, ⊤, Result}
use mathlib.Core.List.{List, [], ◌∷◌, flatten}
use Rattle.bits.specs.Bits.{tabulate}
use Rattle.bits.specs.Bytes.{le_at}
use Rattle.refusal.specs.Outcome.{Answer, told, Outcome, done, unless}
use Rattle.refusal.specs.declared.Refusal.{Refusal}
use Rattle.parties.specs.Parties.{height_of, is_party_count}
use Rattle.hashing.specs.Inputs.{context_of, bound_of}
use Rattle.tree.specs.Tree.{leaves_below, siblings_below}
use Rattle.cover.specs.Cover.{some}
use Rattle.cover.specs.Masters.{master_of, cover_of, cover_bytes}
use Rattle.choice.specs.Challenge.{max_instances, challenge_of}

-- a success has no values
abbrev pub paper : Result ⊤ Refusal → Answer
paper r = told (λ _. []) r

-- the answer, and what the lent buffer then holds
abbrev pub outcome : Result ⊤ Refusal → List ℕ → Outcome
outcome r left = record { answer = paper r; left = left ∷ [] }

-- an instance number is a u16
abbrev pub is_instance : ℕ → Bool
is_instance j = leb j 65535

-- "a lent 32-byte salt"
abbrev pub is_salt : List ℕ → Bool
is_salt salt = eqb (length salt) 32

-- expand the tree of j from its master
unfoldable pub expand_op : ℕ → ℕ → List ℕ → List ℕ → List ℕ → Outcome
expand_op j n salt master lent =
    unless (is_instance j) 8 (lent ∷ [])
    (unless (is_party_count n) 8 (lent ∷ [])
    (unless (is_salt salt) 6 (lent ∷ [])
    (unless (eqb (length master) 16) 6 (lent ∷ [])
    (unless (eqb (length lent) (16 * n)) 6 (lent ∷ []) (done (leaves_below (context_of salt j) (height_of n) 1 master ∷ []))))))

-- open all but leaf p of the tree of j
unfoldable pub open_op : ℕ → ℕ → ℕ → List ℕ → List ℕ → List ℕ → Outcome
open_op j n p salt master lent =
    unless (is_instance j) 8 (lent ∷ [])
    (unless (is_party_count n) 8 (lent ∷ [])
    (unless (ltb p n) 9 (lent ∷ [])
    (unless (is_salt salt) 6 (lent ∷ [])
    (unless (eqb (length master) 16) 6 (lent ∷ [])
    (unless (eqb (length lent) (16 * height_of n)) 6 (lent ∷ [])
    (done (siblings_below (context_of salt j) (height_of n) 1 p master ∷ [])))))))

-- "M is 2..512"
unfoldable pub is_tree_size : ℕ → Bool
is_tree_size M = leb 2 M && leb M max_instances

-- "Let the masters be the leaves of one tree": the masters of M instances, from the root
unfoldable pub masters_op : ℕ → List ℕ → List ℕ → List ℕ → Outcome
masters_op M salt root lent =
    unless (is_tree_size M) 8 (lent ∷ [])
    (unless (is_salt salt) 6 (lent ∷ [])
    (unless (eqb (length root) 16) 6 (lent ∷ [])
    (unless (eqb (length lent) (16 * M)) 6 (lent ∷ []) (done (flatten (tabulate M (master_of M salt root)) ∷ [])))))

-- hidden leaves come in any order, a u16 each: how many are listed, and the number of the leaf at place t
abbrev pub leaf_count : List ℕ → ℕ
leaf_count leaves = length leaves / 2

unfoldable pub leaf_at : List ℕ → ℕ → ℕ
leaf_at leaves t = le_at 2 leaves (2 * t)

-- the set of the listed leaves: one of them is i
unfoldable pub listed : List ℕ → ℕ → Bool
listed leaves i = some (leaf_count leaves) (λ t. eqb (leaf_at leaves t) i)

-- "An empty hidden set, or a leaf at or above M, gives 9"
unfoldable pub are_leaves : ℕ → List ℕ → Bool
are_leaves M leaves = leb 1 (leaf_count leaves) && not (some (leaf_count leaves) (λ t. leb M (leaf_at leaves t)))

-- "open the fewest nodes from which every unhidden leaf among the M follows and no hidden one does"; "a lent output not of 16 bytes for
-- each opened node gives 6"
unfoldable pub cover_op : ℕ → List ℕ → List ℕ → List ℕ → List ℕ → Outcome
cover_op M leaves salt root lent =
    unless (is_tree_size M) 8 (lent ∷ [])
    (unless (are_leaves M leaves) 9 (lent ∷ [])
    (unless (eqb (length leaves % 2) 0) 6 (lent ∷ [])
    (unless (is_salt salt) 6 (lent ∷ [])
    (unless (eqb (length root) 16) 6 (lent ∷ [])
    (unless (eqb (length lent) (cover_bytes M (listed leaves))) 6 (lent ∷ []) (done (cover_of M (listed leaves) salt root ∷ [])))))))

-- the limits on the bytes of a message, and on those of y, which hold 256 outputs
abbrev pub max_message : ℕ
max_message = 4096

abbrev pub max_output_bytes : ℕ
max_output_bytes = 32

-- "M is 2..512, τ 1..M−1"
unfoldable pub are_counts : ℕ → ℕ → Bool
are_counts M tau = leb 2 M && (leb M max_instances && (leb 1 tau && ltb tau M))

-- "Deriving a challenge is lent this digest and y; 6 unless they are 32 and 1..32 bytes" (document 02, order 1); h* has 32 bytes, a
-- message 0..4,096
unfoldable pub statement_fits : List ℕ → List ℕ → List ℕ → List ℕ → List ℕ → Bool
statement_fits hstar salt digest y message =
    eqb (length hstar) 32
    && (is_salt salt && (eqb (length digest) 32 && (leb 1 (length y) && (leb (length y) max_output_bytes && leb (length message) max_message))))

-- derive the challenge from h*, the salt and the statement: the counts, the digest of the circuit file, y and the message
unfoldable pub challenge_op : ℕ → ℕ → ℕ → List ℕ → List ℕ → List ℕ → List ℕ → List ℕ → List ℕ → Outcome
challenge_op M tau n hstar salt digest y message lent =
    unless (are_counts M tau) 8 (lent ∷ [])
    (unless (is_party_count n) 8 (lent ∷ [])
    (unless (statement_fits hstar salt digest y message) 6 (lent ∷ [])
    (unless (eqb (length lent) (3 * tau)) 6 (lent ∷ [])
    (done (challenge_of M tau n hstar (bound_of salt M tau n digest y message) ∷ [])))))
