-- What the tests of reading mean (document 01, "Circuit file"; document 02, orders 2 and 7): the theorems on the chain, the wires and the
-- fields.
-- Assumes nothing.
use Rattle.std.specs.Prelude.{◌≡◌, true, List, [], ◌∷◌, ◌++◌, ◌⊎◌, ◌≢◌, ℕ, ◌+◌, ◌*◌, ◌≤◌, ◌<◌, length, get_or}
use Rattle.bits.specs.Counting.{count}
use Rattle.circuit.specs.Circuit.{Gate, xor, and, inv, Circuit}
use Rattle.circuit.specs.Chain.{fault, walk}
use Rattle.circuit.specs.Fields as fields
use Rattle.circuit.specs.File.{width, inputs_of, outputs_of, gates_of, head_of, output_wire, next_of, within_limits, right_length, good_records, chain_walk, good_chain, chain_from, gates_in_order, good_wires, refused, legal, read_circuit}

-- the slots of a list follow each other by their links: from k on, and after the last one the chain ends
unfoldable pub Follows : List ℕ → ℕ → List ℕ → Type 0
Follows s k [] = k ≡ 0
Follows s k (x ∷ xs) = (k ≡ x) × Follows s (next_of s x) xs

-- "It must visit each slot exactly once and end": the list is the chain, and has each of the slots 1..G once and no other
pub record VisitsAllOnce (s : List ℕ) (slots : List ℕ) : Type 0 where
  pub follows : Follows s (head_of s) slots
  pub once : (k : ℕ) → 1 ≤ k → k ≤ gates_of s → count k slots ≡ 1
  pub only : (k : ℕ) → (k ≡ 0) ⊎ (gates_of s < k) → count k slots ≡ 0

-- Theorem, chain: the test passes exactly if the chain visits each slot once and ends
pub record ChainTheorem : Type 0 where
  pub sound : (s : List ℕ) → good_chain s ≡ true → VisitsAllOnce s (chain_from s (gates_of s) (head_of s))
  pub complete : (s : List ℕ) (slots : List ℕ) → VisitsAllOnce s slots → good_chain s ≡ true

-- the slots of a list are visited from slot x on, and slot y is the last (x itself where the list is empty): each is the link of
-- the one before, and is in 1..G
unfoldable pub Passes : ℕ → (ℕ → ℕ) → ℕ → List ℕ → ℕ → Type 0
Passes G link x [] y = x ≡ y
Passes G link x (k ∷ ks) y = (link x ≡ k) × ((1 ≤ k) × ((k ≤ G) × Passes G link k ks y))

-- the walk from head meets at slot x what `Fault` says of the number of visits and of the link; all links before are good
pub record Meets (G : ℕ) (link : ℕ → ℕ) (Fault : ℕ → ℕ → Type 0) (x : ℕ) : Type 0 where
  pub slots : List ℕ
  pub passes : Passes G link 0 slots x
  pub fault : Fault (length slots) (link x)

-- "a link beyond G"
abbrev pub BeyondGates : ℕ → ℕ → ℕ → Type 0
BeyondGates G visits l = (visits ≤ G) × (G < l)

-- "an end before all G slots are visited"
abbrev pub EndsEarly : ℕ → ℕ → ℕ → Type 0
EndsEarly G visits l = (visits < G) × (l ≡ 0)

-- "a link other than 0 after G slots", which is not beyond G
abbrev pub GoesOn : ℕ → ℕ → ℕ → Type 0
GoesOn G visits l = (visits ≡ G) × ((1 ≤ l) × (l ≤ G))

-- the one holds exactly if the other does
abbrev pub Exactly : Type 0 → Type 0 → Type 0
Exactly A B = (A → B) × (B → A)

-- Theorem, first-fault: the walk gives 19, 20 or 21 at slot x exactly if it meets that fault there, all links before being good
pub record FirstFaultTheorem : Type 0 where
  pub beyond : (G : ℕ) (link : ℕ → ℕ) (x : ℕ) → Exactly (walk G link ≡ fault 19 x) (Meets G link (BeyondGates G) x)
  pub early : (G : ℕ) (link : ℕ → ℕ) (x : ℕ) → Exactly (walk G link ≡ fault 20 x) (Meets G link (EndsEarly G) x)
  pub onward : (G : ℕ) (link : ℕ → ℕ) (x : ℕ) → Exactly (walk G link ≡ fault 21 x) (Meets G link (GoesOn G) x)

-- a file that passes the tests before the chain: 1, 2, 1 and 3
pub record Recorded (s : List ℕ) : Type 0 where
  pub enough : width * 4 ≤ length s
  pub limited : within_limits s ≡ true
  pub sized : right_length s ≡ true
  pub records : good_records s (gates_of s) ≡ true

-- Theorem, read-fault: reading gives a number from 19 on, with slot x, exactly if the tests before the chain pass and the walk gives
-- that fault; and every other refusal of reading tells no slot
pub record ReadFaultTheorem : Type 0 where
  pub chain : (s : List ℕ) (k x : ℕ) → 19 ≤ k → Exactly (read_circuit s ≡ refused k x) (Recorded s × (chain_walk s ≡ fault k x))
  pub slotless : (s : List ℕ) (k x : ℕ) → k < 19 → read_circuit s ≡ refused k x → x ≡ 0

-- the wires that a gate reads, and the one it writes
unfoldable pub reads : Gate → List ℕ
reads (xor a b c) = a ∷ b ∷ []
reads (and a b c) = a ∷ b ∷ []
reads (inv a c) = a ∷ []

unfoldable pub writes : List Gate → List ℕ
writes [] = []
writes (xor a b c ∷ gs) = c ∷ writes gs
writes (and a b c ∷ gs) = c ∷ writes gs
writes (inv a c ∷ gs) = c ∷ writes gs

-- "A gate reads only inputs or wires written earlier on the chain", where there are I inputs
abbrev pub ReadsEarlier : ℕ → List Gate → Type 0
ReadsEarlier I gs =
    (before after : List Gate) (g : Gate) → gs ≡ before ++ (g ∷ after) → (w : ℕ) → 1 ≤ count w (reads g)
    → (w < I) ⊎ (1 ≤ count w (writes before))

-- Theorem, wires: of a legal circuit each wire from I to I + G − 1 is written exactly once, and no other is written; each
-- gate reads only inputs or wires that an earlier gate writes, and each output wire is an input or written; the test of the
-- wires passes if the last two hold
pub record WiresTheorem : Type 0 where
  pub once : (s : List ℕ) (c : Circuit) → read_circuit s ≡ legal c → (w : ℕ) → c.inputs ≤ w → w < c.inputs + length c.gates
      → count w (writes c.gates) ≡ 1
  pub only : (s : List ℕ) (c : Circuit) → read_circuit s ≡ legal c → (w : ℕ) → (w < c.inputs) ⊎ (c.inputs + length c.gates ≤ w)
      → count w (writes c.gates) ≡ 0
  pub earlier : (s : List ℕ) (c : Circuit) → read_circuit s ≡ legal c → ReadsEarlier c.inputs c.gates
  pub outputs : (s : List ℕ) (c : Circuit) → read_circuit s ≡ legal c → (j : ℕ) → j < length c.outputs
      → get_or c.outputs j 0 < c.inputs + length c.gates
  pub complete : (s : List ℕ) → ReadsEarlier (inputs_of s) (gates_in_order s)
      → ((j : ℕ) → j < outputs_of s → output_wire s j < inputs_of s + gates_of s) → good_wires s ≡ true

-- two files, of the right length each, whose fields have w and v bytes and are the same
pub record SameFields (w v : ℕ) (s t : List ℕ) : Type 0 where
  pub right : fields.right_length w s ≡ true
  pub right_too : fields.right_length v t ≡ true
  pub same : (k : ℕ) → k < fields.field_count (fields.field w s) → fields.field w s k ≡ fields.field v t k

-- Theorem, fields: such files are read alike. Where the one, with at most m gates, is not refused with 2, the other, with at most m
-- gates or more, gives the same circuit, or the same refusal (3, 19, 20, 21 or 5) with the same slot
pub record FieldsTheorem : Type 0 where
  pub alike : (w v m n : ℕ) (s t : List ℕ) → SameFields w v s t → m ≤ n → fields.read_with w m s ≢ refused 2 0
      → fields.read_with v n t ≡ fields.read_with w m s

-- Theorem, kind: in the old form, a field of two bytes is the number k of one byte exactly if its first byte is k and its second is zero:
-- "kind u8 (..), zero u8", for the kind of slot x
pub record KindTheorem : Type 0 where
  pub bytes : (s : List ℕ) → ((i : ℕ) → get_or s i 0 < 256) → (x k : ℕ) → k < 256
      → let at : ℕ = 2 * fields.record_at (fields.field 2 s) x in
      Exactly (fields.kind_of (fields.field 2 s) x ≡ k) ((get_or s at 0 ≡ k) × (get_or s (at + 1) 0 ≡ 0))
