-- What only the contracts of steps use: no definition of the paper stands here.
-- The same list as nested choices, and the file at a place by division.
-- Assumes nothing.
use Rattle.std.specs.Prelude.{cond, List, [], ◌∷◌, ◌++◌, ℕ, zero, suc, ◌+◌, ◌-◌, ◌*◌, ◌/◌, ◌%◌, eqb, ltb}
use Rattle.bits.specs.Bits.{tabulate}
use Rattle.small.specs.Small.{below, choose}
use Rattle.small.specs.declared.Gate.{Gate}

-- wire i of those that a gate reads: the inputs, then the wire e
unfoldable pub wire_of : ℕ → ℕ → ℕ → ℕ
wire_of I e i = cond (ltb i I) i e

-- the first w of them
unfoldable pub wires : ℕ → ℕ → ℕ → List ℕ
wires I e w = tabulate w (wire_of I e)

-- the wires b of a kind: that of INV is 0
unfoldable pub second_of : ℕ → List ℕ → List ℕ
second_of kind ws = cond (eqb kind 3) (0 ∷ []) ws

-- the records of a gate that reads wires of ws and links to `next`, each with what comes after it
unfoldable pub records_on : List ℕ → ℕ → List (List ℕ) → List (List ℕ)
records_on ws next rest =
    choose (1 ∷ 2 ∷ 3 ∷ []) (λ kind. choose ws (λ a. choose (second_of kind ws) (λ b. choose (next ∷ []) (λ _. rest))))

-- the records of both slots, by the head: the gate first on the chain reads inputs, the other one its output too
unfoldable pub two_records : ℕ → ℕ → List (List ℕ)
two_records I head =
    cond (eqb head 1)
    (records_on (wires I 0 I) 2 (records_on (wires I I (I + 1)) 0 ([] ∷ [])))
    (records_on (wires I (I + 1) (I + 1)) 0 (records_on (wires I 0 I) 1 ([] ∷ [])))

-- the heads, and the records that go with a head
unfoldable pub heads : ℕ → List ℕ
heads zero = 0 ∷ []
heads (suc zero) = 1 ∷ []
heads (suc (suc n)) = 1 ∷ 2 ∷ []

unfoldable pub records_of : ℕ → ℕ → ℕ → List (List ℕ)
records_of I zero head = [] ∷ []
records_of I (suc zero) head = records_on (wires I 0 I) 0 ([] ∷ [])
records_of I (suc (suc n)) head = two_records I head

-- the fields of all files
unfoldable pub direct : ℕ → ℕ → List (List ℕ)
direct I G =
    choose (I ∷ []) (λ _. choose (1 ∷ []) (λ _. choose (G ∷ []) (λ _.
    choose (heads G) (λ head. choose (below (I + G)) (λ _. records_of I G head)))))

-- how many gates can read w wires: XOR and AND of two, INV of one
unfoldable pub gates_on : ℕ → ℕ
gates_on w = 2 * (w * w) + w

-- gate r of these: its kind, and its wires a and b
unfoldable pub kind_at : ℕ → ℕ → ℕ
kind_at w r = cond (ltb r (2 * (w * w))) (1 + r / (w * w)) 3

unfoldable pub first_at : ℕ → ℕ → ℕ → ℕ → ℕ
first_at I e w r = wire_of I e (cond (ltb r (2 * (w * w))) (r % (w * w) / w) (r - 2 * (w * w)))

unfoldable pub second_at : ℕ → ℕ → ℕ → ℕ → ℕ
second_at I e w r = cond (ltb r (2 * (w * w))) (wire_of I e (r % (w * w) % w)) 0

-- its record, with a link
unfoldable pub record_at : ℕ → ℕ → ℕ → ℕ → ℕ → List ℕ
record_at I e w r next = kind_at w r ∷ first_at I e w r ∷ second_at I e w r ∷ next ∷ []

-- the header and the output wire
abbrev pub front_of : ℕ → ℕ → ℕ → ℕ → List ℕ
front_of I G head output = I ∷ 1 ∷ G ∷ head ∷ output ∷ []

-- how many pairs of gates there are, and how many files with a head
unfoldable pub pairs : ℕ → ℕ
pairs I = gates_on I * gates_on (I + 1)

unfoldable pub per_head : ℕ → ℕ
per_head I = (I + 2) * pairs I

-- how many files there are
unfoldable pub count_of : ℕ → ℕ → ℕ
count_of I zero = I
count_of I (suc zero) = (I + 1) * gates_on I
count_of I (suc (suc n)) = 2 * per_head I

-- the records of pair r, by the head
unfoldable pub pair_at : ℕ → ℕ → ℕ → List ℕ
pair_at I head r =
    cond (eqb head 1)
    (record_at I 0 I (r / gates_on (I + 1)) 2 ++ record_at I I (I + 1) (r % gates_on (I + 1)) 0)
    (record_at I (I + 1) (I + 1) (r / gates_on I) 0 ++ record_at I 0 I (r % gates_on I) 1)

-- the fields of the file at a place
unfoldable pub fields_at : ℕ → ℕ → ℕ → List ℕ
fields_at I zero place = front_of I 0 0 place
fields_at I (suc zero) place = front_of I 1 1 (place / gates_on I) ++ record_at I 0 I (place % gates_on I) 0
fields_at I (suc (suc n)) place =
    let head : ℕ = 1 + place / per_head I in
    let r : ℕ = place % per_head I in
    front_of I 2 head (r / pairs I) ++ pair_at I head (r % pairs I)

-- gate r of those that read w wires, as the code has it, and its record
unfoldable pub gate_at : ℕ → ℕ → ℕ → ℕ → Gate
gate_at I e w r = record { kind = kind_at w r; a = first_at I e w r; b = second_at I e w r }

abbrev pub record_fields : Gate → ℕ → List ℕ
record_fields g next = g.kind ∷ g.a ∷ g.b ∷ next ∷ []
