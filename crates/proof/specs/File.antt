-- The proof file: its header, its length, and the place of each part (document 01, "Proof file"; document 02, orders 5 and 10).
-- Assumes nothing.
use Rattle.std.specs.Prelude.{Bool, ◌&&◌, List, [], ◌∷◌, ◌++◌, ℕ, zero, suc, ◌+◌, ◌-◌, ◌*◌, eqb, leb, length, get_or, take, drop}
use Rattle.bits.specs.Bits.{oct}
use Rattle.bits.specs.Bytes.{le_at, le_bytes}
use Rattle.parties.specs.Parties.{height_of, is_party_count}
use Rattle.circuit.specs.Circuit.{Circuit}
use Rattle.plain.specs.Tapes.{ands_of}
use Rattle.hashing.specs.declared.Context.{Context}
use Rattle.hashing.specs.Inputs.{context_of}
use Rattle.seeds.specs.Operations.{are_counts}
use Rattle.cover.specs.Masters.{cover_bytes, master_from}
use Rattle.instance.specs.Instance.{Asked, is_chosen}
use Rattle.instance.specs.Stretch.{stretch_bytes}

-- "M u16, τ u16, n u8, zero u8, h* (32)"; "The salt is written after h* in the header, which becomes 70 bytes" (document 02, order 10)
abbrev pub header_bytes : ℕ
header_bytes = 70

unfoldable pub header_of : ℕ → ℕ → ℕ → List ℕ → List ℕ → List ℕ
header_of M tau n hstar salt = le_bytes 2 M ++ le_bytes 2 tau ++ (n ∷ 0 ∷ []) ++ hstar ++ salt

abbrev pub header_m : List ℕ → ℕ
header_m proof = le_at 2 proof 0

abbrev pub header_tau : List ℕ → ℕ
header_tau proof = le_at 2 proof 2

abbrev pub header_n : List ℕ → ℕ
header_n proof = get_or proof 4 0

abbrev pub header_zero : List ℕ → ℕ
header_zero proof = get_or proof 5 0

abbrev pub header_hstar : List ℕ → List ℕ
header_hstar proof = take 32 (drop 6 proof)

abbrev pub header_salt : List ℕ → List ℕ
header_salt proof = take 32 (drop 38 proof)

-- instance j of a proof, with the salt of its header
abbrev pub context_at : List ℕ → ℕ → Context
context_at proof j = context_of (header_salt proof) j

-- refusal 11: "a header under 38 bytes, out of limits or with its zero byte not 0"; by document 02, order 10, under 70 bytes
unfoldable pub good_header : List ℕ → Bool
good_header proof =
    leb header_bytes (length proof) && (are_counts (header_m proof) (header_tau proof) && (is_party_count (header_n proof) && eqb (header_zero proof) 0))

-- the masters that stay hidden: those of the chosen instances
abbrev pub hides : (ℕ → Asked) → ℕ → Bool
hides ask j = is_chosen (ask j)

-- "Nodes come ascending after the header": the values of the opened nodes of the masters' tree
unfoldable pub nodes_at : ℕ → (ℕ → Asked) → List ℕ → List ℕ
nodes_at M ask proof = take (cover_bytes M (hides ask)) (drop header_bytes proof)

-- the master of instance j, as it follows from them
unfoldable pub master_at : ℕ → (ℕ → Asked) → List ℕ → ℕ → List ℕ
master_at M ask proof j = master_from M (hides ask) (header_salt proof) (nodes_at M ask proof) j

-- where the stretch of instance j starts: after the header, the opened nodes and the stretches before it
unfoldable pub stretch_start : Circuit → ℕ → ℕ → (ℕ → Asked) → ℕ → ℕ
stretch_start c M n ask zero = header_bytes + cover_bytes M (hides ask)
stretch_start c M n ask (suc j) = stretch_start c M n ask j + stretch_bytes c n (ask j)

-- the length of a proof of M instances
abbrev pub proof_bytes : Circuit → ℕ → ℕ → (ℕ → Asked) → ℕ
proof_bytes c M n ask = stretch_start c M n ask M

-- the stretch of instance j
unfoldable pub stretch_at : Circuit → ℕ → ℕ → (ℕ → Asked) → List ℕ → ℕ → List ℕ
stretch_at c M n ask proof j = take (stretch_bytes c n (ask j)) (drop (stretch_start c M n ask j) proof)

-- "that for 6 stays" (document 02, order 5): "the proof buffer must hold 38 + 48(M−τ) + τ(16·log2 n + oct(A) + 32 + oct(I) + oct(A+O)) or more"; by
-- order 10 with 70 in the place of 38
unfoldable pub proof_room : Circuit → ℕ → ℕ → ℕ → ℕ
proof_room c M tau n =
    header_bytes + 48 * (M - tau) + tau * (16 * height_of n + oct (ands_of c) + 32 + oct c.inputs + oct (ands_of c + length c.outputs))
