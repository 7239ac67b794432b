-- What the prover sends in Round 3 of Figure 2 (source document 001), and its bytes in the proof file (document 01, "Proof file";
-- document 02, orders 5 and 10).
-- Assumes nothing.
use Rattle.std.specs.Prelude.{◌≡◌, true, cond, ℕ, zero, suc, ◌+◌, ◌*◌, ◌<◌, eqb, length, get_or, take, drop}
use mathlib.Core.List.{List, [], ◌∷◌, ◌++◌, flatten}
use Rattle.bits.specs.Bits.{tabulate, oct, unused_zero}
use Rattle.bits.specs.Bytes.{le_at, le_bytes}
use Rattle.parties.specs.Parties.{height_of}
use Rattle.circuit.specs.Circuit.{Circuit}
use Rattle.plain.specs.Tapes.{ands_of}
use Rattle.cover.specs.Masters.{cover_bytes}
use Rattle.instance.specs.Instance.{Asked, opened, hiding}
use Rattle.proof.specs.Protocol.{statement_of, challenged}
use Rattle.proof.specs.File.{header_bytes, hides}

-- "For each j ∈ [M] \ C, the prover sends seed*_j, h'_j": h'_j; seed*_j, the master, follows from the opened nodes
pub record Unchosen : Type 0 where
  pub h' : List ℕ

-- "For each j ∈ C, the prover sends {state_{j,i}, r_{j,i}}_{i ≠ p_j}, com_{j,p_j}, {ẑ_{j,α}}, and msgs_{j,p_j}": the seeds and r follow
-- from the siblings on the path to leaf p_j; aux is sent as a part of party n − 1's state, so not where that party is hidden
pub record Chosen : Type 0 where
  pub siblings : List ℕ
  pub aux : List ℕ
  pub com_p : List ℕ
  pub masked : List ℕ
  pub msgs_p : List ℕ

-- what is sent of one instance; of a chosen one with its hidden party, which the challenge gives
pub data Sent : Type 0 where
  unchosen : Unchosen → Sent
  chosen : ℕ → Chosen → Sent

-- Round 3, where, by section 2.3 of 001, "we can, in fact, apply the same idea to the master seeds": the values of the opened nodes of the
-- masters' tree, 16 bytes each, ascending by number, from which seed*_j follows for every j ∉ C; and what is sent of each instance j
-- below M
pub record Response : Type 0 where
  pub nodes : List ℕ
  pub sent : ℕ → Sent

-- which of the two the challenge asks for: j ∉ C, or j ∈ C with its p_j
unfoldable pub answered : Sent → Asked
answered (unchosen u) = opened
answered (chosen p x) = hiding p

-- "M u16, τ u16, n u8, zero u8, h* (32)"; "The salt is written after h* in the header" (document 02, order 10)
pub record Header : Type 0 where
  pub M : ℕ
  pub tau : ℕ
  pub n : ℕ
  pub hstar : List ℕ
  pub salt : List ℕ

-- its numbers fit their bytes
abbrev pub HeaderFits : Header → Type 0
HeaderFits h = (h.M < 65536) × (h.tau < 65536) × (length h.hstar ≡ 32) × (length h.salt ≡ 32)

-- its bytes
unfoldable pub encode_header : Header → List ℕ
encode_header h = le_bytes 2 h.M ++ le_bytes 2 h.tau ++ (h.n ∷ 0 ∷ []) ++ h.hstar ++ h.salt

-- "stretches of instances not chosen keep only h'_j"; "Chosen: log2 n siblings of 16 bytes, corrections unless p = n − 1, com_p, masked
-- inputs, broadcast row p."
unfoldable pub encode_sent : Sent → List ℕ
encode_sent (unchosen u) = u.h'
encode_sent (chosen p x) = x.siblings ++ x.aux ++ x.com_p ++ x.masked ++ x.msgs_p

-- the proof file: the header, "Nodes come ascending after the header", "Then instances ascending"
unfoldable pub encode : Header → Response → List ℕ
encode h r = encode_header h ++ r.nodes ++ flatten (tabulate h.M (λ j. encode_sent (r.sent j)))

-- the header at the front of a file: M, τ, n and the zero byte, h*, the salt
unfoldable pub decode_header : List ℕ → Header
decode_header file =
    let s₁ : List ℕ = drop 2 file in
    let s₂ : List ℕ = drop 2 s₁ in
    let s₃ : List ℕ = drop 2 s₂ in
    let s₄ : List ℕ = drop 32 s₃ in
    record { M = le_at 2 file 0; tau = le_at 2 s₁ 0; n = get_or s₂ 0 0; hstar = take 32 s₃; salt = take 32 s₄ }

-- the whole statement, with the header's salt, M, τ and n: what the challenge of a file is bound to, under the circuit file s, y and message
abbrev pub bound_in : List ℕ → List ℕ → List ℕ → List ℕ → List ℕ
bound_in s y message file =
    let h : Header = decode_header file in
    statement_of h.salt h.M h.tau h.n s y message

-- "The check draws the challenge from the header's h*": what is asked of each instance
abbrev pub challenge_in : List ℕ → List ℕ → ℕ → Asked
challenge_in bound file =
    let h : Header = decode_header file in
    challenged h.M h.tau h.n h.hstar bound

-- "corrections unless p = n − 1"
unfoldable pub aux_bytes : Circuit → ℕ → ℕ → ℕ
aux_bytes c n p = cond (eqb (suc p) n) 0 (oct (ands_of c))

-- what is sent of an instance, taken part by part from the front of the bytes s, and the bytes after it
unfoldable pub decode_sent : Circuit → ℕ → Asked → List ℕ → Sent × List ℕ
decode_sent c n opened s = (unchosen (record { h' = take 32 s }), drop 32 s)
decode_sent c n (hiding p) s =
    let s₁ : List ℕ = drop (16 * height_of n) s in
    let s₂ : List ℕ = drop (aux_bytes c n p) s₁ in
    let s₃ : List ℕ = drop 32 s₂ in
    let s₄ : List ℕ = drop (oct c.inputs) s₃ in
    let row : ℕ = oct (ands_of c + length c.outputs) in (
      chosen p (record {
        siblings = take (16 * height_of n) s;
        aux = take (aux_bytes c n p) s₁;
        com_p = take 32 s₂;
        masked = take (oct c.inputs) s₃;
        msgs_p = take row s₄;
      }),
      drop row s₄,
    )

-- the bytes after those of the first j instances, where s starts with instance 0
unfoldable pub bytes_from : Circuit → ℕ → (ℕ → Asked) → List ℕ → ℕ → List ℕ
bytes_from c n ask s zero = s
bytes_from c n ask s (suc j) = (decode_sent c n (ask j) (bytes_from c n ask s j)).1

-- the bytes of the opened nodes of the tree over M masters, of which those of the chosen instances stay hidden
unfoldable pub nodes_bytes : ℕ → (ℕ → Asked) → ℕ
nodes_bytes M ask = cover_bytes M (hides ask)

-- the response in a file, after the header; the challenge says which instances are chosen
unfoldable pub decode : Circuit → List ℕ → List ℕ → Response
decode c bound file =
    let h : Header = decode_header file in
    let ask : ℕ → Asked = challenge_in bound file in
    let s : List ℕ = drop header_bytes file in
    let size : ℕ = nodes_bytes h.M ask in
    record { nodes = take size s; sent = λ j. (decode_sent c h.n (ask j) (bytes_from c h.n ask (drop size s) j)).0 }

-- the lengths of the parts: h'_j has 32 bytes; "log2 n siblings of 16 bytes, corrections unless p = n − 1, com_p, masked inputs, broadcast
-- row p"
abbrev pub Lengths : Circuit → ℕ → Sent → Type 0
Lengths c n (unchosen u) = length u.h' ≡ 32
Lengths c n (chosen p x) =
    (length x.siblings ≡ 16 * height_of n) × (length x.aux ≡ aux_bytes c n p) × (length x.com_p ≡ 32) × (length x.masked ≡ oct c.inputs)
    × (length x.msgs_p ≡ oct (ands_of c + length c.outputs))

-- the bytes of an instance: the sum of these
unfoldable pub sent_bytes : Circuit → ℕ → Asked → ℕ
sent_bytes c n opened = 32
sent_bytes c n (hiding p) = 16 * height_of n + aux_bytes c n p + 32 + oct c.inputs + oct (ands_of c + length c.outputs)

-- of the first m instances
unfoldable pub all_bytes : Circuit → ℕ → (ℕ → Asked) → ℕ → ℕ
all_bytes c n ask zero = 0
all_bytes c n ask (suc m) = all_bytes c n ask m + sent_bytes c n (ask m)

-- the length that h* implies: the header, the opened nodes, and all instances
unfoldable pub implied_length : Circuit → List ℕ → List ℕ → ℕ
implied_length c bound file =
    let h : Header = decode_header file in
    header_bytes + nodes_bytes h.M (challenge_in bound file) + all_bytes c h.n (challenge_in bound file) h.M

-- "the unused bits of a last byte are zero"
pub record UnusedZero (c : Circuit) (x : Chosen) : Type 0 where
  pub aux : unused_zero (ands_of c) x.aux ≡ true
  pub masked : unused_zero c.inputs x.masked ≡ true
  pub msgs : unused_zero (ands_of c + length c.outputs) x.msgs_p ≡ true
