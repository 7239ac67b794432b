-- The marked cases (document 01, "Marked cases"): a row for each, with what is lent and what the paper says of it.
-- Assumes nothing.
use Rattle.std.specs.Prelude.{◌≡◌, true, ℕ, ◌≤◌, ◌<◌, length, get_or, set, replicate}
use mathlib.Core.List.{List, [], ◌∷◌, Memᴰ}
use Rattle.bits.specs.Bits.{tabulate, pack, bit_at, unused_zero}
use Rattle.refusal.specs.Outcome.{Answer, refusal_at, refusal, success, Outcome, done}
use Rattle.circuit.specs.Circuit.{evaluate}
use Rattle.circuit.specs.File.{circuit_of}
use Rattle.circuit.specs.Operations.{read_op}
use Rattle.upgrade.specs.Upgrade.{upgrade_op}
use Rattle.plain.specs.Showing.{Showing}
use Rattle.mpc.specs.Operations.{prepare_op, run_op, show_op}
use Rattle.choice.specs.Challenge.{stream_of, hidden_parties}
use Rattle.seeds.specs.Operations.{max_message}
use Rattle.cover.specs.Masters.{master_of}
use Rattle.proof.specs.Protocol.{first_message, statement_of, asked}
use Rattle.proof.specs.File.{proof_bytes}
use Rattle.proof.specs.Prove.{prove_op}

-- a row: reading a circuit file, and its answer; an operation's outcome, and what it is; numbers, and what they are
pub data Case : Type 0 where
  reading : List ℕ → Answer → Case
  working : Outcome → Outcome → Case
  counting : List ℕ → List ℕ → Case

-- what a row says
unfoldable pub Right : Case → Type 0
Right (reading file answer) = read_op file ≡ answer
Right (working a b) = a ≡ b
Right (counting a b) = a ≡ b

-- "Circuit K, hexadecimal: 02 00 01 00 01 00 01 00 02 00 02 00 00 00 01 00 00 00", in the old form
abbrev pub old_k : List ℕ
old_k =
    0x02 ∷ 0x00 ∷ 0x01 ∷ 0x00 ∷ 0x01 ∷ 0x00 ∷ 0x01 ∷ 0x00 ∷ 0x02 ∷ 0x00 ∷ 0x02 ∷ 0x00 ∷ 0x00 ∷ 0x00 ∷ 0x01 ∷ 0x00 ∷ 0x00 ∷ 0x00 ∷ []

-- K in the form in use: "Cases on circuit bytes, marked or not, are rewritten in this form" (document 02, order 7)
abbrev pub circuit_k : List ℕ
circuit_k =
    0x02 ∷ 0x00 ∷ 0x00 ∷ 0x00 ∷ 0x01 ∷ 0x00 ∷ 0x00 ∷ 0x00 ∷ 0x01 ∷ 0x00 ∷ 0x00 ∷ 0x00 ∷ 0x01 ∷ 0x00 ∷ 0x00 ∷ 0x00 ∷
    0x02 ∷ 0x00 ∷ 0x00 ∷ 0x00 ∷ 0x02 ∷ 0x00 ∷ 0x00 ∷ 0x00 ∷ 0x00 ∷ 0x00 ∷ 0x00 ∷ 0x00 ∷ 0x01 ∷ 0x00 ∷ 0x00 ∷ 0x00 ∷
    0x00 ∷ 0x00 ∷ 0x00 ∷ 0x00 ∷ []

-- "m1 K reads as 2, 1, 1, 1"
abbrev pub m1 : Case
m1 = reading circuit_k (success (2 ∷ 1 ∷ 1 ∷ 1 ∷ []))

-- m2, its record with next 1, "becomes the third answer at slot 1" (document 02): the low byte of next is byte 32 of the file
abbrev pub m2 : Case
m2 = reading (set circuit_k 32 1) (refusal_at 21 1)

-- "m3 b = 2 gives 5": the low byte of b is byte 28
abbrev pub m3 : Case
m3 = reading (set circuit_k 28 2) (refusal 5)

-- "m4 the empty input gives 1"
abbrev pub m4 : Case
m4 = reading [] (refusal 1)

-- "m5 G = 0 with I = O = 1, output wire 0, is accepted": I, O, G, head, the output wire; the answer is I, O, G, A
abbrev pub m5 : Case
m5 = reading (1 ∷ 0 ∷ 0 ∷ 0 ∷ 1 ∷ 0 ∷ 0 ∷ 0 ∷ 0 ∷ 0 ∷ 0 ∷ 0 ∷ 0 ∷ 0 ∷ 0 ∷ 0 ∷ 0 ∷ 0 ∷ 0 ∷ 0 ∷ []) (success (1 ∷ 1 ∷ 0 ∷ 0 ∷ []))

-- "K, n = 2, rows 13 and 3 (decimal bytes)"
abbrev pub tapes : List ℕ
tapes = 13 ∷ 3 ∷ []

-- a work buffer of the least length for K, 64(2 + 1) + 4,096 bytes, as it is lent and as it is left
abbrev pub work : List ℕ
work = replicate 4288 255

abbrev pub cleared : List ℕ
cleared = replicate 4288 0

-- "m6 correction 1": into a lent byte that was 255
abbrev pub m6 : Case
m6 = working (prepare_op circuit_k 2 tapes (255 ∷ []) work) (done ((1 ∷ []) ∷ cleared ∷ []))

-- "m7 witness bits 1, 1: masked inputs byte 1, rows 2 and 0, output 1"
abbrev pub m7 : Case
m7 =
    working (run_op circuit_k 2 (3 ∷ []) tapes (1 ∷ []) (255 ∷ []) (255 ∷ 255 ∷ []) (255 ∷ []) work)
    (done ((1 ∷ []) ∷ (2 ∷ 0 ∷ []) ∷ (1 ∷ []) ∷ cleared ∷ []))

-- "m8 witness 1, 0: masked inputs 3, row 0 is 3, output 0"; row 1 is then 1
abbrev pub m8 : Case
m8 =
    working (run_op circuit_k 2 (1 ∷ []) tapes (1 ∷ []) (255 ∷ []) (255 ∷ 255 ∷ []) (255 ∷ []) work)
    (done ((3 ∷ []) ∷ (3 ∷ 1 ∷ []) ∷ (0 ∷ []) ∷ cleared ∷ []))

-- a lent showing
abbrev pub lent : Showing
lent = record { tapes = 255 ∷ 255 ∷ []; corrections = 255 ∷ []; masked_inputs = 255 ∷ []; row = 255 ∷ [] }

-- what m8 shows with p = 0: the tapes with row 0 all zero, the correction, the masked inputs, row 0
abbrev pub shown : Outcome
shown = done ((0 ∷ 3 ∷ []) ∷ (1 ∷ []) ∷ (3 ∷ []) ∷ (3 ∷ []) ∷ cleared ∷ [])

abbrev pub m8_shown : Case
m8_shown = working (show_op circuit_k 2 0 1 (1 ∷ []) tapes lent work) shown

-- "m9 witness 0, 1 with row 0 = 14 and p = 0 shows the same as m8"
abbrev pub m9 : Case
m9 = working (show_op circuit_k 2 0 1 (2 ∷ []) (14 ∷ 3 ∷ []) lent work) shown

-- the bytes of a proof of K with M = 4, n = 2 and one chosen instance, which hides p: for each instance that it can be
abbrev pub proof_sizes : ℕ → List ℕ
proof_sizes p = tabulate 4 (λ i. proof_bytes (circuit_of circuit_k) 4 2 (asked (i ∷ []) (p ∷ [])))

-- m10, M = 4, τ = 1, n = 2, p = 0 and p = 1: "m10 becomes 217 and 216" (document 02, order 5), and "grows by 32" (order 10)
abbrev pub m10_first : Case
m10_first = counting (proof_sizes 0) (249 ∷ 249 ∷ 249 ∷ 249 ∷ [])

abbrev pub m10_last : Case
m10_last = counting (proof_sizes 1) (248 ∷ 248 ∷ 248 ∷ 248 ∷ [])

-- K converted from the old form, into a lent buffer of its 36 bytes
abbrev pub k_converted : Case
k_converted = working (upgrade_op old_k (replicate 36 255)) (record { answer = success (36 ∷ []); left = circuit_k ∷ [] })

-- the table
abbrev pub cases : List Case
cases = m1 ∷ m2 ∷ m3 ∷ m4 ∷ m5 ∷ m6 ∷ m7 ∷ m8 ∷ m8_shown ∷ m9 ∷ m10_first ∷ m10_last ∷ k_converted ∷ []

-- "The marked cases form one proved table": every row of it is right
abbrev pub MarkedCases : Type 0
MarkedCases = (c : Case) → Memᴰ c cases → Right c

-- what prove is lent for a proof of K with M = 4, τ = 1 and n = 2: a witness of two bits that gives y, a message, a root, a salt, a buffer
-- that holds 265 bytes or more, the room that prove asks for, and a work buffer of 4,288 bytes or more
pub record ProveInputs (witness y message root salt buffer work : List ℕ) : Type 0 where
  pub witness_size : length witness ≡ 1
  pub unused : unused_zero 2 witness ≡ true
  pub gives : pack (evaluate (circuit_of circuit_k) (bit_at witness)) ≡ y
  pub short : length message ≤ max_message
  pub root_size : length root ≡ 16
  pub salt_size : length salt ≡ 32
  pub room : 265 ≤ length buffer
  pub work_room : 4288 ≤ length work

-- p: the party that the challenge of that proof hides
unfoldable pub hidden_party : List ℕ → List ℕ → List ℕ → List ℕ → List ℕ → ℕ
hidden_party witness y message root salt =
    let hstar : List ℕ = first_message (circuit_of circuit_k) 4 2 salt witness (master_of 4 salt root) in
    get_or (hidden_parties 1 2 (stream_of 1 hstar (statement_of salt 4 1 2 circuit_k y message))) 0 0

-- m10 as the answer of prove: 249 bytes if p = 0, 248 if p = 1
pub record ProveAnswers (witness y message root salt buffer work : List ℕ) : Type 0 where
  pub party : hidden_party witness y message root salt < 2
  pub first : hidden_party witness y message root salt ≡ 0 → (prove_op circuit_k witness y message root salt 4 1 2 buffer work).answer ≡ success (249 ∷ [])
  pub last : hidden_party witness y message root salt ≡ 1 → (prove_op circuit_k witness y message root salt 4 1 2 buffer work).answer ≡ success (248 ∷ [])

-- for every witness, message, root, salt and buffers
abbrev pub M10 : Type 0
M10 = (witness y message root salt buffer work : List ℕ) → ProveInputs witness y message root salt buffer work → ProveAnswers witness y message root salt buffer work
