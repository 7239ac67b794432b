-- What only the contracts of steps use: no definition of the paper stands here.
-- The work memory with what a run begins with.
-- Assumes nothing.
use Rattle.std.specs.Prelude.{◌≡◌, Bool, ℕ, zero, suc, ◌+◌, ◌-◌, ◌*◌, ◌≤◌, length, take, drop}
use mathlib.Core.List.{List, flatten}
use Rattle.bits.specs.Bits.{tabulate, oct, bit_val, test_bit, bit_at, pack}
use Rattle.bits.specs.Xor.{◌⊕◌}
use Rattle.circuit.specs.Circuit.{ands}
use Rattle.circuit.specs.File.{gates_in_order, circuit_of}
use Rattle.circuit.specs.Steps.{Legal}
use Rattle.circuit.specs.declared.Sizes.{Sizes}
use Rattle.plain.specs.Showing.{masked_inputs, Showing}
use Rattle.words.specs.Words.{parity, place}
use Rattle.planes.specs.Steps.{Room, corrections_at, rows_at, leaves_at, broadcast_word, tape, put_share, put_tape, put_masked, loaded_tapes, put_party}
use Rattle.planes.specs.declared.Layout.{Layout}
use Rattle.walk.specs.Steps.{layout_of, outputs_run}

-- count tape words from word q on are zero
unfoldable pub words_cleared : Layout → ℕ → ℕ → List ℕ → List ℕ
words_cleared l q zero m = m
words_cleared l q (suc t) m = put_tape l (q + t) 0 (words_cleared l q t m)

-- the tapes of n parties, of len bytes each, in the tape words; zero in the places of the output broadcasts and after them; and the
-- corrections as party n − 1's product shares
unfoldable pub words_loaded : Layout → ℕ → List ℕ → ℕ → List ℕ → List ℕ → List ℕ
words_loaded l n tapes len corrections m =
    put_party l (broadcast_word l 0) (n - 1) corrections l.ands
    (words_cleared l (broadcast_word l l.ands) (l.outputs + 7) (loaded_tapes l n tapes len m))

-- the first k wires with the tape words as shares, and with masked values as given
unfoldable pub inputs_loaded : Layout → ℕ → List ℕ → List ℕ → List ℕ
inputs_loaded l zero values m = m
inputs_loaded l (suc w) values m =
    let k : List ℕ = inputs_loaded l w values m in
    put_masked l w (bit_val (bit_at values w)) (put_share w (tape l k w) k)

-- the masked value of wire w: its bit of the witness XOR the parity of its tape word
unfoldable pub masked_bit : Layout → List ℕ → List ℕ → ℕ → Bool
masked_bit l witness m w = bit_at witness w ⊕ parity 64 (tape l m w)

-- the bytes of a tape row
abbrev pub tape_bytes : Sizes → ℕ
tape_bytes z = oct (z.inputs + 2 * z.ands)

-- the memory with tapes, corrections and masked inputs
unfoldable pub values_loaded : Sizes → ℕ → List ℕ → List ℕ → List ℕ → List ℕ → List ℕ
values_loaded z n tapes corrections masked m =
    inputs_loaded (layout_of z) z.inputs masked (words_loaded (layout_of z) n tapes (tape_bytes z) corrections m)

-- and with party p's row in the places of the broadcasts
unfoldable pub showing_loaded : Sizes → ℕ → ℕ → List ℕ → List ℕ → List ℕ → List ℕ → List ℕ → List ℕ
showing_loaded z n p tapes corrections masked row m =
    put_party (layout_of z) (broadcast_word (layout_of z) 0) p row (z.ands + z.outputs) (values_loaded z n tapes corrections masked m)

-- the tape rows of n parties, and the corrections, that stand in the memory
abbrev pub tapes_held : Sizes → ℕ → List ℕ → List ℕ
tapes_held z n m = take (n * tape_bytes z) (drop (rows_at (layout_of z)) m)

abbrev pub corrections_held : Sizes → List ℕ → List ℕ
corrections_held z m = take (oct z.ands) (drop (corrections_at (layout_of z)) m)

-- a legal file with its I, O, G and A, and a memory that holds the planes, corrections and the tape rows of n parties
pub record Held (s : List ℕ) (z : Sizes) (n : ℕ) (m : List ℕ) : Type 0 where
  pub legal : Legal s z.inputs z.outputs z.gates
  pub ands : z.ands ≡ ands (gates_in_order s)
  pub some : 1 ≤ n
  pub few : n ≤ 64
  pub room : Room (layout_of z) m
  pub rows : leaves_at (layout_of z) n ≤ length m

-- a showing of its parts
abbrev pub showing_of : List ℕ → List ℕ → List ℕ → List ℕ → Showing
showing_of tapes corrections masked row = record { tapes = tapes; corrections = corrections; masked_inputs = masked; row = row }

-- the bytes of a row of broadcasts
abbrev pub broadcast_bytes : Sizes → ℕ
broadcast_bytes z = oct (z.ands + z.outputs)

-- the memory after the run on a witness, with the tapes and the corrections that stood in it
unfoldable pub ran_memory : List ℕ → Sizes → ℕ → List ℕ → List ℕ → List ℕ
ran_memory s z n witness m =
    outputs_run s z (place 64 n)
    (values_loaded z n (tapes_held z n m) (corrections_held z m) (masked_inputs (circuit_of s) n witness (tapes_held z n m)) m)

-- the memory after the replay with party p hidden
unfoldable pub replayed_memory : List ℕ → Sizes → ℕ → ℕ → List ℕ → List ℕ → List ℕ → List ℕ
replayed_memory s z n p masked row m =
    outputs_run s z (place 64 p) (showing_loaded z n p (tapes_held z n m) (corrections_held z m) masked row m)

-- party i's bit of broadcast t
unfoldable pub sent_bit : Layout → List ℕ → ℕ → ℕ → Bool
sent_bit l m i t = test_bit (tape l m (broadcast_word l t)) i

-- the broadcast rows of n parties, of len bytes each
unfoldable pub rows_sent : Layout → ℕ → ℕ → List ℕ → List ℕ
rows_sent l n len m = flatten (tabulate n (λ i. pack (tabulate (8 * len) (sent_bit l m i))))
