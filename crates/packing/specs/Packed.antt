-- The run of a circuit by n parties on words (document 02, order 13: "packing all parties' shares of a wire into one word"), bit i for
-- party i: gate by gate what `plain/specs/Run` says of columns.
-- Assumes nothing.
use Rattle.std.specs.Prelude.{Bool, not, ◌&&◌, List, [], ◌∷◌, map, ℕ, ◌-◌}
use Rattle.std.specs.Int.Bits.{bit_xor}
use Rattle.bits.specs.Bits.{test_bit, from_bits}
use Rattle.bits.specs.Xor.{◌⊕◌}
use Rattle.circuit.specs.Circuit.{Gate, xor, and, inv, put}
use Rattle.plain.specs.Run.{Column, next}
use Rattle.words.specs.Words.{parity, every, place, broadcast_word, chosen}

-- a column as a word, bit i for party i: of each wire, or of each AND gate
abbrev pub words : ℕ → (ℕ → Column) → ℕ → ℕ
words n f t = from_bits n (f t)

-- the word x with party p's bit b
unfoldable pub with_bit : ℕ → ℕ → Bool → ℕ → ℕ
with_bit n p b x = chosen (place n p) (every n b) x

-- "the correction bit: the product of the two input masks XOR the other parties' product shares", for each AND gate; a mask is "the
-- parity of a word"
unfoldable pub packed_corrections : ℕ → List Gate → (ℕ → ℕ) → (ℕ → ℕ) → (ℕ → ℕ) → List Bool
packed_corrections n [] o z s = []
packed_corrections n (xor a b c ∷ gs) o z s = packed_corrections n gs o z (put s c (bit_xor (s a) (s b)))
packed_corrections n (and a b c ∷ gs) o z s =
    ((parity n (s a) && parity n (s b)) ⊕ parity (n - 1) (z 0)) ∷ packed_corrections n gs (next o) (next z) (put s c (o 0))
packed_corrections n (inv a c ∷ gs) o z s = packed_corrections n gs o z (put s c (s a))

-- "Party n − 1's product share is the correction bit"
unfoldable pub packed_corrected : ℕ → (ℕ → Bool) → (ℕ → ℕ) → ℕ → ℕ
packed_corrected n cs z t = with_bit n (n - 1) (cs t) (z t)

-- the broadcast channel, which delivers the t-th word: as sent, or with party p's bit as in its row (msgs_p)
abbrev pub WordChannel : Type 0
WordChannel = ℕ → ℕ → ℕ

abbrev pub words_sent : WordChannel
words_sent t x = x

abbrev pub words_shown : ℕ → ℕ → (ℕ → Bool) → WordChannel
words_shown n p row t x = with_bit n p (row t) x

-- all that is broadcast, a word each, and the output bits
pub record WordTranscript : Type 0 where
  pub broadcasts : List ℕ
  pub output : List Bool

-- "After the last gate each party broadcasts its mask shares of the O outputs": with masked values m; an output is its masked
-- value XOR the parity of these
unfoldable pub packed_outputs : ℕ → List ℕ → WordChannel → (ℕ → ℕ) → (ℕ → Bool) → WordTranscript
packed_outputs n [] h s m = record { broadcasts = []; output = [] }
packed_outputs n (w ∷ ws) h s m =
    let rest : WordTranscript = packed_outputs n ws (next h) s m in
    record { broadcasts = h 0 (s w) ∷ rest.broadcasts; output = (m w ⊕ parity n (h 0 (s w))) ∷ rest.output }

-- the run of the gates and then of the outputs outs. "XOR and INV act on masked values as on values .. Masked c is masked a times
-- masked b, XOR all broadcasts."
unfoldable pub packed_run : ℕ → List ℕ → List Gate → (ℕ → ℕ) → (ℕ → ℕ) → WordChannel → (ℕ → ℕ) → (ℕ → Bool) → WordTranscript
packed_run n outs [] o z h s m = packed_outputs n outs h s m
packed_run n outs (xor a b c ∷ gs) o z h s m = packed_run n outs gs o z h (put s c (bit_xor (s a) (s b))) (put m c (m a ⊕ m b))
packed_run n outs (and a b c ∷ gs) o z h s m =
    let x : ℕ = h 0 (broadcast_word n (m a) (m b) (s a) (s b) (z 0) (o 0)) in
    let rest : WordTranscript = packed_run n outs gs (next o) (next z) (next h) (put s c (o 0)) (put m c ((m a && m b) ⊕ parity n x)) in
    record { broadcasts = x ∷ rest.broadcasts; output = rest.output }
packed_run n outs (inv a c ∷ gs) o z h s m = packed_run n outs gs o z h (put s c (s a)) (put m c (not (m a)))

-- "A broadcast row holds A + O bits": party i's
unfoldable pub packed_row : WordTranscript → ℕ → List Bool
packed_row r i = map (λ (x : ℕ). test_bit x i) r.broadcasts
