-- What only the contracts of steps use: no definition of the paper stands here.
-- The run that makes its corrections on the way. A wire's byte has its masked value in the lowest bit and its mask in the next: XOR and
-- INV gates act on masks as on shares, so that the steps of `gates` serve both bits.
-- Assumes nothing.
use Rattle.std.specs.Prelude.{Bool, List, ℕ, zero, suc, ◌+◌, ◌-◌, ◌*◌, replicate}
use Rattle.std.proofs.lemmas.List.Edits.{sets}
use Rattle.bits.specs.Bits.{odd, oct, bit_val, test_bit, bit_at}
use Rattle.bits.specs.Steps.{put_bit}
use Rattle.circuit.specs.File.{inputs_of, head_of, next_of, circuit_of}
use Rattle.circuit.specs.Steps.{gate_of, and_one}
use Rattle.circuit.specs.declared.Gate.{Gate}
use Rattle.circuit.specs.declared.Gate.TheVariants.{Xor, And, Inv}
use Rattle.circuit.specs.declared.Sizes.{Sizes}
use Rattle.plain.specs.Showing.{masked_inputs}
use Rattle.words.specs.Words.{parity, place}
use Rattle.planes.specs.Steps as planes
use Rattle.planes.specs.Steps.{corrections_at, mask_word, share, put_share, tape, put_tape, masked, put_masked, loaded_tapes}
use Rattle.planes.specs.declared.Layout.{Layout}
use Rattle.gates.specs.Steps.{put_wire, xor_step, inv_step}
use Rattle.correcting_gate.specs.Steps.{correction_byte, output_byte, sent_word}
use Rattle.walk.specs.Steps.{layout_of, outputs_sent}
use Rattle.packed.specs.Steps.{words_cleared, tape_bytes, tapes_held}

-- a wire's byte: its masked value b and its mask k
abbrev pub wire_byte : Bool → Bool → ℕ
wire_byte b k = bit_val b + 2 * bit_val k

-- the mask in a wire's byte
abbrev pub mask_of : ℕ → Bool
mask_of x = test_bit x 1

-- AND gate t of wires a and b into c
unfoldable pub correct_step : Layout → ℕ → ℕ → ℕ → ℕ → ℕ → List ℕ → List ℕ
correct_step l a b c t last m =
    let x : ℕ = masked l m a in
    let y : ℕ = masked l m b in
    let z : ℕ = tape l m (planes.broadcast_word l t) in
    let o : ℕ = tape l m (mask_word l t) in
    put_wire l c o (output_byte x y (parity 64 o))
    (put_tape l (planes.broadcast_word l t) (sent_word x y (share m a) (share m b) z o last)
    (put_bit m (8 * corrections_at l + t) (odd (correction_byte x y z))))

-- a gate that writes wire c, with t AND gates before it
abbrev pub gate_step : Layout → Gate → ℕ → ℕ → ℕ → List ℕ → List ℕ
gate_step l (Xor a b) c t last m = xor_step l a b c m
gate_step l (And a b) c t last m = correct_step l a b c t last m
gate_step l (Inv a) c t last m = inv_step l a c m

-- k gates of the file s from slot `slot` on, with t AND gates before them
unfoldable pub walked : Layout → ℕ → List ℕ → ℕ → ℕ → ℕ → List ℕ → List ℕ
walked l last s zero slot t m = m
walked l last s (suc k) slot t m =
    walked l last s k (next_of s slot) (t + and_one (gate_of s slot)) (gate_step l (gate_of s slot) (inputs_of s + slot - 1) t last m)

-- the corrections zero
unfoldable pub corrections_cleared : Layout → List ℕ → List ℕ
corrections_cleared l m = sets m (corrections_at l) (replicate (oct l.ands) 0)

-- the tapes of n parties, of len bytes each, in the tape words, and zero after them
unfoldable pub tapes_loaded : Layout → ℕ → List ℕ → ℕ → List ℕ → List ℕ
tapes_loaded l n tapes len m = words_cleared l (planes.broadcast_word l l.ands) (l.outputs + 7) (loaded_tapes l n tapes len m)

-- the first k wires with the tape words as shares, their parities as masks, and with masked values as given
unfoldable pub masks_loaded : Layout → ℕ → List ℕ → List ℕ → List ℕ
masks_loaded l zero values m = m
masks_loaded l (suc w) values m =
    let k : List ℕ = masks_loaded l w values m in
    put_masked l w (wire_byte (bit_at values w) (parity 64 (tape l k w))) (put_share w (tape l k w) k)

-- what the run begins with: the tapes that stand in the memory, and the masked inputs
unfoldable pub begun : Sizes → ℕ → List ℕ → List ℕ → List ℕ
begun z n values m =
    masks_loaded (layout_of z) z.inputs values
    (tapes_loaded (layout_of z) n (tapes_held z n m) (tape_bytes z) (corrections_cleared (layout_of z) m))

-- the memory after the run on a witness
unfoldable pub ran_memory : List ℕ → Sizes → ℕ → List ℕ → List ℕ → List ℕ
ran_memory s z n witness m =
    outputs_sent (layout_of z) 0 s z.outputs
    (walked (layout_of z) (place 64 (n - 1)) s z.gates (head_of s) 0
    (begun z n (masked_inputs (circuit_of s) n witness (tapes_held z n m)) m))
