-- The memory that is loaded is one that a run begins with, and the rows that stand in it after the run are the run's; and what a work
-- memory of 64 (I + G) + 4,096 bytes holds.
-- Assumes nothing.
use mathlib.Core.Path.{◌≡◌, refl, sym, ap, ap₂, ◌∙◌}
use mathlib.Core.Bool.{Bool, false, cond, ◌&&◌}
use mathlib.Core.List.{List, [], ◌∷◌}
use mathlib.Core.Logic.{⊎_elim, inl, inr}
use Prim.Native.Nat.{ℕ, zero, suc, ◌+◌, ◌-◌, ◌*◌, ◌≤◌, ◌<◌}
use native.Mathlib.Omega.{arith}
use borrow.Author.Tests.{eq-eqb, ne_eqb, lt-ltb}
use lib.Dec.{eqb, ltb}
use lib.ListN.{length, get_or, drop, replicate, length-drop, length-replicate, get_or-eq_default}
use lib.Seq.{length-take-le}
use Rattle.bits.specs.Bits.{tabulate, oct, odd, bit_at, test_bit, from_bits, pack}
use Rattle.bits.specs.Bytes.{row_of}
use Rattle.bits.specs.Xor.{◌⊕◌}
use Rattle.bits.proofs.Numbers.{eq-or-ne, lt-or-le, from_bits-cong, odd-bit_val, test_bit-zero}
use Rattle.bits.proofs.Packing.{bit_at-pack}
use Rattle.bits.proofs.Tabulate.{get_d_tabulate, tabulate-cong}
use Rattle.circuit.specs.Circuit.{Gate, xor, and, inv, put, ands}
use Rattle.circuit.specs.Fields as fields
use Rattle.circuit.specs.File.{gates_in_order, circuit_of}
use Rattle.circuit.specs.Steps.{Legal}
use Rattle.circuit.specs.declared.Sizes.{Sizes}
use Rattle.circuit.proofs.Answered.{gates-count}
use Rattle.plain.specs.Run.{Column, corrected, as_sent, as_shown, Transcript}
use Rattle.plain.specs.Tapes.{ands_of, row_bytes, input_masks, output_masks, product_shares}
use Rattle.plain.specs.Showing.{masked_input, masked_inputs, run_on, replay_of, row_bits, rows_of, first_bits}
use Rattle.masks.specs.Steps as masks
use Rattle.words.specs.Words.{parity, place}
use Rattle.words.proofs.Folds.{word-mask}
use Rattle.planes.specs.Steps.{tape_words, mask_word, broadcast_word, planes_end, corrections_at, rows_at, held_end, Room, share, tape, masked, put_party}
use Rattle.planes.specs.declared.Layout.{Layout}
use Rattle.planes.proofs.Fits.{spare-small, layout-fits, rows_fit}
use Rattle.planes.proofs.Held.{party-length}
use Rattle.gates.proofs.Holding.{put_other}
use Rattle.gates.proofs.Steps.{room-kept}
use Rattle.walk.specs.Steps.{layout_of, outputs_run, values_run, Lent}
use Rattle.walk.proofs.Running.{blank, hides-none, hides-shown, Loaded, Ran, run-agrees}
use Rattle.packed.specs.Steps.{words_loaded, inputs_loaded, masked_bit, tape_bytes, broadcast_bytes, values_loaded, showing_loaded, tapes_held, corrections_held, Held, showing_of, ran_memory, replayed_memory, sent_bit, rows_sent}
use Rattle.packed.proofs.Loads.{Low, words-length, words-mask, words_product, words-zero, words-low, inputs-length, inputs-tape, inputs-share, inputs-masked, party-share, party-masked, party-other, party-column, words-held}
use Rattle.packed.proofs.Kept.{run_length}
use Rattle.packed.proofs.Rows.{row-size, rows-from, row_from, whole_from}

-- no bit is set
pub no_bits : (n : ℕ) → from_bits n blank ≡ 0
unfolding from_bits
no_bits zero = refl
no_bits (suc n) = omega (arith, no_bits n)

-- a legal file with its I, O, G and A, the tapes of n parties, and a memory for the planes
pub record Given (s : List ℕ) (z : Sizes) (n : ℕ) (tapes m : List ℕ) : Type 0 where
  pub legal : Legal s z.inputs z.outputs z.gates
  pub ands : z.ands ≡ ands (gates_in_order s)
  pub some : 1 ≤ n
  pub few : n ≤ 64
  pub room : Room (layout_of z) m
  pub tapes_fit : length tapes ≡ n * tape_bytes z

module _ (s : List ℕ) (z : Sizes) (n : ℕ) (tapes cs m : List ℕ) (given : Given s z n tapes m) where
  abbrev l : Layout
  l = layout_of z

  pub inputs_are : (circuit_of s).inputs ≡ z.inputs
  unfolding fields.circuit_of
  inputs_are = sym given.legal.laid.inputs

  pub ands-are : ands_of (circuit_of s) ≡ z.ands
  unfolding fields.circuit_of
  ands-are = sym given.ands

  pub bytes-are : row_bytes (circuit_of s) ≡ tape_bytes z
  bytes-are = ap₂ (λ (i a : ℕ). oct (i + 2 * a)) inputs_are ands-are

  -- the columns of the tapes
  pub input-column : (w : ℕ) → w < z.inputs → from_bits n (λ i. bit_at (row_of tapes (tape_bytes z) i) w) ≡ from_bits n (input_masks (circuit_of s) tapes w)
  unfolding input_masks
  input-column w h =
      from_bits-cong n (λ i. bit_at (row_of tapes (tape_bytes z) i) w) (input_masks (circuit_of s) tapes w)
      (λ i hi. ap₂ (λ (b : Bool) (k : ℕ). b && bit_at (row_of tapes k i) w) (sym (lt-ltb w (circuit_of s).inputs (omega (arith, inputs_are)))) (sym bytes-are))

  pub mask-column : (t : ℕ) → from_bits n (λ i. bit_at (row_of tapes (tape_bytes z) i) (mask_word l t)) ≡ from_bits n (output_masks (circuit_of s) tapes t)
  unfolding output_masks
  mask-column t =
      from_bits-cong n (λ i. bit_at (row_of tapes (tape_bytes z) i) (mask_word l t)) (output_masks (circuit_of s) tapes t)
      (λ i hi. ap₂ (λ (q k : ℕ). bit_at (row_of tapes k i) (q + t)) (sym inputs_are) (sym bytes-are))

  pub last-party : (i : ℕ) → eqb i (n - 1) ≡ eqb (suc i) n
  last-party i =
      let some = given.some in
      ⊎_elim
      (λ e. eq-eqb i (n - 1) e ∙ sym (eq-eqb (suc i) n (omega arith)))
      (λ e. ne_eqb i (n - 1) e ∙ sym (ne_eqb (suc i) n (omega arith)))
      (eq-or-ne i (n - 1))

  abbrev products : ℕ → Column
  products = corrected n (bit_at cs) (product_shares (circuit_of s) tapes)

  product-column : (t : ℕ) → from_bits n (λ i. cond (eqb i (n - 1)) (bit_at cs t) (bit_at (row_of tapes (tape_bytes z) i) (broadcast_word l t))) ≡ from_bits n (products t)
  unfolding corrected product_shares
  product-column t =
      from_bits-cong n (λ i. cond (eqb i (n - 1)) (bit_at cs t) (bit_at (row_of tapes (tape_bytes z) i) (broadcast_word l t))) (products t)
      (λ i hi.
      ap₂ (λ (e b : Bool). cond e (bit_at cs t) b) (last-party i)
      (ap₂ (λ (q k : ℕ). bit_at (row_of tapes k i) (q + t)) (ap₂ (λ (x y : ℕ). x + y) (sym inputs_are) (sym ands-are)) (sym bytes-are)))

  -- the memory with tapes and corrections
  abbrev words : List ℕ
  words = words_loaded l n tapes (tape_bytes z) cs m

  words-room : planes_end l ≤ length words
  words-room =
      omega
      (arith, given.room.room, words-length l n (tape_bytes z) tapes cs m given.room.room given.some given.few (omega (arith, given.tapes_fit)) (omega arith) (omega arith))

  low : Low l words
  low = words-low l n (tape_bytes z) tapes cs m given.room.room given.some given.few (omega (arith, given.tapes_fit)) (omega arith) (omega arith)

  tape-mask : (q : ℕ) → q < z.inputs + z.ands → tape l words q ≡ from_bits n (λ i. bit_at (row_of tapes (tape_bytes z) i) q)
  tape-mask =
      words-mask l n (tape_bytes z) tapes cs m given.room.room given.some given.few (omega (arith, given.tapes_fit)) (omega arith) (omega arith)

  word-product : (t : ℕ) → t < z.ands → tape l words (broadcast_word l t) ≡ from_bits n (products t)
  word-product t h =
      words_product l n (tape_bytes z) tapes cs m given.room.room given.some given.few (omega (arith, given.tapes_fit)) (omega arith) (omega arith) t h
      ∙ product-column t

  word-zero : (q : ℕ) → z.inputs + 2 * z.ands ≤ q → q < tape_words l → tape l words q ≡ 0
  word-zero =
      words-zero l n (tape_bytes z) tapes cs m given.room.room given.some given.few (omega (arith, given.tapes_fit)) (omega arith) (omega arith)

  -- the masked inputs of a witness
  inputs-masked-are : (witness : List ℕ) → pack (tabulate z.inputs (masked_bit l witness words)) ≡ masked_inputs (circuit_of s) n witness tapes
  unfolding masked_bit masked_input masked_inputs
  inputs-masked-are witness =
      ap pack
      (tabulate-cong z.inputs (masked_bit l witness words) (masked_input (circuit_of s) n witness tapes)
      (λ w h.
      ap (λ (b : Bool). bit_at witness w ⊕ b)
      (ap (parity 64) (tape-mask w (omega arith) ∙ input-column w h) ∙ word-mask 64 n (input_masks (circuit_of s) tapes w) given.few))
      ∙ ap (λ (k : ℕ). tabulate k (masked_input (circuit_of s) n witness tapes)) (sym inputs_are))

  -- the memory with masked values v
  module _ (v : List ℕ) where
    abbrev values : List ℕ
    values = values_loaded z n tapes cs v m

    values_length : length values ≡ length m
    unfolding values_loaded
    values_length =
        inputs-length l v words words-room low z.inputs
        ∙ words-length l n (tape_bytes z) tapes cs m given.room.room given.some given.few (omega (arith, given.tapes_fit)) (omega arith) (omega arith)

    value-tape : (q : ℕ) → q < tape_words l → tape l values q ≡ tape l words q
    unfolding values_loaded
    value-tape q h = inputs-tape l v words words-room low z.inputs q (omega arith) h

    values_low : Low l values
    values_low q h = rw (value-tape q h) (low q h)

    value-share : (w : ℕ) → w < z.inputs → share values w ≡ from_bits n (input_masks (circuit_of s) tapes w)
    unfolding values_loaded
    value-share w h = inputs-share l v words words-room low z.inputs w (omega arith) (omega arith) h ∙ tape-mask w (omega arith) ∙ input-column w h

    value-masked : (w : ℕ) → w < z.inputs → odd (masked l values w) ≡ bit_at v w
    unfolding values_loaded
    value-masked w h = ap odd (inputs-masked l v words words-room low z.inputs w (omega arith) h) ∙ odd-bit_val (bit_at v w)

    value-mask : (t : ℕ) → t < z.ands → tape l values (mask_word l t) ≡ from_bits n (output_masks (circuit_of s) tapes t)
    value-mask t h = value-tape (mask_word l t) (omega arith) ∙ tape-mask (mask_word l t) (omega arith) ∙ mask-column t

    value-product : (t : ℕ) → t < z.ands → tape l values (broadcast_word l t) ≡ from_bits n (products t)
    value-product t h = value-tape (broadcast_word l t) (omega arith) ∙ word-product t h

    value-zero : (q : ℕ) → z.inputs + 2 * z.ands ≤ q → q < tape_words l → tape l values q ≡ 0
    value-zero q h d = value-tape q d ∙ word-zero q h d

    -- the words after the broadcasts are zero
    values-zero : (q : ℕ) → broadcast_word l (z.ands + z.outputs) ≤ q → q < tape_words l → tape l values q ≡ 0
    values-zero q h d = value-zero q (omega arith) d

    -- no party is hidden
    values-loaded : (b : ℕ → Bool) → ((w : ℕ) → w < z.inputs → bit_at v w ≡ b w) → (p : ℕ) (row : ℕ → Bool) → n ≤ p → Loaded s z n p tapes (bit_at cs) row b values
    values-loaded b same p row none = record {
      shares = value-share;
      values = λ w h. value-masked w h ∙ same w h;
      masks = value-mask;
      products = λ t h.
          value-product t h ∙ from_bits-cong n (products t) (put (products t) p (row t)) (λ i hi. sym (put_other (products t) p (row t) i (omega arith)));
      outputs = λ u a b.
          value-zero (broadcast_word l u) (omega arith) (omega arith) ∙ sym (no_bits n)
          ∙ from_bits-cong n blank (put blank p (row u)) (λ i hi. sym (put_other blank p (row u) i (omega arith)));
    }

    -- party p is hidden, with its row
    module _ (p : ℕ) (row : List ℕ) (hp : p < n) where
      abbrev shown : List ℕ
      shown = showing_loaded z n p tapes cs v row m

      room-here : planes_end l ≤ length values
      room-here = omega (arith, values_length, given.room.room)

      showing-loaded : Loaded s z n p tapes (bit_at cs) (bit_at row) (bit_at v) shown
      unfolding showing_loaded put
      showing-loaded =
          let q : ℕ = broadcast_word l 0 in
          let k : ℕ = z.ands + z.outputs in
          let col : (t : ℕ) (f : ℕ → Bool) → t < z.ands + z.outputs → tape l values (broadcast_word l t) ≡ from_bits n f
          → tape l shown (broadcast_word l t) ≡ from_bits n (put f p (bit_at row t)) = λ t f h e.
          let d : broadcast_word l t ≡ broadcast_word l 0 + t = omega arith in
          ap (tape l shown) d
          ∙ party-column l (broadcast_word l 0) p row values room-here values_low (z.ands + z.outputs) t n f (omega arith) h given.few hp (ap (tape l values) (sym d) ∙ e) in
          record {
            shares = λ w h. party-share l q p row values room-here values_low k w (omega arith) (omega arith) ∙ value-share w h;
            values = λ w h. ap odd (party-masked l q p row values room-here values_low k w (omega arith)) ∙ value-masked w h;
            masks = λ t h.
                party-other l q p row values room-here values_low k (mask_word l t) (omega arith) (inl (omega arith)) ∙ value-mask t h;
            products = λ t h. col t (products t) (omega arith) (value-product t h);
            outputs = λ u a b. col u blank b (value-zero (broadcast_word l u) (omega arith) (omega arith) ∙ sym (no_bits n));
          }

      showing-length : length shown ≡ length m
      unfolding showing_loaded
      showing-length = party-length l values (broadcast_word l 0) p row (z.ands + z.outputs) ∙ values_length

      -- the words after the broadcasts are zero
      showing-zero : (q : ℕ) → broadcast_word l (z.ands + z.outputs) ≤ q → q < tape_words l → tape l shown q ≡ 0
      unfolding showing_loaded
      showing-zero q h d =
          party-other l (broadcast_word l 0) p row values room-here values_low (z.ands + z.outputs) q (omega arith) (inr (omega arith))
          ∙ value-zero q (omega arith) d

  -- the masked inputs have the masked values
  pub masked-agree : (witness : List ℕ) (w : ℕ) → w < z.inputs → bit_at (masked_inputs (circuit_of s) n witness tapes) w ≡ masked_input (circuit_of s) n witness tapes w
  unfolding masked_inputs
  masked-agree witness w h =
      let f : ℕ → Bool = masked_input (circuit_of s) n witness tapes in
      bit_at-pack (tabulate (circuit_of s).inputs f) w ∙ get_d_tabulate (circuit_of s).inputs f w false (omega (arith, inputs_are))

  -- what the run is lent, with any buffer for the outputs
  abbrev none : List ℕ
  none = replicate (oct z.outputs) 0

  pub lent : (k y : List ℕ) → length k ≡ length m → length y ≡ oct z.outputs → Lent s z k y
  lent k y e h = record { legal = given.legal; ands = given.ands; memory = room-kept (layout_of z) m k e given.room; fits = h }

  lent_none : (k : List ℕ) → length k ≡ length m → Lent s z k none
  lent_none k e = lent k none e (length-replicate {A = ℕ} (oct z.outputs) 0)

  -- the run on a witness
  whole-ran : (witness : List ℕ)
      → Ran s z n (place 64 n) (values_loaded z n tapes cs (masked_inputs (circuit_of s) n witness tapes) m) (run_on (circuit_of s) n witness tapes (bit_at cs))
  unfolding run_on
  whole-ran witness =
      let v : List ℕ = masked_inputs (circuit_of s) n witness tapes in
      let row : ℕ → Bool = λ t. false in
      run-agrees s z (values_loaded z n tapes cs v m) none (lent_none (values_loaded z n tapes cs v m) (values_length v)) n n given.few tapes (bit_at cs) row
      (masked_input (circuit_of s) n witness tapes) (values-loaded v (masked_input (circuit_of s) n witness tapes) (masked-agree witness) n row (omega arith))
      as_sent (hides-none n n row (omega arith))

  -- the replay of a showing
  replay-ran : (v row : List ℕ) (p : ℕ) → p < n
      → Ran s z n (place 64 p) (showing_loaded z n p tapes cs v row m) (replay_of (circuit_of s) n p (showing_of tapes cs v row))
  unfolding replay_of
  replay-ran v row p hp =
      run-agrees s z (showing_loaded z n p tapes cs v row m) none (lent_none (showing_loaded z n p tapes cs v row m) (showing-length v p row hp)) n p given.few tapes (bit_at cs) (bit_at row)
      (bit_at v) (showing-loaded v p row hp) (as_shown p (bit_at row)) (hides-shown n p (bit_at row))

-- the rows after a run
module _ (s : List ℕ) (z : Sizes) (n hidden : ℕ) (mem : List ℕ) (r : Transcript) (ran : Ran s z n hidden mem r)
    (clear : (q : ℕ) → broadcast_word (layout_of z) (z.ands + z.outputs) ≤ q → q < tape_words (layout_of z) → tape (layout_of z) mem q ≡ 0) where
  abbrev after : List ℕ
  after = outputs_run s z hidden mem

  -- bit t of party i's row, zero beyond the row
  sent-bit : (i t : ℕ) → i < n → t < z.ands + z.outputs + 7 → sent_bit (layout_of z) after i t ≡ get_or (row_bits r i) t false
  unfolding sent_bit
  sent-bit i t hi h =
      ⊎_elim
      (λ a. ran.rows i t hi a)
      (λ a.
      ap (λ (x : ℕ). test_bit x i) (ran.after t a (omega arith) ∙ clear (broadcast_word (layout_of z) t) (omega arith) (omega arith))
      ∙ test_bit-zero i ∙ sym (get_or-eq_default (row_bits r i) false {n = t} (omega (arith, row-size z n r ran.count i))))
      (lt-or-le t (z.ands + z.outputs))

  -- all rows
  rows-after : rows_sent (layout_of z) n (broadcast_bytes z) after ≡ rows_of n r
  rows-after = rows-from z n after r ran.count sent-bit

  -- the first k bits of one party's row
  row-after : (i k : ℕ) → i < n
      → pack (tabulate (8 * broadcast_bytes z) (λ t. ltb t k && sent_bit (layout_of z) after i t)) ≡ pack (first_bits k (row_bits r i))
  row-after = row_from z n after r ran.count sent-bit

  -- the whole row
  row-whole : (i : ℕ) → i < n
      → pack (tabulate (8 * broadcast_bytes z) (λ t. ltb t (z.ands + z.outputs) && sent_bit (layout_of z) after i t)) ≡ pack (row_bits r i)
  row-whole = whole_from z n after r ran.count sent-bit

-- the AND gates are some of the gates
ands-le : (gs : List Gate) → ands gs ≤ length gs
unfolding ands
ands-le [] = omega arith
ands-le (xor a b c ∷ gs) = omega (arith, ands-le gs)
ands-le (and a b c ∷ gs) = omega (arith, ands-le gs)
ands-le (inv a c ∷ gs) = omega (arith, ands-le gs)

-- a legal file with its I, O, G and A
module _ (s : List ℕ) (z : Sizes) (legal : Legal s z.inputs z.outputs z.gates) (count : z.ands ≡ ands (gates_in_order s)) where
  pub ands-few : z.ands ≤ z.gates
  ands-few = omega (arith, ands-le (gates_in_order s), gates-count s, legal.laid.gates, count)

  -- what fits a work memory of 64 (I + G) + 4,096 bytes
  module _ (n : ℕ) (m : List ℕ) (some : 1 ≤ n) (few : n ≤ 64) (room : 64 * (z.inputs + z.gates) + 4096 ≤ length m) where
    -- all that an instance of n parties takes
    pub room-end : held_end (layout_of z) n ≤ length m
    room-end = omega (arith, layout-fits (layout_of z) (omega (arith, ands-few)) legal.laid.few_outputs n few, room)

    -- the planes with the corrections, and 8 rows of broadcasts after them
    pub room-rows : rows_at (layout_of z) + 8 * broadcast_bytes z ≤ length m
    room-rows = omega (arith, rows_fit (layout_of z) (omega (arith, ands-few)) legal.laid.few_outputs, room)

    pub room-planes : Room (layout_of z) m
    room-planes = record {
      few_wires = omega (arith, legal.laid.few_inputs, legal.laid.few_gates);
      few_words = omega (arith, ands-few, legal.laid.few_inputs, legal.laid.few_outputs, legal.laid.few_gates);
      room = omega (arith, room-rows);
    }

    pub room-held : Held s z n m
    room-held = record { legal = legal; ands = count; some = some; few = omega arith; room = room-planes; rows = omega (arith, room-end) }

    -- and what the making of the corrections takes
    pub room-masks : masks.Lent s z n (rows_at (layout_of z)) (corrections_at (layout_of z)) m
    room-masks = record {
      legal = legal;
      ands = count;
      row = omega arith;
      low = omega (arith, spare-small (layout_of z), ands-few, legal.laid.few_inputs, legal.laid.few_outputs, legal.laid.few_gates);
      corrections = omega arith;
      tapes = omega (arith, room-end);
    }

-- a memory that holds the tapes and the corrections
module _ (s : List ℕ) (z : Sizes) (n : ℕ) (m : List ℕ) (held : Held s z n m) where
  abbrev tapes : List ℕ
  tapes = tapes_held z n m

  abbrev cs : List ℕ
  cs = corrections_held z m

  pub given : Given s z n (tapes_held z n m) m
  given = record {
    legal = held.legal;
    ands = held.ands;
    some = held.some;
    few = held.few;
    room = held.room;
    tapes_fit = length-take-le (n * tape_bytes z) (drop (rows_at (layout_of z)) m) (omega (arith, length-drop (rows_at (layout_of z)) m, held.rows));
  }

  pub lent-held : (k y : List ℕ) → length k ≡ length m → length y ≡ oct z.outputs → Lent s z k y
  lent-held = lent s z n tapes cs m given

  -- what the step of loading the words asks, and what the steps of loading give
  module _ (k : Layout) (len : ℕ) (e : k ≡ layout_of z) (d : len ≡ tape_bytes z) where
    pub words-asked : Room k m × ((1 ≤ n) × ((n ≤ 64) × ((rows_at k + n * len ≤ length m) × (8 * len ≤ k.inputs + 2 * k.ands + 7))))
    words-asked = rw (e, d) (held.room, (held.some, (held.few, (held.rows, omega arith))))

    module _ (a : List ℕ) (ea : a ≡ words_loaded k n (drop (rows_at k) m) len (drop (corrections_at k) m) m) where
      words_are : a ≡ words_loaded (layout_of z) n tapes (tape_bytes z) cs m
      words_are =
          ea ∙ ap₂ (λ (x : Layout) (y : ℕ). words_loaded x n (drop (rows_at x) m) y (drop (corrections_at x) m) m) e d
          ∙ words-held (layout_of z) n (tape_bytes z) m held.room.room held.few (omega arith)

      pub masked-given : (witness v : List ℕ) → v ≡ pack (tabulate z.inputs (masked_bit k witness a)) → v ≡ masked_inputs (circuit_of s) n witness tapes
      masked-given witness v h =
          h ∙ ap₂ (λ (x : Layout) (y : List ℕ). pack (tabulate z.inputs (masked_bit x witness y))) e words_are
          ∙ inputs-masked-are s z n tapes cs m given witness

      pub values-given : (v u b : List ℕ) → v ≡ u → b ≡ inputs_loaded k z.inputs v a → b ≡ values_loaded z n tapes cs u m
      unfolding values_loaded
      values-given v u b ev eb =
          eb ∙ ap₂ (λ (x : Layout) (y : List ℕ). inputs_loaded x z.inputs y a) e ev ∙ ap (inputs_loaded (layout_of z) z.inputs u) words_are

      pub showing-given : (v row b r : List ℕ) (p q t : ℕ) → b ≡ inputs_loaded k z.inputs v a → q ≡ broadcast_word k 0 → t ≡ z.ands + z.outputs
          → r ≡ put_party k q p row t b → r ≡ showing_loaded z n p tapes cs v row m
      unfolding showing_loaded
      showing-given v row b r p q t eb eq et er =
          er ∙ ap₂ (λ (x y : ℕ). put_party k x p row y b) eq et
          ∙ ap₂ (λ (x : Layout) (y : List ℕ). put_party x (broadcast_word x 0) p row (z.ands + z.outputs) y) e (values-given v v b refl eb)

  -- the run on a witness
  module _ (witness : List ℕ) where
    abbrev ran : Transcript
    ran = run_on (circuit_of s) n witness tapes (bit_at cs)

    abbrev begun : List ℕ
    begun = values_loaded z n tapes cs (masked_inputs (circuit_of s) n witness tapes) m

    run_is : Ran s z n (place 64 n) begun ran
    run_is = whole-ran s z n tapes cs m given witness

    run-zero : (q : ℕ) → broadcast_word (layout_of z) (z.ands + z.outputs) ≤ q → q < tape_words (layout_of z) → tape (layout_of z) begun q ≡ 0
    run-zero = values-zero s z n tapes cs m given (masked_inputs (circuit_of s) n witness tapes)

    -- from the steps of the run
    module _ (h : ℕ) (k : List ℕ) (eh : h ≡ place 64 n) (ek : k ≡ begun) where
      pub memory-ran : (b : List ℕ) → b ≡ outputs_run s z h k → b ≡ ran_memory s z n witness m
      unfolding ran_memory
      memory-ran b eb = eb ∙ ap₂ (outputs_run s z) eh ek

      pub output-ran : (y : List ℕ) → y ≡ pack (values_run s z h k) → y ≡ pack ran.output
      output-ran y ey = ey ∙ ap pack (ap₂ (values_run s z) eh ek ∙ run_is.output)

    pub ran-length : length (ran_memory s z n witness m) ≡ length m
    unfolding ran_memory
    ran-length = run_length s z (place 64 n) begun ∙ values_length s z n tapes cs m given (masked_inputs (circuit_of s) n witness tapes)

    pub ran-room : Room (layout_of z) (ran_memory s z n witness m)
    ran-room = room-kept (layout_of z) m (ran_memory s z n witness m) ran-length held.room

    -- the rows of its broadcasts
    pub rows-ran : rows_sent (layout_of z) n (broadcast_bytes z) (ran_memory s z n witness m)
        ≡ rows_of n (run_on (circuit_of s) n witness (tapes_held z n m) (bit_at (corrections_held z m)))
    unfolding ran_memory
    rows-ran = rows-after s z n (place 64 n) begun ran run_is run-zero

    -- the first k bits of one of them, and all of it
    pub row-ran : (i k : ℕ) → i < n
        → pack (tabulate (8 * broadcast_bytes z) (λ t. ltb t k && sent_bit (layout_of z) (ran_memory s z n witness m) i t))
        ≡ pack (first_bits k (row_bits (run_on (circuit_of s) n witness (tapes_held z n m) (bit_at (corrections_held z m))) i))
    unfolding ran_memory
    row-ran = row-after s z n (place 64 n) begun ran run_is run-zero

    pub whole-row-ran : (i : ℕ) → i < n
        → pack (tabulate (8 * broadcast_bytes z) (λ t. ltb t (z.ands + z.outputs) && sent_bit (layout_of z) (ran_memory s z n witness m) i t))
        ≡ pack (row_bits (run_on (circuit_of s) n witness (tapes_held z n m) (bit_at (corrections_held z m))) i)
    unfolding ran_memory
    whole-row-ran = row-whole s z n (place 64 n) begun ran run_is run-zero

  -- the replay of a showing with party p hidden
  module _ (p : ℕ) (v row : List ℕ) (hp : p < n) where
    abbrev replayed : Transcript
    replayed = replay_of (circuit_of s) n p (showing_of tapes cs v row)

    abbrev shown-begun : List ℕ
    shown-begun = showing_loaded z n p tapes cs v row m

    replay-is : Ran s z n (place 64 p) shown-begun replayed
    replay-is = replay-ran s z n tapes cs m given v row p hp

    -- from the steps of the replay
    module _ (h : ℕ) (k : List ℕ) (eh : h ≡ place 64 p) (ek : k ≡ shown-begun) where
      pub memory-replayed : (b : List ℕ) → b ≡ outputs_run s z h k → b ≡ replayed_memory s z n p v row m
      unfolding replayed_memory
      memory-replayed b eb = eb ∙ ap₂ (outputs_run s z) eh ek

      pub output-replayed : (y : List ℕ) → y ≡ pack (values_run s z h k) → y ≡ pack replayed.output
      output-replayed y ey = ey ∙ ap pack (ap₂ (values_run s z) eh ek ∙ replay-is.output)

    pub replayed-length : length (replayed_memory s z n p v row m) ≡ length m
    unfolding replayed_memory
    replayed-length = run_length s z (place 64 p) shown-begun ∙ showing-length s z n tapes cs m given v p row hp

    pub replayed-room : Room (layout_of z) (replayed_memory s z n p v row m)
    replayed-room = room-kept (layout_of z) m (replayed_memory s z n p v row m) replayed-length held.room

    pub rows-replayed : rows_sent (layout_of z) n (broadcast_bytes z) (replayed_memory s z n p v row m)
        ≡ rows_of n (replay_of (circuit_of s) n p (showing_of (tapes_held z n m) (corrections_held z m) v row))
    unfolding replayed_memory
    rows-replayed = rows-after s z n (place 64 p) shown-begun replayed replay-is (showing-zero s z n tapes cs m given v p row hp)

-- the inputs of a layout
pub layout-inputs : (l k : Layout) → l ≡ k → l.inputs ≡ k.inputs
layout-inputs l k e = ap (λ (x : Layout). x.inputs) e
