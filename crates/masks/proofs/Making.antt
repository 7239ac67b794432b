-- Making the corrections of a legal file: what the walk asks, and what the corrections then are.
-- Assumes nothing.
use mathlib.Core.Path.{◌≡◌, refl, sym, ap, ap₂, ◌∙◌}
use mathlib.Core.Bool.{Bool, true, false, ◌&&◌}
use mathlib.Core.List.{List, [], ◌∷◌}
use mathlib.Core.Logic.{⊎_elim}
use Prim.Native.Nat.{ℕ, ◌+◌, ◌*◌, ◌/◌, ◌%◌, ◌≤◌, ◌<◌}
use native.Mathlib.Nat.{zero-add}
use native.Mathlib.Omega.{arith}
use borrow.Author.Tests.{lt-ltb, le-ltb, ltb-true}
use lib.Dec.{ltb}
use lib.ListN.{length, get_or, take, drop, replicate, length-replicate, length-drop, get_or-eq_default}
use lib.Seq.{sets, length-sets}
use Rattle.bits.specs.Bits.{oct, pack, odd, test_bit, bit_at}
use Rattle.bits.proofs.Numbers.{lt-or-le, test_bit-zero}
use Rattle.bits.proofs.Packing.{bit_at-pack, ext-bit_at, length-pack, pack-lt}
use Rattle.bits.proofs.Tests.{and-true-left}
use Rattle.circuit.specs.Circuit.{Gate, xor, and, inv, ands}
use Rattle.circuit.specs.Fields as fields
use Rattle.circuit.specs.File.{inputs_of, outputs_of, gates_of, head_of, reads_written, gates_in_order}
use Rattle.circuit.specs.Steps.{gates_from, walks, wired, good_outputs}
use Rattle.circuit.specs.declared.Sizes.{Sizes}
use Rattle.circuit.proofs.Answered.{gates-count}
use Rattle.circuit.proofs.Chain.{zeros-at}
use Rattle.circuit.proofs.Run.{wired-reads, good_chain-walks, gates-order}
use Rattle.words.specs.Steps as words
use Rattle.masks.specs.Masks.{mask_corrections}
use Rattle.masks.specs.Steps.{wire_count, row_length, masks_from, products_from, cleared, summed, loaded, walked, made, rows_from, sum_bit, corrections_of, worked, Ready, Lent}
use Rattle.masks.proofs.Parts.{byte-before, bit-before, clear-part, part-sets, sets_over}
use Rattle.masks.proofs.Sums.{clear_at, sum-length, sum-bit, sum-take, load-length, load_kept, load-input, load-other}
use Rattle.masks.proofs.Joint.{walked-before}
use Rattle.masks.proofs.Corrects.{Made, Holds, walk-corrects}
use Rattle.masks.proofs.Kept.{length-corrections_of}

-- AND gates are gates
ands-le : (gs : List Gate) → ands gs ≤ length gs
unfolding ands
ands-le [] = omega arith
ands-le (xor a b c ∷ gs) = omega (arith, ands-le gs)
ands-le (and a b c ∷ gs) = omega (arith, ands-le gs)
ands-le (inv a c ∷ gs) = omega (arith, ands-le gs)

-- no bit of zeros is set
zero_bit : (n i : ℕ) → bit_at (replicate n 0) i ≡ false
unfolding bit_at
zero_bit n i = ap (λ (x : ℕ). test_bit x (i % 8)) (zeros-at n (i / 8)) ∙ test_bit-zero (i % 8)

-- the bytes that the walk leaves, from zeros
packed-bits : (A n : ℕ) (later : List ℕ) (bs : List Bool) → n ≡ oct A → Made A 0 (replicate n 0) later bs → later ≡ pack bs
packed-bits A n later bs e r =
    let size : length later ≡ n = r.size ∙ length-replicate {A = ℕ} n 0 in
    let count : length bs ≡ A = omega (arith, r.count) in
    let low : (i : ℕ) → get_or (replicate {A = ℕ} n 0) i 0 < 256 = λ i. omega (arith, zeros-at n i) in
    ext-bit_at later (pack bs) (r.small low) (pack-lt bs) (size ∙ e ∙ ap oct (sym count) ∙ sym (length-pack bs))
    (λ i l.
    ⊎_elim
    (λ h. r.new i i (omega arith) h ∙ sym (bit_at-pack bs i))
    (λ h. r.beyond i h ∙ zero_bit n i ∙ sym (bit_at-pack bs i ∙ get_or-eq_default bs false (omega (arith, count))))
    (lt-or-le i A))

-- the bits that are held stand before a part
holds-before : (W A masks products t at : ℕ) (m v : List ℕ) (o z s : ℕ → Bool) → W ≤ at → masks + A ≤ 8 * at → products + A ≤ 8 * at
    → Holds W A masks products t m o z s → Holds W A masks products t (sets m at v) o z s
holds-before W A masks products t at m v o z s low mask-row product-row h = record {
  room = omega (arith, h.room, length-sets m at v);
  wires = λ w l. ap odd (byte-before v m at w (omega arith)) ∙ h.wires w l;
  outputs = λ x u e l. bit-before v m at (masks + x) (omega arith) ∙ h.outputs x u e l;
  sums = λ x u e l. bit-before v m at (products + x) (omega arith) ∙ h.sums x u e l;
}

module _ (s : List ℕ) (z : Sizes) (n a at : ℕ) (m : List ℕ) (lent : Lent s z n a at m) where
  -- A is at most G
  pub few-ands : z.ands ≤ z.gates
  few-ands = omega (arith, ands-le (gates_in_order s), gates-count s, lent.legal.laid.gates, lent.ands)

  abbrev W : ℕ
  W = wire_count z

  abbrev tapes : List ℕ
  tapes = rows_from z n a m

  reads-good : reads_written (λ w. ltb w (inputs_of s)) (gates_in_order s) ≡ true
  unfolding fields.good_wires
  reads-good = and-true-left (reads_written (λ w. ltb w (inputs_of s)) (gates_in_order s)) (good_outputs s (outputs_of s)) lent.legal.wires

  module _ (h : ℕ) (p : h ≡ head_of s) where
    gates-all : gates_from s z.gates h ≡ gates_in_order s
    gates-all = ap₂ (gates_from s) lent.legal.laid.gates p ∙ gates-order s

    chain-good : walks s z.gates h ≡ true
    chain-good = ap₂ (walks s) lent.legal.laid.gates p ∙ good_chain-walks s lent.legal.chain

    fit : inputs_of s + gates_of s ≤ W
    fit = omega (arith, lent.legal.laid.inputs, lent.legal.laid.gates)

    all-wired : wired s W z.gates h
    all-wired =
        wired-reads s W z.gates h (λ w. ltb w (inputs_of s)) (λ w q. omega (arith, ltb-true w (inputs_of s) q, fit)) fit chain-good
        (ap (reads_written (λ w. ltb w (inputs_of s))) gates-all ∙ reads-good)

    all-ands : ands (gates_from s z.gates h) ≡ z.ands
    all-ands = ap ands gates-all ∙ sym lent.ands

    -- what the walk asks
    pub ready : (m2 m1 : List ℕ) (size : ℕ) → length m2 ≡ length m → length m1 ≡ length m → size ≡ oct z.ands → m2 ≡ cleared at size m1 → Ready s z h at m2
    ready m2 m1 size e d f g = record {
      chained = record { laid = lent.legal.laid; chain = chain-good };
      reads = all-wired;
      count = all-ands;
      few = few-ands;
      row = lent.row;
      room = omega (arith, lent.corrections, lent.tapes, e);
      low = lent.low;
      zeros = λ j l.
          ap (λ (v : List ℕ). get_or v (at + j) 0) g
          ∙ clear_at at size m1 j (omega (arith, f)) (omega (arith, lent.corrections, lent.tapes, d, f));
    }

    -- the memory with the input masks loaded
    module _ (len : ℕ) (q : len ≡ row_length z) (m0 m1 : List ℕ) (e : m0 ≡ summed (drop a m) len W n m) (d : m1 ≡ loaded W z.inputs m0) where
      abbrev row : ℕ → Bool
      row = sum_bit tapes (row_length z) n

      room : W + row_length z ≤ length m
      room = omega (arith, lent.row, lent.corrections, lent.tapes)

      -- the rows are those of the tapes
      sum-all : m0 ≡ summed tapes (row_length z) W n m
      sum-all =
          e ∙ ap (λ (k : ℕ). summed (drop a m) k W n m) q
          ∙ sum-take (drop a m) (row_length z) W n n m (omega arith) (rw length-drop (omega (arith, lent.tapes)))

      size : length m0 ≡ length m
      size = ap length sum-all ∙ sum-length tapes (row_length z) W m n

      size-loaded : length m1 ≡ length m
      size-loaded = ap length d ∙ load-length W z.inputs (omega arith) m0 (omega (arith, size, room)) ∙ size

      -- its row is the XOR of all rows
      row-bit : (k : ℕ) → k < z.inputs + 2 * z.ands → bit_at m1 (8 * W + k) ≡ row k
      row-bit k l =
          ap (λ (x : List ℕ). bit_at x (8 * W + k)) d ∙ load_kept W z.inputs (omega arith) m0 (omega (arith, size, room)) k
          ∙ ap (λ (x : List ℕ). bit_at x (8 * W + k)) sum-all ∙ sum-bit tapes (row_length z) W m n k (omega arith) room

      abbrev output_masks : ℕ → Bool
      output_masks t = row (z.inputs + t)

      abbrev products : ℕ → Bool
      products t = row (z.inputs + z.ands + t)

      abbrev wireMasks : ℕ → Bool
      wireMasks w = ltb w z.inputs && row w

      -- the masks that it holds
      holds : Holds W z.ands (masks_from z) (products_from z) 0 m1 output_masks products wireMasks
      holds = record {
        room = omega (arith, size-loaded, room);
        wires = λ w l.
            ⊎_elim
            (λ h.
            rw (lt-ltb w z.inputs h)
            (ap (λ (x : List ℕ). odd (words.at x w)) d ∙ load-input W z.inputs (omega arith) m0 (omega (arith, size, room)) w h
            ∙ sym (ap (λ (x : List ℕ). bit_at x (8 * W + w)) d ∙ load_kept W z.inputs (omega arith) m0 (omega (arith, size, room)) w)
            ∙ row-bit w (omega arith)))
            (λ h.
            rw (le-ltb w z.inputs h)
            (ap (λ (x : List ℕ). odd (words.at x w)) d ∙ load-other W z.inputs (omega arith) m0 (omega (arith, size, room)) w h l))
            (lt-or-le w z.inputs);
        outputs = λ v u b l.
            let k : masks_from z + v ≡ 8 * W + (z.inputs + u) = omega arith in
            ap (bit_at m1) k ∙ row-bit (z.inputs + u) (omega arith);
        sums = λ v u b l.
            let k : products_from z + v ≡ 8 * W + (z.inputs + z.ands + u) = omega arith in
            ap (bit_at m1) k ∙ row-bit (z.inputs + z.ands + u) (omega arith);
      }

      abbrev zeros : List ℕ
      zeros = replicate (oct z.ands) 0

      -- with room for the corrections it is as the walk finds it
      abbrev start : List ℕ
      start = sets m1 at zeros

      zeros-size : length zeros ≡ oct z.ands
      zeros-size = length-replicate {A = ℕ} (oct z.ands) 0

      -- the corrections
      corrections-made : made s (masks_from z) (products_from z) z.gates h 0 start zeros ≡ corrections_of s z n tapes
      unfolding corrections_of
      corrections-made =
          let held = holds-before W z.ands (masks_from z) (products_from z) 0 at m1 zeros output_masks products wireMasks (omega (arith, lent.row))
          (omega (arith, lent.row)) (omega (arith, lent.row)) holds in
          let c = walk-corrects W z.ands (masks_from z) (products_from z) (omega arith) (omega arith) s fit z.gates h 0 chain-good all-wired
          (zero-add _ ∙ all-ands) start zeros output_masks products wireMasks held (omega (arith, zeros-size)) in
          packed-bits z.ands (oct z.ands) (made s (masks_from z) (products_from z) z.gates h 0 start zeros)
          (mask_corrections (gates_from s z.gates h) output_masks products wireMasks) refl c
          ∙ ap (λ (gs : List Gate). pack (mask_corrections gs output_masks products wireMasks)) gates-all

      -- the wires' masks and the row
      memory-left : walked s (masks_from z) z.gates h 0 m1 ≡ worked s z n tapes m
      unfolding worked
      memory-left = rw (d, sum-all, p)

      -- all of it
      pub all_made : (size : ℕ) (m2 r : List ℕ) → size ≡ oct z.ands → m2 ≡ cleared at size m1
          → r ≡ sets (walked s (masks_from z) z.gates h 0 m2) at (made s (masks_from z) (products_from z) z.gates h 0 m2 (take (oct z.ands) (drop at m2)))
          → r ≡ sets (worked s z n tapes m) at (corrections_of s z n tapes)
      all_made k m2 r f g u =
          let w : List ℕ → List ℕ = walked s (masks_from z) z.gates h 0 in
          let c : List ℕ → List ℕ → List ℕ = made s (masks_from z) (products_from z) z.gates h 0 in
          let b : m2 ≡ start = g ∙ clear-part at k m1 ∙ ap (λ (i : ℕ). sets m1 at (replicate i 0)) f in
          let part : take (oct z.ands) (drop at start) ≡ zeros =
          part-sets zeros m1 at (oct z.ands) zeros-size (omega (arith, size-loaded, lent.corrections, lent.tapes)) in
          u ∙ ap (λ (x : List ℕ). sets (w x) at (c x (take (oct z.ands) (drop at x)))) b
          ∙ ap (λ (x : List ℕ). sets (w start) at (c start x)) part
          ∙ ap₂ (λ (x y : List ℕ). sets x at y)
          (walked-before s W z.ands (masks_from z) at fit (omega (arith, lent.row)) (omega (arith, lent.row)) z.gates h 0 chain-good all-wired
          (zero-add _ ∙ all-ands) m1 zeros)
          corrections-made
          ∙ sets_over zeros (corrections_of s z n tapes) (w m1) at (zeros-size ∙ sym (length-corrections_of s z n tapes lent.ands))
          ∙ ap (λ (x : List ℕ). sets x at (corrections_of s z n tapes)) memory-left
