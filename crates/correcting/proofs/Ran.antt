-- The memory after the run holds the broadcasts of the honest run and its corrections; what stands after these is as it was.
-- Assumes nothing.
use mathlib.Core.Path.{◌≡◌, refl, sym, ap, ap₂, ◌∙◌, fun_ext}
use mathlib.Core.Bool.{Bool, true, false, cond, ◌&&◌}
use mathlib.Core.List.{List, [], ◌∷◌}
use mathlib.Core.Logic.{⊎_elim}
use Prim.Native.Nat.{ℕ, zero, suc, ◌+◌, ◌-◌, ◌*◌, ◌/◌, ◌%◌, ◌^◌, ◌≤◌, ◌<◌}
use native.Mathlib.Nat.{lt_of_lt_of_le, zero-add}
use native.Mathlib.Omega.{arith}
use borrow.Author.Tests.{lt-ltb, le-ltb, ltb-true}
use lib.Dec.{eqb, ltb}
use lib.ListN.{length, get_or, take, drop, replicate, length-drop, length-replicate, get_or-eq_default}
use lib.Pow.{pow_mono}
use lib.Seq.{sets, length-take-le, get_or-drop}
use Rattle.bits.specs.Bits.{tabulate, oct, odd, bit_at, test_bit, from_bits, pack}
use Rattle.bits.specs.Bytes.{row_of}
use Rattle.bits.specs.Xor.{◌⊕◌, xors}
use Rattle.bits.proofs.Little.{get_d_sets}
use Rattle.bits.proofs.Numbers.{lt-or-le, from_bits-lt, test_bit-from_bits, test_bit-zero, from_bits-cong}
use Rattle.bits.proofs.Packing.{bit_at-pack, ext-bit_at, length-pack, pack-lt}
use Rattle.bits.proofs.Xor.{xor-false, xors-suc}
use Rattle.circuit.specs.Circuit.{Circuit, ands}
use Rattle.circuit.specs.Fields as fields
use Rattle.circuit.specs.File.{inputs_of, head_of, output_wire, gates_in_order, circuit_of}
use Rattle.circuit.specs.declared.Sizes.{Sizes}
use Rattle.circuit.proofs.Chain.{zeros-at}
use Rattle.masks.specs.Masks.{mask_corrections}
use Rattle.plain.specs.Run.{Column, corrected, as_sent, Transcript, run}
use Rattle.plain.specs.Tapes.{ands_of, unused_rows, input_masks, output_masks, product_shares}
use Rattle.plain.proofs.Lengths.{length-corrections}
use Rattle.plain.specs.Showing.{correction_bits, masked_input, masked_inputs, run_with, run_on, honest_run, row_bits, rows_of}
use Rattle.words.specs.Words.{parity, place}
use Rattle.words.proofs.Columns.{word-put}
use Rattle.words.proofs.Folds.{word-mask}
use Rattle.packing.specs.Packed.{words, words_sent, packed_run}
use Rattle.packing.proofs.Agree.{delivers-sent, in_words, packed-run}
use Rattle.packing.proofs.Masked.{mask-corrections, last-zero}
use Rattle.planes.specs.Steps as planes
use Rattle.planes.specs.Steps.{mask_word, planes_end, corrections_at, rows_at}
use Rattle.planes.specs.declared.Layout.{Layout}
use Rattle.planes.proofs.Held.{bit_at-drop, bit_at-take, drop-cong, tape-length, tape-other}
use Rattle.gates.specs.Steps.{output_step}
use Rattle.walk.specs.Steps.{layout_of, Lent, outputs_sent, output_bit}
use Rattle.walk.proofs.Running.{all-written, output-wire, blank, hides-none, run-alike, get_d_map, length-map}
use Rattle.walk.proofs.Turns.{reads-good, fit, gates-all, chain-good, all-wired}
use Rattle.walk.proofs.Walking.{Gives}
use Rattle.packed.specs.Steps.{tape_bytes, broadcast_bytes, tapes_held, corrections_held, Held, sent_bit, rows_sent}
use Rattle.packed.proofs.Rows.{row-size, rows-from, whole_from}
use Rattle.packed.proofs.Runs.{no_bits, inputs_are, ands-are, bytes-are, mask-column, last-party, masked-agree, lent-held}
use Rattle.correcting.specs.Steps.{corrections_cleared, walked, begun, ran_memory}
use Rattle.correcting.proofs.Bytes.{wire-odd, wire-mask}
use Rattle.correcting.proofs.Holding.{Runs}
use Rattle.correcting.proofs.Loads.{given, begun-length, begun-word, begun-zero, begun-share, begun-masked, begun-after, begun-rows}
use Rattle.correcting.proofs.Walking.{bits-same, Made, Sums, with_corrections, walk-gives}

-- the last bit is false
xors-last : (n : ℕ) (f : ℕ → Bool) → 1 ≤ n → f (n - 1) ≡ false → xors n f ≡ xors (n - 1) f
xors-last zero f h e = absurd (omega arith)
xors-last (suc n) f h e =
    let d : suc n - 1 ≡ n = omega arith in
    rw d (xors-suc n f ∙ ap (λ (b : Bool). xors n f ⊕ b) (rw d at e) ∙ xor-false (xors n f))

-- the corrections that are cleared
cleared-bit : (l : Layout) (m : List ℕ) → rows_at l ≤ length m → (i : ℕ) → i < 8 * oct l.ands → bit_at (corrections_cleared l m) (8 * corrections_at l + i) ≡ false
unfolding corrections_cleared bit_at
cleared-bit l m h i hi =
    let k : ℕ = oct l.ands in
    let w : List ℕ = sets m (corrections_at l) (replicate k 0) in
    let e : (8 * corrections_at l + i) / 8 ≡ corrections_at l + i / 8 = omega arith in
    ap (λ (j : ℕ). test_bit (get_or w j 0) ((8 * corrections_at l + i) % 8)) e
    ∙ ap (λ (x : ℕ). test_bit x ((8 * corrections_at l + i) % 8))
    (get_d_sets 0 (replicate k 0) m (corrections_at l) (i / 8) (omega (arith, length-replicate {A = ℕ} k 0)) (omega (arith, length-replicate {A = ℕ} k 0)) ∙ zeros-at k (i / 8))
    ∙ test_bit-zero ((8 * corrections_at l + i) % 8)

-- bytes of a part
take-low : (k : ℕ) (m : List ℕ) → ((j : ℕ) → get_or m j 0 < 256) → (j : ℕ) → get_or (take k m) j 0 < 256
take-low zero m low j = omega arith
take-low (suc k) [] low j = omega arith
take-low (suc k) (x ∷ m) low zero = low 0
take-low (suc k) (x ∷ m) low (suc j) = take-low k m (λ i. low (suc i)) j

part_low : (k a : ℕ) (m : List ℕ) → ((j : ℕ) → get_or m j 0 < 256) → (j : ℕ) → get_or (take k (drop a m)) j 0 < 256
part_low k a m low = take-low k (drop a m) (λ j. rw (get_or-drop a m j 0) (low (a + j)))

-- the outputs change only broadcasts
module _ (l : Layout) (s : List ℕ) where
  outputs-length : (k : ℕ) (m : List ℕ) → length (outputs_sent l 0 s k m) ≡ length m
  unfolding outputs_sent output_step
  outputs-length zero m = refl
  outputs-length (suc k) m = tape-length l (outputs_sent l 0 s k m) _ _ ∙ outputs-length k m

  outputs-other : (k : ℕ) → k ≤ l.outputs → (m : List ℕ) (j : ℕ) → planes_end l ≤ j → get_or (outputs_sent l 0 s k m) j 0 ≡ get_or m j 0
  unfolding outputs_sent output_step
  outputs-other zero h m j a = refl
  outputs-other (suc k) h m j a =
      tape-other l (outputs_sent l 0 s k m) (planes.broadcast_word l (l.ands + k)) _ (omega arith) j a ∙ outputs-other k (omega arith) m j a

-- a memory that holds tapes whose unused bits are zero
module _ (s : List ℕ) (z : Sizes) (n : ℕ) (m : List ℕ) (held : Held s z n m) (clean : unused_rows (circuit_of s) n (tapes_held z n m) n ≡ true) where
  abbrev l : Layout
  l = layout_of z

  abbrev c : Circuit
  c = circuit_of s

  abbrev tapes : List ℕ
  tapes = tapes_held z n m

  abbrev p : ℕ
  p = n - 1

  ands-here : ands_of (circuit_of s) ≡ z.ands
  ands-here = ands-are s z n tapes tapes _ (given s z n m held)

  -- party n − 1 has no product shares
  last-false : (t : ℕ) → product_shares (circuit_of s) tapes t p ≡ false
  unfolding product_shares
  last-false t =
      let some = held.some in
      let e : suc p ≡ n = omega arith in
      last-zero c p tapes (ap (λ (k : ℕ). unused_rows c k tapes k) e ∙ clean) (c.inputs + ands_of c + t) (omega arith)

  -- what stands in the places of the broadcasts
  abbrev places : ℕ → Column
  places t = cond (ltb t z.ands) (product_shares (circuit_of s) tapes t) blank

  place-products : (t : ℕ) → t < z.ands → places t ≡ product_shares (circuit_of s) tapes t
  place-products t h = rw (lt-ltb t z.ands h)

  place-outputs : (t : ℕ) → z.ands ≤ t → places t ≡ blank
  place-outputs t h = rw (le-ltb t z.ands h)

  product-column : (t : ℕ)
      → from_bits n (λ i. bit_at (row_of tapes (tape_bytes z) i) (planes.broadcast_word l t)) ≡ from_bits n (product_shares (circuit_of s) tapes t)
  unfolding product_shares
  product-column t =
      let g = given s z n m held in
      from_bits-cong n _ (product_shares (circuit_of s) tapes t)
      (λ i hi. ap₂ (λ (q k : ℕ). bit_at (row_of tapes k i) (q + t))
      (ap₂ (λ (x y : ℕ). x + y) (sym (inputs_are s z n tapes tapes _ g)) (sym ands-here)) (sym (bytes-are s z n tapes tapes _ g)))

  -- words of n parties have 64 bits
  small : (f : ℕ → Column) (k : ℕ) → words n f k < 2 ^ 64
  small f k = lt_of_lt_of_le (from_bits-lt n (f k)) (pow_mono held.few)

  -- the masks
  abbrev ob : ℕ → Bool
  ob t = xors n (output_masks (circuit_of s) tapes t)

  abbrev zb : ℕ → Bool
  zb t = xors (n - 1) (product_shares (circuit_of s) tapes t)

  abbrev kb : ℕ → Bool
  kb w = xors n (input_masks (circuit_of s) tapes w)

  -- the corrections
  abbrev cs : List Bool
  cs = correction_bits (circuit_of s) n tapes

  corrections-are : mask_corrections (gates_in_order s) ob zb kb ≡ cs
  unfolding correction_bits fields.circuit_of
  corrections-are = sym (mask-corrections n (gates_in_order s) (output_masks c tapes) (product_shares c tapes) (input_masks c tapes))

  sums : Sums p (gates_in_order s) (words n (output_masks (circuit_of s) tapes)) (words n places) ob zb
  sums = record {
    outputs = λ u. sym (word-mask 64 n (output_masks c tapes u) held.few);
    products = λ u h.
        sym (ap (λ (f : Column). parity 64 (from_bits n f)) (place-products u (omega (arith, held.ands)))
        ∙ word-mask 64 n (product_shares c tapes u) held.few ∙ xors-last n (product_shares c tapes u) held.some (last-false u));
    last = λ u h.
        test_bit-from_bits n (places u) p (omega (arith, held.some)) ∙ ap (λ (f : Column). f p) (place-products u (omega (arith, held.ands))) ∙ last-false u;
  }

  -- what the steps of the walk are lent
  abbrev none : List ℕ
  none = replicate (oct z.outputs) 0

  module _ (witness : List ℕ) where
    abbrev values : List ℕ
    values = masked_inputs (circuit_of s) n witness tapes

    abbrev start : List ℕ
    start = begun z n values m

    lent : Lent s z start none
    lent = lent-held s z n m held start none (begun-length s z n m held values) (length-replicate {A = ℕ} (oct z.outputs) 0)

    value-here : (w : ℕ) → w < z.inputs → bit_at values w ≡ masked_input (circuit_of s) n witness tapes w
    value-here = masked-agree s z n tapes tapes _ (given s z n m held) witness

    -- the run begins
    runs : Runs l 0 start (λ k. ltb k (inputs_of s)) (λ v. 0) (λ v. 0) (words n (output_masks (circuit_of s) tapes)) (words n places)
        (words n (input_masks (circuit_of s) tapes)) (masked_input (circuit_of s) n witness tapes) kb
    runs =
        let i = held.legal.laid.inputs in
        let inside : (w : ℕ) → ltb w (inputs_of s) ≡ true → w < z.inputs = λ w a. omega (arith, ltb-true w (inputs_of s) a, i) in
        record {
          holds = record {
            room = lent.memory;
            count = omega arith;
            shares = λ w h a. begun-share s z n m held values w (inside w a);
            values = λ w h a. ap odd (begun-masked s z n m held values w (inside w a)) ∙ wire-odd (bit_at values w) (parity 64 (from_bits n (input_masks c tapes w))) ∙ value-here w (inside w a);
            masks = λ v u e h.
                let q : v ≡ u = omega arith in
                rw q (begun-word s z n m held values (mask_word l u) (omega arith) ∙ mask-column s z n tapes tapes _ (given s z n m held) u);
            products = λ v u e h.
                let q : v ≡ u = omega arith in
                rw q
                (⊎_elim
                (λ a. begun-word s z n m held values (planes.broadcast_word l u) (omega arith) ∙ product-column u ∙ ap (from_bits n) (sym (place-products u a)))
                (λ a. begun-zero s z n m held values (planes.broadcast_word l u) (omega arith) (omega arith) ∙ sym (no_bits n) ∙ ap (from_bits n) (sym (place-outputs u a)))
                (lt-or-le u z.ands));
            broadcasts = λ v h. absurd (omega arith);
            after = λ v h g. begun-zero s z n m held values (planes.broadcast_word l v) (omega arith) g;
            small-shares = small (input_masks c tapes);
            small-masks = small (output_masks c tapes);
            small-products = small places;
          };
          masks = λ w h a.
              ap (λ (x : ℕ). test_bit x 1) (begun-masked s z n m held values w (inside w a)) ∙ wire-mask (bit_at values w) (parity 64 (from_bits n (input_masks c tapes w))) ∙ word-mask 64 n (input_masks c tapes w) held.few;
          agree = λ w. sym (word-mask 64 n (input_masks c tapes w) held.few);
        }

    abbrev done : List ℕ
    done = walked (layout_of z) (place 64 (n - 1)) s z.gates (head_of s) 0 (begun z n values m)

    abbrev ran : Transcript
    ran = honest_run (circuit_of s) n witness tapes

    -- the run on words
    walk_ends :
        Gives l 0 s 0 done (λ v. 0) (λ v. 0)
        (packed_run 64 (tabulate z.outputs (output_wire s)) (gates_in_order s) (words n (output_masks (circuit_of s) tapes)) (with_corrections p cs (words n places)) words_sent
        (words n (input_masks (circuit_of s) tapes)) (masked_input (circuit_of s) n witness tapes))
        × Made l 0 start done cs
    walk_ends =
        let all = gates-all s z start none lent in
        let wire = output-wire s z start none lent in
        let g = walk-gives l s p (omega (arith, held.few, held.some)) wire (fit s z start none lent) z.gates (head_of s) 0 (chain-good s z start none lent)
        (all-wired s z start none lent) (zero-add _ ∙ ap ands all ∙ sym held.ands) start (λ k. ltb k (inputs_of s)) (λ v. 0) (λ v. 0) (words n (output_masks c tapes)) (words n places)
        (words n (input_masks c tapes)) (masked_input c n witness tapes) kb ob zb in
        let r = (rw all at g) (reads-good s z start none lent) (λ j h. all-written s z start none lent (output_wire s j) (wire j h))
        (omega (arith, begun-length s z n m held values, held.rows)) sums runs in
        rw corrections-are at r

    run-same :
        packed_run 64 (tabulate z.outputs (output_wire s)) (gates_in_order s) (words n (output_masks (circuit_of s) tapes)) (with_corrections p cs (words n places)) words_sent
        (words n (input_masks (circuit_of s) tapes)) (masked_input (circuit_of s) n witness tapes)
        ≡ in_words n ran
    unfolding honest_run run_on run_with fields.circuit_of corrected
    run-same =
        let o = output_masks (circuit_of s) tapes in
        let w = input_masks (circuit_of s) tapes in
        let v = masked_input (circuit_of s) n witness tapes in
        let bit : ℕ → Bool = λ t. get_or cs t false in
        let x : ℕ → Column = corrected n bit (product_shares (circuit_of s) tapes) in
        let y : ℕ → Column = λ t i. cond (eqb i p) (bit t) (places t i) in
        let row : ℕ → Bool = λ t. false in
        let outs : List ℕ = tabulate z.outputs (output_wire s) in
        let q : with_corrections p cs (words n places) ≡ words n y = fun_ext (λ t. word-put 64 n p (bit t) (places t) held.few (omega (arith, held.some))) in
        ap (λ (f : ℕ → ℕ). packed_run 64 outs (gates_in_order s) (words n o) f words_sent (words n w) v) q
        ∙ packed-run 64 n held.few outs (gates_in_order s) o y words_sent as_sent w v (delivers-sent n)
        ∙ run-alike n n outs (gates_in_order s) row o y x as_sent as_sent w v (hides-none n n row (omega arith)) (hides-none n n row (omega arith))
        (λ t i a b d.
        ap₂ (λ (e : Bool) (f : Column). cond e (bit t) (f i)) (last-party s z n tapes tapes _ (given s z n m held) i) (place-products t (omega (arith, held.ands))))
        ∙ ap (λ (k : ℕ). in_words n (run n (tabulate k (output_wire s)) (gates_in_order s) o x as_sent w v)) held.legal.laid.outputs

    gives : Gives l 0 s 0 done (λ v. 0) (λ v. 0) (in_words n ran)
    gives = rw run-same at walk_ends.0

    abbrev fin : List ℕ
    fin = outputs_sent (layout_of z) 0 s z.outputs done

    -- the broadcasts
    sent : length ran.broadcasts ≡ z.ands + z.outputs
    sent = sym (length-map (from_bits n) ran.broadcasts) ∙ omega (arith, gives.columns)

    sent-bit : (i t : ℕ) → i < n → t < z.ands + z.outputs + 7 → sent_bit l fin i t ≡ get_or (row_bits ran i) t false
    unfolding sent_bit row_bits
    sent-bit i t hi h =
        ⊎_elim
        (λ a.
        ap (λ (x : ℕ). test_bit x i) (gives.broadcasts t t (omega arith) a ∙ get_d_map (from_bits n) blank 0 ran.broadcasts t (omega (arith, sent)))
        ∙ test_bit-from_bits n (get_or ran.broadcasts t blank) i hi ∙ sym (get_d_map (λ (x : Column). x i) blank false ran.broadcasts t (omega (arith, sent))))
        (λ a.
        ap (λ (x : ℕ). test_bit x i) (gives.after t a (omega arith)) ∙ test_bit-zero i
        ∙ sym (get_or-eq_default (row_bits ran i) false {n = t} (omega (arith, row-size z n ran sent i))))
        (lt-or-le t (z.ands + z.outputs))

    -- the rows of all parties, and of one
    pub rows-ran : rows_sent (layout_of z) n (broadcast_bytes z) (ran_memory s z n witness m) ≡ rows_of n (honest_run (circuit_of s) n witness (tapes_held z n m))
    unfolding ran_memory
    rows-ran = rows-from z n fin ran sent sent-bit

    pub row-ran : (i : ℕ) → i < n
        → pack (tabulate (8 * broadcast_bytes z) (λ t. ltb t (z.ands + z.outputs) && sent_bit (layout_of z) (ran_memory s z n witness m) i t))
        ≡ pack (row_bits (honest_run (circuit_of s) n witness (tapes_held z n m)) i)
    unfolding ran_memory
    row-ran = whole_from z n fin ran sent sent-bit

    -- from the steps of the run
    pub done-is : (h last : ℕ) (k w : List ℕ) → h ≡ head_of s → last ≡ place 64 (n - 1) → k ≡ begun z n (masked_inputs (circuit_of s) n witness (tapes_held z n m)) m
        → w ≡ walked (layout_of z) last s z.gates h 0 k → w ≡ done
    done-is h last k w eh el ek ew = ew ∙ ap₂ (λ (x y : ℕ). walked l x s z.gates y 0 k) el eh ∙ ap (walked l (place 64 p) s z.gates (head_of s) 0) ek

    pub memory-ran : (w b : List ℕ) → w ≡ done → b ≡ outputs_sent (layout_of z) 0 s z.outputs w → b ≡ ran_memory s z n witness m
    unfolding ran_memory
    memory-ran w b ew eb = eb ∙ ap (outputs_sent l 0 s z.outputs) ew

    pub output-ran : (w y : List ℕ) → w ≡ done → y ≡ pack (tabulate z.outputs (output_bit (layout_of z) 0 s w))
        → y ≡ pack (honest_run (circuit_of s) n witness (tapes_held z n m)).output
    output-ran w y ew e = e ∙ ap pack (ap (λ (x : List ℕ). tabulate z.outputs (output_bit l 0 s x)) ew ∙ gives.output)

    -- the memory is as long as before, and what stands after the corrections is as it was
    pub ran-length : length (ran_memory s z n witness m) ≡ length m
    unfolding ran_memory
    ran-length = outputs-length l s z.outputs done ∙ walk_ends.1.size ∙ begun-length s z n m held values

    fin-other : (j : ℕ) → planes_end l ≤ j → get_or fin j 0 ≡ get_or done j 0
    fin-other = outputs-other l s z.outputs (omega arith) done

    pub after-ran : drop (rows_at (layout_of z)) (ran_memory s z n witness m) ≡ drop (rows_at (layout_of z)) m
    unfolding ran_memory
    after-ran =
        drop-cong (rows_at l) fin m (outputs-length l s z.outputs done ∙ walk_ends.1.size ∙ begun-length s z n m held values)
        (λ j h. fin-other j (omega arith) ∙ walk_ends.1.after j h ∙ begun-rows s z n m held values j h)

    -- the corrections
    corrections-count : length cs ≡ z.ands
    unfolding correction_bits
    corrections-count = length-corrections n c.gates _ _ _ ∙ ands-here

    corrections-ran : ((j : ℕ) → get_or (ran_memory s z n witness m) j 0 < 256)
        → corrections_held z (ran_memory s z n witness m) ≡ pack (correction_bits (circuit_of s) n (tapes_held z n m))
    unfolding ran_memory
    corrections-ran low =
        let k : ℕ = oct z.ands in
        let part : List ℕ = take k (drop (corrections_at l) fin) in
        let long : length fin ≡ length m = outputs-length l s z.outputs done ∙ walk_ends.1.size ∙ begun-length s z n m held values in
        let size : length part ≡ k = length-take-le k (drop (corrections_at l) fin) (omega (arith, length-drop (corrections_at l) fin, long, held.rows)) in
        ext-bit_at part (pack cs) (part_low k (corrections_at l) fin low) (pack-lt cs) (size ∙ ap oct (sym corrections-count) ∙ sym (length-pack cs))
        (λ i h.
        let hi : i < 8 * k = omega (arith, size) in
        bit_at-take k (drop (corrections_at l) fin) i hi ∙ bit_at-drop (corrections_at l) fin i ∙ bits-same l fin done fin-other i
        ∙ ⊎_elim
        (λ a. walk_ends.1.new i i (omega arith) a ∙ sym (bit_at-pack cs i))
        (λ a.
        walk_ends.1.beyond i a ∙ bits-same l start (corrections_cleared l m) (begun-after s z n m held values) i
        ∙ cleared-bit l m (omega (arith, held.rows)) i hi ∙ sym (bit_at-pack cs i ∙ get_or-eq_default cs false {n = i} (omega (arith, corrections-count))))
        (lt-or-le i z.ands))

    pub corrections-given : (b : List ℕ) → b ≡ ran_memory s z n witness m → ((j : ℕ) → get_or b j 0 < 256)
        → corrections_held z b ≡ pack (correction_bits (circuit_of s) n (tapes_held z n m))
    corrections-given b e low = ap (corrections_held z) e ∙ corrections-ran (λ j. rw (← e) (low j))
