-- The run in memory is the run on bits: where the memory holds the words of the tapes, the corrections and the masked inputs, it holds
-- the words of the run's broadcasts afterwards, and the outputs are the run's. For every n up to 64, and every hidden party.
-- Assumes nothing.
use mathlib.Core.Path.{◌≡◌, refl, sym, ap, ap₂, ◌∙◌}
use mathlib.Core.Bool.{Bool, true, false, cond, ◌&&◌}
use mathlib.Core.List.{List, [], ◌∷◌, map}
use mathlib.Core.Logic.{⊎_elim, ◌≢◌}
use Prim.Native.Nat.{ℕ, zero, suc, ◌+◌, ◌^◌, ◌≤◌, ◌<◌}
use native.Mathlib.Nat.{zero-add, lt_of_lt_of_le}
use native.Mathlib.Omega.{arith}
use borrow.Author.Tests.{eq-eqb, ne_eqb, lt-ltb, le-ltb, ltb-true}
use lib.Dec.{eqb, ltb}
use lib.ListN.{length, get_or}
use lib.Pow.{pow_mono}
use Rattle.bits.specs.Bits.{tabulate, odd, test_bit, from_bits}
use Rattle.bits.specs.Xor.{◌⊕◌, xors}
use Rattle.bits.specs.Counting.{count}
use Rattle.bits.proofs.Counting.{count-other}
use Rattle.bits.proofs.Numbers.{eq-or-ne, lt-or-le, from_bits-cong, from_bits-lt, test_bit-from_bits}
use Rattle.bits.proofs.Xor.{xors-cong}
use Rattle.circuit.specs.Circuit.{Gate, xor, and, inv, put, ands}
use Rattle.circuit.specs.Fields as fields
use Rattle.circuit.specs.File.{inputs_of, head_of, output_wire, gates_in_order, circuit_of}
use Rattle.circuit.specs.Meaning.{writes}
use Rattle.circuit.specs.declared.Sizes.{Sizes}
use Rattle.circuit.proofs.Answered.{gates-count}
use Rattle.circuit.proofs.Run.{output-low}
use Rattle.circuit.proofs.Wires.{gates-once}
use Rattle.plain.specs.Run.{Column, next, corrected, broadcast, Channel, as_sent, as_shown, Transcript, outputs, run}
use Rattle.plain.specs.Tapes.{input_masks, output_masks, product_shares}
use Rattle.plain.specs.Showing.{run_with, row_bits}
use Rattle.words.specs.Words.{place}
use Rattle.words.proofs.Columns.{word-delivered}
use Rattle.packing.specs.Packed.{words, WordTranscript, packed_run}
use Rattle.packing.proofs.Agree.{Delivers, in_words, packed-run}
use Rattle.planes.specs.Steps as planes
use Rattle.planes.specs.Steps.{tape_words, mask_word, share, tape, masked}
use Rattle.gates.proofs.Holding.{put_same, put_other, Holds}
use Rattle.walk.specs.Steps.{layout_of, Lent, gates_run, outputs_run, values_run}
use Rattle.walk.proofs.Turns.{reads-good, outputs-good, fit, gates-all, chain-good, all-wired}
use Rattle.walk.proofs.Walking.{shown_by, written, Gives, walk-gives}

-- what was written stays so
put_keeps : (f : ℕ → Bool) (c w : ℕ) → f w ≡ true → put f c true w ≡ true
put_keeps f c w t = ⊎_elim (λ e. put_same f c true w e) (λ d. put_other f c true w d ∙ t) (eq-or-ne w c)

written_keeps : (gs : List Gate) (live : ℕ → Bool) (w : ℕ) → live w ≡ true → written live gs w ≡ true
unfolding written
written_keeps [] live w t = t
written_keeps (xor a b c ∷ gs) live w t = written_keeps gs _ w (put_keeps live c w t)
written_keeps (and a b c ∷ gs) live w t = written_keeps gs _ w (put_keeps live c w t)
written_keeps (inv a c ∷ gs) live w t = written_keeps gs _ w (put_keeps live c w t)

-- a wire that a gate writes is written
written-by : (gs : List Gate) (live : ℕ → Bool) (w : ℕ) → 1 ≤ count w (writes gs) → written live gs w ≡ true
unfolding written writes count
written-by [] live w h = absurd (omega arith)
written-by (xor a b c ∷ gs) live w h =
    ⊎_elim
    (λ e. written_keeps gs (put live c true) w (put_same live c true w e))
    (λ d. written-by gs (put live c true) w (rw (count-other w c (writes gs) d) at h))
    (eq-or-ne w c)
written-by (and a b c ∷ gs) live w h =
    ⊎_elim
    (λ e. written_keeps gs (put live c true) w (put_same live c true w e))
    (λ d. written-by gs (put live c true) w (rw (count-other w c (writes gs) d) at h))
    (eq-or-ne w c)
written-by (inv a c ∷ gs) live w h =
    ⊎_elim
    (λ e. written_keeps gs (put live c true) w (put_same live c true w e))
    (λ d. written-by gs (put live c true) w (rw (count-other w c (writes gs) d) at h))
    (eq-or-ne w c)

-- a legal file with its memory
module _ (s : List ℕ) (z : Sizes) (mem y : List ℕ) (lent : Lent s z mem y) where
  -- its wires are inputs or written by its gates
  pub all-written : (w : ℕ) → w < (layout_of z).wires → written (λ k. ltb k (inputs_of s)) (gates_in_order s) w ≡ true
  all-written w h =
      let l = lent.legal.laid in
      ⊎_elim
      (λ a. written_keeps (gates_in_order s) (λ k. ltb k (inputs_of s)) w (lt-ltb w (inputs_of s) a))
      (λ a.
      let e : w < inputs_of s + length (gates_in_order s) = omega (arith, gates-count s, l.inputs, l.gates) in
      let n = gates-once s lent.legal.chain w a e in
      written-by (gates_in_order s) (λ k. ltb k (inputs_of s)) w (omega (arith, n)))
      (lt-or-le w (inputs_of s))

  pub output-wire : (j : ℕ) → j < z.outputs → output_wire s j < (layout_of z).wires
  output-wire j h = omega (arith, output-low s z.outputs j (outputs-good s z mem y lent) h, fit s z mem y lent)

  -- the run on words
  pub run-words : (hidden : ℕ) (past rest o p w : ℕ → ℕ) (m : ℕ → Bool) → Holds (layout_of z) 0 mem (λ k. ltb k (inputs_of s)) past rest o p w m
      → Gives (layout_of z) hidden s 0 (gates_run s z hidden mem) past rest
      (packed_run 64 (tabulate z.outputs (output_wire s)) (gates_in_order s) o p (shown_by hidden p) w m)
  unfolding gates_run
  run-words hidden past rest o p w m holds =
      let all = gates-all s z mem y lent in
      let gives = walk-gives (layout_of z) hidden s output-wire (fit s z mem y lent) z.gates (head_of s) 0
      (chain-good s z mem y lent) (all-wired s z mem y lent) (zero-add _ ∙ ap ands all ∙ sym lent.ands) mem (λ k. ltb k (inputs_of s)) past rest o p w m in
      (rw all at gives) (reads-good s z mem y lent) (λ j h. all-written (output_wire s j) (output-wire j h)) holds

-- what is delivered of the parties below n: of p the bit of its row, of the others what they broadcast
abbrev pub Hides : ℕ → ℕ → (ℕ → Bool) → Channel → Type 0
Hides n p row h = (t : ℕ) (x : Column) (i : ℕ) → i < n → h t x i ≡ put x p (row t) i

-- nobody is hidden
pub hides-none : (n p : ℕ) (row : ℕ → Bool) → n ≤ p → Hides n p row as_sent
hides-none n p row h t x i l = sym (put_other x p (row t) i (omega arith))

-- party p is hidden
pub hides-shown : (n p : ℕ) (row : ℕ → Bool) → Hides n p row (as_shown p row)
hides-shown n p row t x i l = refl

-- one broadcast more, and one output more
abbrev more : ℕ → WordTranscript → WordTranscript
more x r = record { broadcasts = x ∷ r.broadcasts; output = r.output }

abbrev value : ℕ → Bool → WordTranscript → WordTranscript
value x b r = record { broadcasts = x ∷ r.broadcasts; output = b ∷ r.output }

-- a run does not depend on the hidden party's product shares, nor on what is delivered of parties that there are not
module _ (n p : ℕ) where
  outputs-alike : (outs : List ℕ) (row : ℕ → Bool) (h k : Channel) (s : ℕ → Column) (m : ℕ → Bool) → Hides n p row h → Hides n p row k
      → in_words n (outputs n outs h s m) ≡ in_words n (outputs n outs k s m)
  unfolding outputs
  outputs-alike [] row h k s m d e = refl
  outputs-alike (w ∷ ws) row h k s m d e =
      let same : (i : ℕ) → i < n → h 0 (s w) i ≡ k 0 (s w) i = λ i l. d 0 (s w) i l ∙ sym (e 0 (s w) i l) in
      let x : from_bits n (h 0 (s w)) ≡ from_bits n (k 0 (s w)) = from_bits-cong n (h 0 (s w)) (k 0 (s w)) same in
      let b : m w ⊕ xors n (h 0 (s w)) ≡ m w ⊕ xors n (k 0 (s w)) = ap (λ (c : Bool). m w ⊕ c) (xors-cong n (h 0 (s w)) (k 0 (s w)) same) in
      ap₂ (λ (v : ℕ) (c : Bool). value v c (in_words n (outputs n ws (next h) s m))) x b
      ∙ ap (value (from_bits n (k 0 (s w))) (m w ⊕ xors n (k 0 (s w)))) (outputs-alike ws (next row) (next h) (next k) s m (λ t. d (suc t)) (λ t. e (suc t)))

  pub run-alike : (outs : List ℕ) (gs : List Gate) (row : ℕ → Bool) (o y z : ℕ → Column) (h k : Channel) (s : ℕ → Column) (m : ℕ → Bool)
      → Hides n p row h → Hides n p row k → ((t i : ℕ) → t < ands gs → i < n → i ≢ p → y t i ≡ z t i)
      → in_words n (run n outs gs o y h s m) ≡ in_words n (run n outs gs o z k s m)
  unfolding run ands broadcast
  run-alike outs [] row o y z h k s m d e same = outputs-alike outs row h k s m d e
  run-alike outs (xor a b c ∷ gs) row o y z h k s m d e same = run-alike outs gs row o y z h k _ _ d e same
  run-alike outs (and a b c ∷ gs) row o y z h k s m d e same =
      let u : Column = broadcast (m a) (m b) (s a) (s b) (y 0) (o 0) in
      let v : Column = broadcast (m a) (m b) (s a) (s b) (z 0) (o 0) in
      let cols : (i : ℕ) → i < n → h 0 u i ≡ k 0 v i = λ i l.
      d 0 u i l
      ∙ ⊎_elim
      (λ q. put_same u p (row 0) i q ∙ sym (put_same v p (row 0) i q))
      (λ q. put_other u p (row 0) i q
      ∙ ap (λ (x : Bool). ((m a && s b i) ⊕ (m b && s a i)) ⊕ x ⊕ o 0 i) (same 0 i (omega arith) l q) ∙ sym (put_other v p (row 0) i q))
      (eq-or-ne i p)
      ∙ sym (e 0 v i l) in
      let x : from_bits n (h 0 u) ≡ from_bits n (k 0 v) = from_bits-cong n (h 0 u) (k 0 v) cols in
      let b' : xors n (h 0 u) ≡ xors n (k 0 v) = xors-cong n (h 0 u) (k 0 v) cols in
      ap₂ (λ (w : ℕ) (q : Bool). more w (in_words n (run n outs gs (next o) (next y) (next h) (put s c (o 0)) (put m c ((m a && m b) ⊕ q))))) x b'
      ∙ ap (more (from_bits n (k 0 v)))
      (run-alike outs gs (next row) (next o) (next y) (next z) (next h) (next k) _ _ (λ t. d (suc t)) (λ t. e (suc t)) (λ t i l. same (suc t) i (omega arith)))
  run-alike outs (inv a c ∷ gs) row o y z h k s m d e same = run-alike outs gs row o y z h k _ _ d e same

-- no bits
abbrev pub blank : Column
blank i = false

-- the memory before the run of n parties, party p hidden (none where p is n or more): the input masks in the shares of the inputs, the
-- masked inputs m, the output masks; the product shares, with the corrections cs as party n − 1's; and at party p's place in them, and
-- in the words after them, its row
pub record Loaded (s : List ℕ) (z : Sizes) (n p : ℕ) (tapes : List ℕ) (cs row m : ℕ → Bool) (mem : List ℕ) : Type 0 where
  pub shares : (w : ℕ) → w < z.inputs → share mem w ≡ from_bits n (input_masks (circuit_of s) tapes w)
  pub values : (w : ℕ) → w < z.inputs → odd (masked (layout_of z) mem w) ≡ m w
  pub masks : (t : ℕ) → t < z.ands → tape (layout_of z) mem (mask_word (layout_of z) t) ≡ from_bits n (output_masks (circuit_of s) tapes t)
  pub products : (t : ℕ) → t < z.ands
      → tape (layout_of z) mem (planes.broadcast_word (layout_of z) t) ≡ from_bits n (put (corrected n cs (product_shares (circuit_of s) tapes) t) p (row t))
  pub outputs : (v : ℕ) → z.ands ≤ v → v < z.ands + z.outputs
      → tape (layout_of z) mem (planes.broadcast_word (layout_of z) v) ≡ from_bits n (put blank p (row v))

-- the memory after it holds the transcript r: the words of the broadcasts, so that bit i is that of party i's row; the tape words after
-- them are as before; and the outputs' values are its output
pub record Ran (s : List ℕ) (z : Sizes) (n hidden : ℕ) (mem : List ℕ) (r : Transcript) : Type 0 where
  pub count : length r.broadcasts ≡ z.ands + z.outputs
  pub broadcasts : (v : ℕ) → v < z.ands + z.outputs
      → tape (layout_of z) (outputs_run s z hidden mem) (planes.broadcast_word (layout_of z) v) ≡ from_bits n (get_or r.broadcasts v blank)
  pub rows : (i v : ℕ) → i < n → v < z.ands + z.outputs
      → test_bit (tape (layout_of z) (outputs_run s z hidden mem) (planes.broadcast_word (layout_of z) v)) i ≡ get_or (row_bits r i) v false
  pub after : (v : ℕ) → z.ands + z.outputs ≤ v → planes.broadcast_word (layout_of z) v < tape_words (layout_of z)
      → tape (layout_of z) (outputs_run s z hidden mem) (planes.broadcast_word (layout_of z) v) ≡ tape (layout_of z) mem (planes.broadcast_word (layout_of z) v)
  pub output : values_run s z hidden mem ≡ r.output

-- an element of a list seen through a function
pub get_d_map : {A B : Type 0} (f : A → B) (d : A) (e : B) (l : List A) (v : ℕ) → v < length l → get_or (map f l) v e ≡ f (get_or l v d)
get_d_map f d e [] v h = absurd (omega arith)
get_d_map f d e (x ∷ l) zero h = refl
get_d_map f d e (x ∷ l) (suc v) h = get_d_map f d e l v (omega arith)

pub length-map : {A B : Type 0} (f : A → B) (l : List A) → length (map f l) ≡ length l
length-map f [] = refl
length-map f (x ∷ l) = ap suc (length-map f l)

module _ (s : List ℕ) (z : Sizes) (mem y : List ℕ) (lent : Lent s z mem y) (n p : ℕ) (wide : n ≤ 64) (tapes : List ℕ) (cs row m : ℕ → Bool)
    (loaded : Loaded s z n p tapes cs row m mem) where
  -- what stands in the places of the broadcasts
  abbrev places : ℕ → Column
  places t = put (cond (ltb t z.ands) (corrected n cs (product_shares (circuit_of s) tapes) t) blank) p (row t)

  place-products : (t : ℕ) → t < z.ands → places t ≡ put (corrected n cs (product_shares (circuit_of s) tapes) t) p (row t)
  place-products t h = rw (lt-ltb t z.ands h)

  place-outputs : (t : ℕ) → z.ands ≤ t → places t ≡ put blank p (row t)
  place-outputs t h = rw (le-ltb t z.ands h)

  -- words of n parties have 64 bits
  small : (f : ℕ → Column) (k : ℕ) → words n f k < 2 ^ 64
  small f k = lt_of_lt_of_le (from_bits-lt n (f k)) (pow_mono wide)

  holds : Holds (layout_of z) 0 mem (λ k. ltb k (inputs_of s)) (λ v. 0) (λ v. tape (layout_of z) mem (planes.broadcast_word (layout_of z) v))
      (words n (output_masks (circuit_of s) tapes)) (words n places) (words n (input_masks (circuit_of s) tapes)) m
  holds =
      let i = lent.legal.laid.inputs in
      record {
        room = lent.memory;
        count = omega arith;
        shares = λ w h a. loaded.shares w (omega (arith, ltb-true w (inputs_of s) a, i));
        values = λ w h a. loaded.values w (omega (arith, ltb-true w (inputs_of s) a, i));
        masks = λ v u e h. let q : v ≡ u = omega arith in rw q (loaded.masks u (omega arith));
        products = λ v u e h.
            let q : v ≡ u = omega arith in
            rw q
            (⊎_elim
            (λ a. loaded.products u a ∙ ap (from_bits n) (sym (place-products u a)))
            (λ a. loaded.outputs u a (omega arith) ∙ ap (from_bits n) (sym (place-outputs u a)))
            (lt-or-le u z.ands));
        broadcasts = λ v h. absurd (omega arith);
        after = λ v h g. refl;
        small-shares = small (input_masks (circuit_of s) tapes);
        small-masks = small (output_masks (circuit_of s) tapes);
        small-products = small places;
      }

  -- at party p's place the word shown is delivered
  delivers : Delivers n (shown_by (place 64 p) (words n places)) (as_shown p row)
  unfolding put
  delivers t x =
      word-delivered 64 n p (from_bits n (places t)) x wide (from_bits-lt n (places t))
      ∙ from_bits-cong n (λ i. cond (eqb i p) (test_bit (from_bits n (places t)) p) (x i)) (put x p (row t))
      (λ i l. ⊎_elim
      (λ e. rw (eq-eqb i p e) (test_bit-from_bits n (places t) p (omega arith) ∙ rw (eq-eqb p p refl)))
      (λ e. rw (ne_eqb i p e))
      (eq-or-ne i p))

  -- the run on words is the run on bits
  module _ (h : Channel) (hides : Hides n p row h) where
    abbrev ran : Transcript
    ran = run_with (circuit_of s) n tapes cs m h

    run-same : packed_run 64 (tabulate z.outputs (output_wire s)) (gates_in_order s) (words n (output_masks (circuit_of s) tapes)) (words n places)
        (shown_by (place 64 p) (words n places)) (words n (input_masks (circuit_of s) tapes)) m
        ≡ in_words n ran
    unfolding run_with fields.circuit_of
    run-same =
        let o = output_masks (circuit_of s) tapes in
        let w = input_masks (circuit_of s) tapes in
        let x = corrected n cs (product_shares (circuit_of s) tapes) in
        packed-run 64 n wide (tabulate z.outputs (output_wire s)) (gates_in_order s) o places (shown_by (place 64 p) (words n places)) (as_shown p row) w m delivers
        ∙ run-alike n p (tabulate z.outputs (output_wire s)) (gates_in_order s) row o places x (as_shown p row) h w m (hides-shown n p row) hides
        (λ t i a b d. ap (λ (f : Column). f i) (place-products t (omega (arith, lent.ands))) ∙ put_other (x t) p (row t) i d)
        ∙ ap (λ (k : ℕ). in_words n (run n (tabulate k (output_wire s)) (gates_in_order s) o x h w m)) lent.legal.laid.outputs

    -- so the memory gives it
    gives : Gives (layout_of z) (place 64 p) s 0 (gates_run s z (place 64 p) mem) (λ v. 0)
        (λ v. tape (layout_of z) mem (planes.broadcast_word (layout_of z) v)) (in_words n ran)
    gives = rw run-same at (run-words s z mem y lent (place 64 p) _ _ _ _ _ m holds)

    sent : length ran.broadcasts ≡ z.ands + z.outputs
    sent = sym (length-map (from_bits n) ran.broadcasts) ∙ omega (arith, gives.columns)

    broadcast-word : (v : ℕ) → v < z.ands + z.outputs
        → tape (layout_of z) (outputs_run s z (place 64 p) mem) (planes.broadcast_word (layout_of z) v) ≡ from_bits n (get_or ran.broadcasts v blank)
    unfolding outputs_run
    broadcast-word v h = gives.broadcasts v v (omega arith) h ∙ get_d_map (from_bits n) blank 0 ran.broadcasts v (omega (arith, sent))

    row-bit : (i v : ℕ) → v < z.ands + z.outputs → get_or (row_bits ran i) v false ≡ get_or ran.broadcasts v blank i
    unfolding row_bits
    row-bit i v h = get_d_map (λ (x : Column). x i) blank false ran.broadcasts v (omega (arith, sent))

    after-word : (v : ℕ) → z.ands + z.outputs ≤ v → planes.broadcast_word (layout_of z) v < tape_words (layout_of z)
        → tape (layout_of z) (outputs_run s z (place 64 p) mem) (planes.broadcast_word (layout_of z) v) ≡ tape (layout_of z) mem (planes.broadcast_word (layout_of z) v)
    unfolding outputs_run
    after-word = gives.after

    values : values_run s z (place 64 p) mem ≡ ran.output
    unfolding values_run
    values = gives.output

    pub run-agrees : Ran s z n (place 64 p) mem ran
    run-agrees = record {
      count = sent;
      broadcasts = broadcast-word;
      rows = λ i v hi h.
          ap (λ (x : ℕ). test_bit x i) (broadcast-word v h) ∙ test_bit-from_bits n (get_or ran.broadcasts v blank) i hi ∙ sym (row-bit i v h);
      after = after-word;
      output = values;
    }
