-- The planes that the run begins with: the words of the tapes, and the inputs with their masks.
-- Assumes nothing.
use mathlib.Core.Path.{◌≡◌, refl, sym, ap, ap₂, ◌∙◌}
use mathlib.Core.Bool.{Bool}
use mathlib.Core.List.{List}
use mathlib.Core.Logic.{⊎_elim}
use Prim.Native.Nat.{ℕ, zero, suc, ◌+◌, ◌-◌, ◌*◌, ◌≤◌, ◌<◌}
use native.Mathlib.Omega.{arith}
use borrow.Author.Tests.{eq-eqb, ne_eqb}
use lib.ListN.{length, get_or, take, drop, replicate, length-drop, length-replicate}
use lib.Seq.{length-sets, length-take-le, get_or-drop}
use Rattle.bits.specs.Bits.{tabulate, oct, bit_at, from_bits, pack}
use Rattle.bits.specs.Bytes.{row_of}
use Rattle.bits.specs.Xor.{◌⊕◌}
use Rattle.bits.proofs.Numbers.{eq-or-ne}
use Rattle.bits.proofs.Tabulate.{tabulate-cong}
use Rattle.circuit.specs.File.{circuit_of}
use Rattle.circuit.specs.declared.Sizes.{Sizes}
use Rattle.masks.proofs.Parts.{drop-sets}
use Rattle.plain.specs.Tapes.{input_masks}
use Rattle.plain.specs.Showing.{masked_input, masked_inputs}
use Rattle.words.specs.Words.{parity}
use Rattle.words.proofs.Folds.{word-mask}
use Rattle.planes.specs.Steps.{tape_words, planes_end, corrections_at, rows_at, broadcast_word, Room, share, put_share, tape, masked, loaded_rows}
use Rattle.planes.specs.declared.Layout.{Layout}
use Rattle.planes.proofs.Held.{share-length, share_other, masked-length, masked-other, rows-loaded}
use Rattle.planes.proofs.Views.{share-share, share-masked, tape-share, tape-masked, masked-share, masked-masked}
use Rattle.gates.proofs.Steps.{room-kept}
use Rattle.walk.specs.Steps.{layout_of}
use Rattle.packed.specs.Steps.{words_cleared, masked_bit, tape_bytes, tapes_held, Held}
use Rattle.packed.proofs.Loads.{Low, second-length, second_word, second-zero, second-low, before-held}
use Rattle.packed.proofs.Runs.{Given, inputs_are, input-column}
use Rattle.correcting.specs.Steps.{wire_byte, corrections_cleared, tapes_loaded, masks_loaded, begun}

-- what stands from place k on
pub held_at : (k : ℕ) (s t : List ℕ) → drop k s ≡ drop k t → (j : ℕ) → k ≤ j → get_or s j 0 ≡ get_or t j 0
held_at k s t e j h =
    let d : k + (j - k) ≡ j = omega arith in
    ap (λ (i : ℕ). get_or s i 0) (sym d) ∙ sym (get_or-drop k s (j - k) 0) ∙ ap (λ (x : List ℕ). get_or x (j - k) 0) e ∙ get_or-drop k t (j - k) 0
    ∙ ap (λ (i : ℕ). get_or t i 0) d

-- wires loaded
module _ (l : Layout) (values m : List ℕ) (room : planes_end l ≤ length m) (low : Low l m) where
  abbrev in· : ℕ → List ℕ
  in· c = masks_loaded l c values m

  abbrev half : ℕ → List ℕ
  half c = put_share c (tape l (in· c) c) (in· c)

  masks-length : (c : ℕ) → length (in· c) ≡ length m
  unfolding masks_loaded
  masks-length zero = refl
  masks-length (suc c) = masked-length l (half c) c _ ∙ share-length l (in· c) c (tape l (in· c) c) ∙ masks-length c

  half_room : (c : ℕ) → planes_end l ≤ length (half c)
  half_room c = omega (arith, masks-length c, share-length l (in· c) c (tape l (in· c) c))

  masks-tape : (c q : ℕ) → c ≤ l.wires → q < tape_words l → tape l (in· c) q ≡ tape l m q
  unfolding masks_loaded
  masks-tape zero q h d = refl
  masks-tape (suc c) q h d =
      tape-masked l (half c) (half_room c) c _ (omega arith) q d
      ∙ tape-share l (in· c) (omega (arith, masks-length c)) c _ (omega arith) q ∙ masks-tape c q (omega arith) d

  masks-share : (c w : ℕ) → c ≤ l.wires → c ≤ tape_words l → w < c → share (in· c) w ≡ tape l m w
  unfolding masks_loaded
  masks-share zero w h g d = absurd (omega arith)
  masks-share (suc c) w h g d =
      let same = masks-tape c c (omega arith) (omega arith) in
      share-masked l (half c) (half_room c) c _ (omega arith) w (omega arith)
      ∙ share-share l (in· c) (omega (arith, masks-length c)) c (tape l (in· c) c) (omega arith) (rw same (low c (omega arith))) w
      ∙ ⊎_elim
      (λ e. rw (eq-eqb w c e, e) same)
      (λ e. rw (ne_eqb w c e) (masks-share c w (omega arith) (omega arith) (omega arith)))
      (eq-or-ne w c)

  masks-masked : (c w : ℕ) → c ≤ l.wires → c ≤ tape_words l → w < c → masked l (in· c) w ≡ wire_byte (bit_at values w) (parity 64 (tape l m w))
  unfolding masks_loaded
  masks-masked zero w h g d = absurd (omega arith)
  masks-masked (suc c) w h g d =
      masked-masked l (half c) (half_room c) c _ (omega arith) w
      ∙ ⊎_elim
      (λ e. rw (eq-eqb w c e, e) (ap (λ (x : ℕ). wire_byte (bit_at values c) (parity 64 x)) (masks-tape c c (omega arith) (omega arith))))
      (λ e. rw (ne_eqb w c e) (masked-share l (in· c) (omega (arith, masks-length c)) c _ (omega arith) w ∙ masks-masked c w (omega arith) (omega arith) (omega arith)))
      (eq-or-ne w c)

  masks-other : (c : ℕ) → c ≤ l.wires → (j : ℕ) → planes_end l ≤ j → get_or (in· c) j 0 ≡ get_or m j 0
  unfolding masks_loaded
  masks-other zero h j a = refl
  masks-other (suc c) h j a =
      masked-other l (half c) c _ (omega arith) j a ∙ share_other l (in· c) c _ (omega arith) j a ∙ masks-other c (omega arith) j a

-- only the rows' own bytes are read
pub tapes-held : (l : Layout) (n len : ℕ) (m : List ℕ) → tapes_loaded l n (drop (rows_at l) m) len m ≡ tapes_loaded l n (take (n * len) (drop (rows_at l) m)) len m
unfolding tapes_loaded loaded_rows
tapes-held l n len m = ap (words_cleared l (broadcast_word l l.ands) (l.outputs + 7)) (rows-loaded l m n len)

-- a memory that holds the tapes
module _ (s : List ℕ) (z : Sizes) (n : ℕ) (m : List ℕ) (held : Held s z n m) where
  abbrev l : Layout
  l = layout_of z

  abbrev tapes : List ℕ
  tapes = tapes_held z n m

  abbrev zeroed : List ℕ
  zeroed = corrections_cleared (layout_of z) m

  pub zeroed-length : length zeroed ≡ length m
  unfolding corrections_cleared
  zeroed-length = length-sets m (corrections_at (layout_of z)) (replicate (oct z.ands) 0)

  zeroed-after : drop (rows_at l) zeroed ≡ drop (rows_at l) m
  unfolding corrections_cleared
  zeroed-after = drop-sets (replicate (oct z.ands) 0) m (corrections_at l) (rows_at l) (omega (arith, length-replicate {A = ℕ} (oct z.ands) 0))

  tapes_fit : length tapes ≡ n * tape_bytes z
  tapes_fit = length-take-le (n * tape_bytes z) (drop (rows_at l) m) (omega (arith, length-drop (rows_at l) m, held.rows))

  pub given : Given s z n tapes zeroed
  given = record {
    legal = held.legal;
    ands = held.ands;
    some = held.some;
    few = held.few;
    room = room-kept l m zeroed zeroed-length held.room;
    tapes_fit = tapes_fit;
  }

  -- the words of the tapes
  abbrev words : List ℕ
  words = tapes_loaded (layout_of z) n (tapes_held z n m) (tape_bytes z) (corrections_cleared (layout_of z) m)

  words-length : length words ≡ length m
  unfolding tapes_loaded
  words-length =
      second-length l n (tape_bytes z) tapes tapes zeroed given.room.room held.some held.few (omega (arith, tapes_fit)) (omega arith) (omega arith) ∙ zeroed-length

  tape-word : (q : ℕ) → q < z.inputs + 2 * z.ands → tape l words q ≡ from_bits n (λ i. bit_at (row_of tapes (tape_bytes z) i) q)
  unfolding tapes_loaded
  tape-word = second_word l n (tape_bytes z) tapes tapes zeroed given.room.room held.some held.few (omega (arith, tapes_fit)) (omega arith) (omega arith)

  tape-zero : (q : ℕ) → z.inputs + 2 * z.ands ≤ q → q < tape_words l → tape l words q ≡ 0
  unfolding tapes_loaded
  tape-zero = second-zero l n (tape_bytes z) tapes tapes zeroed given.room.room held.some held.few (omega (arith, tapes_fit)) (omega arith) (omega arith)

  tape-low : Low l words
  unfolding tapes_loaded
  tape-low = second-low l n (tape_bytes z) tapes tapes zeroed given.room.room held.some held.few (omega (arith, tapes_fit)) (omega arith) (omega arith)

  words-after : drop (planes_end l) words ≡ drop (planes_end l) zeroed
  unfolding tapes_loaded
  words-after = before-held l n (tape_bytes z) zeroed given.room.room held.few (omega arith) tapes

  words-room : planes_end l ≤ length words
  words-room = omega (arith, words-length, held.room.room)

  -- what the step of loading them asks, of a memory as long
  pub tapes-asked : (k : Layout) (len : ℕ) → k ≡ layout_of z → len ≡ tape_bytes z → (a : List ℕ) → length a ≡ length m
      → Room k a × ((n ≤ 64) × ((rows_at k + n * len ≤ length a) × (8 * len ≤ k.inputs + 2 * k.ands + 7)))
  tapes-asked k len e d a q = rw (e, d) (room-kept l m a q held.room, (held.few, (rw q held.rows, omega arith)))

  -- as the code loads them
  pub words-done : (k : Layout) (len : ℕ) (a v : List ℕ) → k ≡ layout_of z → len ≡ tape_bytes z → a ≡ corrections_cleared k m
      → v ≡ tapes_loaded k n (drop (rows_at k) a) len a → v ≡ words
  words-done k len a v ek el ea ev =
      ev ∙ ap₂ (λ (x : Layout) (y : ℕ). tapes_loaded x n (drop (rows_at x) a) y a) ek el
      ∙ ap (λ (x : List ℕ). tapes_loaded l n (drop (rows_at l) x) (tape_bytes z) x) (ea ∙ ap (λ (x : Layout). corrections_cleared x m) ek)
      ∙ tapes-held l n (tape_bytes z) zeroed ∙ ap (λ (x : List ℕ). tapes_loaded l n (take (n * tape_bytes z) x) (tape_bytes z) zeroed) zeroed-after

  -- the masked inputs of a witness
  pub inputs-masked : (k : Layout) (witness a v : List ℕ) → k ≡ layout_of z → a ≡ words → v ≡ pack (tabulate z.inputs (masked_bit k witness a))
      → v ≡ masked_inputs (circuit_of s) n witness tapes
  unfolding masked_bit masked_input masked_inputs
  inputs-masked k witness a v ek ea ev =
      ev ∙ ap₂ (λ (x : Layout) (y : List ℕ). pack (tabulate z.inputs (masked_bit x witness y))) ek ea
      ∙ ap pack
      (tabulate-cong z.inputs (masked_bit l witness words) (masked_input (circuit_of s) n witness tapes)
      (λ w h.
      ap (λ (b : Bool). bit_at witness w ⊕ b)
      (ap (parity 64) (tape-word w (omega arith) ∙ input-column s z n tapes tapes zeroed given w h) ∙ word-mask 64 n (input_masks (circuit_of s) tapes w) held.few))
      ∙ ap (λ (i : ℕ). tabulate i (masked_input (circuit_of s) n witness tapes)) (sym (inputs_are s z n tapes tapes zeroed given)))

  pub begun-done : (k : Layout) (a u v r : List ℕ) → k ≡ layout_of z → a ≡ words → u ≡ v → r ≡ masks_loaded k z.inputs u a → r ≡ begun z n v m
  unfolding begun
  begun-done k a u v r ek ea eu er =
      er ∙ ap₂ (λ (x : Layout) (y : List ℕ). masks_loaded x z.inputs y a) ek eu ∙ ap (masks_loaded l z.inputs v) ea

  -- the memory with masked values v
  module _ (v : List ℕ) where
    pub begun-length : length (begun z n v m) ≡ length m
    unfolding begun
    begun-length = masks-length l v words words-room tape-low z.inputs ∙ words-length

    pub begun-tape : (q : ℕ) → q < tape_words l → tape l (begun z n v m) q ≡ tape l words q
    unfolding begun
    begun-tape q h = masks-tape l v words words-room tape-low z.inputs q (omega arith) h

    pub begun-word : (q : ℕ) → q < z.inputs + 2 * z.ands → tape l (begun z n v m) q ≡ from_bits n (λ i. bit_at (row_of tapes (tape_bytes z) i) q)
    begun-word q h = begun-tape q (omega arith) ∙ tape-word q h

    pub begun-zero : (q : ℕ) → z.inputs + 2 * z.ands ≤ q → q < tape_words l → tape l (begun z n v m) q ≡ 0
    begun-zero q h d = begun-tape q d ∙ tape-zero q h d

    pub begun-share : (w : ℕ) → w < z.inputs → share (begun z n v m) w ≡ from_bits n (input_masks (circuit_of s) tapes w)
    unfolding begun
    begun-share w h =
        masks-share l v words words-room tape-low z.inputs w (omega arith) (omega arith) h ∙ tape-word w (omega arith)
        ∙ input-column s z n tapes tapes zeroed given w h

    pub begun-masked : (w : ℕ) → w < z.inputs → masked l (begun z n v m) w ≡ wire_byte (bit_at v w) (parity 64 (from_bits n (input_masks (circuit_of s) tapes w)))
    unfolding begun
    begun-masked w h =
        masks-masked l v words words-room tape-low z.inputs w (omega arith) (omega arith) h
        ∙ ap (λ (x : ℕ). wire_byte (bit_at v w) (parity 64 x)) (tape-word w (omega arith) ∙ input-column s z n tapes tapes zeroed given w h)

    -- what stands after the planes
    pub begun-after : (j : ℕ) → planes_end l ≤ j → get_or (begun z n v m) j 0 ≡ get_or zeroed j 0
    unfolding begun
    begun-after j h =
        masks-other l v words words-room tape-low z.inputs (omega arith) j h ∙ held_at (planes_end l) words zeroed words-after j h

    pub begun-rows : (j : ℕ) → rows_at l ≤ j → get_or (begun z n v m) j 0 ≡ get_or m j 0
    begun-rows j h = begun-after j (omega arith) ∙ held_at (rows_at l) zeroed m zeroed-after j h
