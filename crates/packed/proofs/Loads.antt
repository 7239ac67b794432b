-- The planes after each step of loading, and each step's loop.
-- Assumes nothing.
use mathlib.Core.Path.{◌≡◌, refl, sym, ap, ap₂, ◌∙◌}
use mathlib.Core.Bool.{Bool, cond}
use mathlib.Core.List.{List}
use mathlib.Core.Logic.{◌⊎◌, inl, inr, ⊎_elim}
use Prim.Native.Nat.{ℕ, zero, suc, ◌+◌, ◌-◌, ◌*◌, ◌^◌, ◌≤◌, ◌<◌}
use native.Mathlib.Nat.{lt_of_lt_of_le}
use native.Mathlib.Numerals.{add-one}
use native.Mathlib.Omega.{arith}
use borrow.Author.Tests.{eq-eqb, ne_eqb}
use lib.Bits.{bit_xor}
use lib.Dec.{eqb}
use lib.ListN.{length, take, drop}
use lib.Pow.{pow_mono, pow_pos}
use lib.Seq.{sets, drop-drop}
use Rattle.bits.specs.Bits.{oct, test_bit, from_bits, bit_val, bit_at, odd}
use Rattle.bits.specs.Bytes.{le_at, le_bytes, row_of}
use Rattle.bits.proofs.Numbers.{eq-or-ne, lt-or-le, from_bits-lt, odd-bit_val}
use Rattle.bits.specs.Xor.{◌⊕◌}
use Rattle.bits.proofs.Bitwise.{odd-xor}
use Rattle.words.specs.Words.{parity, every, place, chosen}
use Rattle.words.proofs.Columns.{chosen-lt, every-lt, word-put}
use Rattle.planes.specs.Steps.{tape_words, tape_at, broadcast_word, planes_end, spare, corrections_at, rows_at, share, tape, masked, put_share, put_tape, put_masked, loaded_tapes, loaded_rows, put_bits, put_party}
use Rattle.planes.specs.declared.Layout.{Layout}
use Rattle.planes.proofs.Held.{loaded-length, loaded-held, party-length, share-length, tape-length, tape-held, masked-length, rows-loaded, party-part}
use Rattle.planes.proofs.Views.{share-share, tape-share, masked-share, share-tape, tape-tape, masked-tape, share-masked, tape-masked, masked-masked, tape-word}
use Rattle.packed.specs.Steps.{words_cleared, words_loaded, inputs_loaded, masked_bit, sent_bit}

-- one turn of each loop
pub cleared-none : (l : Layout) (q : ℕ) (m : List ℕ) → m ≡ words_cleared l q 0 m
unfolding words_cleared
cleared-none l q m = refl

pub cleared-turn : (l : Layout) (q t : ℕ) (w m v : List ℕ) → m ≡ words_cleared l q t w → v ≡ put_tape l (q + t) 0 m → v ≡ words_cleared l q (t + 1) w
unfolding words_cleared
cleared-turn l q t w m v e d = d ∙ ap (put_tape l (q + t) 0) e ∙ rw add-one

pub inputs-none : (l : Layout) (values m : List ℕ) → m ≡ inputs_loaded l 0 values m
unfolding inputs_loaded
inputs-none l values m = refl

pub inputs-turn : (l : Layout) (values : List ℕ) (w x b : ℕ) (m₀ m k v : List ℕ) → m ≡ inputs_loaded l w values m₀ → x ≡ tape l m w → b ≡ bit_val (bit_at values w)
    → k ≡ put_share w x m → v ≡ put_masked l w b k → v ≡ inputs_loaded l (w + 1) values m₀
unfolding inputs_loaded
inputs-turn l values w x b m₀ m k v e ex eb ek ev = rw (ev, ek, eb, ex, e, add-one)

pub masked-turn : (l : Layout) (witness m : List ℕ) (w v x y : ℕ) → v ≡ bit_val (bit_at witness w) → y ≡ tape l m w → x ≡ bit_val (parity 64 y)
    → odd (bit_xor v x) ≡ masked_bit l witness m w
unfolding masked_bit
masked-turn l witness m w v x y ev ey ex =
    odd-xor v x ∙ ap₂ ◌⊕◌ (ap odd ev ∙ odd-bit_val (bit_at witness w)) (ap odd (ex ∙ ap (λ (k : ℕ). bit_val (parity 64 k)) ey) ∙ odd-bit_val (parity 64 (tape l m w)))

pub sent-turn : (l : Layout) (m : List ℕ) (i t q x v : ℕ) → q ≡ broadcast_word l t → x ≡ tape l m q → v ≡ bit_val (test_bit x i) → odd v ≡ sent_bit l m i t
unfolding sent_bit
sent-turn l m i t q x v eq ex ev =
    ap odd ev ∙ odd-bit_val (test_bit x i) ∙ ap (λ (k : ℕ). test_bit k i) (ex ∙ ap (tape l m) eq)

-- the tape words are of 64 bits
abbrev pub Low : Layout → List ℕ → Type 0
Low l m = (q : ℕ) → q < tape_words l → tape l m q < 2 ^ 64

-- words cleared
module _ (l : Layout) (q : ℕ) (m : List ℕ) (room : planes_end l ≤ length m) where
  pub cleared-length : (c : ℕ) → length (words_cleared l q c m) ≡ length m
  unfolding words_cleared
  cleared-length zero = refl
  cleared-length (suc c) = tape-length l (words_cleared l q c m) (q + c) 0 ∙ cleared-length c

  pub cleared-held : (c : ℕ) → q + c ≤ tape_words l → drop (planes_end l) (words_cleared l q c m) ≡ drop (planes_end l) m
  unfolding words_cleared
  cleared-held zero h = refl
  cleared-held (suc c) h = tape-held l (words_cleared l q c m) (q + c) 0 (omega arith) ∙ cleared-held c (omega arith)

  pub cleared-other : (c r : ℕ) → q + c ≤ tape_words l → r < q → tape l (words_cleared l q c m) r ≡ tape l m r
  unfolding words_cleared
  cleared-other zero r h d = refl
  cleared-other (suc c) r h d =
      tape-tape l (words_cleared l q c m) (omega (arith, cleared-length c)) (q + c) 0 (omega arith) (pow_pos 64) r
      ∙ rw (ne_eqb r (q + c) (omega arith)) (cleared-other c r (omega arith) d)

  pub cleared-word : (c t : ℕ) → q + c ≤ tape_words l → t < c → tape l (words_cleared l q c m) (q + t) ≡ 0
  unfolding words_cleared
  cleared-word zero t h d = absurd (omega arith)
  cleared-word (suc c) t h d =
      tape-tape l (words_cleared l q c m) (omega (arith, cleared-length c)) (q + c) 0 (omega arith) (pow_pos 64) (q + t)
      ∙ ⊎_elim
      (λ e. rw (eq-eqb (q + t) (q + c) (omega arith)))
      (λ e. rw (ne_eqb (q + t) (q + c) (omega arith)) (cleared-word c t (omega arith) (omega arith)))
      (eq-or-ne t c)

-- a party's bits put
module _ (l : Layout) (q p : ℕ) (row m : List ℕ) (room : planes_end l ≤ length m) (low : Low l m) where
  abbrev put : ℕ → List ℕ
  put t = put_party l q p row t m

  abbrev new : ℕ → ℕ
  new t = chosen (place 64 p) (every 64 (bit_at row t)) (tape l (put t) (q + t))

  party-step : (t : ℕ) → put (suc t) ≡ put_tape l (q + t) (new t) (put t)
  unfolding put_party put_bits put_tape tape
  party-step t =
      let k : List ℕ = put_bits (tape_at l q) (place 64 p) row t m in
      let e : tape_at l q + 8 * t ≡ tape_at l (q + t) = omega arith in
      ap (λ (j : ℕ). sets k j (le_bytes 8 (chosen (place 64 p) (every 64 (bit_at row t)) (le_at 8 k j)))) e

  party-none : put 0 ≡ m
  unfolding put_party put_bits
  party-none = refl

  new-low : (c : ℕ) → q + c < tape_words l → tape l (put c) (q + c) ≡ tape l m (q + c) → new c < 2 ^ 64
  new-low c h e = chosen-lt 64 (place 64 p) (every 64 (bit_at row c)) (tape l (put c) (q + c)) (every-lt 64 (bit_at row c)) (rw e (low (q + c) h))

  pub party-other : (c r : ℕ) → q + c ≤ tape_words l → (r < q) ⊎ (q + c ≤ r) → tape l (put c) r ≡ tape l m r
  party-other zero r h d = ap (λ (k : List ℕ). tape l k r) party-none
  party-other (suc c) r h d =
      ap (λ (k : List ℕ). tape l k r) (party-step c)
      ∙ tape-tape l (put c) (omega (arith, party-length l m q p row c)) (q + c) (new c) (omega arith)
      (new-low c (omega arith) (party-other c (q + c) (omega arith) (inr (omega arith)))) r
      ∙ rw (ne_eqb r (q + c) (⊎_elim (λ a. omega arith) (λ a. omega arith) d)) (party-other c r (omega arith) (⊎_elim (λ a. inl a) (λ a. inr (omega arith)) d))

  pub party-word : (c t : ℕ) → q + c ≤ tape_words l → t < c → tape l (put c) (q + t) ≡ chosen (place 64 p) (every 64 (bit_at row t)) (tape l m (q + t))
  party-word zero t h d = absurd (omega arith)
  party-word (suc c) t h d =
      let same = party-other c (q + c) (omega arith) (inr (omega arith)) in
      ap (λ (k : List ℕ). tape l k (q + t)) (party-step c)
      ∙ tape-tape l (put c) (omega (arith, party-length l m q p row c)) (q + c) (new c) (omega arith) (new-low c (omega arith) same) (q + t)
      ∙ ⊎_elim
      (λ e. rw (eq-eqb (q + t) (q + c) (omega arith), e) (ap (chosen (place 64 p) (every 64 (bit_at row c))) same))
      (λ e. rw (ne_eqb (q + t) (q + c) (omega arith)) (party-word c t (omega arith) (omega arith)))
      (eq-or-ne t c)

  -- on the columns of n parties
  pub party-column : (c t n : ℕ) (f : ℕ → Bool) → q + c ≤ tape_words l → t < c → n ≤ 64 → p < n → tape l m (q + t) ≡ from_bits n f
      → tape l (put c) (q + t) ≡ from_bits n (λ i. cond (eqb i p) (bit_at row t) (f i))
  party-column c t n f h d wide hp e =
      party-word c t h d ∙ ap (chosen (place 64 p) (every 64 (bit_at row t))) e ∙ word-put 64 n p (bit_at row t) f wide hp

  -- the other planes
  pub party-share : (c w : ℕ) → q + c ≤ tape_words l → w < l.wires → share (put c) w ≡ share m w
  party-share zero w h d = ap (λ (k : List ℕ). share k w) party-none
  party-share (suc c) w h d =
      ap (λ (k : List ℕ). share k w) (party-step c)
      ∙ share-tape l (put c) (omega (arith, party-length l m q p row c)) (q + c) (new c) (omega arith) w d ∙ party-share c w (omega arith) d

  pub party-masked : (c w : ℕ) → q + c ≤ tape_words l → masked l (put c) w ≡ masked l m w
  party-masked zero w h = ap (λ (k : List ℕ). masked l k w) party-none
  party-masked (suc c) w h =
      ap (λ (k : List ℕ). masked l k w) (party-step c)
      ∙ masked-tape l (put c) (omega (arith, party-length l m q p row c)) (q + c) (new c) (omega arith) w ∙ party-masked c w (omega arith)

-- inputs loaded
module _ (l : Layout) (values m : List ℕ) (room : planes_end l ≤ length m) (low : Low l m) where
  abbrev in· : ℕ → List ℕ
  in· c = inputs_loaded l c values m

  pub inputs-length : (c : ℕ) → length (in· c) ≡ length m
  unfolding inputs_loaded
  inputs-length zero = refl
  inputs-length (suc c) = masked-length l (put_share c (tape l (in· c) c) (in· c)) c (bit_val (bit_at values c)) ∙ share-length l (in· c) c (tape l (in· c) c) ∙ inputs-length c

  pub inputs-tape : (c q : ℕ) → c ≤ l.wires → q < tape_words l → tape l (in· c) q ≡ tape l m q
  unfolding inputs_loaded
  inputs-tape zero q h d = refl
  inputs-tape (suc c) q h d =
      tape-masked l (put_share c (tape l (in· c) c) (in· c)) (omega (arith, inputs-length c, share-length l (in· c) c (tape l (in· c) c))) c _ (omega arith) q d
      ∙ tape-share l (in· c) (omega (arith, inputs-length c)) c _ (omega arith) q ∙ inputs-tape c q (omega arith) d

  pub inputs-share : (c w : ℕ) → c ≤ l.wires → c ≤ tape_words l → w < c → share (in· c) w ≡ tape l m w
  unfolding inputs_loaded
  inputs-share zero w h g d = absurd (omega arith)
  inputs-share (suc c) w h g d =
      let same = inputs-tape c c (omega arith) (omega arith) in
      share-masked l (put_share c (tape l (in· c) c) (in· c)) (omega (arith, inputs-length c, share-length l (in· c) c (tape l (in· c) c))) c _ (omega arith) w (omega arith)
      ∙ share-share l (in· c) (omega (arith, inputs-length c)) c (tape l (in· c) c) (omega arith) (rw same (low c (omega arith))) w
      ∙ ⊎_elim
      (λ e. rw (eq-eqb w c e, e) same)
      (λ e. rw (ne_eqb w c e) (inputs-share c w (omega arith) (omega arith) (omega arith)))
      (eq-or-ne w c)

  pub inputs-masked : (c w : ℕ) → c ≤ l.wires → w < c → masked l (in· c) w ≡ bit_val (bit_at values w)
  unfolding inputs_loaded
  inputs-masked zero w h d = absurd (omega arith)
  inputs-masked (suc c) w h d =
      masked-masked l (put_share c (tape l (in· c) c) (in· c)) (omega (arith, inputs-length c, share-length l (in· c) c (tape l (in· c) c))) c (bit_val (bit_at values c)) (omega arith) w
      ∙ ⊎_elim
      (λ e. rw (eq-eqb w c e, e))
      (λ e. rw (ne_eqb w c e) (masked-share l (in· c) (omega (arith, inputs-length c)) c _ (omega arith) w ∙ inputs-masked c w (omega arith) (omega arith)))
      (eq-or-ne w c)

-- the tape words of n parties, with the corrections as party n − 1's product shares
module _ (l : Layout) (n len : ℕ) (tapes cs m : List ℕ) (room : planes_end l ≤ length m) (some : 1 ≤ n) (wide : n ≤ 64) (fits : n * len ≤ length tapes)
    (low : 8 * len ≤ l.inputs + 2 * l.ands + 7) (high : l.inputs + 2 * l.ands ≤ 8 * len) where
  kept : length (loaded_tapes l n tapes len m) ≡ length m
  kept = loaded-length l m n tapes len

  abbrev first : List ℕ
  first = loaded_tapes l n tapes len m

  abbrev second : List ℕ
  second = words_cleared l (broadcast_word l l.ands) (l.outputs + 7) first

  pub second-length : length second ≡ length m
  second-length = cleared-length l (broadcast_word l l.ands) first (omega (arith, kept)) (l.outputs + 7) ∙ kept

  pub second_word : (q : ℕ) → q < l.inputs + 2 * l.ands → tape l second q ≡ from_bits n (λ i. bit_at (row_of tapes len i) q)
  second_word q h =
      cleared-other l (broadcast_word l l.ands) first (omega (arith, kept)) (l.outputs + 7) q (omega arith) (omega arith)
      ∙ tape-word l m room n tapes len wide fits (omega arith) q (omega arith)

  pub second-zero : (q : ℕ) → l.inputs + 2 * l.ands ≤ q → q < tape_words l → tape l second q ≡ 0
  second-zero q h d =
      let t : ℕ = q - (l.inputs + 2 * l.ands) in
      let e : q ≡ broadcast_word l l.ands + t = omega arith in
      rw e (cleared-word l (broadcast_word l l.ands) first (omega (arith, kept)) (l.outputs + 7) t (omega arith) (omega arith))

  pub second-low : Low l second
  second-low q h =
      ⊎_elim
      (λ a. rw (second_word q a) (lt_of_lt_of_le (from_bits-lt n (λ i. bit_at (row_of tapes len i) q)) (pow_mono wide)))
      (λ a. rw (second-zero q a h) (pow_pos 64))
      (lt-or-le q (l.inputs + 2 * l.ands))

  abbrev loaded : List ℕ
  loaded = words_loaded l n tapes len cs m

  pub words-length : length loaded ≡ length m
  unfolding words_loaded
  words-length = party-length l second (broadcast_word l 0) (n - 1) cs l.ands ∙ second-length

  -- input masks and output masks
  pub words-mask : (q : ℕ) → q < l.inputs + l.ands → tape l loaded q ≡ from_bits n (λ i. bit_at (row_of tapes len i) q)
  unfolding words_loaded
  words-mask q h =
      party-other l (broadcast_word l 0) (n - 1) cs second (omega (arith, second-length)) second-low l.ands q (omega arith) (inl (omega arith))
      ∙ second_word q (omega arith)

  -- product shares
  pub words_product : (t : ℕ) → t < l.ands
      → tape l loaded (broadcast_word l t) ≡ from_bits n (λ i. cond (eqb i (n - 1)) (bit_at cs t) (bit_at (row_of tapes len i) (broadcast_word l t)))
  unfolding words_loaded
  words_product t h =
      let e : broadcast_word l t ≡ broadcast_word l 0 + t = omega arith in
      rw e
      (party-column l (broadcast_word l 0) (n - 1) cs second (omega (arith, second-length)) second-low l.ands t n _ (omega arith) h wide (omega arith)
      (second_word (broadcast_word l 0 + t) (omega arith)))

  -- the words after them
  pub words-zero : (q : ℕ) → l.inputs + 2 * l.ands ≤ q → q < tape_words l → tape l loaded q ≡ 0
  unfolding words_loaded
  words-zero q h d =
      party-other l (broadcast_word l 0) (n - 1) cs second (omega (arith, second-length)) second-low l.ands q (omega arith) (inr (omega arith))
      ∙ second-zero q h d

  pub words-low : Low l loaded
  words-low q h =
      ⊎_elim
      (λ a. rw (words-mask q a) (lt_of_lt_of_le (from_bits-lt n _) (pow_mono wide)))
      (λ a. ⊎_elim
      (λ b.
      let t : ℕ = q - (l.inputs + l.ands) in
      let e : q ≡ broadcast_word l t = omega arith in
      rw (e, words_product t (omega arith)) (lt_of_lt_of_le (from_bits-lt n _) (pow_mono wide)))
      (λ b. rw (words-zero q b h) (pow_pos 64))
      (lt-or-le q (l.inputs + 2 * l.ands)))
      (lt-or-le q (l.inputs + l.ands))

-- the rows and the corrections that stand in the memory
module _ (l : Layout) (n len : ℕ) (m : List ℕ) (room : planes_end l ≤ length m) (wide : n ≤ 64) (low : 8 * len ≤ l.inputs + 2 * l.ands + 7) where
  -- what comes after the planes is not touched before the corrections are put
  abbrev before : List ℕ → List ℕ
  before tapes = words_cleared l (broadcast_word l l.ands) (l.outputs + 7) (loaded_tapes l n tapes len m)

  pub before-held : (tapes : List ℕ) → drop (planes_end l) (before tapes) ≡ drop (planes_end l) m
  before-held tapes =
      cleared-held l (broadcast_word l l.ands) (loaded_tapes l n tapes len m) (omega (arith, loaded-length l m n tapes len)) (l.outputs + 7) (omega arith)
      ∙ loaded-held l m n tapes len wide (omega arith)

  before-after : (tapes : List ℕ) → drop (corrections_at l) (before tapes) ≡ drop (corrections_at l) m
  before-after tapes =
      sym (drop-drop (spare l) (planes_end l) (before tapes)) ∙ ap (drop (spare l)) (before-held tapes) ∙ drop-drop (spare l) (planes_end l) m

  -- the whole step
  pub words-done : (k v r : List ℕ) (e : ℕ) → e ≡ broadcast_word l l.ands → k ≡ loaded_rows l n len m → v ≡ words_cleared l e (l.outputs + 7) k
      → r ≡ put_party l (broadcast_word l 0) (n - 1) (drop (corrections_at l) v) l.ands v
      → r ≡ words_loaded l n (drop (rows_at l) m) len (drop (corrections_at l) m) m
  unfolding words_loaded loaded_rows
  words-done k v r e ee ek ev er =
      let same : v ≡ before (drop (rows_at l) m) = ev ∙ ap₂ (λ (q : ℕ) (w : List ℕ). words_cleared l q (l.outputs + 7) w) ee ek in
      er ∙ ap (λ (w : List ℕ). put_party l (broadcast_word l 0) (n - 1) (drop (corrections_at l) w) l.ands w) same
      ∙ ap (λ (cs : List ℕ). put_party l (broadcast_word l 0) (n - 1) cs l.ands (before (drop (rows_at l) m))) (before-after (drop (rows_at l) m))

  -- and only their own bytes are read
  pub words-held : words_loaded l n (drop (rows_at l) m) len (drop (corrections_at l) m) m
      ≡ words_loaded l n (take (n * len) (drop (rows_at l) m)) len (take (oct l.ands) (drop (corrections_at l) m)) m
  unfolding words_loaded loaded_rows
  words-held =
      let tapes : List ℕ = take (n * len) (drop (rows_at l) m) in
      let w : List ℕ = before tapes in
      let with-cs : List ℕ → List ℕ = λ cs. put_party l (broadcast_word l 0) (n - 1) cs l.ands w in
      ap (λ (k : List ℕ). put_party l (broadcast_word l 0) (n - 1) (drop (corrections_at l) m) l.ands (words_cleared l (broadcast_word l l.ands) (l.outputs + 7) k))
      (rows-loaded l m n len)
      ∙ ap with-cs (sym (before-after tapes))
      ∙ party-part l w (broadcast_word l 0) (n - 1) (corrections_at l) l.ands
      ∙ ap (λ (k : List ℕ). with-cs (take (oct l.ands) k)) (before-after tapes)
