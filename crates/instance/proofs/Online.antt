-- The digest over the masked inputs and the broadcast rows of an instance, which are made a group of 8 parties at a time.
-- Assumes nothing.
use mathlib.Core.Path.{◌≡◌, refl, sym, ap, ap₂, ◌∙◌}
use mathlib.Core.Bool.{false}
use mathlib.Core.List.{List, [], ◌∷◌, ◌++◌, flatten, append-nil, append_assoc}
use mathlib.Core.Logic.{⊎_elim}
use Prim.Native.Nat.{ℕ, zero, suc, ◌+◌, ◌-◌, ◌*◌, ◌≤◌, ◌<◌}
use native.Mathlib.Nat.{mul-le-mul_right, suc-mul}
use native.Mathlib.Omega.{arith}
use borrow.Author.Tests.{lt-ltb, le-ltb}
use borrow.Rule.Slice.PartMut.{mid_of}
use lib.ListN.{length, get_or, take, drop, length-drop}
use lib.Seq.{take-add, drop-drop, length-take-le}
use Rattle.bits.specs.Bits.{tabulate, oct, test_bit, bit_at, pack}
use Rattle.bits.specs.Bytes.{le_bytes, le_at}
use Rattle.bits.proofs.Little.{le_bytes-lt}
use Rattle.bits.proofs.Numbers.{lt-or-le}
use Rattle.bits.proofs.Packing.{bit_at-pack, ext-bit_at, length-pack, pack-lt}
use Rattle.bits.proofs.Rows.{flatten-more, row_fits, rows_none}
use Rattle.bits.proofs.Tabulate.{length-tabulate, get_d_tabulate}
use Rattle.keccak.specs.declared.sponge.Sponge.{Sponge}
use Rattle.keccak.specs.Steps.{absorbs}
use Rattle.keccak.proofs.Absorbing.{Bytes}
use Rattle.circuit.specs.declared.Sizes.{Sizes}
use Rattle.planes.specs.Steps.{Room, tape_at, tape_words, rows_at, broadcast_word, tape, rows_in, stored_block}
use Rattle.planes.specs.declared.Layout.{Layout}
use Rattle.planes.proofs.Held.{bit_at-drop, bit_at-take}
use Rattle.planes.proofs.Stored.{stored_other}
use Rattle.planes.proofs.Within.{block_row}
use Rattle.walk.specs.Steps.{layout_of}
use Rattle.packed.specs.Steps.{broadcast_bytes, sent_bit, rows_sent}
use Rattle.hashing.specs.Inputs.{online_input}
use Rattle.hashing.specs.Digest.{taken, given}
use Rattle.hashing.proofs.Hashes.{bytes-append, bytes_one}
use Rattle.hashing.proofs.Digests.{taken_more, online-more, given-taken}
use Rattle.instance.specs.Instance.{online_digest}
use Rattle.instance.proofs.Committed.{bytes_take, bytes_drop, bytes-rows}
use Rattle.derivation.proofs.Together.{flatten-add}

-- a part of n rows is these rows
rows-part : (len a : ℕ) (m : List ℕ) (f : ℕ → List ℕ) (n : ℕ) → ((i : ℕ) → i < n → take len (drop (a + i * len) m) ≡ f i)
    → take (n * len) (drop a m) ≡ flatten (tabulate n f)
rows-part len a m f zero h = rows_none len (drop a m)
rows-part len a m f (suc n) h =
    ap (λ (k : ℕ). take k (drop a m)) (suc-mul n len) ∙ take-add (n * len) len (drop a m)
    ∙ ap₂ ◌++◌ (rows-part len a m f n (λ i l. h i (omega arith))) (ap (take len) (drop-drop (n * len) a m) ∙ h n (omega arith)) ∙ flatten-more n f

-- a word is its bytes
word-cong : (k : ℕ) (m w : List ℕ) (a : ℕ) → ((i : ℕ) → i < k → get_or w (a + i) 0 ≡ get_or m (a + i) 0) → le_at k w a ≡ le_at k m a
unfolding le_at
word-cong zero m w a h = refl
word-cong (suc k) m w a h =
    let e : a ≡ a + 0 = omega arith in
    let first : get_or w a 0 ≡ get_or m a 0 = ap (λ (x : ℕ). get_or w x 0) e ∙ h 0 (omega arith) ∙ ap (λ (x : ℕ). get_or m x 0) (sym e) in
    let rest : le_at k w (a + 1) ≡ le_at k m (a + 1) = word-cong k m w (a + 1)
    (λ i l. let d : a + 1 + i ≡ a + suc i = omega arith in ap (λ (x : ℕ). get_or w x 0) d ∙ h (suc i) (omega arith) ∙ ap (λ (x : ℕ). get_or m x 0) (sym d)) in
    ap₂ (λ (x y : ℕ). x + 256 * y) first rest

-- the parties of the groups before the next
group-next : (n g count : ℕ) → 8 * g < n → count ≡ rows_in n g → 8 * g + count ≡ n - (n - 8 * (g + 1))
unfolding rows_in
group-next n g count h e =
    ⊎_elim
    (λ (q : n - 8 * g < 8). let d : count ≡ n - 8 * g = e ∙ rw (lt-ltb (n - 8 * g) 8 q) refl in omega arith)
    (λ (q : 8 ≤ n - 8 * g). let d : count ≡ 8 = e ∙ rw (le-ltb (n - 8 * g) 8 q) refl in omega arith)
    (lt-or-le (n - 8 * g) 8)

-- the rows of the broadcasts of m, in a memory w with the same planes
module _ (l : Layout) (len : ℕ) (m : List ℕ) where
  abbrev pub sent_row : ℕ → List ℕ
  sent_row i = pack (tabulate (8 * len) (sent_bit l m i))

  sent-size : (i : ℕ) → length (sent_row i) ≡ len
  sent-size i =
      let e : oct (8 * len) ≡ len = omega arith in
      length-pack (tabulate (8 * len) (sent_bit l m i)) ∙ ap oct (length-tabulate (8 * len) (sent_bit l m i)) ∙ e

  -- the planes of w are those of m
  abbrev pub Same : List ℕ → Type 0
  Same w = (k : ℕ) → k < rows_at l → get_or w k 0 ≡ get_or m k 0

  -- v is w with the rows of a block stored
  module _ (w : List ℕ) (same : Same w) (count g : ℕ) (v : List ℕ) (ev : v ≡ stored_block l count g len w) where
    pub block_same : Same v
    unfolding stored_block
    block_same k h =
        ap (λ (t : List ℕ). get_or t k 0) ev
        ∙ stored_other count w (tape_at l (broadcast_word l 0) + g) (rows_at l) len w len k (omega arith) (λ i p x y q. omega arith) ∙ same k h

    module _ (small : (k : ℕ) → get_or w k 0 < 256) (low : (k : ℕ) → get_or v k 0 < 256) (few : count ≤ 8) (hg : g < 8)
        (words : broadcast_word l 0 + 8 * len ≤ tape_words l) (room : rows_at l + count * len ≤ length w) (size : length v ≡ length w) where
      block-bit : (p t : ℕ) → p < count → t < 8 * len → bit_at v (8 * (rows_at l + p * len) + t) ≡ sent_bit l m (8 * g + p) t
      unfolding sent_bit tape
      block-bit p t hp ht =
          ap (λ (x : List ℕ). bit_at x (8 * (rows_at l + p * len) + t)) ev ∙ block_row l count g len w small few hg room p t hp ht
          ∙ ap (λ (x : ℕ). test_bit x (8 * g + p)) (word-cong 8 m w (tape_at l (broadcast_word l t)) (λ i x. same (tape_at l (broadcast_word l t) + i) (omega arith)))

      -- its rows
      block-rows : take (count * len) (drop (rows_at l) v) ≡ flatten (tabulate count (λ p. sent_row (8 * g + p)))
      block-rows =
          rows-part len (rows_at l) v (λ p. sent_row (8 * g + p)) count
          (λ p hp.
          let b : ℕ = rows_at l + p * len in
          let fits : rows_at l + p * len + len ≤ length v = omega (arith, row_fits count len p hp, room, size) in
          let k : length (take len (drop b v)) ≡ len = length-take-le len (drop b v) (omega (arith, length-drop b v, fits)) in
          ext-bit_at (take len (drop b v)) (sent_row (8 * g + p)) (bytes_take len (drop b v) (bytes_drop b v low)) (pack-lt (tabulate (8 * len) (sent_bit l m (8 * g + p))))
          (k ∙ sym (sent-size (8 * g + p)))
          (λ t ht.
          let h : t < 8 * len = omega (arith, k) in
          bit_at-take len (drop b v) t h ∙ bit_at-drop b v t ∙ block-bit p t hp h
          ∙ sym (bit_at-pack (tabulate (8 * len) (sent_bit l m (8 * g + p))) t ∙ get_d_tabulate (8 * len) (sent_bit l m (8 * g + p)) t false h)))

      -- they are taken in after those of the groups before
      pub online-turn : (n a j : ℕ) (masked : List ℕ) (s r : Sponge) → a ≡ rows_at l → 8 * g < n → count ≡ rows_in n g
          → s ≡ taken (online_input j masked (flatten (tabulate (n - (n - 8 * g)) sent_row))) → r ≡ absorbs 136 s (mid_of a (a + count * len - a) v)
          → r ≡ taken (online_input j masked (flatten (tabulate (n - (n - 8 * (g + 1))) sent_row)))
      unfolding online_input
      online-turn n a j masked s r ea h ec es er =
          let head : List ℕ = (8 ∷ le_bytes 2 j) ++ masked in
          let R : List ℕ = flatten (tabulate (8 * g) sent_row) in
          let N : List ℕ = flatten (tabulate count (λ p. sent_row (8 * g + p))) in
          let d : n - (n - 8 * g) ≡ 8 * g = omega arith in
          let u : a + count * len - a ≡ count * len = omega arith in
          let part : mid_of a (a + count * len - a) v ≡ N = ap₂ (λ (x y : ℕ). take x (drop y v)) u ea ∙ block-rows in
          taken_more (online_input j masked R) N s r (es ∙ ap (λ (k : ℕ). taken (online_input j masked (flatten (tabulate k sent_row)))) d) (er ∙ ap (absorbs 136 s) part)
          ∙ ap taken
          (append_assoc head R N
          ∙ ap (λ (t : List ℕ). head ++ t) (sym (flatten-add (8 * g) count sent_row) ∙ ap (λ (k : ℕ). flatten (tabulate k sent_row)) (group-next n g count h ec)))

-- the masked inputs are taken in
pub online-begins : (j n : ℕ) (f : ℕ → List ℕ) (masked : List ℕ) (s r : Sponge) → s ≡ taken (online_input j [] []) → r ≡ absorbs 136 s masked
    → r ≡ taken (online_input j masked (flatten (tabulate (n - (n - 8 * 0)) f)))
unfolding flatten
online-begins j n f masked s r a b =
    let e : 0 ≡ n - (n - 8 * 0) = omega arith in
    taken_more (online_input j [] []) masked s r a b
    ∙ ap taken (sym (append-nil (online_input j [] [] ++ masked)) ∙ online-more j masked [])
    ∙ ap (λ (k : ℕ). taken (online_input j masked (flatten (tabulate k f)))) e

-- the input is bytes
online-bytes : (j : ℕ) (masked rows : List ℕ) → Bytes masked → Bytes rows → Bytes (online_input j masked rows)
unfolding online_input
online-bytes j masked rows p q =
    bytes-append ((8 ∷ le_bytes 2 j) ++ masked) rows
    (bytes-append (8 ∷ le_bytes 2 j) masked (bytes-append (8 ∷ []) (le_bytes 2 j) (bytes_one 8 (omega arith)) (le_bytes-lt 2 j)) p) q

-- the digest, when all rows are taken in
pub online-ends : (z : Sizes) (j n g len : ℕ) (l : Layout) (masked m r : List ℕ) (s : Sponge) → Bytes masked → l ≡ layout_of z → len ≡ broadcast_bytes z → n ≤ 8 * g
    → s ≡ taken (online_input j masked (flatten (tabulate (n - (n - 8 * g)) (sent_row l len m)))) → r ≡ given s
    → r ≡ online_digest j masked (rows_sent (layout_of z) n (broadcast_bytes z) m)
unfolding online_digest rows_sent
online-ends z j n g len l masked m r s p el ek h a b =
    let f : ℕ → List ℕ = sent_row l len m in
    let e : n - (n - 8 * g) ≡ n = omega arith in
    b ∙ ap given (a ∙ ap (λ (k : ℕ). taken (online_input j masked (flatten (tabulate k f)))) e)
    ∙ given-taken (online_input j masked (flatten (tabulate n f)))
    (online-bytes j masked (flatten (tabulate n f)) p (bytes-rows n f (λ k. pack-lt (tabulate (8 * len) (sent_bit l m k)))))
    ∙ ap₂ (λ (x : Layout) (y : ℕ). online_digest j masked (rows_sent x n y m)) el ek

-- what a block asks
module _ (z : Sizes) (l : Layout) (el : l ≡ layout_of z) where
  pub block-planes : (m w : List ℕ) → length w ≡ length m → Room (layout_of z) m → Room l w
  block-planes m w e r = rw el (record { few_wires = r.few_wires; few_words = r.few_words; room = omega (arith, e, r.room) })

  module _ (len : ℕ) (ek : len ≡ broadcast_bytes z) where
    pub block_words : broadcast_word l 0 + 8 * len ≤ tape_words l
    block_words = rw (el, ek) (omega arith)

    pub block-fits : (m w : List ℕ) → length w ≡ length m → (count : ℕ) → count ≤ 8 → rows_at (layout_of z) + 8 * broadcast_bytes z ≤ length m
        → rows_at l + count * len ≤ length w
    block-fits m w e count h r = omega (arith, e, ek, ap (λ (x : Layout). rows_at x) el, mul-le-mul_right len h)
