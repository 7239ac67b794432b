-- Rows of broadcasts from their bits: the rows that are stored, and bits packed with zeros after them.
-- Assumes nothing.
use mathlib.Core.Path.{◌≡◌, sym, ap, ap₂, ◌∙◌}
use mathlib.Core.Bool.{Bool, false, ◌&&◌, and-false}
use mathlib.Core.List.{List, ◌++◌, flatten}
use mathlib.Core.Logic.{⊎_elim}
use Prim.Native.Nat.{ℕ, zero, suc, ◌+◌, ◌*◌, ◌≤◌, ◌<◌}
use native.Mathlib.Nat.{le_refl, suc-mul}
use native.Mathlib.Omega.{arith}
use borrow.Author.Tests.{lt-ltb}
use lib.Dec.{ltb}
use lib.ListN.{length, get_or, take, replicate, length-map, get_or-eq_default}
use lib.Seq.{take_all, take-add}
use Rattle.bits.specs.Bits.{tabulate, oct, bit_at, pack}
use Rattle.bits.specs.Bytes.{row_of}
use Rattle.bits.specs.Steps.{put_bit}
use Rattle.bits.proofs.Numbers.{lt-or-le}
use Rattle.bits.proofs.Packing.{bit_at-pack, ext-bit_at, length-pack, pack-lt}
use Rattle.bits.proofs.Rows.{bit_at-row, flatten-more, row_fits, row_inside, row-length, row_lt, rows_none}
use Rattle.bits.proofs.Tabulate.{length-tabulate, get_d_tabulate, get_or-tabulate-end, tabulate-cong, tabulate-get_or}
use Rattle.circuit.specs.declared.Sizes.{Sizes}
use Rattle.plain.specs.Run.{Column, Transcript}
use Rattle.plain.specs.Showing.{row_bits, rows_of, first_bits}
use Rattle.planes.specs.Steps.{stored_rows}
use Rattle.planes.specs.declared.Layout.{Layout}
use Rattle.planes.proofs.Stored.{row-bit}
use Rattle.walk.proofs.Turns.{firsts, bits_none, bits-turn}
use Rattle.walk.specs.Steps.{layout_of}
use Rattle.packed.specs.Steps.{broadcast_bytes, sent_bit, rows_sent}

-- a buffer of n rows is its rows
rows-first : (n len : ℕ) (out : List ℕ) → length out ≡ n * len → (i : ℕ) → i ≤ n → take (i * len) out ≡ flatten (tabulate i (row_of out len))
rows-first n len out e zero h = rows_none len out
rows-first n len out e (suc i) h =
    ap (λ (k : ℕ). take k out) (suc-mul i len)
    ∙ take-add (i * len) len out
    ∙ ap₂ (λ (a b : List ℕ). a ++ b) (rows-first n len out e i (omega arith)) (sym (row_inside out len i (omega (arith, row_fits n len i h, e))))
    ∙ flatten-more i (row_of out len)

rows_all : (n len : ℕ) (out : List ℕ) (f : ℕ → List ℕ) → length out ≡ n * len → ((i : ℕ) → i < n → row_of out len i ≡ f i) → out ≡ flatten (tabulate n f)
rows_all n len out f e h =
    sym (take_all (n * len) out (omega (arith, e))) ∙ rows-first n len out e n (omega arith) ∙ ap flatten (tabulate-cong n (row_of out len) f h)

-- the rows that are stored
rows-stored : (l : Layout) (n len : ℕ) (m rows out : List ℕ) → n ≤ 64 → ((j : ℕ) → get_or m j 0 < 256) → ((j : ℕ) → get_or out j 0 < 256)
    → length rows ≡ n * len → length out ≡ length rows → out ≡ stored_rows l n m len rows → out ≡ rows_sent l n len m
unfolding rows_sent sent_bit
rows-stored l n len m rows out wide small low fits same e =
    rows_all n len out (λ i. pack (tabulate (8 * len) (sent_bit l m i))) (same ∙ fits)
    (λ i hi.
    let f : ℕ → Bool = sent_bit l m i in
    let inside : i * len + len ≤ length out = omega (arith, row_fits n len i hi, same, fits) in
    let size : length (row_of out len i) ≡ len = row-length out len i inside in
    let bytes : length (pack (tabulate (8 * len) f)) ≡ len = length-pack (tabulate (8 * len) f) ∙ omega (arith, length-tabulate (8 * len) f) in
    ext-bit_at (row_of out len i) (pack (tabulate (8 * len) f)) (row_lt out len i low) (pack-lt (tabulate (8 * len) f)) (size ∙ sym bytes)
    (λ t ht.
    let short : t < 8 * len = omega (arith, size) in
    bit_at-row out len i t inside short
    ∙ ap (λ (x : List ℕ). bit_at x (8 * (i * len) + t)) e
    ∙ row-bit l n m len rows (omega (arith, fits)) small wide i t hi short
    ∙ sym (bit_at-pack (tabulate (8 * len) f) t ∙ get_d_tabulate (8 * len) f t false short)))

-- and with the places and the length that the code makes
pub rows-given : (k l : Layout) (len b n : ℕ) (m rows out : List ℕ) → k ≡ l → len ≡ b → n ≤ 64 → ((j : ℕ) → get_or m j 0 < 256)
    → ((j : ℕ) → get_or out j 0 < 256) → length rows ≡ n * b → length out ≡ length rows → out ≡ stored_rows k n m len rows → out ≡ rows_sent l n b m
rows-given k l len b n m rows out e d wide small low fits same h =
    rows-stored l n b m rows out wide small low fits same (h ∙ ap₂ (λ (x : Layout) (y : ℕ). stored_rows x n m y rows) e d)

pub rows-room : (n len k t : ℕ) → len ≡ k → t ≡ n * k → n * len ≤ t
rows-room n len k t e d = rw (e, d) (le_refl (n * k))

-- one party's row, put bit by bit into a buffer of len bytes
module _ (v : ℕ → Bool) (len n : ℕ) (e : len ≡ n) where
  pub row-none : replicate n 0 ≡ pack (firsts (8 * len) v 0)
  row-none = bits_none (8 * len) v n (omega arith)

  pub row-turn : (count t : ℕ) (b : Bool) (y : List ℕ) → oct count ≤ n → t < count → b ≡ v t → y ≡ pack (firsts (8 * len) v t)
      → put_bit y t b ≡ pack (firsts (8 * len) v (t + 1))
  row-turn count t b y fits h eb ey = bits-turn (8 * len) v t b y (omega arith) eb ey

-- bits that are those of a list, and false after it, packed
pub pack-padded : (bs : List Bool) (f : ℕ → Bool) (k : ℕ) → k ≡ oct (length bs) → ((t : ℕ) → t < 8 * k → f t ≡ get_or bs t false)
    → pack (tabulate (8 * k) f) ≡ pack bs
pack-padded bs f k e h =
    let bytes : length (pack (tabulate (8 * k) f)) ≡ k = length-pack (tabulate (8 * k) f) ∙ omega (arith, length-tabulate (8 * k) f) in
    ext-bit_at (pack (tabulate (8 * k) f)) (pack bs) (pack-lt (tabulate (8 * k) f)) (pack-lt bs) (bytes ∙ e ∙ sym (length-pack bs))
    (λ t ht.
    let short : t < 8 * k = omega (arith, bytes) in
    bit_at-pack (tabulate (8 * k) f) t ∙ get_d_tabulate (8 * k) f t false short ∙ h t short ∙ sym (bit_at-pack bs t))

-- the first k bits of a list
module _ (k : ℕ) (bs : List Bool) where
  pub first-size : length (first_bits k bs) ≡ length bs
  unfolding first_bits
  first-size = length-tabulate (length bs) (λ t. ltb t k && get_or bs t false)

  pub first_bit : (t : ℕ) → get_or (first_bits k bs) t false ≡ ltb t k && get_or bs t false
  unfolding first_bits
  first_bit t =
      let f : ℕ → Bool = λ j. ltb j k && get_or bs j false in
      ⊎_elim
      (λ a. get_d_tabulate (length bs) f t false a)
      (λ a.
      get_or-tabulate-end (length bs) f t false a
      ∙ sym (ap (λ (b : Bool). ltb t k && b) (get_or-eq_default bs false {n = t} a) ∙ and-false (ltb t k)))
      (lt-or-le t (length bs))

  pub first-all : length bs ≤ k → first_bits k bs ≡ bs
  unfolding first_bits
  first-all h =
      tabulate-cong (length bs) (λ t. ltb t k && get_or bs t false) (λ t. get_or bs t false) (λ t a. rw (lt-ltb t k (omega arith)))
      ∙ tabulate-get_or bs false

-- the rows of a transcript r of A + O broadcasts
module _ (z : Sizes) (n : ℕ) (r : Transcript) (count : length r.broadcasts ≡ z.ands + z.outputs) where
  pub row-size : (i : ℕ) → length (row_bits r i) ≡ z.ands + z.outputs
  unfolding row_bits
  row-size i = length-map r.broadcasts (λ (x : Column). x i) ∙ count

-- a memory that holds the bits of its rows, and zeros beyond them
module _ (z : Sizes) (n : ℕ) (after : List ℕ) (r : Transcript) (count : length r.broadcasts ≡ z.ands + z.outputs)
    (sent-bit : (i t : ℕ) → i < n → t < z.ands + z.outputs + 7 → sent_bit (layout_of z) after i t ≡ get_or (row_bits r i) t false) where
  -- all rows
  pub rows-from : rows_sent (layout_of z) n (broadcast_bytes z) after ≡ rows_of n r
  unfolding rows_sent rows_of
  rows-from =
      ap flatten
      (tabulate-cong n _ (λ i. pack (row_bits r i))
      (λ i hi.
      pack-padded (row_bits r i) (sent_bit (layout_of z) after i) (broadcast_bytes z) (ap oct (sym (row-size z n r count i)))
      (λ t h. sent-bit i t hi (omega arith))))

  -- the first k bits of one party's row
  pub row_from : (i k : ℕ) → i < n
      → pack (tabulate (8 * broadcast_bytes z) (λ t. ltb t k && sent_bit (layout_of z) after i t)) ≡ pack (first_bits k (row_bits r i))
  row_from i k hi =
      pack-padded (first_bits k (row_bits r i)) (λ t. ltb t k && sent_bit (layout_of z) after i t) (broadcast_bytes z)
      (ap oct (sym (first-size k (row_bits r i) ∙ row-size z n r count i)))
      (λ t h. ap (λ (b : Bool). ltb t k && b) (sent-bit i t hi (omega arith)) ∙ sym (first_bit k (row_bits r i) t))

  -- the whole row
  pub whole_from : (i : ℕ) → i < n
      → pack (tabulate (8 * broadcast_bytes z) (λ t. ltb t (z.ands + z.outputs) && sent_bit (layout_of z) after i t)) ≡ pack (row_bits r i)
  whole_from i hi =
      row_from i (z.ands + z.outputs) hi ∙ ap pack (first-all (z.ands + z.outputs) (row_bits r i) (omega (arith, row-size z n r count i)))
