-- What only the contracts of steps use: no definition of the paper stands here.
-- The work memory for W wires, I inputs, A AND gates and O output wires, in planes one after the other: a word of shares for each wire; a
-- word for each bit q of the tape rows, bit i of it for party i; a byte for each wire, its masked value. Of the tape words the first I are
-- input masks, then A output masks, then A product shares in whose place the broadcasts come, then the O output broadcasts. After the
-- planes stand the corrections, a bit for each AND gate, and rows, first of the tapes, later of the broadcasts; then, for n parties, their
-- leaves. Their seeds stand in the place of the tape words, until these are loaded: the planes end, with some bytes to spare, after the
-- seeds of 64 parties.
-- Assumes nothing.
use Rattle.std.specs.Prelude.{cond, List, ℕ, zero, suc, ◌+◌, ◌-◌, ◌*◌, ◌/◌, ◌≤◌, ltb, length, set, drop}
use Rattle.std.proofs.lemmas.List.Edits.{sets}
use Rattle.bits.specs.Bits.{oct, test_bit, from_bits, bit_at}
use Rattle.bits.specs.Bytes.{le_at, le_bytes}
use Rattle.words.specs.Words.{every, place, chosen}
use Rattle.words.specs.Steps.{at, fill}
use Rattle.planes.specs.declared.Layout.{Layout}

-- the tape words: whole bytes of a row are turned, and whole bytes of broadcasts, so up to 7 more than I + 2 A + O
abbrev pub tape_words : Layout → ℕ
tape_words l = l.inputs + 2 * l.ands + l.outputs + 7

-- the places of wire w's shares, of tape word q, and of wire w's masked value; and the end of the planes
abbrev pub share_at : ℕ → ℕ
share_at w = 8 * w

abbrev pub tape_at : Layout → ℕ → ℕ
tape_at l q = 8 * l.wires + 8 * q

abbrev pub masked_at : Layout → ℕ → ℕ
masked_at l w = 8 * l.wires + 8 * tape_words l + w

abbrev pub planes_end : Layout → ℕ
planes_end l = masked_at l l.wires

-- the place of the seeds with r, and the bytes between the planes and the corrections: 64 rows of 32 bytes fit before the corrections
abbrev pub seeds_at : Layout → ℕ
seeds_at l = 8 * l.wires

abbrev pub seeds_end : Layout → ℕ → ℕ
seeds_end l n = seeds_at l + 32 * n

unfoldable pub spare : Layout → ℕ
spare l = 2048 - (8 * tape_words l + l.wires)

-- the place of the corrections; of the rows; and, after n tape rows, of n leaves; and the end of them all
abbrev pub corrections_at : Layout → ℕ
corrections_at l = planes_end l + spare l

abbrev pub rows_at : Layout → ℕ
rows_at l = corrections_at l + oct l.ands

abbrev pub leaves_at : Layout → ℕ → ℕ
leaves_at l n = rows_at l + n * oct (l.inputs + 2 * l.ands)

abbrev pub held_end : Layout → ℕ → ℕ
held_end l n = leaves_at l n + 16 * n

-- the tape word of the output mask of AND gate t, and of broadcast t
abbrev pub mask_word : Layout → ℕ → ℕ
mask_word l t = l.inputs + t

abbrev pub broadcast_word : Layout → ℕ → ℕ
broadcast_word l t = l.inputs + l.ands + t

-- the memory holds the planes
pub record Room (l : Layout) (m : List ℕ) : Type 0 where
  pub few_wires : l.wires ≤ 1048576
  pub few_words : tape_words l ≤ 4194304
  pub room : planes_end l ≤ length m

-- the planes
unfoldable pub share : List ℕ → ℕ → ℕ
share m w = le_at 8 m (share_at w)

unfoldable pub tape : Layout → List ℕ → ℕ → ℕ
tape l m q = le_at 8 m (tape_at l q)

unfoldable pub masked : Layout → List ℕ → ℕ → ℕ
masked l m w = at m (masked_at l w)

-- the memory with one of them put to x
unfoldable pub put_share : ℕ → ℕ → List ℕ → List ℕ
put_share w x m = sets m (share_at w) (le_bytes 8 x)

unfoldable pub put_tape : Layout → ℕ → ℕ → List ℕ → List ℕ
put_tape l q x m = sets m (tape_at l q) (le_bytes 8 x)

unfoldable pub put_masked : Layout → ℕ → ℕ → List ℕ → List ℕ
put_masked l w x m = set m (masked_at l w) x

-- count bytes from `to` on are zero
unfoldable pub cleared : ℕ → ℕ → List ℕ → List ℕ
cleared to count m = fill (λ j. to + j) (λ j. 0) count m

-- all tape words are zero
unfoldable pub cleared_tapes : Layout → List ℕ → List ℕ
cleared_tapes l m = cleared (tape_at l 0) (8 * tape_words l) m

-- count bytes of each of n rows of len bytes, from byte a of s on: bit q of the rows at every 8th byte from `to` on
unfoldable pub loaded_words : ℕ → List ℕ → ℕ → ℕ → ℕ → ℕ → List ℕ → List ℕ
loaded_words n s a len count to m = fill (λ q. to + 8 * q) (λ q. from_bits n (λ p. bit_at s (8 * (a + p * len) + q))) (8 * count) m

-- the parties of group g: 8, or those that are left of n
unfoldable pub rows_in : ℕ → ℕ → ℕ
rows_in n g = cond (ltb (n - 8 * g) 8) (n - 8 * g) 8

-- the tape rows, of len bytes each, of the first g groups of n parties in the words from `to` on: group g in byte g of each word
unfoldable pub loaded_groups : ℕ → List ℕ → ℕ → ℕ → ℕ → List ℕ → List ℕ
loaded_groups n s len zero to m = m
loaded_groups n s len (suc g) to m = loaded_words (rows_in n g) s (g * (8 * len)) len len (to + g) (loaded_groups n s len g to m)

-- the tape rows of n parties in the tape words, which were cleared
unfoldable pub loaded_tapes : Layout → ℕ → List ℕ → ℕ → List ℕ → List ℕ
loaded_tapes l n s len m = loaded_groups n s len ((n + 7) / 8) (tape_at l 0) (cleared_tapes l m)

-- the tape rows of n parties, of len bytes each, which stand in the memory, in the tape words, which were cleared
unfoldable pub loaded_rows : Layout → ℕ → ℕ → List ℕ → List ℕ
loaded_rows l n len m = loaded_tapes l n (drop (rows_at l) m) len m

-- count bytes of each of n rows of len bytes, from byte a on: byte k of row p has bit p of the words 8 k .. 8 k + 7, of which the bytes at
-- every 8th place of m from `from` on are taken
unfoldable pub stored_words : ℕ → List ℕ → ℕ → ℕ → ℕ → ℕ → List ℕ → List ℕ
stored_words n m from zero a len rows = rows
stored_words n m from (suc k) a len rows =
    fill (λ p. a + k + p * len) (λ p. from_bits 8 (λ t. test_bit (at m (from + 8 * (8 * k + t))) p)) n (stored_words n m from k a len rows)

-- the broadcast rows, of len bytes each, of the first g groups of n parties, from the words from `from` on
unfoldable pub stored_groups : ℕ → List ℕ → ℕ → ℕ → ℕ → List ℕ → List ℕ
stored_groups n m from len zero rows = rows
stored_groups n m from len (suc g) rows = stored_words (rows_in n g) m (from + g) len (g * (8 * len)) len (stored_groups n m from len g rows)

-- the broadcast rows of n parties
unfoldable pub stored_rows : Layout → ℕ → List ℕ → ℕ → List ℕ → List ℕ
stored_rows l n m len rows = stored_groups n m (tape_at l (broadcast_word l 0)) len ((n + 7) / 8) rows

-- the broadcast rows of the n parties of group g, in the place of the rows
unfoldable pub stored_block : Layout → ℕ → ℕ → ℕ → List ℕ → List ℕ
stored_block l n g len m = stored_words n m (tape_at l (broadcast_word l 0) + g) len (rows_at l) len m

-- at the places of hidden the words from `to` on have the bits of the row, count in all
unfoldable pub put_bits : ℕ → ℕ → List ℕ → ℕ → List ℕ → List ℕ
put_bits to hidden row zero m = m
put_bits to hidden row (suc t) m =
    let k : List ℕ = put_bits to hidden row t m in
    sets k (to + 8 * t) (le_bytes 8 (chosen hidden (every 64 (bit_at row t)) (le_at 8 k (to + 8 * t))))

-- party p's bits of count tape words from word q on as in the row
unfoldable pub put_party : Layout → ℕ → ℕ → List ℕ → ℕ → List ℕ → List ℕ
put_party l q p row count m = put_bits (tape_at l q) (place 64 p) row count m
