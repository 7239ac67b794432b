-- packed-agrees: the theorem.
-- Assumes nothing.
use mathlib.Core.Path.{◌≡◌, refl, ap, ap₂, ◌∙◌}
use mathlib.Core.List.{List, [], ◌∷◌, map}
use Prim.Native.Nat.{ℕ, ◌<◌}
use native.Mathlib.Omega.{arith}
use Rattle.bits.specs.Bits.{test_bit, from_bits}
use Rattle.bits.proofs.Numbers.{test_bit-from_bits}
use Rattle.plain.specs.Run.{Column, Channel, as_sent, as_shown, Transcript}
use Rattle.plain.specs.Showing.{row_bits}
use Rattle.words.proofs.Columns.{word-parity}
use Rattle.packing.specs.Packed.{WordChannel, words_sent, words_shown, WordTranscript, packed_row}
use Rattle.packing.specs.Agreement.{SameRun, SameRuns, PackedAgrees}
use Rattle.packing.proofs.Agree.{Delivers, delivers-sent, delivers-shown, in_words, packed-corrected, packed-corrections, packed-run}

-- bit i of the words of columns
bits_of : (n i : ℕ) → i < n → (l : List Column) → map (λ (x : ℕ). test_bit x i) (map (from_bits n) l) ≡ map (λ (x : Column). x i) l
bits_of n i h [] = refl
bits_of n i h (x ∷ l) = ap₂ ◌∷◌ (test_bit-from_bits n x i h) (bits_of n i h l)

-- a transcript in words is the same run
pub same-run : (n : ℕ) (r : WordTranscript) (t : Transcript) → r ≡ in_words n t → SameRun n r t
unfolding packed_row row_bits
same-run n r t e = record {
  broadcasts = ap (λ (x : WordTranscript). x.broadcasts) e;
  rows = λ i l. ap (λ (x : WordTranscript). map (λ (y : ℕ). test_bit y i) x.broadcasts) e ∙ bits_of n i l t.broadcasts;
  output = ap (λ (x : WordTranscript). x.output) e;
}

-- channels that deliver alike give the same run
pub same_runs : (n : ℕ) (H : WordChannel) (h : Channel) → Delivers n H h → SameRuns n H h
same_runs n H h d outs gs o z s m = same-run n _ _ (packed-run n n (omega arith) outs gs o z H h s m d)

pub packed-agrees : PackedAgrees
packed-agrees n = record {
  mask = λ x. word-parity n n x (omega arith);
  corrections = packed-corrections n;
  corrected = packed-corrected n;
  sent = same_runs n words_sent as_sent (delivers-sent n);
  shown = λ p row. same_runs n (words_shown n p row) (as_shown p row) (delivers-shown n p row);
}
