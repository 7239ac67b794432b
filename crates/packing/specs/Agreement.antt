-- Theorem, packed-agrees (document 02, order 13): the packed engine agrees with the plain one on every input, rows and corrections
-- included, for every number of parties.
-- Assumes nothing.
use Rattle.std.specs.Prelude.{◌≡◌, Bool, List, map, ℕ, ◌<◌}
use Rattle.bits.specs.Bits.{from_bits}
use Rattle.bits.specs.Xor.{xors}
use Rattle.circuit.specs.Circuit.{Gate}
use Rattle.plain.specs.Run.{Column, corrections, corrected, Channel, as_sent, as_shown, Transcript, run}
use Rattle.plain.specs.Showing.{row_bits}
use Rattle.words.specs.Words.{parity}
use Rattle.packing.specs.Packed.{words, packed_corrections, packed_corrected, WordChannel, words_sent, words_shown, WordTranscript, packed_run, packed_row}

-- the transcript r on words is the transcript t of n parties: the broadcasts are the words of its columns, the rows its rows, and
-- the output its output
pub record SameRun (n : ℕ) (r : WordTranscript) (t : Transcript) : Type 0 where
  pub broadcasts : r.broadcasts ≡ map (from_bits n) t.broadcasts
  pub rows : (i : ℕ) → i < n → packed_row r i ≡ row_bits t i
  pub output : r.output ≡ t.output

-- the same run on every input, by the channels H of words and h of columns
abbrev pub SameRuns : ℕ → WordChannel → Channel → Type 0
SameRuns n H h =
    (outs : List ℕ) (gs : List Gate) (o z s : ℕ → Column) (m : ℕ → Bool)
    → SameRun n (packed_run n outs gs (words n o) (words n z) H (words n s) m) (run n outs gs o z h s m)

-- for n parties; party p hidden (as_shown), or none
pub record Agrees (n : ℕ) : Type 0 where
  pub mask : (x : Column) → parity n (from_bits n x) ≡ xors n x
  pub corrections : (gs : List Gate) (o z s : ℕ → Column) → packed_corrections n gs (words n o) (words n z) (words n s) ≡ corrections n gs o z s
  pub corrected : (cs : ℕ → Bool) (z : ℕ → Column) → packed_corrected n cs (words n z) ≡ words n (corrected n cs z)
  pub sent : SameRuns n words_sent as_sent
  pub shown : (p : ℕ) (row : ℕ → Bool) → SameRuns n (words_shown n p row) (as_shown p row)

abbrev pub PackedAgrees : Type 0
PackedAgrees = (n : ℕ) → Agrees n
