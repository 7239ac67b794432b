-- What only the contracts of steps use: no definition of the paper stands here.
-- What the steps of check make of a proof, and ask.
-- Assumes nothing.
use Rattle.std.specs.Prelude.{◌≡◌, Bool, true, false, cond, ◌&&◌, List, [], ℕ, suc, ◌*◌, ◌^◌, ◌≤◌, ◌<◌, eqb, leb, length, take, Option, Some, None, Result, Ok, Err}
use Rattle.bits.specs.Bits.{unused_zero}
use Rattle.bits.specs.Bytes.{same_bytes}
use Rattle.refusal.specs.declared.Refusal.{Refusal}
use Rattle.refusal.specs.Refusal.{number_of}
use Rattle.refusal.specs.Outcome.{Outcome, refuses, done, unless}
use Rattle.circuit.specs.Circuit.{Circuit}
use Rattle.circuit.specs.File.{circuit_of}
use Rattle.circuit.specs.Operations.{holds}
use Rattle.circuit.specs.declared.Sizes.{Sizes}
use Rattle.parties.specs.Parties.{height_of}
use Rattle.mpc.specs.Steps.{Known}
use Rattle.choice.specs.Challenge.{max_instances}
use Rattle.seeds.specs.Operations.{max_message, max_output_bytes}
use Rattle.cover.specs.Masters.{height, cover_bytes}
use Rattle.instance.specs.Instance.{Asked}
use Rattle.instance.specs.Steps.{Tree}
use Rattle.instance.specs.Opened.{stretch_commitments, stretch_online, stretch_unused, stretch_output}
use Rattle.proof.specs.Protocol.{hstar_of, statement_of, challenged}
use Rattle.proof.specs.File.{header_m, header_tau, header_n, header_hstar, header_salt, context_at, good_header, hides, proof_bytes, master_at, stretch_at}
use Rattle.proof.specs.Check.{every}
use Rattle.proof.specs.declared.Counts.{Counts}
use Rattle.proof.specs.Steps.{asks_in, Asking, marks_in, master_in}
use Rattle.proof_tests.specs.declared.Shape.{Shape}

-- whether the replay of instance i gives y, and its digests
abbrev pub output_at : Circuit → ℕ → ℕ → (ℕ → Asked) → List ℕ → List ℕ → ℕ → Bool
output_at c M n ask proof y i = stretch_output c n (context_at proof i) y (stretch_at c M n ask proof i) (ask i)

abbrev pub commitments_at : Circuit → ℕ → ℕ → (ℕ → Asked) → List ℕ → ℕ → List ℕ
commitments_at c M n ask proof i = stretch_commitments c n (context_at proof i) (master_at M ask proof i) (stretch_at c M n ask proof i) (ask i)

abbrev pub online_at : Circuit → ℕ → ℕ → (ℕ → Asked) → List ℕ → ℕ → List ℕ
online_at c M n ask proof i = stretch_online c n (context_at proof i) (stretch_at c M n ask proof i) (ask i)

-- refusal 7: the unused bits of all chosen stretches
abbrev pub all_unused : Circuit → ℕ → ℕ → (ℕ → Asked) → List ℕ → Bool
all_unused c M n ask proof = every M (λ j. stretch_unused c n (stretch_at c M n ask proof j) (ask j))

-- refusal 10: the outputs of all replays
abbrev pub all_outputs : Circuit → ℕ → ℕ → (ℕ → Asked) → List ℕ → List ℕ → Bool
all_outputs c M n ask y proof = every M (λ j. stretch_output c n (context_at proof j) y (stretch_at c M n ask proof j) (ask j))

-- refusal 13: the recomputed h*
abbrev pub recomputed : Circuit → ℕ → ℕ → (ℕ → Asked) → List ℕ → List ℕ
recomputed c M n ask proof =
    hstar_of M (λ j. stretch_commitments c n (context_at proof j) (master_at M ask proof j) (stretch_at c M n ask proof j) (ask j)) (λ j. stretch_online c n (context_at proof j) (stretch_at c M n ask proof j) (ask j))

-- the counts that a header holds
unfoldable pub counts_of : List ℕ → Counts
counts_of proof = record { instances = header_m proof; chosen = header_tau proof; parties = header_n proof; height = height_of (header_n proof) }

-- those of a good header
unfoldable pub header_counts : List ℕ → Option Counts
header_counts proof = cond (good_header proof) (Some (counts_of proof)) None

-- the tests of a proof with a good header that need no run, then the rest
unfoldable pub tested : Circuit → List ℕ → ℕ → ℕ → (ℕ → Asked) → Outcome → Outcome
tested c proof M n ask rest =
    unless (eqb (length proof) (proof_bytes c M n ask)) 12 [] (unless (all_unused c M n ask proof) 7 [] rest)

-- the rest of check: the replays, and the recomputed h*
unfoldable pub judged : Circuit → List ℕ → List ℕ → ℕ → ℕ → (ℕ → Asked) → Outcome
judged c y proof M n ask =
    unless (all_outputs c M n ask y proof) 10 [] (unless (same_bytes (recomputed c M n ask proof) (header_hstar proof)) 13 [] (done []))

-- all tests of a proof of a legal circuit that need no run, then the rest
unfoldable pub legal_tests : List ℕ → List ℕ → List ℕ → List ℕ → Circuit → Outcome → Outcome
legal_tests s y message proof c rest =
    unless (holds (length c.outputs) y && leb (length message) max_message) 6 []
    (unless (unused_zero (length c.outputs) y) 7 []
    (unless (good_header proof) 11 []
    (tested c proof (header_m proof) (header_n proof)
    (challenged (header_m proof) (header_tau proof) (header_n proof) (header_hstar proof)
    (statement_of (header_salt proof) (header_m proof) (header_tau proof) (header_n proof) s y message))
    rest)))

-- the table of a challenge to M instances, and a proof of the length that it implies
pub record Sized (s : List ℕ) (M n : ℕ) (table proof : List ℕ) : Type 0 where
  pub few : M ≤ max_instances
  pub entries : length table ≡ M
  pub asking : Asking n table
  pub size : length proof ≡ proof_bytes (circuit_of s) M n (asks_in n table)

-- the rows of the masters' tree, rebuilt from the opened nodes of a proof: those of the instances that are not chosen hold their masters
pub record Rebuilt (M n : ℕ) (table proof nodes : List ℕ) : Type 0 where
  pub rows : length nodes ≡ 16 * 2 ^ suc (height M)
  pub masters : (j : ℕ) → j < M → hides (asks_in n table) j ≡ false → master_in nodes j ≡ master_at M (asks_in n table) proof j

-- a good header with these numbers, and y and message of lengths within the limits
pub record Headed (M tau n : ℕ) (y message proof : List ℕ) : Type 0 where
  pub good : good_header proof ≡ true
  pub is_M : M ≡ header_m proof
  pub is_tau : tau ≡ header_tau proof
  pub is_n : n ≡ header_n proof
  pub y_least : 1 ≤ length y
  pub y_most : length y ≤ max_output_bytes
  pub short : length message ≤ max_message

-- a proof that passes all tests that need no run, with the table of its challenge and the marks of the masters' tree
pub record Tested (s : List ℕ) (f : Shape) (proof table marks : List ℕ) : Type 0 where
  pub known : Known s f.sizes
  pub tree : Tree f.counts.parties f.counts.height
  pub sized : Sized s f.counts.instances f.counts.parties table proof
  pub unused : all_unused (circuit_of s) f.counts.instances f.counts.parties (asks_in f.counts.parties table) proof ≡ true
  pub cover : f.opened ≡ cover_bytes f.counts.instances (hides (asks_in f.counts.parties table))
  pub marked : marks ≡ marks_in f.counts.instances f.counts.parties table
  pub chosen : (p : ℕ) × (p < f.counts.instances) × (hides (asks_in f.counts.parties table) p ≡ true)

-- and the table is that of the challenge to y and message
pub record Ready (s : List ℕ) (f : Shape) (y message proof table marks : List ℕ) : Type 0 where
  pub tested : Tested s f proof table marks
  pub headed : Headed f.counts.instances f.counts.chosen f.counts.parties y message proof
  pub asks : asks_in f.counts.parties table
      ≡ challenged f.counts.instances f.counts.chosen f.counts.parties (header_hstar proof)
      (statement_of (header_salt proof) f.counts.instances f.counts.chosen f.counts.parties s y message)

-- the answer of the tests
abbrev pub entered : Result Shape Refusal → Outcome
entered (Err k) = refuses (number_of k) []
entered (Ok f) = done []

-- what they leave in the table and the marks, where a proof passes
abbrev pub Took : Result Shape Refusal → List ℕ → Sizes → List ℕ → List ℕ → List ℕ → (Shape → List ℕ) → (Shape → List ℕ) → Type 0
Took (Err k) s z y message proof table marks = Unit {0}
Took (Ok f) s z y message proof table marks = (f.sizes ≡ z) × Ready s f y message proof (table f) (marks f)

-- the entries of a table that are in use
abbrev pub in_table : List ℕ → Shape → List ℕ
in_table table f = take f.counts.instances table

-- and the marks
abbrev pub in_marks : List ℕ → Shape → List ℕ
in_marks marks f = take (2 ^ suc (height f.counts.instances)) marks
