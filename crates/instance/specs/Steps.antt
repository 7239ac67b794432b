-- What only the contracts of steps use: no definition of the paper stands here.
-- Assumes nothing.
use Rattle.std.specs.Prelude.{◌≡◌, true, cond, ◌&&◌, ℕ, suc, ◌+◌, ◌-◌, ◌*◌, ◌≤◌, ◌<◌, eqb, ltb, length, take, drop, replicate}
use mathlib.Core.List.{List, [], flatten}
use Rattle.hashing.specs.declared.Context.{Context}
use Rattle.bits.specs.Bits.{tabulate, oct, pack}
use Rattle.bits.specs.Bytes.{row_of}
use Rattle.parties.specs.Parties.{height_of, is_party_count}
use Rattle.circuit.specs.Circuit.{Circuit}
use Rattle.circuit.specs.declared.Sizes.{Sizes}
use Rattle.plain.specs.Tapes.{row_bytes, used_bits}
use Rattle.plain.specs.Showing.{row_bits, rows_of}
use Rattle.masks.specs.Steps.{wire_count}
use Rattle.planes.specs.Steps.{seeds_at}
use Rattle.walk.specs.Steps.{layout_of}
use Rattle.packed.specs.Steps.{broadcast_bytes, corrections_held, sent_bit, rows_sent}
use Rattle.mpc.specs.Steps.{Known}
use Rattle.keccak.specs.declared.sponge.Sponge.{Sponge}
use Rattle.hashing.specs.Inputs.{commitments_input}
use Rattle.hashing.specs.Digest.{taken}
use Rattle.party.specs.Derive.{commitment_of}
use Rattle.party.specs.Derive as derive
use Rattle.instance.specs.Instance.{seed_of, master_corrections, master_run}

-- n parties, with a tree of height h
pub record Tree (n h : ℕ) : Type 0 where
  pub parties : is_party_count n ≡ true
  pub height : h ≡ height_of n

-- an instance of a legal circuit with n parties, and a work memory
pub record Lent (s : List ℕ) (z : Sizes) (n h : ℕ) (memory : List ℕ) : Type 0 where
  pub known : Known s z
  pub tree : Tree n h
  pub room : 64 * wire_count z + 4096 ≤ length memory

-- the seeds of n parties that stand in the memory
abbrev pub seeds_held : Sizes → ℕ → List ℕ → List ℕ
seeds_held z n m = take (32 * n) (drop (seeds_at (layout_of z)) m)

-- a memory with the seeds of n parties
pub record Seeded (z : Sizes) (n : ℕ) (m : List ℕ) : Type 0 where
  pub some : 1 ≤ n
  pub few : n ≤ 64
  pub room : seeds_at (layout_of z) + 32 * n ≤ length m

-- the sponge of h_j has taken in the commitments of all parties before n − 1, from these seeds: they need no corrections
pub record FirstTaken (n : ℕ) (j : Context) (seeds : List ℕ) (s : Sponge) : Type 0 where
  pub first : s ≡ taken (commitments_input j.number (flatten (tabulate (n - 1) (λ i. commitment_of j n i seeds []))))

-- party i's seed and r, where party p's row is zero, from the leaves
abbrev pub seed_but : ℕ → Context → List ℕ → ℕ → List ℕ
seed_but p j leaves i = cond (eqb i p) (replicate 32 0) (derive.seed_row j i (row_of leaves 16 i))

-- party i's tape row, where party p's row is zero, from the seeds
abbrev pub tape_but : Circuit → ℕ → ℕ → Context → List ℕ → ℕ → List ℕ
tape_but c n p j seeds i = cond (eqb i p) (replicate (row_bytes c) 0) (derive.tape_row j i (seed_of seeds i) (used_bits c n i) (row_bytes c))

-- the tape rows of all parties but p, from their seeds
unfoldable pub tapes_but : Circuit → ℕ → ℕ → Context → List ℕ → List ℕ
tapes_but c n p j seeds = flatten (tabulate n (tape_but c n p j seeds))

-- the bytes of a chosen instance's stretch that need no run, with party p hidden: siblings, corrections, com_p
abbrev pub held_bytes : Sizes → ℕ → ℕ → ℕ → ℕ
held_bytes z n h p = 16 * h + cond (eqb (suc p) n) 0 (oct z.ands) + 32

-- party p's row of the broadcasts in the memory
unfoldable pub row_sent : Sizes → ℕ → List ℕ → List ℕ
row_sent z p m = pack (tabulate (8 * broadcast_bytes z) (λ t. ltb t (z.ands + z.outputs) && sent_bit (layout_of z) m p t))

-- the memory holds an instance's run on a witness, with what its master gives: corrections, and broadcasts
pub record Ran (c : Circuit) (z : Sizes) (n : ℕ) (j : Context) (witness master m : List ℕ) : Type 0 where
  pub corrections : corrections_held z m ≡ master_corrections c n j master
  pub rows : rows_sent (layout_of z) n (broadcast_bytes z) m ≡ rows_of n (master_run c n j witness master)
  pub row : (p : ℕ) → p < n → row_sent z p m ≡ pack (row_bits (master_run c n j witness master) p)
