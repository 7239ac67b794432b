-- The state of the shared checker as bytes (document 02, order 9: "each entry or call given the state that the last one left").
-- The layout is at the head of src/lib.rt. Every string of these bytes is a state.
-- Assumes nothing.
use Rattle.std.specs.Prelude.{cond, ℕ, ◌+◌, ◌*◌, ◌%◌, eqb, ltb, get_or, replicate}
use mathlib.Core.List.{List, [], ◌∷◌, ◌++◌, flatten}
use Rattle.bits.specs.Bits.{tabulate}
use Rattle.bits.specs.Bytes.{le_at, le_bytes}
use Rattle.permutation.specs.Permutation.{lane_bytes}
use Rattle.keccak.specs.declared.sponge.Sponge.{Sponge}
use Rattle.schedule.specs.Schedule.{Slot, idle, waiting, State, begin}
use Rattle.schedule.specs.Callers.{callers, last_served}
use Rattle.shared.specs.declared.Place.{Place}
use Rattle.shared.specs.declared.Places.{Places}
use Rattle.shared.specs.declared.Job.{Job}

-- the bytes of a slot, and of the state
abbrev pub slot_length : ℕ
slot_length = 471

abbrev pub state_length : ℕ
state_length = 7537

-- ---- what bytes say

-- a place: its start and its length
unfoldable pub place_at : List ℕ → ℕ → Place
place_at s k = record { start = le_at 8 s k; len = le_at 8 s (k + 8) }

-- the places of circuit, y, message and proof
unfoldable pub places_at : List ℕ → ℕ → Places
places_at s k = record { circuit = place_at s k; y = place_at s (k + 16); message = place_at s (k + 32); proof = place_at s (k + 48) }

-- a sponge: 25 lanes, and the fill, which is below the rate
unfoldable pub sponge_at : List ℕ → ℕ → Sponge
sponge_at s k = record { lanes = tabulate 25 (λ i. le_at 8 s (k + 8 * i)); fill = get_or s (k + 200) 0 % 136 }

-- a proof: its places, the number of its next instance, and its two digests
unfoldable pub job_in : List ℕ → ℕ → Job
job_in s k =
    record {
      places = places_at s k;
      next = le_at 4 s (k + 64);
      digests = record { commitments = sponge_at s (k + 68); online = sponge_at s (k + 269) };
    }

-- a slot: idle where its first byte is 0
unfoldable pub slot_in : List ℕ → ℕ → Slot Job
slot_in s k = cond (eqb (get_or s k 0) 0) idle (waiting (job_in s (k + 1)))

-- the state: who was served last, and the slots of the callers
unfoldable pub decode_state : List ℕ → State Job
decode_state s =
    record { last = last_served (get_or s 0 0); slot = λ c. cond (ltb c callers) (slot_in s (1 + slot_length * c)) idle }

-- ---- the bytes of a state

unfoldable pub place_bytes : Place → List ℕ
place_bytes p = le_bytes 8 p.start ++ le_bytes 8 p.len

unfoldable pub places_bytes : Places → List ℕ
places_bytes p = place_bytes p.circuit ++ place_bytes p.y ++ place_bytes p.message ++ place_bytes p.proof

unfoldable pub sponge_bytes : Sponge → List ℕ
sponge_bytes s = lane_bytes s.lanes ++ (s.fill % 136 ∷ [])

unfoldable pub job_bytes : Job → List ℕ
job_bytes j = places_bytes j.places ++ le_bytes 4 j.next ++ sponge_bytes j.digests.commitments ++ sponge_bytes j.digests.online

-- an idle slot is all zero
unfoldable pub slot_bytes : Slot Job → List ℕ
slot_bytes idle = replicate slot_length 0
slot_bytes (waiting j) = 1 ∷ job_bytes j

unfoldable pub encode_state : State Job → List ℕ
encode_state s = begin s.last ∷ flatten (tabulate callers (λ c. slot_bytes (s.slot c)))
