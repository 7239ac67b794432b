-- Theorem: the bytes keep the state. Over every list of entries and calls on bytes, each given the bytes that the last one left, the bytes are
-- those of the state that order 9's theorems are about.
-- Assumes nothing.
use Rattle.std.specs.Prelude.{◌≡◌, true, List, [], ◌∷◌, ℕ, ◌^◌, ◌≤◌, ◌<◌, length, get_or}
use Rattle.refusal.specs.Outcome.{Outcome}
use Rattle.keccak.specs.declared.sponge.Sponge.{Sponge}
use Rattle.schedule.specs.Schedule.{Slot, idle, waiting, State, empty, waits, begin}
use Rattle.schedule.specs.Callers.{callers}
use Rattle.shared.specs.declared.Place.{Place}
use Rattle.shared.specs.declared.Places.{Places}
use Rattle.shared.specs.declared.Job.{Job}
use Rattle.shared.specs.Operations.{Lent, enter, call, state_after}
use Rattle.state_bytes.specs.Bytes.{state_length, decode_state, encode_state}
use Rattle.shared_bytes.specs.Operations.{start_op, enter_op, call_op}

-- numbers that fit their fields
pub record PlaceFits (p : Place) : Type 0 where
  pub start : p.start < 2 ^ 64
  pub len : p.len < 2 ^ 64

pub record PlacesFit (p : Places) : Type 0 where
  pub circuit : PlaceFits p.circuit
  pub y : PlaceFits p.y
  pub message : PlaceFits p.message
  pub proof : PlaceFits p.proof

pub record SpongeFits (s : Sponge) : Type 0 where
  pub long : length s.lanes ≡ 25
  pub small : (i : ℕ) → get_or s.lanes i 0 < 2 ^ 64
  pub fill : s.fill < 136

pub record JobFits (j : Job) : Type 0 where
  pub places : PlacesFit j.places
  pub next : j.next < 2 ^ 32
  pub commitments : SpongeFits j.digests.commitments
  pub online : SpongeFits j.digests.online

abbrev pub SlotFits : Slot Job → Type 0
SlotFits idle = Unit {0}
SlotFits (waiting j) = JobFits j

pub record StateFits (s : State Job) : Type 0 where
  pub last : begin s.last ≤ callers
  pub among : (c : ℕ) → waits s c ≡ true → c < callers
  pub slots : (c : ℕ) → SlotFits (s.slot c)

-- what is lent: places of 64 bits, and a buffer of bytes
unfoldable pub LentFits : List Lent → Type 0
LentFits [] = Unit {0}
LentFits (enter c p buffer work ∷ events) = PlacesFit p × LentFits events
LentFits (call quota buffer work ∷ events) = ((i : ℕ) → get_or buffer i 0 < 256) × LentFits events

-- the bytes of the state that an operation leaves: the first of its lent buffers
abbrev pub state_left : Outcome → List ℕ
state_left r = get_or r.left 0 []

-- places by their numbers
abbrev pub numbers_of : Places → List ℕ
numbers_of p =
    p.circuit.start ∷ p.circuit.len ∷ p.y.start ∷ p.y.len ∷ p.message.start ∷ p.message.len ∷ p.proof.start ∷ p.proof.len ∷ []

-- the bytes after entries and calls
unfoldable pub bytes_after : List ℕ → List Lent → List ℕ
bytes_after state [] = state
bytes_after state (enter c p buffer work ∷ events) = bytes_after (state_left (enter_op state c (numbers_of p) buffer work)) events
bytes_after state (call quota buffer work ∷ events) = bytes_after (state_left (call_op state quota buffer [] work)) events

pub record BytesKeepState : Type 0 where
  -- decoding gives back what was encoded
  pub back : (s : State Job) → StateFits s → decode_state (encode_state s) ≡ s
  -- the bytes are as many as the lent array has
  pub long : (s : State Job) → StateFits s → length (encode_state s) ≡ state_length
  -- every string of bytes is a state that is given back
  pub total : (state : List ℕ) → ((i : ℕ) → get_or state i 0 < 256) → StateFits (decode_state state)
  -- "From the empty state on, each entry or call given the state that the last one left"
  pub follows : (events : List Lent) → LentFits events → decode_state (bytes_after (state_left start_op) events) ≡ state_after empty events
