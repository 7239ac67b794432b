-- What upgrading keeps (document 02, order 7): "slots, chain and meaning", and the old reading's refusals.
-- Assumes nothing.
use Rattle.std.specs.Prelude.{◌≡◌, List, [], ◌∷◌, ℕ, ◌<◌, ◌≤◌, length, get_or}
use Rattle.refusal.specs.Outcome.{refusal_at, success, Outcome}
use Rattle.circuit.specs.Building.{front}
use Rattle.circuit.specs.Circuit.{Circuit}
use Rattle.circuit.specs.Fields.{refused, legal}
use Rattle.circuit.specs.File.{width, read_circuit}
use Rattle.circuit.specs.Meaning.{SameFields}
use Rattle.upgrade.specs.Upgrade.{old_width, read_old, upgraded, upgrade_op}

-- Theorem, converted-same: the new file of a legal file of the old form has its fields, slot by slot, and reads as the same circuit; it is
-- written where the lent output is long enough. What the old reading refuses is refused with that number and slot
pub record ConvertedSame : Type 0 where
  pub fields : (s : List ℕ) (c : Circuit) → ((i : ℕ) → get_or s i 0 < 256) → read_old s ≡ legal c → SameFields old_width width s (upgraded s)
  pub same : (s : List ℕ) (c : Circuit) → ((i : ℕ) → get_or s i 0 < 256) → read_old s ≡ legal c → read_circuit (upgraded s) ≡ legal c
  pub written : (s out : List ℕ) (c : Circuit) → read_old s ≡ legal c → length (upgraded s) ≤ length out
      → ◌≡◌ {A = Outcome} (upgrade_op s out) (record { answer = success (length (upgraded s) ∷ []); left = front (upgraded s) out ∷ [] })
  pub damaged : (s out : List ℕ) (k x : ℕ) → read_old s ≡ refused k x
      → ◌≡◌ {A = Outcome} (upgrade_op s out) (record { answer = refusal_at k x; left = out ∷ [] })
