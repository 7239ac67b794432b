-- What the C functions return and leave: 0 for success or the refusal's number, and the lent buffers; the slot that
-- wv_fault_slot and wv_upgrade_slot return.
-- Assumes nothing.
use Rattle.std.specs.Prelude.{List, [], ◌∷◌, ℕ}
use Rattle.refusal.specs.Outcome.{Answer, refusal_at, success}

-- the status of an answer
unfoldable pub status : Answer → ℕ
status (refusal_at k x) = k
status (success vs) = 0

-- the values of a success, or what the lent numbers were
unfoldable pub values : Answer → List ℕ → List ℕ
values (refusal_at k x) lent = lent
values (success vs) lent = vs

-- the slot that a refusal tells; 0 for a success
unfoldable pub slot : Answer → ℕ
slot (refusal_at k x) = x
slot (success vs) = 0

-- the length that wv_small tells: that of the file, 0 where the last has passed; or what the lent number was
unfoldable pub length_told : Answer → List ℕ → List ℕ
length_told (refusal_at k x) lent = lent
length_told (success []) lent = 0 ∷ []
length_told (success (k ∷ vs)) lent = k ∷ []
