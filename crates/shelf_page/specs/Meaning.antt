-- What a sound page means (document 01, "Shelf"): the rules of that section, apart from the walk that tests them, and the theorem
-- that the test is these rules.
-- Assumes nothing.
use Rattle.std.specs.Prelude.{◌≡◌, true, List, [], ◌∷◌, ◌≢◌, ℕ, ◌+◌, ◌*◌, ◌≤◌, ◌<◌, length}
use Rattle.bits.specs.Counting.{count}
use Rattle.shelf_page.specs.Page.{size_of, ready_head, spare_head, zero_field, next_of, root_of, zero_root, ready_slots, spare_slots, sound}

-- from slot k the links lead through the slots of the list, one after the other, and then to 0
abbrev pub Leads : (ℕ → ℕ) → ℕ → List ℕ → Type 0
Leads next k [] = k ≡ 0
Leads next k (x ∷ l) = (k ≡ x) × ((x ≢ 0) × Leads next (next x) l)

-- a page by the rules of the section, with its ready chain and its spare chain: the length 12 + 18S; "S u16 (1..255)"; "zero u16";
-- "The ready chain and the spare chain, each ended by 0, together visit every slot exactly once. Spare slots hold a zero root"
pub record HasChains (p ready spare : List ℕ) : Type 0 where
  pub long : length p ≡ 12 + 18 * size_of p
  pub low : 1 ≤ size_of p
  pub high : size_of p ≤ 255
  pub zeroed : zero_field p ≡ 0
  pub ready_leads : Leads (next_of p) (ready_head p) ready
  pub spare_leads : Leads (next_of p) (spare_head p) spare
  pub once : (k : ℕ) → 1 ≤ k → k ≤ size_of p → count k ready + count k spare ≡ 1
  pub no_other : (k : ℕ) → size_of p < k → count k ready + count k spare ≡ 0
  pub blanks : (k : ℕ) → 1 ≤ count k spare → root_of p k ≡ zero_root

-- Theorem: a page passes the test exactly if it has such chains, and then they are its ready slots and its spare slots
pub record SoundTheorem : Type 0 where
  pub means : (p : List ℕ) → sound p ≡ true → HasChains p (ready_slots p) (spare_slots p)
  pub passes : (p ready spare : List ℕ) → HasChains p ready spare → sound p ≡ true
  pub walked : (p ready spare : List ℕ) → HasChains p ready spare → (ready_slots p ≡ ready) × (spare_slots p ≡ spare)
