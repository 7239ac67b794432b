-- The shelf's page (document 01, "Shelf"): its fields, its two chains, and when it is sound.
-- Assumes nothing.
use Rattle.std.specs.Prelude.{Bool, true, cond, ◌&&◌, List, [], ◌∷◌, ◌++◌, map, ℕ, zero, suc, ◌+◌, ◌-◌, ◌*◌, eqb, leb, length, take, drop, replicate}
use Rattle.bits.specs.Bytes.{le_at, same_bytes}
use Rattle.bits.specs.Counting.{count}

-- "Header: S u16"
unfoldable pub size_of : List ℕ → ℕ
size_of p = le_at 2 p 0

-- "ready head u16"
unfoldable pub ready_head : List ℕ → ℕ
ready_head p = le_at 2 p 2

-- "spare head u16"
unfoldable pub spare_head : List ℕ → ℕ
spare_head p = le_at 2 p 4

-- "zero u16"
unfoldable pub zero_field : List ℕ → ℕ
zero_field p = le_at 2 p 6

-- "draws u32"
unfoldable pub draws_of : List ℕ → ℕ
draws_of p = le_at 4 p 8

-- "then slots 1..S of 18 bytes": where slot k starts
abbrev pub slot_at : ℕ → ℕ
slot_at k = 12 + 18 * (k - 1)

-- "next u16"
unfoldable pub next_of : List ℕ → ℕ → ℕ
next_of p k = le_at 2 p (slot_at k)

-- "root (16)"
unfoldable pub root_of : List ℕ → ℕ → List ℕ
root_of p k = take 16 (drop (slot_at k + 2) p)

-- a zero root
abbrev pub zero_root : List ℕ
zero_root = replicate 16 0

-- the first n slots on the chain from slot k, which 0 ends
unfoldable pub chain : (ℕ → ℕ) → ℕ → ℕ → List ℕ
chain next zero k = []
chain next (suc n) k = cond (eqb k 0) [] (k ∷ chain next n (next k))

-- the chain from slot k leads through at most n slots, none above S, and is "ended by 0"
unfoldable pub ended : (ℕ → ℕ) → ℕ → ℕ → ℕ → Bool
ended next S zero k = eqb k 0
ended next S (suc n) k = cond (eqb k 0) true (leb k S && ended next S n (next k))

-- the slots on the ready chain
unfoldable pub ready_slots : List ℕ → List ℕ
ready_slots p = chain (next_of p) (size_of p) (ready_head p)

-- the slots on the spare chain
unfoldable pub spare_slots : List ℕ → List ℕ
spare_slots p = chain (next_of p) (size_of p) (spare_head p)

-- f is 1 at each of the slots 1..n
unfoldable pub all_one : (ℕ → ℕ) → ℕ → Bool
all_one f zero = true
all_one f (suc n) = eqb (f (suc n)) 1 && all_one f n

-- the slots of the list hold a zero root
unfoldable pub blank : List ℕ → List ℕ → Bool
blank p [] = true
blank p (k ∷ l) = same_bytes (root_of p k) zero_root && blank p l

-- "its length is not 12 + 18S" is unsound; "S u16 (1..255)"; "zero u16"
unfoldable pub header_sound : List ℕ → Bool
header_sound p = eqb (length p) (12 + 18 * size_of p) && (leb 1 (size_of p) && (leb (size_of p) 255 && eqb (zero_field p) 0))

-- "The ready chain and the spare chain, each ended by 0, together visit every slot exactly once. Spare slots hold a zero root"
unfoldable pub chains_from : List ℕ → ℕ → ℕ → ℕ → Bool
chains_from p S ready spare =
    ended (next_of p) S S ready
    && (ended (next_of p) S S spare
    && (all_one (λ k. count k (chain (next_of p) S ready ++ chain (next_of p) S spare)) S
    && blank p (chain (next_of p) S spare)))

-- "A shelf is unsound if its length is not 12 + 18S or a rule of this section fails."
unfoldable pub sound : List ℕ → Bool
sound p = header_sound p && chains_from p (size_of p) (ready_head p) (spare_head p)

-- the ready roots in chain order
unfoldable pub ready_roots : List ℕ → List (List ℕ)
ready_roots p = map (root_of p) (ready_slots p)
