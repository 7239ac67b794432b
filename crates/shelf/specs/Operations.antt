-- The operations stock and draw (document 01, "Each operation's refusals, in order"): answer and page.
-- Assumes nothing.
use Rattle.std.specs.Prelude.{not, List, [], ◌∷◌, ℕ, ◌+◌, eqb, length, get_or, ⊤, Result}
use Rattle.std.proofs.lemmas.List.Edits.{sets}
use Rattle.bits.specs.Bytes.{le_bytes}
use Rattle.refusal.specs.declared.Refusal.{Refusal}
use Rattle.refusal.specs.Outcome.{Answer, success, told, Outcome, done, unless}
use Rattle.shelf_page.specs.Page.{ready_head, spare_head, draws_of, next_of, root_of, zero_root, sound}
use Rattle.shelf_slots.specs.Slots.{put_slot, put_heads}

-- an answer in the paper's terms, where a success has these values: of stock none
abbrev pub paper : Result ⊤ Refusal → List ℕ → Answer
paper r values = told (λ _. values) r

-- the answer, and what the one lent buffer, the page, then holds
abbrev pub outcome : Result ⊤ Refusal → List ℕ → List ℕ → Outcome
outcome r values page = record { answer = paper r values; left = page ∷ [] }

-- the same of draw: the values of a success are the bytes of the root that it gives
abbrev pub draw_paper : Result (List ℕ) Refusal → Answer
draw_paper r = told (λ root. root) r

abbrev pub draw_outcome : Result (List ℕ) Refusal → List ℕ → Outcome
draw_outcome r page = record { answer = draw_paper r; left = page ∷ [] }

-- the page that an outcome leaves
abbrev pub page_left : Outcome → List ℕ
page_left o = get_or o.left 0 []

-- "Stocking writes the lent root into the first spare slot and moves that slot to the front of ready."
unfoldable pub stocked : List ℕ → List ℕ → List ℕ
stocked p root =
    let k : ℕ = spare_head p in
    put_heads k (next_of p k) (put_slot k (ready_head p) root p)

-- "Drawing gives the first ready root, zeroes it, moves its slot to the front of spare and adds 1 to draws."
unfoldable pub drawn : List ℕ → List ℕ
drawn p =
    let k : ℕ = ready_head p in
    sets (put_heads (next_of p k) k (put_slot k (spare_head p) zero_root p)) 8 (le_bytes 4 (draws_of p + 1))

-- "Stock: 14 an unsound shelf; 6 a root not of 16 bytes; 17 the spare chain is empty."
unfoldable pub stock_op : List ℕ → List ℕ → Outcome
stock_op p root =
    let lent : List (List ℕ) = p ∷ [] in
    unless (sound p) 14 lent
    (unless (eqb (length root) 16) 6 lent
    (unless (not (eqb (spare_head p) 0)) 17 lent
    (done (stocked p root ∷ []))))

-- a draw that gives a root, and leaves a page
abbrev pub gives : List ℕ → List ℕ → Outcome
gives root page = record { answer = success root; left = page ∷ [] }

-- "Draw: 14; 15 the host's count is not draws; 16 the ready chain is empty; 18 draws is 4,294,967,295."
unfoldable pub draw_op : List ℕ → ℕ → Outcome
draw_op p n =
    let lent : List (List ℕ) = p ∷ [] in
    unless (sound p) 14 lent
    (unless (eqb n (draws_of p)) 15 lent
    (unless (not (eqb (ready_head p) 0)) 16 lent
    (unless (not (eqb (draws_of p) 4294967295)) 18 lent
    (gives (root_of p (ready_head p)) (drawn p)))))
