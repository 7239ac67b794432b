-- The plain shelf (document 01, "Shelf"): no page, no slots; the ready roots in order, each with its name.
-- Assumes nothing.
use Rattle.std.specs.Prelude.{cond, List, [], ◌∷◌, map, ℕ, ◌+◌, eqb, length}
use Rattle.refusal.specs.Outcome.{Answer, refusal, success}

-- a root with the name of its stocking
pub record Named : Type 0 where
  pub name : ℕ
  pub root : List ℕ

-- "It holds S, .. draws, and the ready roots in chain order, each named by its stocking"
pub record Plain : Type 0 where
  pub size : ℕ
  pub draws : ℕ
  pub ready : List Named

-- the names of the ready roots
abbrev pub names : List Named → List ℕ
names l = map (λ (r : Named). r.name) l

-- the ready roots, names aside
abbrev pub roots : List Named → List (List ℕ)
roots l = map (λ (r : Named). r.root) l

-- "6 for a root not of 16 bytes; 17 if S roots are ready; else it is accepted and the root goes in front, named by its place in the list."
unfoldable pub plain_stock : ℕ → List ℕ → Plain → Answer × Plain
plain_stock place root s =
    cond (eqb (length root) 16)
    (cond (eqb (length s.ready) s.size)
    (refusal 17, s)
    (success [], record { size = s.size; draws = s.draws; ready = record { name = place; root = root } ∷ s.ready }))
    (refusal 6, s)

-- what a draw does: its answer, with the root where one is given; the name that it gives, if any; and the shelf
pub record PlainDrawn : Type 0 where
  pub answer : Answer
  pub given : List ℕ
  pub shelf : Plain

-- a refusal gives no root and changes nothing
abbrev pub no_draw : ℕ → Plain → PlainDrawn
no_draw n s = record { answer = refusal n; given = []; shelf = s }

-- "16 if none is ready; 18 if draws is 4,294,967,295; else the front root is given and leaves, and draws .. grow by 1."
unfoldable pub front_drawn : List Named → Plain → PlainDrawn
front_drawn [] s = no_draw 16 s
front_drawn (r ∷ l) s =
    cond (eqb s.draws 4294967295)
    (no_draw 18 s)
    (record { answer = success r.root; given = r.name ∷ []; shelf = record { size = s.size; draws = s.draws + 1; ready = l } })

-- "Draw: 15 if the log's count is not draws", else as above
unfoldable pub plain_draw : ℕ → Plain → PlainDrawn
plain_draw n s = cond (eqb n s.draws) (front_drawn s.ready s) (no_draw 15 s)
