-- The status and the lent numbers of an answer, case by case.
-- Assumes nothing.
use mathlib.Core.Path.{◌≡◌, refl, sym, ap, ◌∙◌}
use mathlib.Core.List.{List, [], ◌∷◌}
use Prim.Native.Nat.{ℕ, ◌<◌, ◌^◌}
use Rattle.std.specs.Prelude.{Result, Ok, Err}
use Rattle.refusal.specs.Refusal.{number_of}
use Rattle.refusal.specs.declared.Refusal.{Refusal}
use Rattle.refusal.specs.Outcome.{Answer, Outcome}
use Rattle.circuit.specs.Operations.{read_op}
use Rattle.circuit.specs.Answers.{read_paper}
use Rattle.circuit.specs.declared.Fault.{Fault}
use Rattle.circuit.specs.declared.Sizes.{Sizes}
use Rattle.circuit.proofs.Small.{read_small, slot_small}
use Rattle.upgrade.specs.Upgrade.{upgrade_op}
use Rattle.upgrade.specs.Answers.{outcome as upgradeOutcome}
use Rattle.upgrade.proofs.Small.{slot_small as upgrade-slot-small}
use Rattle.shelf.specs.Operations.{draw_outcome}
use Rattle.shared_bytes.specs.Answers.{check_paper}
use Rattle.shared_bytes.specs.Operations.{start_op}
use Rattle.wivulameno.specs.Interface.{status, values, slot}

-- an operation with this answer, which leaves these buffers
abbrev Gives : Answer → List (List ℕ) → Outcome → Type 0
Gives a l o = ◌≡◌ {A = Outcome} (record { answer = a; left = l }) o

-- its status
pub said : (a : Answer) (l : List (List ℕ)) (o : Outcome) (n : ℕ) → Gives a l o → n ≡ status a → (n ≡ status o.answer) × (l ≡ o.left)
said a l o n e s = (s ∙ ap (λ (x : Outcome). status x.answer) e, ap (λ (x : Outcome). x.left) e)

-- with the numbers that it tells
pub told-numbers : (a : Answer) (l : List (List ℕ)) (o : Outcome) (n : ℕ) (w lent : List ℕ) → Gives a l o → (n ≡ status a) × (w ≡ values a lent)
    → (n ≡ status o.answer) × ((w ≡ values o.answer lent) × (l ≡ o.left))
told-numbers a l o n w lent e s =
    (s.0 ∙ ap (λ (x : Outcome). status x.answer) e, (s.1 ∙ ap (λ (x : Outcome). values x.answer lent) e, ap (λ (x : Outcome). x.left) e))

-- the start of the shared checker refuses nothing
pub start-status : ◌≡◌ {A = ℕ} 0 (status start_op.answer)
unfolding status start_op
start-status = refl

-- the numbers of a legal circuit fit 32 bits
pub legal-small : (s : List ℕ) (r : Result Sizes Fault) (z : Sizes) → r ≡ Ok z → read_paper r ≡ read_op s
    → (z.inputs < 2 ^ 32) × ((z.outputs < 2 ^ 32) × ((z.gates < 2 ^ 32) × (z.ands < 2 ^ 32)))
legal-small s r z e f = read_small s z (ap read_paper (sym e) ∙ f)

-- a legal circuit: 0, and its numbers
pub read_done : (a : Answer) (r : Result Sizes Fault) (z : Sizes) (lent : List ℕ) → r ≡ Ok z → read_paper r ≡ a
    → (◌≡◌ {A = ℕ} 0 (status a)) × ((z.inputs ∷ z.outputs ∷ z.gates ∷ z.ands ∷ []) ≡ values a lent)
unfolding status values
read_done a r z lent e f =
    let g : read_paper (Ok z) ≡ a = ap read_paper (sym e) ∙ f in
    (ap status g, ap (λ (x : Answer). values x lent) g)

-- a refused one: its number, and the lent numbers as they were
pub read-refused : (a : Answer) (r : Result Sizes Fault) (k : Fault) (n : ℕ) (lent : List ℕ) → r ≡ Err k → read_paper r ≡ a → n ≡ number_of k.refusal
    → (n ≡ status a) × (lent ≡ values a lent)
unfolding status values
read-refused a r k n lent e f h =
    let g : read_paper (Err k) ≡ a = ap read_paper (sym e) ∙ f in
    (h ∙ ap status g, ap (λ (x : Answer). values x lent) g)

-- the slot of a reading: none of a success
pub slot-legal : (a : Answer) (r : Result Sizes Fault) {z : Sizes} → r ≡ Ok z → read_paper r ≡ a → ◌≡◌ {A = ℕ} 0 (slot a)
unfolding slot
slot-legal a r {z} e f =
    let g : read_paper (Ok z) ≡ a = ap read_paper (sym e) ∙ f in
    ap slot g

-- that of a refusal
pub slot-refused : (a : Answer) (r : Result Sizes Fault) (k : Fault) → r ≡ Err k → read_paper r ≡ a → k.slot ≡ slot a
unfolding slot
slot-refused a r k e f =
    let g : read_paper (Err k) ≡ a = ap read_paper (sym e) ∙ f in
    ap slot g

-- which fits 32 bits
pub refused-small : (s : List ℕ) (r : Result Sizes Fault) (k : Fault) → r ≡ Err k → read_paper r ≡ read_op s → k.slot < 2 ^ 32
refused-small s r k e f = slot_small s k (ap read_paper (sym e) ∙ f)

-- a circuit file from one of the old form: 0, its length, and the buffer
pub upgrade-done : (o : Outcome) (r : Result ℕ Fault) (k : ℕ) (b lent : List ℕ) → r ≡ Ok k → upgradeOutcome r b ≡ o
    → (◌≡◌ {A = ℕ} 0 (status o.answer)) × (((k ∷ []) ≡ values o.answer lent) × ((b ∷ []) ≡ o.left))
unfolding status values
upgrade-done o r k b lent e f =
    let g : upgradeOutcome (Ok k) b ≡ o = ap (λ (x : Result ℕ Fault). upgradeOutcome x b) (sym e) ∙ f in
    (ap (λ (x : Outcome). status x.answer) g, (ap (λ (x : Outcome). values x.answer lent) g, ap (λ (x : Outcome). x.left) g))

-- a refused one: its number, and the buffer
pub upgrade-refused : (o : Outcome) (r : Result ℕ Fault) (k : Fault) (n : ℕ) (b lent : List ℕ) → r ≡ Err k → upgradeOutcome r b ≡ o → n ≡ number_of k.refusal
    → (n ≡ status o.answer) × ((lent ≡ values o.answer lent) × ((b ∷ []) ≡ o.left))
unfolding status values
upgrade-refused o r k n b lent e f h =
    let g : upgradeOutcome (Err k) b ≡ o = ap (λ (x : Result ℕ Fault). upgradeOutcome x b) (sym e) ∙ f in
    (h ∙ ap (λ (x : Outcome). status x.answer) g, (ap (λ (x : Outcome). values x.answer lent) g, ap (λ (x : Outcome). x.left) g))

-- the slot that it tells: none of a success
pub upgrade-slotless : (o : Outcome) (r : Result ℕ Fault) {k : ℕ} (b : List ℕ) → r ≡ Ok k → upgradeOutcome r b ≡ o → ◌≡◌ {A = ℕ} 0 (slot o.answer)
unfolding slot
upgrade-slotless o r {k} b e f =
    let g : upgradeOutcome (Ok k) b ≡ o = ap (λ (x : Result ℕ Fault). upgradeOutcome x b) (sym e) ∙ f in
    ap (λ (x : Outcome). slot x.answer) g

-- that of a refusal
pub upgrade_slot : (o : Outcome) (r : Result ℕ Fault) (k : Fault) (b : List ℕ) → r ≡ Err k → upgradeOutcome r b ≡ o → k.slot ≡ slot o.answer
unfolding slot
upgrade_slot o r k b e f =
    let g : upgradeOutcome (Err k) b ≡ o = ap (λ (x : Result ℕ Fault). upgradeOutcome x b) (sym e) ∙ f in
    ap (λ (x : Outcome). slot x.answer) g

-- which fits 32 bits
pub upgrade-small : (s out : List ℕ) (r : Result ℕ Fault) (k : Fault) (b : List ℕ) → r ≡ Err k → upgradeOutcome r b ≡ upgrade_op s out → k.slot < 2 ^ 32
upgrade-small s out r k b e f = upgrade-slot-small s out b k (ap (λ (x : Result ℕ Fault). upgradeOutcome x b) (sym e) ∙ f)

-- a call of the shared checker: 0, and how many instances were checked
pub check_done : (a : Answer) (r : Result ℕ Refusal) (n : ℕ) (lent : List ℕ) → r ≡ Ok n → check_paper r ≡ a
    → (◌≡◌ {A = ℕ} 0 (status a)) × ((n ∷ []) ≡ values a lent)
unfolding status values
check_done a r n lent e f =
    let g : check_paper (Ok n) ≡ a = ap check_paper (sym e) ∙ f in
    (ap status g, ap (λ (x : Answer). values x lent) g)

-- a refused one: its number, and the lent number as it was
pub check-refused : (a : Answer) (r : Result ℕ Refusal) (k : Refusal) (n : ℕ) (lent : List ℕ) → r ≡ Err k → check_paper r ≡ a → n ≡ number_of k
    → (n ≡ status a) × (lent ≡ values a lent)
unfolding status values
check-refused a r k n lent e f h =
    let g : check_paper (Err k) ≡ a = ap check_paper (sym e) ∙ f in
    (h ∙ ap status g, ap (λ (x : Answer). values x lent) g)

-- a draw that gives a root: 0, the root, and the page
pub draw-done : (o : Outcome) (r : Result (List ℕ) Refusal) (root p lent : List ℕ) → r ≡ Ok root → draw_outcome r p ≡ o
    → (◌≡◌ {A = ℕ} 0 (status o.answer)) × ((root ≡ values o.answer lent) × ((p ∷ []) ≡ o.left))
unfolding status values
draw-done o r root p lent e f =
    let g : draw_outcome (Ok root) p ≡ o = ap (λ (x : Result (List ℕ) Refusal). draw_outcome x p) (sym e) ∙ f in
    (ap (λ (x : Outcome). status x.answer) g, (ap (λ (x : Outcome). values x.answer lent) g, ap (λ (x : Outcome). x.left) g))

-- a refused one: its number, the lent root as it was, and the page
pub draw-refused : (o : Outcome) (r : Result (List ℕ) Refusal) (k : Refusal) (n : ℕ) (p lent : List ℕ) → r ≡ Err k → draw_outcome r p ≡ o
    → n ≡ number_of k → (n ≡ status o.answer) × ((lent ≡ values o.answer lent) × ((p ∷ []) ≡ o.left))
unfolding status values
draw-refused o r k n p lent e f h =
    let g : draw_outcome (Err k) p ≡ o = ap (λ (x : Result (List ℕ) Refusal). draw_outcome x p) (sym e) ∙ f in
    (h ∙ ap (λ (x : Outcome). status x.answer) g, (ap (λ (x : Outcome). values x.answer lent) g, ap (λ (x : Outcome). x.left) g))
