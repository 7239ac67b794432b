-- The counts of a history: the page's draws do not exceed the log's count, and that stays a u32.
-- Assumes nothing.
use mathlib.Core.Path.{◌≡◌, sym, subst}
use mathlib.Core.List.{List, [], ◌∷◌}
use mathlib.Core.Logic.{⊎_elim}
use Prim.Native.Nat.{ℕ, zero, suc, ◌+◌, ◌≤◌}
use native.Mathlib.Omega.{arith}
use lib.ListN.{take}
use Rattle.refusal.specs.Outcome.{refusal, success}
use Rattle.shelf_page.specs.Page.{ready_head, draws_of, root_of}
use Rattle.shelf.specs.Operations.{page_left, draw_op}
use Rattle.shelf.specs.History.{Event, stock, draw, back, Host, present, next, counted, start, step, run, IsHistory, HistoryCounts}
use Rattle.shelf.proofs.Simulation.{draws-u32, history-cons, step-place}
use Rattle.shelf.proofs.Host.{draw-keeps, AllKept, start-kept, step_kept, run-kept}

-- an accepted draw was not the last that a u32 counts
draw-u32 : (h : Host (List ℕ)) → AllKept h → h.log ≤ 4294967295 → counted (draw_op (present h) h.log).answer h.log ≤ 4294967295
draw-u32 h c l =
    let p = present h in
    let n = h.log in
    let k = c h.place (omega arith) in
    let d = draw-keeps p n k.is_sound k.u32 in
    ⊎_elim
    (λ (w : (m : ℕ) × (((draw_op p n).answer ≡ refusal m) × (page_left (draw_op p n) ≡ p))). rw w.1.0 l)
    (λ (w : ((draw_op p n).answer ≡ success (root_of p (ready_head p))) × ((n ≡ draws_of p) × (draws_of (page_left (draw_op p n)) ≡ n + 1))). rw w.0 (omega (arith, d.u32, w.1.1)))
    d.which

-- so the log's count stays a u32
step-u32 : (h : Host (List ℕ)) (e : Event) → AllKept h → h.log ≤ 4294967295 → (step h e).1.log ≤ 4294967295
unfolding step next
step-u32 h (stock r) c l = l
step-u32 h draw c l = draw-u32 h c l
step-u32 h (back k) c l = l

run-u32 : (es : List Event) (h : Host (List ℕ)) → IsHistory h.place es → AllKept h → h.log ≤ 4294967295 → (run h es).1.log ≤ 4294967295
unfolding run
run-u32 [] h o c l = l
run-u32 (e ∷ es) h o c l =
    let a = history-cons h.place e es o in
    run-u32 es (step h e).1 (subst (λ (i : ℕ). IsHistory i es) (sym (step-place h e)) a.1) (step_kept h e a.0 c) (step-u32 h e c l)

-- the first events of a history are one
history-take : (k i : ℕ) (es : List Event) → IsHistory i es → IsHistory i (take k es)
unfolding IsHistory
history-take zero i es o = tt
history-take (suc k) i [] o = tt
history-take (suc k) i (stock r ∷ es) o = history-take k (suc i) es o
history-take (suc k) i (draw ∷ es) o = history-take k (suc i) es o
history-take (suc k) i (back j ∷ es) o = (o.0, history-take k (suc i) es o.1)

-- before each call draws is at most the log's count, and that is at most 4,294,967,295
pub history-counts : HistoryCounts
history-counts page log events o bytes t e k =
    let first = history-take k 0 events o in
    let c = start-kept page log bytes t e in
    let h = (run (start page log) (take k events)).1 in
    record {
      draws = (run-kept (take k events) (start page log) first c h.place (omega arith)).behind;
      log = run-u32 (take k events) (start page log) first c (omega (arith, draws-u32 page bytes));
    }
