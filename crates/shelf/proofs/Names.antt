-- No name is given by two accepted draws of the plain shelf, whatever pages are put back.
-- The names given, newest first, stand one for each count of the log: those given at counts below a page's draws are not ready on that page.
-- Assumes nothing.
use mathlib.Core.Path.{◌≡◌, refl, sym, ◌∙◌, subst}
use mathlib.Core.List.{List, [], ◌∷◌, ◌++◌}
use mathlib.Core.Logic.{◌≢◌, ⊎_elim}
use Prim.Native.Nat.{ℕ, zero, suc, ◌+◌, ◌-◌, ◌≤◌, ◌<◌}
use native.Mathlib.Omega.{arith}
use lib.ListN.{length, drop}
use Rattle.bits.proofs.Numbers.{eq-or-ne}
use Rattle.bits.specs.Counting.{count}
use Rattle.bits.proofs.Counting.{count-nil, count-cons, count_same, count-other, count-append}
use Rattle.refusal.specs.Outcome.{success}
use Rattle.shelf.specs.Plain.{Named, Plain, names, plain_stock, PlainDrawn, no_draw, plain_draw}
use Rattle.shelf.specs.History.{Event, stock, draw, back, Host, present, next, counted, plain_step, plain_run, IsHistory}
use Rattle.shelf.proofs.Simulation.{plain-6, plain-17, plain-stocked, plain-15, plain-16, plain-18, plain-given, next-all, Legal, history-cons}

-- a part of a list has no more
count-drop : (x n : ℕ) (l : List ℕ) → count x (drop n l) ≤ count x l
count-drop x zero l = omega arith
count-drop x (suc n) [] = omega arith
count-drop x (suc n) (y ∷ l) = omega (arith, count-cons x y l, count-drop x n l)

-- of a shelf as it was after one of the first i events, of `end` in all: its draws do not exceed the log's count; the names given
-- at counts below its draws are not ready on it, and no two names on it are alike; and no place still to come is a name on it
pub record Neat (end i log : ℕ) (given : List ℕ) (s : Plain) : Type 0 where
  pub behind : s.draws ≤ log
  pub apart : (x : ℕ) → count x (drop (log - s.draws) given) + count x (names s.ready) ≤ 1
  pub fresh : (x : ℕ) → i ≤ x → x < end → count x (names s.ready) ≡ 0

-- of every shelf that the history has had, and of the names given
pub record Clean (end : ℕ) (h : Host Plain) (given : List ℕ) : Type 0 where
  pub few : (x : ℕ) → count x given ≤ 1
  pub fresh : (x : ℕ) → h.place ≤ x → x < end → count x given ≡ 0
  pub each : (k : ℕ) → k ≤ h.place → Neat end h.place h.log given (h.pages k)

-- one event more, which gives no name
neat-later : (end i log : ℕ) (given : List ℕ) (s : Plain) → Neat end i log given s → Neat end (suc i) log given s
neat-later end i log given s c = record { behind = c.behind; apart = c.apart; fresh = λ x a b. c.fresh x (omega arith) b }

clean-next : (end : ℕ) (h : Host Plain) (given : List ℕ) (s : Plain) → Clean end h given → Neat end (suc h.place) h.log given s → Clean end (next h s h.log) given
unfolding next
clean-next end h given s c n =
    record {
      few = c.few;
      fresh = λ x a b. c.fresh x (omega arith) b;
      each =
          next-all (Neat end (suc h.place) h.log given) h s h.log (λ k l. neat-later end h.place h.log given (h.pages k) (c.each k l)) n;
    }

-- the shelf present
clean-present : (end : ℕ) (h : Host Plain) (given : List ℕ) → Clean end h given → Neat end h.place h.log given (present h)
clean-present end h given c = c.each h.place (omega arith)

-- a stocking
stock-neat : (end i log : ℕ) (given : List ℕ) (s : Plain) (root : List ℕ) → i < end → ((x : ℕ) → i ≤ x → x < end → count x given ≡ 0) → Neat end i log given s
    → Neat end (suc i) log given (plain_stock i root s).1
stock-neat end i log given s root l f c =
    ⊎_elim
    (λ (a : length root ≡ 16).
    ⊎_elim
    (λ (b : length s.ready ≡ s.size). rw (plain-17 i root s a b) (neat-later end i log given s c))
    (λ (b : length s.ready ≢ s.size).
    rw (plain-stocked i root s a b)
    (record {
      behind = c.behind;
      apart =
          λ x.
          ⊎_elim
          (λ (e : x ≡ i).
          rw e (omega (arith, count_same i (names s.ready), c.fresh i (omega arith) l, f i (omega arith) l, count-drop i (log - s.draws) given)))
          (λ (e : x ≢ i). omega (arith, count-other x i (names s.ready) e, c.apart x))
          (eq-or-ne x i);
      fresh = λ x u v. count-other x i (names s.ready) (λ e. absurd (omega arith)) ∙ c.fresh x (omega arith) v;
    }))
    (eq-or-ne (length s.ready) s.size))
    (λ (a : length root ≢ 16). rw (plain-6 i root s a) (neat-later end i log given s c))
    (eq-or-ne (length root) 16)

-- what a draw leaves
abbrev After : ℕ → Host Plain → List ℕ → PlainDrawn → Type 0
After end h given d = Clean end (next h d.shelf (counted d.answer h.log)) (d.given ++ given)

-- a refused one
draw-refused : (end : ℕ) (h : Host Plain) (given : List ℕ) (m : ℕ) → Clean end h given → After end h given (no_draw m (present h))
draw-refused end h given m c = clean-next end h given (present h) c (neat-later end h.place h.log given (present h) (clean-present end h given c))

-- a name more has been given, at the log's count, which is above every page's draws
given-later : (end i log : ℕ) (given : List ℕ) (y : ℕ) (s : Plain) → Neat end i log given s → Neat end (suc i) (log + 1) (y ∷ given) s
given-later end i log given y s c =
    let b = c.behind in
    let e : log + 1 - s.draws ≡ suc (log - s.draws) = omega arith in
    record {
      behind = omega arith;
      apart = λ x. rw e (c.apart x);
      fresh = λ x u v. c.fresh x (omega arith) v;
    }

-- an accepted one
draw-given : (end : ℕ) (h : Host Plain) (given : List ℕ) (r : Named) (l : List Named) → h.log ≡ (present h).draws → (present h).ready ≡ r ∷ l → Clean end h given
    → After end h given (record { answer = success r.root; given = r.name ∷ []; shelf = record { size = (present h).size; draws = (present h).draws + 1; ready = l } })
unfolding next
draw-given end h given r l e q c =
    let s = present h in
    let y = r.name in
    let n = clean-present end h given c in
    let z : h.log - s.draws ≡ 0 = omega arith in
    let w : h.log + 1 - (s.draws + 1) ≡ 0 = omega arith in
    let ap1 : (x : ℕ) → count x given + count x (y ∷ names l) ≤ 1 = λ (x : ℕ). rw (z, q) at (n.apart x) in
    let fr : (x : ℕ) → h.place ≤ x → x < end → count x (y ∷ names l) ≡ 0 = λ (x : ℕ) u v. rw q at (n.fresh x u v) in
    record {
      few = λ x. omega (arith, ap1 x, count-cons x y given, count-cons x y (names l));
      fresh = λ x u v. omega (arith, fr x (omega arith) v, c.fresh x (omega arith) v, count-cons x y given, count-cons x y (names l));
      each =
          next-all (Neat end (suc h.place) (h.log + 1) (y ∷ given)) h (record { size = s.size; draws = s.draws + 1; ready = l }) (h.log + 1)
          (λ k m. given-later end h.place h.log given y (h.pages k) (c.each k m))
          (record {
            behind = omega arith;
            apart = λ x. rw w (omega (arith, ap1 x, count-cons x y given, count-cons x y (names l)));
            fresh = λ x u v. omega (arith, fr x (omega arith) v, count-cons x y (names l));
          });
    }

draw-front : (end : ℕ) (h : Host Plain) (given : List ℕ) (l : List Named) → h.log ≡ (present h).draws → (present h).ready ≡ l → Clean end h given → After end h given (plain_draw h.log (present h))
draw-front end h given [] e q c = subst (After end h given) (sym (plain-16 h.log (present h) e q)) (draw-refused end h given 16 c)
draw-front end h given (r ∷ l) e q c =
    ⊎_elim
    (λ (d : (present h).draws ≡ 4294967295). subst (After end h given) (sym (plain-18 h.log (present h) r l e q d)) (draw-refused end h given 18 c))
    (λ (d : (present h).draws ≢ 4294967295). subst (After end h given) (sym (plain-given h.log (present h) r l e q d)) (draw-given end h given r l e q c))
    (eq-or-ne (present h).draws 4294967295)

draw-clean : (end : ℕ) (h : Host Plain) (given : List ℕ) → Clean end h given → After end h given (plain_draw h.log (present h))
draw-clean end h given c =
    ⊎_elim
    (λ (e : h.log ≡ (present h).draws). draw-front end h given (present h).ready e refl c)
    (λ (e : h.log ≢ (present h).draws). subst (After end h given) (sym (plain-15 h.log (present h) e)) (draw-refused end h given 15 c))
    (eq-or-ne h.log (present h).draws)

-- one event
pub step-clean : (end : ℕ) (h : Host Plain) (given : List ℕ) (e : Event) → h.place < end → Legal h.place e → Clean end h given → Clean end (plain_step h e).host ((plain_step h e).given ++ given)
unfolding plain_step
step-clean end h given (stock r) l o c =
    clean-next end h given (plain_stock h.place r (present h)).1 c
    (stock-neat end h.place h.log given (present h) r l c.fresh (clean-present end h given c))
step-clean end h given draw l o c = draw-clean end h given c
step-clean end h given (back k) l o c = clean-next end h given (h.pages k) c (neat-later end h.place h.log given (h.pages k) (c.each k o))

-- an event more
plain-place : (h : Host Plain) (e : Event) → (plain_step h e).host.place ≡ suc h.place
unfolding plain_step next
plain-place h (stock r) = refl
plain-place h draw = refl
plain-place h (back k) = refl

-- the whole list
pub run-clean : (end : ℕ) (es : List Event) (h : Host Plain) (given : List ℕ) → h.place + length es ≡ end → IsHistory h.place es → Clean end h given
    → (x : ℕ) → count x given + count x (plain_run h es).given ≤ 1
unfolding plain_run
run-clean end [] h given n l c x = omega (arith, c.few x, count-nil x)
run-clean end (e ∷ es) h given n l c x =
    let o = history-cons h.place e es l in
    let p = plain-place h e in
    let s = step-clean end h given e (omega arith) o.0 c in
    let g = (plain_step h e).given in
    let r = run-clean end es (plain_step h e).host (g ++ given) (omega arith) (subst (λ (i : ℕ). IsHistory i es) (sym p) o.1) s x in
    omega (arith, count-append x g given, count-append x g (plain_run (plain_step h e).host es).given)
