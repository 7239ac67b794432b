-- One event on a page and on the plain shelf: equal answers, and the page stays sound with the plain shelf's S, draws and ready roots.
-- Assumes nothing.
use mathlib.Core.Path.{◌≡◌, refl, sym, ap, ap₂, ◌∙◌, subst}
use mathlib.Core.Bool.{true}
use mathlib.Core.List.{List, [], ◌∷◌, map}
use mathlib.Core.Logic.{◌≢◌, ⊎_elim}
use Prim.Native.Nat.{ℕ, suc, ◌+◌, ◌≤◌, ◌<◌}
use native.Mathlib.Omega.{arith}
use borrow.Author.Tests.{eq-eqb, ne_eqb, le-leb, lt-leb}
use lib.ListN.{length, get_or, length-map}
use Rattle.bits.proofs.Numbers.{lt-or-le, eq-or-ne}
use Rattle.bits.proofs.Little.{le_at-lt}
use Rattle.refusal.specs.Outcome.{refusal, success}
use Rattle.shelf_page.specs.Page.{ready_head, spare_head, draws_of, root_of, ready_slots, spare_slots, sound, ready_roots}
use Rattle.shelf.specs.Operations.{page_left, drawn, stock_op, draw_op}
use Rattle.shelf.specs.Plain.{Named, Plain, roots, plain_stock, no_draw, front_drawn, plain_draw}
use Rattle.shelf.specs.History.{Event, stock, draw, back, Host, present, next, counted, step, run, plain_step, plain_run, IsHistory, Agrees}
use Rattle.shelf.proofs.Operations.{stock-6, stock-17, stock-accepted, draw-15, draw-16, draw-18, draw-accepted}
use Rattle.shelf_page.proofs.Slots.{sound-chains}
use Rattle.shelf.proofs.Moves.{after-stock, after-draw, full, no-ready, none_from}

-- the plain shelf, case by case
module _ (i : ℕ) (root : List ℕ) (s : Plain) where
  pub plain-6 : length root ≢ 16 → plain_stock i root s ≡ (refusal 6, s)
  unfolding plain_stock
  plain-6 h = rw (ne_eqb (length root) 16 h)

  pub plain-17 : length root ≡ 16 → length s.ready ≡ s.size → plain_stock i root s ≡ (refusal 17, s)
  unfolding plain_stock
  plain-17 l h = rw (eq-eqb (length root) 16 l, eq-eqb (length s.ready) s.size h)

  pub plain-stocked : length root ≡ 16 → length s.ready ≢ s.size
      → plain_stock i root s ≡ (success [], record { size = s.size; draws = s.draws; ready = record { name = i; root = root } ∷ s.ready })
  unfolding plain_stock
  plain-stocked l h = rw (eq-eqb (length root) 16 l, ne_eqb (length s.ready) s.size h)

module _ (n : ℕ) (s : Plain) where
  pub plain-15 : n ≢ s.draws → plain_draw n s ≡ no_draw 15 s
  unfolding plain_draw
  plain-15 h = rw (ne_eqb n s.draws h)

  pub plain-16 : n ≡ s.draws → s.ready ≡ [] → plain_draw n s ≡ no_draw 16 s
  unfolding plain_draw front_drawn
  plain-16 c e = rw (eq-eqb n s.draws c, e)

  module _ (r : Named) (l : List Named) (c : n ≡ s.draws) (e : s.ready ≡ r ∷ l) where
    pub plain-18 : s.draws ≡ 4294967295 → plain_draw n s ≡ no_draw 18 s
    unfolding plain_draw front_drawn
    plain-18 h = rw (eq-eqb n s.draws c, e, eq-eqb s.draws 4294967295 h)

    pub plain-given : s.draws ≢ 4294967295
        → plain_draw n s ≡ record { answer = success r.root; given = r.name ∷ []; shelf = record { size = s.size; draws = s.draws + 1; ready = l } }
    unfolding plain_draw front_drawn
    plain-given h = rw (eq-eqb n s.draws c, e, ne_eqb s.draws 4294967295 h)

-- draws of a byte string is a u32
pub draws-u32 : (p : List ℕ) → ((i : ℕ) → get_or p i 0 < 256) → draws_of p < 4294967296
unfolding draws_of
draws-u32 p b = le_at-lt 4 p 8 b

-- a page beside a plain shelf, with draws a u32
pub record Beside (p : List ℕ) (s : Plain) : Type 0 where
  pub same : Agrees p s
  pub u32 : draws_of p < 4294967296

-- as many roots are ready
ready-length : (p : List ℕ) (s : Plain) → Agrees p s → length s.ready ≡ length (ready_roots p)
ready-length p s c = sym (length-map s.ready (λ (r : Named). r.root)) ∙ sym (ap length c.ready)

-- a stocking on both
pub beside-stock : (p : List ℕ) (s : Plain) (i : ℕ) (root : List ℕ) → Beside p s
    → ((stock_op p root).answer ≡ (plain_stock i root s).0) × Beside (page_left (stock_op p root)) (plain_stock i root s).1
beside-stock p s i root b =
    let c = b.same in
    let t = c.is_sound in
    let n = ready-length p s c in
    ⊎_elim
    (λ (l : length root ≡ 16).
    ⊎_elim
    (λ (h : spare_head p ≡ 0).
    let f : length s.ready ≡ s.size = n ∙ (full p t).0 h ∙ c.size in
    rw (stock-17 p root t l h, plain-17 i root s l f) (refl, b))
    (λ (h : spare_head p ≢ 0).
    let f : length s.ready ≢ s.size = λ q. h ((full p t).1 (sym n ∙ q ∙ sym c.size)) in
    let a = after-stock p root t l h in
    rw (stock-accepted p root t l h, plain-stocked i root s l f) (
      refl,
      record {
        same = record { is_sound = a.is_sound; size = a.size ∙ c.size; draws = a.draws ∙ c.draws; ready = a.ready ∙ ap (λ (w : List (List ℕ)). root ∷ w) c.ready };
        u32 = omega (arith, a.draws, b.u32);
      },
    ))
    (eq-or-ne (spare_head p) 0))
    (λ (l : length root ≢ 16). rw (stock-6 p root t l, plain-6 i root s l) (refl, b))
    (eq-or-ne (length root) 16)

-- no root is ready
roots-nil : (l : List Named) → roots l ≡ [] → l ≡ []
roots-nil [] e = refl
roots-nil (r ∷ l) e = absurd (let n : length (roots (r ∷ l)) ≡ 0 = ap length e in omega arith)

map-nil : (p : List ℕ) (l : List ℕ) → map (root_of p) l ≡ [] → l ≡ []
map-nil p [] e = refl
map-nil p (x ∷ l) e = absurd (let n : length (map (root_of p) (x ∷ l)) ≡ 0 = ap length e in omega arith)

some-ready : (p : List ℕ) → sound p ≡ true → ready_head p ≢ 0 → ready_roots p ≢ []
unfolding ready_roots
some-ready p t h e = h ((none_from p (ready_slots p) (spare_slots p) (sound-chains p t)).1 (map-nil p (ready_slots p) e))

-- what a draw does on both
pub record BesideDraw (p : List ℕ) (n : ℕ) (s : Plain) : Type 0 where
  pub answer : (draw_op p n).answer ≡ (plain_draw n s).answer
  pub after : Beside (page_left (draw_op p n)) (plain_draw n s).shelf

draw-front : (p : List ℕ) (n : ℕ) (s : Plain) (l : List Named) → Beside p s → n ≡ draws_of p → ready_head p ≢ 0 → s.ready ≡ l → BesideDraw p n s
draw-front p n s [] b d h e = absurd (some-ready p b.same.is_sound h (b.same.ready ∙ ap roots e))
draw-front p n s (r ∷ l) b d h e =
    let c = b.same in
    let t = c.is_sound in
    let m : n ≡ s.draws = d ∙ c.draws in
    ⊎_elim
    (λ (q : draws_of p ≡ 4294967295).
    let y = draw-18 p n t d h q in
    let z = plain-18 n s r l m e (sym c.draws ∙ q) in
    record { answer = rw (y, z); after = rw (y, z) b })
    (λ (q : draws_of p ≢ 4294967295).
    let y = draw-accepted p n t d h q in
    let z = plain-given n s r l m e (λ w. q (c.draws ∙ w)) in
    let u = b.u32 in
    let a = after-draw p t h (omega arith) in
    let k : root_of p (ready_head p) ∷ ready_roots (drawn p) ≡ r.root ∷ roots l = sym a.ready ∙ c.ready ∙ ap roots e in
    let kr : root_of p (ready_head p) ≡ r.root = cc in
    let kl : ready_roots (drawn p) ≡ roots l = cc in
    record {
      answer = rw (y, z) (ap success kr);
      after =
          rw (y, z)
          (record {
            same = record { is_sound = a.is_sound; size = a.size ∙ c.size; draws = a.draws ∙ ap (λ (x : ℕ). x + 1) c.draws; ready = kl };
            u32 = omega (arith, a.draws);
          });
    })
    (eq-or-ne (draws_of p) 4294967295)

pub beside-draw : (p : List ℕ) (n : ℕ) (s : Plain) → Beside p s → BesideDraw p n s
beside-draw p n s b =
    let c = b.same in
    let t = c.is_sound in
    ⊎_elim
    (λ (d : n ≡ draws_of p).
    ⊎_elim
    (λ (h : ready_head p ≡ 0).
    let y = draw-16 p n t d h in
    let z = plain-16 n s (d ∙ c.draws) (roots-nil s.ready (sym c.ready ∙ no-ready p t h)) in
    record { answer = rw (y, z); after = rw (y, z) b })
    (λ (h : ready_head p ≢ 0). draw-front p n s s.ready b d h refl)
    (eq-or-ne (ready_head p) 0))
    (λ (d : n ≢ draws_of p).
    let y = draw-15 p n t d in
    let z = plain-15 n s (λ w. d (w ∙ sym c.draws)) in
    record { answer = rw (y, z); after = rw (y, z) b })
    (eq-or-ne n (draws_of p))

-- what holds of every page had, and of the page after one event more, holds of every page had then
pub next-all : {A : Type 0} (P : A → Type 0) (h : Host A) (s : A) (n : ℕ) → ((k : ℕ) → k ≤ h.place → P (h.pages k)) → P s → (k : ℕ) → k ≤ suc h.place → P ((next h s n).pages k)
unfolding next
next-all P h s n f x k l =
    ⊎_elim
    (λ (m : h.place < k). rw (lt-leb k h.place m) x)
    (λ (m : k ≤ h.place). rw (le-leb k h.place m) (f k m))
    (lt-or-le h.place k)

-- the same of two hosts
next_both : {A B : Type 0} (R : A → B → Type 0) (g : Host A) (h : Host B) (a : A) (b : B) (m n : ℕ) → g.place ≡ h.place
    → ((k : ℕ) → k ≤ g.place → R (g.pages k) (h.pages k)) → R a b → (k : ℕ) → k ≤ suc g.place → R ((next g a m).pages k) ((next h b n).pages k)
unfolding next
next_both R g h a b m n e f x k l =
    ⊎_elim
    (λ (q : g.place < k). rw (lt-leb k g.place q, lt-leb k h.place (omega arith)) x)
    (λ (q : k ≤ g.place). rw (le-leb k g.place q, le-leb k h.place (omega arith)) (f k q))
    (lt-or-le g.place k)

-- the host beside the plain one
pub record Along (g : Host (List ℕ)) (h : Host Plain) : Type 0 where
  pub place : g.place ≡ h.place
  pub log : g.log ≡ h.log
  pub each : (k : ℕ) → k ≤ g.place → Beside (g.pages k) (h.pages k)

-- the pages present
pub along-present : (g : Host (List ℕ)) (h : Host Plain) → Along g h → Beside (present g) (present h)
along-present g h a = rw (sym a.place) (a.each g.place (omega arith))

along-next : (g : Host (List ℕ)) (h : Host Plain) (p : List ℕ) (s : Plain) (m n : ℕ) → Along g h → m ≡ n → Beside p s → Along (next g p m) (next h s n)
unfolding next
along-next g h p s m n a e b =
    record {
      place = ap suc a.place;
      log = e;
      each = next_both Beside g h p s m n a.place a.each b;
    }

-- an event may stand after i others
abbrev pub Legal : ℕ → Event → Type 0
Legal i (stock r) = Unit {0}
Legal i draw = Unit {0}
Legal i (back k) = k ≤ i

-- a history's first event, and the rest
pub history-cons : (i : ℕ) (e : Event) (es : List Event) → IsHistory i (e ∷ es) → Legal i e × IsHistory (suc i) es
unfolding IsHistory
history-cons i (stock r) es h = (tt, h)
history-cons i draw es h = (tt, h)
history-cons i (back k) es h = h

-- an event more
pub step-place : (g : Host (List ℕ)) (e : Event) → (step g e).1.place ≡ suc g.place
unfolding step next
step-place g (stock r) = refl
step-place g draw = refl
step-place g (back k) = refl

-- one event
pub step-along : (g : Host (List ℕ)) (h : Host Plain) (e : Event) → Along g h → Legal g.place e → ((step g e).0 ≡ (plain_step h e).reply) × Along (step g e).1 (plain_step h e).host
unfolding step plain_step
step-along g h (stock r) a l =
    let b = beside-stock (present g) (present h) h.place r (along-present g h a) in (
      b.0,
      along-next g h (page_left (stock_op (present g) r)) (plain_stock h.place r (present h)).1 g.log h.log a a.log b.1,
    )
step-along g h draw a l =
    let n = g.log in
    let b0 = beside-draw (present g) n (present h) (along-present g h a) in
    let b : ((draw_op (present g) n).answer ≡ (plain_draw h.log (present h)).answer) × Beside (page_left (draw_op (present g) n)) (plain_draw h.log (present h)).shelf =
    rw (sym a.log) (b0.answer, b0.after) in (
      b.0,
      along-next g h (page_left (draw_op (present g) n)) (plain_draw h.log (present h)).shelf (counted (draw_op (present g) n).answer n) (counted (plain_draw h.log (present h)).answer h.log) a
          (ap₂ counted b.0 a.log) b.1,
    )
step-along g h (back k) a l = (refl, along-next g h (g.pages k) (h.pages k) g.log h.log a a.log (a.each k l))

-- the whole list
pub run_along : (es : List Event) (g : Host (List ℕ)) (h : Host Plain) → Along g h → IsHistory g.place es
    → ((run g es).0 ≡ (plain_run h es).replies) × Along (run g es).1 (plain_run h es).host
unfolding run plain_run
run_along [] g h a l = (refl, a)
run_along (e ∷ es) g h a l =
    let c = history-cons g.place e es l in
    let s = step-along g h e a c.0 in
    let r = run_along es (step g e).1 (plain_step h e).host s.1 (subst (λ (i : ℕ). IsHistory i es) (sym (step-place g e)) c.1) in
    (ap₂ ◌∷◌ s.0 r.0, r.1)
