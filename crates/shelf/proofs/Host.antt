-- What a host's developer may count on: a sound page stays sound; a page from before an accepted draw is refused with 15 by every
-- draw until a page of the present count is there again; and stocking on such a page changes nothing of that.
-- Assumes nothing.
use mathlib.Core.Path.{◌≡◌, refl, sym, ap, ◌∙◌, subst}
use mathlib.Core.Bool.{true}
use mathlib.Core.List.{List, [], ◌∷◌}
use mathlib.Core.Logic.{◌≢◌, ◌⊎◌, inl, inr, ⊎_elim}
use Prim.Native.Nat.{ℕ, suc, ◌+◌, ◌≤◌, ◌<◌}
use native.Mathlib.Omega.{arith}
use borrow.Author.Tests.{le-leb, lt-leb}
use lib.ListN.{length, get_or}
use Rattle.bits.proofs.Numbers.{eq-or-ne}
use Rattle.refusal.specs.Outcome.{Answer, refusal_at, refusal, success, refuses}
use Rattle.shelf_page.specs.Page.{size_of, ready_head, spare_head, draws_of, root_of, sound}
use Rattle.shelf.specs.Operations.{page_left, stock_op, draw_op}
use Rattle.shelf.specs.History.{Event, stock, draw, back, Host, present, next, counted, start, step, run, IsHistory}
use Rattle.shelf.proofs.Operations.{stock-6, stock-17, stock-accepted, draw-15, draw-16, draw-18, draw-accepted}
use Rattle.shelf.proofs.Moves.{after-stock, after-draw}
use Rattle.shelf.proofs.Simulation.{draws-u32, next-all, Legal, history-cons, step-place}

-- what a stocking, accepted or refused, does to a sound page: it stays sound, and its S and draws are kept
pub record StockKeeps (p q : List ℕ) : Type 0 where
  pub is_sound : sound q ≡ true
  pub size : size_of q ≡ size_of p
  pub draws : draws_of q ≡ draws_of p

pub stock-keeps : (p root : List ℕ) → sound p ≡ true → StockKeeps p (page_left (stock_op p root))
stock-keeps p root t =
    let same : StockKeeps p p = record { is_sound = t; size = refl; draws = refl } in
    ⊎_elim
    (λ (l : length root ≡ 16).
    ⊎_elim
    (λ (h : spare_head p ≡ 0). rw (stock-17 p root t l h) same)
    (λ (h : spare_head p ≢ 0).
    let a = after-stock p root t l h in
    rw (stock-accepted p root t l h) (record { is_sound = a.is_sound; size = a.size; draws = a.draws }))
    (eq-or-ne (spare_head p) 0))
    (λ (l : length root ≢ 16). rw (stock-6 p root t l) same)
    (eq-or-ne (length root) 16)

-- what a draw does to a sound page: it stays sound; either it is refused, and the page is as it was, or the count was the page's draws, which are one more then
pub record DrawKeeps (p : List ℕ) (n : ℕ) : Type 0 where
  pub is_sound : sound (page_left (draw_op p n)) ≡ true
  pub size : size_of (page_left (draw_op p n)) ≡ size_of p
  pub u32 : draws_of (page_left (draw_op p n)) < 4294967296
  pub which : ((m : ℕ) × (((draw_op p n).answer ≡ refusal m) × (page_left (draw_op p n) ≡ p)))
      ⊎ (((draw_op p n).answer ≡ success (root_of p (ready_head p))) × ((n ≡ draws_of p) × (draws_of (page_left (draw_op p n)) ≡ n + 1)))

refused-keeps : (p : List ℕ) (n m : ℕ) → sound p ≡ true → draws_of p < 4294967296 → draw_op p n ≡ refuses m (p ∷ []) → DrawKeeps p n
refused-keeps p n m t u e = record { is_sound = rw e t; size = rw e; u32 = rw e u; which = inl (m, (rw e, rw e)) }

pub draw-keeps : (p : List ℕ) (n : ℕ) → sound p ≡ true → draws_of p < 4294967296 → DrawKeeps p n
draw-keeps p n t u =
    ⊎_elim
    (λ (d : n ≡ draws_of p).
    ⊎_elim
    (λ (h : ready_head p ≡ 0). refused-keeps p n 16 t u (draw-16 p n t d h))
    (λ (h : ready_head p ≢ 0).
    ⊎_elim
    (λ (q : draws_of p ≡ 4294967295). refused-keeps p n 18 t u (draw-18 p n t d h q))
    (λ (q : draws_of p ≢ 4294967295).
    let a = after-draw p t h (omega arith) in
    let y = draw-accepted p n t d h q in
    record {
      is_sound = rw y a.is_sound;
      size = rw y a.size;
      u32 = rw y (omega (arith, a.draws));
      which = inr (rw y, (d, rw y (a.draws ∙ ap (λ (x : ℕ). x + 1) (sym d))));
    })
    (eq-or-ne (draws_of p) 4294967295))
    (eq-or-ne (ready_head p) 0))
    (λ (d : n ≢ draws_of p). refused-keeps p n 15 t u (draw-15 p n t d))
    (eq-or-ne n (draws_of p))

-- a page of a host whose log counts n draws: sound, and with no more draws than the log
pub record Kept (n : ℕ) (p : List ℕ) : Type 0 where
  pub is_sound : sound p ≡ true
  pub behind : draws_of p ≤ n
  pub u32 : draws_of p < 4294967296

-- every page that the history has had
abbrev pub AllKept : Host (List ℕ) → Type 0
AllKept h = (k : ℕ) → k ≤ h.place → Kept h.log (h.pages k)

-- a log that has counted more
kept_more : (n m : ℕ) (p : List ℕ) → n ≤ m → Kept n p → Kept m p
kept_more n m p l c = record { is_sound = c.is_sound; behind = omega (arith, c.behind); u32 = c.u32 }

kept_next : (h : Host (List ℕ)) (p : List ℕ) (m : ℕ) → h.log ≤ m → AllKept h → Kept m p → AllKept (next h p m)
unfolding next
kept_next h p m l c x = next-all (Kept m) h p m (λ k o. kept_more h.log m (h.pages k) l (c k o)) x

draw-kept : (h : Host (List ℕ)) → AllKept h → AllKept (next h (page_left (draw_op (present h) h.log)) (counted (draw_op (present h) h.log).answer h.log))
draw-kept h c =
    let p = present h in
    let n = h.log in
    let k = c h.place (omega arith) in
    let d = draw-keeps p n k.is_sound k.u32 in
    ⊎_elim
    (λ (w : (m : ℕ) × (((draw_op p n).answer ≡ refusal m) × (page_left (draw_op p n) ≡ p))).
    rw (w.1.0, w.1.1) (kept_next h p n (omega arith) c k))
    (λ (w : ((draw_op p n).answer ≡ success (root_of p (ready_head p))) × ((n ≡ draws_of p) × (draws_of (page_left (draw_op p n)) ≡ n + 1))).
    rw w.0
    (kept_next h (page_left (draw_op p n)) (n + 1) (omega arith) c
    (record { is_sound = d.is_sound; behind = omega (arith, w.1.1); u32 = d.u32 })))
    d.which

-- the start of a history
pub start-kept : (page : List ℕ) (log : ℕ) → ((i : ℕ) → get_or page i 0 < 256) → sound page ≡ true → draws_of page ≡ log → AllKept (start page log)
start-kept page log b t e k l = record { is_sound = t; behind = omega arith; u32 = draws-u32 page b }

-- one event keeps them all
pub step_kept : (h : Host (List ℕ)) (e : Event) → Legal h.place e → AllKept h → AllKept (step h e).1
unfolding step
step_kept h (stock r) l c =
    let k = c h.place (omega arith) in
    let s = stock-keeps (present h) r k.is_sound in
    kept_next h (page_left (stock_op (present h) r)) h.log (omega arith) c
    (record { is_sound = s.is_sound; behind = omega (arith, s.draws, k.behind); u32 = omega (arith, s.draws, k.u32) })
step_kept h draw l c = draw-kept h c
step_kept h (back k) l c = kept_next h (h.pages k) h.log (omega arith) c (c k l)

-- the whole list keeps them all
pub run-kept : (es : List Event) (h : Host (List ℕ)) → IsHistory h.place es → AllKept h → AllKept (run h es).1
unfolding run
run-kept [] h l c = c
run-kept (e ∷ es) h l c =
    let o = history-cons h.place e es l in
    run-kept es (step h e).1 (subst (λ (i : ℕ). IsHistory i es) (sym (step-place h e)) o.1) (step_kept h e o.0 c)

-- a page had stays had
step-pages : (h : Host (List ℕ)) (e : Event) (k : ℕ) → k ≤ h.place → (step h e).1.pages k ≡ h.pages k
unfolding step next
step-pages h (stock r) k l = rw (le-leb k h.place l)
step-pages h draw k l = rw (le-leb k h.place l)
step-pages h (back j) k l = rw (le-leb k h.place l)

counted-more : (s : Answer) (n : ℕ) → n ≤ counted s n
counted-more (refusal_at m x) n = omega arith
counted-more (success root) n = omega arith

-- the log's count never falls
step-log : (h : Host (List ℕ)) (e : Event) → h.log ≤ (step h e).1.log
unfolding step next
step-log h (stock r) = omega arith
step-log h draw = counted-more (draw_op (present h) h.log).answer h.log
step-log h (back j) = omega arith

-- a page with fewer draws than the log has fewer ever after
pub older-stays : (es : List Event) (h : Host (List ℕ)) (k : ℕ) → k ≤ h.place → draws_of (h.pages k) < h.log → draws_of ((run h es).1.pages k) < (run h es).1.log
unfolding run
older-stays [] h k l o = o
older-stays (e ∷ es) h k l o =
    let a = ap draws_of (step-pages h e k l) in
    older-stays es (step h e).1 k (omega (arith, step-place h e)) (omega (arith, step-log h e))

draw-log : (h : Host (List ℕ)) (root : List ℕ) → (draw_op (present h) h.log).answer ≡ success root → (step h draw).1.log ≡ h.log + 1
unfolding step next
draw-log h root e = ap (λ (s : Answer). counted s h.log) e

-- each page that was had before an accepted draw has fewer draws than the log after it
pub older-after-draw : (h : Host (List ℕ)) (k : ℕ) (root : List ℕ) → AllKept h → k ≤ h.place → (draw_op (present h) h.log).answer ≡ success root
    → draws_of ((step h draw).1.pages k) < (step h draw).1.log
older-after-draw h k root c l e =
    let a = ap draws_of (step-pages h draw k l) in
    let g = draw-log h root e in
    omega (arith, (c k l).behind)

-- and ever after
older-run : (h : Host (List ℕ)) (k : ℕ) (root : List ℕ) (es : List Event) → AllKept h → k ≤ h.place → (draw_op (present h) h.log).answer ≡ success root
    → draws_of ((run h (draw ∷ es)).1.pages k) < (run h (draw ∷ es)).1.log
unfolding run
older-run h k root es c l a = older-stays es (step h draw).1 k (omega (arith, step-place h draw)) (older-after-draw h k root c l a)

-- every draw of the list is answered by 15
abbrev pub Refused15 : List Event → List Answer → Type 0
Refused15 [] rs = Unit {0}
Refused15 (e ∷ es) [] = ⊥
Refused15 (stock r ∷ es) (a ∷ rs) = Refused15 es rs
Refused15 (draw ∷ es) (a ∷ rs) = (a ≡ refusal 15) × Refused15 es rs
Refused15 (back k ∷ es) (a ∷ rs) = Refused15 es rs

-- no page of the present count is put back
unfoldable pub Until : Host (List ℕ) → List Event → Type 0
Until h [] = Unit {0}
Until h (stock r ∷ es) = Until (step h (stock r)).1 es
Until h (draw ∷ es) = Until (step h draw).1 es
Until h (back k ∷ es) = (draws_of (h.pages k) ≢ h.log) × Until (step h (back k)).1 es

-- the page after an event
next-present : (h : Host (List ℕ)) (p : List ℕ) (n : ℕ) → present (next h p n) ≡ p
unfolding next
next-present h p n = rw (lt-leb (suc h.place) h.place (omega arith))

-- the page and the log's count after each event
stock-present : (h : Host (List ℕ)) (r : List ℕ) → present (step h (stock r)).1 ≡ page_left (stock_op (present h) r)
unfolding step
stock-present h r = next-present h (page_left (stock_op (present h) r)) h.log

stock-log : (h : Host (List ℕ)) (r : List ℕ) → (step h (stock r)).1.log ≡ h.log
unfolding step next
stock-log h r = refl

back-present : (h : Host (List ℕ)) (k : ℕ) → present (step h (back k)).1 ≡ h.pages k
unfolding step
back-present h k = next-present h (h.pages k) h.log

back-log : (h : Host (List ℕ)) (k : ℕ) → (step h (back k)).1.log ≡ h.log
unfolding step next
back-log h k = refl

module _ (h : Host (List ℕ)) (e : draw_op (present h) h.log ≡ refuses 15 (present h ∷ [])) where
  draw-reply : (step h draw).0 ≡ refusal 15
  unfolding step
  draw-reply = rw e

  draw-present : present (step h draw).1 ≡ present h
  unfolding step
  draw-present = next-present h (page_left (draw_op (present h) h.log)) (counted (draw_op (present h) h.log).answer h.log) ∙ rw e

  draw-same : (step h draw).1.log ≡ h.log
  unfolding step next
  draw-same = rw e

-- while the page's draws are not the log's count, every draw is refused with 15, whatever is stocked, until a page of the present count is put back
pub refused-until : (es : List Event) (h : Host (List ℕ)) → AllKept h → IsHistory h.place es → Until h es → draws_of (present h) ≢ h.log → Refused15 es (run h es).0
unfolding run Until
refused-until [] h c l u n = tt
refused-until (stock r ∷ es) h c l u n =
    let o = history-cons h.place (stock r) es l in
    let s = stock-keeps (present h) r (c h.place (omega arith)).is_sound in
    refused-until es (step h (stock r)).1 (step_kept h (stock r) o.0 c) (subst (λ (i : ℕ). IsHistory i es) (sym (step-place h (stock r))) o.1) u
    (λ e. n (sym s.draws ∙ sym (ap draws_of (stock-present h r)) ∙ e ∙ stock-log h r))
refused-until (draw ∷ es) h c l u n =
    let o = history-cons h.place draw es l in
    let y = draw-15 (present h) h.log (c h.place (omega arith)).is_sound (λ e. n (sym e)) in (
      draw-reply h y,
      refused-until es (step h draw).1 (step_kept h draw o.0 c) (subst (λ (i : ℕ). IsHistory i es) (sym (step-place h draw)) o.1) u
          (λ e. n (sym (ap draws_of (draw-present h y)) ∙ e ∙ draw-same h y)),
    )
refused-until (back k ∷ es) h c l u n =
    let o = history-cons h.place (back k) es l in
    refused-until es (step h (back k)).1 (step_kept h (back k) o.0 c) (subst (λ (i : ℕ). IsHistory i es) (sym (step-place h (back k))) o.1) u.1
    (λ e. u.0 (sym (ap draws_of (back-present h k)) ∙ e ∙ back-log h k))

-- a page put back from before an accepted draw: every draw is refused with 15, until a page of the present count is put back
pub put-back-refused : (h : Host (List ℕ)) (k : ℕ) (root : List ℕ) (es fs : List Event) → AllKept h → k ≤ h.place → (draw_op (present h) h.log).answer ≡ success root
    → IsHistory h.place (draw ∷ es) → IsHistory (run h (draw ∷ es)).1.place (back k ∷ fs) → Until (step (run h (draw ∷ es)).1 (back k)).1 fs
    → Refused15 fs (run (step (run h (draw ∷ es)).1 (back k)).1 fs).0
put-back-refused h k root es fs c l a m n u =
    let g = (run h (draw ∷ es)).1 in
    let kept = run-kept (draw ∷ es) h m c in
    let o = history-cons g.place (back k) fs n in
    let older : draws_of (g.pages k) < g.log = older-run h k root es c l a in
    refused-until fs (step g (back k)).1 (step_kept g (back k) o.0 kept) (subst (λ (i : ℕ). IsHistory i fs) (sym (step-place g (back k))) o.1) u
    (λ e. absurd (omega (arith, older, ap draws_of (back-present g k), e, back-log g k)))
