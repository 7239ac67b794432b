-- A slot moves from the front of one chain to the front of the other: the page stays sound, and its ready roots change at the front.
-- Assumes nothing.
use mathlib.Core.Path.{◌≡◌, refl, sym, ap, ap₂, ◌∙◌, subst}
use mathlib.Core.Bool.{true}
use mathlib.Core.List.{List, [], ◌∷◌, map}
use mathlib.Core.Logic.{◌≢◌, ⊎_elim}
use Prim.Native.Nat.{ℕ, ◌+◌, ◌*◌, ◌≤◌, ◌<◌}
use native.Mathlib.Omega.{arith}
use lib.ListN.{length, length-map}
use lib.Seq.{sets}
use Rattle.bits.specs.Bytes.{le_bytes}
use Rattle.bits.proofs.Numbers.{lt-or-le, eq-or-ne}
use Rattle.bits.specs.Counting.{count}
use Rattle.bits.proofs.Counting.{count_same, count-other, count-cons}
use Rattle.shelf_page.specs.Page.{size_of, ready_head, spare_head, draws_of, slot_at, next_of, root_of, zero_root, ready_slots, spare_slots, sound, ready_roots}
use Rattle.shelf_page.specs.Meaning.{Leads, HasChains}
use Rattle.shelf_slots.specs.Slots.{put_slot, put_heads}
use Rattle.shelf.specs.Operations.{stocked, drawn}
use Rattle.shelf_page.proofs.Slots.{absent, leads-frame, leads-zero, sound-chains, chains-sound, chains-length}
use Rattle.shelf.proofs.Fields.{Moved, moved, moved-draws, moved-counted, counted-draws}

-- roots of slots that did not move
roots-frame : (p q : List ℕ) (k : ℕ) → ((j : ℕ) → j ≢ 0 → j ≢ k → root_of q j ≡ root_of p j) → (l : List ℕ) → count 0 l ≡ 0 → count k l ≡ 0 → map (root_of q) l ≡ map (root_of p) l
roots-frame p q k f [] z c = refl
roots-frame p q k f (x ∷ l) z c =
    let a = absent k x l c in
    let b = absent 0 x l z in
    ap₂ ◌∷◌ (f x b.0 a.0) (roots-frame p q k f l b.1 a.1)

-- a slot that a list has is none that it has not
counted-not : (j k : ℕ) (l : List ℕ) → count k l ≡ 0 → 1 ≤ count j l → j ≢ k
counted-not j k l c h e = absurd (omega (arith, ap (λ (x : ℕ). count x l) e))

-- a slot that is counted is one of 1..S
in-page : (p r s : List ℕ) (k : ℕ) → HasChains p r s → 1 ≤ count k r + count k s → k ≤ size_of p
in-page p r s k c h = ⊎_elim (λ (l : size_of p < k). absurd (omega (arith, c.no_other k l))) (λ (l : k ≤ size_of p). l) (lt-or-le (size_of p) k)

-- a head is 0 or a slot
leads-small : (next : ℕ → ℕ) (S k : ℕ) (l : List ℕ) → Leads next k l → ((x : ℕ) → S < x → count x l ≡ 0) → k ≤ S
leads-small next S k [] e f = omega arith
leads-small next S k (x ∷ l) (e, w) f = ⊎_elim (λ (q : S < x). absurd (omega (arith, f x q, count_same x l))) (λ (q : x ≤ S). omega arith) (lt-or-le S x)

-- the first spare slot goes to the front of ready
pub stock-chains : (p r s : List ℕ) (k : ℕ) (root q : List ℕ) → HasChains p r (k ∷ s) → Moved p k (ready_head p) root k (next_of p k) q → HasChains q (k ∷ r) s
stock-chains p r s k root q c m =
    let n = next_of p in
    let z : k ≢ 0 = c.spare_leads.1.0 in
    let i : k ≤ size_of p = in-page p r (k ∷ s) k c (omega (arith, count_same k s)) in
    let o = c.once k (omega arith) i in
    let cr : count k r ≡ 0 = omega (arith, count_same k s) in
    let cs : count k s ≡ 0 = omega (arith, count_same k s) in
    let lr : Leads n (ready_head p) r = c.ready_leads in
    let ls : Leads n (n k) s = c.spare_leads.1.1 in
    record {
      long = m.long ∙ c.long ∙ ap (λ (t : ℕ). 12 + 18 * t) (sym m.size);
      low = omega (arith, c.low, m.size);
      high = omega (arith, c.high, m.size);
      zeroed = m.zeroed ∙ c.zeroed;
      ready_leads = (m.ready, (z, rw m.next_here (leads-frame n (next_of q) k m.next_there r (ready_head p) cr lr)));
      spare_leads = rw m.spare (leads-frame n (next_of q) k m.next_there s (n k) cs ls);
      once = λ x a b. omega (arith, c.once x a (omega (arith, m.size)), count-cons x k r, count-cons x k s);
      no_other = λ x a. omega (arith, c.no_other x (omega (arith, m.size)), count-cons x k r, count-cons x k s);
      blanks = λ j h.
          m.root_there j (counted-not j 0 s (leads-zero n s (n k) ls) h) (counted-not j k s cs h) ∙ c.blanks j (omega (arith, count-cons j k s));
    }

-- the first ready slot goes to the front of spare
pub draw-chains : (p r s : List ℕ) (k : ℕ) (q : List ℕ) → HasChains p (k ∷ r) s → Moved p k (spare_head p) zero_root (next_of p k) k q → HasChains q r (k ∷ s)
draw-chains p r s k q c m =
    let n = next_of p in
    let z : k ≢ 0 = c.ready_leads.1.0 in
    let i : k ≤ size_of p = in-page p (k ∷ r) s k c (omega (arith, count_same k r)) in
    let o = c.once k (omega arith) i in
    let cr : count k r ≡ 0 = omega (arith, count_same k r) in
    let cs : count k s ≡ 0 = omega (arith, count_same k r) in
    let lr : Leads n (n k) r = c.ready_leads.1.1 in
    let ls : Leads n (spare_head p) s = c.spare_leads in
    record {
      long = m.long ∙ c.long ∙ ap (λ (t : ℕ). 12 + 18 * t) (sym m.size);
      low = omega (arith, c.low, m.size);
      high = omega (arith, c.high, m.size);
      zeroed = m.zeroed ∙ c.zeroed;
      ready_leads = rw m.ready (leads-frame n (next_of q) k m.next_there r (n k) cr lr);
      spare_leads = (m.spare, (z, rw m.next_here (leads-frame n (next_of q) k m.next_there s (spare_head p) cs ls)));
      once = λ x a b. omega (arith, c.once x a (omega (arith, m.size)), count-cons x k r, count-cons x k s);
      no_other = λ x a. omega (arith, c.no_other x (omega (arith, m.size)), count-cons x k r, count-cons x k s);
      blanks = λ j h.
          ⊎_elim
          (λ (e : j ≡ k). rw e m.root_here)
          (λ (e : j ≢ k).
          let o : 1 ≤ count j s = omega (arith, count-other j k s e) in
          m.root_there j (counted-not j 0 s (leads-zero n s (spare_head p) ls) o) e ∙ c.blanks j o)
          (eq-or-ne j k);
    }

-- the ready roots of a page, by its ready slots
roots-of : (p r s : List ℕ) → HasChains p r s → ready_roots p ≡ map (root_of p) r
unfolding ready_roots
roots-of p r s c = ap (map (root_of p)) (chains-sound p r s c).1.0

-- what an accepted stocking does to a sound page
pub record AfterStock (p root q : List ℕ) : Type 0 where
  pub is_sound : sound q ≡ true
  pub size : size_of q ≡ size_of p
  pub draws : draws_of q ≡ draws_of p
  pub ready : ready_roots q ≡ root ∷ ready_roots p

stock-from : (p root r s : List ℕ) → HasChains p r s → length root ≡ 16 → spare_head p ≢ 0 → AfterStock p root (stocked p root)
unfolding stocked
stock-from p root r [] c l y = absurd (y c.spare_leads)
stock-from p root r (x ∷ s) c l y =
    let k = spare_head p in
    let e : x ≡ k = sym c.spare_leads.0 in
    let d : HasChains p r (k ∷ s) = subst (λ (j : ℕ). HasChains p r (j ∷ s)) e c in
    let i : k ≤ size_of p = in-page p r (k ∷ s) k d (omega (arith, count_same k s)) in
    let f : slot_at k + 18 ≤ length p = omega (arith, c.long) in
    let hn : ready_head p ≤ size_of p = leads-small (next_of p) (size_of p) (ready_head p) r d.ready_leads (λ t q. omega (arith, d.no_other t q)) in
    let hb : next_of p k ≤ size_of p =
    leads-small (next_of p) (size_of p) (next_of p k) s d.spare_leads.1.1 (λ t q. omega (arith, d.no_other t q, count-cons t k s)) in
    let h = c.high in
    let m = moved p k (ready_head p) root k (next_of p k) y l f (omega arith) (omega arith) (omega arith) in
    let q = put_heads k (next_of p k) (put_slot k (ready_head p) root p) in
    let t = stock-chains p r s k root q d m in
    let cr : count k r ≡ 0 = omega (arith, d.once k (omega arith) i, count_same k s) in
    record {
      is_sound = (chains-sound q (k ∷ r) s t).0;
      size = m.size;
      draws = moved-draws p k (ready_head p) root k (next_of p k) y l f (omega arith) (omega arith) (omega arith);
      ready =
          roots-of q (k ∷ r) s t
          ∙ ap₂ ◌∷◌ m.root_here (roots-frame p q k m.root_there r (leads-zero (next_of p) r (ready_head p) d.ready_leads) cr ∙ sym (roots-of p r (k ∷ s) d));
    }

pub after-stock : (p root : List ℕ) → sound p ≡ true → length root ≡ 16 → spare_head p ≢ 0 → AfterStock p root (stocked p root)
after-stock p root t l y = stock-from p root (ready_slots p) (spare_slots p) (sound-chains p t) l y

-- what an accepted draw does to a sound page
pub record AfterDraw (p q : List ℕ) : Type 0 where
  pub is_sound : sound q ≡ true
  pub size : size_of q ≡ size_of p
  pub draws : draws_of q ≡ draws_of p + 1
  pub ready : ready_roots p ≡ root_of p (ready_head p) ∷ ready_roots q

draw-from : (p r s : List ℕ) → HasChains p r s → ready_head p ≢ 0 → draws_of p < 4294967295 → AfterDraw p (drawn p)
unfolding drawn
draw-from p [] s c y u = absurd (y c.ready_leads)
draw-from p (x ∷ r) s c y u =
    let k = ready_head p in
    let e : x ≡ k = sym c.ready_leads.0 in
    let d : HasChains p (k ∷ r) s = subst (λ (j : ℕ). HasChains p (j ∷ r) s) e c in
    let i : k ≤ size_of p = in-page p (k ∷ r) s k d (omega (arith, count_same k r)) in
    let f : slot_at k + 18 ≤ length p = omega (arith, c.long) in
    let hn : spare_head p ≤ size_of p = leads-small (next_of p) (size_of p) (spare_head p) s d.spare_leads (λ t q. omega (arith, d.no_other t q)) in
    let ha : next_of p k ≤ size_of p =
    leads-small (next_of p) (size_of p) (next_of p k) r d.ready_leads.1.1 (λ t q. omega (arith, d.no_other t q, count-cons t k r)) in
    let h = c.high in
    let l : length zero_root ≡ 16 = refl in
    let m = moved p k (spare_head p) zero_root (next_of p k) k y l f (omega arith) (omega arith) (omega arith) in
    let q = put_heads (next_of p k) k (put_slot k (spare_head p) zero_root p) in
    let n = moved-counted p k (spare_head p) zero_root (next_of p k) k q (draws_of p + 1) m in
    let v = sets q 8 (le_bytes 4 (draws_of p + 1)) in
    let t = draw-chains p r s k v d n in
    let cr : count k r ≡ 0 = omega (arith, d.once k (omega arith) i, count_same k r) in
    let g : 12 ≤ length q = omega (arith, m.long) in
    record {
      is_sound = (chains-sound v r (k ∷ s) t).0;
      size = n.size;
      draws = counted-draws q (draws_of p + 1) g (omega arith);
      ready =
          roots-of p (k ∷ r) s d
          ∙ ap (λ (w : List (List ℕ)). root_of p k ∷ w)
          (sym (roots-of v r (k ∷ s) t ∙ roots-frame p v k n.root_there r (leads-zero (next_of p) r (next_of p k) d.ready_leads.1.1) cr));
    }

pub after-draw : (p : List ℕ) → sound p ≡ true → ready_head p ≢ 0 → draws_of p < 4294967295 → AfterDraw p (drawn p)
after-draw p t y u = draw-from p (ready_slots p) (spare_slots p) (sound-chains p t) y u

-- the spare chain is empty where S roots are ready, and only there
full_from : (p r s : List ℕ) → HasChains p r s → (spare_head p ≡ 0 → length r ≡ size_of p) × (length r ≡ size_of p → spare_head p ≡ 0)
full_from p r [] c = (λ e. omega (arith, chains-length p r [] c), λ e. c.spare_leads)
full_from p r (x ∷ s) c =
    (λ e. absurd (c.spare_leads.1.0 (sym c.spare_leads.0 ∙ e)), λ e. absurd (omega (arith, chains-length p r (x ∷ s) c)))

pub full : (p : List ℕ) → sound p ≡ true → (spare_head p ≡ 0 → length (ready_roots p) ≡ size_of p) × (length (ready_roots p) ≡ size_of p → spare_head p ≡ 0)
unfolding ready_roots
full p t =
    let f = full_from p (ready_slots p) (spare_slots p) (sound-chains p t) in
    let e = length-map (ready_slots p) (root_of p) in
    (λ h. e ∙ f.0 h, λ h. f.1 (sym e ∙ h))

-- the ready chain is empty where no root is ready, and only there
pub none_from : (p r s : List ℕ) → HasChains p r s → (ready_head p ≡ 0 → r ≡ []) × (r ≡ [] → ready_head p ≡ 0)
none_from p [] s c = (λ e. refl, λ e. c.ready_leads)
none_from p (x ∷ r) s c = (λ e. absurd (c.ready_leads.1.0 (sym c.ready_leads.0 ∙ e)), λ e. absurd (let n : length (x ∷ r) ≡ 0 = ap length e in omega arith))

pub no-ready : (p : List ℕ) → sound p ≡ true → ready_head p ≡ 0 → ready_roots p ≡ []
unfolding ready_roots
no-ready p t h = ap (map (root_of p)) ((none_from p (ready_slots p) (spare_slots p) (sound-chains p t)).0 h)
