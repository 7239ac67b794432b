-- Laws of the sponge's byte steps: where the fill is, and steps one after the other.
-- Assumes nothing.
use mathlib.Core.Path.{◌≡◌, refl, sym, ap, ap₂, ◌∙◌}
use mathlib.Core.List.{List, [], ◌∷◌, ◌++◌, append_assoc, append-nil}
use mathlib.Core.Logic.{⊎_elim}
use Prim.Native.Nat.{ℕ, zero, suc, ◌+◌, ◌-◌, ◌%◌, ◌≤◌, ◌<◌}
use native.Mathlib.Nat.{zero-add, suc-add, eq-or-lt_of_le}
use native.Mathlib.Omega.{arith}
use lib.ListN.{length, take, drop, length-append, length-take, length-drop, take-append-drop}
use lib.Seq.{drop-drop, length-take-le, take-add, take_all, take_at}
use borrow.Rule.Slice.PartMut.{put_mid, same_len_mid}
use borrow.Author.Tests.{eq-eqb, ne_eqb}
use Rattle.keccak.specs.declared.sponge.Sponge.{Sponge}
use Rattle.keccak.specs.Steps.{xor_byte, xor_bytes, permuted, turned, absorb_byte, absorbs, squeeze_byte, squeezes, squeezed, Given}

-- a full block is permuted
pub turned-full : (rate : ℕ) (s : Sponge) → s.fill ≡ rate → turned rate s ≡ record { lanes = permuted s.lanes; fill = 0 }
unfolding turned
turned-full rate s e = rw (eq-eqb _ _ e)

-- a block that is not full stays
pub turned-part : (rate : ℕ) (s : Sponge) → s.fill < rate → turned rate s ≡ s
unfolding turned
turned-part rate s h = let n : s.fill ≡ rate → ⊥ = λ e. omega arith in rw (ne_eqb _ _ n)

-- what holds of a turned sponge, by cases
pub turned-cases : (P : Sponge → Type 0) (rate : ℕ) (s : Sponge) → s.fill ≤ rate
    → (s.fill ≡ rate → P (record { lanes = permuted s.lanes; fill = 0 })) → (s.fill < rate → P s) → P (turned rate s)
turned-cases P rate s h full part =
    ⊎_elim (λ e. rw (turned-full rate s e) (full e)) (λ l. rw (turned-part rate s l) (part l)) (eq-or-lt_of_le h)

module _ (rate : ℕ) (some : 0 < rate) where
  -- after a turn there is room
  pub turned-room : (s : Sponge) → s.fill ≤ rate → (turned rate s).fill < rate
  turned-room s h = turned-cases (λ t. t.fill < rate) rate s h (λ e. some) (λ l. l)

  pub absorb_byte-room : (s : Sponge) (b : ℕ) → s.fill < rate → (absorb_byte rate s b).fill < rate
  unfolding absorb_byte
  absorb_byte-room s b h = turned-room (record { lanes = _; fill = s.fill + 1 }) (omega arith)

  pub absorbs-room : (M : List ℕ) (s : Sponge) → s.fill < rate → (absorbs rate s M).fill < rate
  unfolding absorbs
  absorbs-room [] s h = h
  absorbs-room (b ∷ M) s h = absorbs-room M (absorb_byte rate s b) (absorb_byte-room s b h)

  pub squeeze_byte-room : (s : Sponge) → s.fill ≤ rate → (squeeze_byte rate s).sponge.fill ≤ rate
  unfolding squeeze_byte
  squeeze_byte-room s h = omega (arith, turned-room s h)

  pub squeezed-room : (n : ℕ) (s : Sponge) → s.fill ≤ rate → (squeezed rate n s).fill ≤ rate
  unfolding squeezed
  squeezed-room zero s h = h
  squeezed-room (suc n) s h = squeezed-room n (squeeze_byte rate s).sponge (squeeze_byte-room s h)

-- at a rate of whole lanes the fill counts the bytes modulo 8
module _ (rate : ℕ) (some : 0 < rate) (whole : rate % 8 ≡ 0) where
  pub turned-aligned : (s : Sponge) → s.fill ≤ rate → (turned rate s).fill % 8 ≡ s.fill % 8
  turned-aligned s h = turned-cases (λ t. t.fill % 8 ≡ s.fill % 8) rate s h (λ e. omega arith) (λ l. refl)

  pub absorb_byte-aligned : (s : Sponge) (b : ℕ) → s.fill < rate → (absorb_byte rate s b).fill % 8 ≡ (s.fill + 1) % 8
  unfolding absorb_byte
  absorb_byte-aligned s b h = turned-aligned (record { lanes = _; fill = s.fill + 1 }) (omega arith)

  pub absorbs-aligned : (M : List ℕ) (s : Sponge) → s.fill < rate → (absorbs rate s M).fill % 8 ≡ (s.fill + length M) % 8
  unfolding absorbs
  absorbs-aligned [] s h = omega arith
  absorbs-aligned (b ∷ M) s h =
      omega (arith, absorbs-aligned M (absorb_byte rate s b) (absorb_byte-room rate some s b h), absorb_byte-aligned s b h)

  pub squeezed-aligned : (n : ℕ) (s : Sponge) → s.fill ≤ rate → (squeezed rate n s).fill % 8 ≡ (s.fill + n) % 8
  unfolding squeezed squeeze_byte
  squeezed-aligned zero s h = omega arith
  squeezed-aligned (suc n) s h =
      omega (arith, squeezed-aligned n (squeeze_byte rate s).sponge (squeeze_byte-room rate some s h), turned-aligned s h)

-- a message in two parts
pub absorbs-append : (rate : ℕ) (M N : List ℕ) (s : Sponge) → absorbs rate s (M ++ N) ≡ absorbs rate (absorbs rate s M) N
unfolding absorbs
absorbs-append rate [] N s = refl
absorbs-append rate (b ∷ M) N s = absorbs-append rate M N (absorb_byte rate s b)

-- output in two parts
pub squeezed-add : (rate m n : ℕ) (s : Sponge) → squeezed rate (m + n) s ≡ squeezed rate n (squeezed rate m s)
unfolding squeezed
squeezed-add rate zero n s = rw zero-add
squeezed-add rate (suc m) n s = rw suc-add (squeezed-add rate m n (squeeze_byte rate s).sponge)

pub squeezes-add : (rate m n : ℕ) (s : Sponge) → squeezes rate (m + n) s ≡ squeezes rate m s ++ squeezes rate n (squeezed rate m s)
unfolding squeezed squeezes
squeezes-add rate zero n s = rw zero-add
squeezes-add rate (suc m) n s =
    rw suc-add (ap {B = List ℕ} (λ l. (squeeze_byte rate s).byte ∷ l) (squeezes-add rate m n (squeeze_byte rate s).sponge))

pub squeezes-length : (rate n : ℕ) (s : Sponge) → length (squeezes rate n s) ≡ n
unfolding squeezes
squeezes-length rate zero s = refl
squeezes-length rate (suc n) s = ap suc (squeezes-length rate n (squeeze_byte rate s).sponge)

-- halfway through giving out: i bytes stand in the lent slice, and what is left to give completes them
pub record Halfway (rate : ℕ) (s₀ : Sponge) (lent : List ℕ) (out : List ℕ) (s : Sponge) (i : ℕ) : Type 0 where
  pub within : i ≤ length lent
  pub kept : length out ≡ length lent
  pub room : s.fill ≤ rate
  pub sponge : squeezed rate (length lent - i) s ≡ squeezed rate (length lent) s₀
  pub bytes : take i out ++ squeezes rate (length lent - i) s ≡ squeezes rate (length lent) s₀

module _ (rate : ℕ) (some : 0 < rate) (s₀ : Sponge) (lent : List ℕ) where
  pub halfway-start : s₀.fill ≤ rate → Halfway rate s₀ lent lent s₀ 0
  halfway-start h =
      let e : length lent - 0 ≡ length lent = omega arith in
      record { within = omega arith; kept = refl; room = h; sponge = rw e; bytes = rw e }

  -- m bytes more
  pub halfway-more : (out : List ℕ) (s : Sponge) (i m : ℕ) (out' : List ℕ) (s' : Sponge) → Halfway rate s₀ lent out s i
      → i + m ≤ length lent → length out' ≡ length out → s' ≡ squeezed rate m s → take (i + m) out' ≡ take i out ++ squeezes rate m s
      → Halfway rate s₀ lent out' s' (i + m)
  halfway-more out s i m out' s' h w k e t =
      let left : ℕ = length lent - (i + m) in
      let split : m + left ≡ length lent - i = omega arith in
      record {
        within = w;
        kept = k ∙ h.kept;
        room = rw e (squeezed-room rate some m s h.room);
        sponge = rw e (sym (squeezed-add rate m left s) ∙ rw split h.sponge);
        bytes = rw (t, e, append_assoc) (ap (λ (l : List ℕ). take i out ++ l) (sym (squeezes-add rate m left s)) ∙ rw split h.bytes);
      }

  -- all bytes given
  pub halfway-end : (out : List ℕ) (s : Sponge) (i : ℕ) → Halfway rate s₀ lent out s i → length out ≤ i → Given rate s₀ lent s out
  unfolding squeezed squeezes
  halfway-end out s i h w =
      let none : length lent - i ≡ 0 = omega (arith, h.kept) in
      record {
        sponge = rw none at h.sponge;
        bytes = sym (append-nil out) ∙ ap (λ (l : List ℕ). l ++ []) (sym (take_all i out w)) ∙ (rw none at h.bytes);
      }

-- a list in three parts
three-parts : (D : List ℕ) (a b : ℕ) → a ≤ b → b ≤ length D
    → take a D ++ take (b - a) (drop a D) ++ take (length D - b) (drop b D) ≡ D
three-parts D a b h k =
    let e : a + (b - a) ≡ b = omega arith in
    let l : length (drop b D) ≡ length D - b = length-drop b D in
    ap (λ (X : List ℕ). X ++ take (length D - b) (drop b D)) (sym (take-add a (b - a) D) ∙ ap (λ (n : ℕ). take n D) e)
    ∙ ap (λ (X : List ℕ). take b D ++ X) (take_all (length D - b) (drop b D) (omega arith))
    ∙ take-append-drop b D

-- a message taken in by three parts
pub absorbs-parts : (rate : ℕ) (s s₁ s₂ s₃ : Sponge) (D : List ℕ) (a b : ℕ) → a ≤ b → b ≤ length D
    → s₁ ≡ absorbs rate s (take a D)
    → s₂ ≡ absorbs rate s₁ (take (b - a) (drop a D))
    → s₃ ≡ absorbs rate s₂ (take (length D - b) (drop b D))
    → s₃ ≡ absorbs rate s D
absorbs-parts rate s s₁ s₂ s₃ D a b h k e₁ e₂ e₃ =
    let A : List ℕ = take a D in
    let B : List ℕ = take (b - a) (drop a D) in
    let C : List ℕ = take (length D - b) (drop b D) in
    e₃
    ∙ ap (λ (t : Sponge). absorbs rate t C) (e₂ ∙ ap (λ (t : Sponge). absorbs rate t B) e₁ ∙ sym (absorbs-append rate A B s))
    ∙ sym (absorbs-append rate (A ++ B) C s)
    ∙ ap (absorbs rate s) (three-parts D a b h k)

module _ (rate : ℕ) (some : 0 < rate) (s₀ : Sponge) (lent : List ℕ) where
  -- m bytes more, given into the part from place i on
  pub halfway-part : (out : List ℕ) (s : Sponge) (i m : ℕ) (part : List ℕ) (s' : Sponge) → Halfway rate s₀ lent out s i
      → i + m ≤ length lent → Given rate s (take m (drop i out)) s' part → Halfway rate s₀ lent (put_mid i m out part) s' (i + m)
  halfway-part out s i m part s' h w g =
      let k = h.kept in
      let n : length (take m (drop i out)) ≡ m = simp (length-take, length-drop) (omega arith) in
      let p : part ≡ squeezes rate m s = g.bytes ∙ ap (λ (x : ℕ). squeezes rate x s) n in
      let l : length part ≡ m = ap length p ∙ squeezes-length rate m s in
      let ti : length (take i out) ≡ i = length-take-le i out (omega (arith, h.within)) in
      let t : take (i + m) (put_mid i m out part) ≡ take i out ++ part =
      ap (take (i + m)) (sym (append_assoc (take i out) part (drop m (drop i out))))
      ∙ take_at (take i out ++ part) (drop m (drop i out)) (i + m) (length-append (take i out) part ∙ ap₂ (λ (x y : ℕ). x + y) ti l) in
      halfway-more rate some s₀ lent out s i m (put_mid i m out part) s' h w (same_len_mid i m out part (l ∙ sym n))
      (g.sponge ∙ ap (λ (x : ℕ). squeezed rate x s) n) (t ∙ ap (λ (x : List ℕ). take i out ++ x) p)

-- bytes given out into three parts, one after the other
pub given-parts : (rate : ℕ) (s s₁ s₂ s₃ : Sponge) (out L₁ L₂ L₃ : List ℕ) (a b : ℕ) → 0 < rate → s.fill ≤ rate → a ≤ b → b ≤ length out
    → Given rate s (take a out) s₁ L₁
    → Given rate s₁ (take (b - a) (drop a (L₁ ++ drop a out))) s₂ L₂
    → Given rate s₂ (take (length (put_mid a (b - a) (L₁ ++ drop a out) L₂) - b) (drop b (put_mid a (b - a) (L₁ ++ drop a out) L₂))) s₃ L₃
    → Given rate s out s₃
    (put_mid b (length (put_mid a (b - a) (L₁ ++ drop a out) L₂) - b) (put_mid a (b - a) (L₁ ++ drop a out) L₂) L₃)
given-parts rate s s₁ s₂ s₃ out L₁ L₂ L₃ a b some h ab bn g₁ g₂ g₃ =
    let O₁ : List ℕ = L₁ ++ drop a out in
    let O₂ : List ℕ = put_mid a (b - a) O₁ L₂ in
    let m : ℕ = length O₂ - b in
    let O₃ : List ℕ = put_mid b m O₂ L₃ in
    let h₁ : Halfway rate s out O₁ s₁ a =
    rw zero-add at (halfway-part rate some s out out s 0 a L₁ s₁ (halfway-start rate some s out h) (omega arith) g₁) in
    let e₂ : a + (b - a) ≡ b = omega arith in
    let h₂ : Halfway rate s out O₂ s₂ b = rw e₂ at (halfway-part rate some s out O₁ s₁ a (b - a) L₂ s₂ h₁ (omega arith) g₂) in
    let h₃ : Halfway rate s out O₃ s₃ (b + m) = halfway-part rate some s out O₂ s₂ b m L₃ s₃ h₂ (omega (arith, h₂.kept)) g₃ in
    halfway-end rate some s out O₃ s₃ (b + m) h₃ (omega (arith, h₂.kept, h₃.kept))

-- where the ways of a turn meet: lanes l' and fill at' after the test whether the block is full
module _ (rate : ℕ) (l : List ℕ) (at : ℕ) (l' : List ℕ) (at' : ℕ) where
  pub joined-full : at ≡ rate → l' ≡ permuted l → at' ≡ 0
      → ◌≡◌ {A = Sponge} (record { lanes = l'; fill = at' }) (turned rate (record { lanes = l; fill = at }))
  joined-full e p z = rw (p, z) (sym (turned-full rate (record { lanes = l; fill = at }) e))

  pub joined-part : (at ≡ rate → ⊥) → l' ≡ l → at' ≡ at
      → ◌≡◌ {A = Sponge} (record { lanes = l'; fill = at' }) (turned rate (record { lanes = l; fill = at }))
  unfolding turned
  joined-part n p z = rw (p, z, ne_eqb _ _ n)

-- bytes XORed in, in two parts
pub xor_bytes-append : (M N l : List ℕ) (j : ℕ) → xor_bytes l j (M ++ N) ≡ xor_bytes (xor_bytes l j M) (j + length M) N
unfolding xor_bytes
xor_bytes-append [] N l j = let e : j + 0 ≡ j = omega arith in rw e
xor_bytes-append (b ∷ M) N l j =
    let e : j + 1 + length M ≡ j + suc (length M) = omega arith in
    xor_bytes-append M N (xor_byte l j b) (j + 1) ∙ rw e

-- bytes within one block
pub absorbs-block : (rate : ℕ) (M l : List ℕ) (j : ℕ) → j < rate → j + length M ≤ rate
    → absorbs rate (record { lanes = l; fill = j }) M ≡ turned rate (record { lanes = xor_bytes l j M; fill = j + length M })
unfolding xor_bytes absorbs absorb_byte
absorbs-block rate [] l j h k = let e : j + 0 ≡ j = omega arith in rw e (sym (turned-part rate (record { lanes = l; fill = j }) h))
absorbs-block rate (b ∷ []) l j h k = refl
absorbs-block rate (b ∷ b' ∷ M) l j h k =
    let e : j + 1 + suc (length M) ≡ j + suc (suc (length M)) = omega arith in
    ap (λ (s : Sponge). absorbs rate s (b' ∷ M)) (turned-part rate (record { lanes = xor_byte l j b; fill = j + 1 }) (omega arith))
    ∙ absorbs-block rate (b' ∷ M) (xor_byte l j b) (j + 1) (omega arith) (omega arith) ∙ rw e

-- m bytes of a block, from place i of the message on
pub absorbs-segment : (rate : ℕ) (D : List ℕ) (i m : ℕ) (l l' : List ℕ) (at : ℕ) (t : Sponge) → at < rate → at + m ≤ rate → i + m ≤ length D
    → l' ≡ xor_bytes l at (take (i + m - i) (drop i D)) → t ≡ turned rate (record { lanes = l'; fill = at + m })
    → absorbs rate t (drop (i + m) D) ≡ absorbs rate (record { lanes = l; fill = at }) (drop i D)
absorbs-segment rate D i m l l' at t lt fits within e f =
    let M : List ℕ = take m (drop i D) in
    let s : Sponge = record { lanes = l; fill = at } in
    let z : i + m - i ≡ m = omega arith in
    let n : length M ≡ m = simp (length-take, length-drop) (omega arith) in
    let b : t ≡ absorbs rate s M =
    f ∙ ap₂ (λ (x : List ℕ) (k : ℕ). turned rate (record { lanes = x; fill = at + k })) (e ∙ ap (λ (k : ℕ). xor_bytes l at (take k (drop i D))) z) (sym n)
    ∙ sym (absorbs-block rate M l at lt (omega arith)) in
    ap₂ (λ (u : Sponge) (X : List ℕ). absorbs rate u X) b (sym (drop-drop m i D))
    ∙ sym (absorbs-append rate M (drop m (drop i D)) s)
    ∙ ap (absorbs rate s) (take-append-drop m (drop i D))
