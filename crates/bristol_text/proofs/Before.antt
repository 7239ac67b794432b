-- The numbers before a line's last token, one after the other.
-- Assumes nothing.
use mathlib.Core.Path.{◌≡◌, refl, sym, ap, ◌∙◌}
use mathlib.Core.Bool.{Bool, true, false, cond}
use mathlib.Core.List.{List, [], ◌∷◌, map}
use Rattle.std.specs.Prelude.{Option, Some, None}
use mathlib.Core.Logic.{◌⊎◌, inl, inr, ⊎_elim}
use Prim.Native.Nat.{ℕ, suc, ◌+◌, ◌≤◌, ◌<◌}
use native.Mathlib.Omega.{arith}
use lib.Dec.{eqb, ltb}
use lib.ListN.{length, get_or, drop, set, length-set}
use lib.Seq.{get_or-set_same, get_or-set_other}
use borrow.Author.Tests.{lt-ltb, le-ltb, ltb-true, ltb-false}
use Rattle.bits.proofs.Numbers.{eq-or-ne}
use Rattle.bristol_text.specs.Text.{space, on_first, pieces, tokens, all_but_last, is_number, value_of, all_numbers}
use Rattle.bristol_text.specs.Steps.{stop, token_at, tokens_after, number_at, space_after, field_at, values_before, are_fields, FirstFive, in_token}
use Rattle.bristol_text.specs.declared.Cursor.{Cursor}
use Rattle.bristol_text.proofs.Along.{tokens-step, value-when, none-when, number_read, number-unread}

-- a token before those of a string is not the last
but-last-cond : (t : List ℕ) (x : ℕ) (b : Bool) (ps : List (List ℕ))
    → all_but_last (t ∷ cond b ([] ∷ ps) (on_first x ps)) ≡ t ∷ all_but_last (cond b ([] ∷ ps) (on_first x ps))
unfolding all_but_last on_first
but-last-cond t x true ps = refl
but-last-cond t x false [] = refl
but-last-cond t x false (q ∷ ps) = refl

but-last-more : (t s : List ℕ) → all_but_last (t ∷ tokens s) ≡ t ∷ all_but_last (tokens s)
unfolding all_but_last tokens pieces
but-last-more t [] = refl
but-last-more t (x ∷ s) = but-last-cond t x (eqb x space) (pieces space s)

module _ (l t : List ℕ) where
  -- a line of one token
  module _ (e : tokens l ≡ t ∷ []) where
    none_before : all_but_last (tokens l) ≡ []
    unfolding all_but_last
    none_before = ap all_but_last e

    pub one-good : are_fields l ≡ true
    unfolding are_fields all_numbers
    one-good = ap all_numbers none_before

    pub one-values : values_before l ≡ []
    unfolding values_before
    one-values = ap (map value_of) none_before

  -- a line with a token before those of r
  module _ (r : List ℕ) (e : tokens l ≡ t ∷ tokens r) where
    some-before : all_but_last (tokens l) ≡ t ∷ all_but_last (tokens r)
    some-before = ap all_but_last e ∙ but-last-more t r

    pub more-bad : is_number t ≡ false → are_fields l ≡ false
    unfolding are_fields all_numbers
    more-bad g = ap all_numbers some-before ∙ rw g

    pub more-good : is_number t ≡ true → are_fields l ≡ are_fields r
    unfolding are_fields all_numbers
    more-good g = ap all_numbers some-before ∙ rw g

    pub more-values : values_before l ≡ value_of t ∷ values_before r
    unfolding values_before
    more-values = ap (map value_of) some-before

-- a field read: a number, and its token's end before the line's
pub record Spaced (l : List ℕ) (at n : ℕ) (c : Cursor) : Type 0 where
  pub number : is_number (token_at l at) ≡ true
  pub value : n ≡ value_of (token_at l at)
  pub room : stop in_token l at < length l
  pub ends : c.at ≡ suc (stop in_token l at)

module _ (l : List ℕ) (at : ℕ) where
  space-read : (x : Option (ℕ × Cursor)) (n : ℕ) (c : Cursor) → number_at l at ≡ x → space_after l x ≡ Some (n, c) → Spaced l at n c
  unfolding space_after
  space-read None n c e f = absurd (cc)
  space-read (Some p) n c e f =
      let d : Cursor = p.1 in
      let k = number_read l at p.0 d e in
      let w = value-when (ltb d.at (length l)) (p.0, record { at = d.at + 1 }) (n, c) f in
      let a : c.at ≡ d.at + 1 = ap (λ (d : Cursor). d.at) w.1.1 in
      record {
        number = k.number;
        value = w.1.0 ∙ k.value;
        room = omega (arith, k.ends, ltb-true d.at (length l) w.0);
        ends = omega (arith, k.ends);
      }

  space-unread : (x : Option (ℕ × Cursor)) → number_at l at ≡ x → space_after l x ≡ None → (is_number (token_at l at) ≡ false) ⊎ (length l ≤ stop in_token l at)
  unfolding space_after
  space-unread None e f = inl (number-unread l at e)
  space-unread (Some p) e f =
      let d : Cursor = p.1 in
      let k = number_read l at p.0 d e in
      let w = none-when (ltb d.at (length l)) (p.0, record { at = d.at + 1 }) f in
      inr (omega (arith, k.ends, ltb-false d.at (length l) w))

  pub field-read : (n : ℕ) (c : Cursor) → field_at l at ≡ Some (n, c) → Spaced l at n c
  unfolding field_at
  field-read n c e = space-read (number_at l at) n c refl e

  pub field-unread : field_at l at ≡ None → (is_number (token_at l at) ≡ false) ⊎ (length l ≤ stop in_token l at)
  unfolding field_at
  field-unread e = space-unread (number_at l at) refl e

  module _ (inside : at ≤ length l) where
    -- the line's rest has one token, or one before others
    pub last-here : length l ≤ stop in_token l at → tokens (drop at l) ≡ token_at l at ∷ []
    unfolding tokens_after
    last-here h = tokens-step l at inside ∙ rw (le-ltb (stop in_token l at) (length l) h)

    pub more-here : stop in_token l at < length l → tokens (drop at l) ≡ token_at l at ∷ tokens (drop (suc (stop in_token l at)) l)
    unfolding tokens_after
    more-here h = tokens-step l at inside ∙ rw (lt-ltb (stop in_token l at) (length l) h)

    -- where no field can be read, the token is the last or no number
    pub fields-end : field_at l at ≡ None → stop in_token l at < length l → are_fields (drop at l) ≡ false
    fields-end e h =
        ⊎_elim
        (λ g. more-bad (drop at l) (token_at l at) (drop (suc (stop in_token l at)) l) (more-here h) g)
        (λ g. absurd (omega arith))
        (field-unread e)

-- a place is not after the end of what starts there
stop-after : (p : ℕ → Bool) (l : List ℕ) (at : ℕ) → at ≤ stop p l at
unfolding stop
stop-after k l at = omega arith

-- a field ends after the place where it starts
pub field-after : (l : List ℕ) (at n : ℕ) (c : Cursor) → field_at l at ≡ Some (n, c) → at < c.at
field-after l at n c e =
    let f = field-read l at n c e in
    omega (arith, f.ends, stop-after in_token l at)

-- what is known after some of the numbers before a line's last token
pub record Gathered (l ns : List ℕ) (at count : ℕ) : Type 0 where
  pub few : count ≤ at
  pub inside : at ≤ length l
  pub room : length ns ≡ 5
  pub tested : are_fields (drop at l) ≡ are_fields l
  pub counted : count + length (values_before (drop at l)) ≡ length (values_before l)
  pub values : (i : ℕ) → i < 5 → i < count → get_or (values_before l) i 0 ≡ get_or ns i 0
  pub rest : (i : ℕ) → get_or (values_before l) (count + i) 0 ≡ get_or (values_before (drop at l)) i 0

module _ (l : List ℕ) where
  pub gathered_none : (ns : List ℕ) → length ns ≡ 5 → Gathered l ns 0 0
  gathered_none ns r =
      record { few = omega arith; inside = omega arith; room = r; tested = refl; counted = omega arith; values = λ i a b. absurd (omega arith); rest = λ i. ap (λ (k : ℕ). get_or (values_before l) k 0) (omega arith) }

  module _ (ns : List ℕ) (at count : ℕ) (g : Gathered l ns at count) where
    -- a number more, in its place if it has one
    gathered-more : (n : ℕ) (c : Cursor) → field_at l at ≡ Some (n, c) → (ms : List ℕ) → length ms ≡ 5
        → ((i : ℕ) → i < count → get_or ms i 0 ≡ get_or ns i 0) → (count < 5 → get_or ms count 0 ≡ n) → Gathered l ms c.at (count + 1)
    gathered-more n c e ms room same new =
        record {
          few = omega (arith, f.ends, g.few, stop-after in_token l at);
          inside = omega (arith, f.ends, f.room);
          room = room;
          tested = rw f.ends (sym (more-good (drop at l) (token_at l at) _ ts f.number) ∙ g.tested);
          counted = rw f.ends (omega (arith, g.counted, ap length first));
          values = λ i a b. ⊎_elim (λ e. here i a e) (λ d. g.values i a (omega arith) ∙ sym (same i (omega arith))) (eq-or-ne i count);
          rest = λ i. rw f.ends (ap (λ (k : ℕ). get_or (values_before l) k 0) (omega arith) ∙ g.rest (suc i) ∙ ap (λ (vs : List ℕ). get_or vs (suc i) 0) first);
        }
      where
        f : Spaced l at n c
        f = field-read l at n c e

        ts : tokens (drop at l) ≡ token_at l at ∷ tokens (drop (suc (stop in_token l at)) l)
        ts = more-here l at g.inside f.room

        first : values_before (drop at l) ≡ n ∷ values_before (drop (suc (stop in_token l at)) l)
        first =
            more-values (drop at l) (token_at l at) _ ts
            ∙ ap (λ (x : ℕ). x ∷ values_before (drop (suc (stop in_token l at)) l)) (sym f.value)

        here : (i : ℕ) → i < 5 → i ≡ count → get_or (values_before l) i 0 ≡ get_or ms i 0
        here i a e =
            ap (λ (k : ℕ). get_or (values_before l) k 0) (omega arith) ∙ g.rest 0 ∙ ap (λ (vs : List ℕ). get_or vs 0 0) first
            ∙ sym (ap (λ (k : ℕ). get_or ms k 0) e ∙ new (omega arith))

    pub gathered-set : (n : ℕ) (c : Cursor) → field_at l at ≡ Some (n, c) → count < 5 → Gathered l (set ns count n) c.at (count + 1)
    gathered-set n c e h =
        gathered-more n c e (set ns count n) (length-set ns count n ∙ g.room)
        (λ i b. get_or-set_other ns count i n 0 (λ q. omega arith)) (λ b. get_or-set_same ns count n 0 (omega (arith, g.room)))

    pub gathered-kept : (n : ℕ) (c : Cursor) → field_at l at ≡ Some (n, c) → 5 ≤ count → Gathered l ns c.at (count + 1)
    gathered-kept n c e h = gathered-more n c e ns g.room (λ i b. refl) (λ b. absurd (omega arith))

    -- the rest of the line is its last token
    gathered-all : length l ≤ stop in_token l at → FirstFive l (record { count = count; numbers = ns })
    gathered-all h =
        let ts = last-here l at g.inside h in
        record {
          tested = sym g.tested ∙ one-good (drop at l) (token_at l at) ts;
          room = g.room;
          counted = omega (arith, g.counted, ap length (one-values (drop at l) (token_at l at) ts));
          values = g.values;
        }

    -- the line's end
    pub gathered-end : length l ≤ at → FirstFive l (record { count = count; numbers = ns })
    gathered-end h = gathered-all (omega (arith, stop-after in_token l at))

    -- no field can be read: what stands there is no number, or the last token
    module _ (e : field_at l at ≡ None) where
      pub gathered-bad : stop in_token l at < length l → are_fields l ≡ false
      gathered-bad h = sym g.tested ∙ fields-end l at g.inside e h

      pub gathered-last : length l ≤ stop in_token l at → FirstFive l (record { count = count; numbers = ns })
      gathered-last h = gathered-all h
