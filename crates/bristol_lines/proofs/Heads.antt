-- The header lines: what the walk over their tokens finds.
-- Assumes nothing.
use mathlib.Core.Path.{◌≡◌, refl, sym, ap, ◌∙◌}
use mathlib.Core.Bool.{Bool, true, false, cond, not, ◌&&◌}
use mathlib.Core.List.{List, [], ◌∷◌, map}
use mathlib.Core.Option.{Option, none, some}
use Rattle.std.specs.Prelude.{Some, None, Result, Ok, Err}
use Rattle.std.specs.Prelude as std
use Rattle.std.proofs.lemmas.Option.{some_pair_parts}
use mathlib.Core.Logic.{⊎_elim}
use Prim.Native.Nat.{ℕ, suc, ◌+◌, ◌-◌, ◌*◌, ◌≤◌, ◌<◌}
use native.Mathlib.Numerals.{add-one}
use native.Mathlib.Omega.{arith}
use lib.Dec.{eqb, leb, ltb, eqb-suc-suc}
use lib.ListN.{length, get_or, take, drop}
use borrow.Author.Tests.{eq-eqb, ne_eqb, lt-ltb, le-ltb, le-leb, lt-leb}
use Rattle.bristol_text.specs.Text.{Line, lines, tokens, is_number, value_of, all_numbers, sum}
use Rattle.bristol_text.specs.Steps.{stop, token_at, tokens_after, number_at, field_at, LineAt, in_token}
use Rattle.bristol_text.specs.declared.Cursor.{Cursor}
use Rattle.bristol_text.proofs.Along.{tokens-step, token-inside, number_read, number-unread, number_small}
use Rattle.bristol_text.proofs.Before.{field-read, field-unread, last-here, more-here}
use Rattle.bristol_text.proofs.Lines.{no_line, line-here}
use Rattle.circuit.specs.File.{max_inputs, max_outputs, max_gates}
use Rattle.bristol_lines.specs.Rules.{Reading, refused, Below, is_header, numbers_on, is_counts, is_groups, group_sum, output_line, input_line, count_line}
use Rattle.bristol_lines.specs.Steps.{whole, counts_of, groups_of, sizes_of, first_groups, SumAt, Begun, HeaderTold}
use Rattle.bristol_lines.specs.declared.Sizes.{Sizes}
use Rattle.refusal.specs.declared.Refusal.{Refusal}

pub and-false : (a : Bool) → a && false ≡ false
and-false true = refl
and-false false = refl

-- the first token of a line, and those after it
line-tokens : (l : List ℕ) → tokens l ≡ token_at l 0 ∷ tokens_after l (stop in_token l 0)
line-tokens l = tokens-step l 0 (omega arith)

-- line 1, by its tokens
counts_from : List (List ℕ) → std.Option (ℕ × ℕ)
counts_from ts =
    cond (all_numbers ts && eqb (length (map value_of ts)) 2) (Some (get_or (map value_of ts) 0 0, get_or (map value_of ts) 1 0)) None

module _ (l : List ℕ) where
  counts-tokens : (ts : List (List ℕ)) → tokens l ≡ ts → counts_of l ≡ counts_from ts
  unfolding counts_of is_counts is_header numbers_on counts_from
  counts-tokens ts e = rw e

counts-other : (ts : List (List ℕ)) → (length (map value_of ts) ≡ 2 → ⊥) → counts_from ts ≡ None
unfolding counts_from
counts-other ts n = rw (ne_eqb (length (map value_of ts)) 2 n, and-false (all_numbers ts))

counts-bad : (ts : List (List ℕ)) → all_numbers ts ≡ false → counts_from ts ≡ None
unfolding counts_from
counts-bad ts n = rw n

first-bad : (t : List ℕ) (ts : List (List ℕ)) → is_number t ≡ false → all_numbers (t ∷ ts) ≡ false
unfolding all_numbers
first-bad t ts n = rw n

second-bad : (t u : List ℕ) (ts : List (List ℕ)) → is_number u ≡ false → all_numbers (t ∷ u ∷ ts) ≡ false
unfolding all_numbers
second-bad t u ts n = rw n (and-false (is_number t))

counts-two : (t u : List ℕ) → is_number t ≡ true → is_number u ≡ true → counts_from (t ∷ u ∷ []) ≡ Some (value_of t, value_of u)
unfolding counts_from all_numbers
counts-two t u a b = rw (a, b)

module _ (l : List ℕ) where
  pub counts-none : field_at l 0 ≡ None → counts_of l ≡ None
  counts-none e =
      ⊎_elim
      (λ n. counts-tokens l _ (line-tokens l) ∙ counts-bad _ (first-bad (token_at l 0) _ n))
      (λ h. counts-tokens l _ (last-here l 0 (omega arith) h) ∙ counts-other _ (λ q. omega arith))
      (field-unread l 0 e)

  module _ (n : ℕ) (c : Cursor) (e : field_at l 0 ≡ Some (n, c)) where
    next : c.at ≤ length l
    next = let f = field-read l 0 n c e in omega (arith, f.ends, f.room)

    two : tokens l ≡ token_at l 0 ∷ token_at l c.at ∷ tokens_after l (stop in_token l c.at)
    two =
        let f = field-read l 0 n c e in
        more-here l 0 (omega arith) f.room
        ∙ ap (λ (ts : List (List ℕ)). token_at l 0 ∷ ts) (ap (λ (k : ℕ). tokens (drop k l)) (sym f.ends) ∙ tokens-step l c.at next)

    pub counts-one : number_at l c.at ≡ None → counts_of l ≡ None
    counts-one g = counts-tokens l _ two ∙ counts-bad _ (second-bad (token_at l 0) (token_at l c.at) _ (number-unread l c.at g))

    module _ (m : ℕ) (d : Cursor) (g : number_at l c.at ≡ Some (m, d)) where
      pub counts-more : d.at < length l → counts_of l ≡ None
      unfolding tokens_after
      counts-more h =
          let k = number_read l c.at m d g in
          let end : stop in_token l c.at < length l = omega (arith, k.ends) in
          let three = two
          ∙ ap (λ (b : Bool). token_at l 0 ∷ token_at l c.at ∷ cond b (tokens (drop (suc (stop in_token l c.at)) l)) []) (lt-ltb (stop in_token l c.at) (length l) end)
          ∙ ap (λ (ts : List (List ℕ)). token_at l 0 ∷ token_at l c.at ∷ ts) (tokens-step l (suc (stop in_token l c.at)) end) in
          counts-tokens l _ three ∙ counts-other _ (λ q. omega arith)

      pub counts_all : length l ≤ d.at → counts_of l ≡ Some (n, m)
      unfolding tokens_after
      counts_all h =
          let f = field-read l 0 n c e in
          let k = number_read l c.at m d g in
          let all = two
          ∙ ap (λ (b : Bool). token_at l 0 ∷ token_at l c.at ∷ cond b (tokens (drop (suc (stop in_token l c.at)) l)) [])
          (le-ltb (stop in_token l c.at) (length l) (omega (arith, k.ends))) in
          rw (f.value, k.value) (counts-tokens l _ all ∙ counts-two (token_at l 0) (token_at l c.at) f.number k.number)

-- the sizes of groups, one after the other
sizes-end : (t : ℕ) → sizes_of 0 t [] ≡ Some t
unfolding sizes_of all_numbers sum
sizes-end t = ap (λ (n : ℕ). Some n) (omega arith)

sizes-short : (left t : ℕ) → (left ≡ 0 → ⊥) → sizes_of left t [] ≡ None
unfolding sizes_of all_numbers
sizes-short left t n = rw (ne_eqb 0 left (λ e. n (sym e)))

sizes-long : (t : ℕ) (x : List ℕ) (ts : List (List ℕ)) → sizes_of 0 t (x ∷ ts) ≡ None
unfolding sizes_of
sizes-long t x ts = rw (ne_eqb (length (x ∷ ts)) 0 (λ e. omega arith), and-false (all_numbers (x ∷ ts)))

sizes-bad : (left t : ℕ) (x : List ℕ) (ts : List (List ℕ)) → is_number x ≡ false → sizes_of left t (x ∷ ts) ≡ None
unfolding sizes_of
sizes-bad left t x ts n = rw (first-bad x ts n)

sizes-more : (left t : ℕ) (x : List ℕ) (ts : List (List ℕ)) → is_number x ≡ true → sizes_of (suc left) t (x ∷ ts) ≡ sizes_of left (t + value_of x) ts
unfolding sizes_of all_numbers sum
sizes-more left t x ts n =
    let s : t + (value_of x + sum (map value_of ts)) ≡ t + value_of x + sum (map value_of ts) = omega arith in
    rw (n, eqb-suc-suc (length ts) left, s)

-- what is known after some of the sizes
pub record Summed (l : List ℕ) (n end t left at : ℕ) : Type 0 where
  pub inside : at ≤ length l
  pub few : left ≤ n
  pub small : t + left * 1000000000 ≤ n * 1000000000
  pub same : sizes_of left t (tokens_after l at) ≡ sizes_of n 0 (tokens_after l end)

module _ (l : List ℕ) (n end : ℕ) where
  pub summed-none : end ≤ length l → Summed l n end 0 (n - 0) end
  summed-none h =
      let e : n - 0 ≡ n = omega arith in
      rw e (record { inside = h; few = omega arith; small = omega arith; same = refl })

  module _ (t left at : ℕ) (k : Summed l n end t left at) where
    here : at < length l → tokens_after l at ≡ token_at l (at + 1) ∷ tokens_after l (stop in_token l (at + 1))
    unfolding tokens_after
    here h =
        let one : suc at ≡ at + 1 = omega arith in
        ap (λ (b : Bool). cond b (tokens (drop (suc at) l)) []) (lt-ltb at (length l) h)
        ∙ ap (λ (i : ℕ). tokens (drop i l)) one ∙ tokens-step l (at + 1) (omega arith)

    none_left : length l ≤ at → tokens_after l at ≡ []
    unfolding tokens_after
    none_left h = rw (le-ltb at (length l) h)

    pub summed-long : at < length l → left ≡ 0 → None ≡ sizes_of n 0 (tokens_after l end)
    summed-long h z =
        sym (ap (λ (i : ℕ). sizes_of i t (tokens_after l at)) z ∙ ap (sizes_of 0 t) (here h) ∙ sizes-long t _ _) ∙ k.same

    pub summed-bad : at < length l → number_at l (at + 1) ≡ None → None ≡ sizes_of n 0 (tokens_after l end)
    summed-bad h e = sym (ap (sizes_of left t) (here h) ∙ sizes-bad left t _ _ (number-unread l (at + 1) e)) ∙ k.same

    module _ (h : at < length l) (m : ℕ) (c : Cursor) (e : number_at l (at + 1) ≡ Some (m, c)) where
      pub size_small : m < 1000000000
      size_small = let f = number_read l (at + 1) m c e in omega (arith, f.value, number_small (token_at l (at + 1)) f.number)

      pub summed-more : (left ≡ 0 → ⊥) → Summed l n end (t + m) (left - 1) c.at
      summed-more z =
          let f = number_read l (at + 1) m c e in
          let p : left ≡ suc (left - 1) = omega arith in
          record {
            inside = omega (arith, f.ends, token-inside l (at + 1) (omega arith));
            few = omega (arith, k.few);
            small = omega (arith, k.small, size_small);
            same =
                rw (f.ends, f.value)
                (sym (ap (λ (i : ℕ). sizes_of i t (tokens_after l at)) p ∙ ap (sizes_of (suc (left - 1)) t) (here h) ∙ sizes-more (left - 1) t _ _ f.number) ∙ k.same);
          }

    pub summed-all : length l ≤ at → left ≡ 0 → Some t ≡ sizes_of n 0 (tokens_after l end)
    summed-all h z = sym (rw (none_left h, z) (sizes-end t)) ∙ k.same

    pub summed-short : length l ≤ at → (left ≡ 0 → ⊥) → None ≡ sizes_of n 0 (tokens_after l end)
    summed-short h z = sym (rw (none_left h) (sizes-short left t z)) ∙ k.same

-- a line of groups, by its tokens
groups_from : List (List ℕ) → std.Option ℕ
groups_from ts =
    cond (all_numbers ts && eqb (length (map value_of ts)) (get_or (map value_of ts) 0 0 + 1)) (Some (sum (drop 1 (map value_of ts)))) None

pub length-values : (ts : List (List ℕ)) → length (map value_of ts) ≡ length ts
length-values [] = refl
length-values (t ∷ ts) = ap suc (length-values ts)

groups-from : (t : List ℕ) (ts : List (List ℕ)) → is_number t ≡ true → groups_from (t ∷ ts) ≡ sizes_of (value_of t) 0 ts
unfolding groups_from all_numbers sizes_of
groups-from t ts n =
    let e : eqb (suc (length (map value_of ts))) (value_of t + 1) ≡ eqb (length ts) (value_of t) =
    ap (eqb (suc (length (map value_of ts)))) (add-one (value_of t)) ∙ eqb-suc-suc (length (map value_of ts)) (value_of t)
    ∙ ap (λ (i : ℕ). eqb i (value_of t)) (length-values ts) in
    let z : sum (map value_of ts) ≡ 0 + sum (map value_of ts) = omega arith in
    rw (n, e, ← z)

groups-first-bad : (t : List ℕ) (ts : List (List ℕ)) → is_number t ≡ false → groups_from (t ∷ ts) ≡ None
unfolding groups_from
groups-first-bad t ts n = rw (first-bad t ts n)

module _ (l : List ℕ) where
  groups-tokens : (ts : List (List ℕ)) → tokens l ≡ ts → groups_of l ≡ groups_from ts
  unfolding groups_of is_groups is_header numbers_on group_sum groups_from
  groups-tokens ts e = rw e

  pub groups_none : number_at l 0 ≡ None → groups_of l ≡ None
  groups_none e = groups-tokens _ (line-tokens l) ∙ groups-first-bad (token_at l 0) _ (number-unread l 0 e)

  module _ (n : ℕ) (c : Cursor) (e : number_at l 0 ≡ Some (n, c)) where
    pub groups-room : (n < 1000000000) × (c.at ≤ length l)
    groups-room =
        let f = number_read l 0 n c e in (
          omega (arith, f.value, number_small (token_at l 0) f.number),
          omega (arith, f.ends, token-inside l 0 (omega arith)),
        )

    pub groups-all : sizes_of n 0 (tokens_after l c.at) ≡ groups_of l
    groups-all =
        let f = number_read l 0 n c e in
        rw (f.value, f.ends) (sym (groups-tokens _ (line-tokens l) ∙ groups-from (token_at l 0) _ f.number))

-- the sum on the next line
first-when : (b : Bool) (x : ℕ) → b ≡ false → ◌≡◌ {A = Option ℕ} (cond b (some x) none) none
first-when b x e = rw e

unended : (l : List ℕ) (b : Bool) → b ≡ false → is_groups (record { bytes = l; ended = b }) ≡ false
unfolding is_groups is_header
unended l b e = rw e

sum-when : (b : Bool) (x n : ℕ) → cond b (Some x) None ≡ Some n → ◌≡◌ {A = Option ℕ} (cond b (some x) none) (some n)
sum-when true x n e = ap some (cc)
sum-when false x n e = absurd (cc)

none-when : (b : Bool) (x : ℕ) → cond b (Some x) None ≡ None → ◌≡◌ {A = Option ℕ} (cond b (some x) none) none
none-when true x e = absurd (cc)
none-when false x e = refl

module _ (s : List ℕ) (at first last : ℕ) (k : LineAt s at first last) where
  pub group-end : length s ≤ first → first_groups (lines (drop at s)) ≡ none
  unfolding first_groups
  group-end h = ap first_groups (no_line s at first last k h)

  module _ (inside : first < length s) where
    abbrev part : List ℕ
    part = take (last - first) (drop first s)

    pub group-broken : length s ≤ last → first_groups (lines (drop at s)) ≡ none
    unfolding first_groups
    group-broken h =
        ap first_groups (line-here s at first last k inside) ∙ first-when _ _ (unended part (ltb last (length s)) (le-ltb last (length s) h))

    module _ (ended : last < length s) where
      line-is : lines (drop at s) ≡ whole part ∷ lines (drop last s)
      line-is = line-here s at first last k inside ∙ ap (λ (b : Bool). record { bytes = part; ended = b } ∷ lines (drop last s)) (lt-ltb last (length s) ended)

      pub group-bad : groups_of part ≡ None → first_groups (lines (drop at s)) ≡ none
      unfolding first_groups groups_of
      group-bad e = ap first_groups line-is ∙ none-when (is_groups (whole part)) (group_sum (whole part)) e

      pub group-sum : (n : ℕ) → groups_of part ≡ Some n → SumAt s at n last
      unfolding first_groups groups_of
      group-sum n e =
          record {
            found = ap first_groups line-is ∙ sum-when (is_groups (whole part)) (group_sum (whole part)) n e;
            rest = sym (ap (drop 1) line-is);
          }

-- a reading by cases of the first line's sum
none-false : (b : Bool) (x : ℕ) → ◌≡◌ {A = Option ℕ} (cond b (some x) none) none → b ≡ false
none-false true x e =
    let z : ◌≡◌ {A = ℕ} 0 1 = cc in
    absurd (omega arith)
none-false false x e = refl

some-true : (b : Bool) (x n : ℕ) → ◌≡◌ {A = Option ℕ} (cond b (some x) none) (some n) → (b ≡ true) × (x ≡ n)
some-true true x n e = (refl, cc)
some-true false x n e =
    let z : ◌≡◌ {A = ℕ} 0 1 = cc in
    absurd (omega arith)

module _ (below : Below) where
  pub outputs-none : (I G : ℕ) (ls : List Line) → first_groups ls ≡ none → output_line below I G ls ≡ refused 22
  unfolding first_groups output_line
  outputs-none I G [] e = refl
  outputs-none I G (l ∷ ls) e = rw (none-false (is_groups l) (group_sum l) e)

  pub inputs-none : (G W : ℕ) (ls : List Line) → first_groups ls ≡ none → input_line below G W ls ≡ refused 22
  unfolding first_groups input_line
  inputs-none G W [] e = refl
  inputs-none G W (l ∷ ls) e = rw (none-false (is_groups l) (group_sum l) e)

  outputs-some : (I G n : ℕ) (ls : List Line) → first_groups ls ≡ some n
      → output_line below I G ls ≡ cond (not (leb n (I + G))) (refused 22) (cond (not (leb 1 n && leb n max_outputs)) (refused 24) (below I n G (drop 1 ls)))
  unfolding first_groups output_line
  outputs-some I G n [] e =
      let z : ◌≡◌ {A = ℕ} 0 1 = cc in
      absurd (omega arith)
  outputs-some I G n (l ∷ ls) e =
      let w = some-true (is_groups l) (group_sum l) n e in
      rw (w.0, w.1)

  inputs-some : (G W n : ℕ) (ls : List Line) → first_groups ls ≡ some n
      → input_line below G W ls ≡ cond (not (eqb W (n + G))) (refused 22) (cond (not (leb 1 n && leb n max_inputs)) (refused 24) (output_line below n G (drop 1 ls)))
  unfolding first_groups input_line
  inputs-some G W n [] e =
      let z : ◌≡◌ {A = ℕ} 0 1 = cc in
      absurd (omega arith)
  inputs-some G W n (l ∷ ls) e =
      let w = some-true (is_groups l) (group_sum l) n e in
      rw (w.0, w.1)

  module _ (I G n : ℕ) (ls : List Line) (e : first_groups ls ≡ some n) where
    pub outputs-above : I + G < n → output_line below I G ls ≡ refused 22
    outputs-above h = outputs-some I G n ls e ∙ rw (lt-leb n (I + G) h)

    pub outputs-few : n ≤ I + G → n < 1 → output_line below I G ls ≡ refused 24
    outputs-few h l = outputs-some I G n ls e ∙ rw (le-leb n (I + G) h, lt-leb 1 n l)

    pub outputs-many : n ≤ I + G → 1 ≤ n → max_outputs < n → output_line below I G ls ≡ refused 24
    outputs-many h l m = outputs-some I G n ls e ∙ rw (le-leb n (I + G) h, le-leb 1 n l, lt-leb n 256 m)

    pub outputs-good : n ≤ I + G → 1 ≤ n → n ≤ max_outputs → output_line below I G ls ≡ below I n G (drop 1 ls)
    outputs-good h l m = outputs-some I G n ls e ∙ rw (le-leb n (I + G) h, le-leb 1 n l, le-leb n 256 m)

  module _ (G W n : ℕ) (ls : List Line) (e : first_groups ls ≡ some n) where
    pub inputs-other : (W ≡ n + G → ⊥) → input_line below G W ls ≡ refused 22
    inputs-other h = inputs-some G W n ls e ∙ rw (ne_eqb W (n + G) h)

    pub inputs-few : W ≡ n + G → n < 1 → input_line below G W ls ≡ refused 24
    inputs-few h l = inputs-some G W n ls e ∙ rw (eq-eqb W (n + G) h, lt-leb 1 n l)

    pub inputs-many : W ≡ n + G → 1 ≤ n → max_inputs < n → input_line below G W ls ≡ refused 24
    inputs-many h l m = inputs-some G W n ls e ∙ rw (eq-eqb W (n + G) h, le-leb 1 n l, lt-leb n 512 m)

    pub inputs-good : W ≡ n + G → 1 ≤ n → n ≤ max_inputs → input_line below G W ls ≡ output_line below n G (drop 1 ls)
    inputs-good h l m = inputs-some G W n ls e ∙ rw (eq-eqb W (n + G) h, le-leb 1 n l, le-leb n 512 m)

-- the header is whole
pub outputs-begun : (s : List ℕ) (at I G n next : ℕ) → SumAt s at n next → n ≤ I + G → 1 ≤ n → n ≤ max_outputs → 1 ≤ I → I ≤ max_inputs → G ≤ max_gates
    → Begun s (λ (below : Below). output_line below I G (lines (drop at s))) (record { inputs = I; outputs = n; gates = G }) next
outputs-begun s at I G n next k a b c d e f =
    record {
      same = λ below. outputs-good below I G n (lines (drop at s)) k.found a b c ∙ ap (below I n G) (sym k.rest);
      few = record { some_inputs = d; few_inputs = e; some_outputs = b; few_outputs = c; few_gates = f; enough = a };
    }

pub header-same : (s : List ℕ) (r : Result (Sizes × Cursor) Refusal) (x y : Below → Reading) → ((below : Below) → x below ≡ y below) → HeaderTold s y r → HeaderTold s x r
header-same s (Ok p) x y e h = record { same = λ below. e below ∙ h.same below; few = h.few }
header-same s (Err k) x y e h = λ below. e below ∙ h below

-- line 1
of-when : (b : Bool) (x y n m : ℕ) → cond {A = std.Option (ℕ × ℕ)} b (Some (x, y)) None ≡ Some (n, m) → (b ≡ true) × ((x ≡ n) × (y ≡ m))
of-when true x y n m e = (refl, some_pair_parts x n y m e)
of-when false x y n m e = absurd (cc)

unof-when : (b : Bool) (x y : ℕ) → cond {A = std.Option (ℕ × ℕ)} b (Some (x, y)) None ≡ None → b ≡ false
unof-when true x y e = absurd (cc)
unof-when false x y e = refl

uncounted : (l : List ℕ) (b : Bool) → b ≡ false → is_counts (record { bytes = l; ended = b }) ≡ false
unfolding is_counts is_header
uncounted l b e = rw e

module _ (below : Below) where
  count-bad : (l : Line) (ls : List Line) → is_counts l ≡ false → count_line below (l ∷ ls) ≡ refused 22
  unfolding count_line
  count-bad l ls e = rw e

  count-good : (l : Line) (ls : List Line) (G W : ℕ) → is_counts l ≡ true → get_or (numbers_on l) 0 0 ≡ G → get_or (numbers_on l) 1 0 ≡ W
      → count_line below (l ∷ ls) ≡ cond (not (leb G max_gates)) (refused 24) (input_line below G W ls)
  unfolding count_line
  count-good l ls G W e p q = rw (e, p, q)

  module _ (s : List ℕ) (first last : ℕ) (k : LineAt s 0 first last) where
    pub text-none : length s ≤ first → count_line below (lines s) ≡ refused 22
    unfolding count_line
    text-none h = ap (count_line below) (no_line s 0 first last k h)

    module _ (inside : first < length s) where
      pub text-broken : length s ≤ last → count_line below (lines s) ≡ refused 22
      text-broken h =
          ap (count_line below) (line-here s 0 first last k inside) ∙ count-bad _ _ (uncounted (part s 0 first last k inside) (ltb last (length s)) (le-ltb last (length s) h))

      module _ (ended : last < length s) where
        abbrev l₁ : Line
        l₁ = whole (part s 0 first last k inside)

        pub text-bad : counts_of (part s 0 first last k inside) ≡ None → count_line below (lines s) ≡ refused 22
        unfolding counts_of
        text-bad e =
            ap (count_line below) (line-is s 0 first last k inside ended)
            ∙ count-bad l₁ _ (unof-when (is_counts l₁) (get_or (numbers_on l₁) 0 0) (get_or (numbers_on l₁) 1 0) e)

        module _ (G W : ℕ) (e : counts_of (part s 0 first last k inside) ≡ Some (G, W)) where
          counted : count_line below (lines s) ≡ cond (not (leb G max_gates)) (refused 24) (input_line below G W (lines (drop last s)))
          unfolding counts_of
          counted =
              let w = of-when (is_counts l₁) (get_or (numbers_on l₁) 0 0) (get_or (numbers_on l₁) 1 0) G W e in
              ap (count_line below) (line-is s 0 first last k inside ended) ∙ count-good l₁ _ G W w.0 w.1.0 w.1.1

          pub text-many : max_gates < G → count_line below (lines s) ≡ refused 24
          text-many h = counted ∙ rw (lt-leb G max_gates h)

          pub text-good : G ≤ max_gates → count_line below (lines s) ≡ input_line below G W (lines (drop last s))
          text-good h = counted ∙ rw (le-leb G max_gates h)
