-- What only the contracts of steps use: places in a text and in a line. No definition of the format stands here.
-- Assumes nothing.
use Rattle.std.specs.Prelude.{◌≡◌, Bool, true, false, cond, not, List, [], ◌∷◌, map, ℕ, suc, ◌+◌, ◌≤◌, ◌<◌, eqb, ltb, length, drop, get_or, Option, Some, None}
use Rattle.std.proofs.Math.Seq.{slice}
use Rattle.bristol_text.specs.Text.{LF, space, all_digits, is_number, value_of, all_numbers, tokens, all_but_last, the_last}
use Rattle.bristol_text.specs.declared.Cursor.{Cursor}
use Rattle.bristol_text.specs.declared.Fields.{Fields}

-- the bytes in a line: all but LF; those in a token: all but space; those between lines: LF
abbrev pub in_line : ℕ → Bool
in_line x = not (eqb x LF)

abbrev pub in_token : ℕ → Bool
in_token x = not (eqb x space)

abbrev pub ending : ℕ → Bool
ending x = eqb x LF

-- what a test tells of a byte, whether it passes, is what p is there
abbrev pub Tells : (ℕ → Bool → Type 0) → (ℕ → Bool) → Type 0
Tells post p = (x : ℕ) (b : Bool) → post x b → b ≡ p x

-- how many bytes at the front of s pass p, up to the first that does not
unfoldable pub run : (ℕ → Bool) → List ℕ → ℕ
run p [] = 0
run p (x ∷ s) = cond (p x) (suc (run p s)) 0

-- from place at on, the first place whose byte does not pass p, or the end
unfoldable pub stop : (ℕ → Bool) → List ℕ → ℕ → ℕ
stop p s at = at + run p (drop at s)

-- a text's first line that is not empty from a place on: where it starts, and where it ends
pub record LineAt (s : List ℕ) (at first last : ℕ) : Type 0 where
  pub starts : first ≡ stop ending s at
  pub ends : last ≡ stop in_line s first

-- the token of a line that starts at a place
unfoldable pub token_at : List ℕ → ℕ → List ℕ
token_at l at = slice at (stop in_token l at) l

-- the tokens of a line after the one that ends at a place
unfoldable pub tokens_after : List ℕ → ℕ → List (List ℕ)
tokens_after l end = cond (ltb end (length l)) (tokens (drop (suc end) l)) []

-- the number that starts at a place, and the place after it
unfoldable pub number_at : List ℕ → ℕ → Option (ℕ × Cursor)
number_at l at =
    cond (is_number (token_at l at)) (Some (value_of (token_at l at), record { at = stop in_token l at })) None

-- a number that a space follows, and the place after the space: the number of a token that is not the line's last
unfoldable pub space_after : List ℕ → Option (ℕ × Cursor) → Option (ℕ × Cursor)
space_after l None = None
space_after l (Some p) = cond (ltb p.1.at (length l)) (Some (p.0, record { at = p.1.at + 1 })) None

unfoldable pub field_at : List ℕ → ℕ → Option (ℕ × Cursor)
field_at l at = space_after l (number_at l at)

-- digits, at most 9
pub record Digits (s : List ℕ) (from to : ℕ) : Type 0 where
  pub ordered : from ≤ to
  pub inside : to ≤ length s
  pub few : to ≤ from + 9
  pub digits : all_digits (slice from to s) ≡ true

-- the last token of a line starts at place r
pub record LastToken (l : List ℕ) (r : ℕ) : Type 0 where
  pub inside : r ≤ length l
  pub last : drop r l ≡ the_last (tokens l)

-- the values of the tokens before a line's last
unfoldable pub values_before : List ℕ → List ℕ
values_before l = map value_of (all_but_last (tokens l))

-- before a line's last token stand numbers and nothing else
unfoldable pub are_fields : List ℕ → Bool
are_fields l = all_numbers (all_but_last (tokens l))

-- the numbers before a line's last token, and nothing else there: how many there are, and the first five
pub record FirstFive (l : List ℕ) (f : Fields) : Type 0 where
  pub tested : are_fields l ≡ true
  pub room : length f.numbers ≡ 5
  pub counted : f.count ≡ length (values_before l)
  pub values : (j : ℕ) → j < 5 → j < f.count → get_or (values_before l) j 0 ≡ get_or f.numbers j 0

-- what is told of the tokens before a line's last: the numbers, or that not all are numbers
abbrev pub FieldsTold : List ℕ → Option Fields → Type 0
FieldsTold l None = are_fields l ≡ false
FieldsTold l (Some f) = FirstFive l f
