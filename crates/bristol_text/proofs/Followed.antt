-- A number that a space follows, by cases of what is read.
-- Assumes nothing.
use mathlib.Core.Path.{◌≡◌, ap, ◌∙◌}
use mathlib.Core.List.{List}
use Rattle.std.specs.Prelude.{Some, None}
use Prim.Native.Nat.{ℕ, ◌+◌, ◌≤◌, ◌<◌}
use lib.ListN.{length}
use borrow.Author.Tests.{lt-ltb, le-ltb}
use Rattle.bristol_text.specs.Steps.{number_at, space_after, field_at}
use Rattle.bristol_text.specs.declared.Cursor.{Cursor}

module _ (l : List ℕ) (at : ℕ) where
  pub field-none : number_at l at ≡ None → field_at l at ≡ None
  unfolding field_at space_after
  field-none e = ap (space_after l) e

  module _ (n : ℕ) (c : Cursor) (e : number_at l at ≡ Some (n, c)) where
    pub field_end : length l ≤ c.at → field_at l at ≡ None
    unfolding field_at space_after
    field_end h = ap (space_after l) e ∙ rw (le-ltb c.at (length l) h)

    pub field-space : c.at < length l → field_at l at ≡ Some (n, record { at = c.at + 1 })
    unfolding field_at space_after
    field-space h = ap (space_after l) e ∙ rw (lt-ltb c.at (length l) h)
