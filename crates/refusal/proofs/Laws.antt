-- Two refusals never share a number, and the numbers are 1 to 30.
-- Assumes nothing.
use mathlib.Core.Path.{◌≡◌, refl, sym, ap, ◌∙◌}
use mathlib.Core.Bool.{false}
use mathlib.Core.List.{List, [], ◌∷◌}
use Prim.Native.Nat.{ℕ, ◌≤◌}
use lib.Dec.{T, eqb, leb, leb→le}
use lib.ListN.{get_or}
use borrow.Author.Tests.{eqb-false}
use Rattle.refusal.specs.declared.Refusal.{Refusal}
use Rattle.refusal.specs.declared.Refusal.TheVariants.{Length, Limits, Record, Wire, BufferLength, UnusedBits, Parameter, Index, Output, Header, ProofLength, Digest, Shelf, Count, Empty, Full, Exhausted, BeyondGates, EndsEarly, GoesOn, Text, GateKind, TextLimits, InputCounts, CallerNumber, AlreadyWaiting, NoneWaiting, SmallSizes, ListLength}
use Rattle.refusal.specs.Refusal.{number_of, NoFour}

-- the refusals in the order of their numbers, and one to stand at the places that have none
in_order : List Refusal
in_order = Length ∷ Length ∷ Limits ∷ Record ∷ Length ∷ Wire ∷ BufferLength ∷ UnusedBits ∷ Parameter ∷ Index ∷ Output ∷ Header ∷ ProofLength ∷ Digest ∷ Shelf ∷ Count ∷ Empty ∷ Full ∷ Exhausted ∷ BeyondGates ∷ EndsEarly ∷ GoesOn ∷ Text ∷ GateKind ∷ TextLimits ∷ InputCounts ∷ CallerNumber ∷ AlreadyWaiting ∷ NoneWaiting ∷ SmallSizes ∷ ListLength ∷ []

-- the refusal of a number
of_number : ℕ → Refusal
of_number k = get_or in_order k Length

-- a refusal is found again from its number, which is 1 to 30 and not 4
right : (r : Refusal) → (of_number (number_of r) ≡ r) × (T (leb 1 (number_of r)) × (T (leb (number_of r) 30) × (eqb (number_of r) 4 ≡ false)))
unfolding of_number in_order
right Length = (refl, (tt, (tt, refl)))
right Limits = (refl, (tt, (tt, refl)))
right Record = (refl, (tt, (tt, refl)))
right Wire = (refl, (tt, (tt, refl)))
right BufferLength = (refl, (tt, (tt, refl)))
right UnusedBits = (refl, (tt, (tt, refl)))
right Parameter = (refl, (tt, (tt, refl)))
right Index = (refl, (tt, (tt, refl)))
right Output = (refl, (tt, (tt, refl)))
right Header = (refl, (tt, (tt, refl)))
right ProofLength = (refl, (tt, (tt, refl)))
right Digest = (refl, (tt, (tt, refl)))
right Shelf = (refl, (tt, (tt, refl)))
right Count = (refl, (tt, (tt, refl)))
right Empty = (refl, (tt, (tt, refl)))
right Full = (refl, (tt, (tt, refl)))
right Exhausted = (refl, (tt, (tt, refl)))
right BeyondGates = (refl, (tt, (tt, refl)))
right EndsEarly = (refl, (tt, (tt, refl)))
right GoesOn = (refl, (tt, (tt, refl)))
right Text = (refl, (tt, (tt, refl)))
right GateKind = (refl, (tt, (tt, refl)))
right TextLimits = (refl, (tt, (tt, refl)))
right InputCounts = (refl, (tt, (tt, refl)))
right CallerNumber = (refl, (tt, (tt, refl)))
right AlreadyWaiting = (refl, (tt, (tt, refl)))
right NoneWaiting = (refl, (tt, (tt, refl)))
right SmallSizes = (refl, (tt, (tt, refl)))
right ListLength = (refl, (tt, (tt, refl)))

-- two refusals with one number are the same
pub number_of-injective : (a b : Refusal) → number_of a ≡ number_of b → a ≡ b
number_of-injective a b e = sym (right a).0 ∙ ap of_number e ∙ (right b).0

-- the numbers are 1 to 30
pub number_of-range : (r : Refusal) → (1 ≤ number_of r) × (number_of r ≤ 30)
number_of-range r = (leb→le 1 (number_of r) (right r).1.0, leb→le (number_of r) 30 (right r).1.1.0)

-- none of them is 4
pub no_four : NoFour
no_four r = eqb-false (number_of r) 4 (right r).1.1.1
