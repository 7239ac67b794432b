-- The numbers of the refusals, as document 01 gives them under "Each operation's refusals, in order"; from 19 on, those of document 02.
-- "19, 20, 21 .., in place of 4, which is no longer given".
-- Assumes nothing.
use Rattle.std.specs.Prelude.{◌≢◌, ℕ}
use Rattle.refusal.specs.declared.Refusal.{Refusal}
use Rattle.refusal.specs.declared.Refusal.TheVariants.{Length, Limits, Record, Wire, BufferLength, UnusedBits, Parameter, Index, Output, Header, ProofLength, Digest, Shelf, Count, Empty, Full, Exhausted, BeyondGates, EndsEarly, GoesOn, Text, GateKind, TextLimits, InputCounts, CallerNumber, AlreadyWaiting, NoneWaiting, SmallSizes, ListLength}

-- the number of a refusal
abbrev pub number_of : Refusal → ℕ
number_of Length = 1
number_of Limits = 2
number_of Record = 3
number_of Wire = 5
number_of BufferLength = 6
number_of UnusedBits = 7
number_of Parameter = 8
number_of Index = 9
number_of Output = 10
number_of Header = 11
number_of ProofLength = 12
number_of Digest = 13
number_of Shelf = 14
number_of Count = 15
number_of Empty = 16
number_of Full = 17
number_of Exhausted = 18
number_of BeyondGates = 19
number_of EndsEarly = 20
number_of GoesOn = 21
number_of Text = 22
number_of GateKind = 23
number_of TextLimits = 24
number_of InputCounts = 25
number_of CallerNumber = 26
number_of AlreadyWaiting = 27
number_of NoneWaiting = 28
number_of SmallSizes = 29
number_of ListLength = 30

-- Theorem: 4 "is no longer given"
abbrev pub NoFour : Type 0
NoFour = (r : Refusal) → number_of r ≢ 4
