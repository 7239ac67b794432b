-- The run of a circuit by n parties on masked values, on bits (document 01, "Tapes and run").
-- What the tapes give for the AND gates is a column for each gate to come; a gate takes the first and leaves the next.
-- Assumes nothing.
use Rattle.std.specs.Prelude.{Bool, true, false, not, cond, ◌&&◌, List, [], ◌∷◌, ℕ, zero, suc, ◌-◌, eqb}
use Rattle.bits.specs.Xor.{◌⊕◌, xors}
use Rattle.circuit.specs.Circuit.{Gate, xor, and, inv, put}

-- a bit for each party
abbrev pub Column : Type 0
Column = ℕ → Bool

-- those after the first
abbrev pub next {ℓ} : {A : Type ℓ} → (ℕ → A) → ℕ → A
next f k = f (suc k)

-- "XOR gates XOR the shares"
abbrev pub plus : Column → Column → Column
plus x y i = x i ⊕ y i

-- "the correction bit: the product of the two input masks XOR the other parties' product shares", for each AND gate: n parties,
-- output masks o and product shares z of the AND gates to come, shares s of the wires. "A wire's mask is the XOR of its shares,
-- one a party. XOR gates XOR the shares, INV keeps them; an AND gate's output takes the tapes' next output masks."
unfoldable pub corrections : ℕ → List Gate → (ℕ → Column) → (ℕ → Column) → (ℕ → Column) → List Bool
corrections n [] o z s = []
corrections n (xor a b c ∷ gs) o z s = corrections n gs o z (put s c (plus (s a) (s b)))
corrections n (and a b c ∷ gs) o z s =
    ((xors n (s a) && xors n (s b)) ⊕ xors (n - 1) (z 0)) ∷ corrections n gs (next o) (next z) (put s c (o 0))
corrections n (inv a c ∷ gs) o z s = corrections n gs o z (put s c (s a))

-- "Party n − 1's product share is the correction bit"
unfoldable pub corrected : ℕ → (ℕ → Bool) → (ℕ → Column) → ℕ → Column
corrected n cs z t i = cond (eqb (suc i) n) (cs t) (z t i)

-- "For AND of a and b into c, a party broadcasts the XOR of four bits: masked a times its share of b's mask, masked b times its
-- share of a's mask, its product share, its share of c's mask."
unfoldable pub broadcast : Bool → Bool → Column → Column → Column → Column → Column
broadcast ma mb sa sb z o i = (ma && sb i) ⊕ (mb && sa i) ⊕ z i ⊕ o i

-- the broadcast channel, which delivers the t-th broadcast: as sent, or with party p's bit as in its row (msgs_p)
abbrev pub Channel : Type 0
Channel = ℕ → Column → Column

abbrev pub as_sent : Channel
as_sent t x = x

abbrev pub as_shown : ℕ → (ℕ → Bool) → Channel
as_shown p row t x = put x p (row t)

-- all that is broadcast, a column each, and the output bits
pub record Transcript : Type 0 where
  pub broadcasts : List Column
  pub output : List Bool

-- "After the last gate each party broadcasts its mask shares of the O outputs": with masked values m; an output is its masked
-- value XOR these
unfoldable pub outputs : ℕ → List ℕ → Channel → (ℕ → Column) → (ℕ → Bool) → Transcript
outputs n [] h s m = record { broadcasts = []; output = [] }
outputs n (w ∷ ws) h s m =
    let rest : Transcript = outputs n ws (next h) s m in
    record { broadcasts = h 0 (s w) ∷ rest.broadcasts; output = (m w ⊕ xors n (h 0 (s w))) ∷ rest.output }

-- the run of the gates and then of the outputs outs. "XOR and INV act on masked values as on values .. Masked c is masked a times
-- masked b, XOR all broadcasts."
unfoldable pub run : ℕ → List ℕ → List Gate → (ℕ → Column) → (ℕ → Column) → Channel → (ℕ → Column) → (ℕ → Bool) → Transcript
run n outs [] o z h s m = outputs n outs h s m
run n outs (xor a b c ∷ gs) o z h s m = run n outs gs o z h (put s c (plus (s a) (s b))) (put m c (m a ⊕ m b))
run n outs (and a b c ∷ gs) o z h s m =
    let x : Column = h 0 (broadcast (m a) (m b) (s a) (s b) (z 0) (o 0)) in
    let rest : Transcript = run n outs gs (next o) (next z) (next h) (put s c (o 0)) (put m c ((m a && m b) ⊕ xors n x)) in
    record { broadcasts = x ∷ rest.broadcasts; output = rest.output }
run n outs (inv a c ∷ gs) o z h s m = run n outs gs o z h (put s c (s a)) (put m c (not (m a)))
