-- Two openings over the operation replay: a call that succeeds has passed its tests, so its replay has output y and gives the rows.
-- Assumes nothing.
use mathlib.Core.Path.{◌≡◌, sym, ap, ◌∙◌}
use mathlib.Core.Bool.{Bool, true, ◌&&◌}
use mathlib.Core.List.{List, [], ◌∷◌}
use Prim.Native.Nat.{ℕ, ◌<◌}
use borrow.Author.Tests.{eq-eqb, ltb-true}
use lib.Dec.{ltb}
use lib.ListN.{length}
use Rattle.bits.specs.Bits.{pack, unused_zero}
use Rattle.bits.specs.Bytes.{same_bytes}
use Rattle.bits.proofs.Equal.{same-eq}
use Rattle.refusal.specs.Outcome.{Outcome, done, unless}
use Rattle.parties.specs.Parties.{is_party_count}
use Rattle.circuit.specs.Circuit.{Circuit}
use Rattle.circuit.specs.File.{legal, read_circuit}
use Rattle.circuit.specs.Operations.{holds, evaluate_legal, evaluate_op}
use Rattle.plain.specs.Showing.{rows_of, Showing, replay_of}
use Rattle.mpc.specs.Operations.{holds_rows, broadcast_bits, holds_showing, unused_showing, replay_legal, replay_op}
use Rattle.mpc.proofs.Succeeding.{unless-test, unless-rest, work-succeeded}
use Rattle.openings.specs.Openings.{unmasked, WitnessOf, TwoOpeningsReplayed}
use Rattle.openings.proofs.Theorem.{two-openings}

-- what a call of replay that succeeds says of its replay
record Replayed (c : Circuit) (n p : ℕ) (x : Showing) (y filled : List ℕ) : Type 0 where
  party : p < n
  output : pack (replay_of c n p x).output ≡ y
  rows : rows_of n (replay_of c n p x) ≡ filled

replay-legal : (c : Circuit) (n p : ℕ) (x : Showing) (y out rows : List ℕ) → replay_legal n p x y out c ≡ done (rows ∷ []) → Replayed c n p x y rows
unfolding replay_legal
replay-legal c n p x y out rows e =
    let sizes : Bool = holds_showing c n x && holds (length c.outputs) y && holds_rows n (broadcast_bits c) out in
    let clean : Bool = unused_showing c n p x && unused_zero (length c.outputs) y in
    let same : Bool = same_bytes (pack (replay_of c n p x).output) y in
    let lent : List (List ℕ) = out ∷ [] in
    let last : Outcome = done (rows_of n (replay_of c n p x) ∷ []) in
    let e1 = unless-rest (is_party_count n) 8 lent (unless (ltb p n) 9 lent (unless sizes 6 lent (unless clean 7 lent (unless same 10 lent last)))) [] (rows ∷ []) e in
    let e2 = unless-rest (ltb p n) 9 lent (unless sizes 6 lent (unless clean 7 lent (unless same 10 lent last))) [] (rows ∷ []) e1 in
    let e3 = unless-rest sizes 6 lent (unless clean 7 lent (unless same 10 lent last)) [] (rows ∷ []) e2 in
    let e4 = unless-rest clean 7 lent (unless same 10 lent last) [] (rows ∷ []) e3 in
    let r : rows_of n (replay_of c n p x) ∷ [] ≡ rows ∷ [] = ap (λ (z : Outcome). z.left) (unless-rest same 10 lent last [] (rows ∷ []) e4) in
    record {
      party = ltb-true p n (unless-test (ltb p n) 9 lent (unless sizes 6 lent (unless clean 7 lent (unless same 10 lent last))) [] (rows ∷ []) e1);
      output = same-eq (pack (replay_of c n p x).output) y (unless-test same 10 lent last [] (rows ∷ []) e4);
      rows = cc;
    }

replay-done : (s : List ℕ) (c : Circuit) (n p : ℕ) (x : Showing) (y out work rows worked : List ℕ) → read_circuit s ≡ legal c
    → replay_op s n p x y out work ≡ done (rows ∷ worked ∷ []) → Replayed c n p x y rows
unfolding replay_op
replay-done s c n p x y out work rows worked h e =
    let z = work-succeeded s (out ∷ []) work (replay_legal n p x y out) [] (rows ∷ []) worked e in
    let same : z.circuit ≡ c = let q : legal z.circuit ≡ legal c = sym z.read ∙ h in cc in
    replay-legal c n p x y out rows (ap (replay_legal n p x y out) (sym same) ∙ z.rest)

-- evaluating a witness of y fills y
evaluate-done : (s : List ℕ) (c : Circuit) (y w filled : List ℕ) → read_circuit s ≡ legal c → WitnessOf c y w → holds (length c.outputs) filled ≡ true
    → evaluate_op s w filled ≡ done (y ∷ [])
unfolding evaluate_op evaluate_legal
evaluate-done s c y w filled h g e = rw (h, eq-eqb (length w) _ g.witness.bytes.size, e, g.witness.unused, g.gives)

-- two openings over the operation
pub two-openings-replayed : TwoOpeningsReplayed
two-openings-replayed s c h n p q d x right y out out' filled work work' worked worked' e e' f =
    let a = replay-done s c n p _ y out work _ worked h e in
    let b = replay-done s c n q _ y out' work' _ worked' h e' in
    evaluate-done s c y (unmasked c n x.tapes x.masked_inputs) filled h
    (two-openings s c h n p q a.party b.party d x right y a.output a.rows b.output b.rows) f
