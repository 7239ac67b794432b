-- `keccak::sponge::absorb_bytes` meets its contract: the loop's invariant: what is left, taken in from here, gives what all gives from the start.
-- Assumes nothing.
use mathlib.Core.List.{List}
use native.Mathlib.Numerals.{add-one}
use lib.Seq.{drop-cons}
use lib.ListN.{drop_of_length-le, length, get_or}
use Rattle.keccak.proofs.Steps.{absorb_byte-room, joined-full, joined-part}
use Rattle.keccak.specs.Steps.{absorb_byte, turned, absorbs}
use Rattle.keccak.specs.declared.sponge.Sponge.{Sponge}
use native.Mathlib.Omega.{arith}
use mathlib.Core.Path.{◌≡◌, sym, ap, ◌∙◌}
use Prim.Native.Nat.{ℕ, ◌+◌, ◌<◌}
use Rattle.keccak.proofs.sponge.absorb_bytes.Goals as goal
use Rattle.keccak.proofs.sponge.absorb_bytes.Goals.{Joined-at-rate, then-at-rate, else-at-rate}

-- the sponge where the ways of the turn meet
joined : (c : Joined-at-rate)
    → ◌≡◌ {A = Sponge} (record { lanes = c.if-at-rate.l; fill = c.if-at-rate.at }) (turned c.args.rate (record { lanes = c.xor_byte.new.l; fill = c.loop-b.at + 1 }))
joined c =
    elim c.if-at-rate.branch [
      | then-at-rate w ↦ joined-full _ _ _ _ _ w.if-at-rate.true (w.l-is ∙ w.permute.ensures) w.at-is
      | else-at-rate w ↦ joined-part _ _ _ _ _ w.if-at-rate.false w.l-is w.at-is
    ]

pub loop-b-preserved : goal.loop-b-preserved
unfolding absorbs absorb_byte
loop-b-preserved c =
    let x = c.args in
    let l = c.loop-b in
    let s : Sponge = record { lanes = l.l; fill = l.at } in
    let h : l.b-index < length x.«data».now = omega arith in
    let e : ◌≡◌ {A = Sponge} (record { lanes = c.if-at-rate.l; fill = c.if-at-rate.at }) (absorb_byte x.rate s (get_or x.«data».now l.b-index 0)) =
    joined c ∙ ap (λ (m : List ℕ). turned x.rate (record { lanes = m; fill = l.at + 1 })) c.xor_byte.ensures in (
      rw (ap (λ (t : Sponge). t.fill) e) (absorb_byte-room x.rate (omega arith) s _ (omega arith)),
      rw (add-one, e) (ap (absorbs x.rate s) (sym (drop-cons x.«data».now l.b-index 0 h)) ∙ l.invariant.1),
    )

pub returns : goal.returns
unfolding absorbs
returns c =
    let x = c.args in
    let l = c.loop-b in
    ap (absorbs x.rate (record { lanes = l.l; fill = l.at })) (sym (drop_of_length-le x.«data».now {i = l.b-index} (omega arith))) ∙ l.invariant.1
