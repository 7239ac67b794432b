-- `instance::sending::send` meets its contract.
-- Assumes nothing.
use mathlib.Core.Path.{sym, ap, ◌∙◌}
use mathlib.Core.List.{List}
use native.Mathlib.Omega.{arith}
use Prim.Native.Nat.{ℕ}
use lib.ListN.{length-replicate}
use Rattle.bits.specs.Bytes.{row_of}
use Rattle.bits.proofs.Copies.{prefix-length}
use Rattle.mpc.proofs.Opened.{ands-low}
use Rattle.instance.proofs.Rooms.{lent-kept, lent-end, lent-seeded, lent-planes, seed-length}
use Rattle.instance.proofs.Sent.{clean, masked-made, ran-made, few-masked, front-inside, front-back, front-taken}
use Rattle.instance.proofs.Laid.{stretch-size, stretch-made}
use Rattle.instance.proofs.sending.send.Goals as goal

pub hold_parties-requires : goal.hold_parties-requires
hold_parties-requires c = (c.requires.0, c.requires.1.1.0)

pub seed_of-own-requires : goal.seed_of-own-requires
seed_of-own-requires c = let k = lent-kept _ _ _ _ _ c.requires.0 c.hold_parties.new.memory c.hold_parties.auto.memory in (lent-planes _ _ _ _ _ k, (lent-seeded _ _ _ _ _ k, c.requires.1.1.1.0))

pub slice_bounds-masked-end : goal.slice_bounds-masked-end
slice_bounds-masked-end c = omega (arith, length-replicate {A = ℕ} 64 0, few-masked _ _ _ c.requires.0.known c.oct-m.ensures)

pub slice_bounds-run_tapes-end : goal.slice_bounds-run_tapes-end
slice_bounds-run_tapes-end c = sym (prefix-length _ 64 (few-masked _ _ _ c.requires.0.known c.oct-m.ensures))

pub run_tapes-requires : goal.run_tapes-requires
run_tapes-requires c =
    let k = lent-kept _ _ _ _ _ c.requires.0 c.hold_parties.new.memory c.hold_parties.auto.memory in
    (k, (c.requires.1.0, (clean _ _ _ _ _ _ _ k c.args.witness.now c.hold_parties.ensures.memory_after_2, prefix-length _ 64 (few-masked _ _ _ c.requires.0.known c.oct-m.ensures) ∙ c.oct-m.ensures)))

pub slice_bounds-masked-end-2 : goal.slice_bounds-masked-end-2
slice_bounds-masked-end-2 c = front-inside 64 c.oct-m.result c.run_tapes.new.masked (few-masked _ _ _ c.requires.0.known c.oct-m.ensures) c.run_tapes.auto.masked

pub slice_bounds-send_ran-end-2 : goal.slice_bounds-send_ran-end-2
slice_bounds-send_ran-end-2 c = front-taken 64 c.oct-m.result c.run_tapes.new.masked (few-masked _ _ _ c.requires.0.known c.oct-m.ensures) c.run_tapes.auto.masked

pub send_ran-requires : goal.send_ran-requires
send_ran-requires c =
    let p = c.requires in
    let k = lent-kept _ _ _ _ _ c.requires.0 c.hold_parties.new.memory c.hold_parties.auto.memory in
    let v = lent-kept _ _ _ _ _ c.requires.0 c.run_tapes.new.memory (c.run_tapes.auto.memory ∙ c.hold_parties.auto.memory) in
    let size = front-taken 64 c.oct-m.result c.run_tapes.new.masked (few-masked _ _ _ c.requires.0.known c.oct-m.ensures) c.run_tapes.auto.masked in (
      lent-planes _ _ _ _ _ v,
      (
        lent-end _ _ _ _ _ v,
        (
          omega (arith, ands-low _ _ _ _ _ p.0.known, p.0.known.legal.laid.few_gates),
          (
            p.0.tree,
            (
              p.1.1.1.0,
              (
                p.1.1.0,
                (
                  seed-length _ _ _ _ _ (lent-seeded _ _ _ _ _ k) p.1.1.1.0 c.seed_of-own.ensures,
                  (sym size ∙ c.oct-m.ensures, p.1.1.1.1 ∙ stretch-size _ _ _ _ c.args.p p.0.known p.0.tree),
                ),
              ),
            ),
          ),
        ),
      ),
    )

pub returns : goal.returns
returns c =
    let p = c.requires in
    let x = c.args in
    let k = lent-kept _ _ _ _ _ c.requires.0 c.hold_parties.new.memory c.hold_parties.auto.memory in
    let w = x.witness.now in
    let ran = ran-made _ _ _ _ _ _ _ k w c.hold_parties.ensures.memory_after_2 _ c.run_tapes.ensures.memory_after c.run_tapes.ensures.memory_after_2 in
    let masked = front-back 64 c.oct-m.result c.run_tapes.new.masked (few-masked _ _ _ c.requires.0.known c.oct-m.ensures) c.run_tapes.auto.masked ∙ masked-made _ _ _ _ _ _ _ k w c.hold_parties.ensures.memory_after_2 _ c.run_tapes.ensures.masked_after in
    let own = c.seed_of-own.ensures ∙ ap (λ (t : List ℕ). row_of t 32 x.p) c.hold_parties.ensures.memory_after in
    stretch-made _ _ _ _ _ _ _ _ _ _ _ _ p.1.1.1.0 p.0.tree own ran masked c.send_ran.ensures
