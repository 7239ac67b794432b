-- `proof_tests::test_proof` meets its contract.
-- Assumes nothing.
use mathlib.Core.Path.{refl, ◌∙◌}
use native.Mathlib.Omega.{arith}
use Rattle.instance.proofs.Trees.{tree-sizes}
use Rattle.proof_tests.proofs.Headers.{header-long, headed-few}
use Rattle.proof_tests.proofs.Checks.{header-drawable, table-asking, check-length, check-sized, check-unused, check-passed, check-ready}
use Rattle.proof_tests.proofs.test_proof.Goals as goal

pub slice_bounds-draw_challenge-end : goal.slice_bounds-draw_challenge-end
slice_bounds-draw_challenge-end c = omega (arith, header-long c.args.proof.now c.requires.1.1.0.good)

pub draw_challenge-requires : goal.draw_challenge-requires
draw_challenge-requires c =
    let p = c.requires in
    (header-drawable _ _ _ _ _ _ p.1.1.0, p.1.1.1.0)

pub mark_nodes-opened-requires : goal.mark_nodes-opened-requires
mark_nodes-opened-requires c =
    let p = c.requires in
    let x = c.args in
    (headed-few _ _ _ _ _ _ p.1.1.0, (omega (arith, (tree-sizes x.k.parties x.k.height p.1.0).few), (c.draw_challenge.auto.table ∙ p.1.1.1.0, p.1.1.1.1)))

pub proof_bytes-requires : goal.proof_bytes-requires
proof_bytes-requires c =
    let x = c.args in
    let p = c.requires in
    (p.0, (p.1.0, (headed-few _ _ _ _ _ _ p.1.1.0, (table-asking x.s.now x.k.instances x.k.chosen x.k.parties x.y.now x.message.now x.proof.now _ p.1.1.0 c.draw_challenge.ensures, c.mark_nodes-opened.ensures.value))))

pub returns-then-proof-proof_bytes : goal.returns-then-proof-proof_bytes
returns-then-proof-proof_bytes c =
    let x = c.args in record {
      result_value = check-length x.s.now x.k.instances x.k.chosen x.k.parties x.y.now x.message.now x.proof.now _ c.requires.1.1.0 c.draw_challenge.ensures _ c.proof_bytes.ensures c.if-proof-proof_bytes.true;
      took = tt;
    }

pub all_unused-requires : goal.all_unused-requires
all_unused-requires c =
    let x = c.args in
    let p = c.requires in
    (p.0, (p.1.0, (check-sized x.s.now x.k.instances x.k.chosen x.k.parties x.y.now x.message.now x.proof.now _ p.1.1.0 c.draw_challenge.ensures _ c.proof_bytes.ensures c.if-proof-proof_bytes.false, c.mark_nodes-opened.ensures.value)))

pub returns-then-not-all_unused : goal.returns-then-not-all_unused
returns-then-not-all_unused c =
    let x = c.args in record {
      result_value = check-unused x.s.now x.k.instances x.k.chosen x.k.parties x.y.now x.message.now x.proof.now _ c.requires.1.1.0 c.draw_challenge.ensures _ c.proof_bytes.ensures c.if-proof-proof_bytes.false _ c.all_unused.ensures c.if-not-all_unused.true-raw;
      took = tt;
    }

pub returns : goal.returns
returns c =
    let x = c.args in
    let p = c.requires in
    let h = p.1.1.0 in
    let l = c.if-proof-proof_bytes.false in
    let t = c.if-not-all_unused.false-raw in record {
      result_value = check-passed x.s.now x.k.instances x.k.chosen x.k.parties x.y.now x.message.now x.proof.now _ h c.draw_challenge.ensures _ c.proof_bytes.ensures l _ c.all_unused.ensures t;
      took = (
        refl,
        check-ready x.s.now x.k.instances x.k.chosen x.k.parties x.y.now x.message.now x.proof.now _ h c.draw_challenge.ensures _ c.proof_bytes.ensures l _ c.all_unused.ensures t x.z x.k.height _ _ p.0 p.1.0 c.mark_nodes-opened.ensures.value c.mark_nodes-opened.ensures.marks_after,
      );
    }

pub slice_bounds-draw_challenge-end-2 : goal.slice_bounds-draw_challenge-end-2
slice_bounds-draw_challenge-end-2 c = header-long c.args.proof.now c.requires.1.1.0.good
