-- `instance::sending::send_ran` meets its contract.
-- Assumes nothing.
use Prim.Native.Nat.{◌-◌}
use native.Mathlib.Omega.{arith}
use lib.ListN.{length}
use Rattle.packed.specs.Steps.{broadcast_bytes}
use Rattle.instance.proofs.Trees.{tree-parties}
use Rattle.instance.proofs.Checks.{rest-length}
use Rattle.instance.proofs.Laid.{row-asks, ran-laid}
use Rattle.instance.proofs.sending.send_ran.Goals as goal

pub layout-l-requires : goal.layout-l-requires
layout-l-requires c = c.requires.0.few_wires

pub send_held-third-requires : goal.send_held-third-requires
send_held-third-requires c =
    let p = c.requires in
    (p.0, (p.1.0, (p.1.1.0, (p.1.1.1.0, (p.1.1.1.1.0, (p.1.1.1.1.1.0, (p.1.1.1.1.1.1.0, omega (arith, p.1.1.1.1.1.1.1.1))))))))

pub put-fourth-requires : goal.put-fourth-requires
put-fourth-requires c =
    let p = c.requires.1.1.1.1.1.1.1 in
    omega (arith, c.send_held-third.ensures.value, c.send_held-third.auto.part, p.0, p.1)

pub overflow_add-z : goal.overflow_add-z
overflow_add-z c = omega (arith, c.requires.0.few_words)

pub slice_bounds-pack_row-count : goal.slice_bounds-pack_row-count
slice_bounds-pack_row-count c =
    let p = c.requires.1.1.1.1.1.1.1 in
    omega (arith, c.put-fourth.ensures.value, c.put-fourth.auto.part, c.send_held-third.ensures.value, c.send_held-third.auto.part, p.0, p.1)

pub slice_bounds-pack_row-start : goal.slice_bounds-pack_row-start
slice_bounds-pack_row-start c =
    let p = c.requires.1.1.1.1.1.1.1 in
    omega (arith, c.put-fourth.ensures.value, c.put-fourth.auto.part, c.send_held-third.ensures.value, c.send_held-third.auto.part, p.0, p.1)

pub pack_row-requires : goal.pack_row-requires
pack_row-requires c =
    let x = c.requires in
    let p = c.requires.1.1.1.1.1.1.1 in
    row-asks _ _ _ _ _ x.0 c.layout-l.ensures (omega (arith, x.1.1.1.1.0, (tree-parties _ _ x.1.1.1.0).few))
    (rest-length c.put-fourth.result (broadcast_bytes c.args.z) c.put-fourth.new.part
    (omega (arith, c.put-fourth.ensures.value, c.put-fourth.auto.part, c.send_held-third.ensures.value, c.send_held-third.auto.part, p.0, p.1)))

pub returns : goal.returns
returns c =
    let x = c.args in
    let p = c.requires.1.1.1.1.1.1.1 in
    let size = rest-length c.put-fourth.result (broadcast_bytes x.z) c.put-fourth.new.part (omega (arith, c.put-fourth.ensures.value, c.put-fourth.auto.part, c.send_held-third.ensures.value, c.send_held-third.auto.part, p.0, p.1)) in
    ran-laid x.z x.inst.parties x.inst.height x.inst.context x.p c.send_held-third.result c.put-fourth.result (length c.put-fourth.new.part - c.put-fourth.result) _ _ x.master.now x.own.now x.memory.now
    x.part.now c.send_held-third.new.part c.put-fourth.new.part x.masked.now c.pack_row.new.out
    c.send_held-third.ensures.value c.send_held-third.ensures.part_after c.send_held-third.auto.part (omega (arith, c.send_held-third.ensures.value, p.1)) c.put-fourth.ensures.value c.put-fourth.ensures.part_after (omega arith) c.layout-l.ensures size
    c.pack_row.ensures
