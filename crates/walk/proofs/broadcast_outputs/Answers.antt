-- `walk::broadcast_outputs` meets its contract. The loop's invariant: the first j output wires are broadcast, and their values put.
-- Assumes nothing.
use native.Mathlib.Omega.{arith}
use mathlib.Core.Path.{◌≡◌, sym, ap, ap₂, ◌∙◌}
use Prim.Native.Nat.{ℕ}
use Rattle.bits.specs.Bits.{tabulate, pack}
use Rattle.circuit.proofs.Run.{output-low}
use Rattle.planes.specs.declared.Layout.{Layout}
use Rattle.gates.proofs.Steps.{room-kept}
use Rattle.walk.specs.Steps.{outputs_sent, output_bit}
use Rattle.walk.proofs.Turns.{layout-room, layout-wires, layout-ands, layout-outputs, outputs-none, outputs-turn, value-turn, bits_none, bits-turn, bits-all}
use Rattle.walk.proofs.broadcast_outputs.Goals as goal

pub loop-j-init : goal.loop-j-init
loop-j-init c =
    let x = c.args in
    let l = c.layout-l.result in record {
      sent = outputs-none l x.hidden x.s.now x.memory.now;
      values = c.clear.ensures ∙ bits_none x.z.outputs (output_bit l x.hidden x.s.now x.memory.now) _ c.requires.fits;
    }

pub output-x-requires : goal.output-x-requires
output-x-requires c =
    let l = c.loop-j in
    let a = c.requires.laid in
    let e = c.layout-l.ensures in
    let o = output-low c.args.s.now c.args.z.outputs l.j c.requires.outputs (omega arith) in (
      room-kept _ _ _ l.auto.memory (layout-room _ _ e _ c.requires.memory),
      (omega (arith, o, c.output_wire-w.ensures, layout-wires _ _ e, a.inputs, a.gates), omega (arith, layout-ands _ _ e, layout-outputs _ _ e)),
    )

pub loop-j-preserved : goal.loop-j-preserved
loop-j-preserved c =
    let x = c.args in
    let l = c.loop-j in
    let i = l.invariant in
    let k = c.layout-l.result in
    let a = sym (layout-ands _ _ c.layout-l.ensures) in
    let w = c.output_wire-w.ensures in record {
      sent = outputs-turn k x.hidden x.s.now x.z.ands l.j _ l.memory _ x.memory.now a i.sent w c.output-x.ensures.memory_after;
      values =
          c.put_bit.ensures
          ∙ bits-turn x.z.outputs (output_bit k x.hidden x.s.now x.memory.now) l.j _ l.y (omega arith)
          (value-turn k x.hidden x.s.now x.z.ands l.j _ c.output-x.result l.memory x.memory.now a i.sent w c.output-x.ensures.value) i.values;
    }

pub returns : goal.returns
returns c =
    let l = c.loop-j in
    let x = c.args in
    let e : l.j ≡ x.z.outputs = omega arith in
    let f = output_bit c.layout-l.result x.hidden x.s.now x.memory.now in record {
      memory_after = l.invariant.sent ∙ ap₂ (λ (v : Layout) (j : ℕ). outputs_sent v x.hidden x.s.now j x.memory.now) c.layout-l.ensures e;
      y_after =
          l.invariant.values ∙ bits-all x.z.outputs f l.j (omega arith)
          ∙ ap (λ (v : Layout). pack (tabulate x.z.outputs (output_bit v x.hidden x.s.now x.memory.now))) c.layout-l.ensures;
    }
