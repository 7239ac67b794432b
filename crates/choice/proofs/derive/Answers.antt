-- `choice::derive` meets its contract: the sponge of the stream, then what follows from it.
-- Assumes nothing.
use native.Mathlib.Omega.{arith}
use mathlib.Core.Path.{sym, ap₂, ◌∙◌}
use Prim.Native.Nat.{ℕ, ◌*◌}
use Rattle.bits.proofs.Copies.{prefix-length}
use Rattle.keccak.specs.Steps.{squeezes}
use Rattle.hashing.specs.Inputs.{bound_of}
use Rattle.choice.specs.Challenge.{beside, instances, hidden_parties}
use Rattle.choice.proofs.Choosing.{challenge-is, bytes-bound, ready-start}
use Rattle.choice.proofs.derive.Goals as goal

pub slice_bounds-choose_with-end : goal.slice_bounds-choose_with-end
slice_bounds-choose_with-end c = sym (prefix-length (9 * c.args.tau) 4599 (omega (arith, c.requires.0, c.requires.1.0)))

pub slice_bounds-choose_with-end-2 : goal.slice_bounds-choose_with-end-2
slice_bounds-choose_with-end-2 c = sym (prefix-length c.args.tau 512 (omega (arith, c.requires.0, c.requires.1.0)))

pub choose_with-requires : goal.choose_with-requires
choose_with-requires c =
    let x = c.args in
    let p = c.requires in
    let n = prefix-length x.tau 512 (omega (arith, p.0, p.1.0)) in
    let l = prefix-length (9 * x.tau) 4599 (omega (arith, p.0, p.1.0)) in
    (omega (arith, ready-start _ _ c.stream-s.ensures), (p.0, (omega (arith, n, p.1.0), (p.1.1.0, (omega (arith, n, l), omega (arith, n, p.1.1.1))))))

pub returns : goal.returns
returns c =
    let x = c.args in
    let p = c.requires in
    let n = prefix-length x.tau 512 (omega (arith, p.0, p.1.0)) in
    let l = prefix-length (9 * x.tau) 4599 (omega (arith, p.0, p.1.0)) in
    challenge-is x.m x.tau x.n x.hstar.now (bound_of x.salt.now x.m x.tau x.n x.digest.now x.y.now x.message.now) c.stream-s.result c.choose_with.new.out
    (λ i. (c.shared_slice_known-1.given i).fits) (bytes-bound x.salt.now x.m x.tau x.n x.digest.now x.y.now x.message.now (λ i. (c.shared_slice_known-2-1.given i).fits) (λ i. (c.shared_slice_known-3-1.given i).fits) (λ i. (c.shared_slice_known-4-1.given i).fits) (λ i. (c.shared_slice_known-5-1.given i).fits))
    c.stream-s.ensures
    (c.choose_with.ensures ∙ ap₂ (λ (t k : ℕ). beside (instances x.m t (squeezes 136 k c.stream-s.result)) (hidden_parties t x.n (squeezes 136 k c.stream-s.result))) n l)
