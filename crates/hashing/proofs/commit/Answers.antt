-- `hashing::commit` meets its contract: the parts taken in one after the other are their concatenation.
-- Assumes nothing.
use mathlib.Core.List.{[], ◌∷◌, ◌++◌}
use Rattle.hashing.specs.Digest.{given, taken}
use Rattle.hashing.proofs.Hashes.{bytes-append, bytes_one, empty-room, took-tag, took_more, took-room}
use Rattle.hashing.proofs.Digests.{given-taken}
use native.Mathlib.Omega.{arith}
use mathlib.Core.Path.{refl, ap, ◌∙◌}
use Rattle.hashing.proofs.commit.Goals as goal

pub absorb_byte-s-requires : goal.absorb_byte-s-requires
absorb_byte-s-requires c = (omega arith, rw c.new.ensures (empty-room 136 (omega arith)))

pub absorb_in-a-requires : goal.absorb_in-a-requires
absorb_in-a-requires c = (omega arith, (refl, took-room 136 (omega arith) (took-tag 136 _ _ _ c.new.ensures c.absorb_byte-s.ensures)))

pub absorb_in-b-requires : goal.absorb_in-b-requires
absorb_in-b-requires c =
    let t0 = took-tag 136 _ _ _ c.new.ensures c.absorb_byte-s.ensures in
    let t1 = took_more 136 _ _ t0 c.absorb_in-a.ensures in
    (omega arith, (refl, took-room 136 (omega arith) t1))

pub absorb_in-c-requires : goal.absorb_in-c-requires
absorb_in-c-requires c =
    let t0 = took-tag 136 _ _ _ c.new.ensures c.absorb_byte-s.ensures in
    let t1 = took_more 136 _ _ t0 c.absorb_in-a.ensures in
    let t2 = took_more 136 _ _ t1 c.absorb_in-b.ensures in
    (omega arith, (refl, took-room 136 (omega arith) t2))

pub absorb_in-d-requires : goal.absorb_in-d-requires
absorb_in-d-requires c =
    let t0 = took-tag 136 _ _ _ c.new.ensures c.absorb_byte-s.ensures in
    let t1 = took_more 136 _ _ t0 c.absorb_in-a.ensures in
    let t2 = took_more 136 _ _ t1 c.absorb_in-b.ensures in
    let t3 = took_more 136 _ _ t2 c.absorb_in-c.ensures in
    (omega arith, (refl, took-room 136 (omega arith) t3))

pub absorb_in-e-requires : goal.absorb_in-e-requires
absorb_in-e-requires c =
    let t0 = took-tag 136 _ _ _ c.new.ensures c.absorb_byte-s.ensures in
    let t1 = took_more 136 _ _ t0 c.absorb_in-a.ensures in
    let t2 = took_more 136 _ _ t1 c.absorb_in-b.ensures in
    let t3 = took_more 136 _ _ t2 c.absorb_in-c.ensures in
    let t4 = took_more 136 _ _ t3 c.absorb_in-d.ensures in
    (omega arith, (refl, took-room 136 (omega arith) t4))

pub finish-requires : goal.finish-requires
finish-requires c =
    let t0 = took-tag 136 _ _ _ c.new.ensures c.absorb_byte-s.ensures in
    let t1 = took_more 136 _ _ t0 c.absorb_in-a.ensures in
    let t2 = took_more 136 _ _ t1 c.absorb_in-b.ensures in
    let t3 = took_more 136 _ _ t2 c.absorb_in-c.ensures in
    let t4 = took_more 136 _ _ t3 c.absorb_in-d.ensures in
    let t5 = took_more 136 _ _ t4 c.absorb_in-e.ensures in
    took-room 136 (omega arith) t5

pub returns : goal.returns
unfolding taken
returns c =
    let x = c.args in
    let b1 = bytes-append (1 ∷ []) x.salt.now (bytes_one 1 (omega arith)) (λ i. (c.shared_slice_known-1.given i).fits) in
    let b2 = bytes-append (1 ∷ x.salt.now) x.head.now b1 (λ i. (c.shared_slice_known-2-1.given i).fits) in
    let b3 = bytes-append ((1 ∷ x.salt.now) ++ x.head.now) x.seed.now b2 (λ i. (c.shared_slice_known-3-1.given i).fits) in
    let b4 = bytes-append (((1 ∷ x.salt.now) ++ x.head.now) ++ x.seed.now) x.corrections.now b3 (λ i. (c.shared_slice_known-4-1.given i).fits) in
    let b5 = bytes-append ((((1 ∷ x.salt.now) ++ x.head.now) ++ x.seed.now) ++ x.corrections.now) x.r.now b4 (λ i. (c.shared_slice_known-5-1.given i).fits) in
    let t0 = took-tag 136 _ _ _ c.new.ensures c.absorb_byte-s.ensures in
    let t1 = took_more 136 x.salt.now _ t0 c.absorb_in-a.ensures in
    let t2 = took_more 136 x.head.now _ t1 c.absorb_in-b.ensures in
    let t3 = took_more 136 x.seed.now _ t2 c.absorb_in-c.ensures in
    let t4 = took_more 136 x.corrections.now _ t3 c.absorb_in-d.ensures in
    let t5 = took_more 136 x.r.now _ t4 c.absorb_in-e.ensures in
    c.finish.ensures
    ∙ (ap given t5.all ∙ given-taken (((((1 ∷ x.salt.now) ++ x.head.now) ++ x.seed.now) ++ x.corrections.now) ++ x.r.now) b5)
