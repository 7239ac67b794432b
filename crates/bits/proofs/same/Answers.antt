-- `bits::same` meets its contract. The loop's invariant: what is gathered is zero where the bytes passed are equal, and only there.
-- Assumes nothing.
use Rattle.std.proofs.Common.{rules, arith, ◌≡◌, sym, [], ◌∷◌, ◌++◌, ℕ, ◌+◌, length, length-append}
use Rattle.std.proofs.lemmas.Slice.Zip.{zip_turn, zip_end}
use Rattle.bits.proofs.Equal.{agree-more, agree-all, lengths_differ}
use Rattle.bits.proofs.same.Goals as goal

pub returns-then-a-b : goal.returns-then-a-b
returns-then-a-b c = sym (lengths_differ _ _ c.if-a-b.true)

pub loop-x-preserved : goal.loop-x-preserved
loop-x-preserved c =
    let a = c.args.a.now in
    let b = c.args.b.now in
    let l = c.loop-x in
    let t = zip_turn {A = ℕ} {B = ℕ} a b l.yielded c.into_iter-x-iterator.result l.x-iterator c.next.new.self c.next.result (search rules) (search rules) l.yielded_by (c.in-Some.x, c.in-Some.y) c.in-Some.is c.next.ensures.steps in
    let m : length (l.yielded ++ ((c.in-Some.x, c.in-Some.y) ∷ [])) ≡ length l.yielded + 1 = omega (arith, length-append l.yielded ((c.in-Some.x, c.in-Some.y) ∷ [])) in
    rw (m, t.2 0, t.3 0) (agree-more a b (length l.yielded) l.diff l.invariant)

pub returns : goal.returns
returns c =
    let a = c.args.a.now in
    let b = c.args.b.now in
    let l = c.loop-x in
    let t = zip_end {A = ℕ} {B = ℕ} a b l.yielded c.into_iter-x-iterator.result l.x-iterator c.next.new.self c.next.result (search rules) (search rules) l.yielded_by c.in-None.is c.next.ensures.steps in
    agree-all a b (length l.yielded) l.diff c.if-a-b.false (omega arith) l.invariant
