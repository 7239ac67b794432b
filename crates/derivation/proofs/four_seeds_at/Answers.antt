-- `derivation::four_seeds_at` meets its contract.
-- Assumes nothing.
use native.Mathlib.Omega.{arith}
use mathlib.Core.Path.{◌≡◌, ap, ◌∙◌}
use mathlib.Core.List.{List}
use Prim.Native.Nat.{ℕ, ◌+◌, ◌*◌}
use lib.ListN.{length, take, drop}
use lib.Seq.{sets}
use Rattle.four_sponges.proofs.Rows.{four-eq, part-size, put-part}
use Rattle.party.specs.Derive.{seed_row}
use Rattle.derivation.proofs.Keys.{key_at, key-read}
use Rattle.derivation.proofs.four_seeds_at.Goals as goal

pub returns : goal.returns
returns c =
    let x = c.args in
    let m = x.memory.now in
    let fit = c.requires.1.1 in
    let z = c.four_seed_rows.new.rows in
    let keys = c.four_keys-keys.result in
    let size : length z ≡ 128 = c.four_seed_rows.auto.rows ∙ part-size x.to 128 m fit in
    let read = key-read m x.leaf 16 (omega (arith, c.requires.1.0)) keys c.four_keys-keys.ensures in
    let row : (i k : ℕ) (l : List ℕ) → l ≡ key_at m x.leaf 16 (omega (arith, c.requires.1.0)) k
    → seed_row x.j i l ≡ seed_row x.j i (take 16 (drop (x.leaf + k * 16) m)) = λ i k l e. ap (seed_row x.j i) e in
    put-part x.to 128 m z fit size
    ∙ ap (sets m x.to)
    (c.four_seed_rows.ensures
    ∙ four-eq (λ k. seed_row x.j (x.i + k) (take 16 (drop (16 * k) keys))) (λ k. seed_row x.j (x.i + k) (take 16 (drop (x.leaf + k * 16) m)))
    (row _ 0 _ (read 0 (omega arith))) (row _ 1 _ (read 1 (omega arith))) (row _ 2 _ (read 2 (omega arith))) (row _ 3 _ (read 3 (omega arith))))
