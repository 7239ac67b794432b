-- `derivation::four_tapes_at` meets its contract.
-- Assumes nothing.
use native.Mathlib.Omega.{arith}
use mathlib.Core.Path.{◌≡◌, ap, ap₂, ◌∙◌}
use mathlib.Core.List.{List}
use Prim.Native.Nat.{ℕ, ◌+◌, ◌-◌, ◌*◌, ◌/◌}
use borrow.Rule.Slice.PartMut.{mid_of}
use lib.ListN.{length, get_or, take, drop}
use lib.Seq.{sets}
use Rattle.four_sponges.proofs.Rows.{four-eq, part-size, put-part}
use Rattle.party.specs.Derive.{tape_row}
use Rattle.derivation.proofs.Keys.{key_at, key-read}
use Rattle.derivation.proofs.four_tapes_at.Goals as goal

pub returns : goal.returns
returns c =
    let x = c.args in
    let m = x.memory.now in
    let fit = c.requires.1.1 in
    let z = c.four_tapes.new.rows in
    let keys = c.four_keys-keys.result in
    let part = part-size x.to (4 * x.len) m fit in
    let size : length z ≡ 4 * x.len = c.four_tapes.auto.rows ∙ part in
    let len : length (mid_of x.to (x.to + 4 * x.len - x.to) m) / 4 ≡ x.len = omega (arith, part) in
    let read = key-read m x.seed 32 (omega (arith, c.requires.1.0)) keys c.four_keys-keys.ensures in
    let row : (i k u : ℕ) (l : List ℕ) → l ≡ key_at m x.seed 32 (omega (arith, c.requires.1.0)) k
    → tape_row x.j i l u (length (mid_of x.to (x.to + 4 * x.len - x.to) m) / 4) ≡ tape_row x.j i (take 16 (drop (x.seed + k * 32) m)) u x.len = λ i k u l e.
    ap₂ (λ (y : List ℕ) (n : ℕ). tape_row x.j i y u n) e len in
    put-part x.to (4 * x.len) m z fit size
    ∙ ap (sets m x.to)
    (c.four_tapes.ensures
    ∙ four-eq (λ k. tape_row x.j (x.i + k) (take 16 (drop (16 * k) keys)) (get_or x.used k 0) (length (mid_of x.to (x.to + 4 * x.len - x.to) m) / 4))
    (λ k. tape_row x.j (x.i + k) (take 16 (drop (x.seed + k * 32) m)) (get_or x.used k 0) x.len)
    (row _ 0 _ _ (read 0 (omega arith))) (row _ 1 _ _ (read 1 (omega arith))) (row _ 2 _ _ (read 2 (omega arith))) (row _ 3 _ _ (read 3 (omega arith))))
