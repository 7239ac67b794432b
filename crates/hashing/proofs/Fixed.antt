-- The challenge's input fixes the statement.
-- Assumes nothing.
use native.Mathlib.Omega.{arith}
use mathlib.Core.Path.{◌≡◌, refl, sym, ap, ◌∙◌}
use mathlib.Core.List.{List, ◌++◌, append_assoc}
use Prim.Native.Nat.{ℕ, ◌/◌, ◌%◌, ◌<◌}
use lib.ListN.{length, get_or, take, drop, length-append}
use lib.Seq.{take_at, drop_at}
use Rattle.bits.specs.Bytes.{le_bytes}
use Rattle.hashing.specs.Inputs.{bound_of, challenge_input}
use Rattle.hashing.specs.Statement.{StatementFixed}

-- equal strings whose first parts are equally long have equal parts
pub parts : (a a' b b' : List ℕ) → length a ≡ length a' → a ++ b ≡ a' ++ b' → (a ≡ a') × (b ≡ b')
parts a a' b b' l e = (
  sym (take_at a b (length a) refl) ∙ ap (take (length a)) e ∙ take_at a' b' (length a) (sym l),
  sym (drop_at a b (length a) refl) ∙ ap (drop (length a)) e ∙ drop_at a' b' (length a) (sym l),
)

-- M, τ and n, in 5 bytes
counts : ℕ → ℕ → ℕ → List ℕ
counts M tau n = le_bytes 2 M ++ le_bytes 2 tau ++ le_bytes 1 n

length-counts : (M tau n : ℕ) → length (counts M tau n) ≡ 5
unfolding counts le_bytes
length-counts M tau n = refl

-- a number below 65536 by its two bytes
two_bytes : (x y : ℕ) → x < 65536 → y < 65536 → x % 256 ≡ y % 256 → x / 256 % 256 ≡ y / 256 % 256 → x ≡ y
two_bytes x y h k e f = omega arith

-- the counts are read back
counts-fixed : (M M' tau tau' n n' : ℕ) → M < 65536 → M' < 65536 → tau < 65536 → tau' < 65536 → n < 256 → n' < 256
    → counts M tau n ≡ counts M' tau' n' → (M ≡ M') × ((tau ≡ tau') × (n ≡ n'))
unfolding counts le_bytes
counts-fixed M M' tau tau' n n' a a' b b' c c' e =
    let at : (k : ℕ) → get_or (counts M tau n) k 0 ≡ get_or (counts M' tau' n') k 0 = λ k. ap (λ (z : List ℕ). get_or z k 0) e in
    let last : n % 256 ≡ n' % 256 = at 4 in
    (two_bytes M M' a a' (at 0) (at 1), (two_bytes tau tau' b b' (at 2) (at 3), omega arith))

-- the bound: the salt, then counts and digest, then y, then the message behind its length
bound-parts : (salt : List ℕ) (M tau n : ℕ) (digest y message : List ℕ)
    → bound_of salt M tau n digest y message ≡ salt ++ ((counts M tau n ++ digest) ++ (y ++ (le_bytes 2 (length message) ++ message)))
unfolding bound_of counts
bound-parts salt M tau n digest y message =
    let front : List ℕ = counts M tau n ++ digest in
    let size : List ℕ = le_bytes 2 (length message) in
    append_assoc ((salt ++ counts M tau n ++ digest) ++ y) size message
    ∙ append_assoc (salt ++ counts M tau n ++ digest) y (size ++ message)
    ∙ ap (λ (t : List ℕ). t ++ (y ++ (size ++ message))) (append_assoc salt (counts M tau n) digest)
    ∙ append_assoc salt front (y ++ (size ++ message))

pub statement-fixed : StatementFixed
unfolding challenge_input
statement-fixed a b f g e =
    let head = parts a.hstar b.hstar _ _ (f.hstar ∙ sym g.hstar) (ap (drop 1) e) in
    let bound = sym (bound-parts a.salt a.M a.tau a.n a.digest a.y a.message) ∙ head.1
    ∙ bound-parts b.salt b.M b.tau b.n b.digest b.y b.message in
    let salts = parts a.salt b.salt _ _ (f.salt ∙ sym g.salt) bound in
    let la : length (counts a.M a.tau a.n) ≡ 5 = length-counts a.M a.tau a.n in
    let lb : length (counts b.M b.tau b.n) ≡ 5 = length-counts b.M b.tau b.n in
    let fronts = parts (counts a.M a.tau a.n ++ a.digest) (counts b.M b.tau b.n ++ b.digest) _ _
    (length-append (counts a.M a.tau a.n) a.digest
    ∙ omega (arith, la, lb, f.digest, g.digest, length-append (counts b.M b.tau b.n) b.digest)) salts.1 in
    let front = parts (counts a.M a.tau a.n) (counts b.M b.tau b.n) a.digest b.digest (la ∙ sym lb) fronts.0 in
    let numbers = counts-fixed a.M b.M a.tau b.tau a.n b.n f.M g.M f.tau g.tau f.n g.n front.0 in
    let rest = parts a.y b.y (le_bytes 2 (length a.message) ++ a.message) (le_bytes 2 (length b.message) ++ b.message) in
    record {
      hstar = head.0;
      salt = salts.0;
      M = numbers.0;
      tau = numbers.1.0;
      n = numbers.1.1;
      digest = front.1;
      y = λ l. (rest l fronts.1).0;
      message = λ l. (parts (le_bytes 2 (length a.message)) (le_bytes 2 (length b.message)) a.message b.message (unfold le_bytes in refl) (rest l fronts.1).1).1;
    }
