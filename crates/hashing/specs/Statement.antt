-- What a challenge's input fixes. Document 02, order 1: "one transcript could be offered under two circuits, since the challenge hashes
-- only h* and the message. The trade now hashes the whole statement." Order 10: the salt "follows h* in the challenge".
-- Assumes nothing.
use Rattle.std.specs.Prelude.{◌≡◌, List, ℕ, ◌<◌, length}
use Rattle.hashing.specs.Inputs.{bound_of, challenge_input}

-- what a challenge is drawn from: h*, the salt, and the statement with its counts
pub record Statement : Type 0 where
  pub hstar : List ℕ
  pub salt : List ℕ
  pub M : ℕ
  pub tau : ℕ
  pub n : ℕ
  pub digest : List ℕ
  pub y : List ℕ
  pub message : List ℕ

-- its input
abbrev pub input_of : Statement → List ℕ
input_of a = challenge_input a.hstar (bound_of a.salt a.M a.tau a.n a.digest a.y a.message)

-- h*, the salt and the digest have 32 bytes; the counts fit their widths: "M, τ (u16), n (u8)"
pub record Fits (a : Statement) : Type 0 where
  pub hstar : length a.hstar ≡ 32
  pub salt : length a.salt ≡ 32
  pub M : a.M < 65536
  pub tau : a.tau < 65536
  pub n : a.n < 256
  pub digest : length a.digest ≡ 32

-- what is then equal; the length of y is not in the input, as the circuit fixes it
pub record Same (a b : Statement) : Type 0 where
  pub hstar : a.hstar ≡ b.hstar
  pub salt : a.salt ≡ b.salt
  pub M : a.M ≡ b.M
  pub tau : a.tau ≡ b.tau
  pub n : a.n ≡ b.n
  pub digest : a.digest ≡ b.digest
  pub y : length a.y ≡ length b.y → a.y ≡ b.y
  pub message : length a.y ≡ length b.y → a.message ≡ b.message

-- Theorem, the statement is fixed: equal challenge inputs have equal h*, salt, M, τ, n and digest, and, where the y are equally long,
-- equal y and message
abbrev pub StatementFixed : Type 0
StatementFixed = (a b : Statement) → Fits a → Fits b → input_of a ≡ input_of b → Same a b
