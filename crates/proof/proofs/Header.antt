-- The header of a proof, read back.
-- Assumes nothing.
use mathlib.Core.Path.{◌≡◌, refl, ap, ◌∙◌}
use mathlib.Core.Bool.{true}
use mathlib.Core.List.{List, ◌++◌, append_assoc}
use Prim.Native.Nat.{ℕ, ◌<◌, ◌≤◌}
use native.Mathlib.Omega.{arith}
use borrow.Author.Tests.{le-leb}
use lib.ListN.{length, take, drop, length-append}
use lib.Seq.{take_at, drop_at}
use Rattle.bits.specs.Bytes.{le_at, le_bytes}
use Rattle.parties.specs.Parties.{is_party_count}
use Rattle.seeds.specs.Operations.{are_counts}
use Rattle.proof.specs.File.{header_of, header_m, header_tau, header_n, header_zero, header_hstar, header_salt, good_header}

-- a header with its h* and its salt of 32 bytes each, and what follows it
module _ (M tau n : ℕ) (hstar salt rest : List ℕ) (size : length hstar ≡ 32) (salted : length salt ≡ 32) where
  abbrev file : List ℕ
  file = header_of M tau n hstar salt ++ rest

  -- its length
  pub length-header : length (header_of M tau n hstar salt) ≡ 70
  unfolding header_of le_bytes
  length-header = omega (arith, size, salted, length-append hstar salt)

  -- M, tau, n, the zero byte, h* and the salt are read back
  pub header-M : M < 65536 → header_m file ≡ M
  unfolding header_of le_bytes le_at
  header-M h = omega arith

  pub header-tau : tau < 65536 → header_tau file ≡ tau
  unfolding header_of le_bytes le_at
  header-tau h = omega arith

  pub header-n : header_n file ≡ n
  unfolding header_of le_bytes
  header-n = refl

  header-zero : header_zero file ≡ 0
  unfolding header_of le_bytes
  header-zero = refl

  pub header-hstar : header_hstar file ≡ hstar
  unfolding header_of le_bytes
  header-hstar = ap (take 32) (append_assoc hstar salt rest) ∙ take_at hstar (salt ++ rest) 32 size

  pub header-salt : header_salt file ≡ salt
  unfolding header_of le_bytes
  header-salt =
      ap (λ (t : List ℕ). take 32 (drop 32 t)) (append_assoc hstar salt rest) ∙ ap (take 32) (drop_at hstar (salt ++ rest) 32 size)
      ∙ take_at salt rest 32 salted

  -- it is good where the counts are
  pub header-good : M < 65536 → tau < 65536 → are_counts M tau ≡ true → is_party_count n ≡ true → good_header file ≡ true
  unfolding good_header
  header-good a b h i =
      let l : 70 ≤ length file = rw (length-append (header_of M tau n hstar salt) rest) (omega (arith, length-header)) in
      rw (le-leb 70 (length file) l, header-M a, header-tau b, h, header-n, i, header-zero)
