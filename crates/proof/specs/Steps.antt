-- What only the contracts of steps use: no definition of the paper stands here.
-- Assumes nothing.
use Rattle.std.specs.Prelude.{◌≡◌, true, cond, List, [], ◌∷◌, ℕ, ◌+◌, ◌*◌, ◌/◌, ◌≤◌, eqb, length, get_or}
use Rattle.bits.specs.Bits.{tabulate}
use Rattle.bits.specs.Bytes.{row_of}
use Rattle.parties.specs.Parties.{is_party_count}
use Rattle.cover.specs.Masters.{height}
use Rattle.cover.specs.Steps.{hidden_by, marks_of}
use Rattle.seeds.specs.Operations.{max_message, max_output_bytes, are_counts}
use Rattle.instance.specs.Instance.{Asked, opened, hiding}

-- what a number asks of an instance of n parties: to hide that party; n where the instance is not chosen
unfoldable pub ask_of : ℕ → ℕ → Asked
ask_of n p = cond (eqb p n) opened (hiding p)

-- instance j in the bytes of a challenge, 3 for each chosen instance: its hidden party, or n where it is not chosen
unfoldable pub party_in : ℕ → ℕ → List ℕ → ℕ
party_in n j [] = n
party_in n j (a ∷ []) = n
party_in n j (a ∷ b ∷ []) = n
party_in n j (a ∷ b ∷ p ∷ rest) = cond (eqb (a + 256 * b) j) p (party_in n j rest)

-- the table of these bytes: what they name for each of M instances
unfoldable pub table_of : ℕ → ℕ → List ℕ → List ℕ
table_of M n choices = tabulate M (λ j. party_in n j choices)

-- what a table asks
abbrev pub asks_in : ℕ → List ℕ → ℕ → Asked
asks_in n table j = ask_of n (get_or table j n)

-- it names parties of n alone
pub record Asking (n : ℕ) (table : List ℕ) : Type 0 where
  pub parties : (j : ℕ) → get_or table j n ≤ n

-- the marks of the nodes of the masters' tree, where the masters are hidden whose instances a table chooses
abbrev pub marks_in : ℕ → ℕ → List ℕ → List ℕ
marks_in M n table = marks_of (height M) M (hidden_by table n)

-- master j in the rows of the tree, of which the second half are leaves
abbrev pub master_in : List ℕ → ℕ → List ℕ
master_in nodes j = row_of nodes 16 (length nodes / 32 + j)

-- what a challenge is drawn from: counts and lengths within the limits
pub record Drawable (M tau n : ℕ) (hstar salt y message : List ℕ) : Type 0 where
  pub counts : are_counts M tau ≡ true
  pub parties : is_party_count n ≡ true
  pub hstar_size : length hstar ≡ 32
  pub salt_size : length salt ≡ 32
  pub y_least : 1 ≤ length y
  pub y_most : length y ≤ max_output_bytes
  pub short : length message ≤ max_message
