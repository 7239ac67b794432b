-- Theorem: different answers of an operation stay different in the paper's terms, and in what its C function says.
-- "When an answer is an enum, a definition gives this paper's number and values for each of its cases."
-- Assumes nothing.
use Rattle.std.specs.Prelude.{◌≡◌, List, [], ℕ}
use Rattle.refusal.specs.Refusal.{number_of}
use Rattle.refusal.specs.Outcome.{Answer}
use Rattle.circuit.specs.Answers.{read_paper, evaluate_paper}
use Rattle.bristol.specs.Answers as bristol
use Rattle.upgrade.specs.Answers as upgrading
use Rattle.upgrade.specs.Upgrade.{upgrade_op}
use Rattle.join.specs.Answers as joining
use Rattle.small.specs.Answers as small
use Rattle.one_of.specs.Answers as one_of
use Rattle.mpc.specs.Answers as mpc
use Rattle.seeds.specs.Operations as seeds
use Rattle.proving.specs.Answers as proving
use Rattle.checking.specs.Answers as checking
use Rattle.shared_bytes.specs.Answers.{enter_paper, check_paper}
use Rattle.shelf.specs.Operations.{paper as shelfPaper, draw_paper}
use Rattle.wivulameno.specs.Interface.{status, values, slot}

-- different arguments have different results
abbrev pub Injective : {A B : Type 0} → (A → B) → Type 0
Injective {A} f = (a b : A) → f a ≡ f b → a ≡ b

-- the definitions that put each answer enum into the paper's terms: of the refusals; of read; of evaluate; of convert; of upgrade; of join;
-- of small; of one of; of prepare, run, show and replay; of expand, open, masters, cover and challenge; of prove; of check; of the shared
-- checker's entry and call; of stock, with the values of a success; of draw
pub record DifferentAnswers : Type 0 where
  pub refusals : Injective number_of
  pub read : Injective read_paper
  pub evaluate : Injective evaluate_paper
  pub convert : Injective bristol.paper
  pub upgrade : Injective upgrading.paper
  pub join : Injective joining.paper
  pub small : Injective small.paper
  pub one_of : Injective one_of.paper
  pub run : Injective mpc.paper
  pub derive : Injective seeds.paper
  pub prove : Injective proving.paper
  pub check : Injective checking.paper
  pub shared_enter : Injective enter_paper
  pub shared_check : Injective check_paper
  pub shelf : (vs : List ℕ) → Injective (λ a. shelfPaper a vs)
  pub draw : Injective (λ a. draw_paper a)

-- what a C function with numbers to fill in says: its status, and those numbers, where `lent` is what they were
abbrev pub reported : List ℕ → Answer → ℕ × List ℕ
reported lent a = (status a, values a lent)

-- what wv_read and wv_fault_slot say of a reading, and wv_upgrade and wv_upgrade_slot of an old file
abbrev pub read_reported : List ℕ → Answer → (ℕ × List ℕ) × ℕ
read_reported lent a = (reported lent a, slot a)

-- what their C functions say
pub record DifferentStatuses : Type 0 where
  pub read : (lent : List ℕ) → Injective (λ a. read_reported lent (read_paper a))
  pub evaluate : Injective (λ a. status (evaluate_paper a))
  pub convert : (lent : List ℕ) → Injective (λ a. reported lent (bristol.paper a))
  pub upgrade : (lent : List ℕ) → Injective (λ a. read_reported lent (upgrading.paper a))
  -- the slot of wv_upgrade_slot, which lends no output, is that of wv_upgrade
  pub upgrade_slot : (s out : List ℕ) → slot (upgrade_op s []).answer ≡ slot (upgrade_op s out).answer
  pub join : (lent : List ℕ) → Injective (λ a. reported lent (joining.paper a))
  pub one_of : (lent : List ℕ) → Injective (λ a. reported lent (one_of.paper a))
  pub run : Injective (λ a. status (mpc.paper a))
  pub derive : Injective (λ a. status (seeds.paper a))
  pub prove : (lent : List ℕ) → Injective (λ a. reported lent (proving.paper a))
  pub check : Injective (λ a. status (checking.paper a))
  pub shared_enter : Injective (λ a. status (enter_paper a))
  pub shared_check : (lent : List ℕ) → Injective (λ a. reported lent (check_paper a))
  pub shelf : (vs : List ℕ) → Injective (λ a. status (shelfPaper a vs))
  pub draw : (lent : List ℕ) → Injective (λ a. reported lent (draw_paper a))
