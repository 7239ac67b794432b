-- A circuit and its evaluation on bits.
-- Assumes nothing.
use Rattle.std.specs.Prelude.{Bool, not, cond, ◌&&◌, List, [], ◌∷◌, map, ℕ, suc, eqb}
use Rattle.bits.specs.Xor.{◌⊕◌}

-- a gate with the wires it reads and, last, the wire it writes
pub data Gate : Type 0 where
  xor and : ℕ → ℕ → ℕ → Gate
  inv : ℕ → ℕ → Gate

-- I inputs, the output wires, and the gates in chain order
pub record Circuit : Type 0 where
  pub inputs : ℕ
  pub outputs : List ℕ
  pub gates : List Gate

-- f, with x at place c
unfoldable pub put {ℓ} : {A : Type ℓ} → (ℕ → A) → ℕ → A → ℕ → A
put f c x j = cond (eqb j c) x (f j)

-- "A is the number of AND gates"
unfoldable pub ands : List Gate → ℕ
ands [] = 0
ands (xor a b c ∷ gs) = ands gs
ands (and a b c ∷ gs) = suc (ands gs)
ands (inv a c ∷ gs) = ands gs

-- the wires' values after the gates: "Evaluation follows the chain from head"
unfoldable pub eval_gates : List Gate → (ℕ → Bool) → ℕ → Bool
eval_gates [] v = v
eval_gates (xor a b c ∷ gs) v = eval_gates gs (put v c (v a ⊕ v b))
eval_gates (and a b c ∷ gs) v = eval_gates gs (put v c (v a && v b))
eval_gates (inv a c ∷ gs) v = eval_gates gs (put v c (not (v a)))

-- the output bits, where the inputs have the values w
unfoldable pub evaluate : Circuit → (ℕ → Bool) → List Bool
evaluate c w = map (eval_gates c.gates w) c.outputs
