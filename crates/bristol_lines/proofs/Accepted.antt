-- What is known of a text that is accepted: its sizes, and that each gate line fits below those above it.
-- Assumes nothing.
use mathlib.Core.Path.{◌≡◌, refl, sym, ap, ◌∙◌}
use mathlib.Core.Bool.{Bool, true, false, cond, not, ◌&&◌}
use mathlib.Core.List.{List, [], ◌∷◌, ◌++◌, append_assoc, append-nil}
use mathlib.Core.Option.{Option, none, some}
use Prim.Native.Nat.{ℕ, zero, suc, ◌+◌, ◌≤◌}
use native.Mathlib.Omega.{arith}
use lib.Dec.{eqb, leb}
use lib.ListN.{length, get_or}
use borrow.Author.Tests.{leb-true}
use Rattle.bits.proofs.Tests.{and-true-left, and-true-right}
use Rattle.bristol_text.specs.Text.{Line, lines}
use Rattle.circuit.specs.File.{max_inputs, max_outputs, max_gates}
use Rattle.bristol_lines.specs.Rules.{GateLine, Text, Reading, refused, says, is_counts, is_groups, group_sum, numbers_on, is_known, kind_on, gate_on, fits_below, gate_else22, gate_lines, output_line, input_line, count_line, read_text, gates_below}

-- each of the gate lines fits below the ones above it
unfoldable pub Fits : ℕ → ℕ → List GateLine → List GateLine → Type 0
Fits I G above [] = Unit {0}
Fits I G above (g ∷ gs) = (fits_below I G above g ≡ true) × Fits I G (above ++ (g ∷ [])) gs

-- an accepted text
pub record Accepted (t : Text) : Type 0 where
  pub some_inputs : 1 ≤ t.inputs
  pub few_inputs : t.inputs ≤ max_inputs
  pub some_outputs : 1 ≤ t.outputs
  pub few_outputs : t.outputs ≤ max_outputs
  pub few_gates : length t.gates ≤ max_gates
  pub enough : t.outputs ≤ t.inputs + length t.gates
  pub fits : Fits t.inputs (length t.gates) [] t.gates

-- n more gate lines below the ones above were accepted, and the text is t
pub record More (I O G n : ℕ) (above : List GateLine) (t : Text) : Type 0 where
  pub new : List GateLine
  pub so-many : length new ≡ n
  pub text : t ≡ record { inputs = I; outputs = O; gates = above ++ new }
  pub fits : Fits I G above new

-- a test that was passed, and what came after it
passed : {t : Text} (b : Bool) (k : ℕ) (r : Reading) → cond (not b) (refused k) r ≡ says t → b ≡ true
passed true k r e = refl
passed false k r e = cc

pub after : {t : Text} (b : Bool) (k : ℕ) (r : Reading) → cond (not b) (refused k) r ≡ says t → r ≡ says t
after true k r e = e
after false k r e = cc

module _ (I O G : ℕ) (t : Text) where
  gates-more : (n : ℕ) (above : List GateLine) (o : Option GateLine) (ls : List Line)
      → gate_else22 o (λ g. cond (not (fits_below I G above g)) (refused 22) (gate_lines I O G n (above ++ (g ∷ [])) ls)) ≡ says t
      → ((g : GateLine) → gate_lines I O G n (above ++ (g ∷ [])) ls ≡ says t → More I O G n (above ++ (g ∷ [])) t)
      → More I O G (suc n) above t
  unfolding gate_else22 Fits
  gates-more n above none ls e f =
      let z : ◌≡◌ {A = ℕ} 0 1 = cc in
      absurd (omega arith)
  gates-more n above (some g) ls e f =
      let rest = after (fits_below I G above g) 22 (gate_lines I O G n (above ++ (g ∷ [])) ls) e in
      let m = f g rest in
      record {
        new = g ∷ m.new;
        so-many = ap suc m.so-many;
        text = m.text ∙ ap (λ (l : List GateLine). record { inputs = I; outputs = O; gates = l }) (append_assoc above (g ∷ []) m.new);
        fits = (passed (fits_below I G above g) 22 (gate_lines I O G n (above ++ (g ∷ [])) ls) e, m.fits);
      }

  pub gates-accepted : (n : ℕ) (above : List GateLine) (ls : List Line) → gate_lines I O G n above ls ≡ says t → More I O G n above t
  unfolding gate_lines Fits
  gates-accepted zero above [] e =
      let same : record { inputs = I; outputs = O; gates = above } ≡ t = cc in
      record {
        new = [];
        so-many = refl;
        text = sym same ∙ ap (λ (l : List GateLine). record { inputs = I; outputs = O; gates = l }) (sym (append-nil above));
        fits = tt;
      }
  gates-accepted zero above (l ∷ ls) e =
      let z : ◌≡◌ {A = ℕ} 0 1 = cc in
      absurd (omega arith)
  gates-accepted (suc n) above [] e =
      let z : ◌≡◌ {A = ℕ} 0 1 = cc in
      absurd (omega arith)
  gates-accepted (suc n) above (l ∷ ls) e =
      gates-more n above (gate_on l) ls (after (is_known (kind_on l.bytes)) 23 _ e) (λ g. gates-accepted n (above ++ (g ∷ [])) ls)

-- what the lines from the third on tell, where there are I inputs and G gates
pub record Below (I G : ℕ) (t : Text) : Type 0 where
  pub inputs : t.inputs ≡ I
  pub gates : length t.gates ≡ G
  pub some_outputs : 1 ≤ t.outputs
  pub few_outputs : t.outputs ≤ max_outputs
  pub enough : t.outputs ≤ I + G
  pub fits : Fits I G [] t.gates

module _ (t : Text) where
  pub below : (I O G : ℕ) → 1 ≤ O → O ≤ max_outputs → O ≤ I + G → More I O G G [] t → Below I G t
  below I O G a b c m =
      let o : t.outputs ≡ O = ap (λ (x : Text). x.outputs) m.text in
      let g : t.gates ≡ m.new = ap (λ (x : Text). x.gates) m.text in
      record {
        inputs = ap (λ (x : Text). x.inputs) m.text;
        gates = ap length g ∙ m.so-many;
        some_outputs = omega arith;
        few_outputs = omega arith;
        enough = omega arith;
        fits = rw g m.fits;
      }

  outputs-accepted : (I G : ℕ) (ls : List Line) → output_line gates_below I G ls ≡ says t → Below I G t
  unfolding output_line
  outputs-accepted I G [] e =
      let z : ◌≡◌ {A = ℕ} 0 1 = cc in
      absurd (omega arith)
  outputs-accepted I G (l ∷ ls) e =
      let O : ℕ = group_sum l in
      let formed : Bool = is_groups l && leb O (I + G) in
      let limited : Bool = leb 1 O && leb O max_outputs in
      let e₂ = after formed 22 (cond (not limited) (refused 24) (gate_lines I O G G [] ls)) e in
      let p = passed formed 22 (cond (not limited) (refused 24) (gate_lines I O G G [] ls)) e in
      let q = passed limited 24 (gate_lines I O G G [] ls) e₂ in
      below I O G (leb-true 1 O (and-true-left (leb 1 O) (leb O max_outputs) q)) (leb-true O max_outputs (and-true-right (leb 1 O) (leb O max_outputs) q))
      (leb-true O (I + G) (and-true-right (is_groups l) (leb O (I + G)) p))
      (gates-accepted I O G t G [] ls (after limited 24 (gate_lines I O G G [] ls) e₂))

  pub accepted : (I G : ℕ) → 1 ≤ I → I ≤ max_inputs → G ≤ max_gates → Below I G t → Accepted t
  accepted I G a b c k =
      let i : t.inputs ≡ I = k.inputs in
      let g : length t.gates ≡ G = k.gates in
      record {
        some_inputs = omega arith;
        few_inputs = omega arith;
        some_outputs = k.some_outputs;
        few_outputs = k.few_outputs;
        few_gates = omega arith;
        enough = rw (i, g) k.enough;
        fits = rw (i, g) k.fits;
      }

  inputs-accepted : (G wires : ℕ) (ls : List Line) → G ≤ max_gates → input_line gates_below G wires ls ≡ says t → Accepted t
  unfolding input_line
  inputs-accepted G wires [] h e =
      let z : ◌≡◌ {A = ℕ} 0 1 = cc in
      absurd (omega arith)
  inputs-accepted G wires (l ∷ ls) h e =
      let I : ℕ = group_sum l in
      let formed : Bool = is_groups l && eqb wires (I + G) in
      let limited : Bool = leb 1 I && leb I max_inputs in
      let e₂ = after formed 22 (cond (not limited) (refused 24) (output_line gates_below I G ls)) e in
      let q = passed limited 24 (output_line gates_below I G ls) e₂ in
      accepted I G (leb-true 1 I (and-true-left (leb 1 I) (leb I max_inputs) q)) (leb-true I max_inputs (and-true-right (leb 1 I) (leb I max_inputs) q))
      h (outputs-accepted I G ls (after limited 24 (output_line gates_below I G ls) e₂))

  counts-accepted : (ls : List Line) → count_line gates_below ls ≡ says t → Accepted t
  unfolding count_line
  counts-accepted [] e =
      let z : ◌≡◌ {A = ℕ} 0 1 = cc in
      absurd (omega arith)
  counts-accepted (l ∷ ls) e =
      let G : ℕ = get_or (numbers_on l) 0 0 in
      let rest : Reading = input_line gates_below G (get_or (numbers_on l) 1 0) ls in
      let e₂ = after (is_counts l) 22 (cond (not (leb G max_gates)) (refused 24) rest) e in
      inputs-accepted G (get_or (numbers_on l) 1 0) ls (leb-true G max_gates (passed (leb G max_gates) 24 rest e₂)) (after (leb G max_gates) 24 rest e₂)

  pub text-accepted : (s : List ℕ) → read_text s ≡ says t → Accepted t
  unfolding read_text
  text-accepted s e = counts-accepted (lines s) e
