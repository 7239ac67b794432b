-- `bristol_text::read_number` meets its contract: the code's tests are those of a number.
-- Assumes nothing.
use Rattle.std.proofs.Common.{rules}
use native.Mathlib.Omega.{arith}
use mathlib.Core.Path.{sym, ◌∙◌}
use Prim.Native.Nat.{◌<◌}
use Rattle.bristol_text.proofs.Numbers.{number-none, token-inside, number-tests, number-bad, number-good, number_digits}
use Rattle.bristol_text.proofs.Runs.{end-of-token}
use Rattle.bristol_text.specs.Text.{is_digit}
use Rattle.bristol_text.specs.Steps.{in_token}
use Rattle.bristol_text.proofs.read_number.Goals as goal

pub returns-then-end-at : goal.returns-then-end-at
unfolding is_digit
returns-then-end-at c =
    let x = c.args in
    let d = c.stop_at-digits.ensures is_digit (λ y b t. search rules) in
    let e = end-of-token x.l.now x.c.at _ _ d (c.stop_at-end.ensures in_token (λ y b t. search rules)) in
    sym (number-none x.l.now x.c.at _ e (omega arith))

pub bounds-l-at : goal.bounds-l-at
unfolding is_digit
bounds-l-at c =
    let x = c.args in
    let d = c.stop_at-digits.ensures is_digit (λ y b t. search rules) in
    let e = end-of-token x.l.now x.c.at _ _ d (c.stop_at-end.ensures in_token (λ y b t. search rules)) in
    let h : x.c.at < c.stop_at-end.result = omega arith in
    omega (arith, token-inside x.l.now x.c.at _ e h)

pub returns-then-not-good_number : goal.returns-then-not-good_number
unfolding is_digit
returns-then-not-good_number c =
    let x = c.args in
    let d = c.stop_at-digits.ensures is_digit (λ y b t. search rules) in
    let e = end-of-token x.l.now x.c.at _ _ d (c.stop_at-end.ensures in_token (λ y b t. search rules)) in
    let h : x.c.at < c.stop_at-end.result = omega arith in
    let tests = sym (number-tests x.l.now x.c.at _ e h _ d) ∙ sym c.good_number.ensures in
    sym (number-bad x.l.now x.c.at _ e h (tests ∙ c.if-not-good_number.true))

pub value-requires : goal.value-requires
unfolding is_digit
value-requires c =
    let x = c.args in
    let d = c.stop_at-digits.ensures is_digit (λ y b t. search rules) in
    let e = end-of-token x.l.now x.c.at _ _ d (c.stop_at-end.ensures in_token (λ y b t. search rules)) in
    let h : x.c.at < c.stop_at-end.result = omega arith in
    let tests = sym (number-tests x.l.now x.c.at _ e h _ d) ∙ sym c.good_number.ensures in
    number_digits x.l.now x.c.at _ e h (tests ∙ c.if-not-good_number.false)

pub returns : goal.returns
unfolding is_digit
returns c =
    let x = c.args in
    let d = c.stop_at-digits.ensures is_digit (λ y b t. search rules) in
    let e = end-of-token x.l.now x.c.at _ _ d (c.stop_at-end.ensures in_token (λ y b t. search rules)) in
    let h : x.c.at < c.stop_at-end.result = omega arith in
    let tests = sym (number-tests x.l.now x.c.at _ e h _ d) ∙ sym c.good_number.ensures in
    rw c.value.ensures (sym (number-good x.l.now x.c.at _ e h (tests ∙ c.if-not-good_number.false)))
