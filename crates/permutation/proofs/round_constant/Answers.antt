-- `permutation::round_constant` meets its contract: the arm of k has the entry k, by the table's rule, and the last arm is never taken.
-- Each index is below 24.
-- Assumes nothing.
use native.Mathlib.Omega.{arith}
use lib.Dec.{lit<}
use Rattle.permutation.proofs.Constants.{entry-is, none_below}
use Rattle.permutation.proofs.round_constant.Goals as goal

pub returns-in_default : goal.returns-in_default
returns-in_default c = absurd (none_below 24 c.args.ir c.in_default.in_default-own.rest c.requires)

pub returns-in-0 : goal.returns-in-0
returns-in-0 c = entry-is 0 c.args.ir (omega arith) (lit< tt)

pub returns-in-1 : goal.returns-in-1
returns-in-1 c = entry-is 1 c.args.ir (omega arith) (lit< tt)

pub returns-in-2 : goal.returns-in-2
returns-in-2 c = entry-is 2 c.args.ir (omega arith) (lit< tt)

pub returns-in-3 : goal.returns-in-3
returns-in-3 c = entry-is 3 c.args.ir (omega arith) (lit< tt)

pub returns-in-4 : goal.returns-in-4
returns-in-4 c = entry-is 4 c.args.ir (omega arith) (lit< tt)

pub returns-in-5 : goal.returns-in-5
returns-in-5 c = entry-is 5 c.args.ir (omega arith) (lit< tt)

pub returns-in-6 : goal.returns-in-6
returns-in-6 c = entry-is 6 c.args.ir (omega arith) (lit< tt)

pub returns-in-7 : goal.returns-in-7
returns-in-7 c = entry-is 7 c.args.ir (omega arith) (lit< tt)

pub returns-in-8 : goal.returns-in-8
returns-in-8 c = entry-is 8 c.args.ir (omega arith) (lit< tt)

pub returns-in-9 : goal.returns-in-9
returns-in-9 c = entry-is 9 c.args.ir (omega arith) (lit< tt)

pub returns-in-10 : goal.returns-in-10
returns-in-10 c = entry-is 10 c.args.ir (omega arith) (lit< tt)

pub returns-in-11 : goal.returns-in-11
returns-in-11 c = entry-is 11 c.args.ir (omega arith) (lit< tt)

pub returns-in-12 : goal.returns-in-12
returns-in-12 c = entry-is 12 c.args.ir (omega arith) (lit< tt)

pub returns-in-13 : goal.returns-in-13
returns-in-13 c = entry-is 13 c.args.ir (omega arith) (lit< tt)

pub returns-in-14 : goal.returns-in-14
returns-in-14 c = entry-is 14 c.args.ir (omega arith) (lit< tt)

pub returns-in-15 : goal.returns-in-15
returns-in-15 c = entry-is 15 c.args.ir (omega arith) (lit< tt)

pub returns-in-16 : goal.returns-in-16
returns-in-16 c = entry-is 16 c.args.ir (omega arith) (lit< tt)

pub returns-in-17 : goal.returns-in-17
returns-in-17 c = entry-is 17 c.args.ir (omega arith) (lit< tt)

pub returns-in-18 : goal.returns-in-18
returns-in-18 c = entry-is 18 c.args.ir (omega arith) (lit< tt)

pub returns-in-19 : goal.returns-in-19
returns-in-19 c = entry-is 19 c.args.ir (omega arith) (lit< tt)

pub returns-in-20 : goal.returns-in-20
returns-in-20 c = entry-is 20 c.args.ir (omega arith) (lit< tt)

pub returns-in-21 : goal.returns-in-21
returns-in-21 c = entry-is 21 c.args.ir (omega arith) (lit< tt)

pub returns-in-22 : goal.returns-in-22
returns-in-22 c = entry-is 22 c.args.ir (omega arith) (lit< tt)

pub returns-in-23 : goal.returns-in-23
returns-in-23 c = entry-is 23 c.args.ir (omega arith) (lit< tt)
