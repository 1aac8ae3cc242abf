-- The name of a kind.
use Rattle.std.proofs.Common.{arith}
use Rattle.line.proofs.Fields.{named, unnamed}
use Rattle.line.proofs.name.Goals as goal

pub returns-in-0 : goal.returns-in-0
returns-in-0 c = named 0 c.in-0.is

pub returns-in-1 : goal.returns-in-1
returns-in-1 c = named 1 c.in-1.is

pub returns-in-2 : goal.returns-in-2
returns-in-2 c = named 2 c.in-2.is

pub returns-in-3 : goal.returns-in-3
returns-in-3 c = named 3 c.in-3.is

pub returns-in-4 : goal.returns-in-4
returns-in-4 c = named 4 c.in-4.is

pub returns-in-5 : goal.returns-in-5
returns-in-5 c = named 5 c.in-5.is

pub returns-in-6 : goal.returns-in-6
returns-in-6 c = named 6 c.in-6.is

pub returns-in-7 : goal.returns-in-7
returns-in-7 c = named 7 c.in-7.is

pub returns-in-8 : goal.returns-in-8
returns-in-8 c = named 8 c.in-8.is

pub returns-in-9 : goal.returns-in-9
returns-in-9 c = named 9 c.in-9.is

pub returns-in-10 : goal.returns-in-10
returns-in-10 c = named 10 c.in-10.is

pub returns-in-11 : goal.returns-in-11
returns-in-11 c = named 11 c.in-11.is

pub returns-in-12 : goal.returns-in-12
returns-in-12 c = named 12 c.in-12.is

pub returns-in-13 : goal.returns-in-13
returns-in-13 c = named 13 c.in-13.is

pub returns-in-14 : goal.returns-in-14
returns-in-14 c = named 14 c.in-14.is

pub returns-in-15 : goal.returns-in-15
returns-in-15 c = named 15 c.in-15.is

pub returns-in-16 : goal.returns-in-16
returns-in-16 c = named 16 c.in-16.is

pub returns-in-17 : goal.returns-in-17
returns-in-17 c = named 17 c.in-17.is

pub returns-in-18 : goal.returns-in-18
returns-in-18 c = named 18 c.in-18.is

pub returns-in_default : goal.returns-in_default
returns-in_default c = unnamed _ (omega arith)
