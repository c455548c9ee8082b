-- In the arm of a number its own words are given, and in the last arm those of a number without a meaning.
use Rattle.std.proofs.Common.{rules, sym}
use Rattle.phrases.specs.Meanings.{meaning_is, meaning_beyond}
use Rattle.phrases.proofs.meaning.Goals as goal

pub returns-in-0 : goal.returns-in-0
returns-in-0 c = sym (meaning_is c.args.number 0 c.in-0.is)

pub returns-in-1 : goal.returns-in-1
returns-in-1 c = sym (meaning_is c.args.number 1 c.in-1.is)

pub returns-in-2 : goal.returns-in-2
returns-in-2 c = sym (meaning_is c.args.number 2 c.in-2.is)

pub returns-in-3 : goal.returns-in-3
returns-in-3 c = sym (meaning_is c.args.number 3 c.in-3.is)

pub returns-in-4 : goal.returns-in-4
returns-in-4 c = sym (meaning_is c.args.number 4 c.in-4.is)

pub returns-in-5 : goal.returns-in-5
returns-in-5 c = sym (meaning_is c.args.number 5 c.in-5.is)

pub returns-in-6 : goal.returns-in-6
returns-in-6 c = sym (meaning_is c.args.number 6 c.in-6.is)

pub returns-in-7 : goal.returns-in-7
returns-in-7 c = sym (meaning_is c.args.number 7 c.in-7.is)

pub returns-in-8 : goal.returns-in-8
returns-in-8 c = sym (meaning_is c.args.number 8 c.in-8.is)

pub returns-in-9 : goal.returns-in-9
returns-in-9 c = sym (meaning_is c.args.number 9 c.in-9.is)

pub returns-in-10 : goal.returns-in-10
returns-in-10 c = sym (meaning_is c.args.number 10 c.in-10.is)

pub returns-in-11 : goal.returns-in-11
returns-in-11 c = sym (meaning_is c.args.number 11 c.in-11.is)

pub returns-in-12 : goal.returns-in-12
returns-in-12 c = sym (meaning_is c.args.number 12 c.in-12.is)

pub returns-in-13 : goal.returns-in-13
returns-in-13 c = sym (meaning_is c.args.number 13 c.in-13.is)

pub returns-in-14 : goal.returns-in-14
returns-in-14 c = sym (meaning_is c.args.number 14 c.in-14.is)

pub returns-in-15 : goal.returns-in-15
returns-in-15 c = sym (meaning_is c.args.number 15 c.in-15.is)

pub returns-in-16 : goal.returns-in-16
returns-in-16 c = sym (meaning_is c.args.number 16 c.in-16.is)

pub returns-in-17 : goal.returns-in-17
returns-in-17 c = sym (meaning_is c.args.number 17 c.in-17.is)

pub returns-in-18 : goal.returns-in-18
returns-in-18 c = sym (meaning_is c.args.number 18 c.in-18.is)

pub returns-in-19 : goal.returns-in-19
returns-in-19 c = sym (meaning_is c.args.number 19 c.in-19.is)

pub returns-in-20 : goal.returns-in-20
returns-in-20 c = sym (meaning_is c.args.number 20 c.in-20.is)

pub returns-in_default : goal.returns-in_default
returns-in_default c = sym (meaning_beyond c.args.number (search rules))
