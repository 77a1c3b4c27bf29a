-- The ruleset by which `search` closes an early return: each turns what a branch showed into the value of the definition's test.
use borrow.Author.Rules.{rules}
use borrow.Author.Tests.{lt-ltb, le-ltb, le-leb, lt-leb, eq-eqb, ne_eqb}

pub ruleset tests = (rules, le-ltb, lt-ltb, le-leb, lt-leb, eq-eqb, ne_eqb)
