-- What it means that a contract decides the answer: any two answers that it permits for the same call are equal.
use Prim.Native.Nat.{ℕ}
use mathlib.Core.Path.{◌≡◌}
use mathlib.Core.List.{List}
use borrow.Fn.Kinds.{ParamKind, ResultKind, Out, Dens, res_t, ended_of}
use contract.Lifetimes.{Lfts}
use denote.Triple.Clauses.{AtExit}

-- of a contract with nothing lent to change: two permitted results are equal
abbrev pub Decides : (n : ℕ) (ps : List (ParamKind n)) (r : ResultKind n) → Out n ps r → Type 0
Decides n ps r Post =
    (κs : Lfts n) (args : Dens κs ps) (x y : (res_t r κs).Denot) (e f : AtExit (ended_of n ps r) κs) →
    Post κs args x e → Post κs args y f → x ≡ y
