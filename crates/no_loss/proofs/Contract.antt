-- No frame is lost in a run of the bench program: the statement of `Program` about the function's own contract. Whatever the contract
-- permits the program's run to answer has lost nothing, so that there is no gap between the definition and the code. It is for whoever
-- reads the program's lines. It assumes that the input is made of octets, each below 256, and nothing else.
use mathlib.Core.Path.{sym, subst}
use contract.Lifetimes.{Lfts}
use borrow.Fn.Kinds.{Dens, res_t, ended_of}
use denote.Triple.Clauses.{AtExit}
use Rattle.bench_run.proofs.run.Kinds as run_kinds
use Rattle.bench_run.proofs.run.Reads as run
use Rattle.no_loss.specs.Accepted.{Octets, LosesNothingOf}
use Rattle.no_loss.proofs.Program.{nothing_lost_in_a_run}

pub program_loses_nothing : (κs : Lfts 1) (args : Dens κs run_kinds.ps) (answer : (res_t run_kinds.r κs).Denot)
    (exit : AtExit (ended_of 1 run_kinds.ps run_kinds.r) κs) →
    run.Post κs args answer exit → Octets args.0.now → LosesNothingOf args.0.now answer
program_loses_nothing κs args answer exit promised octets =
    subst (LosesNothingOf args.0.now) (sym promised) (nothing_lost_in_a_run args.0.now octets)
