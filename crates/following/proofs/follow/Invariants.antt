-- A record takes an octet at least, the arrays have their places and keep their sizes, and what is left, run from here, gives the answer.
use Rattle.std.proofs.Common.{◌≡◌, ◌-◌, ◌≤◌, length}
use Rattle.bench_memory.specs.Memory.{memory_of, Lent}
use Rattle.following.proofs.Following.{Ran}
use Rattle.following.proofs.follow.Given as goal

abbrev pub invariant-loop-at : goal.invariant-loop-at
invariant-loop-at l =
    let m = memory_of l.bench l.numbers l.data_ends l.data_slots l.pfc_ends l.pfc_slots in
    (l.steps ≤ l.at) × Lent m × Ran l.watch l.input l.at l.steps m × (length l.data_ends ≡ 128) × (length l.data_slots ≡ 384) ×
    (length l.pfc_ends ≡ 128) × (length l.pfc_slots ≡ 7680)

abbrev pub decreases-loop-at : goal.decreases-loop-at
decreases-loop-at l = length l.input - l.at
