-- Document 01, "07: 32, 43, 42": "Each is given exactly when its condition holds and none earlier in the order does". Assumes nothing.
use Prim.Native.Nat.{ℕ}
use mathlib.Core.Path.{refl}
use Rattle.ground.specs.First.{GivenExactly, are_apart, is_among}
use Rattle.ground.specs.Pick.{pick}
use Rattle.ground.proofs.First.{first_given}
use Rattle.recorder.specs.Watching.{Recorder, taking_order, refusal_with}

pub taking_given : (enabled : ℕ) (r : Recorder) (priority octets : ℕ) →
    GivenExactly (taking_order enabled r priority octets) (refusal_with enabled r priority octets)
unfolding refusal_with are_apart is_among pick
taking_given enabled r priority octets = first_given (taking_order enabled r priority octets) refl
