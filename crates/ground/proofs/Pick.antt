-- What a choice comes to once its test is known.
use mathlib.Core.Path.{◌≡◌}
use mathlib.Core.Bool.{Bool, true, false}
use Rattle.ground.specs.Pick.{pick}

pub pick_yes : {A : Type 0} {test : Bool} (this that : A) → test ≡ true → pick test this that ≡ this
unfolding pick
pick_yes this that holds = rw holds

pub pick_no : {A : Type 0} {test : Bool} (this that : A) → test ≡ false → pick test this that ≡ that
unfolding pick
pick_no this that fails = rw fails
