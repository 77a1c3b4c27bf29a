-- The choice between two values by a test: the one conditional of every definition.
use Rattle.std.specs.Prelude.{Bool, true, false}

-- this if the test holds, else that
unfoldable pub pick {ℓ} : {A : Type ℓ} → Bool → A → A → A
pick true this that = this
pick false this that = that
