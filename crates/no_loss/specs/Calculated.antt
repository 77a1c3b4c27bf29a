-- Settings made from the headroom sum: what a support engineer works out and then sets.
use Rattle.std.specs.Prelude.{◌≡◌}
use Rattle.headroom_sum.specs.declared.Inputs.{Inputs}
use Rattle.headroom_sum.specs.declared.Items.{Items}
use Rattle.settings.specs.declared.Settings.{Settings}
use Rattle.settings.specs.Settings.{one_way_of, headroom_of}

-- M and the generation delay are the inputs' of the sum, the paths are those that it worked out; the others are free
pub record MadeFrom (inputs : Inputs) (worked : Items) (s : Settings) : Type 0 where
  pub largest : s.largest ≡ inputs.largest
  pub generation : s.generation.0 ≡ inputs.generation.0
  pub request_path : s.request_path.0 ≡ worked.request_path.0
  pub data_path : s.data_path.0 ≡ worked.data_path.0

-- the one-way time and the headroom of the settings are the sum's
pub record Calculated (worked : Items) (s : Settings) : Type 0 where
  pub one_way : one_way_of s ≡ worked.room.one_way.0
  pub headroom : headroom_of s ≡ worked.room.headroom.0
