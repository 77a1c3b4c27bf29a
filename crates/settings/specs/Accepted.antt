-- What accepted settings are, in words of the settings rather than of tests. Laws tie it to the definition.
use Rattle.std.specs.Prelude.{ℕ, ◌<◌, ◌≤◌, ◌≡◌, true}
use Rattle.ground.specs.Eight.{is_set}
use Rattle.units.specs.Units.{octets_of_quanta}
use Rattle.limits.specs.Limits.{least_m, largest_m, largest_delay, largest_path}
use Rattle.settings.specs.Settings.{room_of, one_way_of, least_room, least_paused, least_refresh, largest_refresh, largest_room}
use Rattle.settings.specs.declared.Settings.{Settings}

pub record Acceptable (s : Settings) : Type 0 where
  pub largest_least : least_m ≤ s.largest
  pub largest_most : s.largest ≤ largest_m
  pub generation_most : s.generation.0 ≤ largest_delay
  pub request_most : s.request_path.0 ≤ largest_path
  pub data_most : s.data_path.0 ≤ largest_path
  pub refresh_least : least_refresh ≤ s.refresh.0
  pub refresh_most : s.refresh.0 ≤ largest_refresh
  pub hysteresis_most : s.hysteresis ≤ largest_room
  pub room_most : (n : ℕ) → n < 8 → is_set s.enabled n ≡ true → room_of s.rooms n ≤ largest_room
  pub pause_covers : least_paused s.refresh.0 (one_way_of s) ≤ octets_of_quanta s.pause
  pub room_least : (n : ℕ) → n < 8 → is_set s.enabled n ≡ true → least_room s ≤ room_of s.rooms n
