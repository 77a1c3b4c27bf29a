-- Document 01's settings of the recorder: what is refused, in its order, and what accepted settings carry.
use Rattle.std.specs.Prelude.{ℕ, ◌+◌, Bool, true, false, ◌&&◌, List, [], ◌∷◌, get_or, ltb, Result}
use Rattle.ground.specs.Pick.{pick}
use Rattle.ground.specs.First.{Condition, ◌gives◌, first_of}
use Rattle.ground.specs.Eight.{eight, is_set, some}
use Rattle.refusals.specs.Refusals.{refused_or}
use Rattle.refusals.specs.declared.Refusal.{Refusal}
use Rattle.units.specs.Units.{quantum, octets_of_quanta}
use Rattle.limits.specs.Limits.{refused13}
use Rattle.room_to_keep.specs.Keep.{one_way, headroom, refused14, kept}
use Rattle.room_to_keep.specs.declared.Kept.{Kept}
use Rattle.settings.specs.declared.Settings.{Settings}

-- bit 0 of the enabled octet is priority 0; a number above 7 is no priority
unfoldable pub is_enabled : ℕ → ℕ → Bool
is_enabled enabled priority = pick (ltb priority 8) (is_set enabled priority) false

-- the room of a priority
abbrev pub room_of : List ℕ → ℕ → ℕ
room_of rooms priority = get_or rooms priority 0

-- some enabled priority meets a test; "Rooms of priorities not enabled are ignored."
unfoldable pub some_enabled : ℕ → (ℕ → Bool) → Bool
some_enabled enabled test = some (eight (λ n. is_set enabled n && test n))

-- some enabled priority's room is below, and is above, a number
abbrev pub some_room_below : ℕ → List ℕ → ℕ → Bool
some_room_below enabled rooms least = some_enabled enabled (λ n. ltb (room_of rooms n) least)

abbrev pub some_room_above : ℕ → List ℕ → ℕ → Bool
some_room_above enabled rooms most = some_enabled enabled (λ n. ltb most (room_of rooms n))

-- the one-way time and the headroom of the settings
abbrev pub one_way_of : Settings → ℕ
one_way_of s = one_way s.largest s.generation.0 s.request_path.0

abbrev pub headroom_of : Settings → ℕ
headroom_of s = headroom s.largest s.generation.0 s.request_path.0 s.data_path.0

-- "headroom + M + hysteresis"
abbrev pub least_room : Settings → ℕ
least_room s = headroom_of s + s.largest + s.hysteresis

-- the limits of 17 and of 18
abbrev pub least_refresh : ℕ
least_refresh = 1

abbrev pub largest_refresh : ℕ
largest_refresh = 4194304

abbrev pub largest_room : ℕ
largest_room = 1073741824

-- 17 "I outside 1-4,194,304"
abbrev pub refused17 : ℕ → Bool
refused17 refresh = pick (ltb refresh least_refresh) true (ltb largest_refresh refresh)

-- 18 "enabled room or hysteresis above 1,073,741,824"
abbrev pub refused18 : ℕ → List ℕ → ℕ → Bool
refused18 enabled rooms hysteresis = pick (ltb largest_room hysteresis) true (some_room_above enabled rooms largest_room)

-- 16 "64T < I + one-way time + 64"
abbrev pub least_paused : ℕ → ℕ → ℕ
least_paused refresh passage = refresh + passage + quantum

abbrev pub refused16 : ℕ → ℕ → ℕ → Bool
refused16 pause refresh passage = ltb (octets_of_quanta pause) (least_paused refresh passage)

-- 15 "an enabled room below headroom + M + hysteresis"
abbrev pub refused15 : Settings → Bool
refused15 s = some_room_below s.enabled s.rooms (least_room s)

-- "Settings 13, 14, 17, 18, 16, 15"
abbrev pub settings_order : Settings → List Condition
settings_order s =
    refused13 s.largest gives 13
    ∷ refused14 s.generation.0 s.request_path.0 s.data_path.0 gives 14
    ∷ refused17 s.refresh.0 gives 17
    ∷ refused18 s.enabled s.rooms s.hysteresis gives 18
    ∷ refused16 s.pause s.refresh.0 (one_way_of s) gives 16
    ∷ refused15 s gives 15
    ∷ []

-- the first of them whose condition holds; 0: none of them
abbrev pub settings_refusal : Settings → ℕ
settings_refusal s = first_of (settings_order s)

-- accepted settings carry G, W, P, D, the one-way time and the headroom
unfoldable pub settling : Settings → Result Kept Refusal
settling s = refused_or (settings_refusal s) (kept s.largest s.generation.0 s.request_path.0 s.data_path.0)
