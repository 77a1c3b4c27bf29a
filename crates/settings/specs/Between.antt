-- What only stands between functions: it is proved and used inside this crate, and no reader need believe it.
use Rattle.std.specs.Prelude.{ℕ, ◌+◌, ◌^◌, ◌≤◌, ◌≡◌, [], ◌∷◌}
use Rattle.ground.specs.First.{◌gives◌, first_of}
use Rattle.room_to_keep.specs.declared.Kept.{Kept}
use Rattle.settings.specs.Settings.{one_way_of, headroom_of, refused15, refused16, refused17, refused18}
use Rattle.settings.specs.declared.Settings.{Settings}

-- what is left of the order once 13 and 14 passed
abbrev pub house_refusal : Settings → ℕ
house_refusal s =
    first_of
    (refused17 s.refresh.0 gives 17
    ∷ refused18 s.enabled s.rooms s.hysteresis gives 18
    ∷ refused16 s.pause s.refresh.0 (one_way_of s) gives 16
    ∷ refused15 s gives 15
    ∷ [])

-- what is kept is that of the settings, and small enough that no sum of it is cut off
pub record Carries (s : Settings) (room : Kept) : Type 0 where
  pub passage : room.one_way.0 ≡ one_way_of s
  pub headroom : room.headroom.0 ≡ headroom_of s
  pub small : headroom_of s + s.largest ≤ 2 ^ 32
