-- With accepted settings the room of an enabled priority holds its resume mark, so that an emptied room ends the pause
-- (`rooms/proofs/RoomLaws.antt` `ends_from_resume`). Assumes nothing but what it states.
use Prim.Native.Nat.{ℕ, ◌<◌, ◌≤◌}
use mathlib.Core.Path.{◌≡◌}
use mathlib.Core.Bool.{true}
use native.Mathlib.Omega.{arith}
use Rattle.ground.specs.Eight.{is_set}
use Rattle.settings.specs.Settings.{settings_refusal}
use Rattle.settings.proofs.Settled.{kept_for}
use Rattle.settings.proofs.SettingsLaws.{accepted_facts}
use Rattle.recorder.specs.declared.Watch.{Watch}
use Rattle.recorder.specs.Watching.{limits_of}
use Rattle.recorder.proofs.RoomLaws.{marks_whole}

pub resume_fits : (w : Watch) (priority : ℕ) → w.kept ≡ kept_for w.settings → settings_refusal w.settings ≡ 0 → priority < 8 →
    is_set w.settings.enabled priority ≡ true → (limits_of w priority).resume ≤ (limits_of w priority).size
unfolding limits_of
resume_fits w priority own accepted below enabled =
    omega (arith, (marks_whole w priority own accepted).resume, (accepted_facts w.settings accepted).room_least priority below enabled)
