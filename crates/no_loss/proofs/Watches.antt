-- What accepted settings say of the numbers of the argument.
use Prim.Native.Nat.{ℕ, ◌+◌, ◌≤◌, ◌<◌}
use mathlib.Core.Bool.{true}
use mathlib.Core.Path.{◌≡◌, refl, sym, subst}
use native.Mathlib.Omega.{arith}
use Rattle.settings.specs.declared.Settings.{Settings}
use Rattle.settings.specs.Settings.{is_enabled, room_of, settings_refusal}
use Rattle.settings.proofs.Enabled.{enabled_set}
use Rattle.settings.proofs.SettingsLaws.{enabled_below, accepted_facts}
use Rattle.recorder.specs.declared.Watch.{Watch}
use Rattle.recorder.specs.Watching.{limits_of}
use Rattle.recorder.proofs.RoomLaws.{marks_whole}
use Rattle.no_loss.specs.Runs.{watch_of}
use Rattle.no_loss.proofs.Terms.{Terms, Sound, W, H}

-- the numbers of settings with their sums; no PFC frame is lost
abbrev pub terms_of : Watch → Terms
terms_of w =
    record {
      M = w.settings.largest;
      G = w.kept.generation.0;
      P = w.kept.request.0;
      D = w.kept.«data».0;
      I = w.settings.refresh.0;
      T = w.settings.pause;
      losses = 0;
    }

-- a priority is enabled
abbrev pub Enabled : Watch → ℕ → Type 0
Enabled w p = is_enabled w.settings.enabled p ≡ true

-- it is one of the eight
pub one_of_eight : (w : Watch) (p : ℕ) → Enabled w p → p < 8
one_of_eight w p on = enabled_below w.settings.enabled p on

-- the priorities that share the room of p: in document 01 it alone
abbrev pub Shares : ℕ → ℕ → Type 0
Shares p n = n ≡ p

-- what is so of p is so of each that shares its room
pub sharing : {p n : ℕ} (P : ℕ → Type 0) → Shares p n → P p → P n
sharing P mine h = subst P (sym mine) h

-- what accepted settings carry
pub record SoundWatch (w : Watch) : Type 0 where
  pub terms : Sound (terms_of w)
  pub mark : (p : ℕ) → (limits_of w p).mark ≡ H (terms_of w) + w.settings.largest
  pub wire : w.kept.wire.0 ≡ W (terms_of w)
  pub pause : w.settings.pause < 65536
  pub enough : (p : ℕ) → Enabled w p → H (terms_of w) + w.settings.largest ≤ room_of w.settings.rooms p

-- accepted settings are sound
pub sound_watch : (s : Settings) → settings_refusal s ≡ 0 → s.pause < 65536 → SoundWatch (watch_of s)
sound_watch s accepted fits =
    let ok = accepted_facts s accepted in
    record {
      terms =
          record {
            least = ok.largest_least;
            most = ok.largest_most;
            some_refresh = ok.refresh_least;
            holds = omega (arith, ok.pause_covers);
            small_refresh = ok.refresh_most;
            small_room = omega (arith, ok.largest_most, ok.generation_most, ok.request_most, ok.data_most);
          };
      mark = λ p. omega (arith, (marks_whole (watch_of s) p refl accepted).mark);
      wire = refl;
      pause = fits;
      enough = λ p on. omega (arith, ok.room_least p (enabled_below s.enabled p on) (enabled_set s.enabled p on));
    }
