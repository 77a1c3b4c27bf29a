-- No frame is lost. For every settings that are accepted, every list of records, accepted ones and refused ones alike, and every enabled
-- priority: the room's count of dropped octets and its worst are the sums over the records (specs/Runs says which), nothing is dropped,
-- and no wanted span brings more than the headroom. It is for whoever relies on B's rooms. It assumes that T fits its two octets, as
-- its place in the settings record says, and nothing of the order or the times of the records.
use Prim.Native.Nat.{ℕ, ◌<◌}
use mathlib.Core.Bool.{true}
use mathlib.Core.Path.{◌≡◌}
use mathlib.Core.List.{List}
use native.Mathlib.Omega.{arith}
use Rattle.settings.specs.declared.Settings.{Settings}
use Rattle.settings.specs.Settings.{is_enabled, settings_refusal}
use Rattle.records.specs.Records.{Asked}
use Rattle.no_loss.specs.Runs.{watch_of, NothingLost}
use Rattle.no_loss.proofs.Watches.{sound_watch}
use Rattle.no_loss.proofs.Run.{inv_reached}
use Rattle.no_loss.proofs.Counting.{counted_from_start}

pub no_loss : (s : Settings) → settings_refusal s ≡ 0 → s.pause < 65536 → (records : List Asked) (priority : ℕ) →
    is_enabled s.enabled priority ≡ true → NothingLost s records priority
no_loss s accepted fits records priority on =
    let sound = sound_watch s accepted fits in
    let own = (inv_reached (watch_of s) sound records).own priority on in
    let counts = counted_from_start (watch_of s) priority on sound records in
    let small = sound.terms.small_room in
    record {
      dropped_counted = omega (arith, own.dropped, counts.0);
      worst_counted = omega (arith, own.worst, counts.1, small);
      none_dropped = own.dropped;
      within_headroom = omega (arith, own.worst);
    }
