-- Nothing stands still. For every settings that are accepted and every list of records: from the state that they reach, while time is
-- below 2^40, there are further records, none of them refused, after which time is one more. And in every such state a wait of 0 is
-- accepted and changes nothing. The first shows that `no_loss` does not speak of a bench that refuses every wait. Assumed is, as there,
-- that T fits its two octets.
use Prim.Native.Nat.{◌+◌, ◌^◌, ◌<◌}
use mathlib.Core.Path.{◌≡◌}
use mathlib.Core.List.{List}
use Rattle.std.specs.Prelude.{Ok}
use Rattle.settings.specs.declared.Settings.{Settings}
use Rattle.settings.specs.Settings.{settings_refusal}
use Rattle.records.specs.Records.{Asked}
use Rattle.records.specs.declared.Record.TheVariants as record'
use Rattle.bench_meaning.specs.Step.{refusal_of, next_of}
use Rattle.no_loss.specs.Runs.{watch_of, reached, Reaches}
use Rattle.no_loss.proofs.Watches.{sound_watch}
use Rattle.no_loss.proofs.Run.{inv_reached}
use Rattle.no_loss.proofs.Refusals.{wait_accepted}
use Rattle.no_loss.proofs.Waiting.{may_wait_zero, zero_changes_nothing}
use Rattle.no_loss.proofs.Clearing.{clear}

pub time_passes : (s : Settings) → settings_refusal s ≡ 0 → s.pause < 65536 → (records : List Asked) → (reached s records).clock < 2 ^ 40 →
    Reaches (watch_of s) (reached s records) ((reached s records).clock + 1)
time_passes s accepted fits records early =
    let sound = sound_watch s accepted fits in
    clear (watch_of s) sound (reached s records) early (inv_reached (watch_of s) sound records)

pub zero_wait : (s : Settings) → settings_refusal s ≡ 0 → s.pause < 65536 → (records : List Asked) →
    (refusal_of (watch_of s) (reached s records) (Ok (record'.Wait 0)) ≡ 0) ×
    (next_of (watch_of s) (reached s records) (Ok (record'.Wait 0)) ≡ reached s records)
unfolding next_of
zero_wait s accepted fits records =
    let w = watch_of s in
    let sound = sound_watch s accepted fits in
    let inv = inv_reached w sound records in
    (wait_accepted w (reached s records) 0 (may_wait_zero w sound (reached s records) inv), zero_changes_nothing w sound (reached s records) inv)
