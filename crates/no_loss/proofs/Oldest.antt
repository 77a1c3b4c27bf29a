-- Trying the oldest frame's bound is enough. In every state that a run reaches the frames under way in a direction stand in the order of
-- their ends: where the oldest has not passed its bound at a moment no frame has, and where the oldest's wire time has not ended no
-- frame's has. For whoever asks whether 37 and 40, which look at the oldest alone, overlook a later frame. Assumes accepted settings.
use Prim.Native.Nat.{ℕ, ◌+◌, ◌≤◌, ◌<◌}
use mathlib.Core.Bool.{true, false}
use mathlib.Core.Path.{◌≡◌}
use mathlib.Core.List.{List, [], ◌∷◌}
use native.Mathlib.Omega.{arith}
use borrow.Author.Tests.{ltb-true}
use Rattle.moments.specs.Moments.{is_ahead}
use Rattle.moments.proofs.Reached.{not_past}
use Rattle.settings.specs.declared.Settings.{Settings}
use Rattle.settings.specs.Settings.{settings_refusal}
use Rattle.records.specs.Records.{Asked}
use Rattle.bench_meaning.specs.State.{Frame, Direction, length_of}
use Rattle.bench_meaning.specs.Step.{oldest_end, none_ended, overdue}
use Rattle.no_loss.specs.Runs.{watch_of, reached}
use Rattle.no_loss.proofs.Watches.{sound_watch}
use Rattle.no_loss.proofs.Rows.{pfc_length, Each, Follows, InTime}
use Rattle.no_loss.proofs.Run.{inv_reached}

-- what each frame is, each that follows from it is
each_so : {Such So : Frame → Type 0} → ((f : Frame) → Such f → So f) → (row : List Frame) → Each Such row → Each So row
each_so so [] r = tt
each_so so (f ∷ rest) r = (so f r.0, each_so so rest r.1)

-- frames that follow from a moment end no earlier
no_earlier : (long : Frame → ℕ) (earliest base : ℕ) (row : List Frame) (free : ℕ) → earliest ≤ base → Follows long base row free →
    Each (λ f. earliest ≤ f.end) row
no_earlier long earliest base [] free h r = tt
no_earlier long earliest base (f ∷ rest) free h r =
    let later : earliest ≤ f.end = omega (arith, r.0) in (later, no_earlier long earliest f.end rest free later r.1)

-- the oldest is in time, and so is each
each_in_time : (long : Frame → ℕ) (bound moment base : ℕ) (row : List Frame) (free : ℕ) → Follows long base row free → InTime bound moment row →
    Each (λ f. moment ≤ f.end + bound) row
unfolding oldest_end
each_in_time long bound moment base [] free r h = tt
each_in_time long bound moment base (f ∷ rest) free r h =
    (h, each_so (λ g later. omega arith) rest (no_earlier long f.end f.end rest free (omega arith) r.1))

-- the oldest's wire time has not ended, and so has none
each_on_the_wire : (long : Frame → ℕ) (clock base : ℕ) (row : List Frame) (free : ℕ) → Follows long base row free →
    is_ahead (oldest_end row) clock ≡ true → Each (λ f. clock < f.end) row
unfolding oldest_end is_ahead
each_on_the_wire long clock base [] free r e = tt
each_on_the_wire long clock base (f ∷ rest) free r e =
    let ahead : clock < f.end = ltb-true _ _ e in
    (ahead, each_so (λ g later. omega arith) rest (no_earlier long f.end f.end rest free (omega arith) r.1))

-- what trying the oldest of a direction says of every frame under way in it
pub record OldestDecides (direction : Direction) : Type 0 where
  pub in_time : (bound moment : ℕ) → overdue direction bound moment ≡ false → Each (λ f. moment ≤ f.end + bound) direction.row
  pub on_the_wire : (clock : ℕ) → none_ended direction clock ≡ true → Each (λ f. clock < f.end) direction.row

decides : (long : Frame → ℕ) (direction : Direction) → Follows long 0 direction.row direction.free → OldestDecides direction
decides long direction follows =
    record {
      in_time = λ bound moment e. each_in_time long bound moment 0 direction.row direction.free follows (not_past _ bound moment e);
      on_the_wire = λ clock e. each_on_the_wire long clock 0 direction.row direction.free follows e;
    }

-- both directions of the link
pub oldest_decides : (s : Settings) → settings_refusal s ≡ 0 → s.pause < 65536 → (records : List Asked) →
    OldestDecides (reached s records).to_b × OldestDecides (reached s records).to_a
oldest_decides s accepted fits records =
    let link = (inv_reached (watch_of s) (sound_watch s accepted fits) records).link in
    (decides length_of _ link.to_b.underway.follows, decides pfc_length _ link.to_a.underway.follows)
