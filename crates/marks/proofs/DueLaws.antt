-- When a PFC frame is due and what it carries: a mark that changes makes one due now unless one is due, whose first moment stands; the
-- refresh is dated last start + I and only while something is wanted; starting ends the due state; the eight times are T exactly where
-- a priority is enabled and wanted. For the bounds on a pause. Assumes nothing but what each law says.
use Rattle.std.proofs.Common.{◌≡◌, ℕ, ◌+◌, ◌%◌, ◌^◌, ◌<◌, Bool, true, false, ltb, length, get_or, refl, ap, ◌∙◌, arith, ltb-false, ltb-true, None, Some}
use lib.ListN.{get_or-eq_default}
use Rattle.ground.specs.Pick.{pick}
use Rattle.ground.specs.Eight.{is_set}
use Rattle.ground.proofs.Pick.{pick_yes, pick_no}
use Rattle.ground.proofs.Eight.{get_d_eight}
use Rattle.units.specs.declared.OctetTimes.{OctetTimes}
use Rattle.moments.specs.Moments.{Moment, at, due_on, refresh_from}
use Rattle.moments.proofs.DueLaws.{due_stands, due_on_change, due_on_none, refresh_after_start}
use Rattle.marks.specs.Marks.{wanted_at, differ, changes, with_mark, some_wanted, refresh_of, started_at, time_for, times_for}
use Rattle.marks.specs.declared.Marks.{Marks}
use Rattle.marks.proofs.MarkLaws.{differ_same, differ_other, changes_below, some_wanted_lem, none_wanted, wanted_found}

module _ (marks : Marks) (priority : ℕ) (wanted : Bool) (clock : ℕ) where
  -- "until then its first moment stands", whatever changes
  pub first_moment_stands : (first : OctetTimes) → marks.due ≡ Some first → (with_mark marks priority wanted clock).due ≡ Some first
  unfolding with_mark
  first_moment_stands first due = ap (due_on (changes marks priority wanted) clock) due ∙ due_stands _ clock first

  -- "PFC becomes due when any wanted mark changes"
  pub change_is_due_now : priority < length marks.wanted → marks.due ≡ None → (wanted_at marks priority ≡ wanted → ⊥) →
      (with_mark marks priority wanted clock).due ≡ at clock
  unfolding with_mark
  change_is_due_now below none changed =
      ap (due_on (changes marks priority wanted) clock) none
      ∙ ap (λ (b : Bool). due_on b clock None)
      (changes_below marks priority wanted below ∙ differ_other (wanted_at marks priority) wanted changed)
      ∙ due_on_change clock

  -- and by no mark that stays
  pub no_change_no_due : priority < length marks.wanted → wanted_at marks priority ≡ wanted →
      (with_mark marks priority wanted clock).due ≡ marks.due
  unfolding with_mark
  no_change_no_due below same =
      ap (λ (b : Bool). due_on b clock marks.due)
      (changes_below marks priority wanted below ∙ ap (λ (b : Bool). differ b wanted) same ∙ differ_same wanted)
      ∙ due_on_none clock marks.due

module _ (refresh : ℕ) (marks : Marks) (all : length marks.wanted ≡ 8) where
  -- "when some priority is wanted and at least I octet times (the refresh) have passed since the last PFC frame started"
  pub refresh_dated : (n started : ℕ) → n < 8 → wanted_at marks n ≡ true → marks.last ≡ at started → started + refresh < 2 ^ 64 →
      refresh_of refresh marks ≡ at (started + refresh)
  unfolding refresh_of
  refresh_dated n started below wanted last small =
      pick_yes _ _ (some_wanted_lem marks all n below wanted)
      ∙ ap (λ (m : Moment). refresh_from m refresh) last
      ∙ refresh_after_start started refresh small

  pub no_refresh_unwanted : ((n : ℕ) → n < 8 → wanted_at marks n ≡ false) → refresh_of refresh marks ≡ None
  unfolding refresh_of
  no_refresh_unwanted none = pick_no _ _ (none_wanted marks all none)

  -- a moment of the refresh has a wanted priority behind it
  pub refresh_is_wanted : (moment : OctetTimes) → refresh_of refresh marks ≡ Some moment → (n : ℕ) × (n < 8) × (wanted_at marks n ≡ true)
  unfolding refresh_of pick
  refresh_is_wanted moment = go (some_wanted marks) refl
    where
      go : (b : Bool) → some_wanted marks ≡ b → pick b (refresh_from marks.last refresh) None ≡ Some moment → (n : ℕ) × (n < 8) × (wanted_at marks n ≡ true)
      go true found dated = wanted_found marks all found
      go false none dated = let z : ◌≡◌ {A = ℕ} 0 1 = cc in absurd (omega arith)

-- no PFC frame has started: no refresh
pub no_refresh_unstarted : (refresh : ℕ) (marks : Marks) → marks.last ≡ None → refresh_of refresh marks ≡ None
unfolding refresh_of refresh_from pick
no_refresh_unstarted refresh marks never = go (some_wanted marks)
  where
    go : (b : Bool) → pick b (refresh_from marks.last refresh) None ≡ None
    go true = ap (λ (m : Moment). refresh_from m refresh) never
    go false = refl

module _ (marks : Marks) (clock : ℕ) where
  -- "Starting one ends the due state", and dates the next refresh from the clock
  pub starting_ends_due : (started_at marks clock).due ≡ None
  unfolding started_at
  starting_ends_due = refl

  pub starting_dates : (started_at marks clock).last ≡ at clock
  unfolding started_at
  starting_dates = refl

  pub starting_keeps_wanted : (started_at marks clock).wanted ≡ marks.wanted
  unfolding started_at
  starting_keeps_wanted = refl

  -- "The counts of requests sent .. go from 4,294,967,295 back to 0."
  pub starting_counts : marks.sent < 4294967295 → (started_at marks clock).sent ≡ marks.sent + 1
  unfolding started_at
  starting_counts below = omega arith

  pub counts_back_to_0 : marks.sent ≡ 4294967295 → (started_at marks clock).sent ≡ 0
  unfolding started_at
  counts_back_to_0 last = ap (λ (k : ℕ). (k + 1) % 2 ^ 32) last

module _ (enabled pause : ℕ) (marks : Marks) (n : ℕ) (below : n < 8) where
  -- the time of priority n is the definition's at n
  time_at : get_or (times_for enabled pause marks) n 0 ≡ time_for enabled pause marks n
  unfolding times_for
  time_at = get_d_eight (time_for enabled pause marks) 0 n below

  -- "pause time T where wanted"
  pub time_where_wanted : is_set enabled n ≡ true → wanted_at marks n ≡ true → get_or (times_for enabled pause marks) n 0 ≡ pause
  unfolding time_for
  time_where_wanted on wanted = time_at ∙ pick_yes _ _ on ∙ pick_yes _ _ wanted

  -- ".. and 0 elsewhere"
  pub no_time_unwanted : wanted_at marks n ≡ false → get_or (times_for enabled pause marks) n 0 ≡ 0
  unfolding time_for pick
  no_time_unwanted unwanted = time_at ∙ go (is_set enabled n)
    where
      go : (b : Bool) → pick b (pick (wanted_at marks n) pause 0) 0 ≡ 0
      go true = pick_no _ _ unwanted
      go false = refl

  pub no_time_not_enabled : is_set enabled n ≡ false → get_or (times_for enabled pause marks) n 0 ≡ 0
  unfolding time_for
  no_time_not_enabled off = time_at ∙ pick_no _ _ off

-- each time of the frame fits its two octets
time_fits : (first second : Bool) (pause : ℕ) → pause < 65536 → pick first (pick second pause 0) 0 < 65536
unfolding pick
time_fits true true pause h = h
time_fits true false pause h = omega arith
time_fits false second pause h = omega arith

-- and so each of the eight, and what stands past them
pub times_fit : (enabled pause : ℕ) (marks : Marks) → pause < 65536 → (n : ℕ) → get_or (times_for enabled pause marks) n 0 < 65536
unfolding times_for time_for
times_fit enabled pause marks h n = go (ltb n 8) refl
  where
    go : (below : Bool) → ltb n 8 ≡ below → get_or (times_for enabled pause marks) n 0 < 65536
    go true e = rw (get_d_eight (time_for enabled pause marks) 0 n (ltb-true _ _ e)) (time_fits (is_set enabled n) (wanted_at marks n) pause h)
    go false e = rw (get_or-eq_default (times_for enabled pause marks) 0 {n = n} (ltb-false _ _ e)) (omega arith)
