-- Document 01, "Room watching at B": the marks of the priorities, when a PFC frame is due, and what it carries.
use Rattle.std.specs.Prelude.{ℕ, ◌+◌, ◌%◌, ◌^◌, Bool, true, false, List, slice_index_or, slice_set, None}
use Rattle.ground.specs.Pick.{pick}
use Rattle.ground.specs.Eight.{eight, is_set, some}
use Rattle.moments.specs.Moments.{Moment, at, due_on, refresh_from}
use Rattle.marks.specs.declared.Marks.{Marks}

-- at the start: nothing wanted, no PFC frame due or started
abbrev pub fresh_marks : Marks
fresh_marks = record { wanted = eight (λ n. false); due = None; last = None; sent = 0 }

-- whether pause is wanted for a priority
abbrev pub wanted_at : Marks → ℕ → Bool
wanted_at marks priority = slice_index_or marks.wanted priority false

-- the two marks differ
unfoldable pub differ : Bool → Bool → Bool
differ true true = false
differ true false = true
differ false true = true
differ false false = false

-- a mark so given is a change; a number above 7 has no mark that could change
abbrev pub changes : Marks → ℕ → Bool → Bool
changes marks priority wanted = differ (slice_index_or marks.wanted priority wanted) wanted

-- the marks once that of a priority is as given: "PFC becomes due when any wanted mark changes"
unfoldable pub with_mark : Marks → ℕ → Bool → ℕ → Marks
with_mark marks priority wanted clock =
    record {
      wanted = slice_set marks.wanted priority wanted;
      due = due_on (changes marks priority wanted) clock marks.due;
      last = marks.last;
      sent = marks.sent;
    }

-- "some priority is wanted"
abbrev pub some_wanted : Marks → Bool
some_wanted marks = some marks.wanted

-- the moment of the refresh, while some priority is wanted (no mark changes inside a wait, so that what is wanted where it begins is
-- wanted at that moment)
unfoldable pub refresh_of : ℕ → Marks → Moment
refresh_of refresh marks = pick (some_wanted marks) (refresh_from marks.last refresh) None

-- "Starting one ends the due state"; "The counts of requests sent .. go from 4,294,967,295 back to 0."
unfoldable pub started_at : Marks → ℕ → Marks
started_at marks clock = record { wanted = marks.wanted; due = None; last = at clock; sent = (marks.sent + 1) % 2 ^ 32 }

-- the marks with another due moment
unfoldable pub with_due : Marks → Moment → Marks
with_due marks due = record { wanted = marks.wanted; due = due; last = marks.last; sent = marks.sent }

-- "pause time T where wanted and 0 elsewhere"; a priority not enabled has time 0
unfoldable pub time_for : ℕ → ℕ → Marks → ℕ → ℕ
time_for enabled pause marks n = pick (is_set enabled n) (pick (wanted_at marks n) pause 0) 0

-- the frame's eight times; its enable octet is the enabled octet: "The frame carries e[n] for every enabled priority"
unfoldable pub times_for : ℕ → ℕ → Marks → List ℕ
times_for enabled pause marks = eight (time_for enabled pause marks)
