-- A run over an input: the records that it accepts, and what its report says of them where nothing is lost.
use Rattle.std.specs.Prelude.{ℕ, zero, suc, ◌+◌, ◌<◌, ◌≤◌, Bool, true, false, List, [], ◌∷◌, ◌≡◌, eqb, length, get_or, drop}
use Rattle.ground.specs.Pick.{pick}
use Rattle.octets.specs.Numbers.{octet_at}
use Rattle.settings.specs.declared.Settings.{Settings}
use Rattle.settings.specs.Settings.{is_enabled, headroom_of, settings_refusal}
use Rattle.recorder.specs.declared.Watch.{Watch}
use Rattle.records.specs.Records.{Asked, record_length, decoded}
use Rattle.bench_meaning.specs.declared.Report.{Report}
use Rattle.bench_meaning.specs.State.{State, empty}
use Rattle.bench_meaning.specs.Step.{refusal_of, next_of}
use Rattle.bench_meaning.specs.Run.{settings_in, input_refusal}
use Rattle.no_loss.specs.Runs.{watch_of, AllAccepted, dropped_sum, worst_sum}
use Rattle.no_loss.specs.Account.{arrived_sum, taken_sum}

-- an input is made of octets: each is below 256
abbrev pub Octets : List ℕ → Type 0
Octets input = (n : ℕ) → get_or input n 0 < 256

-- a run begins where neither the input nor its settings are refused
unfoldable pub begins : List ℕ → Bool
begins input = pick (eqb (input_refusal (octet_at input 0) (length input)) 0) (eqb (settings_refusal (settings_in input)) 0) false

-- the records that octets hold one after the other, from a state on, up to the first that is refused; fuel: at most as many records as octets
unfoldable pub accepted_from : ℕ → Watch → State → List ℕ → List Asked
accepted_from zero w s octets = []
accepted_from (suc fuel) w s [] = []
accepted_from (suc fuel) w s (kind ∷ rest) =
    pick (eqb (refusal_of w s (decoded (kind ∷ rest))) 0)
    (decoded (kind ∷ rest) ∷ accepted_from fuel w (next_of w s (decoded (kind ∷ rest))) (drop (record_length kind) (kind ∷ rest)))
    []

-- those after accepted settings, from the empty state
abbrev pub accepted_after : Settings → List ℕ → List Asked
accepted_after s octets = accepted_from (length octets) (watch_of s) (empty (watch_of s)) octets

-- the records that a run of an input accepts: none where it does not begin
unfoldable pub accepted_in : List ℕ → List Asked
accepted_in input = pick (begins input) (accepted_after (settings_in input) (drop 58 input)) []

-- the priorities that a run of an input enables: those of its settings, none where it does not begin
unfoldable pub enabled_in : List ℕ → ℕ
enabled_in input = pick (begins input) (settings_in input).enabled 0

-- what a report says of a priority: dropped and worst are the sums over the records, nothing is dropped, no wanted span brought more
-- than the headroom, and what arrived is what is held or was taken
pub record KeptOf (s : Settings) (records : List Asked) (report : Report) (priority : ℕ) : Type 0 where
  pub dropped_counted : get_or report.dropped priority 0 ≡ dropped_sum (watch_of s) priority (empty (watch_of s)) records
  pub worst_counted : get_or report.worst priority 0 ≡ worst_sum (watch_of s) priority (empty (watch_of s)) records
  pub none_dropped : get_or report.dropped priority 0 ≡ 0
  pub within_headroom : get_or report.worst priority 0 ≤ headroom_of s
  pub arrived_is : arrived_sum (watch_of s) priority (empty (watch_of s)) records ≡
      get_or report.held priority 0 + taken_sum (watch_of s) priority (empty (watch_of s)) records

-- what a report says of settings, the priorities that are enabled and the records that were accepted: it counts exactly these records, none
-- of them is refused, and it loses nothing of any priority that it reports as enabled
pub record LosesNothing (s : Settings) (enabled : ℕ) (records : List Asked) (report : Report) : Type 0 where
  pub enabled_is : report.enabled ≡ enabled
  pub steps_are : report.steps ≡ length records
  pub none_refused : AllAccepted (watch_of s) (empty (watch_of s)) records
  pub keeps : (priority : ℕ) → is_enabled report.enabled priority ≡ true → KeptOf s records report priority

-- a report of a run of an input: of the input's own settings and of the records that the run accepts
abbrev pub LosesNothingOf : List ℕ → Report → Type 0
LosesNothingOf input report = LosesNothing (settings_in input) (enabled_in input) (accepted_in input) report
