-- No frame is lost in a run over an input. Whatever octets it is of, its report is of the input's own settings, its steps are the records
-- that the run accepts (`accepted_in`), none of them is refused, and for each priority that it reports as enabled dropped and worst are the
-- sums over exactly those records, dropped is 0, worst is at most the headroom, and what arrived is what is held or was taken. It is for
-- whoever reads the program's lines and relies on B's rooms. It assumes that the input is made of octets, each below 256, and nothing
-- else: an input that is too long, or whose settings are missing, cut short or refused, accepts no record and reports no priority as enabled.
-- The chain: the octets of the input → `run_of` → the state after `accepted_in` (`run_accepts`) → `no_loss` of `NoLoss` and `adds_up` of `Account`.
use Prim.Native.Nat.{ℕ, zero, suc, ◌+◌, ◌<◌}
use mathlib.Core.Bool.{Bool, true, false}
use mathlib.Core.Path.{◌≡◌, refl, sym, ap, subst, ◌∙◌}
use mathlib.Core.List.{List, [], ◌∷◌}
use native.Mathlib.Omega.{arith}
use borrow.Author.Tests.{eqb-true}
use lib.Dec.{eqb}
use lib.ListN.{length, get_or, drop}
use Rattle.std.specs.Prelude.{Ok, Err}
use Rattle.ground.specs.Pick.{pick}
use Rattle.ground.specs.Eight.{eight}
use Rattle.ground.proofs.Pick.{pick_yes}
use Rattle.ground.proofs.Eight.{get_d_eight}
use Rattle.refusals.specs.Refusals.{numbered, refused_or}
use Rattle.octets.specs.Numbers.{octet_at}
use Rattle.settings.specs.declared.Settings.{Settings}
use Rattle.settings.specs.Settings.{is_enabled, settings_refusal, settling}
use Rattle.settings.proofs.Enabled.{none_enabled}
use Rattle.settings.proofs.SettingsLaws.{enabled_below}
use Rattle.recorder.specs.declared.Watch.{Watch}
use Rattle.recorder.specs.Watching.{room_at}
use Rattle.records.specs.Records.{Asked, record_length, decoded}
use Rattle.bench_meaning.specs.declared.Report.{Report}
use Rattle.bench_meaning.specs.State.{State, empty}
use Rattle.bench_meaning.specs.Step.{refusal_of, next_of, step_of}
use Rattle.bench_meaning.specs.Run.{settings_in, report_of, run_from, follow_of, input_refusal, refused_report, settled_by, run_of}
use Rattle.no_loss.specs.Runs.{watch_of, after, AllAccepted}
use Rattle.no_loss.specs.Accepted.{Octets, begins, accepted_from, accepted_after, accepted_in, enabled_in, LosesNothing, LosesNothingOf}
use Rattle.no_loss.proofs.NoLoss.{no_loss}
use Rattle.no_loss.proofs.Account.{adds_up}

-- the counts of a report are those of the rooms of a state
record CountsOf (report : Report) (s : State) : Type 0 where
  held : report.held ≡ eight (λ n. (room_at s.recorder n).held)
  dropped : report.dropped ≡ eight (λ n. (room_at s.recorder n).dropped)
  worst : report.worst ≡ eight (λ n. (room_at s.recorder n).worst)

-- a report tells of records from a state on: it counts them beside those before, none of them is refused, and its counts are those after them
record TellsOf (w : Watch) (s : State) (steps : ℕ) (records : List Asked) (report : Report) : Type 0 where
  enabled_is : report.enabled ≡ w.settings.enabled
  steps_are : report.steps ≡ steps + length records
  none_refused : AllAccepted w s records
  counts : CountsOf report (after w s records)

-- where a run ends it takes no more records
ended : (w : Watch) (s : State) (steps refusal at : ℕ) → TellsOf w s steps [] (report_of w.settings.enabled s steps refusal at)
unfolding after AllAccepted
ended w s steps refusal at =
    record { enabled_is = refl; steps_are = omega arith; none_refused = tt; counts = record { held = refl; dropped = refl; worst = refl } }

-- one record more: an accepted one goes before those that follow, a refused one ends the run
one_more : (w : Watch) (s : State) (steps : ℕ) (asked : Asked) (accepted : Bool) (records : List Asked) (follows ends : Report) →
    eqb (refusal_of w s asked) 0 ≡ accepted → TellsOf w s steps [] ends → TellsOf w (next_of w s asked) (steps + 1) records follows →
    TellsOf w s steps (pick accepted (asked ∷ records) []) (pick accepted follows ends)
unfolding after AllAccepted step_of pick
one_more w s steps asked false records follows ends e same then = same
one_more w s steps asked true records follows ends e same then =
    let next = pick_yes (next_of w s asked) s e in
    record {
      enabled_is = then.enabled_is;
      steps_are = omega (arith, then.steps_are);
      none_refused = (eqb-true _ _ e, subst (λ (s : State). AllAccepted w s records) (sym next) then.none_refused);
      counts = subst (λ (s : State). CountsOf follows (after w s records)) (sym next) then.counts;
    }

-- what a run reports is told of the records that it accepts
run_accepts : (fuel : ℕ) (w : Watch) (s : State) (steps : ℕ) (octets : List ℕ) →
    TellsOf w s steps (accepted_from fuel w s octets) (run_from fuel w s steps octets)
unfolding run_from accepted_from
run_accepts zero w s steps octets = ended w s steps 0 0
run_accepts (suc fuel) w s steps [] = ended w s steps 0 0
run_accepts (suc fuel) w s steps (kind ∷ rest) =
    one_more w s steps (decoded (kind ∷ rest)) _ _ _ _ refl (ended w s steps _ _)
    (run_accepts fuel w (next_of w s (decoded (kind ∷ rest))) (steps + 1) (drop (record_length kind) (kind ∷ rest)))

-- the records after accepted settings
follow_keeps : (s : Settings) → settings_refusal s ≡ 0 → s.pause < 65536 → (octets : List ℕ) →
    LosesNothing s s.enabled (accepted_after s octets) (follow_of (watch_of s) octets)
follow_keeps s accepted fits octets =
    let w = watch_of s in
    let then = run_accepts (length octets) w (empty w) 0 octets in
    record {
      enabled_is = then.enabled_is;
      steps_are = omega (arith, then.steps_are);
      none_refused = then.none_refused;
      keeps = λ priority told.
          let on = subst (λ (enabled : ℕ). is_enabled enabled priority ≡ true) then.enabled_is told in
          let records = accepted_after s octets in
          let kept = no_loss s accepted fits records priority on in
          let account = adds_up s accepted fits records priority on in
          let rooms = (after w (empty w) records).recorder in
          -- the report's counts of the priority
          let below = enabled_below s.enabled priority on in
          let counts = then.counts in
          let held = ap (λ (l : List ℕ). get_or l priority 0) counts.held ∙ get_d_eight (λ n. (room_at rooms n).held) 0 priority below in
          let dropped = ap (λ (l : List ℕ). get_or l priority 0) counts.dropped ∙ get_d_eight (λ n. (room_at rooms n).dropped) 0 priority below in
          let worst = ap (λ (l : List ℕ). get_or l priority 0) counts.worst ∙ get_d_eight (λ n. (room_at rooms n).worst) 0 priority below in
          record {
            dropped_counted = dropped ∙ kept.dropped_counted;
            worst_counted = worst ∙ kept.worst_counted;
            none_dropped = dropped ∙ kept.none_dropped;
            within_headroom = rw worst kept.within_headroom;
            arrived_is = omega (arith, held, account.arrived_is, kept.dropped_counted, kept.none_dropped);
          };
    }

-- a run that does not begin reports no record and no priority
begins_not : (s : Settings) (number : ℕ) → LosesNothing s 0 [] (refused_report number)
unfolding AllAccepted
begins_not s number =
    record { enabled_is = refl; steps_are = refl; none_refused = tt; keeps = λ priority on. absurd (none_enabled priority on) }

-- 45, 44 or 31; else the settings decide
pub nothing_lost_in_a_run : (input : List ℕ) → Octets input → LosesNothingOf input (run_of input)
unfolding run_of settling refused_or begins accepted_in enabled_in pick settled_by
nothing_lost_in_a_run input octets = go (eqb (input_refusal (octet_at input 0) (length input)) 0) (eqb (settings_refusal s) 0) refl
  where
    s : Settings
    s = settings_in input

    go : (whole accepted : Bool) → eqb (settings_refusal s) 0 ≡ accepted →
        LosesNothing s (pick (pick whole accepted false) s.enabled 0) (pick (pick whole accepted false) (accepted_after s (drop 58 input)) [])
        (pick whole (settled_by (pick accepted (Ok (watch_of s).kept) (Err (numbered (settings_refusal s)))) input)
        (refused_report (input_refusal (octet_at input 0) (length input))))
    go false accepted e = begins_not s _
    go true false e = begins_not s _
    go true true e = follow_keeps s (eqb-true _ _ e) (omega (arith, octets 16, octets 17)) (drop 58 input)
