-- The headroom is nearly met: with the settings of document 01's worked example a run of 40 records, every delay at its bound and A's wire
-- never idle, brings 15,619 octets in one wanted span. That is the headroom, 15,779, less the gaps of 20 octet times of its eight frames.
-- It also shows that `no_loss` speaks of settings that exist and of records that are accepted, and `nothing_lost_in_a_run` of an input
-- whose report has an enabled priority. What the theorems say of this run is computed here a second time, so that a statement or a sum that
-- says something else is refuted by a number (`must-fail/`).
use Prim.Native.Nat.{ℕ}
use mathlib.Core.Bool.{true}
use mathlib.Core.Path.{◌≡◌, refl}
use mathlib.Core.List.{List, [], ◌∷◌, ◌++◌}
use native.Mathlib.Omega.{arith}
use lib.ListN.{get_or}
use Rattle.std.specs.Prelude.{Ok}
use Rattle.refusals.specs.Refusals.{refused_or}
use Rattle.ground.specs.First.{first_of}
use Rattle.ground.specs.Pick.{pick}
use Rattle.ground.specs.Eight.{some}
use Rattle.frame.specs.Read.{is_accepted, is_control, is_elsewhere, is_other, order_by, taken, verdict}
use Rattle.moments.specs.Moments.{is_never, is_ahead, past_due, due_on, refresh_from, due_by}
use Rattle.settings.specs.declared.Settings.{Settings}
use Rattle.settings.specs.Settings.{is_enabled, some_enabled, settings_refusal, settling}
use Rattle.settings.specs.Cases.{settings004}
use Rattle.rooms.specs.Room.{held_after, dropped_after, wanted_after, span_after, span_kept, arrived_in, taken_from}
use Rattle.marks.specs.Marks.{differ, with_mark, refresh_of, started_at, with_due, time_for, times_for}
use Rattle.recorder.specs.Watching.{room_at, limits_of, with_room, arrived_with, arrived_at, refusal_with, taking_refusal, taken_with, taken_at}
use Rattle.records.specs.declared.Record.TheVariants as record'
use Rattle.records.specs.Records.{Asked, body_length, body_of, is_repeated, sized_refusal, decoded}
use Rattle.decisions.specs.Chains.{length_outside, wait_number, start_data_number, arrive_number, start_other_number, start_pfc_number}
use Rattle.bench_meaning.specs.Step.{oldest_end, overrun, refusal_of, effect_of, next_of, step_of}
use Rattle.bench_meaning.specs.Step.{waited, data_started, arrived, other_started, pfc_started, took_effect, octets_taken}
use Rattle.bench_meaning.specs.Run.{run_from, input_refusal, is_missing, settled_by, run_of}
use Rattle.no_loss.specs.Runs.{after, reached, oldest_brings, brings, arriving, not_fitting, dropped_sum, span_sum, worst_from, NothingLost}
use Rattle.no_loss.specs.Account.{takes, taking, arrived_sum, taken_sum, overflow, held_by, dropped_from, AddsUp}
use Rattle.no_loss.specs.Accepted.{begins, accepted_from, accepted_in}

-- document 01's worked settings: enabled 08, M 2000, generation 200, request path 49588, data path 43444, T 65535, I 100000,
-- hysteresis 0, rooms 17779
abbrev pub example : Settings
example = settings004 65535 100000 17779

-- A starts a frame of priority 3
abbrev send : ℕ → Asked
send length = Ok (record'.StartData 3 length)

-- one reaches B
abbrev arrive : Asked
arrive = Ok record'.Arrive

-- n octet times pass
abbrev wait : ℕ → Asked
wait n = Ok (record'.Wait n)

-- the first frame crosses the mark at 7,451; B's other frame starts G after that, and the PFC frame W later; it takes effect P after its end,
-- at 15,779, just after A's last frame started
abbrev pub full_run : List Asked
full_run =
    send 2000 ∷ wait 2020 ∷ send 1619 ∷ wait 1639 ∷ send 2000 ∷ wait 2020 ∷ send 2000 ∷ wait 1772 ∷
    arrive ∷ wait 25 ∷ Ok (record'.StartOther 2000) ∷ wait 223 ∷ send 2000 ∷ wait 1391 ∷ arrive ∷ wait 406 ∷
    Ok record'.StartPfc ∷ wait 223 ∷ send 2000 ∷ wait 1391 ∷ arrive ∷ wait 629 ∷ send 2000 ∷ wait 1391 ∷
    arrive ∷ wait 629 ∷ send 2000 ∷ wait 1391 ∷ arrive ∷ wait 629 ∷ send 2000 ∷ Ok record'.TakeEffect ∷
    wait 1391 ∷ arrive ∷ wait 2020 ∷ arrive ∷ wait 2020 ∷ arrive ∷ wait 2020 ∷ arrive ∷ []

-- the settings are accepted
pub example_accepted : settings_refusal example ≡ 0
unfolding first_of some_enabled some pick
example_accepted = refl

-- what a step computes with: to unfold this name is to unfold all of these
steps : Unit {0}
unfolding first_of step_of next_of refusal_of waited data_started arrived other_started pfc_started took_effect octets_taken effect_of oldest_end overrun
    wait_number start_data_number arrive_number start_other_number start_pfc_number length_outside
    is_never is_ahead past_due due_on refresh_from due_by
    limits_of differ with_mark with_room arrived_with arrived_at refusal_with taking_refusal taken_with taken_at refresh_of started_at with_due
    time_for times_for
    held_after dropped_after wanted_after span_after span_kept arrived_in taken_from some is_enabled
    order_by is_control is_elsewhere is_other is_accepted taken verdict refused_or pick
steps = tt

-- the worst of the run, and its time, which shows that no wait was refused
pub nearly_met : ((room_at (reached example full_run).recorder 3).worst ≡ 15619) × ((reached example full_run).clock ≡ 23230)
unfolding after steps
nearly_met = (refl, refl)

-- what `no_loss` says of this run, computed and not taken from it: whatever else the statement or its sums said would be false here. The
-- bound could be 160 lower in this run, and no lower
pub nearly_met_computed : NothingLost example full_run 3
unfolding after oldest_brings brings arriving not_fitting dropped_sum span_sum worst_from steps
nearly_met_computed = record { dropped_counted = refl; worst_counted = refl; none_dropped = refl; within_headroom = omega arith }

-- the disk then takes 2,000 octets of priority 3
abbrev pub taken_run : List Asked
taken_run = full_run ++ (Ok (record'.TakeOctets 3 2000) ∷ [])

-- what `adds_up` says of that run, computed in the same way: 17,619 octets arrived, 15,619 are held, 2,000 were taken, none was dropped
pub taken_computed : AddsUp example taken_run 3
unfolding after oldest_brings brings arriving not_fitting dropped_sum takes taking arrived_sum taken_sum overflow held_by dropped_from steps
taken_computed = record { arrived_is = refl; dropped_is = refl }

-- the same settings and records as the octets of an input
abbrev pub full_input : List ℕ
full_input =
    0 ∷ 8 ∷ 7 ∷ 208 ∷ 0 ∷ 0 ∷ 0 ∷ 200 ∷ 0 ∷ 0 ∷ 193 ∷ 180 ∷ 0 ∷ 0 ∷ 169 ∷ 180 ∷ 255 ∷ 255 ∷ 0 ∷ 1 ∷ 134 ∷ 160 ∷ 0 ∷ 0 ∷ 0 ∷ 0 ∷
    0 ∷ 0 ∷ 69 ∷ 115 ∷ 0 ∷ 0 ∷ 69 ∷ 115 ∷ 0 ∷ 0 ∷ 69 ∷ 115 ∷ 0 ∷ 0 ∷ 69 ∷ 115 ∷
    0 ∷ 0 ∷ 69 ∷ 115 ∷ 0 ∷ 0 ∷ 69 ∷ 115 ∷ 0 ∷ 0 ∷ 69 ∷ 115 ∷ 0 ∷ 0 ∷ 69 ∷ 115 ∷
    2 ∷ 3 ∷ 7 ∷ 208 ∷ 1 ∷ 7 ∷ 228 ∷ 2 ∷ 3 ∷ 6 ∷ 83 ∷ 1 ∷ 6 ∷ 103 ∷ 2 ∷ 3 ∷ 7 ∷ 208 ∷ 1 ∷ 7 ∷ 228 ∷ 2 ∷ 3 ∷ 7 ∷ 208 ∷
    1 ∷ 6 ∷ 236 ∷ 3 ∷ 1 ∷ 0 ∷ 25 ∷ 4 ∷ 7 ∷ 208 ∷ 1 ∷ 0 ∷ 223 ∷ 2 ∷ 3 ∷ 7 ∷ 208 ∷ 1 ∷ 5 ∷ 111 ∷ 3 ∷ 1 ∷ 1 ∷ 150 ∷ 5 ∷
    1 ∷ 0 ∷ 223 ∷ 2 ∷ 3 ∷ 7 ∷ 208 ∷ 1 ∷ 5 ∷ 111 ∷ 3 ∷ 1 ∷ 2 ∷ 117 ∷ 2 ∷ 3 ∷ 7 ∷ 208 ∷ 1 ∷ 5 ∷ 111 ∷ 3 ∷ 1 ∷ 2 ∷ 117 ∷
    2 ∷ 3 ∷ 7 ∷ 208 ∷ 1 ∷ 5 ∷ 111 ∷ 3 ∷ 1 ∷ 2 ∷ 117 ∷ 2 ∷ 3 ∷ 7 ∷ 208 ∷ 6 ∷ 1 ∷ 5 ∷ 111 ∷ 3 ∷ 1 ∷ 7 ∷ 228 ∷ 3 ∷
    1 ∷ 7 ∷ 228 ∷ 3 ∷ 1 ∷ 7 ∷ 228 ∷ 3 ∷ []

-- the program accepts all of them, and reports that worst for priority 3, which is enabled
pub nearly_met_in_a_run : (get_or (run_of full_input).worst 3 0 ≡ 15619) × ((run_of full_input).steps ≡ 40) × ((run_of full_input).refusal ≡ 0) ×
    (is_enabled (run_of full_input).enabled 3 ≡ true)
unfolding run_of settled_by input_refusal is_missing is_repeated first_of settling some_enabled
    run_from decoded refused_or body_of body_length sized_refusal steps
nearly_met_in_a_run = (refl, refl, refl, refl)

-- these are the records that the run accepts, also where it ends at a refused one: a frame that arrives and none is under way
pub all_accepted : (accepted_in full_input ≡ full_run) × (accepted_in (full_input ++ (3 ∷ [])) ≡ full_run)
unfolding accepted_in accepted_from begins input_refusal is_missing is_repeated some_enabled decoded refused_or body_of body_length sized_refusal steps
all_accepted = (refl, refl)
