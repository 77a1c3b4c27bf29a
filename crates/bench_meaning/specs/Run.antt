-- Document 01, "The bench": a run over a whole input. "The bench program reads records on standard input, at most 65,536 octets, stops
-- at the first refusal and prints."
use Rattle.std.specs.Prelude.{ℕ, zero, suc, ◌+◌, ◌*◌, Bool, true, not, List, [], ◌∷◌, Result, Ok, Err, length, drop, ltb, eqb}
use Rattle.ground.specs.Pick.{pick}
use Rattle.ground.specs.Eight.{eight}
use Rattle.ground.specs.First.{Condition, ◌gives◌, first_of}
use Rattle.refusals.specs.Refusals.{number}
use Rattle.refusals.specs.declared.Refusal.{Refusal}
use Rattle.octets.specs.Numbers.{octet_at, word_at, long_at}
use Rattle.room_to_keep.specs.declared.Kept.{Kept}
use Rattle.settings.specs.Settings.{settling}
use Rattle.settings.specs.declared.Settings.{Settings}
use Rattle.recorder.specs.Watching.{room_at}
use Rattle.recorder.specs.declared.Watch.{Watch}
use Rattle.records.specs.Records.{record_length, decoded}
use Rattle.bench_meaning.specs.State.{State, empty_for, empty}
use Rattle.bench_meaning.specs.Step.{refusal_of, next_of}
use Rattle.bench_meaning.specs.declared.Report.{Report}

-- kind 00: "enabled 1, M 2, generation bits 4, request path bits 4, data path bits 4, T 2, I 4, hysteresis 4, rooms 8 × 4"
abbrev pub settings_in : List ℕ → Settings
settings_in octets =
    record {
      enabled = octet_at octets 1;
      largest = word_at octets 2;
      generation = record { 0 = long_at octets 4 };
      request_path = record { 0 = long_at octets 8 };
      data_path = record { 0 = long_at octets 12 };
      pause = word_at octets 16;
      refresh = record { 0 = long_at octets 18 };
      hysteresis = long_at octets 22;
      rooms = eight (λ n. long_at octets (26 + 4 * n));
    }

-- "Line 1: records accepted after the settings, time, refusal or 0, its record number"; then what the other lines tell of each priority
abbrev pub report_of : ℕ → State → ℕ → ℕ → ℕ → Report
report_of enabled s steps refusal at =
    record {
      steps = steps;
      time = record { 0 = s.clock };
      refusal = refusal;
      at = at;
      enabled = enabled;
      held = eight (λ n. (room_at s.recorder n).held);
      dropped = eight (λ n. (room_at s.recorder n).dropped);
      worst = eight (λ n. (room_at s.recorder n).worst);
      timers = s.head.timers;
    }

-- "If the settings are refused or missing, or the input is too long, line 1 stands alone with steps 0 and time 0, at 0.": no priority is
-- enabled, so that no other line follows
abbrev pub refused_report : ℕ → Report
refused_report number = report_of 0 (empty_for 0) 0 number 0

-- the records of the octets from a state on, the first refused one ending the run; fuel: at most as many records as octets
unfoldable pub run_from : ℕ → Watch → State → ℕ → List ℕ → Report
unfolding pick
run_from zero w s steps octets = report_of w.settings.enabled s steps 0 0
run_from (suc fuel) w s steps [] = report_of w.settings.enabled s steps 0 0
run_from (suc fuel) w s steps (kind ∷ rest) =
    pick (eqb (refusal_of w s (decoded (kind ∷ rest))) 0)
    (run_from fuel w (next_of w s (decoded (kind ∷ rest))) (steps + 1) (drop (record_length kind) (kind ∷ rest)))
    (report_of w.settings.enabled s steps (refusal_of w s (decoded (kind ∷ rest))) (steps + 1))

-- the records after accepted settings, from the empty state
abbrev pub follow_of : Watch → List ℕ → Report
follow_of w octets = run_from (length octets) w (empty w) 0 octets

-- the first record must be settings: there is none, or it is of another kind
unfoldable pub is_missing : ℕ → ℕ → Bool
is_missing kind size = pick (ltb size 1) true (not (eqb kind 0))

-- "Records 45, 44, 30, 31" of a whole input by its first octet and its length: 45 "input too long", 44 "settings missing or repeated", 31
-- "body cut short" under 58 octets, the settings' kind and 57 more
abbrev pub input_order : ℕ → ℕ → List Condition
input_order kind size = ltb 65536 size gives 45 ∷ is_missing kind size gives 44 ∷ ltb size 58 gives 31 ∷ []

unfoldable pub input_refusal : ℕ → ℕ → ℕ
input_refusal kind size = first_of (input_order kind size)

-- the watch of accepted settings
abbrev pub watch_with : Settings → Kept → Watch
watch_with s room = record { settings = s; kept = room }

-- settings that are whole: refused, or followed by their records
unfoldable pub settled_by : Result Kept Refusal → List ℕ → Report
settled_by (Err refusal) input = refused_report (number refusal)
settled_by (Ok room) input = follow_of (watch_with (settings_in input) room) (drop 58 input)

-- the settings of an input, tried, and what follows them
abbrev pub settled_of : List ℕ → Report
settled_of input = settled_by (settling (settings_in input)) input

-- a run: the input is refused, or its settings are tried
unfoldable pub run_of : List ℕ → Report
run_of input =
    pick (eqb (input_refusal (octet_at input 0) (length input)) 0)
    (settled_of input)
    (refused_report (input_refusal (octet_at input 0) (length input)))
