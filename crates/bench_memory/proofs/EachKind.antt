-- From what each kind's function answers on values and arrays to what a step answers on a memory, a law a kind. Each assumes that the
-- arrays have their places.
use Prim.Native.Nat.{ℕ, ◌-◌}
use mathlib.Core.Path.{◌≡◌, refl, ap, ◌∙◌}
use mathlib.Core.Bool.{Bool, true, false}
use mathlib.Core.List.{List}
use native.Mathlib.Omega.{arith}
use Rattle.std.specs.Prelude.{Result, Ok}
use lib.Dec.{eqb}
use Rattle.ground.specs.Pick.{pick}
use Rattle.refusals.specs.Refusals.{refused_or}
use Rattle.refusals.specs.declared.Refusal.{Refusal}
use Rattle.recorder.specs.declared.Watch.{Watch}
use Rattle.recorder.specs.Watching.{Recorder, recorder_of, taken_at, leaves_with, taking_refusal, taking_leaves}
use Rattle.records.specs.declared.Record.TheVariants.{StartData, Arrive, StartOther, StartPfc, TakeEffect, TakeOctets}
use Rattle.bench_meaning.specs.State.{data_octets}
use Rattle.bench_meaning.specs.Step.{pfc_now}
use Rattle.bench_state.specs.Answered.{ended_in, bench_after, if_accepted, Pushed, Left}
use Rattle.bench_state.specs.declared.Bench.{Bench}
use Rattle.bench_state.proofs.Either.{either_same}
use Rattle.starting.specs.Starting.{data_number, other_number, data_end, data_joins, other_holds}
use Rattle.asking.specs.Asking.{pfc_number, pfc_end, pfc_joins}
use Rattle.asking.proofs.Room.{pfc_room}
use Rattle.starting.proofs.Room.{data_room}
use Rattle.arriving.specs.Arriving.{brought_by, arrival_leaves, taking_number, taking_by, taking_marks}
use Rattle.taking_effect.specs.Effect.{effect_leaves}
use Rattle.bench_state.proofs.Ended.{ended_some}
use Rattle.bench_memory.specs.Memory.{Memory, memory_of, data_width, pfc_width, Lent, view_of}
use Rattle.bench_memory.specs.Answers.{Answers}
use Rattle.bench_memory.proofs.Answered as answered'
use Rattle.bench_memory.proofs.Answered.{Told, answers_by}

module _ (w : Watch) (bench : Bench) (r : List (List ℕ)) (e s p o : List ℕ) (lent : Lent (memory_of bench r e s p o)) where
  abbrev m : Memory
  m = memory_of bench r e s p o

  -- kind 02
  pub start_data_answers : (priority size : ℕ) {answer : Result Bench Refusal} {ends slots : List ℕ} →
      Told answer (data_number w bench priority size) (data_joins bench size) →
      Pushed (data_number w bench priority size) bench.to_b (data_end bench.clock size).0 (data_octets priority size) e s ends slots →
      Answers w m (Ok (StartData priority size)) answer (memory_of (bench_after answer bench) r ends slots p o)
  unfolding data_number view_of
  start_data_answers priority size is pushed =
      let number = data_number w bench priority size in
      answers_by w (Ok (StartData priority size)) bench (data_joins bench size) r r e s p o _ _ p o number
      (answered'.start_data_number_lem w m lent priority size)
      (λ none. answered'.start_data_memory w m lent priority size (data_room w bench priority size none))
      is (either_same number r) pushed.ends_are pushed.slots_are (either_same number p) (either_same number o)

  -- kind 03
  pub arrive_answers : {answer : Result Bench Refusal} {rooms : List (List ℕ)} {ends slots : List ℕ} →
      Told answer (ended_in bench.to_b.count e bench.clock.0) (arrival_leaves bench (brought_by w bench r s)) →
      rooms ≡ if_accepted (ended_in bench.to_b.count e bench.clock.0) (brought_by w bench r s).rooms r →
      Left (ended_in bench.to_b.count e bench.clock.0) bench.to_b data_width e s ends slots →
      Answers w m (Ok Arrive) answer (memory_of (bench_after answer bench) rooms ends slots p o)
  unfolding brought_by
  arrive_answers is is_rooms left =
      let number = ended_in bench.to_b.count e bench.clock.0 in
      answers_by w (Ok Arrive) bench (arrival_leaves bench (brought_by w bench r s)) r _ e s p o _ _ p o number (answered'.arrive_number_lem w m lent)
      (λ none. answered'.arrive_memory w m lent (bench.to_b.count - 1) (brought_by w bench r s) (omega (arith, ended_some _ e _ none)) refl)
      is is_rooms left.ends_are left.slots_are (either_same number p) (either_same number o)

  -- kind 04
  pub start_other_answers : (size : ℕ) {answer : Result Bench Refusal} → Told answer (other_number w bench size) (other_holds bench size) →
      Answers w m (Ok (StartOther size)) answer (memory_of (bench_after answer bench) r e s p o)
  unfolding other_number view_of
  start_other_answers size is =
      let number = other_number w bench size in
      answers_by w (Ok (StartOther size)) bench (other_holds bench size) r r e s p o e s p o number (answered'.start_other_number_lem w m lent size)
      (λ none. answered'.start_other_memory w m lent size)
      is (either_same number r) (either_same number e) (either_same number s) (either_same number p) (either_same number o)

  -- kind 05
  pub start_pfc_answers : {answer : Result Bench Refusal} {ends slots : List ℕ} → Told answer (pfc_number bench) (pfc_joins bench) →
      Pushed (pfc_number bench) bench.to_a (pfc_end bench.clock).0 (pfc_now w bench.marks) p o ends slots →
      Answers w m (Ok StartPfc) answer (memory_of (bench_after answer bench) r e s ends slots)
  unfolding pfc_number
  start_pfc_answers is pushed =
      let number = pfc_number bench in
      answers_by w (Ok StartPfc) bench (pfc_joins bench) r r e s p o e s _ _ number (answered'.start_pfc_number_lem w m lent)
      (λ none. answered'.start_pfc_memory w m lent (pfc_room bench none))
      is (either_same number r) (either_same number e) (either_same number s) pushed.ends_are pushed.slots_are

  -- kind 06
  pub take_effect_answers : {answer : Result Bench Refusal} {ends slots : List ℕ} →
      Told answer (ended_in bench.to_a.count p bench.clock.0) (effect_leaves w bench o) →
      Left (ended_in bench.to_a.count p bench.clock.0) bench.to_a pfc_width p o ends slots →
      Answers w m (Ok TakeEffect) answer (memory_of (bench_after answer bench) r e s ends slots)
  take_effect_answers is left =
      let number = ended_in bench.to_a.count p bench.clock.0 in
      answers_by w (Ok TakeEffect) bench (effect_leaves w bench o) r r e s p o e s _ _ number (answered'.take_effect_number w m lent)
      (λ none. answered'.take_effect_memory w m lent (bench.to_a.count - 1) (omega (arith, ended_some _ p _ none)))
      is (either_same number r) (either_same number e) (either_same number s) left.ends_are left.slots_are

  -- kind 07: a taking leaves the recorder as it was where it is refused
  module _ (priority octets : ℕ) where
    abbrev number : ℕ
    number = taking_number w bench r priority octets

    abbrev then : Recorder
    then = taken_at w (recorder_of r bench.marks) priority octets bench.clock.0

    leaves : taking_by w bench r priority octets ≡ if_accepted number then (recorder_of r bench.marks)
    unfolding taking_by taking_number taking_leaves leaves_with taking_refusal taken_at if_accepted
    leaves = refl

    answer_either : (b : Bool) (refused : Result Bench Refusal) →
        pick b (Ok (taking_marks bench (pick b then (recorder_of r bench.marks)))) refused ≡ pick b (Ok (taking_marks bench then)) refused
    unfolding pick
    answer_either true refused = refl
    answer_either false refused = refl

    rooms_either : (b : Bool) → ◌≡◌ {A = List (List ℕ)} (pick b then (recorder_of r bench.marks)).rooms (pick b then.rooms r)
    unfolding pick
    rooms_either true = refl
    rooms_either false = refl

    pub take_octets_answers : {answer : Result Bench Refusal} {rooms : List (List ℕ)} →
        Told answer number (taking_marks bench (taking_by w bench r priority octets)) → rooms ≡ (taking_by w bench r priority octets).rooms →
        Answers w m (Ok (TakeOctets priority octets)) answer (memory_of (bench_after answer bench) rooms e s p o)
    unfolding if_accepted taking_number refused_or
    take_octets_answers is is_rooms =
        answers_by w (Ok (TakeOctets priority octets)) bench (taking_marks bench then) r then.rooms e s p o e s p o number
        (answered'.take_octets_number w m lent priority octets)
        (λ none. answered'.take_octets_memory w m lent priority octets)
        (is.0, is.1 ∙ ap (λ (x : Recorder). refused_or number (taking_marks bench x)) leaves ∙ answer_either (eqb number 0) _)
        (is_rooms ∙ ap (λ (x : Recorder). x.rooms) leaves ∙ rooms_either (eqb number 0))
        (either_same number e) (either_same number s) (either_same number p) (either_same number o)
