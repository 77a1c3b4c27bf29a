-- From the plain values that the code tests and stores to what a step answers on a memory, a law a kind. Assumes nothing.
use Prim.Native.Nat.{ℕ, ◌+◌, ◌<◌}
use mathlib.Core.Path.{◌≡◌, refl, sym, ap, subst, ◌∙◌}
use mathlib.Core.Bool.{Bool, true, false}
use mathlib.Core.List.{List, ◌∷◌}
use native.Mathlib.Omega.{arith}
use Rattle.std.specs.Prelude.{Result, Ok, Err, IsErrAnd}
use lib.Dec.{ltb, eqb}
use lib.ListN.{take}
use lib.Seq.{get_or-take}
use borrow.Author.Tests.{eq-eqb, ne_eqb, eqb-true, eqb-false}
use Rattle.ground.specs.Pick.{pick}
use Rattle.ground.proofs.Pick.{pick_yes, pick_no}
use Rattle.refusals.specs.Refusals.{number, number_of, refused_or}
use Rattle.refusals.specs.declared.Refusal.{Refusal}
use Rattle.octets.specs.Numbers.{octet_at, word_at}
use Rattle.moments.specs.Moments.{Moment, is_never, is_ahead, past_due}
use Rattle.frame.specs.Read.{verdict}
use Rattle.head.specs.Timers.{is_paused}
use Rattle.units.specs.Units.{wire_time, pfc_time}
use Rattle.recorder.specs.declared.Watch.{Watch}
use Rattle.marks.specs.Marks.{started_at}
use Rattle.recorder.specs.Watching.{Recorder, recorder_of, arrived_at, taken_at, taking_refusal}
use Rattle.records.specs.Records.{Asked, decoded}
use Rattle.records.specs.declared.Record.TheVariants.{StartData, Arrive, StartOther, StartPfc, TakeEffect, TakeOctets}
use Rattle.records.proofs.Decoding.{octets_some, octets_told}
use Rattle.decisions.specs.Chains.{length_outside, start_data_number, arrive_number, start_other_number, start_pfc_number}
use Rattle.rows.specs.Rows.{Lane, seen, put}
use Rattle.bench_meaning.specs.State.{Frame, State, data_octets, priority_of, length_of}
use Rattle.bench_meaning.specs.Step.{after, address_a, pfc_now, effect_of, refusal_of, next_of}
use Rattle.bench_meaning.specs.Step.{data_started, arrived, other_started, pfc_started, took_effect, octets_taken}
use Rattle.bench_memory.specs.Memory.{Memory, memory_of, bench_of, view_of, holding, data_width, pfc_width, Lent}
use Rattle.bench_memory.specs.Answers.{memory_for, Answers}
use Rattle.bench_state.specs.Answered.{ended_in, bench_after, if_accepted}
use Rattle.bench_state.specs.declared.Bench.{Bench}
use Rattle.bench_state.proofs.Either.{after_is, own_answer}
use Rattle.bench_memory.proofs.Places.{counted, stay, joined_lane, joins, oldest_of, left_lane, leaves}
use Rattle.rows.proofs.Lanes.{oldest_seen}

module _ (w : Watch) (m : Memory) (asked : Asked) {number : ℕ} (is : number ≡ refusal_of w (view_of m) asked) where
  -- a refused record leaves the memory as it was
  pub memory_kept : (number ≡ 0 → ⊥) → m ≡ memory_for w m asked
  unfolding memory_for
  memory_kept some = sym (pick_no _ _ (ne_eqb (refusal_of w (view_of m) asked) 0 (λ none. some (is ∙ none))))

  -- an accepted one gives the memory that holds the next state
  pub memory_next : number ≡ 0 → holding m (next_of w (view_of m) asked) ≡ memory_for w m asked
  unfolding memory_for
  memory_next none = sym (pick_yes _ _ (eq-eqb (refusal_of w (view_of m) asked) 0 (sym is ∙ none)))

-- an answer by a number: it bears that number, and is made of it
abbrev pub Told : Result Bench Refusal → ℕ → Bench → Type 0
Told answer number next = (number_of answer ≡ number) × (answer ≡ refused_or number next)

-- what a step answers by a number, and the memory that it leaves
module _ (w : Watch) (m : Memory) (asked : Asked) (number : ℕ) (answer : Result Bench Refusal) (then : Memory)
    (is : number ≡ refusal_of w (view_of m) asked) (told : Told answer number (bench_of then)) where
  answers_with : then ≡ memory_for w m asked → Answers w m asked answer then
  answers_with memory =
      record { number_is = told.0 ∙ is; answer_is = told.1 ∙ ap (λ (n : ℕ). refused_or n (bench_of then)) is; memory_is = memory }

  -- a refused record: the memory as it was
  pub refused_answers : (number ≡ 0 → ⊥) → then ≡ m → Answers w m asked answer then
  refused_answers some same = answers_with (same ∙ memory_kept w m asked is some)

  -- an accepted one: the memory that holds the next state
  pub accepted_answers : number ≡ 0 → then ≡ holding m (next_of w (view_of m) asked) → Answers w m asked answer then
  accepted_answers none holds_next = answers_with (holds_next ∙ memory_next w m asked is none)

-- where each part is the next one if the record is accepted, and as it was if not, so is the memory
module _ (w : Watch) (asked : Asked) (bench next : Bench) (r r' : List (List ℕ)) (e s p o e' s' p' o' : List ℕ) where
  abbrev was : Memory
  was = memory_of bench r e s p o

  -- by a test's value all parts are the next ones, or all are as they were
  abbrev by : Bool → Memory
  by b = memory_of (pick b next bench) (pick b r' r) (pick b e' e) (pick b s' s) (pick b p' p) (pick b o' o)

  pub answers_by : (number : ℕ) → number ≡ refusal_of w (view_of was) asked →
      (number ≡ 0 → memory_of next r' e' s' p' o' ≡ holding was (next_of w (view_of was) asked)) →
      {answer : Result Bench Refusal} {rooms : List (List ℕ)} {data_ends data_slots pfc_ends pfc_slots : List ℕ} →
      Told answer number next → rooms ≡ if_accepted number r' r → data_ends ≡ if_accepted number e' e → data_slots ≡ if_accepted number s' s →
      pfc_ends ≡ if_accepted number p' p → pfc_slots ≡ if_accepted number o' o →
      Answers w was asked answer (memory_of (bench_after answer bench) rooms data_ends data_slots pfc_ends pfc_slots)
  unfolding if_accepted pick
  answers_by number is then {answer} {rooms} {data_ends} {data_slots} {pfc_ends} {pfc_slots} told is_r is_e is_s is_p is_o =
      record {
        number_is = told.0 ∙ is;
        answer_is = own_answer number next bench answer told.1 ∙ ap (λ (n : ℕ). refused_or n (bench_after answer bench)) is;
        memory_is = go (eqb number 0) refl (λ i. memory_of (after_is number next bench told.1 i) (is_r i) (is_e i) (is_s i) (is_p i) (is_o i));
      }
    where
      go : (b : Bool) → eqb number 0 ≡ b →
          memory_of (bench_after answer bench) rooms data_ends data_slots pfc_ends pfc_slots ≡ by (eqb number 0) →
          memory_of (bench_after answer bench) rooms data_ends data_slots pfc_ends pfc_slots ≡ memory_for w was asked
      go true is_zero parts =
          let none = eqb-true number 0 is_zero in parts ∙ ap by is_zero ∙ then none ∙ memory_next w was asked is none
      go false not_zero parts = parts ∙ ap by not_zero ∙ memory_kept w was asked is (eqb-false number 0 not_zero)

-- what a memory is made of beside its directions, with these
abbrev pub memory_with : State → Lane → Lane → Memory
memory_with s to_b to_a =
    record { clock = s.clock; head = s.head; marks = s.recorder.marks; rooms = s.recorder.rooms; to_b = to_b; to_a = to_a }

-- a memory holds a state where its directions do
pub holds : (m : Memory) (s : State) {to_b to_a : Lane} → to_b ≡ put m.to_b s.to_b → to_a ≡ put m.to_a s.to_a →
    memory_with s to_b to_a ≡ holding m s
unfolding holding
holds m s b a =
    λ i. record { clock = s.clock; head = s.head; marks = s.recorder.marks; rooms = s.recorder.rooms; to_b = b i; to_a = a i }

module _ (w : Watch) (m : Memory) (lent : Lent m) where
  pub to_b_stays : m.to_b ≡ put m.to_b (seen data_width m.to_b)
  to_b_stays = stay data_width m.to_b lent.to_b

  pub to_a_stays : m.to_a ≡ put m.to_a (seen pfc_width m.to_a)
  to_a_stays = stay pfc_width m.to_a lent.to_a

  -- kind 02
  pub start_data_number_lem : (priority size : ℕ) →
      start_data_number priority (length_outside w.settings.largest size) (ltb m.clock m.to_b.free) (is_paused m.head priority) m.to_b.count ≡
      refusal_of w (view_of m) (Ok (StartData priority size))
  unfolding refusal_of view_of seen
  start_data_number_lem priority size =
      ap (start_data_number priority (length_outside w.settings.largest size) (ltb m.clock m.to_b.free) (is_paused m.head priority))
      (counted data_width m.to_b lent.to_b)

  pub start_data_memory : (priority size : ℕ) → m.to_b.count < 128 →
      memory_with (view_of m) (joined_lane m.to_b (after m.clock (wire_time size)) (data_octets priority size)) m.to_a ≡
      holding m (next_of w (view_of m) (Ok (StartData priority size)))
  unfolding next_of data_started view_of seen
  start_data_memory priority size few =
      holds m (data_started (view_of m) priority size) (joins data_width m.to_b lent.to_b _ _ few refl) to_a_stays

  -- kind 03
  pub arrive_number_lem : ended_in m.to_b.count m.to_b.ends m.clock ≡ refusal_of w (view_of m) (Ok Arrive)
  unfolding ended_in refusal_of view_of seen
  arrive_number_lem =
      ap (λ (e : Moment). arrive_number (is_ahead e m.clock)) (oldest_seen data_width m.to_b)

  -- the memory with another recorder and direction to B
  abbrev recording : Recorder → Lane → Memory
  recording recorder to_b = record { clock = m.clock; head = m.head; marks = recorder.marks; rooms = recorder.rooms; to_b = to_b; to_a = m.to_a }

  pub arrive_memory : (left : ℕ) (recorder : Recorder) → m.to_b.count ≡ left + 1 →
      recorder ≡ arrived_at w (recorder_of m.rooms m.marks) (octet_at m.to_b.slots 0) (word_at m.to_b.slots 1) m.clock →
      record { clock = m.clock; head = m.head; marks = recorder.marks; rooms = recorder.rooms; to_b = left_lane data_width m.to_b left; to_a = m.to_a } ≡
      holding m (next_of w (view_of m) (Ok Arrive))
  unfolding next_of arrived view_of seen
  arrive_memory left recorder is is_recorder =
      let found = leaves data_width m.to_b lent.to_b left is in
      let v = view_of m in
      let f = oldest_of data_width m.to_b in
      let same : recorder ≡ arrived_at w v.recorder (priority_of f) (length_of f) m.clock = is_recorder ∙ brought in
      ap (λ (r : Recorder). recording r (left_lane data_width m.to_b left)) same ∙
      holds m (arrived w v (f ∷ found.0)) found.2 to_a_stays ∙
      ap (λ (row : List Frame). holding m (arrived w v row)) (sym found.1)
    where
      front : (n : ℕ) → n < 3 → octet_at m.to_b.slots n ≡ octet_at (take 3 m.to_b.slots) n
      front n below = sym (get_or-take 3 m.to_b.slots n 0 below)

      brought : arrived_at w (recorder_of m.rooms m.marks) (octet_at m.to_b.slots 0) (word_at m.to_b.slots 1) m.clock ≡
          arrived_at w (recorder_of m.rooms m.marks) (octet_at (take 3 m.to_b.slots) 0) (word_at (take 3 m.to_b.slots) 1) m.clock
      brought =
          rw (sym (front 0 (omega arith)), sym (front 1 (omega arith)), sym (front 2 (omega arith))) refl

  -- kind 04
  pub start_other_number_lem : (size : ℕ) →
      start_other_number (length_outside w.settings.largest size) (ltb m.clock m.to_a.free)
      (past_due m.marks.due w.kept.generation.0 m.clock) ≡
      refusal_of w (view_of m) (Ok (StartOther size))
  unfolding refusal_of view_of seen
  start_other_number_lem size = refl

  pub start_other_memory : (size : ℕ) →
      memory_with (view_of m) m.to_b (record { free = after m.clock (wire_time size); count = m.to_a.count; ends = m.to_a.ends; slots = m.to_a.slots }) ≡
      holding m (next_of w (view_of m) (Ok (StartOther size)))
  unfolding next_of other_started view_of put
  start_other_memory size =
      holds m (other_started (view_of m) size) to_b_stays
      (ap (λ (l : Lane). record { free = after m.clock (wire_time size); count = l.count; ends = l.ends; slots = l.slots }) to_a_stays)

  -- kind 05
  pub start_pfc_number_lem : start_pfc_number (is_never m.marks.due) (ltb m.clock m.to_a.free) m.to_a.count ≡ refusal_of w (view_of m) (Ok StartPfc)
  unfolding refusal_of view_of seen
  start_pfc_number_lem =
      ap (start_pfc_number (is_never m.marks.due) (ltb m.clock m.to_a.free)) (counted pfc_width m.to_a lent.to_a)

  pub start_pfc_memory : m.to_a.count < 128 →
      record {
        clock = m.clock;
        head = m.head;
        marks = started_at m.marks m.clock;
        rooms = m.rooms;
        to_b = m.to_b;
        to_a = joined_lane m.to_a (after m.clock pfc_time) (pfc_now w m.marks);
      } ≡ holding m (next_of w (view_of m) (Ok StartPfc))
  unfolding next_of pfc_started view_of seen
  start_pfc_memory few = holds m (pfc_started w (view_of m)) to_b_stays (joins pfc_width m.to_a lent.to_a _ _ few refl)

  -- kind 06
  pub take_effect_number : ended_in m.to_a.count m.to_a.ends m.clock ≡ refusal_of w (view_of m) (Ok TakeEffect)
  unfolding ended_in refusal_of view_of seen
  take_effect_number =
      ap (λ (e : Moment). arrive_number (is_ahead e m.clock)) (oldest_seen pfc_width m.to_a)

  pub take_effect_memory : (left : ℕ) → m.to_a.count ≡ left + 1 →
      record {
        clock = m.clock;
        head = effect_of (verdict (take 60 m.to_a.slots) w.settings.largest address_a) m.head;
        marks = m.marks;
        rooms = m.rooms;
        to_b = m.to_b;
        to_a = left_lane pfc_width m.to_a left;
      } ≡ holding m (next_of w (view_of m) (Ok TakeEffect))
  unfolding next_of took_effect view_of seen
  take_effect_memory left is =
      let found = leaves pfc_width m.to_a lent.to_a left is in
      holds m (took_effect w (view_of m) (oldest_of pfc_width m.to_a ∷ found.0)) to_b_stays found.2 ∙
      ap (λ (row : List Frame). holding m (took_effect w (view_of m) row)) (sym found.1)

  -- kind 07
  pub take_octets_number : (priority octets : ℕ) →
      taking_refusal w (recorder_of m.rooms m.marks) priority octets ≡ refusal_of w (view_of m) (Ok (TakeOctets priority octets))
  unfolding refusal_of view_of
  take_octets_number priority octets = refl

  pub take_octets_memory : (priority octets : ℕ) →
      recording (taken_at w (recorder_of m.rooms m.marks) priority octets m.clock) m.to_b ≡
      holding m (next_of w (view_of m) (Ok (TakeOctets priority octets)))
  unfolding next_of octets_taken view_of
  take_octets_memory priority octets = holds m (octets_taken w (view_of m) priority octets) to_b_stays to_a_stays

-- an answer to what is asked is one to whatever asks the same
pub answers_asked : {w : Watch} {m then : Memory} {answer : Result Bench Refusal} {asked same : Asked} → same ≡ asked → Answers w m asked answer then →
    Answers w m same answer then
answers_asked {w} {m} {then} {answer} is answers = subst (λ (a : Asked). Answers w m a answer then) (sym is) answers

-- octets that are refused before anything is asked
module _ (w : Watch) (bench : Bench) (r : List (List ℕ)) (e s p o : List ℕ) (octets : List ℕ) where
  pub octets_answers : (refusal : Refusal) (answer : Result Bench Refusal) → Err refusal ≡ decoded octets → IsErrAnd answer (λ told. told ≡ refusal) →
      Answers w (memory_of bench r e s p o) (decoded octets) answer (memory_of (bench_after answer bench) r e s p o)
  unfolding refusal_of
  octets_answers refusal (Ok next) is told = absurd told
  octets_answers refusal (Err same) is told =
      answers_asked (sym is)
      (record {
        number_is = ap number told;
        answer_is = ap Err told ∙ octets_told octets is bench;
        memory_is = memory_kept w (memory_of bench r e s p o) (Err refusal) refl (octets_some octets is);
      })
