-- Steps in a row: a memory with its places keeps them, and after an accepted record it holds the next state. Assumes nothing.
use Prim.Native.Nat.{ℕ}
use mathlib.Core.Path.{◌≡◌, refl, sym, ap, subst, ◌∙◌}
use mathlib.Core.Bool.{Bool, true, false}
use mathlib.Core.List.{List, [], ◌∷◌}
use Rattle.std.specs.Prelude.{Result, Ok, Err}
use lib.Dec.{eqb}
use borrow.Author.Tests.{eq-eqb, eqb-true}
use Rattle.ground.specs.Pick.{pick}
use Rattle.ground.proofs.Pick.{pick_yes, pick_no}
use Rattle.refusals.specs.Refusals.{number_of, refused_or, numbered_in}
use Rattle.refusals.specs.declared.Refusal.{Refusal}
use Rattle.refusals.specs.declared.Refusal.TheVariants.{UnderWay}
use Rattle.recorder.specs.declared.Watch.{Watch}
use Rattle.records.specs.Records.{Asked, decoded}
use Rattle.records.specs.declared.Record.TheVariants.{Wait, StartData, Arrive, StartOther, StartPfc, TakeEffect, TakeOctets}
use Rattle.bench_meaning.specs.State.{Frame, State}
use Rattle.bench_meaning.specs.Step.{refusal_of, next_of, waited, data_started, arrived, other_started, pfc_started, took_effect, octets_taken}
use Rattle.bench_state.specs.declared.Bench.{Bench}
use Rattle.bench_memory.specs.Memory.{Memory, bench_of, view_of, holding, data_width, pfc_width, lane_fits, fitting, Lent}
use Rattle.bench_memory.specs.Answers.{memory_for, Answers, step_number, step_memory}
use Rattle.decisions.proofs.Order.{start_data_room, start_pfc_room}
use Rattle.bench_memory.proofs.Places.{Placed, placed_more, placed_less, placed_seen, back, put_lent, lane_lent, lent_fitting}

-- both rows have their places
pub record Storable (s : State) : Type 0 where
  pub to_b : Placed data_width s.to_b.row
  pub to_a : Placed pfc_width s.to_a.row

arrived_stored : (w : Watch) (s : State) (row : List Frame) → Storable s → Placed data_width row → Storable (arrived w s row)
unfolding arrived
arrived_stored w s [] stored placed = stored
arrived_stored w s (oldest ∷ rest) stored placed = record { to_b = placed_less data_width oldest rest placed; to_a = stored.to_a }

effect_stored : (w : Watch) (s : State) (row : List Frame) → Storable s → Placed pfc_width row → Storable (took_effect w s row)
unfolding took_effect
effect_stored w s [] stored placed = stored
effect_stored w s (oldest ∷ rest) stored placed = record { to_b = stored.to_b; to_a = placed_less pfc_width oldest rest placed }

-- the state after an accepted record has its place in the arrays
next_stored : (w : Watch) (s : State) (asked : Asked) → Storable s → refusal_of w s asked ≡ 0 → Storable (next_of w s asked)
unfolding next_of refusal_of waited data_started other_started pfc_started octets_taken
next_stored w s (Ok (Wait n)) stored e = record { to_b = stored.to_b; to_a = stored.to_a }
next_stored w s (Ok (StartData priority size)) stored e =
    record { to_b = placed_more data_width s.to_b.row _ stored.to_b (start_data_room _ _ _ _ _ e) refl; to_a = stored.to_a }
next_stored w s (Ok Arrive) stored e = arrived_stored w s s.to_b.row stored stored.to_b
next_stored w s (Ok (StartOther size)) stored e = record { to_b = stored.to_b; to_a = stored.to_a }
next_stored w s (Ok StartPfc) stored e =
    record { to_b = stored.to_b; to_a = placed_more pfc_width s.to_a.row _ stored.to_a (start_pfc_room _ _ _ e) refl }
next_stored w s (Ok TakeEffect) stored e = effect_stored w s s.to_a.row stored stored.to_a
next_stored w s (Ok (TakeOctets priority octets)) stored e = record { to_b = stored.to_b; to_a = stored.to_a }
next_stored w s (Err refusal) stored e = stored

module _ (m : Memory) (lent : Lent m) where
  seen_stored : Storable (view_of m)
  unfolding view_of
  seen_stored = record { to_b = placed_seen data_width m.to_b lent.to_b; to_a = placed_seen pfc_width m.to_a lent.to_a }

  -- the state that was put in is the state that is seen, and the places stay
  view_holding : (s : State) → Storable s → view_of (holding m s) ≡ s
  unfolding view_of holding
  view_holding s stored =
      λ i. record {
        clock = s.clock;
        head = s.head;
        recorder = s.recorder;
        to_b = back data_width m.to_b lent.to_b s.to_b stored.to_b i;
        to_a = back pfc_width m.to_a lent.to_a s.to_a stored.to_a i;
      }

  holding_lent : (s : State) → Storable s → Lent (holding m s)
  unfolding holding
  holding_lent s stored =
      record {
        to_b = put_lent data_width m.to_b lent.to_b s.to_b stored.to_b;
        to_a = put_lent pfc_width m.to_a lent.to_a s.to_a stored.to_a;
      }

  module _ (w : Watch) (octets : List ℕ) where
    -- on a memory with its places the public step's number and memory are the record's own
    pub number_is : step_number w m octets ≡ refusal_of w (view_of m) (decoded octets)
    unfolding step_number
    number_is = pick_yes _ _ (lent_fitting m lent)

    memory_is : step_memory w m octets ≡ memory_for w m (decoded octets)
    unfolding step_memory
    memory_is = pick_yes _ _ (lent_fitting m lent)

    -- it keeps its places
    pub step_lent : Lent (step_memory w m octets)
    unfolding memory_for pick
    step_lent = subst Lent (sym memory_is) (go (eqb (refusal_of w (view_of m) (decoded octets)) 0) refl)
      where
        go : (b : Bool) → eqb (refusal_of w (view_of m) (decoded octets)) 0 ≡ b → Lent (pick b (holding m (next_of w (view_of m) (decoded octets))) m)
        go true e = holding_lent _ (next_stored w (view_of m) (decoded octets) seen_stored (eqb-true _ 0 e))
        go false e = lent

    -- and holds the next state after a record that is accepted
    pub step_view : refusal_of w (view_of m) (decoded octets) ≡ 0 → view_of (step_memory w m octets) ≡ next_of w (view_of m) (decoded octets)
    unfolding memory_for
    step_view accepted =
        ap view_of (memory_is ∙ pick_yes _ _ (eq-eqb _ 0 accepted)) ∙
        view_holding (next_of w (view_of m) (decoded octets)) (next_stored w (view_of m) (decoded octets) seen_stored accepted)

-- what the public step answers by its two tests of the places
module _ (w : Watch) (m : Memory) (octets : List ℕ) where
  -- the number, the answer and the memory
  abbrev pub Promised : Result Bench Refusal → Memory → Type 0
  Promised answer then =
      (number_of answer ≡ step_number w m octets) ×
      (answer ≡ refused_or (step_number w m octets) (bench_of (step_memory w m octets))) ×
      (then ≡ step_memory w m octets)

  promised : {answer : Result Bench Refusal} {then : Memory} (number : ℕ) → number ≡ step_number w m octets → number_of answer ≡ number →
      answer ≡ refused_or number (bench_of then) → then ≡ step_memory w m octets → Promised answer then
  promised number is is_number told memory = (is_number ∙ is, told ∙ (λ i. refused_or (is i) (bench_of (memory i))), memory)

  unfitting : fitting m ≡ false → Promised (Err UnderWay) m
  unfolding step_number step_memory refused_or numbered_in pick
  unfitting fails = promised 36 (sym (pick_no _ _ fails)) refl refl (sym (pick_no _ _ fails))

  pub unfit_to_b : lane_fits data_width m.to_b ≡ false → Promised (Err UnderWay) m
  unfolding fitting
  unfit_to_b fails = unfitting (pick_no _ _ fails)

  pub unfit_to_a : lane_fits data_width m.to_b ≡ true → lane_fits pfc_width m.to_a ≡ false → Promised (Err UnderWay) m
  unfolding fitting
  unfit_to_a holds fails = unfitting (pick_yes _ _ holds ∙ fails)

  pub fit_lent : lane_fits data_width m.to_b ≡ true → lane_fits pfc_width m.to_a ≡ true → Lent m
  fit_lent b a = record { to_b = lane_lent data_width m.to_b b; to_a = lane_lent pfc_width m.to_a a }

  pub fit_answers : {then : Memory} {answer : Result Bench Refusal} → Lent m → Answers w m (decoded octets) answer then → Promised answer then
  unfolding step_memory
  fit_answers lent answers =
      promised (refusal_of w (view_of m) (decoded octets)) (sym (number_is m lent w octets)) answers.number_is answers.answer_is
      (answers.memory_is ∙ sym (pick_yes _ _ (lent_fitting m lent)))
