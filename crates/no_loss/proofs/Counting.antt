-- A room's counters are the sums over the records of a run: no assumption on the settings but that they are accepted.
use Prim.Native.Nat.{ℕ, ◌+◌, max}
use mathlib.Core.Bool.{Bool, true, false, false≢true}
use mathlib.Core.Path.{◌≡◌, refl, sym, ap, ◌∙◌, subst}
use mathlib.Core.List.{List, [], ◌∷◌}
use native.Mathlib.Omega.{arith}
use Rattle.std.specs.Prelude.{Ok, Err}
use borrow.Author.Tests.{eqb-true}
use lib.Dec.{eqb}
use Rattle.ground.specs.Pick.{pick}
use Rattle.units.specs.Units.{within64}
use Rattle.rooms.specs.declared.Room.{Room}
use Rattle.recorder.specs.declared.Watch.{Watch}
use Rattle.marks.specs.Marks.{started_at, with_due}
use Rattle.recorder.specs.Watching.{Recorder, room_at, limits_of}
use Rattle.recorder.proofs.RoomLaws.{EightRooms, fresh_room}
use Rattle.records.specs.Records.{Asked}
use Rattle.records.specs.declared.Record.TheVariants as record'
use Rattle.bench_meaning.specs.State.{Frame, State, priority_of, length_of, empty}
use Rattle.bench_meaning.specs.Step.{refusal_of, next_of, step_of, waited, data_started, arrived, other_started, pfc_started, took_effect, octets_taken}
use Rattle.no_loss.specs.Runs.{after, oldest_brings, brings, arriving, not_fitting, dropped_sum, span_sum, worst_from}
use Rattle.no_loss.proofs.Watches.{SoundWatch, Enabled, one_of_eight}
use Rattle.no_loss.proofs.Refusals.{may_take}
use Rattle.rooms.proofs.Moves.{Moves, moves_any, shown, Tally, tally_on}
use Rattle.no_loss.proofs.Moving.{shown_at, arrived_moves, taken_moves}
use Rattle.no_loss.proofs.Own.{own_calm}
use Rattle.no_loss.proofs.Invariant.{Inv, inv_empty}
use Rattle.no_loss.proofs.Run.{inv_step}

-- the counters of a priority's room in a state, as 64-bit numbers hold the sums
abbrev pub CountersAre : ℕ → State → ℕ → ℕ → Type 0
CountersAre p s dropped worst = ((room_at s.recorder p).dropped ≡ within64 dropped) × ((room_at s.recorder p).worst ≡ within64 worst)

-- a counter of a sum is one of an equal sum
held64 : {count sum sum' : ℕ} → count ≡ within64 sum → sum ≡ sum' → count ≡ within64 sum'
held64 e same = e ∙ ap (λ (x : ℕ). within64 x) same

module _ (w : Watch) (p : ℕ) (on : Enabled w p) where
  -- how the room that p shares has moved, and the octets that were brought
  abbrev Moved : Recorder → ℕ → Recorder → Type 0
  Moved r octets r' = Moves (limits_of w p).mark Unit (shown_at w r p) octets (shown_at w r' p)

  -- kind 03
  arrive_moves : (s : State) (row : List Frame) → EightRooms s.recorder → Moved s.recorder (oldest_brings p row) (arrived w s row).recorder
  unfolding arrived oldest_brings
  arrive_moves s [] all = Moves.alone
  arrive_moves s (f ∷ rest) all = moves_any ((arrived_moves w s.clock s.recorder all (priority_of f) (length_of f)).moves p on)

  -- kind 06
  effect_moves : (s : State) (row : List Frame) → Moved s.recorder 0 (took_effect w s row).recorder
  unfolding took_effect
  effect_moves s [] = Moves.alone
  effect_moves s (f ∷ rest) = Moves.alone

  -- how a record that is accepted moves the room
  next_moves : (s : State) (asked : Asked) → refusal_of w s asked ≡ 0 → EightRooms s.recorder →
      Moved s.recorder (brings p s asked) (next_of w s asked).recorder
  unfolding refusal_of next_of brings waited with_due data_started other_started pfc_started started_at octets_taken
  next_moves s (Ok (record'.Wait n)) e all = Moves.alone
  next_moves s (Ok (record'.StartData priority size)) e all = Moves.alone
  next_moves s (Ok record'.Arrive) e all = arrive_moves s s.to_b.row all
  next_moves s (Ok (record'.StartOther size)) e all = Moves.alone
  next_moves s (Ok record'.StartPfc) e all = Moves.alone
  next_moves s (Ok record'.TakeEffect) e all = effect_moves s s.to_a.row
  next_moves s (Ok (record'.TakeOctets priority octets)) e all =
      let may = may_take w s.recorder priority octets e in
      moves_any ((taken_moves w s.clock s.recorder all priority octets may.enabled).moves p on)
  next_moves s (Err refusal) e all = Moves.alone

  -- and none that is refused does
  step_moves : (s : State) (asked : Asked) → EightRooms s.recorder → Moved s.recorder (arriving w p s asked) (step_of w s asked).recorder
  unfolding step_of arriving pick
  step_moves s asked all = go (eqb (refusal_of w s asked) 0) refl
    where
      go : (accepted : Bool) → eqb (refusal_of w s asked) 0 ≡ accepted →
          Moved s.recorder (pick accepted (brings p s asked) 0) (pick accepted (next_of w s asked) s).recorder
      go true e = next_moves s asked (eqb-true _ _ e) all
      go false e = Moves.alone

  -- the counters after a list of records, from those before it
  counted : SoundWatch w → (records : List Asked) (s : State) → Inv w s → (dropped span worst : ℕ) →
      Tally (shown_at w s.recorder p) dropped span worst →
      CountersAre p (after w s records) (dropped + dropped_sum w p s records) (max worst (worst_from w p s span records))
  unfolding after dropped_sum not_fitting worst_from span_sum
  counted sound [] s inv dropped span worst h = (held64 h.dropped_is (omega arith), held64 h.worst_is (omega arith))
  counted sound (asked ∷ rest) s inv dropped span worst h =
      let then = tally_on (step_moves s asked inv.rooms) (own_calm sound (inv.own p on)) h in
      let later = counted sound rest (step_of w s asked) (inv_step w sound s asked inv) _ _ _ then in
      (held64 later.0 (omega arith), held64 later.1 (omega arith))

  -- the counters after a list of records from the start
  pub counted_from_start : SoundWatch w → (records : List Asked) →
      CountersAre p (after w (empty w) records) (0 + dropped_sum w p (empty w) records) (max 0 (worst_from w p (empty w) 0 records))
  counted_from_start sound records =
      counted sound records (empty w) (inv_empty w sound) 0 0 0
      (subst (λ (r : Room). Tally (shown (limits_of w p) r) 0 0 0) (sym (fresh_room p (one_of_eight w p on)))
      (record { dropped_is = omega arith; worst_is = omega arith; span_is = λ wanted. absurd (false≢true wanted) }))
