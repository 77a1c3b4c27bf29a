-- The account of each enabled priority over any list of records from the start: what arrived is what is held, was taken and was dropped, and
-- what was dropped is what did not fit beside what the account itself holds. For whoever asks that `no_loss` counts what B holds, too, and
-- that its sums do not lean on the state's own count of it. Assumes accepted settings, with T in its two octets.
use Prim.Native.Nat.{ℕ, ◌+◌, ◌-◌, ◌≤◌, ◌<◌}
use mathlib.Core.Bool.{Bool, true, false, false≢true}
use mathlib.Core.Path.{◌≡◌, refl, sym, ap, subst, ◌∙◌}
use mathlib.Core.List.{List, [], ◌∷◌}
use native.Mathlib.Omega.{arith}
use Rattle.std.specs.Prelude.{Ok, Err}
use borrow.Author.Tests.{eqb-true, eq-eqb}
use lib.Dec.{eqb}
use Rattle.ground.specs.Pick.{pick}
use Rattle.rooms.specs.declared.Room.{Room}
use Rattle.rooms.specs.Room.{fits, held_after, arrived_in, taken_from}
use Rattle.settings.specs.declared.Settings.{Settings}
use Rattle.settings.specs.Settings.{is_enabled, room_of, settings_refusal}
use Rattle.recorder.specs.declared.Watch.{Watch}
use Rattle.marks.specs.Marks.{started_at, with_due}
use Rattle.recorder.specs.Watching.{Recorder, room_at, limits_of, with_room, arrived_with, arrived_at, taken_with, taken_at}
use Rattle.recorder.proofs.RoomLaws.{EightRooms, fresh_room, room_then}
use Rattle.records.specs.Records.{Asked}
use Rattle.records.specs.declared.Record.TheVariants as record'
use Rattle.bench_meaning.specs.State.{Frame, State, priority_of, length_of, empty}
use Rattle.bench_meaning.specs.Step.{refusal_of, next_of, step_of, waited, data_started, arrived, other_started, pfc_started, took_effect, octets_taken}
use Rattle.no_loss.specs.Runs.{watch_of, after, oldest_brings, brings, arriving, not_fitting, dropped_sum}
use Rattle.no_loss.specs.Account.{takes, taking, arrived_sum, taken_sum, overflow, held_by, dropped_from, AddsUp}
use Rattle.no_loss.proofs.Refusals.{may_take}
use Rattle.no_loss.proofs.Watches.{SoundWatch, Enabled, sound_watch, one_of_eight}
use Rattle.no_loss.proofs.Invariant.{Inv, inv_empty}
use Rattle.no_loss.proofs.Run.{inv_step}

module _ (w : Watch) (p : ℕ) (on : Enabled w p) where
  -- nothing arrives and nothing is taken
  same_held : (held : ℕ) → held ≡ held_by w p held 0 0
  unfolding held_by overflow pick
  same_held held = go (fits (room_of w.settings.rooms p) held 0)
    where
      go : (fit : Bool) → held ≡ held + 0 - pick fit 0 0 - 0
      go true = omega arith
      go false = omega arith

  -- octets are taken
  taken_held : (held octets : ℕ) → held - octets ≡ held_by w p held 0 octets
  unfolding held_by overflow pick
  taken_held held octets = go (fits (room_of w.settings.rooms p) held 0)
    where
      go : (fit : Bool) → held - octets ≡ held + 0 - pick fit 0 0 - octets
      go true = omega arith
      go false = omega arith

  -- a frame arrives: it is held, or does not fit
  arrived_held : (held octets : ℕ) → held_after (limits_of w p).size held octets ≡ held_by w p held octets 0
  unfolding held_by overflow held_after limits_of pick
  arrived_held held octets = go (fits (room_of w.settings.rooms p) held octets)
    where
      go : (fit : Bool) → pick fit (held + octets) held ≡ held + octets - pick fit 0 octets - 0
      go true = omega arith
      go false = omega arith

  -- what the room of p holds once octets of it arrived and were taken
  abbrev HeldThen : Recorder → ℕ → ℕ → Room → Type 0
  HeldThen r arrived taken room = room.held ≡ held_by w p (room_at r p).held arrived taken

  -- the room of q changes: where q is p it holds what is said of it, and else the room of p holds what it held
  one_held : (r : Recorder) → EightRooms r → (q clock : ℕ) (room : Room) (arrived taken : ℕ) (own : Bool) → eqb q p ≡ own →
      (q ≡ p → HeldThen r arrived taken room) → HeldThen r (pick own arrived 0) (pick own taken 0) (room_at (with_room r q room clock) p)
  unfolding pick
  one_held r all q clock room arrived taken true e mine =
      room_then r q room clock all (HeldThen r arrived taken) p (one_of_eight w p on) (λ same. mine (sym same))
      (λ apart. absurd (apart (sym (eqb-true q p e))))
  one_held r all q clock room arrived taken false e mine =
      room_then r q room clock all (HeldThen r 0 0) p (one_of_eight w p on)
      (λ same. absurd (false≢true (sym e ∙ eq-eqb q p (sym same)))) (λ apart. same_held _)

  -- kind 03: a frame of p's is of an enabled priority
  arrive_held : (s : State) (row : List Frame) → EightRooms s.recorder →
      HeldThen s.recorder (oldest_brings p row) 0 (room_at (arrived w s row).recorder p)
  unfolding arrived arrived_at arrived_with arrived_in oldest_brings pick
  arrive_held s [] all = same_held _
  arrive_held s (f ∷ rest) all = go (is_enabled w.settings.enabled q) refl (eqb q p) refl
    where
      r : Recorder
      r = s.recorder

      q : ℕ
      q = priority_of f

      room : ℕ → Room
      room k = arrived_in (limits_of w k) (room_at r k) (length_of f)

      mine : q ≡ p → HeldThen r (length_of f) 0 (room q)
      mine same = subst (λ (k : ℕ). HeldThen r (length_of f) 0 (room k)) (sym same) (arrived_held (room_at r p).held (length_of f))

      go : (enabled : Bool) → is_enabled w.settings.enabled q ≡ enabled → (own : Bool) → eqb q p ≡ own →
          HeldThen r (pick own (length_of f) 0) 0 (room_at (pick enabled (with_room r q (room q) s.clock) r) p)
      go true h true e = one_held r all q s.clock (room q) (length_of f) 0 true e mine
      go true h false e = one_held r all q s.clock (room q) (length_of f) 0 false e mine
      go false h true e = absurd (false≢true (sym h ∙ ap (is_enabled w.settings.enabled) (eqb-true q p e) ∙ on))
      go false h false e = same_held _

  -- kind 07
  take_held : (s : State) (q octets : ℕ) → EightRooms s.recorder →
      HeldThen s.recorder 0 (pick (eqb q p) octets 0) (room_at (octets_taken w s q octets).recorder p)
  unfolding octets_taken taken_at taken_with taken_from pick
  take_held s q octets all = go (eqb q p) refl
    where
      r : Recorder
      r = s.recorder

      room : ℕ → Room
      room k = taken_from (limits_of w k) (room_at r k) octets

      mine : q ≡ p → HeldThen r 0 octets (room q)
      mine same = subst (λ (k : ℕ). HeldThen r 0 octets (room k)) (sym same) (taken_held (room_at r p).held octets)

      go : (own : Bool) → eqb q p ≡ own → HeldThen r 0 (pick own octets 0) (room_at (with_room r q (room q) s.clock) p)
      go true e = one_held r all q s.clock (room q) 0 octets true e mine
      go false e = one_held r all q s.clock (room q) 0 octets false e mine

  -- kind 06
  effect_held : (s : State) (row : List Frame) → HeldThen s.recorder 0 0 (room_at (took_effect w s row).recorder p)
  unfolding took_effect
  effect_held s [] = same_held _
  effect_held s (f ∷ rest) = same_held _

  -- a record that is accepted
  next_held : (s : State) (asked : Asked) → EightRooms s.recorder →
      HeldThen s.recorder (brings p s asked) (takes p asked) (room_at (next_of w s asked).recorder p)
  unfolding next_of brings takes waited with_due data_started other_started pfc_started started_at
  next_held s (Ok (record'.Wait n)) all = same_held _
  next_held s (Ok (record'.StartData priority size)) all = same_held _
  next_held s (Ok record'.Arrive) all = arrive_held s s.to_b.row all
  next_held s (Ok (record'.StartOther size)) all = same_held _
  next_held s (Ok record'.StartPfc) all = same_held _
  next_held s (Ok record'.TakeEffect) all = effect_held s s.to_a.row
  next_held s (Ok (record'.TakeOctets priority octets)) all = take_held s priority octets all
  next_held s (Err refusal) all = same_held _

  -- any record
  step_held : (s : State) (asked : Asked) → EightRooms s.recorder →
      HeldThen s.recorder (arriving w p s asked) (taking w p s asked) (room_at (step_of w s asked).recorder p)
  unfolding step_of arriving taking pick
  step_held s asked all = go (eqb (refusal_of w s asked) 0)
    where
      go : (accepted : Bool) →
          HeldThen s.recorder (pick accepted (brings p s asked) 0) (pick accepted (takes p asked) 0)
          (room_at (pick accepted (next_of w s asked) s).recorder p)
      go true = next_held s asked all
      go false = same_held _

  -- not 42 "more than is held"
  take_there : (s : State) (asked : Asked) → refusal_of w s asked ≡ 0 → takes p asked ≤ (room_at s.recorder p).held
  unfolding takes pick refusal_of
  take_there s (Ok (record'.Wait n)) e = omega arith
  take_there s (Ok (record'.StartData priority size)) e = omega arith
  take_there s (Ok record'.Arrive) e = omega arith
  take_there s (Ok (record'.StartOther size)) e = omega arith
  take_there s (Ok record'.StartPfc) e = omega arith
  take_there s (Ok record'.TakeEffect) e = omega arith
  take_there s (Ok (record'.TakeOctets q octets)) e = go (eqb q p) refl (may_take w s.recorder q octets e).there
    where
      go : (own : Bool) → eqb q p ≡ own → octets ≤ (room_at s.recorder q).held → pick own octets 0 ≤ (room_at s.recorder p).held
      go true same there = subst (λ (k : ℕ). octets ≤ (room_at s.recorder k).held) (eqb-true q p same) there
      go false apart there = omega arith
  take_there s (Err refusal) e = omega arith

  -- and nothing is taken by a record that is refused
  taking_there : (s : State) (asked : Asked) → taking w p s asked ≤ (room_at s.recorder p).held
  unfolding taking pick
  taking_there s asked = go (eqb (refusal_of w s asked) 0) refl
    where
      go : (accepted : Bool) → eqb (refusal_of w s asked) 0 ≡ accepted → pick accepted (takes p asked) 0 ≤ (room_at s.recorder p).held
      go true e = take_there s asked (eqb-true _ _ e)
      go false e = omega arith

  -- one record: what was held and what arrives is what is held then, was taken and does not fit
  balance : (held arrived taken : ℕ) → taken ≤ held → held_by w p held arrived taken + taken + overflow w p held arrived ≡ held + arrived
  unfolding held_by overflow pick
  balance held arrived taken there = go (fits (room_of w.settings.rooms p) held arrived)
    where
      go : (fit : Bool) → held + arrived - pick fit 0 arrived - taken + taken + pick fit 0 arrived ≡ held + arrived
      go true = omega arith
      go false = omega arith

  module _ (sound : SoundWatch w) where
    -- the account of a list of records, from any state of a run
    adds_up_from : (records : List Asked) (s : State) → Inv w s →
        (room_at s.recorder p).held + arrived_sum w p s records ≡
        (room_at (after w s records).recorder p).held + taken_sum w p s records + dropped_sum w p s records
    unfolding after arrived_sum taken_sum dropped_sum not_fitting overflow limits_of
    adds_up_from [] s inv = omega arith
    adds_up_from (asked ∷ rest) s inv =
        let held = step_held s asked inv.rooms in
        let one = balance (room_at s.recorder p).held (arriving w p s asked) (taking w p s asked) (taking_there s asked) in
        omega (arith, held, one, adds_up_from rest (step_of w s asked) (inv_step w sound s asked inv))

    -- what is dropped, by the account alone
    dropped_by_account : (records : List Asked) (s : State) → Inv w s →
        dropped_sum w p s records ≡ dropped_from w p s (room_at s.recorder p).held records
    unfolding dropped_sum dropped_from not_fitting overflow limits_of
    dropped_by_account [] s inv = refl
    dropped_by_account (asked ∷ rest) s inv =
        let later = dropped_by_account rest (step_of w s asked) (inv_step w sound s asked inv) in
        let same = ap (λ (held : ℕ). dropped_from w p (step_of w s asked) held rest) (step_held s asked inv.rooms) in
        ap (λ (more : ℕ). not_fitting w p s (arriving w p s asked) + more) (later ∙ same)

-- from the start
pub adds_up : (s : Settings) → settings_refusal s ≡ 0 → s.pause < 65536 → (records : List Asked) (priority : ℕ) →
    is_enabled s.enabled priority ≡ true → AddsUp s records priority
adds_up s accepted fits records priority on =
    let w = watch_of s in
    let sound = sound_watch s accepted fits in
    let start = inv_empty w sound in
    let none : (room_at (empty w).recorder priority).held ≡ 0 = ap (λ (room : Room). room.held) (fresh_room priority (one_of_eight w priority on)) in
    record {
      arrived_is = omega (arith, none, adds_up_from w priority on sound records (empty w) start);
      dropped_is =
          dropped_by_account w priority on sound records (empty w) start ∙
          ap (λ (held : ℕ). dropped_from w priority (empty w) held records) none;
    }
