-- Every kind of record that is accepted keeps the invariant.
use Prim.Native.Nat.{ℕ, ◌+◌, ◌-◌, ◌/◌, ◌≤◌}
use mathlib.Core.Bool.{Bool, true, false}
use mathlib.Core.Path.{◌≡◌, refl, sym, ap, ◌∙◌, subst}
use mathlib.Core.List.{List, [], ◌∷◌}
use native.Mathlib.Nat.{le_of_eq}
use native.Mathlib.Omega.{arith}
use borrow.Author.Tests.{eq-eqb}
use Rattle.std.specs.Prelude.{None, Some}
use Rattle.ground.specs.Pick.{pick}
use Rattle.ground.proofs.Pick.{pick_yes}
use Rattle.units.specs.Units.{wire_time, pfc_time}
use Rattle.moments.specs.Moments.{Moment, at, refresh_from}
use Rattle.moments.proofs.Reached.{NotPast}
use Rattle.frame.specs.Read.{verdict}
use Rattle.head.specs.Timers.{timer}
use Rattle.head.proofs.Timers.{timer_passed}
use Rattle.recorder.specs.declared.Watch.{Watch}
use Rattle.marks.specs.Marks.{some_wanted, refresh_of, started_at, with_due}
use Rattle.marks.proofs.MarkLaws.{some_wanted_lem}
use Rattle.recorder.specs.Watching.{room_at}
use Rattle.bench_meaning.specs.State.{Frame, State, data_octets, priority_of, length_of, with_to_b, with_to_a}
use Rattle.bench_meaning.specs.Step
use Rattle.bench_meaning.specs.Step.{address_a, leaving, oldest_end, due_then, effect_of, pfc_now}
use Rattle.bench_meaning.specs.Step.{waited, data_started, arrived, other_started, pfc_started, took_effect, octets_taken}
use Rattle.no_loss.proofs.Terms.{W}
use Rattle.no_loss.proofs.Rows.{Ended}
use Rattle.no_loss.proofs.Link.{RefreshIs, StartedBy}
use Rattle.no_loss.proofs.LinkSteps.{link_passed, link_sent, link_arrived, link_other, link_started, link_took}
use Rattle.no_loss.proofs.GroupSteps.{group_passed, group_sent, group_started, group_took}
use Rattle.no_loss.proofs.Refusals.{MayWait, MayStartData, MayStartOther, MayStartPfc, MayTake}
use Rattle.no_loss.proofs.Watches.{SoundWatch, terms_of, Enabled, one_of_eight, Shares, sharing}
use Rattle.no_loss.proofs.Asking.{asks_now, effect_sets, effect_enabled, effect_eight}
use Rattle.no_loss.proofs.Moving.{arrived_moves, taken_moves}
use Rattle.no_loss.proofs.Own.{own_with, own_passed_by, own_brought, own_moved}
use Rattle.no_loss.proofs.Invariant.{Inv, marked_at, inv_moved}

-- the state with another row of frames under way to B, and to A
abbrev pub row_to_b : State → List Frame → State
row_to_b s row = with_to_b s (leaving s.to_b row)

abbrev pub row_to_a : State → List Frame → State
row_to_a s row = with_to_a s (leaving s.to_a row)

-- the moment of the refresh in a state
abbrev pub refresh_in : Watch → State → Moment
refresh_in w s = refresh_of w.settings.refresh.0 s.recorder.marks

module _ (w : Watch) (sound : SoundWatch w) (s : State) where
  -- the refresh never saturates
  pub refresh_is : Inv w s → RefreshIs (terms_of w) (some_wanted s.recorder.marks) s.recorder.marks.last (refresh_in w s)
  unfolding refresh_of pick refresh_from
  refresh_is inv = go (some_wanted s.recorder.marks) s.recorder.marks.last inv.link.marked.started
    where
      go : (any : Bool) (last : Moment) → StartedBy s.clock last →
          RefreshIs (terms_of w) any last (pick any (refresh_from last w.settings.refresh.0) None)
      go false last h = refl
      go true None h = refl
      go true (Some m) h = ap (λ (k : ℕ). at k) (omega (arith, sound.terms.small_refresh, inv.link.time))

  -- kind 01
  pub kept_wait : (n : ℕ) → MayWait w s n → Inv w s → Inv w (waited w s n)
  unfolding waited with_due
  kept_wait n may inv =
      record {
        link = link_passed then refresh (omega arith) may.time may.data_time may.pfc_time (refresh_is inv) past inv.link;
        rooms = record { rooms = inv.rooms.rooms; wanted = inv.rooms.wanted };
        timers = refl;
        enabled = inv.enabled;
        own = λ p on.
            own_with (inv.own p on)
            (group_passed then (timer (waited w s n).head) refresh (omega arith) (lowered p on) (marked_at p on inv) (refresh_wanted p on)
            (inv.own p on).group);
      }
    where
      then : ℕ
      then = s.clock + n

      refresh : Moment
      refresh = refresh_in w s

      past : NotPast (due_then w s (s.clock + n)) (w.kept.generation.0 + W (terms_of w)) (s.clock + n)
      past = subst (λ (wire : ℕ). NotPast (due_then w s then) (w.kept.generation.0 + wire) then) sound.wire may.due_time

      lowered : (p : ℕ) → Enabled w p → (k : ℕ) → Shares p k →
          timer (waited w s n).head k ≡ timer s.head k - ((s.clock + n) / 64 - s.clock / 64)
      lowered p on k mine = timer_passed s.head (then / 64 - s.clock / 64) k (one_of_eight w k (sharing (Enabled w) mine on))

      refresh_wanted : (p : ℕ) → Enabled w p → (room_at s.recorder p).wanted ≡ true →
          RefreshIs (terms_of w) true s.recorder.marks.last (refresh_in w s)
      refresh_wanted p on wanted =
          let some = some_wanted_lem s.recorder.marks inv.rooms.wanted p (one_of_eight w p on) wanted in
          subst (λ (any : Bool). RefreshIs (terms_of w) any s.recorder.marks.last refresh) some (refresh_is inv)

  -- kind 02
  pub kept_start_data : (priority size : ℕ) → MayStartData w s priority size → Inv w s → Inv w (data_started s priority size)
  unfolding data_started
  kept_start_data priority size may inv =
      record {
        link = link_sent f may.idle most ends inv.link;
        rooms = inv.rooms;
        timers = inv.timers;
        enabled = inv.enabled;
        own = λ p on.
            own_with (inv.own p on)
            (group_sent f (marked_at p on inv) inv.link.to_a may.idle most ends not_paused (inv.own p on).group);
      }
    where
      f : Frame
      f = record { end = Step.after s.clock (wire_time size); octets = data_octets priority size }

      most : length_of f ≤ w.settings.largest
      most = omega (arith, may.most, sound.terms.most)

      ends : f.end ≡ s.clock + (length_of f + 20)
      ends = omega (arith, inv.link.time, may.most, sound.terms.most)

      not_paused : timer s.head priority ≡ 0
      not_paused = omega (arith, may.not_paused)

  -- kind 04
  pub kept_start_other : (size : ℕ) → MayStartOther w s size → Inv w s → Inv w (other_started s size)
  unfolding other_started
  kept_start_other size may inv =
      record {
        link =
            link_other (Step.after s.clock (wire_time size)) (omega (arith, inv.link.time, may.idle)) (omega (arith, may.most))
            may.in_time inv.link;
        rooms = inv.rooms;
        timers = inv.timers;
        enabled = inv.enabled;
        own = inv.own;
      }

  -- kind 05
  pub kept_start_pfc : MayStartPfc s → Inv w s → Inv w (pfc_started w s)
  unfolding pfc_started started_at
  kept_start_pfc may inv =
      record {
        link = link_started f sound.terms may.idle may.few ends inv.link;
        rooms = record { rooms = inv.rooms.rooms; wanted = inv.rooms.wanted };
        timers = inv.timers;
        enabled = inv.enabled;
        own = λ p on.
            own_with (inv.own p on)
            (group_started f may.since may.due (marked_at p on inv) ends (asks_now w s.recorder.marks p f.end sound on) (inv.own p on).group);
      }
    where
      f : Frame
      f = record { end = Step.after s.clock pfc_time; octets = pfc_now w s.recorder.marks }

      ends : f.end ≡ s.clock + 84
      ends = omega (arith, inv.link.time)

  -- kind 07
  pub kept_take : (priority octets : ℕ) → MayTake w s.recorder priority octets → Inv w s → Inv w (octets_taken w s priority octets)
  unfolding octets_taken
  kept_take priority octets may inv =
      let moving = taken_moves w s.clock s.recorder inv.rooms priority octets may.enabled in
      inv_moved s _ moving inv
      (λ p on. own_moved moving.changed sound (marked_at p on inv) (λ none b. absurd none) (moving.moves p on) (inv.own p on))

  -- kind 03: the frame leaves the row, ..
  kept_left : (f : Frame) (rest : List Frame) → Inv w (row_to_b s (f ∷ rest)) → Inv w (row_to_b s rest)
  kept_left f rest inv =
      record {
        link = link_arrived inv.link;
        rooms = inv.rooms;
        timers = inv.timers;
        enabled = inv.enabled;
        own = λ p on. own_passed_by (inv.own p on);
      }

  -- .. and brings its octets to those that share its priority's room
  pub kept_arrive : (row : List Frame) → Ended row s.clock → Inv w (row_to_b s row) → Inv w (arrived w (row_to_b s row) row)
  unfolding arrived oldest_end
  kept_arrive [] ended inv = absurd ended
  kept_arrive (f ∷ rest) ended inv =
      let moving = arrived_moves w s.clock s.recorder inv.rooms (priority_of f) (length_of f) in
      inv_moved (row_to_b s rest) _ moving (kept_left f rest inv)
      (λ p on.
      own_moved moving.changed sound (marked_at p on inv)
      (λ mine b.
      own_brought moving.changed sound (marked_at p on inv) (moving.noticed p on) inv.link.to_b mine
      (pick_yes (length_of f) 0 (eq-eqb (priority_of f) p mine)) b (inv.own p on))
      (moving.moves p on) (own_passed_by (inv.own p on)))

  -- kind 06
  pub kept_take_effect : (row : List Frame) → Ended row s.clock → Inv w (row_to_a s row) → Inv w (took_effect w (row_to_a s row) row)
  unfolding took_effect oldest_end
  kept_take_effect [] ended inv = absurd ended
  kept_take_effect (f ∷ rest) ended inv =
      let read = verdict f.octets w.settings.largest address_a in
      record {
        link = link_took inv.link;
        rooms = inv.rooms;
        timers = effect_eight read s.head inv.timers;
        enabled = effect_enabled read s.head ∙ inv.enabled;
        own = λ p on.
            own_with (inv.own p on)
            (group_took (timer (effect_of read s.head)) sound.terms ended
            (λ asks n mine. le_of_eq (sym (effect_sets w s.head f p sound inv.enabled on asks n mine))) (inv.own p on).group);
      }
