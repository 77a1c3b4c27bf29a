-- What stands in the way of the next octet time can be cleared: a due PFC frame starts, the oldest PFC frame takes effect, the oldest data
-- frame arrives.
use Prim.Native.Nat.{ℕ, ◌+◌, ◌^◌, ◌≤◌, ◌<◌}
use mathlib.Core.Bool.{Bool, true, false}
use mathlib.Core.Path.{◌≡◌, refl, sym, subst}
use mathlib.Core.List.{List, [], ◌∷◌}
use native.Mathlib.Omega.{arith}
use Rattle.std.specs.Prelude.{Ok}
use borrow.Author.Tests.{eq-eqb, leb-true, leb-false}
use lib.Dec.{leb}
use Rattle.std.specs.Prelude.{None, Some}
use Rattle.ground.specs.Pick.{pick}
use Rattle.ground.proofs.Pick.{pick_yes}
use Rattle.moments.specs.Moments.{Moment, at, due_on}
use Rattle.moments.proofs.Reached.{NotPast}
use Rattle.rooms.specs.declared.Room.{Room}
use Rattle.settings.specs.Settings.{is_enabled}
use Rattle.recorder.specs.declared.Watch.{Watch}
use Rattle.marks.specs.Marks.{with_mark, started_at}
use Rattle.recorder.specs.Watching.{with_room, arrived_with, arrived_at}
use Rattle.records.specs.Records.{Asked}
use Rattle.records.specs.declared.Record.TheVariants as record'
use Rattle.bench_meaning.specs.State.{Frame, State, priority_of, length_of}
use Rattle.bench_meaning.specs.Step.{oldest_end, refusal_of, next_of, step_of, waited, arrived, pfc_started, took_effect}
use Rattle.no_loss.specs.Runs.{after, AllAccepted, Reaches}
use Rattle.no_loss.proofs.Terms.{W}
use Rattle.no_loss.proofs.Rows.{pfc_length, InTime, follows_free, next_in_time}
use Rattle.no_loss.proofs.Link.{DueInTime}
use Rattle.no_loss.proofs.Watches.{SoundWatch, terms_of}
use Rattle.no_loss.proofs.Invariant.{Inv}
use Rattle.no_loss.proofs.Keeping.{row_to_b, row_to_a}
use Rattle.no_loss.proofs.Run.{inv_next}
use Rattle.no_loss.proofs.Refusals.{MayStartPfc, wait_accepted, leave_accepted, start_pfc_accepted}
use Rattle.no_loss.proofs.Waiting.{may_wait_one}

-- first a record that is accepted, then the others
reaches_by : (w : Watch) (s : State) (asked : Asked) (time : ℕ) → refusal_of w s asked ≡ 0 → Reaches w (next_of w s asked) time → Reaches w s time
unfolding AllAccepted after step_of
reaches_by w s asked time e rest =
    let next : next_of w s asked ≡ step_of w s asked = sym (pick_yes _ _ (eq-eqb (refusal_of w s asked) 0 e)) in
    record {
      records = asked ∷ rest.records;
      accepted = (e, subst (λ (x : State). AllAccepted w x rest.records) next rest.accepted);
      passes = subst (λ (x : State). (after w x rest.records).clock ≡ time) next rest.passes;
    }

-- a mark that changes now leaves the due PFC frame its time
not_past_on : (changed : Bool) (t bound : ℕ) (due : Moment) → 1 ≤ bound → NotPast due bound (t + 1) → NotPast (due_on changed t due) bound (t + 1)
unfolding due_on
not_past_on true t bound None h n = omega arith
not_past_on false t bound None h n = tt
not_past_on changed t bound (Some d) h n = n

module _ (w : Watch) (sound : SoundWatch w) where
  -- one octet time passes
  abbrev Passes : State → Type 0
  Passes s = Reaches w s (s.clock + 1)

  -- at the next octet time no data frame, no PFC frame and no due moment is past its bound
  abbrev DataReady : State → Type 0
  DataReady s = InTime w.kept.«data».0 (s.clock + 1) s.to_b.row

  abbrev PfcReady : State → Type 0
  PfcReady s = InTime w.kept.request.0 (s.clock + 1) s.to_a.row

  abbrev DueReady : State → Moment → Type 0
  DueReady s due = NotPast due (w.kept.generation.0 + W (terms_of w)) (s.clock + 1)

  -- no bound is in the way: one octet time passes
  pass : (s : State) → s.clock < 2 ^ 40 → Inv w s → DataReady s → PfcReady s → DueReady s s.recorder.marks.due → Passes s
  unfolding next_of waited after AllAccepted
  pass s small inv d p past =
      reaches_by w s (Ok (record'.Wait 1)) (s.clock + 1) (wait_accepted w s 1 (may_wait_one w sound s inv small d p past))
      (record { records = []; accepted = tt; passes = refl })

  -- then the oldest data frame, if it must arrive now, with no other bound in the way
  clear_data : (s : State) (row : List Frame) → s.clock < 2 ^ 40 → Inv w (row_to_b s row) → PfcReady s → DueReady s s.recorder.marks.due →
      Passes (row_to_b s row)
  unfolding refusal_of next_of arrived arrived_at arrived_with with_room with_mark oldest_end pick
  clear_data s [] small inv p past = pass (row_to_b s []) small inv tt p past
  clear_data s (f ∷ rest) small inv p past = go (leb (s.clock + 1) (f.end + w.kept.«data».0)) refl
    where
      s' : State
      s' = row_to_b s (f ∷ rest)

      due_then : (on : Bool) (room : Room) →
          DueReady s (pick on (with_room s.recorder (priority_of f) room s.clock) s.recorder).marks.due
      due_then true room = not_past_on _ s.clock (w.kept.generation.0 + W (terms_of w)) s.recorder.marks.due (omega arith) past
      due_then false room = past

      go : (b : Bool) → leb (s.clock + 1) (f.end + w.kept.«data».0) ≡ b → Passes (row_to_b s (f ∷ rest))
      go true e = pass s' small inv (leb-true _ _ e) p past
      go false e =
          let late : f.end + w.kept.«data».0 < s.clock + 1 = leb-false _ _ e in
          let left = inv.link.to_b.underway.in_time in
          let accepted = leave_accepted s'.to_b s.clock (omega arith) in
          let behind = inv.link.to_b.underway.follows.1 in
          let in_time = next_in_time length_of w.kept.«data».0 (s.clock + 1) f.end rest s.to_b.free (omega arith) behind in
          reaches_by w s' (Ok record'.Arrive) (s.clock + 1) accepted
          (pass (arrived w s' (f ∷ rest)) small (inv_next w sound s' (Ok record'.Arrive) accepted inv) in_time p
          (due_then (is_enabled w.settings.enabled (priority_of f)) _))

  -- before that the oldest PFC frame, if it must take effect now, with no due PFC frame in the way
  clear_pfc : (s : State) (row : List Frame) → s.clock < 2 ^ 40 → Inv w (row_to_a s row) → DueReady s s.recorder.marks.due → Passes (row_to_a s row)
  unfolding refusal_of next_of took_effect oldest_end
  clear_pfc s [] small inv past = clear_data (row_to_a s []) s.to_b.row small inv tt past
  clear_pfc s (f ∷ rest) small inv past = go (leb (s.clock + 1) (f.end + w.kept.request.0)) refl
    where
      s' : State
      s' = row_to_a s (f ∷ rest)

      go : (b : Bool) → leb (s.clock + 1) (f.end + w.kept.request.0) ≡ b → Passes (row_to_a s (f ∷ rest))
      go true e = clear_data s' s.to_b.row small inv (leb-true _ _ e) past
      go false e =
          let late : f.end + w.kept.request.0 < s.clock + 1 = leb-false _ _ e in
          let left = inv.link.to_a.underway.in_time in
          let accepted = leave_accepted s'.to_a s.clock (omega arith) in
          let behind = inv.link.to_a.underway.follows.1 in
          let in_time = next_in_time pfc_length w.kept.request.0 (s.clock + 1) f.end rest s.to_a.free (omega arith) behind in
          reaches_by w s' (Ok record'.TakeEffect) (s.clock + 1) accepted
          (clear_data (took_effect w s' (f ∷ rest)) s.to_b.row small (inv_next w sound s' (Ok record'.TakeEffect) accepted inv) in_time past)

  -- before that the PFC frame that must start now, for which the row has room
  start_due : (s : State) → s.clock < 2 ^ 40 → Inv w s → MayStartPfc s → Passes s
  unfolding next_of pfc_started started_at
  start_due s small inv may =
      let accepted = start_pfc_accepted w s may in
      reaches_by w s (Ok record'.StartPfc) (s.clock + 1) accepted
      (clear_pfc (pfc_started w s) (pfc_started w s).to_a.row small (inv_next w sound s (Ok record'.StartPfc) accepted inv) tt)

  -- with 128 under way the oldest has ended and takes effect first
  make_room : (s : State) (row : List Frame) → s.clock < 2 ^ 40 → Inv w (row_to_a s row) → (since : ℕ) → s.recorder.marks.due ≡ at since →
      s.to_a.free ≤ s.clock → Passes (row_to_a s row)
  unfolding refusal_of next_of took_effect oldest_end
  make_room s [] small inv since due idle = start_due (row_to_a s []) small inv (record { since = since; due = due; idle = idle; few = omega arith })
  make_room s (f ∷ rest) small inv since due idle =
      let s' = row_to_a s (f ∷ rest) in
      let by = follows_free pfc_length f.end rest s.to_a.free inv.link.to_a.underway.follows.1 in
      let accepted = leave_accepted s'.to_a s.clock (omega arith) in
      reaches_by w s' (Ok record'.TakeEffect) (s.clock + 1) accepted
      (start_due (took_effect w s' (f ∷ rest)) small (inv_next w sound s' (Ok record'.TakeEffect) accepted inv)
      (record { since = since; due = due; idle = idle; few = omega (arith, inv.link.to_a.count) }))

  -- so one octet time can always pass
  pub clear : (s : State) → s.clock < 2 ^ 40 → Inv w s → Passes s
  clear s small inv = go s.recorder.marks.due refl inv.link.marked.due_time
    where
      bound : ℕ
      bound = w.kept.generation.0 + W (terms_of w)

      in_time : (due : Moment) → s.recorder.marks.due ≡ due → DueReady s due → Passes s
      in_time due is past = clear_pfc s s.to_a.row small inv (subst (DueReady s) (sym is) past)

      tried : (since : ℕ) → s.recorder.marks.due ≡ at since → DueInTime (terms_of w) s.clock s.to_a.free (at since) →
          (b : Bool) → leb (s.clock + 1) (since + bound) ≡ b → Passes s
      tried since is known true e = in_time (at since) is (leb-true _ _ e)
      tried since is known false e =
          let late : since + bound < s.clock + 1 = leb-false _ _ e in make_room s s.to_a.row small inv since is (omega arith)

      go : (due : Moment) → s.recorder.marks.due ≡ due → DueInTime (terms_of w) s.clock s.to_a.free due → Passes s
      go None is known = in_time None is tt
      go (Some since) is known = tried since.0 is known (leb (s.clock + 1) (since.0 + bound)) refl
