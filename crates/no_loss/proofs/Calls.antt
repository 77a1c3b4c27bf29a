-- Calls of the public step one after the other lose nothing. A memory with its places that holds the empty state is handed the octets of
-- any records, accepted ones and refused ones alike: after them the memory has its places still and holds the state that the records reach,
-- and for every enabled priority dropped is 0 and worst at most the headroom. For whoever calls the step without the program around it.
-- Assumes accepted settings, with T in its two octets.
use Prim.Native.Nat.{ℕ, ◌<◌, ◌≤◌}
use mathlib.Core.Bool.{Bool, true, false}
use mathlib.Core.Path.{◌≡◌, refl, sym, ap, subst, ◌∙◌}
use mathlib.Core.List.{List, [], ◌∷◌}
use native.Mathlib.Omega.{arith}
use borrow.Author.Tests.{eqb-true}
use lib.Dec.{eqb}
use lib.ListN.{length}
use Rattle.ground.specs.Eight.{eight}
use Rattle.ground.proofs.Pick.{pick_yes, pick_no}
use Rattle.settings.specs.declared.Settings.{Settings}
use Rattle.settings.specs.Settings.{headroom_of, settings_refusal}
use Rattle.rooms.specs.Room.{empty_room, numbers_of}
use Rattle.recorder.specs.declared.Watch.{Watch}
use Rattle.recorder.specs.Watching.{room_at}
use Rattle.records.specs.Records.{decoded}
use Rattle.bench_meaning.specs.State.{State, empty}
use Rattle.bench_meaning.specs.Step.{refusal_of, step_of}
use Rattle.rows.specs.Rows.{held_in, seen}
use Rattle.bench_memory.specs.Memory.{Memory, memory_of, view_of, Lent}
use Rattle.bench_memory.specs.Answers.{memory_for, step_memory}
use Rattle.bench_memory.proofs.Places.{lent_fitting}
use Rattle.bench_memory.proofs.Stepping.{step_lent, step_view}
use Rattle.following.specs.Following.{empty_bench}
use Rattle.no_loss.specs.Runs.{watch_of, after}
use Rattle.no_loss.specs.Calls.{after_calls, records_of, CallsLoseNothing}
use Rattle.no_loss.proofs.NoLoss.{no_loss}

module _ (w : Watch) where
  -- a call on a memory with its places does the record's step, refused or not
  call_steps : (m : Memory) → Lent m → (octets : List ℕ) → view_of (step_memory w m octets) ≡ step_of w (view_of m) (decoded octets)
  unfolding step_of step_memory memory_for
  call_steps m lent octets = go (eqb (refusal_of w (view_of m) (decoded octets)) 0) refl
    where
      go : (accepted : Bool) → eqb (refusal_of w (view_of m) (decoded octets)) 0 ≡ accepted →
          view_of (step_memory w m octets) ≡ step_of w (view_of m) (decoded octets)
      go true e = step_view m lent w octets (eqb-true _ _ e) ∙ sym (pick_yes _ _ e)
      go false e = ap view_of (pick_yes _ _ (lent_fitting m lent) ∙ pick_no _ _ e) ∙ sym (pick_no _ _ e)

  -- calls in a row: the memory has its places still, and holds the state after the records
  pub calls_reach : (m : Memory) → Lent m → (calls : List (List ℕ)) →
      Lent (after_calls w m calls) × (view_of (after_calls w m calls) ≡ after w (view_of m) (records_of calls))
  unfolding after_calls records_of after
  calls_reach m lent [] = (lent, refl)
  calls_reach m lent (octets ∷ calls) =
      let then = calls_reach (step_memory w m octets) (step_lent m lent w octets) calls in
      (then.0, then.1 ∙ ap (λ (s : State). after w s (records_of calls)) (call_steps m lent octets))

-- from the empty state
pub calls_lose_nothing : (s : Settings) → settings_refusal s ≡ 0 → s.pause < 65536 → (m : Memory) → Lent m → view_of m ≡ empty (watch_of s) →
    (calls : List (List ℕ)) → CallsLoseNothing s calls (after_calls (watch_of s) m calls)
calls_lose_nothing s accepted fits m lent start calls =
    let then = calls_reach (watch_of s) m lent calls in
    let holds = then.1 ∙ ap (λ (from : State). after (watch_of s) from (records_of calls)) start in
    record {
      places = then.0;
      holds = holds;
      none_dropped = λ priority on.
          ap (λ (now : State). (room_at now.recorder priority).dropped) holds ∙ (no_loss s accepted fits (records_of calls) priority on).none_dropped;
      within_headroom = λ priority on.
          subst (λ (now : State). (room_at now.recorder priority).worst ≤ headroom_of s) (sym holds)
          (no_loss s accepted fits (records_of calls) priority on).within_headroom;
    }

-- the start that the program makes, over arrays with their places, whatever they hold: the empty state
pub start_holds : (s : Settings) (data_ends data_slots pfc_ends pfc_slots : List ℕ) →
    128 ≤ length data_ends → 384 ≤ length data_slots → 128 ≤ length pfc_ends → 7680 ≤ length pfc_slots →
    Lent (memory_of (empty_bench s.enabled) (eight (λ n. numbers_of empty_room)) data_ends data_slots pfc_ends pfc_slots) ×
    (view_of (memory_of (empty_bench s.enabled) (eight (λ n. numbers_of empty_room)) data_ends data_slots pfc_ends pfc_slots) ≡ empty (watch_of s))
unfolding view_of seen held_in
start_holds s data_ends data_slots pfc_ends pfc_slots a b c d = (
  record { to_b = record { few = omega arith; ends = a; slots = b }; to_a = record { few = omega arith; ends = c; slots = d } },
  refl,
)
