-- Waits in a state in which the invariant holds: a wait of 0 is accepted and changes nothing, and what lets one octet time pass.
use Prim.Native.Nat.{ℕ, ◌+◌, ◌-◌, ◌/◌, ◌^◌, ◌≤◌, ◌<◌}
use mathlib.Core.Bool.{Bool, true, false}
use mathlib.Core.Path.{◌≡◌, refl, sym, ap, ◌∙◌, subst}
use native.Mathlib.Nat.{add-zero}
use native.Mathlib.Omega.{arith}
use borrow.Author.Tests.{lt-leb}
use lib.Dec.{leb}
use Rattle.std.specs.Prelude.{None, Some}
use Rattle.ground.specs.Pick.{pick}
use Rattle.head.specs.Timers.{after_quanta}
use Rattle.head.proofs.Timers.{passed_none}
use Rattle.moments.specs.Moments.{Moment, due_by}
use Rattle.moments.proofs.Reached.{NotPast}
use Rattle.recorder.specs.declared.Watch.{Watch}
use Rattle.marks.specs.Marks.{some_wanted, with_due}
use Rattle.bench_meaning.specs.State.{State}
use Rattle.bench_meaning.specs.Step.{due_then, marked, waited}
use Rattle.no_loss.proofs.Terms.{Terms, W}
use Rattle.no_loss.proofs.Rows.{InTime}
use Rattle.no_loss.proofs.Link.{DueInTime, Refreshed, RefreshIs}
use Rattle.no_loss.proofs.Refusals.{MayWait}
use Rattle.no_loss.proofs.Watches.{SoundWatch, terms_of}
use Rattle.no_loss.proofs.Invariant.{Inv}
use Rattle.no_loss.proofs.Keeping.{refresh_in, refresh_is}

-- no refresh has fallen due by now that is not due already
refresh_ahead : (c : Terms) (t : ℕ) (some : Bool) (due last refresh : Moment) → RefreshIs c some last refresh → Refreshed c t some due last →
    due_by refresh t due ≡ due
unfolding due_by pick
refresh_ahead c t some (Some d) last refresh i r = refl
refresh_ahead c t some None last None i r = refl
refresh_ahead c t false None last (Some m) i r = let z : ◌≡◌ {A = ℕ} 0 1 = cc in absurd (omega arith)
refresh_ahead c t true None None (Some m) i r = absurd r
refresh_ahead c t true None (Some last) (Some m) i r = let same : m.0 ≡ last.0 + c.I = cc in rw (lt-leb m.0 t (omega arith))

-- no due moment is past its bound now
not_past_now : (c : Terms) (t b_free : ℕ) (due : Moment) → DueInTime c t b_free due → NotPast due (c.G + W c) t
not_past_now c t b_free None d = tt
not_past_now c t b_free (Some first) d = omega arith

-- what a refresh that falls due at the next octet time leaves open
pub not_past_next : (c : Terms) (t : ℕ) (some : Bool) (due last refresh : Moment) → RefreshIs c some last refresh → Refreshed c t some due last →
    NotPast due (c.G + W c) (t + 1) → NotPast (due_by refresh (t + 1) due) (c.G + W c) (t + 1)
unfolding due_by pick
not_past_next c t some (Some d) last refresh i r h = h
not_past_next c t some None last None i r h = tt
not_past_next c t false None last (Some m) i r h = let z : ◌≡◌ {A = ℕ} 0 1 = cc in absurd (omega arith)
not_past_next c t true None None (Some m) i r h = absurd r
not_past_next c t true None (Some last) (Some m) i r h = go (leb m.0 (t + 1))
  where
    same : m.0 ≡ last.0 + c.I
    same = cc

    go : (b : Bool) → NotPast (pick b (Some m) None) (c.G + W c) (t + 1)
    go true = omega (arith, same)
    go false = tt

module _ (w : Watch) (sound : SoundWatch w) (s : State) (inv : Inv w s) where
  -- G + W
  abbrev bound : ℕ
  bound = w.kept.generation.0 + W (terms_of w)

  -- a wait is accepted if no bound is past
  may_wait_if : (n t : ℕ) → t ≡ s.clock + n → t ≤ 2 ^ 40 → InTime w.kept.«data».0 t s.to_b.row → InTime w.kept.request.0 t s.to_a.row →
      NotPast (due_then w s t) bound t → MayWait w s n
  may_wait_if n t e time d p past =
      record {
        time = subst (λ (x : ℕ). x ≤ 2 ^ 40) e time;
        data_time = subst (λ (x : ℕ). InTime w.kept.«data».0 x s.to_b.row) e d;
        pfc_time = subst (λ (x : ℕ). InTime w.kept.request.0 x s.to_a.row) e p;
        due_time =
            subst (λ (x : ℕ). NotPast (due_then w s x) (w.kept.generation.0 + w.kept.wire.0) x) e
            (subst (λ (wire : ℕ). NotPast (due_then w s t) (w.kept.generation.0 + wire) t) (sym sound.wire) past);
      }

  -- nothing falls due by waiting for nothing
  due_now : due_then w s s.clock ≡ s.recorder.marks.due
  due_now =
      refresh_ahead (terms_of w) s.clock (some_wanted s.recorder.marks) s.recorder.marks.due s.recorder.marks.last (refresh_in w s)
      (refresh_is w sound s inv) inv.link.marked.refreshed

  -- n = 0
  pub may_wait_zero : MayWait w s 0
  may_wait_zero =
      let past = not_past_now (terms_of w) s.clock s.to_a.free s.recorder.marks.due inv.link.marked.due_time in
      may_wait_if 0 s.clock (sym (add-zero s.clock)) inv.link.time inv.link.to_b.underway.in_time
      inv.link.to_a.underway.in_time
      (subst (λ (due : Moment). NotPast due bound s.clock) (sym due_now) past)

  -- the wait of 0 leaves the state as it is
  pub zero_changes_nothing : waited w s 0 ≡ s
  unfolding waited with_due
  zero_changes_nothing =
      let same = add-zero s.clock in
      let none : (s.clock + 0) / 64 - s.clock / 64 ≡ 0 = omega arith in
      let head = ap (after_quanta s.head) none ∙ passed_none s.head inv.timers in
      let due : due_then w s (s.clock + 0) ≡ s.recorder.marks.due = ap (λ (x : ℕ). due_then w s x) same ∙ due_now in
      λ i.
      record {
        clock = same i;
        head = head i;
        recorder = marked s.recorder (with_due s.recorder.marks (due i));
        to_b = s.to_b;
        to_a = s.to_a;
      }

  -- n = 1
  pub may_wait_one : s.clock < 2 ^ 40 → InTime w.kept.«data».0 (s.clock + 1) s.to_b.row →
      InTime w.kept.request.0 (s.clock + 1) s.to_a.row → NotPast s.recorder.marks.due bound (s.clock + 1) → MayWait w s 1
  may_wait_one small d p past =
      may_wait_if 1 (s.clock + 1) refl (omega arith) d p
      (not_past_next (terms_of w) s.clock (some_wanted s.recorder.marks) s.recorder.marks.due s.recorder.marks.last (refresh_in w s)
      (refresh_is w sound s inv) inv.link.marked.refreshed past)
