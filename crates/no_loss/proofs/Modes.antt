-- How far a group's request has come, after each kind of record.
use Prim.Native.Nat.{ℕ, ◌+◌, ◌-◌, ◌*◌, ◌/◌, ◌≤◌, ◌<◌}
use mathlib.Core.Bool.{Bool, true, false}
use mathlib.Core.Path.{◌≡◌, refl}
use mathlib.Core.List.{List, [], ◌∷◌, ◌++◌}
use native.Mathlib.Nat.{lt_of_lt_of_le}
use native.Mathlib.Omega.{arith}
use lib.Dec.{leb}
use Rattle.std.specs.Prelude.{None, Some}
use Rattle.ground.specs.Pick.{pick}
use Rattle.moments.specs.Moments.{Moment, at, due_on, due_by}
use Rattle.bench_meaning.specs.State.{Frame}
use Rattle.bench_meaning.specs.Step.{oldest_end}
use Rattle.no_loss.proofs.Terms.{Terms, Sound, K, lost, slack, slack_within, slack_lost}
use Rattle.no_loss.proofs.Rows
use Rattle.no_loss.proofs.Rows.{pfc_length, Follows, InTime}
use Rattle.no_loss.proofs.Link.{DueInTime, Refreshed, RefreshIs, ToA, Marked}
use Rattle.no_loss.proofs.Group.{Waits, Prompt, EndedBy, Current, Asking, AtMostEach, Mode}

module _ (c : Terms) where
  -- a mark that changes makes PFC due, no later than the refresh
  prompt_on : (changed : Bool) (t : ℕ) (due last : Moment) → Refreshed c t true due last → Prompt c due last → Prompt c (due_on changed t due) last
  unfolding due_on
  prompt_on true t None None r h = r
  prompt_on true t None (Some m) r h = omega arith
  prompt_on false t None last r h = tt
  prompt_on changed t (Some d) last r h = h

  -- PFC that is due stays due since its first moment
  waits_on : (changed : Bool) (t stop : ℕ) (due : Moment) → Waits c due stop → Waits c (due_on changed t due) stop
  unfolding due_on
  waits_on changed t stop None h = absurd h
  waits_on changed t stop (Some d) h = h

  -- so does the refresh, as time passes
  prompt_by : (refresh : Moment) (t m : ℕ) → refresh ≡ at (m + c.I) → Prompt c (due_by refresh t None) (at m)
  unfolding due_by pick
  prompt_by None t m e = tt
  prompt_by (Some r) t m e = go (leb r.0 t)
    where
      go : (b : Bool) → Prompt c (pick b (Some r) None) (at m)
      go true = let same : r.0 ≡ m + c.I = cc in omega arith
      go false = tt

  -- the refresh falls due no later than it is dated
  prompt_passed : (t t' : ℕ) (due last refresh : Moment) → Refreshed c t true due last → RefreshIs c true last refresh → Prompt c due last →
      Prompt c (due_by refresh t' due) last
  unfolding due_by
  prompt_passed t t' None None refresh r i q = absurd r
  prompt_passed t t' None (Some m) refresh r i q = prompt_by refresh t' m.0 i
  prompt_passed t t' (Some d) last refresh r i q = q

  -- time passing does not change since when PFC is due
  waits_passed : (t' stop : ℕ) (due refresh : Moment) → Waits c due stop → Waits c (due_by refresh t' due) stop
  unfolding due_by
  waits_passed t' stop None refresh h = absurd h
  waits_passed t' stop (Some d) refresh h = h

  -- a due PFC frame that starts in time takes effect by `stop`, which is still to come
  waits_ahead : (t b_free stop : ℕ) (due : Moment) → DueInTime c t b_free due → Waits c due stop → t ≤ stop
  waits_ahead t b_free stop None d h = absurd h
  waits_ahead t b_free stop (Some since) d h = omega arith

  -- the moment at which a timer would run out does not move as time passes
  timer_passed : (t t' timer timer' : ℕ) → t ≤ t' → timer' ≡ timer - (t' / 64 - t / 64) → 64 * (t / 64 + timer) ≤ 64 * (t' / 64 + timer')
  timer_passed t t' timer timer' h e = omega arith

  -- a timer set to T runs out later than the next PFC frame takes effect
  runs_out_later : Sound c → (t end : ℕ) → end ≤ t → end + K c + c.P + slack c 0 < 64 * (t / 64 + c.T)
  runs_out_later sound t end h = omega (arith, sound.holds, slack_within c 0)

  -- a PFC frame that starts in time ends within K of the one before
  close_enough : (t b_free since end : ℕ) (last : Moment) → DueInTime c t b_free (at since) → end ≡ t + 84 → Prompt c (at since) last → (e : ℕ) →
      EndedBy last e → end ≤ e + K c
  close_enough t b_free since end None d z q e h = absurd h
  close_enough t b_free since end (Some m) d z q e h = omega arith

module _ (c : Terms) (Asks : Frame → Type 0) where
  -- the moment by which the next PFC frame takes effect has not passed
  next_ahead : (t b_free end : ℕ) (due last : Moment) (row : List Frame) → DueInTime c t b_free due → Refreshed c t true due last →
      InTime c.P t row → Current c Asks last end row → Prompt c due last → t ≤ end + K c + c.P
  unfolding oldest_end
  next_ahead t b_free end None None [] d r p u q = absurd r
  next_ahead t b_free end None (Some m) [] d r p u q = omega arith
  next_ahead t b_free end (Some since) None [] d r p u q = absurd q
  next_ahead t b_free end (Some since) (Some m) [] d r p u q = omega arith
  next_ahead t b_free end due last (f ∷ rest) d r p u q = omega (arith, u.1)

  -- an asking PFC frame under way takes effect by `stop`, which is still to come
  asking_ahead : (t base b_free stop left : ℕ) (last : Moment) (row : List Frame) → Asking c Asks last stop left row → InTime c.P t row →
      Follows pfc_length base row b_free → t ≤ stop
  unfolding oldest_end
  asking_ahead t base b_free stop left last [] none p s = elim none [ ]
  asking_ahead t base b_free stop left last (f ∷ rest) (Asking.here a h u) p s = omega arith
  asking_ahead t base b_free stop left last (f ∷ rest) (Asking.later a) p s =
      asking_ahead t f.end b_free stop (lost c) last rest a (Rows.next_in_time pfc_length c.P t f.end rest b_free (omega arith) s.1) s.1

  -- B starts a PFC frame that asks T: the newest of a current row
  current_started : (t end : ℕ) (last : Moment) (row : List Frame) (f : Frame) → Asks f → t + 84 ≤ f.end →
      ((e : ℕ) → EndedBy last e → f.end ≤ e + K c) → Current c Asks last end row → Current c Asks (at t) end (row ++ (f ∷ []))
  current_started t end last [] f a e h u = (a, h end u, e)
  current_started t end last (g ∷ rest) f a e h u = (u.0, u.1, current_started t g.end last rest f a e h u.2)

  -- the same behind older frames
  asking_started : (t stop left : ℕ) (last : Moment) (row : List Frame) (f : Frame) → Asks f → t + 84 ≤ f.end →
      ((e : ℕ) → EndedBy last e → f.end ≤ e + K c) → Asking c Asks last stop left row → Asking c Asks (at t) stop left (row ++ (f ∷ []))
  asking_started t stop left last [] f a e h none = elim none [ ]
  asking_started t stop left last (g ∷ rest) f a e h (Asking.here b l u) = Asking.here b l (current_started t g.end last rest f a e h u)
  asking_started t stop left last (g ∷ rest) f a e h (Asking.later b) = Asking.later (asking_started t stop (lost c) last rest f a e h b)

  -- the first frame that asks T, behind any older ones
  asking_first : (t stop left : ℕ) (row : List Frame) (f : Frame) → Asks f → t + 84 ≤ f.end → left ≤ lost c → f.end + c.P + lost c ≤ stop →
      Asking c Asks (at t) stop left (row ++ (f ∷ []))
  asking_first t stop left [] f a e within h = Asking.here {left = left} a (omega arith) e
  asking_first t stop left (g ∷ rest) f a e within h = Asking.later (asking_first t stop (lost c) rest f a e (omega arith) h)

  -- with less time to be left for losses
  asking_with_less : (left less stop : ℕ) (last : Moment) (row : List Frame) → less ≤ left → Asking c Asks last stop left row → Asking c Asks last stop less row
  asking_with_less left less stop last [] h none = elim none [ ]
  asking_with_less left less stop last (f ∷ rest) h (Asking.here a l u) = Asking.here {left = less} a (omega arith) u
  asking_with_less left less stop last (f ∷ rest) h (Asking.later a) = Asking.later a

module _ {c : Terms} {j : ℕ} {Mine : ℕ → Type 0} {Asks : Frame → Type 0} {t : ℕ} {timers : ℕ → ℕ} {due last : Moment} {pfc_row : List Frame} {stop : ℕ} where
  -- A sends frames of a priority of the group, whose timer is then 0, only until `stop`
  pub sends_by_stop : {b_free : ℕ} (n : ℕ) → Marked c t b_free due last true → ToA c t b_free pfc_row → Mine n → timers n ≡ 0 →
      Mode c j Mine Asks t timers due last pfc_row stop → t ≤ stop
  sends_by_stop {b_free} n m a mine z (Mode.waiting h) = waits_ahead c t b_free stop due m.due_time h
  sends_by_stop {b_free} n m a mine z (Mode.asked b q) =
      asking_ahead c Asks t 0 b_free stop (slack c j) last pfc_row b a.underway.in_time a.underway.follows
  sends_by_stop {b_free} n m a mine z (Mode.missed end u q h) =
      let ahead = next_ahead c Asks t b_free end due last pfc_row m.due_time m.refreshed a.underway.in_time u q in omega arith
  sends_by_stop {b_free} n m a mine z (Mode.stopped end timer u q least h) =
      let ahead = next_ahead c Asks t b_free end due last pfc_row m.due_time m.refreshed a.underway.in_time u q in
      let none = least n mine in absurd (omega arith)

  -- a mark changes, or none does
  pub mode_on : (changed : Bool) → Refreshed c t true due last → Mode c j Mine Asks t timers due last pfc_row stop →
      Mode c j Mine Asks t timers (due_on changed t due) last pfc_row stop
  mode_on changed r (Mode.waiting h) = Mode.waiting (waits_on c changed t stop due h)
  mode_on changed r (Mode.asked a q) = Mode.asked a (prompt_on c changed t due last r q)
  mode_on changed r (Mode.missed end u q h) = Mode.missed end u (prompt_on c changed t due last r q) h
  mode_on changed r (Mode.stopped end timer u q least h) = Mode.stopped end timer u (prompt_on c changed t due last r q) least h

  -- time passes
  pub mode_passed : (t' : ℕ) (timers' : ℕ → ℕ) (refresh : Moment) → t ≤ t' → ((n : ℕ) → Mine n → timers' n ≡ timers n - (t' / 64 - t / 64)) →
      Refreshed c t true due last → RefreshIs c true last refresh →
      Mode c j Mine Asks t timers due last pfc_row stop → Mode c j Mine Asks t' timers' (due_by refresh t' due) last pfc_row stop
  mode_passed t' timers' refresh h e r i (Mode.waiting w) = Mode.waiting (waits_passed c t' stop due refresh w)
  mode_passed t' timers' refresh h e r i (Mode.asked a q) = Mode.asked a (prompt_passed c t t' due last refresh r i q)
  mode_passed t' timers' refresh h e r i (Mode.missed end u q b) = Mode.missed end u (prompt_passed c t t' due last refresh r i q) b
  mode_passed t' timers' refresh h e r i (Mode.stopped end timer u q least b) =
      let timer' = timer - (t' / 64 - t / 64) in
      Mode.stopped end timer' u (prompt_passed c t t' due last refresh r i q) (λ n mine. omega (arith, least n mine, e n mine))
      (lt_of_lt_of_le b (timer_passed c t t' timer timer' h refl))

-- B starts the PFC frame, due since a moment, which asks T for the group
pub mode_started : {c : Terms} {j : ℕ} {Mine : ℕ → Type 0} {Asks : Frame → Type 0} {t since : ℕ} {timers : ℕ → ℕ} {last : Moment} {pfc_row : List Frame}
    {stop : ℕ} (b_free : ℕ) (f : Frame) →
    DueInTime c t b_free (at since) → f.end ≡ t + 84 → Asks f → Mode c j Mine Asks t timers (at since) last pfc_row stop →
    Mode c j Mine Asks t timers None (at t) (pfc_row ++ (f ∷ [])) stop
mode_started {c} {j} {Asks = Asks} {t = t} {pfc_row = pfc_row} {stop = stop} b_free f d e a (Mode.waiting w) =
    Mode.asked (asking_first c Asks t stop (slack c j) pfc_row f a (omega arith) (slack_within c j) (omega arith)) tt
mode_started {c} {j} {Asks = Asks} {t = t} {since = since} {last = last} {pfc_row = pfc_row} {stop = stop} b_free f d e a (Mode.asked b q) =
    Mode.asked (asking_started c Asks t stop (slack c j) last pfc_row f a (omega arith) (close_enough c t b_free since f.end last d e q) b) tt
mode_started {c} {Asks = Asks} {t = t} {since = since} {last = last} {pfc_row = pfc_row} b_free f d e a (Mode.missed end u q h) =
    Mode.missed end (current_started c Asks t end last pfc_row f a (omega arith) (close_enough c t b_free since f.end last d e q) u) tt h
mode_started {c} {Asks = Asks} {t = t} {since = since} {last = last} {pfc_row = pfc_row} b_free f d e a (Mode.stopped end timer u q least h) =
    Mode.stopped end timer (current_started c Asks t end last pfc_row f a (omega arith) (close_enough c t b_free since f.end last d e q) u) tt least h

module _ {c : Terms} {j : ℕ} {Mine : ℕ → Type 0} {Asks : Frame → Type 0} {t : ℕ} {timers : ℕ → ℕ} {due last : Moment} {f : Frame} {rest : List Frame}
    {stop : ℕ} where
  -- the oldest PFC frame takes effect, so that none in a row is lost: of older ones nothing is asked; once it asks T, A is stopped
  pub mode_took : (timers' : ℕ → ℕ) → Sound c → f.end ≤ t → (Asks f → AtMostEach Mine timers' c.T) →
      Mode c j Mine Asks t timers due last (f ∷ rest) stop → Mode c 0 Mine Asks t timers' due last rest stop
  mode_took timers' sound h set (Mode.waiting w) = Mode.waiting w
  mode_took timers' sound h set (Mode.asked (Asking.later a) q) =
      Mode.asked (asking_with_less c Asks (lost c) (slack c 0) stop last rest (slack_within c 0) a) q
  mode_took timers' sound h set (Mode.asked (Asking.here a l u) q) = Mode.stopped f.end c.T u q (set a) (runs_out_later c sound t f.end h)
  mode_took timers' sound h set (Mode.missed end u q b) = Mode.stopped f.end c.T u.2 q (set u.0) (runs_out_later c sound t f.end h)
  mode_took timers' sound h set (Mode.stopped end timer u q least b) =
      Mode.stopped f.end c.T u.2 q (set u.0) (runs_out_later c sound t f.end h)

  -- the oldest PFC frame is lost, one more in a row and no more than may be: the next one ends at most K later
  pub mode_lost : j < c.losses → Mode c j Mine Asks t timers due last (f ∷ rest) stop → Mode c (j + 1) Mine Asks t timers due last rest stop
  mode_lost allowed (Mode.waiting w) = Mode.waiting w
  mode_lost allowed (Mode.asked (Asking.later a) q) =
      Mode.asked (asking_with_less c Asks (lost c) (slack c (j + 1)) stop last rest (slack_within c (j + 1)) a) q
  mode_lost allowed (Mode.asked (Asking.here a l u) q) = Mode.missed f.end u q (omega (arith, slack_lost c j allowed))
  mode_lost allowed (Mode.missed end u q b) = Mode.missed f.end u.2 q (omega (arith, u.1, slack_lost c j allowed))
  mode_lost allowed (Mode.stopped end timer u q least b) = Mode.stopped f.end timer u.2 q least (omega (arith, u.1, slack_lost c j allowed))
