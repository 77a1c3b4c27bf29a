-- What each kind of record leaves of a group's facts, wanted or not.
use Prim.Native.Nat.{ℕ, ◌+◌, ◌-◌, ◌/◌, ◌^◌, ◌≤◌, ◌<◌}
use mathlib.Core.Bool.{Bool, true, false}
use mathlib.Core.Path.{◌≡◌, refl, sym, subst}
use mathlib.Core.List.{List, [], ◌∷◌, ◌++◌}
use native.Mathlib.Omega.{arith}
use Rattle.std.specs.Prelude.{None, Some}
use Rattle.moments.specs.Moments.{Moment, at, due_on, due_by}
use Rattle.bench_meaning.specs.State.{Frame, priority_of, length_of}
use Rattle.bench_meaning.specs.Step.{oldest_end}
use Rattle.no_loss.proofs.Terms.{Terms, Sound, W, O, H, lost}
use Rattle.no_loss.proofs.Rows
use Rattle.no_loss.proofs.Link.{DueInTime, RefreshIs, ToB, ToA, Marked}
use Rattle.no_loss.proofs.Group.{Waits, AtMostEach, Mode, Wanted, Group}
use Rattle.no_loss.proofs.Modes.{sends_by_stop, mode_on, mode_passed, mode_started, mode_took, mode_lost}

module _ {c : Terms} {j : ℕ} {Mine : ℕ → Type 0} {Asks : Frame → Type 0} {t : ℕ} {timers : ℕ → ℕ} {due last : Moment} {a_free : ℕ} where
  -- the same group in another mode
  in_mode : {j' t' : ℕ} {timers' : ℕ → ℕ} {due' last' : Moment} {data_row pfc_row pfc_row' : List Frame} {free span : ℕ} →
      (g : Wanted c j Mine Asks t timers due last data_row a_free pfc_row free span) → Mode c j' Mine Asks t' timers' due' last' pfc_row' g.stop →
      Wanted c j' Mine Asks t' timers' due' last' data_row a_free pfc_row' free span
  in_mode g mode =
      record { stop = g.stop; base = g.base; follows = g.follows; arriving = g.arriving; ends = g.ends; fitting = g.fitting; mode = mode }

  -- kind 01: time passes
  pub group_passed : {data_row pfc_row : List Frame} {wanted : Bool} {free span b_free : ℕ} (t' : ℕ) (timers' : ℕ → ℕ) (refresh : Moment) →
      t ≤ t' → ((n : ℕ) → Mine n → timers' n ≡ timers n - (t' / 64 - t / 64)) → Marked c t b_free due last wanted →
      (wanted ≡ true → RefreshIs c true last refresh) →
      Group c j Mine Asks t timers due last data_row a_free pfc_row wanted free span →
      Group c j Mine Asks t' timers' (due_by refresh t' due) last data_row a_free pfc_row wanted free span
  group_passed t' timers' refresh h e m i (Group.calm g) = Group.calm g
  group_passed t' timers' refresh h e m i (Group.wanted g) =
      Group.wanted (in_mode g (mode_passed t' timers' refresh h e m.refreshed (i refl) g.mode))

  -- kind 02: A starts a frame, of a priority of the group only while its timer is 0
  pub group_sent : {data_row pfc_row : List Frame} {wanted : Bool} {free span b_free : ℕ} (f : Frame) →
      Marked c t b_free due last wanted → ToA c t b_free pfc_row → a_free ≤ t → length_of f ≤ c.M → f.end ≡ t + (length_of f + 20) →
      timers (priority_of f) ≡ 0 → Group c j Mine Asks t timers due last data_row a_free pfc_row wanted free span →
      Group c j Mine Asks t timers due last (data_row ++ (f ∷ [])) f.end pfc_row wanted free span
  group_sent f m a idle l e none (Group.calm g) = Group.calm g
  group_sent {data_row} f m a idle l e none (Group.wanted g) =
      Group.wanted
      (record {
        stop = g.stop;
        base = g.base;
        follows = Rows.follows_started length_of g.base data_row a_free f g.follows (omega arith);
        arriving = g.arriving;
        ends = Rows.each_started _ data_row f g.ends (λ mine. let by = sends_by_stop (priority_of f) m a mine none g.mode in omega arith);
        fitting = g.fitting;
        mode = g.mode;
      })

  -- kinds 03 and 07: a mark changes, or none does
  wanted_on : {data_row pfc_row : List Frame} {free span b_free : ℕ} (changed : Bool) → Marked c t b_free due last true →
      Wanted c j Mine Asks t timers due last data_row a_free pfc_row free span →
      Wanted c j Mine Asks t timers (due_on changed t due) last data_row a_free pfc_row free span
  wanted_on changed m g = in_mode g (mode_on changed m.refreshed g.mode)

  -- a group that is not wanted does not look at it
  pub group_on : {data_row pfc_row : List Frame} {wanted : Bool} {free span b_free : ℕ} (changed : Bool) →
      Marked c t b_free due last wanted → Group c j Mine Asks t timers due last data_row a_free pfc_row wanted free span →
      Group c j Mine Asks t timers (due_on changed t due) last data_row a_free pfc_row wanted free span
  group_on changed m (Group.calm g) = Group.calm g
  group_on changed m (Group.wanted g) = Group.wanted (wanted_on changed m g)

  -- kind 05: B starts the PFC frame, which asks T where the group is wanted
  pub group_started : {data_row pfc_row : List Frame} {wanted : Bool} {free span b_free : ℕ} (f : Frame) (since : ℕ) →
      due ≡ at since → Marked c t b_free due last wanted → f.end ≡ t + 84 → (wanted ≡ true → Asks f) →
      Group c j Mine Asks t timers due last data_row a_free pfc_row wanted free span →
      Group c j Mine Asks t timers None (at t) data_row a_free (pfc_row ++ (f ∷ [])) wanted free span
  group_started f since is m e asks (Group.calm g) = Group.calm g
  group_started {pfc_row = pfc_row} {b_free = b_free} f since is m e asks (Group.wanted g) =
      Group.wanted
      (in_mode g
      (mode_started b_free f (subst (λ (d : Moment). DueInTime c t b_free d) is m.due_time) e (asks refl)
      (subst (λ (d : Moment). Mode c j Mine Asks t timers d last pfc_row g.stop) is g.mode)))

  -- kind 06: the oldest PFC frame takes effect, which sets the group's timers to T where it asks so; no loss in a row is left
  pub group_took : {data_row : List Frame} {f : Frame} {rest : List Frame} {wanted : Bool} {free span : ℕ} (timers' : ℕ → ℕ) → Sound c →
      f.end ≤ t → (Asks f → AtMostEach Mine timers' c.T) → Group c j Mine Asks t timers due last data_row a_free (f ∷ rest) wanted free span →
      Group c 0 Mine Asks t timers' due last data_row a_free rest wanted free span
  group_took timers' sound h set (Group.calm g) = Group.calm g
  group_took timers' sound h set (Group.wanted g) = Group.wanted (in_mode g (mode_took timers' sound h set g.mode))

  -- the oldest PFC frame is lost instead, one more in a row and no more than may be
  pub group_lost : {data_row : List Frame} {f : Frame} {rest : List Frame} {wanted : Bool} {free span : ℕ} → j < c.losses →
      Group c j Mine Asks t timers due last data_row a_free (f ∷ rest) wanted free span →
      Group c (j + 1) Mine Asks t timers due last data_row a_free rest wanted free span
  group_lost allowed (Group.calm g) = Group.calm g
  group_lost allowed (Group.wanted g) = Group.wanted (in_mode g (mode_lost allowed g.mode))

  -- kind 07: octets of the group are taken, and the mark is as it then is
  pub own_taken : {data_row pfc_row : List Frame} {wanted : Bool} {free span b_free : ℕ} (free' span' : ℕ) (wanted' changed : Bool) →
      free ≤ free' → (wanted' ≡ true → span' ≡ span) → (wanted' ≡ false → H c + c.M ≤ free') → (wanted ≡ false → wanted' ≡ false) →
      Marked c t b_free due last wanted →
      Group c j Mine Asks t timers due last data_row a_free pfc_row wanted free span →
      Group c j Mine Asks t timers (due_on changed t due) last data_row a_free pfc_row wanted' free' span'
  own_taken free' span' false changed more span_stays enough off m g = Group.calm (enough refl)
  own_taken free' span' true changed more span_stays enough off m (Group.calm g) = let z : ◌≡◌ {A = ℕ} 0 1 = cc (off refl) in absurd (omega arith)
  own_taken free' span' true changed more span_stays enough off m (Group.wanted g) =
      let same = span_stays refl in
      Group.wanted {free = free'} {span = span'}
      (wanted_on changed m
      (record {
        stop = g.stop;
        base = g.base;
        follows = g.follows;
        arriving = omega (arith, g.arriving);
        ends = g.ends;
        fitting = omega (arith, g.fitting);
        mode = g.mode;
      }))

-- since when PFC is due once a mark has changed
since : ℕ → Moment → ℕ
since t None = t
since t (Some d) = d.0

-- no later than now, and A can be stopped in time
since_known : (c : Terms) (t b_free : ℕ) (due : Moment) → DueInTime c t b_free due →
    (since t due ≤ t) × (t ≤ since t due + O c) × Waits c (due_on true t due) (since t due + O c + lost c)
unfolding since due_on
since_known c t b_free None h = (omega arith, omega arith, omega arith)
since_known c t b_free (Some d) h = (omega arith, omega arith, omega arith)

-- the span count after octets of the group arrived: it grows by them while pause is wanted, as long as it does not saturate, and else is 0
abbrev pub Spans : ℕ → Bool → ℕ → ℕ → Type 0
Spans octets wanted span span' = (wanted ≡ true → span + octets < 2 ^ 64 → span' ≡ span + octets) × (wanted ≡ false → span' ≡ 0)

-- kind 03: the oldest data frame arrives
module _ {c : Terms} {j : ℕ} {Mine : ℕ → Type 0} {Asks : Frame → Type 0} {t : ℕ} {timers : ℕ → ℕ} {due last : Moment} {f : Frame} {rest : List Frame}
    {a_free : ℕ} {pfc_row : List Frame} where
  -- the wanted group behind it: what arrives from its end on, beside a new span count, is within the headroom
  behind : {free span : ℕ} (free' span' : ℕ) (g : Wanted c j Mine Asks t timers due last (f ∷ rest) a_free pfc_row free span) →
      span' + ((g.stop + W c) - f.end) ≤ H c → H c ≤ free' + span' → Wanted c j Mine Asks t timers due last rest a_free pfc_row free' span'
  behind free' span' g most fits =
      record { stop = g.stop; base = f.end; follows = g.follows.1; arriving = most; ends = g.ends.1; fitting = fits; mode = g.mode }

  -- of another group
  pub other_arrives : {wanted : Bool} {free span : ℕ} → Group c j Mine Asks t timers due last (f ∷ rest) a_free pfc_row wanted free span →
      Group c j Mine Asks t timers due last rest a_free pfc_row wanted free span
  other_arrives (Group.calm g) = Group.calm g
  other_arrives {free = free} {span = span} (Group.wanted g) =
      let from = g.follows.0 in Group.wanted (behind free span g (omega (arith, g.arriving)) g.fitting)

  -- of a wanted group: it is within what can still arrive
  span_fits : {free span : ℕ} → Mine (priority_of f) → Wanted c j Mine Asks t timers due last (f ∷ rest) a_free pfc_row free span →
      span + length_of f + 20 ≤ H c
  span_fits mine g = let by = g.ends.0 mine in let from = g.follows.0 in omega (arith, g.arriving)

  -- so it fits
  pub group_fits : {wanted : Bool} {free span : ℕ} → Mine (priority_of f) → length_of f ≤ c.M →
      Group c j Mine Asks t timers due last (f ∷ rest) a_free pfc_row wanted free span → length_of f ≤ free
  group_fits mine l (Group.calm g) = omega arith
  group_fits mine l (Group.wanted g) = let h = span_fits mine g in omega (arith, g.fitting)

  -- and the span count stays within the headroom
  pub span_within : {wanted : Bool} {free span : ℕ} (span' : ℕ) → Sound c → Mine (priority_of f) → Spans (length_of f) wanted span span' →
      Group c j Mine Asks t timers due last (f ∷ rest) a_free pfc_row wanted free span → span' ≤ H c
  span_within span' sound mine spans (Group.calm g) = omega (arith, spans.1 refl)
  span_within span' sound mine spans (Group.wanted g) =
      let within = span_fits mine g in omega (arith, spans.0 refl (omega (arith, sound.small_room)))

  -- it arrives in the span: what can still arrive falls by as much as the span rises
  in_span : {free span b_free : ℕ} (free' span' : ℕ) (changed : Bool) → Sound c → Mine (priority_of f) → free ≤ free' + length_of f →
      Spans (length_of f) true span span' → Marked c t b_free due last true → Wanted c j Mine Asks t timers due last (f ∷ rest) a_free pfc_row free span →
      Wanted c j Mine Asks t timers (due_on changed t due) last rest a_free pfc_row free' span'
  in_span free' span' changed sound mine e spans m g =
      let by = g.ends.0 mine in let from = g.follows.0 in let within = span_fits mine g in
      let same = spans.0 refl (omega (arith, sound.small_room)) in
      wanted_on changed m (behind free' span' g (omega (arith, g.arriving)) (omega (arith, g.fitting)))

  -- it crosses the mark
  crossing : {wanted : Bool} {b_free : ℕ} (free' span' : ℕ) → H c ≤ free' → span' ≡ 0 → ToB c t a_free (f ∷ rest) → Marked c t b_free due last wanted →
      Wanted c j Mine Asks t timers (due_on true t due) last rest a_free pfc_row free' span'
  unfolding oldest_end
  crossing {b_free = b_free} free' span' left starts to m =
      let known = since_known c t b_free due m.due_time in
      let in_time = to.underway.in_time in let wire = to.wire in
      record {
        stop = since t due + O c + lost c;
        base = f.end;
        follows = to.underway.follows.1;
        arriving = omega arith;
        ends = Rows.ends_by_free length_of _ (since t due + O c + lost c + W c) f.end rest a_free to.underway.follows.1 (omega arith);
        fitting = omega arith;
        mode = Mode.waiting known.2;
      }

  -- of the group, and the mark is as it then is: one that becomes wanted makes PFC due
  pub own_arrives : {wanted : Bool} {free span b_free : ℕ} (free' span' : ℕ) (wanted' changed : Bool) →
      (wanted ≡ false → wanted' ≡ true → changed ≡ true) → Sound c → Mine (priority_of f) → free ≤ free' + length_of f → Spans (length_of f) wanted span span' →
      (wanted' ≡ false → H c + c.M ≤ free') → ToB c t a_free (f ∷ rest) → Marked c t b_free due last wanted →
      Group c j Mine Asks t timers due last (f ∷ rest) a_free pfc_row wanted free span →
      Group c j Mine Asks t timers (due_on changed t due) last rest a_free pfc_row wanted' free' span'
  own_arrives free' span' false changed now sound mine e spans enough to m g = Group.calm (enough refl)
  own_arrives free' span' true changed now sound mine e spans enough to m (Group.calm g) =
      Group.wanted
      (subst (λ (b : Bool). Wanted c j Mine Asks t timers (due_on b t due) last rest a_free pfc_row free' span') (sym (now refl refl))
      (crossing free' span' (omega (arith, to.most.0)) (spans.1 refl) to m))
  own_arrives free' span' true changed now sound mine e spans enough to m (Group.wanted g) =
      Group.wanted (in_span free' span' changed sound mine e spans m g)
