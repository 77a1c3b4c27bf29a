-- THE TIMER THEOREM. Timer n after any sequence of accepted requests and passing quanta is decided by the enable setting's bit n, by
-- where timer n stood, and by what priority n sees of the sequence: the times that it is set to and the quanta between, in order.
-- For whoever relies on one priority's pause while others are paused and freed. Assumes that n is one of the eight; nothing else.
use Rattle.std.proofs.Common.{◌≡◌, ℕ, ◌-◌, ◌<◌, Bool, true, false, List, [], ◌∷◌, length, get_or, sym, refl, ap, ◌∙◌, ap₂, arith}
use Rattle.ground.specs.Pick.{pick}
use Rattle.ground.specs.Eight.{is_set}
use Rattle.head.specs.declared.Head.{Head}
use Rattle.head.specs.Sequence.{Event, Seen, after, seen, seen_of, seen_passing, seen_setting, settled, timer_by, told}
use Rattle.head.specs.Sequence.Event.{request, passing}
use Rattle.head.specs.Timers.{after_quanta, after_request, is_named, timer}
use Rattle.head.proofs.Timers.{timer_passed, timer_taken}

by_setting : (named : Bool) (time timer : ℕ) (later : Seen) →
    timer_by (pick named time timer) later ≡ timer_by timer (pick named (seen_setting time later) later)
unfolding pick
by_setting true time timer later = refl
by_setting false time timer later = refl

by_passing : (quanta timer : ℕ) (later : Seen) → timer_by (timer - quanta) later ≡ timer_by timer (seen_passing quanta later)
by_passing quanta timer later = ap (λ (t : ℕ). settled t later.settings) (omega arith)

-- timer n after a sequence, by what priority n sees of it
pub timer_after : (n : ℕ) → n < 8 → (events : List Event) (head : Head) → timer (after head events) n ≡ timer_by (timer head n) (seen head.enabled n events)
timer_after n below [] head = omega arith
timer_after n below (request e times ∷ events) head =
    timer_after n below events (after_request head e times)
    ∙ ap (λ (t : ℕ). timer_by t (seen head.enabled n events)) (timer_taken head e times n below)
    ∙ by_setting (is_named head.enabled e n) (get_or times n 0) (timer head n) (seen head.enabled n events)
timer_after n below (passing quanta ∷ events) head =
    timer_after n below events (after_quanta head quanta)
    ∙ ap (λ (t : ℕ). timer_by t (seen head.enabled n events)) (timer_passed head quanta n below)
    ∙ by_passing quanta (timer head n) (seen head.enabled n events)

module _ (n : ℕ) (below : n < 8) (one two : Head) (same_timer : timer one n ≡ timer two n) where
  -- two sequences of which priority n sees the same leave the same timer n, whatever else they hold
  pub same_seen : (events others : List Event) → seen one.enabled n events ≡ seen two.enabled n others →
      timer (after one events) n ≡ timer (after two others) n
  same_seen events others same = timer_after n below events one ∙ ap₂ timer_by same_timer same ∙ sym (timer_after n below others two)

  -- and so do two that tell it the same, under enable settings with the same bit n
  pub same_told : (events others : List Event) → is_set one.enabled n ≡ is_set two.enabled n → told n events ≡ told n others →
      timer (after one events) n ≡ timer (after two others) n
  same_told events others same_bit same = same_seen events others (ap₂ seen_of same_bit same)

-- no event changes the enable setting
pub enabled_after : (events : List Event) (head : Head) → (after head events).enabled ≡ head.enabled
enabled_after [] head = refl
enabled_after (request e times ∷ events) head = enabled_after events (after_request head e times)
enabled_after (passing quanta ∷ events) head = enabled_after events (after_quanta head quanta)

-- nor the number of timers
pub eight_after : (events : List Event) (head : Head) → length head.timers ≡ 8 → length (after head events).timers ≡ 8
eight_after [] head long = long
eight_after (request e times ∷ events) head long = eight_after events (after_request head e times) refl
eight_after (passing quanta ∷ events) head long = eight_after events (after_quanta head quanta) refl
