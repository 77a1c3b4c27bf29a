-- The laws of the timers, for callers: each timer, the marks and the counts after a request and after quanta. Assumes what each states.
use Rattle.std.proofs.Common.{◌≡◌, ℕ, ◌+◌, ◌-◌, ◌<◌, ◌≤◌, true, false, ◌↔◌, List, length, get_or, sym, refl, ◌∙◌, arith, ltb-true, le-ltb, lt-ltb}
use lib.ListN.{get_or-eq_default}
use Rattle.ground.specs.Pick.{pick}
use Rattle.ground.specs.Eight.{eight}
use Rattle.ground.proofs.Eight.{get_d_eight}
use Rattle.head.specs.declared.Head.{Head}
use Rattle.head.specs.Timers.{after_quanta, after_request, is_named, is_paused, start, timer, timer_after_request}
use Rattle.head.proofs.Heads.{heads_equal}
use Rattle.head.proofs.Lowered.{lowered_by_none, lowered_twice}

-- "all zero at the start"
pub timer_start : (enabled n : ℕ) → n < 8 → timer (start enabled) n ≡ 0
timer_start enabled = get_d_eight (λ n. 0) 0

module _ (head : Head) where
  -- timer n after a request
  pub timer_taken : (e : ℕ) (times : List ℕ) (n : ℕ) → n < 8 →
      timer (after_request head e times) n ≡ pick (is_named head.enabled e n) (get_or times n 0) (timer head n)
  timer_taken e times = get_d_eight (timer_after_request head e times) 0

  -- "It replaces": whatever it was, it is time[n]
  pub timer_replaced : (e : ℕ) (times : List ℕ) (n : ℕ) → n < 8 → is_named head.enabled e n ≡ true → timer (after_request head e times) n ≡ get_or times n 0
  unfolding pick
  timer_replaced e times n below named = timer_taken e times n below ∙ simp named

  -- "others keep their value"
  pub timer_kept : (e : ℕ) (times : List ℕ) (n : ℕ) → n < 8 → is_named head.enabled e n ≡ false → timer (after_request head e times) n ≡ timer head n
  unfolding pick
  timer_kept e times n below not_named = timer_taken e times n below ∙ simp not_named

  -- timer n after a count of quanta
  pub timer_passed : (quanta n : ℕ) → n < 8 → timer (after_quanta head quanta) n ≡ timer head n - quanta
  timer_passed quanta = get_d_eight (λ n. timer head n - quanta) 0

  -- no quanta change nothing
  pub passed_none : length head.timers ≡ 8 → after_quanta head 0 ≡ head
  passed_none long = heads_equal head.enabled (sym (lowered_by_none head.timers long)) refl

  -- two counts in a row are their sum
  pub passed_twice : (one two : ℕ) → after_quanta (after_quanta head one) two ≡ after_quanta head (one + two)
  passed_twice one two = heads_equal head.enabled (lowered_twice head.timers one two) refl

  -- "paused exactly while its timer is above zero"
  pub paused_while : (n : ℕ) → (is_paused head n ≡ true) ↔ (0 < timer head n)
  paused_while n = (ltb-true 0 (timer head n), lt-ltb 0 (timer head n))

  -- the marks, read at a priority
  pub mark_paused : (n : ℕ) → n < 8 → get_or (eight (is_paused head)) n false ≡ is_paused head n
  mark_paused = get_d_eight (is_paused head) false

  -- a priority above 7 is not paused
  pub not_paused_past : (n : ℕ) → length head.timers ≤ n → is_paused head n ≡ false
  not_paused_past n past = le-ltb 0 (timer head n) (omega (arith, get_or-eq_default head.timers 0 past))
