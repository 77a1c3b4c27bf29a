-- What a PFC frame of B's asks, and what it does at A: a frame built while a priority is wanted sets its timer to T.
use Prim.Native.Nat.{ℕ, ◌<◌}
use mathlib.Core.Bool.{true}
use mathlib.Core.Path.{◌≡◌, refl, ap, ◌∙◌}
use mathlib.Core.List.{List, []}
use native.Mathlib.Omega.{arith}
use lib.ListN.{get_or, length}
use Rattle.frame_build.specs.Build.{built_frame}
use Rattle.std.specs.Prelude.{Option, Some, None, Result, Ok, Err}
use Rattle.refusals.specs.declared.Refusal.{Refusal}
use Rattle.frame.specs.declared.Request.{Request}
use Rattle.frame.specs.Read.{verdict, request_of}
use Rattle.frame.proofs.Reading.{times_kept}
use Rattle.frame_build.proofs.RoundTrip.{reads_back}
use Rattle.head.specs.declared.Head.{Head}
use Rattle.head.specs.Timers.{timer, is_named}
use Rattle.head.proofs.Timers.{timer_replaced}
use Rattle.settings.proofs.Enabled.{enabled_set}
use Rattle.marks.specs.declared.Marks.{Marks}
use Rattle.recorder.specs.declared.Watch.{Watch}
use Rattle.marks.specs.Marks.{wanted_at, times_for}
use Rattle.marks.proofs.DueLaws.{time_where_wanted, times_fit}
use Rattle.bench_meaning.specs.State.{Frame}
use Rattle.bench_meaning.specs.Step.{source_b, address_a, effect_of, pfc_now}
use Rattle.no_loss.proofs.Watches.{SoundWatch, Enabled, one_of_eight, Shares, sharing}

-- a PFC frame under way, as B built it, that asks T for a priority and those that share its room
pub record AsksFor (w : Watch) (p : ℕ) (f : Frame) : Type 0 where
  pub times : List ℕ
  pub built : f.octets ≡ built_frame source_b w.settings.enabled times
  pub fit : (n : ℕ) → get_or times n 0 < 65536
  pub asks : (n : ℕ) → Shares p n → get_or times n 0 ≡ w.settings.pause

-- the PFC frame that starts now asks T for each enabled priority that is wanted
pub asks_now : (w : Watch) (marks : Marks) (p end : ℕ) → SoundWatch w → Enabled w p → wanted_at marks p ≡ true →
    AsksFor w p (record { end = end; octets = pfc_now w marks })
asks_now w marks p end sound on wanted =
    let enabled = w.settings.enabled in
    record {
      times = times_for enabled w.settings.pause marks;
      built = refl;
      fit = times_fit enabled w.settings.pause marks sound.pause;
      asks = λ n mine.
          let there = sharing (Enabled w) mine on in
          time_where_wanted enabled w.settings.pause marks n (one_of_eight w n there) (enabled_set enabled n there)
          (sharing (λ k. wanted_at marks k ≡ true) mine wanted);
    }

-- what a PFC frame that asks T does at A: each of the timers is T
pub effect_sets : (w : Watch) (head : Head) (f : Frame) (p : ℕ) → SoundWatch w → head.enabled ≡ w.settings.enabled → Enabled w p →
    AsksFor w p f → (n : ℕ) → Shares p n → timer (effect_of (verdict f.octets w.settings.largest address_a) head) n ≡ w.settings.pause
unfolding effect_of
effect_sets w head f p sound same on a n mine =
    let enabled = w.settings.enabled in let largest = w.settings.largest in
    let there = sharing (Enabled w) mine on in
    let below = one_of_eight w n there in
    let named : is_named head.enabled enabled n ≡ true = simp (same, enabled_set enabled n there) in
    let most = sound.terms.most in let least = sound.terms.least in
    let read = reads_back source_b enabled a.times [] address_a largest least most (omega arith) a.fit in
    ap (λ (o : List ℕ). timer (effect_of (verdict o largest address_a) head) n) a.built ∙
    ap (λ (found : Result (Option Request) Refusal). timer (effect_of found head) n) read ∙
    timer_replaced head enabled (request_of enabled a.times).times n below named ∙
    times_kept enabled a.times n below ∙
    a.asks n mine

-- whatever is read at A, its enabled priorities and the count of its timers stay
pub effect_enabled : (found : Result (Option Request) Refusal) (head : Head) → (effect_of found head).enabled ≡ head.enabled
unfolding effect_of
effect_enabled (Ok None) head = refl
effect_enabled (Ok (Some request)) head = refl
effect_enabled (Err refusal) head = refl

-- A has eight timers after it
pub effect_eight : (found : Result (Option Request) Refusal) (head : Head) → length head.timers ≡ 8 → length (effect_of found head).timers ≡ 8
unfolding effect_of
effect_eight (Ok None) head e = e
effect_eight (Ok (Some request)) head e = refl
effect_eight (Err refusal) head e = e
