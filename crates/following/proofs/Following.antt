-- A run's loop: the memory after an accepted record holds the next state, and what is left, run from there, gives the answer. Assumes
-- nothing.
use Prim.Native.Nat.{ℕ, zero, suc, ◌+◌, ◌-◌, ◌<◌, ◌≤◌}
use mathlib.Core.Path.{◌≡◌, refl, sym, ap, ◌∙◌}
use mathlib.Core.Bool.{Bool, true, false}
use mathlib.Core.List.{List, [], ◌∷◌}
use native.Mathlib.Omega.{arith}
use native.Mathlib.Nat.{add-zero, add_assoc}
use lib.ListN.{length, get_or, take, drop, length-drop}
use lib.Seq.{drop-drop, get_or-drop}
use borrow.Author.Tests.{eq-eqb, ne_eqb}
use Rattle.ground.specs.Pick.{pick}
use Rattle.ground.specs.Eight.{eight}
use Rattle.ground.proofs.Parts.{take_rest}
use Rattle.ground.proofs.Pick.{pick_yes, pick_no}
use Rattle.octets.specs.Numbers.{octet_at}
use Rattle.rooms.specs.Room.{empty_room, numbers_of}
use Rattle.recorder.specs.Watching.{recorder_of}
use Rattle.recorder.specs.declared.Watch.{Watch}
use Rattle.records.specs.Records.{body_length, record_length, decoded}
use Rattle.rows.specs.Rows.{held_in, seen}
use Rattle.bench_meaning.specs.State.{State, empty, idle}
use Rattle.bench_meaning.specs.Step.{refusal_of, next_of}
use Rattle.bench_meaning.specs.Run.{report_of, run_from, follow_of}
use Rattle.bench_meaning.specs.declared.Report.{Report}
use Rattle.bench_memory.specs.Memory.{Memory, memory_of, view_of, fitting, Lent}
use Rattle.bench_memory.specs.Answers.{memory_for, step_number, step_memory}
use Rattle.bench_state.specs.declared.Bench.{Bench}
use Rattle.bench_memory.proofs.Stepping.{number_is, step_view}
use Rattle.following.specs.Following.{empty_bench}

-- the run from a state on: one record more, the last one, and none left
run_on : (fuel : ℕ) (w : Watch) (s : State) (steps : ℕ) (octets : List ℕ) → 1 ≤ length octets → refusal_of w s (decoded octets) ≡ 0 →
    run_from (suc fuel) w s steps octets ≡ run_from fuel w (next_of w s (decoded octets)) (steps + 1) (drop (record_length (octet_at octets 0)) octets)
unfolding run_from
run_on fuel w s steps [] some accepted = absurd (omega arith)
run_on fuel w s steps (kind ∷ rest) some accepted = pick_yes _ _ (eq-eqb (refusal_of w s (decoded (kind ∷ rest))) 0 accepted)

run_stops : (fuel : ℕ) (w : Watch) (s : State) (steps : ℕ) (octets : List ℕ) → 1 ≤ length octets → (refusal_of w s (decoded octets) ≡ 0 → ⊥) →
    run_from (suc fuel) w s steps octets ≡ report_of w.settings.enabled s steps (refusal_of w s (decoded octets)) (steps + 1)
unfolding run_from
run_stops fuel w s steps [] some refused = absurd (omega arith)
run_stops fuel w s steps (kind ∷ rest) some refused = pick_no _ _ (ne_eqb (refusal_of w s (decoded (kind ∷ rest))) 0 refused)

run_ends : (fuel : ℕ) (w : Watch) (s : State) (steps : ℕ) (octets : List ℕ) → length octets ≡ 0 →
    run_from fuel w s steps octets ≡ report_of w.settings.enabled s steps 0 0
unfolding run_from
run_ends zero w s steps octets none = refl
run_ends (suc fuel) w s steps [] none = refl
run_ends (suc fuel) w s steps (kind ∷ rest) none = absurd (omega arith)

-- a refused record leaves the memory as it was
stayed : (w : Watch) (m : Memory) (octets : List ℕ) → (refusal_of w (view_of m) (decoded octets) ≡ 0 → ⊥) → step_memory w m octets ≡ m
unfolding step_memory memory_for pick
stayed w m octets refused = go (fitting m)
  where
    go : (b : Bool) → pick b (memory_for w m (decoded octets)) m ≡ m
    go true = pick_no _ _ (ne_eqb (refusal_of w (view_of m) (decoded octets)) 0 refused)
    go false = refl

-- the loop of a run, at a place of the octets
module _ (w : Watch) (octets : List ℕ) where
  -- the report of a memory whose rooms hold these numbers: the frames under way are not in it
  abbrev pub Told : Memory → List (List ℕ) → ℕ → ℕ → ℕ → Report
  Told m rooms steps number at =
      report_of w.settings.enabled
      (record { clock = m.clock; head = m.head; recorder = recorder_of rooms m.marks; to_b = idle; to_a = idle })
      steps number at

  told_is : (m : Memory) (steps number at : ℕ) → Told m m.rooms steps number at ≡ report_of w.settings.enabled (view_of m) steps number at
  unfolding view_of
  told_is m steps number at = refl

  -- what is left, run from where a memory stands, gives the answer
  abbrev pub Ran : ℕ → ℕ → Memory → Type 0
  Ran at steps m = follow_of w octets ≡ run_from (length octets - steps) w (view_of m) steps (drop at octets)

  pub starts : (bench : Bench) (rooms : List (List ℕ)) (e s p o : List ℕ) → bench ≡ empty_bench w.settings.enabled →
      rooms ≡ eight (λ n. numbers_of empty_room) → Ran 0 0 (memory_of bench rooms e s p o)
  unfolding view_of seen held_in
  starts bench rooms e s p o is empty_rooms =
      let all : length octets ≡ length octets - 0 = omega arith in
      ap (λ (n : ℕ). run_from n w (empty w) 0 octets) all ∙
      ap (λ (b : Bench). run_from (length octets - 0) w (view_of (memory_of b (eight (λ n. numbers_of empty_room)) e s p o)) 0 octets) (sym is) ∙
      ap (λ (r : List (List ℕ)). run_from (length octets - 0) w (view_of (memory_of bench r e s p o)) 0 octets) (sym empty_rooms)

  module _ (at steps : ℕ) (m : Memory) (lent : Lent m) (ran : Ran at steps m) (behind : steps ≤ at) where
    -- no octets are left
    pub ended : (said : Report) → length octets ≤ at → said ≡ Told m m.rooms steps 0 0 → said ≡ follow_of w octets
    ended said past is =
        is ∙ told_is m steps 0 0 ∙ sym (ran ∙ run_ends (length octets - steps) w (view_of m) steps (drop at octets) (omega (arith, length-drop at octets)))

    module _ (number : ℕ) (before : at < length octets) (is_number : number ≡ step_number w m (take (length octets - at) (drop at octets))) where
      number_here : number ≡ refusal_of w (view_of m) (decoded (drop at octets))
      number_here =
          is_number ∙ number_is m lent w _ ∙ ap (λ (o : List ℕ). refusal_of w (view_of m) (decoded o)) (take_rest at octets)

      fuel : length octets - steps ≡ suc (length octets - (steps + 1))
      fuel = omega arith

      some_left : 1 ≤ length (drop at octets)
      some_left = omega (arith, length-drop at octets)

      -- the record is refused: the rooms are as they were
      pub stopped : (said : Report) (then : Memory) → (number ≡ 0 → ⊥) → then ≡ step_memory w m (take (length octets - at) (drop at octets)) →
          said ≡ Told m then.rooms steps number (steps + 1) → said ≡ follow_of w octets
      stopped said then refused is_then is =
          let same : then ≡ m =
          is_then ∙ ap (step_memory w m) (take_rest at octets) ∙ stayed w m (drop at octets) (λ e. refused (number_here ∙ e)) in
          is ∙
          ap (λ (x : Memory). Told m x.rooms steps number (steps + 1)) same ∙
          told_is m steps number (steps + 1) ∙
          ap (λ (k : ℕ). report_of w.settings.enabled (view_of m) steps k (steps + 1)) number_here ∙
          sym
          (ran ∙
          ap (λ (k : ℕ). run_from k w (view_of m) steps (drop at octets)) fuel ∙
          run_stops (length octets - (steps + 1)) w (view_of m) steps (drop at octets) some_left (λ e. refused (number_here ∙ e)))

      -- it is accepted
      pub went_on : (then : Memory) (kind body : ℕ) → number ≡ 0 → then ≡ step_memory w m (take (length octets - at) (drop at octets)) →
          kind ≡ octet_at octets at → body ≡ body_length kind → Ran (at + 1 + body) (steps + 1) then
      went_on then kind body zero_number is_then is_kind is_is_body =
          let here = take_rest at octets in
          let next : view_of then ≡ next_of w (view_of m) (decoded (drop at octets)) =
          ap view_of (is_then ∙ ap (step_memory w m) here) ∙ step_view m lent w (drop at octets) (sym number_here ∙ zero_number) in
          let first : octet_at (drop at octets) 0 ≡ kind =
          get_or-drop at octets 0 0 ∙ ap (λ (k : ℕ). get_or octets k 0) (add-zero at) ∙ sym is_kind in
          let moved : drop (record_length (octet_at (drop at octets) 0)) (drop at octets) ≡ drop (at + 1 + body) octets =
          ap (λ (k : ℕ). drop (record_length k) (drop at octets)) first ∙
          ap (λ (k : ℕ). drop (1 + k) (drop at octets)) (sym is_is_body) ∙
          drop-drop (1 + body) at octets ∙
          ap (λ (k : ℕ). drop k octets) (sym (add_assoc at 1 body)) in
          ran ∙
          ap (λ (k : ℕ). run_from k w (view_of m) steps (drop at octets)) fuel ∙
          run_on (length octets - (steps + 1)) w (view_of m) steps (drop at octets) some_left (sym number_here ∙ zero_number) ∙
          ap (λ (l : List ℕ). run_from (length octets - (steps + 1)) w (next_of w (view_of m) (decoded (drop at octets))) (steps + 1) l) moved ∙
          ap (λ (s : State). run_from (length octets - (steps + 1)) w s (steps + 1) (drop (at + 1 + body) octets)) (sym next)
