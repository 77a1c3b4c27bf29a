-- What the marks say: when two differ, when a mark given is a change, and when some priority is wanted. Each law assumes what it states.
use Rattle.std.proofs.Common.{◌≡◌, ℕ, zero, suc, ◌<◌, ◌≤◌, Bool, true, false, List, [], ◌∷◌, length, get_or, set, sym, refl, ap, ◌∙◌, arith}
use mathlib.Core.Bool.{false≢true}
use lib.ListN.{get_or-eq_default}
use lib.Seq.{set_out, set-get_or}
use Rattle.ground.specs.Eight.{eight, some}
use Rattle.ground.proofs.Eight.{eight_of_list, some_here, some_none, some_found}
use Rattle.moments.specs.Moments.{Moment, due_on}
use Rattle.moments.proofs.DueLaws.{due_on_none}
use Rattle.marks.specs.Marks.{wanted_at, differ, changes, with_mark, some_wanted}
use Rattle.marks.specs.declared.Marks.{Marks}

-- two marks do not differ where they are the same, and only there
pub differ_same : (mark : Bool) → differ mark mark ≡ false
unfolding differ
differ_same true = refl
differ_same false = refl

pub differ_other : (was is : Bool) → (was ≡ is → ⊥) → differ was is ≡ true
unfolding differ
differ_other true true apart = absurd (apart refl)
differ_other true false apart = refl
differ_other false true apart = refl
differ_other false false apart = absurd (apart refl)

pub differ_none : (was is : Bool) → differ was is ≡ false → was ≡ is
unfolding differ
differ_none true true none = refl
differ_none true false none = absurd (false≢true (sym none))
differ_none false true none = absurd (false≢true (sym none))
differ_none false false none = refl

-- from a mark that is not set, another differs where it is
pub differ_from_false : (b : Bool) → differ false b ≡ b
unfolding differ
differ_from_false true = refl
differ_from_false false = refl

-- a mark that a list has is read whatever stands for one that it has not
as_read : (marks : List Bool) (n : ℕ) (one other : Bool) → n < length marks → get_or marks n one ≡ get_or marks n other
as_read [] n one other below = absurd (omega arith)
as_read (mark ∷ marks) zero one other below = refl
as_read (mark ∷ marks) (suc n) one other below = as_read marks n one other (omega arith)

module _ (marks : Marks) (priority : ℕ) (wanted : Bool) where
  -- of a priority that has a mark, it changes where the two differ
  pub changes_below : priority < length marks.wanted → changes marks priority wanted ≡ differ (wanted_at marks priority) wanted
  changes_below below = ap (λ (was : Bool). differ was wanted) (as_read marks.wanted priority wanted false below)

  -- a number that has none changes none
  pub changes_above : length marks.wanted ≤ priority → changes marks priority wanted ≡ false
  changes_above above =
      ap (λ (was : Bool). differ was wanted) (get_or-eq_default marks.wanted wanted {n = priority} above) ∙ differ_same wanted

  -- a mark is put back, and PFC is due by what was read
  pub mark_put : (clock : ℕ) {changed : Bool} {due : Moment} → priority < length marks.wanted →
      changed ≡ differ (wanted_at marks priority) wanted → due ≡ due_on changed clock marks.due →
      record { wanted = set marks.wanted priority wanted; due = due; last = marks.last; sent = marks.sent }
      ≡ with_mark marks priority wanted clock
  unfolding with_mark
  mark_put clock below is_changed is_due =
      let told = is_due ∙ ap (λ (b : Bool). due_on b clock marks.due) (is_changed ∙ sym (changes_below below)) in
      λ i. record { wanted = set marks.wanted priority wanted; due = told i; last = marks.last; sent = marks.sent }

  -- where there is no mark, nothing changes
  pub no_mark_put : (clock : ℕ) → length marks.wanted ≤ priority → marks ≡ with_mark marks priority wanted clock
  unfolding with_mark
  no_mark_put clock above =
      let told = ap (λ (b : Bool). due_on b clock marks.due) (changes_above above) ∙ due_on_none clock marks.due in
      let list = set_out marks.wanted priority wanted above in
      sym (λ i. record { wanted = list i; due = told i; last = marks.last; sent = marks.sent })

  -- a mark that stays changes nothing of what is wanted
  pub same_wanted : (clock : ℕ) → changes marks priority wanted ≡ false → some_wanted (with_mark marks priority wanted clock) ≡ some_wanted marks
  unfolding with_mark
  same_wanted clock none =
      let stays : get_or marks.wanted priority wanted ≡ wanted = differ_none _ _ none in
      ap some (ap (set marks.wanted priority) (sym stays) ∙ set-get_or marks.wanted priority wanted)

module _ (marks : Marks) (all : length marks.wanted ≡ 8) where
  listed : some_wanted marks ≡ some (eight (wanted_at marks))
  listed = ap some (eight_of_list marks.wanted false all)

  -- one of the eight that is wanted makes some wanted; where none is, none is
  pub some_wanted_lem : (n : ℕ) → n < 8 → wanted_at marks n ≡ true → some_wanted marks ≡ true
  some_wanted_lem n below wanted = listed ∙ some_here (wanted_at marks) n below wanted

  pub none_wanted : ((n : ℕ) → n < 8 → wanted_at marks n ≡ false) → some_wanted marks ≡ false
  none_wanted none = listed ∙ some_none (wanted_at marks) none

  -- some wanted is one that can be named
  pub wanted_found : some_wanted marks ≡ true → (n : ℕ) × (n < 8) × (wanted_at marks n ≡ true)
  wanted_found holds = some_found (wanted_at marks) (sym listed ∙ holds)
