-- Laws of the highest class of which a test holds, and of what iterators find: any of a list, the first from the highest down. Assumes nothing.
use mathlib.Core.Path.{◌≡◌, refl, sym, ap, subst, ◌∙◌}
use mathlib.Core.Bool.{Bool, true, false, cond, ◌||◌}
use mathlib.Core.List.{List, [], ◌∷◌, map}
use lib.ListN.{length, get_or}
use Rattle.std.specs.List.{list_any, find, FoldsTo}
use denote.Param.Members.{Mut}
use denote.Ref.{Bor}
use Rattle.std.specs.Fn.{CalledAt}
use Rattle.std.specs.Option.{MatchOption}
use Rattle.std.specs.Bool.{⊤}
use Rattle.std.proofs.lemmas.Iterator.Search.{find_from_yields_List}
use Rattle.std.proofs.lemmas.Iterator.Adapters.{option_map_id}
use Rattle.std.specs.Iterator.{AlwaysYields, YieldsThen}
use Rattle.std.specs.Iterator.Adapters.{rev_steps}
use Rattle.std.specs.declared.iter.Rev.{Rev}
use Rattle.std.specs.declared.ops.Range.{Range}
use Rattle.std.proofs.iter.runs.Sources.{nat_range_steps_back}
use Rattle.std.proofs.lemmas.Iterator.{YieldsList}
use Rattle.ground.specs.Eight.{eight, some}
use Rattle.ground.proofs.Eight.{eight_of_list}
use Prim.Native.Nat.{ℕ, zero, suc, ◌<◌}
use native.Mathlib.Omega.{arith}
use borrow.Author.Count.{below_more}
use Rattle.std.specs.Prelude.{Option, Some, None, Ok}
use Rattle.ground.specs.Pick.{pick}
use Rattle.refusals.specs.Refusals.{refused_or}
use Rattle.refusals.proofs.Refused.{ok_is}
use Rattle.choice.specs.Choice.{highest}

-- the highest below a bound is the class under it, if the test holds there
pub highest_here : (test : ℕ → Bool) (bound c : ℕ) → bound ≡ suc c → test c ≡ true → highest test bound ≡ Some c
unfolding highest pick
highest_here test bound c e h = rw e (simp h)

-- else what is below that
pub highest_below : (test : ℕ → Bool) (bound c : ℕ) → bound ≡ suc c → test c ≡ false → highest test bound ≡ highest test c
unfolding highest pick
highest_below test bound c e h = rw e (simp h)

-- and below zero none
pub highest_none : (test : ℕ → Bool) (bound : ℕ) → bound ≡ 0 → highest test bound ≡ None
unfolding highest
highest_none test bound e = rw e

-- the highest below a bound of which a test holds, or none
pub data Highest (test : ℕ → Bool) (bound : ℕ) : Option ℕ → Type 0 where
  found : (c : ℕ) → c < bound → test c ≡ true → ((d : ℕ) → c < d → d < bound → test d ≡ false) → Highest test bound (Some c)
  none : ((d : ℕ) → d < bound → test d ≡ false) → Highest test bound None

raised : (test : ℕ → Bool) (n : ℕ) {answer : Option ℕ} → test n ≡ false → Highest test n answer → Highest test (suc n) answer
raised test n h (found c below holds above) =
    found c (omega arith) holds (λ d p q. below_more (λ k. c < k → test k ≡ false) n (λ k r s. above k s r) (λ s. h) d (omega arith) p)
raised test n h (none fails) = none (λ d q. below_more (λ k. test k ≡ false) n fails h d (omega arith))

pub highest_right : (test : ℕ → Bool) (bound : ℕ) → Highest test bound (highest test bound)
unfolding highest
highest_right test zero = none (λ d q. absurd (omega arith))
highest_right test (suc n) = by_value (test n) refl (highest_right test n)
  where
    by_value : (value : Bool) → test n ≡ value → Highest test n (highest test n) → Highest test (suc n) (highest test (suc n))
    by_value true h rest = rw (highest_here test (suc n) n refl h) (found n (omega arith) h (λ d p q. absurd (omega arith)))
    by_value false h rest = rw (highest_below test (suc n) n refl h) (raised test n h rest)

-- by a number: an answer that is not refused is the highest of the eight
pub chosen_right : (number : ℕ) (test : ℕ → Bool) {answer : Option ℕ} → refused_or number (highest test 8) ≡ Ok answer → Highest test 8 answer
chosen_right number test is = subst (Highest test 8) (sym (ok_is number (highest test 8) (sym is)).1) (highest_right test 8)

-- a test holds of some of a list where it holds of any
pub any_is_some : (test : ℕ → Bool) (list : List ℕ) → list_any test list ≡ some (map test list)
unfolding some pick
any_is_some test [] = refl
any_is_some test (entry ∷ list) = go (test entry) (any_is_some test list)
  where
    go : (here : Bool) {later rest : Bool} → later ≡ rest → (here || later) ≡ pick here true rest
    go true e = refl
    go false e = e

-- and of a list of eight
pub any_of_eight : (test : ℕ → Bool) (list : List ℕ) → length list ≡ 8 → list_any test list ≡ some (eight (λ n. test (get_or list n 0)))
any_of_eight test list long =
    ap (list_any test) (eight_of_list list 0 long) ∙ any_is_some test (eight (λ n. get_or list n 0))

-- the numbers below a bound, the highest first, as a range that is turned round gives them
downward : ℕ → List ℕ
downward zero = []
downward (suc n) = n ∷ downward n

going_down : (n : ℕ) (s : Rev (Range ℕ)) → s.iter.start ≡ 0 → s.iter.end ≡ n → AlwaysYields (rev_steps nat_range_steps_back) (λ x. x) s (downward n)
unfolding downward
going_down zero s start end = λ x j p. omega (arith, p.1.0)
going_down (suc n) s start end = ((λ j p. omega (arith, p.1.0)), λ x j p. (omega (arith, p.1.1, p.1.2), going_down n j (p.0 ∙ start) (omega (arith, p.1.2))))

yields_down : (n : ℕ) (s : Rev (Range ℕ)) → s.iter.start ≡ 0 → s.iter.end ≡ n → YieldsList (rev_steps nat_range_steps_back) (λ x. x) s (downward n)
yields_down n s start end = record { runs = going_down n s start end }

-- the first of them of which a test holds is the highest
first_is_highest : (test : ℕ → Bool) (bound : ℕ) → find test (downward bound) ≡ highest test bound
unfolding downward highest pick
first_is_highest test zero = refl
first_is_highest test (suc c) = go (test c) (first_is_highest test c)
  where
    go : (here : Bool) {later rest : Option ℕ} → later ≡ rest → cond here (Some c) later ≡ pick here (Some c) rest
    go true e = refl
    go false e = e

-- what `find` finds in the classes below a bound, from the highest down, by a closure that tests
pub find_is_highest : {F : Type 0} (g : Mut F (Bor ℕ × Unit {0}) Bool) (test : ℕ → Bool) (bound : ℕ) (s u : Rev (Range ℕ)) (f : F) (r : Option ℕ) →
    s.iter ≡ record { start = 0; end = bound } →
    (xs : List ℕ) × (j : F) × YieldsThen (rev_steps nat_range_steps_back) s xs r u × FoldsTo (λ p x q. CalledAt g p x false q) f xs j ×
    MatchOption r ⊤ (λ x. (h : F) × CalledAt g j x true h) →
    ((x : ℕ) (b : Bool) (q : F) → CalledAt g f x b q → (q ≡ f) × (b ≡ test x)) → r ≡ highest test bound
find_is_highest g test bound s u f r whole ran tests_it =
    let down = yields_down bound s (ap (λ (range : Range ℕ). range.start) whole) (ap (λ (range : Range ℕ). range.end) whole) in
    sym (option_map_id r)
    ∙ find_from_yields_List test u f r ran down tests_it
    ∙ first_is_highest test bound
