-- The number that an order of refusals gives is given exactly. It assumes that the order's numbers are no two the same and none is 0.
use Prim.Native.Nat.{ℕ, zero, suc, ◌<◌}
use mathlib.Core.Path.{◌≡◌, refl, sym, subst, ◌∙◌}
use mathlib.Core.Bool.{Bool, true, false, false≢true}
use mathlib.Core.List.{List, [], ◌∷◌}
use native.Mathlib.Omega.{arith}
use lib.Dec.{eqb}
use lib.ListN.{length}
use borrow.Author.Tests.{eqb-false, eq-eqb}
use Rattle.ground.specs.Pick.{pick}
use Rattle.ground.specs.First.{Condition, first_of, test_at, number_at, Due, GivenExactly, is_among, are_apart}
use Rattle.ground.proofs.Pick.{pick_yes, pick_no}

-- what an order whose numbers are apart says of its first entry and of the rest
pub record Parted (refusal : Condition) (rest : List Condition) : Type 0 where
  pub nonzero : refusal.number ≡ 0 → ⊥
  pub alone : is_among refusal.number rest ≡ false
  pub rest_apart : are_apart rest ≡ true

pub parted : (refusal : Condition) (rest : List Condition) → are_apart (refusal ∷ rest) ≡ true → Parted refusal rest
unfolding are_apart pick
parted refusal rest = go (eqb refusal.number 0) (is_among refusal.number rest) refl refl
  where
    go : (a b : Bool) → eqb refusal.number 0 ≡ a → is_among refusal.number rest ≡ b →
        pick a false (pick b false (are_apart rest)) ≡ true → Parted refusal rest
    go true b p q e = absurd (false≢true e)
    go false true p q e = absurd (false≢true e)
    go false false p q e = record { nonzero = eqb-false refusal.number 0 p; alone = q; rest_apart = e }

or_later : (b : Bool) {later : Bool} → later ≡ true → pick b true later ≡ true
unfolding pick
or_later true holds = refl
or_later false holds = holds

-- a number that an order has at some place is among its numbers
among : (number : ℕ) (order : List Condition) (n : ℕ) → n < length order → number ≡ number_at order n → is_among number order ≡ true
unfolding is_among number_at pick
among number [] n below is = absurd (omega arith)
among number (refusal ∷ rest) zero below is = pick_yes _ _ (eq-eqb number refusal.number is)
among number (refusal ∷ rest) (suc n) below is = or_later (eqb number refusal.number) (among number rest n (omega arith) is)

-- the number given is 0 or one of the order's
either_number : (order : List Condition) → (first_of order ≡ 0 → ⊥) → is_among (first_of order) order ≡ true
unfolding first_of is_among pick
either_number [] some = absurd (some refl)
either_number (refusal ∷ rest) some = go refusal.test (either_number rest) some
  where
    go : (b : Bool) → ((first_of rest ≡ 0 → ⊥) → is_among (first_of rest) rest ≡ true) → (pick b refusal.number (first_of rest) ≡ 0 → ⊥) →
        pick (eqb (pick b refusal.number (first_of rest)) refusal.number) true (is_among (pick b refusal.number (first_of rest)) rest) ≡ true
    go true later nonzero = pick_yes _ _ (eq-eqb refusal.number refusal.number refl)
    go false later nonzero = or_later (eqb (first_of rest) refusal.number) (later nonzero)

-- the four parts of the theorem
gives : (order : List Condition) (n : ℕ) → n < length order → Due order n → first_of order ≡ number_at order n
unfolding first_of test_at number_at
gives [] n below due = absurd (omega arith)
gives (refusal ∷ rest) zero below due = pick_yes _ _ due.holds
gives (refusal ∷ rest) (suc n) below due =
    pick_no _ _ (due.none_earlier zero (omega arith)) ∙
    gives rest n (omega arith) (record { holds = due.holds; none_earlier = λ k before. due.none_earlier (suc k) (omega arith) })

gives_none : (order : List Condition) → ((k : ℕ) → k < length order → test_at order k ≡ false) → first_of order ≡ 0
unfolding first_of test_at
gives_none [] none = refl
gives_none (refusal ∷ rest) none = pick_no _ _ (none zero (omega arith)) ∙ gives_none rest (λ k below. none (suc k) (omega arith))

none_given : (order : List Condition) → are_apart order ≡ true → first_of order ≡ 0 → (k : ℕ) → k < length order → test_at order k ≡ false
unfolding first_of test_at pick
none_given [] apart is k below = absurd (omega arith)
none_given (refusal ∷ rest) apart is k below = go refusal.test refl (none_given rest (parted refusal rest apart).rest_apart) is k below
  where
    go : (b : Bool) → refusal.test ≡ b → (first_of rest ≡ 0 → (k : ℕ) → k < length rest → test_at rest k ≡ false) →
        pick b refusal.number (first_of rest) ≡ 0 → (k : ℕ) → k < length (refusal ∷ rest) → test_at (refusal ∷ rest) k ≡ false
    go true holds later is k below = absurd ((parted refusal rest apart).nonzero is)
    go false fails later is zero below = fails
    go false fails later is (suc k) below = later is k (omega arith)

gives_only : (order : List Condition) → are_apart order ≡ true → (n : ℕ) → n < length order → first_of order ≡ number_at order n → Due order n
unfolding first_of test_at number_at pick
gives_only [] apart n below is = absurd (omega arith)
gives_only (refusal ∷ rest) apart n below is = go refusal.test refl (gives_only rest (parted refusal rest apart).rest_apart) n below is
  where
    parts : Parted refusal rest
    parts = parted refusal rest apart

    earlier : (n : ℕ) → refusal.test ≡ false → ((k : ℕ) → k < n → test_at rest k ≡ false) → (k : ℕ) → k < suc n → test_at (refusal ∷ rest) k ≡ false
    earlier n fails none zero before = fails
    earlier n fails none (suc k) before = none k (omega arith)

    go : (b : Bool) → refusal.test ≡ b → ((n : ℕ) → n < length rest → first_of rest ≡ number_at rest n → Due rest n) → (n : ℕ) →
        n < length (refusal ∷ rest) → pick b refusal.number (first_of rest) ≡ number_at (refusal ∷ rest) n → Due (refusal ∷ rest) n
    go true holds later zero below is = record { holds = holds; none_earlier = λ k before. absurd (omega arith) }
    go true holds later (suc n) below is = absurd (false≢true (sym parts.alone ∙ among refusal.number rest n (omega arith) is))
    go false fails later zero below is =
        absurd (false≢true (sym parts.alone ∙
        subst (λ (k : ℕ). is_among k rest ≡ true) is (either_number rest (λ none. parts.nonzero (sym is ∙ none)))))
    go false fails later (suc n) below is =
        let due = later n (omega arith) is in record { holds = due.holds; none_earlier = earlier n fails due.none_earlier }

-- "Each is given exactly when its condition holds and none earlier in the order does"
pub first_given : (order : List Condition) → are_apart order ≡ true → GivenExactly order (first_of order)
first_given order apart =
    record { given = gives order; only = gives_only order apart; nothing = gives_none order; none_only = none_given order apart }

-- the same of whatever equals it
pub given_exactly : (order : List Condition) {number : ℕ} → are_apart order ≡ true → number ≡ first_of order → GivenExactly order number
given_exactly order apart is = subst (GivenExactly order) (sym is) (first_given order apart)
