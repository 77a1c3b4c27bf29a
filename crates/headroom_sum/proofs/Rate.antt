-- Laws of the rates and their halt limits, for the callers of `halt_limit`. Assumes nothing.
use Prim.Native.Nat.{ℕ, ◌≤◌}
use mathlib.Core.Path.{◌≡◌, refl, sym, ap, ◌∙◌}
use mathlib.Core.Bool.{Bool, true, false}
use mathlib.Core.List.{[], ◌∷◌, map}
use native.Mathlib.Omega.{arith}
use borrow.Author.Tests.{eqb-true}
use lib.Dec.{eqb}
use Rattle.std.specs.Prelude.{Ok, Err}
use Rattle.ground.specs.Pick.{pick}
use Rattle.ground.specs.First.{first_of}
use Rattle.ground.proofs.Passing.{passed}
use Rattle.refusals.specs.Refusals.{refused_or, numbered_in}
use Rattle.refusals.specs.declared.Refusal.{Refusal}
use Rattle.refusals.proofs.Refused.{not_refused, ok_is, err_is}
use Rattle.units.specs.declared.Quanta.{Quanta}
use Rattle.units.specs.Units.{bits_of_quanta, within64}
use Rattle.units.specs.Counts.{quanta}
use Rattle.headroom_sum.specs.Rates.{halt_limits, largest_rate, halt_limit, refused10, limit_order, limit_answer}

-- the answer at a number that is known
pub at_rate : (rate known : ℕ) → rate ≡ known → limit_answer known ≡ limit_answer rate
at_rate rate known e = ap limit_answer (sym e)

-- for `halt_limit`: its answer at a number that has a limit, and at one that has none
module _ (rate limit : ℕ) (is : halt_limit rate ≡ limit) (some : eqb limit 0 ≡ false) where
  pub none_refused : first_of (limit_order rate) ≡ 0
  unfolding first_of pick
  none_refused = rw (is, some) refl

  pub limit_is : limit_answer rate ≡ Ok (quanta limit)
  unfolding limit_answer
  limit_is = not_refused _ _ none_refused ∙ ap (λ (n : ℕ). Ok (quanta n)) is

module _ (rate : ℕ) (is : halt_limit rate ≡ 0) where
  pub rate_refused : first_of (limit_order rate) ≡ 10
  unfolding first_of pick
  rate_refused = rw is refl

  pub refusal_is : limit_answer rate ≡ Err Refusal.Rate
  unfolding limit_answer refused_or numbered_in pick
  refusal_is = rw rate_refused refl

pub ruleset limited = (none_refused, limit_is, rate_refused, refusal_is)

-- what a limit says of its rate
pub record IsLimit (rate : ℕ) (limit : Quanta) : Type 0 where
  pub no10 : refused10 rate ≡ false
  pub is : limit ≡ quanta (halt_limit rate)

pub is_limit : (rate : ℕ) (limit : Quanta) → Ok limit ≡ limit_answer rate → IsLimit rate limit
unfolding limit_answer pick first_of
is_limit rate limit e =
    let told = ok_is _ (quanta (halt_limit rate)) e
    in record { no10 = (passed (refused10 rate) 10 0 (omega arith) told.0).0; is = told.1 }

-- a refusal is 10's
pub is_no_rate : (rate : ℕ) (refusal : Refusal) → Err refusal ≡ limit_answer rate → refused10 rate ≡ true
unfolding limit_answer first_of pick
is_no_rate rate refusal e = go (refused10 rate) (err_is _ (quanta (halt_limit rate)) e).0
  where
    go : (b : Bool) → (◌≡◌ {A = ℕ} (pick b 10 0) 0 → ⊥) → b ≡ true
    go true some = refl
    go false some = absurd (some refl)

-- "(6,144, 24,576, 61,440 bits)"
pub in_bits : map (λ (known : ℕ × ℕ). bits_of_quanta known.1) halt_limits ≡ 6144 ∷ 24576 ∷ 61440 ∷ []
in_bits = refl

-- the limit is 120 quanta at most, at any number
pub limit_small : (rate : ℕ) → halt_limit rate ≤ 120
unfolding halt_limit pick
limit_small rate = by_tests (eqb rate 10000) (eqb rate 40000) (eqb rate 100000)
  where
    by_tests : (a b c : Bool) → pick a 12 (pick b 48 (pick c 120 0)) ≤ 120
    by_tests true b c = omega arith
    by_tests false true c = omega arith
    by_tests false false true = omega arith
    by_tests false false false = omega arith

-- a rate is one of the three, so 100,000 at most
pub rate_small : (rate : ℕ) → refused10 rate ≡ false → rate ≤ largest_rate
unfolding halt_limit pick
rate_small rate e = by_tests (eqb rate 10000) (eqb rate 40000) (eqb rate 100000) refl refl refl e
  where
    by_tests : (a b c : Bool) → eqb rate 10000 ≡ a → eqb rate 40000 ≡ b → eqb rate 100000 ≡ c →
        eqb (pick a 12 (pick b 48 (pick c 120 0))) 0 ≡ false → rate ≤ largest_rate
    by_tests true b c p q r e = omega (arith, eqb-true)
    by_tests false true c p q r e = omega (arith, eqb-true)
    by_tests false false true p q r e = omega (arith, eqb-true)
    by_tests false false false p q r e = let z : ◌≡◌ {A = ℕ} 0 1 = cc in absurd (omega arith)

-- the limit's conversion to bits is the definition's: it is far below what 64 bits hold
pub limit_bits : (rate bits : ℕ) (limit : Quanta) → IsLimit rate limit → bits ≡ within64 (bits_of_quanta limit.0) →
    bits ≡ bits_of_quanta (halt_limit rate)
limit_bits rate bits limit l e = omega (arith, ap (λ (q : Quanta). q.0) l.is, limit_small rate)
