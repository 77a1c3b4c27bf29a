-- Octets are refused by a number of document 01, and the number is given exactly. Assumes nothing.
use Prim.Native.Nat.{ℕ}
use mathlib.Core.Path.{◌≡◌, refl, sym, ap, ◌∙◌}
use mathlib.Core.List.{List}
use lib.ListN.{length}
use Rattle.std.specs.Prelude.{Err}
use Rattle.ground.specs.First.{Condition, GivenExactly, are_apart, is_among}
use Rattle.ground.specs.Pick.{pick}
use Rattle.ground.proofs.First.{given_exactly}
use Rattle.octets.specs.Numbers.{octet_at}
use Rattle.refusals.specs.Refusals.{number, numbered, number_of}
use Rattle.refusals.specs.declared.Refusal.{Refusal}
pub use Rattle.refusals.specs.Refusals.{refused_or, numbered_in}
use Rattle.refusals.proofs.Refused.{refused, err_is, order_number}
use Rattle.records.specs.Records.{body_of, record_length, record_order, sized_refusal, octets_refusal, Asked, decoded}

-- the refusals of a record's octets, in their order
abbrev order_of : List ℕ → List Condition
order_of octets = record_order (octet_at octets 0) (length octets) (record_length (octet_at octets 0))

-- the number of what octets ask is the first of their refusals
pub number_is : (octets : List ℕ) → number_of (decoded octets) ≡ octets_refusal octets
unfolding decoded sized_refusal
number_is octets = order_number (order_of octets) _ _ refl refl

-- an answer that is what the octets ask has it
pub number_by : (octets : List ℕ) {answer : Asked} → answer ≡ decoded octets → number_of answer ≡ octets_refusal octets
number_by octets is = ap number_of is ∙ number_is octets

-- a refusal of octets: its number is not 0, and it is what that number makes
module _ (octets : List ℕ) {refusal : Refusal} (is : Err refusal ≡ decoded octets) where
  refused_by : (octets_refusal octets ≡ 0 → ⊥) × (refusal ≡ numbered (octets_refusal octets))
  unfolding decoded
  refused_by = err_is (octets_refusal octets) (body_of (octet_at octets 0) octets) is

  pub octets_some : number refusal ≡ 0 → ⊥
  octets_some none = refused_by.0 (sym (number_by octets is) ∙ none)

  pub octets_told : {A : Type 0} (value : A) → Err refusal ≡ refused_or (number refusal) value
  octets_told value =
      ap Err refused_by.1 ∙ sym (refused _ value refused_by.0) ∙ ap (λ (n : ℕ). refused_or n value) (sym (number_by octets is))

-- "Records 45, 44, 30, 31 ..": "Each is given exactly when its condition holds and none earlier in the order does"
pub record_given : (octets : List ℕ) → GivenExactly (order_of octets) (number_of (decoded octets))
unfolding sized_refusal are_apart is_among pick
record_given octets = given_exactly (order_of octets) refl (number_is octets)
