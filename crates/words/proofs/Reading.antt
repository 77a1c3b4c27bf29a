-- What the loops over a word keep, and what they end in. Assumes nothing.
use Prim.Native.Nat.{ℕ, ◌+◌, ◌-◌, ◌*◌, ◌^◌, ◌≤◌, ◌<◌}
use mathlib.Core.Path.{◌≡◌, refl, sym}
use mathlib.Core.Bool.{Bool, true, false, ◌&&◌}
use mathlib.Core.List.{List, [], ◌∷◌, map}
use lib.Dec.{eqb, ltb}
use native.Mathlib.Numerals.{add-one}
use native.Mathlib.Omega.{arith}
use borrow.Author.Tests.{lt-ltb, le-ltb, ne_eqb, eq-eqb, eqb-true, eqb-false}
use lib.ListN.{length, get_or, drop, take, drop_of_length-le, length-drop}
use lib.Seq.{drop-cons, take_all}
use Rattle.std.specs.List.{starts_with}
use Rattle.std.specs.Prelude.{Option, None, Some, SomeIff, Ok, Err}
use Rattle.ground.specs.Pick.{pick}
use Rattle.interface_rows.specs.Stack.{index_from, stack_answer}
use Rattle.words.specs.Words.{largest64, zero', one', nine', extended, number_from, number_of, prefix, is_rows, rows_answer}
use Rattle.interface_rows.specs.declared.StackError.TheVariants.{Unknown}
use Rattle.words.specs.declared.WordError.TheVariants.{NotANumber, TooLarge}
use Rattle.words.proofs.Numbers.{no_number}

-- at octet i: the number so far fits, and what is left of the word decides what the whole word says
pub record Reading (word : List ℕ) (so_far i : ℕ) : Type 0 where
  pub within : i ≤ length word
  pub fits : so_far ≤ largest64
  pub rest : number_from so_far (drop i word) ≡ number_from 0 word

pub start : (word : List ℕ) → Reading word 0 0
start word = record { within = omega arith; fits = omega arith; rest = refl }

-- what is left of a word from octet i on says, where that octet ends the reading
module _ (word : List ℕ) (so_far i : ℕ) (h : i < length word) where
  here : number_from so_far (drop i word) ≡ number_from so_far (get_or word i 0 ∷ drop (i + 1) word)
  here = rw add-one (rw (drop-cons word i 0 h) refl)

  pub says_low : get_or word i 0 < zero' → number_from so_far (drop i word) ≡ Err NotANumber
  unfolding pick number_from
  says_low low = simp (lt-ltb (get_or word i 0) zero' low) at here

  module _ (low : zero' ≤ get_or word i 0) where
    pub says_high : nine' < get_or word i 0 → number_from so_far (drop i word) ≡ Err NotANumber
    unfolding pick number_from
    says_high high = simp (le-ltb (get_or word i 0) zero' low, lt-ltb nine' (get_or word i 0) high) at here

    pub says_over : get_or word i 0 ≤ nine' → largest64 < extended so_far (get_or word i 0) →
        number_from so_far (drop i word) ≡ Err TooLarge
    unfolding pick number_from
    says_over high over =
        simp (
          le-ltb (get_or word i 0) zero' low,
          le-ltb nine' (get_or word i 0) high,
          lt-ltb largest64 (extended so_far (get_or word i 0)) over,
        ) at
        here

-- one more octet
module _ (word : List ℕ) (so_far i octet : ℕ) (r : Reading word so_far i) (h : i < length word) (is : octet ≡ get_or word i 0) where
  split : number_from so_far (octet ∷ drop (i + 1) word) ≡ number_from 0 word
  split = rw (is, add-one) (rw (drop-cons word i 0 h) at r.rest)

  pub too_low : octet < zero' → Err NotANumber ≡ number_from 0 word
  unfolding pick number_from
  too_low low = simp (lt-ltb octet zero' low) at split

  module _ (low : zero' ≤ octet) where
    pub too_high : nine' < octet → Err NotANumber ≡ number_from 0 word
    unfolding pick number_from
    too_high high = simp (le-ltb octet zero' low, lt-ltb nine' octet high) at split

    module _ (high : octet ≤ nine') where
      pub too_large : largest64 < extended so_far octet → Err TooLarge ≡ number_from 0 word
      unfolding pick number_from
      too_large over =
          simp (le-ltb octet zero' low, le-ltb nine' octet high, lt-ltb largest64 (extended so_far octet) over) at split

  pub next : zero' ≤ octet → octet ≤ nine' → extended so_far octet ≤ largest64 → Reading word (extended so_far octet) (i + 1)
  unfolding pick number_from
  next low high fits =
      record {
        within = omega arith;
        fits = fits;
        rest = simp (le-ltb octet zero' low, le-ltb nine' octet high, le-ltb largest64 (extended so_far octet) fits) at split;
      }

-- the number that `extended` answers goes on
pub goes_on : (word : List ℕ) (so_far i octet digit more : ℕ) (answer : Option ℕ) → Reading word so_far i → i < length word → octet ≡ get_or word i 0 →
    zero' ≤ octet → octet ≤ nine' → digit ≡ octet - zero' → SomeIff answer (so_far * 10 + digit < 2 ^ 64) (so_far * 10 + digit) →
    answer ≡ Some more → Reading word more (i + 1)
goes_on word so_far i octet digit more None r h is low high digit_is some_if told = absurd cc
goes_on word so_far i octet digit more (Some x) r h is low high digit_is some_if told =
    let same : x ≡ more = cc in
    let more_is : more ≡ extended so_far octet = omega (arith, some_if.1, digit_is, same) in
    let fits : extended so_far octet ≤ largest64 = omega (arith, some_if.0, digit_is) in
    rw more_is (next word so_far i octet r h is low high fits)

pub ends : (word : List ℕ) (so_far i : ℕ) → Reading word so_far i → length word ≤ i → Ok so_far ≡ number_from 0 word
unfolding number_from
ends word so_far i r h = rw (drop_of_length-le word h) at r.rest

-- a word with an octet says what its octets say
pub some : (word : List ℕ) → (length word ≡ 0 → ⊥) → number_from 0 word ≡ number_of word
unfolding pick number_of
some word h = simp (ne_eqb (length word) 0 h)

pub whole : (word : List ℕ) → 0 < length word → number_of word ≡ number_from 0 word
unfolding pick number_of
whole word h = let some : length word ≡ 0 → ⊥ = omega arith in simp (ne_eqb (length word) 0 some)

pub none : (word : List ℕ) → length word ≡ 0 → Err NotANumber ≡ number_of word
unfolding pick number_of
none word h = simp (eq-eqb (length word) 0 h)

-- a word too short for `rows:` names no stack
pub too_short : (word : List ℕ) → length word < prefix → Err Unknown ≡ rows_answer word
unfolding pick rows_answer
too_short word h = simp (lt-ltb (length word) prefix h)

-- the part of a word from octet 5 to its end is what follows its first five
pub from_prefix : (word : List ℕ) → prefix ≤ length word →
    stack_answer (map (index_from one') (take (length word - prefix) (drop prefix word))) ≡ rows_answer word
unfolding pick rows_answer
from_prefix word h =
    let all : length (drop prefix word) ≤ length word - prefix = omega (arith, length-drop prefix word)
    in rw (take_all (length word - prefix) (drop prefix word) all) (simp (le-ltb (length word) prefix h))

-- for `number_of`: what holds at each octet, and what each end of the reading says
pub ruleset reading = (no_number, start, ends, none, whole, says_low, says_high, says_over)

-- a word begins with `rows:`
stops : (a b c d : Bool) → (a && (b && (c && (d && false)))) ≡ false
stops false b c d = refl
stops true false c d = refl
stops true true false d = refl
stops true true true false = refl
stops true true true true = refl

in_turn : (a b c d e : Bool) → (a && (b && (c && (d && (e && true))))) ≡ pick a (pick b (pick c (pick d e false) false) false) false
unfolding pick
in_turn true true true true true = refl
in_turn true true true true false = refl
in_turn true true true false e = refl
in_turn true true false d e = refl
in_turn true false c d e = refl
in_turn false b c d e = refl

turned : (a b : ℕ) → eqb a b ≡ eqb b a
turned a b = go (eqb a b) refl
  where
    go : (same : Bool) → eqb a b ≡ same → same ≡ eqb b a
    go true is = sym (eq-eqb b a (sym (eqb-true a b is)))
    go false isnt = sym (ne_eqb b a (λ e. eqb-false a b isnt (sym e)))

pub begins : (word : List ℕ) → starts_with eqb word (0x72 ∷ 0x6F ∷ 0x77 ∷ 0x73 ∷ 0x3A ∷ []) ≡ is_rows word
unfolding pick is_rows
begins [] = refl
begins (a ∷ []) = stops true true true (eqb 0x72 a)
begins (a ∷ b ∷ []) = stops true true (eqb 0x72 a) (eqb 0x6F b)
begins (a ∷ b ∷ c ∷ []) = stops true (eqb 0x72 a) (eqb 0x6F b) (eqb 0x77 c)
begins (a ∷ b ∷ c ∷ d ∷ []) = stops (eqb 0x72 a) (eqb 0x6F b) (eqb 0x77 c) (eqb 0x73 d)
begins (a ∷ b ∷ c ∷ d ∷ e ∷ rest) =
    let long : ltb (length (a ∷ b ∷ c ∷ d ∷ e ∷ rest)) prefix ≡ false = le-ltb _ _ (omega arith) in
    rw (long, turned a 0x72, turned b 0x6F, turned c 0x77, turned d 0x73, turned e 0x3A)
    (in_turn (eqb 0x72 a) (eqb 0x6F b) (eqb 0x77 c) (eqb 0x73 d) (eqb 0x3A e))
