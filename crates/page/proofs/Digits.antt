-- What std prints of a number are its decimal digits, as few as hold it and at least one.
use mathlib.Core.Path.{◌≡◌, sym, ap, subst, ◌∙◌}
use mathlib.Core.List.{List, [], ◌∷◌, ◌++◌}
use Prim.Native.Nat.{ℕ, zero, suc, ◌+◌, ◌-◌, ◌*◌, ◌/◌, ◌%◌, ◌^◌, ◌≤◌, ◌<◌}
use native.Mathlib.Nat.{pow-suc, pow-zero}
use native.Mathlib.Numerals.{add-one}
use native.Mathlib.Omega.{arith}
use lib.ListN.{length, length-append}
use Rattle.std.specs.Fmt.{decimal}
use Rattle.std.proofs.lemmas.Fmt.{decimal_by_steps}
use borrow.Author.Tests.{lt-ltb}
use Rattle.page.specs.Digits.{digit_ascii, last_digits, IsDigitCount}
use Rattle.page.specs.Page.{Content, NumberPut, put_on}

ten_times : (k : ℕ) → 10 ^ suc k ≡ 10 * 10 ^ k
ten_times k = omega (arith, pow-suc 10 k)

-- a number of at least ten takes one digit more than a tenth of it
grow : (m k : ℕ) → 10 ≤ m → IsDigitCount 10 1 (m / 10) k → IsDigitCount 10 1 m (suc k)
grow m zero h few = absurd (omega (arith, few.0))
grow m (suc zero) h few = (omega arith, omega (arith, few.1, ten_times 1, ten_times 0, pow-zero 10), λ more. omega (arith, ten_times 0, pow-zero 10))
grow m (suc (suc k)) h few =
    let count : suc (suc k) - 1 ≡ suc k = omega arith in
    let reaches : 10 ^ suc k ≤ m / 10 = subst (λ (j : ℕ). 10 ^ j ≤ m / 10) count (few.2 (omega arith)) in
    let above : 10 ^ suc (suc k) ≤ m = omega (arith, reaches, ten_times (suc k)) in
    let next : suc (suc k) ≡ suc (suc (suc k)) - 1 = omega arith in
    (omega arith, omega (arith, few.1, ten_times (suc (suc k))), λ more. subst (λ (j : ℕ). 10 ^ j ≤ m) next above)

-- a text is the digits of a number, and as few as hold it
abbrev AreDigits : ℕ → List ℕ → Type 0
AreDigits m text = IsDigitCount 10 1 m (length text) × (text ≡ last_digits 10 (length text) m)

-- a digit below ten is written as itself
decimal_digit : (d : ℕ) → d < 10 → 48 + d ≡ digit_ascii d
decimal_digit d small = rw (lt-ltb d 10 small)

one : (m : ℕ) → m < 10 → AreDigits m ((48 + m) ∷ [])
one m small =
    let same : m ≡ m % 10 = omega arith in (
      (omega arith, omega (arith, ten_times 0, pow-zero 10), λ more. absurd (omega arith)),
      ap (λ (d : ℕ). d ∷ []) (decimal_digit m small ∙ ap digit_ascii same),
    )

more : (m : ℕ) (text : List ℕ) → 10 ≤ m → AreDigits (m / 10) text → AreDigits m (text ++ ((48 + m % 10) ∷ []))
more m text large digits =
    let last : List ℕ = (48 + m % 10) ∷ [] in
    let longer : length (text ++ last) ≡ suc (length text) = length-append text last ∙ add-one (length text) in (
      subst (λ (k : ℕ). IsDigitCount 10 1 m k) (sym longer) (grow m (length text) large digits.0),
      ap (λ (front : List ℕ). front ++ last) digits.1 ∙
          ap (λ (d : ℕ). last_digits 10 (length text) (m / 10) ++ (d ∷ [])) (decimal_digit (m % 10) (omega arith)) ∙
          ap (λ (k : ℕ). last_digits 10 k m) (sym longer),
    )

pub number_put : (page : Content) (n : ℕ) (after : Content) → n < 2 ^ 64 → after ≡ put_on page (decimal n) → NumberPut page n after
number_put page n after fits is =
    let digits = decimal_by_steps AreDigits one more n fits in
    record { count = length (decimal n); fewest = digits.0; is = is ∙ ap (put_on page) digits.1; printed = is }
