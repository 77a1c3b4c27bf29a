-- Any two answers that a contract of `page` permits for the same call are equal, and so is what is on the page. It is stated about the
-- contracts themselves and assumes nothing. What is read and whether a write succeeds no contract decides (docs/EXCEPTIONS.md).
use Prim.Native.Nat.{ℕ, ◌-◌, ◌^◌, ◌≤◌, ◌<◌}
use mathlib.Core.Path.{◌≡◌, sym, ◌∙◌, ap}
use native.Mathlib.Nat.{pow-le-pow_right, lt_of_not-le}
use native.Mathlib.Omega.{arith}
use borrow.Fn.Kinds.{Dens, res_t, ended_of}
use contract.Lifetimes.{Lfts}
use denote.Triple.Clauses.{AtExit}
use Rattle.std.specs.Prelude.{List, Option, None, Some, IfSome, IsNone, IsTrue, ◌↔◌, true, false, refl}
use Rattle.std.specs.Borrow.{Bor}
use Rattle.std.specs.Option.{option_copied}
use Rattle.ground.proofs.Decides.{Decides}
use Rattle.page.specs.Digits.{IsDigitCount, last_digits}
use Rattle.page.specs.Page.{Content, NumberPut, put_on}
use Rattle.page.proofs.Page.blank.Kinds as blank_kinds
use Rattle.page.proofs.Page.blank.Reads as blank
use Rattle.page.proofs.Page.put.Kinds as put_kinds
use Rattle.page.proofs.Page.put.Reads as put
use Rattle.page.proofs.Page.number.Kinds as number_kinds
use Rattle.page.proofs.Page.number.Reads as number
use Rattle.page.proofs.Page.written.Kinds as written_kinds
use Rattle.page.proofs.Page.written.Reads as written

-- no count that is as few as hold a number is below another
not_fewer : (n a k : ℕ) → IsDigitCount 10 1 n a → IsDigitCount 10 1 n k → a < k → ⊥
not_fewer n a k fa fk below =
    let holds : n < 10 ^ a = fa.1 in
    let reaches : 10 ^ (k - 1) ≤ n = fk.2 (omega (arith, fa.0, below)) in
    let grows : 10 ^ a ≤ 10 ^ (k - 1) = pow-le-pow_right (omega arith) (omega (arith, below)) in
    omega (arith, holds, reaches, grows)

-- the fewest digits that hold a number are so many and no others
one_count : (n a k : ℕ) → IsDigitCount 10 1 n a → IsDigitCount 10 1 n k → a ≡ k
one_count n a k fa fk = omega (arith, lt_of_not-le (not_fewer n a k fa fk), lt_of_not-le (not_fewer n k a fk fa))

same_page : (page : Content) (n : ℕ) (x y : Content) → NumberPut page n x → NumberPut page n y → x ≡ y
same_page page n x y p q =
    p.is ∙ ap (λ (count : ℕ). put_on page (last_digits 10 count n)) (one_count n p.count q.count p.fewest q.fewest) ∙ sym q.is

pub blank_decides : Decides 0 blank_kinds.ps blank_kinds.r blank.Post
blank_decides κs args x y e f p q = p ∙ sym q

pub put_decides_page : (κs : Lfts 2) (args : Dens κs put_kinds.ps) (x y : (res_t put_kinds.r κs).Denot)
    (e f : AtExit (ended_of 2 put_kinds.ps put_kinds.r) κs) →
    put.Post κs args x e → put.Post κs args y f → e.0.now ≡ f.0.now
put_decides_page κs args x y e f p q = p ∙ sym q

pub number_decides_page : (κs : Lfts 1) (args : Dens κs number_kinds.ps) (x y : (res_t number_kinds.r κs).Denot)
    (e f : AtExit (ended_of 1 number_kinds.ps number_kinds.r) κs) →
    number.Post κs args x e → number.Post κs args y f → e.0.now ≡ f.0.now
number_decides_page κs args x y e f p q = same_page _ _ _ _ p q

-- the octets that two answers of `written` give
same_written : (page : Content) (x y : Option (Bor (List ℕ)))
    → IfSome x (λ octets. octets.now ≡ page.octets) → (IsNone x ↔ IsTrue page.is_overfull)
    → IfSome y (λ octets. octets.now ≡ page.octets) → (IsNone y ↔ IsTrue page.is_overfull)
    → option_copied x ≡ option_copied y
same_written page None None all_x overfull_x all_y overfull_y = refl
same_written page None (Some b) all_x overfull_x all_y overfull_y = let some : true ≡ false = overfull_y.1 (overfull_x.0 refl) in cc
same_written page (Some a) None all_x overfull_x all_y overfull_y = let some : true ≡ false = overfull_x.1 (overfull_y.0 refl) in cc
same_written page (Some a) (Some b) all_x overfull_x all_y overfull_y = ap Some (all_x ∙ sym all_y)

pub written_decides_octets : (κs : Lfts 1) (args : Dens κs written_kinds.ps) (x y : (res_t written_kinds.r κs).Denot)
    (e f : AtExit (ended_of 1 written_kinds.ps written_kinds.r) κs) →
    written.Post κs args x e → written.Post κs args y f → option_copied x ≡ option_copied y
written_decides_octets κs args x y e f p q = same_written _ x y p.0 p.1 q.0 q.1
