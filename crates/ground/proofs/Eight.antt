-- Laws of a list with an entry for each of the eight priorities.
use mathlib.Core.Path.{◌≡◌, refl, sym, ◌∙◌}
use mathlib.Core.Bool.{Bool, true, false, false≢true}
use mathlib.Core.List.{List, [], ◌∷◌}
use Prim.Native.Nat.{ℕ, suc, zero, ◌<◌}
use native.Mathlib.Omega.{arith}
use lib.ListN.{length, get_or}
use lib.Seq.{ext_get_or}
use Rattle.ground.specs.Eight.{eight, some}
use Rattle.ground.specs.Pick.{pick}

-- what holds of 0 to 7 holds of each priority
pub below_eight : (P : ℕ → Type 0) → P 0 → P 1 → P 2 → P 3 → P 4 → P 5 → P 6 → P 7 → (n : ℕ) → n < 8 → P n
below_eight P p0 p1 p2 p3 p4 p5 p6 p7 zero h = p0
below_eight P p0 p1 p2 p3 p4 p5 p6 p7 (suc zero) h = p1
below_eight P p0 p1 p2 p3 p4 p5 p6 p7 (suc (suc zero)) h = p2
below_eight P p0 p1 p2 p3 p4 p5 p6 p7 (suc (suc (suc zero))) h = p3
below_eight P p0 p1 p2 p3 p4 p5 p6 p7 (suc (suc (suc (suc zero)))) h = p4
below_eight P p0 p1 p2 p3 p4 p5 p6 p7 (suc (suc (suc (suc (suc zero))))) h = p5
below_eight P p0 p1 p2 p3 p4 p5 p6 p7 (suc (suc (suc (suc (suc (suc zero)))))) h = p6
below_eight P p0 p1 p2 p3 p4 p5 p6 p7 (suc (suc (suc (suc (suc (suc (suc zero))))))) h = p7
below_eight P p0 p1 p2 p3 p4 p5 p6 p7 (suc (suc (suc (suc (suc (suc (suc (suc n)))))))) h = absurd (the_rest h)
  where
    the_rest : suc (suc (suc (suc (suc (suc (suc (suc n))))))) < 8 → ⊥
    the_rest = omega arith

-- the entry of priority n is what the list was made of
pub get_d_eight : {A : Type 0} (entry : ℕ → A) (other : A) (n : ℕ) → n < 8 → get_or (eight entry) n other ≡ entry n
get_d_eight entry other = below_eight (λ n. get_or (eight entry) n other ≡ entry n) refl refl refl refl refl refl refl refl

-- one of a list's tests holds: some does
some_at : (tests : List Bool) (n : ℕ) → get_or tests n false ≡ true → some tests ≡ true
unfolding some pick
some_at [] n holds = holds
some_at (true ∷ tests) n holds = refl
some_at (false ∷ tests) zero holds = absurd (false≢true holds)
some_at (false ∷ tests) (suc n) holds = some_at tests n holds

-- none of them does: none does
none_of : (tests : List Bool) → ((n : ℕ) → n < length tests → get_or tests n false ≡ false) → some tests ≡ false
unfolding some pick
none_of [] fails = refl
none_of (true ∷ tests) fails = absurd (false≢true (sym (fails 0 (omega arith))))
none_of (false ∷ tests) fails = none_of tests (λ n below. fails (suc n) (omega arith))

-- where some test holds, it can be named
named : (tests : List Bool) → some tests ≡ true → (n : ℕ) × (n < length tests) × (get_or tests n false ≡ true)
unfolding some pick
named [] holds = absurd (false≢true holds)
named (true ∷ tests) holds = (0, omega arith, refl)
named (false ∷ tests) holds =
    let found = named tests holds in
    (suc found.0, omega (arith, found.1), found.2)

-- a test that holds of one priority holds of some
pub some_here : (test : ℕ → Bool) (n : ℕ) → n < 8 → test n ≡ true → some (eight test) ≡ true
some_here test n below holds = some_at (eight test) n (get_d_eight test false n below ∙ holds)

-- one that holds of no priority does not
pub some_none : (test : ℕ → Bool) → ((n : ℕ) → n < 8 → test n ≡ false) → some (eight test) ≡ false
some_none test fails = none_of (eight test) (λ n below. get_d_eight test false n below ∙ fails n below)

-- a test that holds of some priority holds of one that can be named
pub some_found : (test : ℕ → Bool) → some (eight test) ≡ true → (n : ℕ) × (n < 8) × (test n ≡ true)
some_found test holds =
    let found = named (eight test) holds in
    (found.0, found.1, sym (get_d_eight test false found.0 found.1) ∙ found.2)

-- eight equations are one of lists
pub eight_is : {A : Type 0} (entry : ℕ → A) {a0 a1 a2 a3 a4 a5 a6 a7 : A} → a0 ≡ entry 0 → a1 ≡ entry 1 → a2 ≡ entry 2 → a3 ≡ entry 3 →
    a4 ≡ entry 4 → a5 ≡ entry 5 → a6 ≡ entry 6 → a7 ≡ entry 7 → (a0 ∷ a1 ∷ a2 ∷ a3 ∷ a4 ∷ a5 ∷ a6 ∷ a7 ∷ []) ≡ eight entry
eight_is entry p0 p1 p2 p3 p4 p5 p6 p7 = cc

-- a list of eight is made of its entries
pub eight_of_list : {A : Type 0} (list : List A) (other : A) → length list ≡ 8 → list ≡ eight (λ n. get_or list n other)
eight_of_list list other long =
    ext_get_or other list (eight (λ n. get_or list n other)) long (λ n below. sym (get_d_eight (λ k. get_or list k other) other n (omega arith)))

-- two lists of eight are equal where their entries are
pub eight_same : {A : Type 0} (one two : ℕ → A) → ((n : ℕ) → n < 8 → one n ≡ two n) → eight one ≡ eight two
eight_same one two same =
    eight_is two (same 0 (omega arith)) (same 1 (omega arith)) (same 2 (omega arith)) (same 3 (omega arith))
    (same 4 (omega arith)) (same 5 (omega arith)) (same 6 (omega arith)) (same 7 (omega arith))
