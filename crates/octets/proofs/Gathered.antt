-- What `from_fn` makes by a function that calls leave as it is: at each index the function's value there. Each assumes what it states.
use Rattle.std.proofs.Common.{◌≡◌, ◌<◌, ℕ, zero, suc, ◌+◌, List, get_or, subst, ◌∙◌, arith}
use Rattle.std.specs.Array.{IsFromFnResultFrom, IsFromFnResult}
use Rattle.std.specs.Fn.{Called}
use denote.Param.Members.{Mut}
use Rattle.ground.specs.Eight.{eight}
use Rattle.ground.proofs.Eight.{eight_of_list, eight_same}

module _ {F B : Type 0} (g : Mut F (ℕ × Unit {0}) B) (f : F) (value : ℕ → B) (found : List B)
    (kept : (n : ℕ) (r : B) (q : F) → Called g f (n, tt) r q → (r ≡ value n) × (q ≡ f)) where
  -- at each of the indices from one on
  pub each_is : (k from count n : ℕ) (other : B) → n ≡ from + k → k < count → IsFromFnResultFrom g f found from count → get_or found n other ≡ value n
  each_is k from zero n other is below made = absurd (omega arith)
  each_is zero from (suc count) n other is below made =
      let here : n ≡ from = omega arith in
      rw here (made.2.1 other ∙ (kept from made.1 made.0 made.3).0)
  each_is (suc k) from (suc count) n other is below made =
      each_is k (from + 1) count n other (omega arith) (omega arith)
      (subst (λ (q : F). IsFromFnResultFrom g q found (from + 1) count) (kept from made.1 made.0 made.3).1 made.4)

  -- eight of them
  pub eight_made : B → IsFromFnResult g f found 8 → found ≡ eight value
  eight_made other made =
      eight_of_list found other made.long
      ∙ eight_same (λ n. get_or found n other) value (λ n below. each_is n 0 8 n other (omega arith) below made.each)
