-- Moving the places of a list up, by one copy within it or one store at a time. Assumes nothing.
use Prim.Native.Nat.{ℕ, suc, ◌+◌, ◌-◌, ◌<◌, ◌≤◌, min}
use mathlib.Core.Path.{◌≡◌, sym, ap, ◌∙◌}
use mathlib.Core.List.{List, ◌++◌}
use native.Mathlib.Omega.{arith}
use native.Mathlib.Nat.{add_comm, min-eq_left}
use native.Mathlib.Numerals.{add-one}
use lib.ListN.{length, get_or, take, drop, set, length-append, length-take, length-drop}
use lib.Seq.{take-suc, drop-cons, append_snoc, set_at, get_or-append-add, get_or-drop, length-take-le}
use Rattle.std.specs.List.{copy_within}
use Rattle.rows.specs.Rows.{moved_up, shifted}

module _ {A : Type 0} (k count : ℕ) (l : List A) where
  -- what is copied to the front is what moves up
  pub shift_copied : copy_within l k (k + min count (length l - k)) 0 ≡ shifted k count l
  unfolding shifted
  shift_copied =
      let n = min count (length l - k) in
      let all : k + n - k ≡ n = omega arith in
      let behind : 0 + n ≡ n = omega arith in
      ap (λ (m : ℕ). take 0 l ++ (take m (drop k l) ++ drop (0 + m) l)) all ∙ ap (λ (m : ℕ). take n (drop k l) ++ drop m l) behind

  -- where the places are there, as many move as said
  pub shift_whole : count + k ≤ length l → shifted k count l ≡ moved_up k count l
  unfolding shifted
  shift_whole room = ap (λ (n : ℕ). moved_up k n l) (min-eq_left (omega arith))

  -- where none is there, none moves
  pub shift_none : min count (length l - k) ≡ 0 → shifted k count l ≡ l
  unfolding shifted
  shift_none none = ap (λ (n : ℕ). moved_up k n l) none

module _ (k i : ℕ) (l : List ℕ) (room : i + k < length l) where
  front : length (take i (drop k l)) ≡ i
  front = length-take-le i (drop k l) (omega (arith, length-drop k l))

  -- what stands k places further on is not yet moved
  far : get_or (moved_up k i l) (i + k) 0 ≡ get_or (drop k l) i 0
  far =
      ap (λ (n : ℕ). get_or (moved_up k i l) (n + k) 0) (sym front) ∙
      get_or-append-add (take i (drop k l)) (drop i l) k 0 ∙
      get_or-drop i l k 0 ∙
      ap (λ (n : ℕ). get_or l n 0) (add_comm i k) ∙
      sym (get_or-drop k l i 0)

  -- one more store moves one more place
  pub shift_more : set (moved_up k i l) i (get_or (moved_up k i l) (i + k) 0) ≡ moved_up k (i + 1) l
  shift_more =
      ap (λ (x : ℕ). set (moved_up k i l) i x) far ∙
      ap (λ (rest : List ℕ). set (take i (drop k l) ++ rest) i (get_or (drop k l) i 0)) (drop-cons l i 0 (omega arith)) ∙
      set_at (take i (drop k l)) (get_or l i 0) (drop (suc i) l) (get_or (drop k l) i 0) i front ∙
      sym (append_snoc (take i (drop k l)) (get_or (drop k l) i 0) (drop (suc i) l)) ∙
      ap (λ (a : List ℕ). a ++ drop (suc i) l) (sym (take-suc (drop k l) i 0 (omega (arith, length-drop k l)))) ∙
      ap (λ (n : ℕ). take n (drop k l) ++ drop n l) (sym (add-one i))

-- all of them moved
pub shift_done : {A : Type 0} (k count n : ℕ) (l : List A) → n ≡ min count (length l - k) → moved_up k n l ≡ shifted k count l
unfolding shifted
shift_done k count n l all = ap (λ (m : ℕ). moved_up k m l) all

-- moving keeps the length
pub shift_length : {A : Type 0} (k count : ℕ) (l : List A) → length (shifted k count l) ≡ length l
unfolding shifted
shift_length k count l =
    let n = min count (length l - k) in
    omega (arith, length-append (take n (drop k l)) (drop n l), length-take n (drop k l), length-drop k l, length-drop n l)
