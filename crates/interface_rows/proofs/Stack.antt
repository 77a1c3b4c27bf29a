-- What the loop of `stack_delays` keeps, and what it ends in. Assumes nothing.
use Prim.Native.Nat.{ℕ, ◌+◌, ◌%◌, ◌≤◌, ◌<◌, min}
use mathlib.Core.Path.{◌≡◌, refl, sym, ◌∙◌, ap}
use mathlib.Core.Bool.{Bool, true, false}
use mathlib.Core.List.{List, [], ◌∷◌, map}
use native.Mathlib.Numerals.{add-one}
use native.Mathlib.Omega.{arith}
use borrow.Author.Tests.{ltb-true, ltb-false, lt-ltb}
use lib.Dec.{ltb}
use lib.ListN.{length, get_or, drop, drop_of_length-le, length-map, get_or-map}
use lib.Seq.{drop-cons}
use Rattle.std.specs.Prelude.{None, Some, Err}
use Rattle.ground.specs.Pick.{pick}
use Rattle.limits.specs.Limits.{largest_delay}
use Rattle.interface_rows.specs.TableN1.{table_n1, is_row, row_at, receive_half}
use Rattle.interface_rows.specs.Stack.{index_from, bits_at, all_known, stack_bits, delays_of, enough, stack_answer}
use Rattle.interface_rows.specs.declared.Row.{Row}
use Rattle.interface_rows.specs.declared.StackError.TheVariants.{Unknown}
use Rattle.interface_rows.proofs.Numbers.{promised}
use Rattle.interface_rows.proofs.Rows.{both, row_even, found, missing}

-- the rows that octets name
abbrev pub rows_of : ℕ → List ℕ → List ℕ
rows_of first octets = map (index_from first) octets

-- at octet i: the bits of the rows passed, no further than enough, and the rows left settle the rest
pub record Stacking (first : ℕ) (octets : List ℕ) (whole i : ℕ) : Type 0 where
  pub within : i ≤ length octets
  pub most : whole ≤ enough
  pub bits : min (whole + stack_bits (drop i (rows_of first octets))) enough ≡ min (stack_bits (rows_of first octets)) enough
  pub rest : all_known (drop i (rows_of first octets)) ≡ all_known (rows_of first octets)

pub start : (first : ℕ) (octets : List ℕ) → Stacking first octets 0 0
start first octets = record { within = omega arith; most = omega arith; bits = omega arith; rest = refl }

enough_by : (n : ℕ) (b : Bool) → ltb enough n ≡ b → delays_of (min n enough) ≡ delays_of n
unfolding pick delays_of
enough_by n true e =
    let cut : min n enough ≡ enough = omega (arith, ltb-true)
    in let over : ltb largest_delay (receive_half n) ≡ true = lt-ltb largest_delay (receive_half n) (omega (arith, ltb-true))
    in rw cut (simp over)
enough_by n false e = let all : min n enough ≡ n = omega (arith, ltb-false) in rw all

-- at the end: from enough on the answer is 14, so going no further changes nothing
pub ends : (first : ℕ) (octets : List ℕ) (whole i : ℕ) → Stacking first octets whole i → length octets ≤ i →
    delays_of whole ≡ stack_answer (rows_of first octets)
unfolding pick stack_answer stack_bits all_known
ends first octets whole i s h =
    let rows : List ℕ = rows_of first octets
    in let over : length rows ≤ i = omega (arith, length-map octets (index_from first))
    in let none : drop i rows ≡ [] = drop_of_length-le rows over
    in let rest : all_known rows ≡ true = sym s.rest ∙ ap all_known none
    in let whole_is : whole ≡ min (stack_bits rows) enough = omega (arith, s.bits, s.most, ap stack_bits none)
    in (ap delays_of whole_is ∙ enough_by (stack_bits rows) (ltb enough (stack_bits rows)) refl) ∙ simp rest

-- a turn of the loop: the octet at i names the row at an index
module _ (first : ℕ) (octets : List ℕ) (whole i index : ℕ)
    (s : Stacking first octets whole i) (h : i < length octets) (e : index ≡ index_from first (get_or octets i 0)) where
  abbrev rows : List ℕ
  rows = rows_of first octets

  turn : i < length rows
  turn = omega (arith, length-map octets (index_from first))

  named : index ≡ get_or rows i (index_from first 0)
  named = e ∙ sym (get_or-map (index_from first) octets i 0)

  bits_next : stack_bits (drop i rows) ≡ bits_at index + stack_bits (drop (i + 1) rows)
  unfolding stack_bits
  bits_next = rw (named, add-one, drop-cons rows i (index_from first 0) turn)

  known_next : all_known (drop i rows) ≡ pick (is_row index) (all_known (drop (i + 1) rows)) false
  unfolding all_known
  known_next = rw (named, add-one, drop-cons rows i (index_from first 0) turn)

  -- one more row
  pub next : (row : Row) → Some row ≡ row_at index → Stacking first octets (min (whole + row.0.0) enough) (i + 1)
  unfolding pick
  next row f =
      let r = found index row f
      in let known : is_row index ≡ true = r.0
      in record {
        within = omega arith;
        most = omega arith;
        bits = omega (arith, s.bits, bits_next, r.1);
        rest = (sym (known_next ∙ simp known)) ∙ s.rest;
      }

  -- a row that the table lacks
  pub stops : None ≡ row_at index → Err Unknown ≡ stack_answer rows
  unfolding pick stack_answer
  stops m =
      let no : is_row index ≡ false = missing index m
      in let rest : all_known rows ≡ false = sym s.rest ∙ known_next ∙ simp no
      in simp rest

-- the bits of known rows have two equal halves: transmit and receive are the same
pub stack_even : (rows : List ℕ) → all_known rows ≡ true → stack_bits rows % 2 ≡ 0
unfolding all_known stack_bits
stack_even [] e = refl
stack_even (index ∷ rest) e =
    let h = both (is_row index) (all_known rest) e
    in omega (arith, row_even index (ltb-true index (length table_n1) h.0), stack_even rest h.1)

-- for `stack_delays`: what holds at each row, and what each end promises
pub ruleset stacking = (promised, start, stops, ends)
