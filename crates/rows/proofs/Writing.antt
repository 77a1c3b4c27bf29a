-- Octets written at a place of a list. Assumes nothing.
use Prim.Native.Nat.{ℕ, ◌+◌, ◌*◌, ◌-◌, ◌<◌, ◌≤◌, min}
use mathlib.Core.Bool.{Bool, true, false}
use mathlib.Core.Path.{◌≡◌, refl, sym, ap, ◌∙◌}
use mathlib.Core.List.{List, [], ◌∷◌, ◌++◌}
use native.Mathlib.Omega.{arith}
use native.Mathlib.Nat.{zero-mul, min-eq_left, min-eq_right}
use lib.ListN.{length, take, drop, length-append, length-take, length-drop}
use lib.Seq.{drop-drop}
use lib.Dec.{leb}
use borrow.Author.Tests.{le-leb, lt-leb, leb-true, leb-false}
use Rattle.ground.proofs.Pick.{pick_yes, pick_no}
use Rattle.rows.specs.Rows.{written}

module _ (place : ℕ) (octets list : List ℕ) where
  -- where they do not fit, nothing is written
  pub written_out : length list < place + length octets → written place octets list ≡ list
  unfolding written
  written_out out = pick_no _ _ (lt-leb _ _ out)

  pub written_in : place + length octets ≤ length list →
      written place octets list ≡ take place list ++ (octets ++ drop (place + length octets) list)
  unfolding written
  written_in fits = pick_yes _ _ (le-leb _ _ fits)

  -- the length stays
  length_by : (fits : Bool) → leb (place + length octets) (length list) ≡ fits → length (written place octets list) ≡ length list
  length_by true test =
      let fits : place + length octets ≤ length list = leb-true _ _ test in
      ap length (written_in fits) ∙
      omega (
        arith,
        length-append (take place list) (octets ++ drop (place + length octets) list),
        length-take place list,
        length-append octets (drop (place + length octets) list),
        length-drop (place + length octets) list,
      )
  length_by false test = ap length (written_out (leb-false _ _ test))

  pub written_length : length (written place octets list) ≡ length list
  written_length = length_by _ refl

  -- octets copied into the part of their length that starts at the place
  pub written_part : place + length octets ≤ length list → (part : List ℕ) → part ≡ octets →
      take place list ++ (part ++ drop (place + length octets - place) (drop place list)) ≡ written place octets list
  written_part fits part copied =
      let n = length octets in
      let width : place + n - place ≡ n = omega arith in
      ap (λ (p : List ℕ). take place list ++ (p ++ drop (place + n - place) (drop place list))) copied ∙
      ap (λ (m : ℕ). take place list ++ (octets ++ drop m (drop place list))) width ∙
      ap (λ (r : List ℕ). take place list ++ (octets ++ r)) (drop-drop n place list) ∙
      sym (written_in fits)

-- a place behind the end is the end: nothing is written at either
within : (n : ℕ) (octets list : List ℕ) (fits : Bool) → leb n (length list) ≡ fits → (length list < n → 0 < length octets) →
    written (min n (length list)) octets list ≡ written n octets list
within n octets list true test some = ap (λ (p : ℕ). written p octets list) (min-eq_left (leb-true _ _ test))
within n octets list false test some =
    let past : length list < n = leb-false _ _ test in
    let one : 0 < length octets = some past in
    ap (λ (p : ℕ). written p octets list) (min-eq_right (omega arith)) ∙
    written_out (length list) octets list (omega arith) ∙
    sym (written_out n octets list (omega arith))

not_none : (octets : List ℕ) (count size : ℕ) → size < length octets * count → 0 < length octets
not_none [] count size more = omega (arith, zero-mul count)
not_none (x ∷ octets) count size more = omega arith

pub written_within : (count : ℕ) (octets list : List ℕ) →
    written (min (length octets * count) (length list)) octets list ≡ written (length octets * count) octets list
written_within count octets list = within (length octets * count) octets list _ refl (not_none octets count (length list))
