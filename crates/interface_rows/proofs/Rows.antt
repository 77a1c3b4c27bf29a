-- Table N-1's rule at each of its rows, by one test that is computed over the whole table; what `row_at` finds. Assumes nothing.
use Prim.Native.Nat.{ℕ, zero, suc, ◌%◌, ◌<◌}
use mathlib.Core.Path.{◌≡◌, refl, ap}
use mathlib.Core.Bool.{Bool, true, false}
use mathlib.Core.List.{List, [], ◌∷◌}
use native.Mathlib.Nat.{le_of_suc-le-suc, not-suc-le-zero}
use native.Mathlib.Omega.{arith}
use borrow.Author.Tests.{eqb-true}
use lib.Dec.{eqb}
use lib.ListN.{length, get_or}
use Rattle.std.specs.Prelude.{None, Some}
use Rattle.ground.specs.Pick.{pick}
use Rattle.units.specs.Units.{bits_of_quanta}
use Rattle.interface_rows.specs.TableN1.{row, table_n1, keeps_rule, every_row, is_row, row_at}
use Rattle.interface_rows.specs.Stack.{bits_at}
use Rattle.interface_rows.specs.declared.Row.{Row}

pub both : (b rest : Bool) → pick b rest false ≡ true → (b ≡ true) × (rest ≡ true)
unfolding pick
both true rest e = (refl, e)
both false rest e = let z : ◌≡◌ {A = ℕ} 0 1 = cc in absurd (omega arith)

-- a test of every row is a law at each
pub at_row : (test : Row → Bool) (rows : List Row) (other : Row) → every_row test rows ≡ true →
    (index : ℕ) → index < length rows → test (get_or rows index other) ≡ true
at_row test [] other e index h = absurd (not-suc-le-zero h)
at_row test (r ∷ rest) other e zero h = (both (test r) (every_row test rest) e).0
at_row test (r ∷ rest) other e (suc index) h = at_row test rest other (both (test r) (every_row test rest) e).1 index (le_of_suc-le-suc h)

module _ (index : ℕ) (h : index < length table_n1) where
  -- "whose rule is bits = 512 × quanta"
  pub rule : bits_at index ≡ bits_of_quanta (get_or table_n1 index (row 0 0)).1.0
  unfolding pick
  rule = eqb-true _ _ (at_row keeps_rule table_n1 (row 0 0) refl index h)

  -- each row has two equal halves
  pub row_even : bits_at index % 2 ≡ 0
  unfolding pick
  row_even = eqb-true _ _ (at_row (λ (r : Row). eqb (r.0.0 % 2) 0) table_n1 (row 0 0) refl index h)

-- what is found is the row at the index
found_by : (b : Bool) (r whole : Row) → Some r ≡ pick b (Some whole) None → (b ≡ true) × (r ≡ whole)
unfolding pick
found_by true r whole e = (refl, cc)
found_by false r whole e = let z : ◌≡◌ {A = ℕ} 0 1 = cc in absurd (omega arith)

pub found : (index : ℕ) (r : Row) → Some r ≡ row_at index → (is_row index ≡ true) × (r.0.0 ≡ bits_at index)
unfolding row_at
found index r e =
    let h = found_by (is_row index) r (get_or table_n1 index (row 0 0)) e
    in (h.0, ap (λ (r : Row). r.0.0) h.1)

-- and where none is found the index is no row's
missing_by : (b : Bool) (whole : Row) → None ≡ pick b (Some whole) None → b ≡ false
unfolding pick
missing_by true whole e = let z : ◌≡◌ {A = ℕ} 0 1 = cc in absurd (omega arith)
missing_by false whole e = refl

pub missing : (index : ℕ) → None ≡ row_at index → is_row index ≡ false
unfolding row_at
missing index e = missing_by (is_row index) (get_or table_n1 index (row 0 0)) e
