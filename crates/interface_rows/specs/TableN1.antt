-- Document 01's interface rows of Table N-1 (document 004), as data.
use Rattle.std.specs.Prelude.{ℕ, ◌-◌, ◌/◌, Bool, true, false, List, [], ◌∷◌, ltb, eqb, length, get_or, Option, None, Some}
use Rattle.ground.specs.Pick.{pick}
use Rattle.units.specs.Counts.{bits, quanta}
use Rattle.units.specs.Units.{bits_of_quanta}
use Rattle.interface_rows.specs.declared.Row.{Row}

-- a row: its bits and its quanta
abbrev pub row : ℕ → ℕ → Row
row b q = record { 0 = bits b; 1 = quanta q }

-- the eight rows, each by its name
abbrev pub mac_control_mac_and_rs : Row
mac_control_mac_and_rs = row 8192 16

abbrev pub xgxs_and_xaui : Row
xgxs_and_xaui = row 2048 4

abbrev pub pcs10gbase_x : Row
pcs10gbase_x = row 2048 4

abbrev pub pcs10gbase_r : Row
pcs10gbase_r = row 3584 7

abbrev pub lx4 : Row
lx4 = row 512 1

abbrev pub cx4 : Row
cx4 = row 512 1

abbrev pub serial_pma_and_pmd : Row
serial_pma_and_pmd = row 512 1

abbrev pub phy10gbase_t : Row
phy10gbase_t = row 25600 50

-- the table, in the paper's order
abbrev pub table_n1 : List Row
table_n1 = mac_control_mac_and_rs ∷ xgxs_and_xaui ∷ pcs10gbase_x ∷ pcs10gbase_r ∷ lx4 ∷ cx4 ∷ serial_pma_and_pmd ∷ phy10gbase_t ∷ []

-- "whose rule is bits = 512 × quanta"
abbrev pub keeps_rule : Row → Bool
keeps_rule r = eqb r.0.0 (bits_of_quanta r.1.0)

-- a test holds of every row
abbrev pub every_row : (Row → Bool) → List Row → Bool
every_row test [] = true
every_row test (r ∷ rest) = pick (test r) (every_row test rest) false

-- an index is a row's
abbrev pub is_row : ℕ → Bool
is_row index = ltb index (length table_n1)

-- the row at an index counted from 0; past the table there is none
unfoldable pub row_at : ℕ → Option Row
row_at index = pick (is_row index) (Some (get_or table_n1 index (row 0 0))) None

-- document 01's number of an answer: a row is no refusal, and for an index that is no row's document 01 has no number
unfoldable pub row_number_of : Option Row → ℕ
row_number_of (Some r) = 0
row_number_of None = 0

-- "Half a row is transmit, half receive."
abbrev pub transmit_half : ℕ → ℕ
transmit_half whole = whole / 2

abbrev pub receive_half : ℕ → ℕ
receive_half whole = whole - whole / 2
