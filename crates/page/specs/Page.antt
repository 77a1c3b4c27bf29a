-- What is on a page of octets that is filled before it is written, and what putting words and numbers on it gives.
use Rattle.std.specs.Prelude.{ℕ, ◌+◌, ◌-◌, ◌≤◌, ◌≡◌, Bool, true, false, not, nat_le, ◌&&◌, if◌then◌else◌, List, [], ◌++◌, length, drop, replicate}
use Rattle.std.specs.Fmt.{decimal}
use Rattle.page.specs.Digits.{last_digits, IsDigitCount}

-- the octets on a page, and whether there was something that did not fit
pub record Content : Type 0 where
  pub octets : List ℕ
  pub is_overfull : Bool

-- what a page's fields hold: of 8192 octets so many are used, and those behind them are 0
abbrev pub IsFilled : ℕ → List ℕ → Type 0
IsFilled used octets = (used ≤ 8192) × (length octets ≡ 8192) × (drop used octets ≡ replicate (8192 - used) 0)

-- a page with nothing on it
abbrev pub blank_page : Content
blank_page = record { octets = []; is_overfull = false }

-- whether so many octets more fit on a page: it holds 8192, and nothing more once it is overfull
abbrev pub has_room : Content → ℕ → Bool
has_room page count = not page.is_overfull && nat_le (length page.octets + count) 8192

-- the page once words were put on it: they stand behind what was on it, or it is overfull with what was on it
abbrev pub put_on : Content → List ℕ → Content
put_on page words = if has_room page (length words) then record page { octets = page.octets ++ words } else record page { is_overfull = true }

-- the page before and after a number was put on it: its decimal digits, as few as hold it and at least one, which are what std prints of it
pub record NumberPut (page : Content) (n : ℕ) (after : Content) : Type 0 where
  pub count : ℕ
  pub fewest : IsDigitCount 10 1 n count
  pub is : after ≡ put_on page (last_digits 10 count n)
  pub printed : after ≡ put_on page (decimal n)
