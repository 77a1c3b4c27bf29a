-- What choice's answers say, in words of the fronts, the map, the paused marks and the timers rather than of tests. Laws tie them to the definition.
use Rattle.std.specs.Prelude.{ℕ, ◌<◌, ◌≡◌, Bool, false, List, get_or}
use Rattle.head.specs.declared.Head.{Head}
use Rattle.head.specs.Timers.{timer}

-- 22: "map entry above 7"; 20: "head above 8"
abbrev pub EntryAbove : ℕ → List ℕ → Type 0
EntryAbove limit entries = (n : ℕ) × (n < 8) × (limit < get_or entries n 0)

-- 21: "present head in a class its map doesn't give"
abbrev pub FrontMisplaced : List ℕ → List ℕ → Type 0
FrontMisplaced fronts map = (c : ℕ) × (c < 8) × (get_or fronts c 0 < 8) × (get_or map (get_or fronts c 0) 0 ≡ c → ⊥)

-- the front of class c is "present and not paused"
abbrev pub Free : List ℕ → List Bool → ℕ → Type 0
Free fronts paused c = (get_or fronts c 0 < 8) × (get_or paused (get_or fronts c 0) false ≡ false)

-- a class of which something holds, of eight, and no higher one: "the highest class .."
abbrev pub HighestOf : (ℕ → Type 0) → ℕ → Type 0
HighestOf Free c = (c < 8) × Free c × ((d : ℕ) → c < d → d < 8 → Free d → ⊥)

-- ".. or none"
abbrev pub NoneOf : (ℕ → Type 0) → Type 0
NoneOf Free = (d : ℕ) → d < 8 → Free d → ⊥

-- the same of a head, by its timers: the front of class c is present and its timer is 0
abbrev pub FreeAt : Head → List ℕ → ℕ → Type 0
FreeAt head fronts c = (get_or fronts c 0 < 8) × (timer head (get_or fronts c 0) ≡ 0)
