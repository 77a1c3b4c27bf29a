-- The facts of the link that need no group: the frames under way in each direction, and what is due and was started last.
use Prim.Native.Nat.{ℕ, ◌+◌, ◌^◌, ◌≤◌, ◌<◌}
use mathlib.Core.Bool.{Bool, true, false}
use mathlib.Core.Path.{◌≡◌}
use mathlib.Core.List.{List}
use lib.ListN.{length}
use Rattle.std.specs.Prelude.{None, Some}
use Rattle.moments.specs.Moments.{Moment, at}
use Rattle.bench_meaning.specs.State.{Frame, length_of}
use Rattle.no_loss.proofs.Terms.{Terms, W}
use Rattle.no_loss.proofs.Rows.{pfc_length, Each, Underway}

-- "A due PFC frame must start within G + W", and B's wire is free by then
abbrev pub DueInTime : Terms → ℕ → ℕ → Moment → Type 0
DueInTime c t b_free None = b_free ≤ t + W c
DueInTime c t b_free (Some d) = (d.0 ≤ t) × (t ≤ d.0 + c.G + W c) × (b_free ≤ d.0 + c.G + W c)

-- where something is wanted and nothing is due, a PFC frame has started and its refresh is still to come
abbrev pub Refreshed : Terms → ℕ → Bool → Moment → Moment → Type 0
Refreshed c t false due last = Unit {0}
Refreshed c t true (Some d) last = Unit {0}
Refreshed c t true None None = ⊥
Refreshed c t true None (Some m) = t < m.0 + c.I

-- the last PFC frame started no later than now
abbrev pub StartedBy : ℕ → Moment → Type 0
StartedBy t None = Unit {0}
StartedBy t (Some m) = m.0 ≤ t

-- the moment of the refresh, while something is wanted
abbrev pub RefreshIs : Terms → Bool → Moment → Moment → Type 0
RefreshIs c false last refresh = refresh ≡ None
RefreshIs c true None refresh = refresh ≡ None
RefreshIs c true (Some m) refresh = refresh ≡ at (m.0 + c.I)

-- the data frames under way, and the moment at which A's wire gets free
pub record ToB (c : Terms) (t a_free : ℕ) (data_row : List Frame) : Type 0 where
  pub wire : a_free ≤ t + W c
  pub most : Each (λ f. length_of f ≤ c.M) data_row
  pub underway : Underway length_of c.D t a_free data_row

-- the PFC frames under way, and the moment at which B's wire gets free
pub record ToA (c : Terms) (t b_free : ℕ) (pfc_row : List Frame) : Type 0 where
  pub underway : Underway pfc_length c.P t b_free pfc_row
  pub count : length pfc_row ≤ 128

-- since when PFC is due and when the last one started, where something is wanted or nothing is
pub record Marked (c : Terms) (t b_free : ℕ) (due last : Moment) (wanted : Bool) : Type 0 where
  pub due_time : DueInTime c t b_free due
  pub refreshed : Refreshed c t wanted due last
  pub started : StartedBy t last

-- the link at a time: both directions, and what is due where something is wanted
pub record Link (c : Terms) (t a_free b_free : ℕ) (due last : Moment) (wanted : Bool) (data_row pfc_row : List Frame) : Type 0 where
  pub time : t ≤ 2 ^ 40
  pub to_b : ToB c t a_free data_row
  pub to_a : ToA c t b_free pfc_row
  pub marked : Marked c t b_free due last wanted
