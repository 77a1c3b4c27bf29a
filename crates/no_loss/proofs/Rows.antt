-- Rows of frames under way, oldest first: how they follow one another on a wire, and what a row keeps as frames start and leave.
use Prim.Native.Nat.{ℕ, ◌+◌, ◌≤◌}
use mathlib.Core.Path.{◌≡◌}
use mathlib.Core.List.{List, [], ◌∷◌, ◌++◌}
use native.Mathlib.Omega.{arith}
use Rattle.moments.proofs.Reached.{Reached, NotPast}
use Rattle.bench_meaning.specs.State.{Frame}
use Rattle.bench_meaning.specs.Step.{oldest_end}

-- the length of a PFC frame on the wire, which it holds for 84 octet times
abbrev pub pfc_length : Frame → ℕ
pfc_length f = 64

-- every frame of a row is such
abbrev pub Each : (Frame → Type 0) → List Frame → Type 0
Each Such [] = Unit {0}
Each Such (f ∷ rest) = Such f × Each Such rest

-- from a moment on, frames of these lengths hold the wire one after the other, until it gets free
abbrev pub Follows : (Frame → ℕ) → ℕ → List Frame → ℕ → Type 0
Follows long base [] free = base ≤ free
Follows long base (f ∷ rest) free = (base + (long f + 20) ≤ f.end) × Follows long f.end rest free

-- "It must have arrived D octet times after that, a PFC frame P after.": the oldest, and so every later one
abbrev pub InTime : ℕ → ℕ → List Frame → Type 0
InTime bound t row = NotPast (oldest_end row) bound t

-- the wire time of the oldest has ended
abbrev pub Ended : List Frame → ℕ → Type 0
Ended row t = Reached (oldest_end row) t

-- a frame that starts is such, too
pub each_started : (Such : Frame → Type 0) (row : List Frame) (f : Frame) → Each Such row → Such f → Each Such (row ++ (f ∷ []))
each_started Such [] f r h = (h, tt)
each_started Such (g ∷ rest) f r h = (r.0, each_started Such rest f r.1 h)

-- a frame that starts is in time
pub started_in_time : (bound t : ℕ) (row : List Frame) (f : Frame) → InTime bound t row → t ≤ f.end → InTime bound t (row ++ (f ∷ []))
unfolding oldest_end
started_in_time bound t [] f r h = omega arith
started_in_time bound t (g ∷ rest) f r h = r

module _ (long : Frame → ℕ) where
  -- a row that follows from a moment follows from any earlier one
  pub follows_earlier : (earlier base : ℕ) (row : List Frame) (free : ℕ) → earlier ≤ base → Follows long base row free → Follows long earlier row free
  follows_earlier earlier base [] free h r = omega arith
  follows_earlier earlier base (f ∷ rest) free h r = (omega arith, r.1)

  -- and where the wire gets free later
  pub follows_longer : (base : ℕ) (row : List Frame) (free later : ℕ) → free ≤ later → Follows long base row free → Follows long base row later
  follows_longer base [] free later h r = omega arith
  follows_longer base (f ∷ rest) free later h r = (r.0, follows_longer f.end rest free later h r.1)

  -- the wire gets free no earlier than the moment that a row follows from
  pub follows_free : (base : ℕ) (row : List Frame) (free : ℕ) → Follows long base row free → base ≤ free
  follows_free base [] free r = r
  follows_free base (f ∷ rest) free r = let h = follows_free f.end rest free r.1 in omega arith

  -- every frame, of whatever kind, ends by then
  pub ends_by_free : (Such : Frame → Type 0) (moment base : ℕ) (row : List Frame) (free : ℕ) → Follows long base row free → free ≤ moment →
      Each (λ f. Such f → f.end ≤ moment) row
  ends_by_free Such moment base [] free r h = tt
  ends_by_free Such moment base (f ∷ rest) free r h =
      let g = follows_free f.end rest free r.1 in ((λ such. omega arith), ends_by_free Such moment f.end rest free r.1 h)

  -- a frame that starts once the wire is free is the newest of the row
  pub follows_started : (base : ℕ) (row : List Frame) (free : ℕ) (f : Frame) → Follows long base row free → free + (long f + 20) ≤ f.end →
      Follows long base (row ++ (f ∷ [])) f.end
  follows_started base [] free f r h = (omega arith, omega arith)
  follows_started base (g ∷ rest) free f r h = (r.0, follows_started g.end rest free f r.1 h)

  -- behind a frame that had to leave within a bound of its end, the row has at least one octet time more
  pub next_in_time : (bound t end : ℕ) (rest : List Frame) (free : ℕ) → t ≤ end + bound + 1 → Follows long end rest free → InTime bound t rest
  unfolding oldest_end
  next_in_time bound t end [] free h r = tt
  next_in_time bound t end (g ∷ rest) free h r = omega (arith, r.0)

-- the frames under way on a wire that gets free at a moment: they follow one another, and each is in time
pub record Underway (long : Frame → ℕ) (bound t free : ℕ) (row : List Frame) : Type 0 where
  pub follows : Follows long 0 row free
  pub in_time : InTime bound t row

module _ {long : Frame → ℕ} {bound t free : ℕ} where
  -- a frame starts once the wire is free
  pub underway_started : {row : List Frame} (f : Frame) → free ≤ t → f.end ≡ t + (long f + 20) → Underway long bound t free row →
      Underway long bound t f.end (row ++ (f ∷ []))
  underway_started {row} f idle ends u =
      record {
        follows = follows_started long 0 row free f u.follows (omega arith);
        in_time = started_in_time bound t row f u.in_time (omega arith);
      }

  -- the oldest leaves
  pub underway_left : {f : Frame} {rest : List Frame} → Underway long bound t free (f ∷ rest) → Underway long bound t free rest
  unfolding oldest_end
  underway_left {f} {rest} u =
      let left = u.in_time in
      record {
        follows = follows_earlier long 0 f.end rest free (omega arith) u.follows.1;
        in_time = next_in_time long bound t f.end rest free (omega arith) u.follows.1;
      }
