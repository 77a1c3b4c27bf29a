-- A group: the priorities that share one room, one wanted mark and one span count. What keeps its frames from being lost, said of the
-- components that it speaks of: which frames are the group's, which PFC frames ask T for all of it, and the timers at A.
use Prim.Native.Nat.{ℕ, ◌+◌, ◌-◌, ◌*◌, ◌/◌, ◌≤◌, ◌<◌}
use mathlib.Core.Bool.{Bool, true, false}
use mathlib.Core.List.{List, [], ◌∷◌}
use Rattle.std.specs.Prelude.{None, Some}
use Rattle.moments.specs.Moments.{Moment}
use Rattle.bench_meaning.specs.State.{Frame, priority_of, length_of}
use Rattle.no_loss.proofs.Terms.{Terms, W, O, H, K, lost, slack}
use Rattle.no_loss.proofs.Rows.{Each, Follows}

-- PFC is due since d, and A stops by `stop` if the PFC frame starts in time
abbrev pub Waits : Terms → Moment → ℕ → Type 0
Waits c None stop = ⊥
Waits c (Some d) stop = d.0 + O c + lost c ≤ stop

-- if PFC is due, it is due no later than the refresh of the last PFC frame
abbrev pub Prompt : Terms → Moment → Moment → Type 0
Prompt c None last = Unit {0}
Prompt c (Some d) None = ⊥
Prompt c (Some d) (Some m) = d.0 ≤ m.0 + c.I

-- the last PFC frame that started ends by a moment
abbrev pub EndedBy : Moment → ℕ → Type 0
EndedBy None moment = ⊥
EndedBy (Some m) moment = m.0 + 84 ≤ moment

-- after a PFC frame that ends at `end`, a row of PFC frames that each ask T, each ending at most K after the one before, up to the last
-- that started
abbrev pub Current : Terms → (Frame → Type 0) → Moment → ℕ → List Frame → Type 0
Current c Asks last end [] = EndedBy last end
Current c Asks last end (f ∷ rest) = Asks f × (f.end ≤ end + K c) × Current c Asks last f.end rest

-- the PFC frames under way are older ones, then current ones, of which the first takes effect by `stop`, with time left for losses: the
-- oldest under way with what is left once j have been lost, one behind it with all, since the one before it may still take effect
pub data Asking (c : Terms) (Asks : Frame → Type 0) (last : Moment) (stop : ℕ) : ℕ → List Frame → Type 0 where
  here : {left : ℕ} {f : Frame} {rest : List Frame} → Asks f → f.end + c.P + left ≤ stop → Current c Asks last f.end rest →
      Asking c Asks last stop left (f ∷ rest)
  later : {left : ℕ} {f : Frame} {rest : List Frame} → Asking c Asks last stop (lost c) rest → Asking c Asks last stop left (f ∷ rest)

-- a timer of a group: any number that is at most each of its priorities'
abbrev pub AtMostEach : (ℕ → Type 0) → (ℕ → ℕ) → ℕ → Type 0
AtMostEach Mine timers timer = (n : ℕ) → Mine n → timer ≤ timers n

-- how far the request has come, where j PFC frames in a row have been lost: waiting to be sent, asked on the way, missed (every asking frame
-- so far was lost), or A stopped. Where it was missed or A is stopped, `end` is the end of the PFC frame that was last lost or last took
-- effect; the next one takes effect by `stop`, or before a timer of the group would run out.
pub data Mode (c : Terms) (j : ℕ) (Mine : ℕ → Type 0) (Asks : Frame → Type 0) (t : ℕ) (timers : ℕ → ℕ) (due last : Moment) (pfc_row : List Frame)
    (stop : ℕ) : Type 0 where
  waiting : Waits c due stop → Mode c j Mine Asks t timers due last pfc_row stop
  asked : Asking c Asks last stop (slack c j) pfc_row → Prompt c due last → Mode c j Mine Asks t timers due last pfc_row stop
  missed : (end : ℕ) → Current c Asks last end pfc_row → Prompt c due last → end + K c + c.P + slack c j ≤ stop →
      Mode c j Mine Asks t timers due last pfc_row stop
  stopped : (end timer : ℕ) → Current c Asks last end pfc_row → Prompt c due last → AtMostEach Mine timers timer →
      end + K c + c.P + slack c j < 64 * (t / 64 + timer) → Mode c j Mine Asks t timers due last pfc_row stop

-- a wanted group: A has stopped sending its frames by `stop`. `base` is any moment from which the data frames under way follow one another;
-- what can arrive between the two, with what has arrived in the span, is within the headroom (arriving), the group's frames under way
-- end in time for that (ends), it fits (fitting), and A will be stopped or is (mode)
pub record Wanted (c : Terms) (j : ℕ) (Mine : ℕ → Type 0) (Asks : Frame → Type 0) (t : ℕ) (timers : ℕ → ℕ) (due last : Moment) (data_row : List Frame)
    (a_free : ℕ) (pfc_row : List Frame) (free span : ℕ) : Type 0 where
  pub stop : ℕ
  pub base : ℕ
  pub follows : Follows length_of base data_row a_free
  pub arriving : span + ((stop + W c) - base) ≤ H c
  pub ends : Each (λ f. Mine (priority_of f) → f.end ≤ stop + W c) data_row
  pub fitting : H c ≤ free + span
  pub mode : Mode c j Mine Asks t timers due last pfc_row stop

-- a group by its wanted mark, its free room and its span count: where pause is not wanted a frame of M octets fits and the headroom is
-- left after it
pub data Group (c : Terms) (j : ℕ) (Mine : ℕ → Type 0) (Asks : Frame → Type 0) (t : ℕ) (timers : ℕ → ℕ) (due last : Moment) (data_row : List Frame) (a_free : ℕ)
    (pfc_row : List Frame) : Bool → ℕ → ℕ → Type 0 where
  calm : {free span : ℕ} → H c + c.M ≤ free → Group c j Mine Asks t timers due last data_row a_free pfc_row false free span
  wanted : {free span : ℕ} → Wanted c j Mine Asks t timers due last data_row a_free pfc_row free span →
      Group c j Mine Asks t timers due last data_row a_free pfc_row true free span
