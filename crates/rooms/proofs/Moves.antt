-- Moves of a room, said once for whatever set of priorities shares it: it is left alone, is brought octets, or is eased. They speak of what
-- a group shows of its room, whatever that room is made of; a room of its own moves so at each arrival and taking. A move takes the
-- counters on as the sums that they stand for, cut off at 64 bits. For whoever shows that no frame is dropped and that what a room
-- reports was counted. Each law assumes what it states.
use Prim.Native.Nat.{ℕ, ◌+◌, ◌-◌, ◌^◌, ◌≤◌, ◌<◌, max}
use mathlib.Core.Bool.{Bool, true, false}
use mathlib.Core.Path.{◌≡◌, refl, sym, ap, ◌∙◌}
use native.Mathlib.Omega.{arith}
use borrow.Author.Tests.{le-leb}
use lib.Dec.{leb}
use Rattle.ground.specs.Pick.{pick}
use Rattle.ground.proofs.Pick.{pick_yes, pick_no}
use Rattle.units.specs.Units.{within64}
use Rattle.rooms.specs.Room.{free_of, fits, held_after, dropped_after, span_after, span_kept, arrived_in, taken_from}
use Rattle.rooms.specs.RoomRun.RoomEvent.{arrival, taking}
use Rattle.rooms.specs.declared.Room.{Room}
use Rattle.rooms.specs.declared.Limits.{Limits}
use Rattle.rooms.proofs.RoomLaws.{free_after_event, still_unwanted}

-- what a group shows of its room: what is free of it, whether pause is wanted, the span, the worst, and what was dropped
pub record Shown : Type 0 where
  pub free : ℕ
  pub wanted : Bool
  pub span : ℕ
  pub worst : ℕ
  pub dropped : ℕ

-- a room of its own shows what it keeps
abbrev pub shown : Limits → Room → Shown
shown limits room =
    record { free = free_of limits.size room.held; wanted = room.wanted; span = room.span; worst = room.worst; dropped = room.dropped }

-- while pause is not wanted the mark's octets are free
abbrev pub MarkFree : ℕ → Shown → Type 0
MarkFree mark room = room.wanted ≡ false → mark ≤ room.free

-- octets arrive: they are dropped where they do not fit, count in the span while pause is wanted, and fill no more than themselves
pub record Brought (mark : ℕ) (from : Shown) (octets : ℕ) (to : Shown) : Type 0 where
  pub dropped_then : to.dropped ≡ pick (leb octets from.free) from.dropped (within64 (from.dropped + octets))
  pub span_then : to.span ≡ span_after from.wanted from.span octets
  pub worst_then : to.worst ≡ max from.worst to.span
  pub filled : from.free ≤ to.free + octets
  pub mark_free : MarkFree mark to

-- no less is free: nothing is dropped, pause does not become wanted, and the span goes on while it is wanted
pub record Eased (mark : ℕ) (from to : Shown) : Type 0 where
  pub dropped_stays : to.dropped ≡ from.dropped
  pub span_then : to.span ≡ span_kept to.wanted from.span
  pub worst_stays : to.worst ≡ from.worst
  pub freed : from.free ≤ to.free
  pub none_wanted : MarkFree mark from → from.wanted ≡ false → to.wanted ≡ false
  pub mark_free : MarkFree mark to

-- one move, with the octets that it brings; where it brings any, a frame of the group's arrives
pub data Moves (mark : ℕ) (Arrives : Type 0) (from : Shown) : ℕ → Shown → Type 0 where
  alone : Moves mark Arrives from 0 from
  brought : {octets : ℕ} {to : Shown} → Arrives → Brought mark from octets to → Moves mark Arrives from octets to
  eased : {to : Shown} → Eased mark from to → Moves mark Arrives from 0 to

module _ {mark octets : ℕ} {from to : Shown} (b : Brought mark from octets to) where
  -- what is at most the free room is not dropped
  pub fits_whole : octets ≤ from.free → to.dropped ≡ from.dropped
  fits_whole fit = b.dropped_then ∙ pick_yes _ _ (le-leb octets from.free fit)

  -- while pause is wanted the span grows by what arrives
  pub span_grows : from.wanted ≡ true → from.span + octets < 2 ^ 64 → to.span ≡ from.span + octets
  unfolding span_after
  span_grows wanted small = b.span_then ∙ pick_yes _ _ wanted ∙ omega arith

  -- "the crossing frame not counted"
  pub crossing_not_counted : from.wanted ≡ false → to.span ≡ 0
  unfolding span_after
  crossing_not_counted not_wanted = b.span_then ∙ pick_no _ _ not_wanted

-- a room that is eased keeps its span while pause stays wanted
pub span_stays : {mark : ℕ} {from to : Shown} → Eased mark from to → to.wanted ≡ true → to.span ≡ from.span
unfolding span_kept
span_stays e wanted = e.span_then ∙ pick_yes _ _ wanted

-- a move, whatever else is known of the frame
pub moves_any : {mark octets : ℕ} {Arrives : Type 0} {from to : Shown} → Moves mark Arrives from octets to → Moves mark (Unit {0}) from octets to
moves_any Moves.alone = Moves.alone
moves_any (Moves.brought mine b) = Moves.brought tt b
moves_any (Moves.eased e) = Moves.eased e

module _ (limits : Limits) (room : Room) (octets : ℕ) where
  -- a frame of a length arrives in a room of its own
  pub arrival_brings : Brought limits.mark (shown limits room) octets (shown limits (arrived_in limits room octets))
  unfolding arrived_in held_after dropped_after pick
  arrival_brings =
      record {
        dropped_then = refl;
        span_then = refl;
        worst_then = refl;
        filled = go (fits limits.size room.held octets);
        mark_free = free_after_event limits room (arrival octets);
      }
    where
      go : (fit : Bool) → limits.size - room.held ≤ (limits.size - pick fit (room.held + octets) room.held) + octets
      go true = omega arith
      go false = omega arith

  -- octets are taken from it
  pub taking_eases : Eased limits.mark (shown limits room) (shown limits (taken_from limits room octets))
  unfolding taken_from
  taking_eases =
      record {
        dropped_stays = refl;
        span_then = refl;
        worst_stays = refl;
        freed = omega arith;
        none_wanted = still_unwanted limits room octets;
        mark_free = free_after_event limits room (taking octets);
      }

-- the counters beside the sums: what was dropped, the worst and, while pause is wanted, the span, which the worst counts in
pub record Tally (room : Shown) (dropped span worst : ℕ) : Type 0 where
  pub dropped_is : room.dropped ≡ within64 dropped
  pub worst_is : room.worst ≡ within64 worst
  pub span_is : room.wanted ≡ true → (room.span ≡ within64 span) × (span ≤ worst)

-- an arrival adds to what was dropped what does not fit
drops_more : (fit : Bool) (counted dropped octets : ℕ) → counted ≡ within64 dropped →
    pick fit counted (within64 (counted + octets)) ≡ within64 (dropped + pick fit 0 octets)
unfolding pick
drops_more true counted dropped octets e = omega arith
drops_more false counted dropped octets e = omega arith

-- it adds to the span while pause is wanted
spans_more : (wanted : Bool) (counted span octets : ℕ) → (wanted ≡ true → counted ≡ within64 span) →
    span_after wanted counted octets ≡ within64 (pick wanted (span + octets) 0)
unfolding span_after pick
spans_more true counted span octets e = let same = e refl in omega arith
spans_more false counted span octets e = omega arith

-- the larger of two counts is that of the larger sum
larger_then : (a b c d : ℕ) → a ≡ within64 c → b ≡ within64 d → max a b ≡ within64 (max c d)
larger_then a b c d e f = omega arith

-- nothing that arrives, nothing that does not fit
none_more : (fit : Bool) (dropped : ℕ) → dropped + pick fit 0 0 ≡ dropped
unfolding pick
none_more true dropped = omega arith
none_more false dropped = omega arith

-- nor a new worst
no_worse : (wanted : Bool) (span worst : ℕ) → (wanted ≡ true → span ≤ worst) → max worst (pick wanted (span + 0) 0) ≡ worst
unfolding pick
no_worse true span worst within = let h = within refl in omega arith
no_worse false span worst within = omega arith

-- what is wanted once a room is eased was wanted before
was_wanted : {mark : ℕ} {from to : Shown} → Eased mark from to → MarkFree mark from → to.wanted ≡ true → from.wanted ≡ true
was_wanted {from = from} {to = to} e free = go from.wanted refl
  where
    go : (was : Bool) → from.wanted ≡ was → to.wanted ≡ true → was ≡ true
    go true is now = refl
    go false is now = sym (e.none_wanted free is) ∙ now

module _ {from : Shown} {dropped span worst : ℕ} where
  -- what brings nothing leaves the sums: dropped and worst stay, and where pause is still wanted so does the span
  tally_left : {to : Shown} (fit : Bool) → to.dropped ≡ from.dropped → to.worst ≡ from.worst →
      (to.wanted ≡ true → (from.wanted ≡ true) × (to.span ≡ from.span)) → Tally from dropped span worst →
      Tally to (dropped + pick fit 0 0) (pick from.wanted (span + 0) 0) (max worst (pick from.wanted (span + 0) 0))
  tally_left fit same_dropped same_worst on h =
      record {
        dropped_is = same_dropped ∙ h.dropped_is ∙ ap (λ (x : ℕ). within64 x) (sym (none_more fit dropped));
        worst_is = same_worst ∙ h.worst_is ∙ ap (λ (x : ℕ). within64 x) (sym (no_worse from.wanted span worst (λ e. (h.span_is e).1)));
        span_is = λ now.
            let was = on now in let is = h.span_is was.0 in let goes = pick_yes (span + 0) 0 was.0 in
            (was.1 ∙ is.0 ∙ ap (λ (x : ℕ). within64 x) (omega arith), omega arith);
      }

  -- one move: the counters go on as the sums do
  pub tally_on : {mark : ℕ} {Arrives : Type 0} {octets : ℕ} {to : Shown} → Moves mark Arrives from octets to → MarkFree mark from →
      Tally from dropped span worst →
      Tally to (dropped + pick (leb octets from.free) 0 octets) (pick from.wanted (span + octets) 0)
      (max worst (pick from.wanted (span + octets) 0))
  tally_on Moves.alone free h = tally_left _ refl refl (λ on. (on, refl)) h
  tally_on (Moves.eased e) free h =
      tally_left _ e.dropped_stays e.worst_stays (λ on. (was_wanted e free on, span_stays e on)) h
  tally_on {octets = octets} {to = to} (Moves.brought mine b) free h =
      let span_is = spans_more from.wanted from.span span octets (λ on. (h.span_is on).0) in
      record {
        dropped_is = b.dropped_then ∙ drops_more (leb octets from.free) from.dropped dropped octets h.dropped_is;
        worst_is = b.worst_then ∙ larger_then from.worst to.span worst _ h.worst_is (b.span_then ∙ span_is);
        span_is = λ on. (b.span_then ∙ span_is, omega arith);
      }
