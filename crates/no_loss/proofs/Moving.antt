-- What an arrival and a taking do at the recorder: a move of the room for each enabled priority, beside what becomes of the marks. Whoever
-- shows something of every enabled priority needs no more of the recorder. It assumes that the recorder has a room and a mark for each of
-- the eight.
use Prim.Native.Nat.{ℕ}
use mathlib.Core.Bool.{Bool, true, false, false≢true}
use mathlib.Core.Path.{◌≡◌, refl, sym, ap, ◌∙◌, subst}
use native.Mathlib.Omega.{arith}
use borrow.Author.Tests.{eq-eqb, ne_eqb}
use lib.Dec.{eqb}
use Rattle.ground.specs.Pick.{pick}
use Rattle.ground.proofs.Pick.{pick_yes, pick_no}
use Rattle.moments.specs.Moments.{due_on}
use Rattle.moments.proofs.DueLaws.{due_on_none}
use Rattle.rooms.specs.declared.Room.{Room}
use Rattle.rooms.specs.Room.{arrived_in, taken_from}
use Rattle.settings.specs.Settings.{is_enabled}
use Rattle.marks.specs.Marks.{some_wanted, differ, changes, with_mark}
use Rattle.marks.proofs.MarkLaws.{changes_below, same_wanted, differ_from_false}
use Rattle.recorder.specs.declared.Watch.{Watch}
use Rattle.recorder.specs.Watching.{Recorder, room_at, limits_of, with_room, arrived_with, arrived_at, taken_with, taken_at}
use Rattle.recorder.proofs.RoomLaws.{EightRooms, eight_put, room_then}
use Rattle.rooms.proofs.Moves.{Shown, shown, Brought, Eased, Moves, arrival_brings, taking_eases}
use Rattle.no_loss.proofs.Watches.{Enabled, one_of_eight, Shares}

-- what those that share with a priority show of their room
abbrev pub shown_at : Watch → Recorder → ℕ → Shown
shown_at w r p = shown (limits_of w p) (room_at r p)

-- the recorder moves: a mark changes or none does, one that becomes wanted is noticed, and each enabled priority's room makes a move
pub record Moving (w : Watch) (clock : ℕ) (r : Recorder) (Arrives : ℕ → Type 0) (octets : ℕ → ℕ) (r' : Recorder) : Type 0 where
  pub changed : Bool
  pub rooms : EightRooms r'
  pub due : r'.marks.due ≡ due_on changed clock r.marks.due
  pub last : r'.marks.last ≡ r.marks.last
  pub same : changed ≡ false → some_wanted r'.marks ≡ some_wanted r.marks
  pub noticed : (p : ℕ) → Enabled w p → (shown_at w r p).wanted ≡ false → (shown_at w r' p).wanted ≡ true → changed ≡ true
  pub moves : (p : ℕ) → Enabled w p → Moves (limits_of w p).mark (Arrives p) (shown_at w r p) (octets p) (shown_at w r' p)

module _ (w : Watch) (clock : ℕ) (r : Recorder) (all : EightRooms r) where
  -- nothing changes
  none_moves : {Arrives : ℕ → Type 0} {octets : ℕ → ℕ} → ((p : ℕ) → Enabled w p → octets p ≡ 0) → Moving w clock r Arrives octets r
  none_moves {Arrives} none =
      record {
        changed = false;
        rooms = all;
        due = sym (due_on_none clock r.marks.due);
        last = refl;
        same = λ stays. refl;
        noticed = λ p on off now. absurd (false≢true (sym off ∙ now));
        moves = λ p on.
            subst (λ (n : ℕ). Moves (limits_of w p).mark (Arrives p) (shown_at w r p) n (shown_at w r p)) (sym (none p on)) Moves.alone;
      }

  -- one room changes: that of the priorities which share it; every other is left alone
  one_moves : {Arrives : ℕ → Type 0} {octets : ℕ → ℕ} (q : ℕ) (room : Room) → Enabled w q →
      ((p : ℕ) → Shares p q → Moves (limits_of w p).mark (Arrives p) (shown_at w r p) (octets p) (shown (limits_of w p) room)) →
      ((p : ℕ) → (Shares p q → ⊥) → octets p ≡ 0) → Moving w clock r Arrives octets (with_room r q room clock)
  unfolding with_room with_mark
  one_moves {Arrives} {octets} q room there own other =
      record {
        changed = changed;
        rooms = eight_put r q room clock all;
        due = refl;
        last = refl;
        same = same_wanted r.marks q room.wanted clock;
        noticed = λ p on.
            room_then r q room clock all (λ (x : Room). (room_at r p).wanted ≡ false → x.wanted ≡ true → changed ≡ true) p (one_of_eight w p on)
            (λ same. subst (λ (k : ℕ). (room_at r k).wanted ≡ false → room.wanted ≡ true → changed ≡ true) (sym same) own_noticed)
            (λ apart off now. absurd (false≢true (sym off ∙ now)));
        moves = λ p on.
            room_then r q room clock all
            (λ (x : Room). Moves (limits_of w p).mark (Arrives p) (shown_at w r p) (octets p) (shown (limits_of w p) x)) p (one_of_eight w p on)
            (λ same. own p (sym same))
            (λ apart.
            subst (λ (n : ℕ). Moves (limits_of w p).mark (Arrives p) (shown_at w r p) n (shown_at w r p)) (sym (other p (λ mine. apart (sym mine))))
            Moves.alone);
      }
    where
      changed : Bool
      changed = changes r.marks q room.wanted

      -- an enabled priority has a mark: it changes where it differs from the room's
      own_noticed : (room_at r q).wanted ≡ false → room.wanted ≡ true → changed ≡ true
      own_noticed off now =
          changes_below r.marks q room.wanted (omega (arith, all.wanted, one_of_eight w q there)) ∙
          ap (λ (was : Bool). differ was room.wanted) off ∙
          differ_from_false room.wanted ∙
          now

  -- a frame of a priority arrives, and brings its octets to those that share with it
  pub arrived_moves : (q size : ℕ) → Moving w clock r (λ p. Shares p q) (λ p. pick (eqb q p) size 0) (arrived_at w r q size clock)
  unfolding arrived_at arrived_with pick
  arrived_moves q size = go (is_enabled w.settings.enabled q) refl
    where
      room : Room
      room = arrived_in (limits_of w q) (room_at r q) size

      own : (p : ℕ) → Shares p q → Moves (limits_of w p).mark (Shares p q) (shown_at w r p) (pick (eqb q p) size 0) (shown (limits_of w p) room)
      own p mine =
          Moves.brought mine
          (subst (λ (n : ℕ). Brought (limits_of w p).mark (shown_at w r p) n (shown (limits_of w p) room)) (sym (pick_yes size 0 (eq-eqb q p mine)))
          (subst (λ (k : ℕ). Brought (limits_of w k).mark (shown_at w r k) size (shown (limits_of w k) room)) mine
          (arrival_brings (limits_of w q) (room_at r q) size)))

      go : (on : Bool) → is_enabled w.settings.enabled q ≡ on →
          Moving w clock r (λ p. Shares p q) (λ p. pick (eqb q p) size 0) (pick on (with_room r q room clock) r)
      go true there = one_moves q room there own (λ p apart. pick_no size 0 (ne_eqb q p apart))
      go false there =
          none_moves (λ p on. pick_no size 0 (ne_eqb q p (λ same. false≢true (sym there ∙ ap (is_enabled w.settings.enabled) same ∙ on))))

  -- octets of an enabled priority are taken
  pub taken_moves : (q octets : ℕ) → Enabled w q → Moving w clock r (λ p. ⊥) (λ p. 0) (taken_at w r q octets clock)
  unfolding taken_at taken_with
  taken_moves q octets there =
      let room = taken_from (limits_of w q) (room_at r q) octets in
      one_moves q room there
      (λ p mine.
      Moves.eased
      (subst (λ (k : ℕ). Eased (limits_of w k).mark (shown_at w r k) (shown (limits_of w k) room)) mine
      (taking_eases (limits_of w q) (room_at r q) octets)))
      (λ p apart. refl)
