-- What holds in every state that a run reaches: the facts of the link, and those of each enabled priority. It holds at the start.
use Prim.Native.Nat.{ℕ}
use mathlib.Core.Path.{◌≡◌, refl, sym, subst}
use native.Mathlib.Omega.{arith}
use lib.ListN.{length}
use Rattle.std.specs.Prelude.{None}
use Rattle.ground.specs.Pick.{pick}
use Rattle.ground.specs.Eight.{some}
use Rattle.moments.specs.Moments.{Moment, due_on}
use Rattle.head.specs.Timers.{timer}
use Rattle.rooms.specs.declared.Room.{Room}
use Rattle.recorder.specs.declared.Watch.{Watch}
use Rattle.marks.specs.Marks.{some_wanted}
use Rattle.recorder.specs.Watching.{Recorder, room_at, limits_of}
use Rattle.marks.proofs.MarkLaws.{some_wanted_lem}
use Rattle.recorder.proofs.RoomLaws.{EightRooms, eight_fresh, fresh_room}
use Rattle.bench_meaning.specs.State.{State, empty, with_recorder}
use Rattle.bench_meaning.specs.Step.{oldest_end}
use Rattle.no_loss.proofs.Link.{Marked, Link}
use Rattle.no_loss.proofs.LinkSteps.{marked_one, link_marked}
use Rattle.no_loss.proofs.Group.{Group}
use Rattle.no_loss.proofs.Watches.{SoundWatch, terms_of, Enabled, one_of_eight}
use Rattle.rooms.proofs.Moves.{Shown, shown}
use Rattle.no_loss.proofs.Moving.{shown_at, Moving}
use Rattle.no_loss.proofs.Own.{Own}

-- the facts of a priority in a state, with a due moment and what its group shows of its room
abbrev pub OwnWith : Watch → State → ℕ → Moment → Shown → Type 0
OwnWith w s p due room = Own w p s.clock (timer s.head) due s.recorder.marks.last s.to_b.row s.to_b.free s.to_a.row room

-- the invariant
pub record Inv (w : Watch) (s : State) : Type 0 where
  pub link : Link (terms_of w) s.clock s.to_b.free s.to_a.free s.recorder.marks.due s.recorder.marks.last
      (some_wanted s.recorder.marks) s.to_b.row s.to_a.row
  pub rooms : EightRooms s.recorder
  pub timers : length s.head.timers ≡ 8
  pub enabled : s.head.enabled ≡ w.settings.enabled
  pub own : (p : ℕ) → Enabled w p → OwnWith w s p s.recorder.marks.due (shown_at w s.recorder p)

-- where a priority is wanted, the refresh is looked after
pub marked_at : {w : Watch} {s : State} (p : ℕ) → Enabled w p → Inv w s →
    Marked (terms_of w) s.clock s.to_a.free s.recorder.marks.due s.recorder.marks.last (room_at s.recorder p).wanted
marked_at {w} {s} p on inv =
    marked_one (room_at s.recorder p).wanted (some_wanted_lem s.recorder.marks inv.rooms.wanted p (one_of_eight w p on)) inv.link.marked

-- the recorder moves, and each enabled priority keeps its facts
pub inv_moved : {w : Watch} {Arrives : ℕ → Type 0} {octets : ℕ → ℕ} (s : State) (r' : Recorder)
    (m : Moving w s.clock s.recorder Arrives octets r') → Inv w s →
    ((p : ℕ) → Enabled w p → OwnWith w s p (due_on m.changed s.clock s.recorder.marks.due) (shown_at w r' p)) → Inv w (with_recorder s r')
inv_moved {w} s r' m inv own =
    record {
      link = as_marked (λ due last. Link (terms_of w) s.clock s.to_b.free s.to_a.free due last (some_wanted r'.marks) s.to_b.row s.to_a.row)
          (link_marked m.changed _ m.same inv.link);
      rooms = m.rooms;
      timers = inv.timers;
      enabled = inv.enabled;
      own = λ p on.
          as_marked (λ due last. Own w p s.clock (timer s.head) due last s.to_b.row s.to_b.free s.to_a.row (shown_at w r' p)) (own p on);
    }
  where
    -- what holds of the marks as they then are
    as_marked : (P : Moment → Moment → Type 0) → P (due_on m.changed s.clock s.recorder.marks.due) s.recorder.marks.last →
        P r'.marks.due r'.marks.last
    as_marked P h = subst (λ (d : Moment). P d r'.marks.last) (sym m.due) (subst (P _) (sym m.last) h)

-- "Time starts at 0, buffers empty."
pub inv_empty : (w : Watch) → SoundWatch w → Inv w (empty w)
unfolding some pick oldest_end limits_of
inv_empty w sound =
    record {
      link =
          record {
            time = omega arith;
            to_b = record { wire = omega arith; most = tt; underway = record { follows = omega arith; in_time = tt } };
            to_a = record { underway = record { follows = omega arith; in_time = tt }; count = omega arith };
            marked = record { due_time = omega arith; refreshed = tt; started = tt };
          };
      rooms = eight_fresh;
      timers = refl;
      enabled = refl;
      own = λ p on.
          subst (λ (x : Room). OwnWith w (empty w) p None (shown (limits_of w p) x)) (sym (fresh_room p (one_of_eight w p on)))
          (record { group = Group.calm (omega (arith, sound.enough p on)); dropped = refl; worst = omega arith });
    }
