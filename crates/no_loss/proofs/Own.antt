-- The priorities that share a room with an enabled one: their facts as one group, and what each move of the room leaves of them.
use Prim.Native.Nat.{ℕ, ◌≤◌}
use mathlib.Core.Bool.{Bool, true, false, false≢true}
use mathlib.Core.Path.{◌≡◌, sym, ◌∙◌, subst}
use mathlib.Core.List.{List, ◌∷◌}
use native.Mathlib.Omega.{arith}
use Rattle.moments.specs.Moments.{Moment, due_on}
use Rattle.recorder.specs.declared.Watch.{Watch}
use Rattle.recorder.specs.Watching.{limits_of}
use Rattle.bench_meaning.specs.State.{Frame, priority_of, length_of}
use Rattle.no_loss.proofs.Terms.{H}
use Rattle.no_loss.proofs.Link.{ToB, Marked}
use Rattle.no_loss.proofs.Group.{Group}
use Rattle.no_loss.proofs.GroupSteps.{Spans, group_on, group_fits, span_within, other_arrives, own_arrives, own_taken}
use Rattle.rooms.proofs.Moves.{Shown, MarkFree, Brought, Eased, Moves, fits_whole, span_grows, crossing_not_counted, span_stays}
use Rattle.no_loss.proofs.Watches.{SoundWatch, terms_of, Shares}
use Rattle.no_loss.proofs.Asking.{AsksFor}

-- the group of those that share with a priority
abbrev pub GroupOf : Watch → ℕ → ℕ → (ℕ → ℕ) → Moment → Moment → List Frame → ℕ → List Frame → Bool → ℕ → ℕ → Type 0
GroupOf w p t timers due last data_row a_free pfc_row wanted free span =
    Group (terms_of w) 0 (Shares p) (AsksFor w p) t timers due last data_row a_free pfc_row wanted free span

-- what holds of an enabled priority: its group's facts, nothing dropped, and no span above the headroom
pub record Own (w : Watch) (p t : ℕ) (timers : ℕ → ℕ) (due last : Moment) (data_row : List Frame) (a_free : ℕ) (pfc_row : List Frame) (room : Shown) :
    Type 0 where
  pub group : GroupOf w p t timers due last data_row a_free pfc_row room.wanted room.free room.span
  pub dropped : room.dropped ≡ 0
  pub worst : room.worst ≤ H (terms_of w)

-- where pause is not wanted, the mark's octets are free
calm_group : {w : Watch} {p t : ℕ} {timers : ℕ → ℕ} {due last : Moment} {data_row pfc_row : List Frame} {a_free : ℕ} {wanted : Bool}
    {free span : ℕ} → SoundWatch w → GroupOf w p t timers due last data_row a_free pfc_row wanted free span → wanted ≡ false → (limits_of w p).mark ≤ free
calm_group {w} {p} sound (Group.calm g) off = omega (arith, sound.mark p)
calm_group sound (Group.wanted g) off = absurd (false≢true (sym off))

module _ {w : Watch} {p t : ℕ} {timers : ℕ → ℕ} {due last : Moment} {a_free : ℕ} {pfc_row : List Frame} {room : Shown} where
  -- the same of the room
  pub own_calm : {data_row : List Frame} → SoundWatch w → Own w p t timers due last data_row a_free pfc_row room → MarkFree (limits_of w p).mark room
  own_calm sound own off = calm_group sound own.group off

  -- the same room, its group as given
  pub own_with : {t' : ℕ} {timers' : ℕ → ℕ} {due' last' : Moment} {data_row data_row' pfc_row' : List Frame} {a_free' : ℕ} →
      Own w p t timers due last data_row a_free pfc_row room →
      GroupOf w p t' timers' due' last' data_row' a_free' pfc_row' room.wanted room.free room.span →
      Own w p t' timers' due' last' data_row' a_free' pfc_row' room
  own_with own group = record { group = group; dropped = own.dropped; worst = own.worst }

  -- the oldest data frame arrives, and brings the group nothing
  pub own_passed_by : {f : Frame} {rest : List Frame} → Own w p t timers due last (f ∷ rest) a_free pfc_row room →
      Own w p t timers due last rest a_free pfc_row room
  own_passed_by own = own_with own (other_arrives own.group)

  module _ {b_free : ℕ} (changed : Bool) (sound : SoundWatch w) (m : Marked (terms_of w) t b_free due last room.wanted) where
    -- a frame of the group's arrives and brings its octets
    pub own_brought : {f : Frame} {rest : List Frame} {octets : ℕ} {to : Shown} → (room.wanted ≡ false → to.wanted ≡ true → changed ≡ true) →
        ToB (terms_of w) t a_free (f ∷ rest) → Shares p (priority_of f) → octets ≡ length_of f → Brought (limits_of w p).mark room octets to →
        Own w p t timers due last (f ∷ rest) a_free pfc_row room → Own w p t timers (due_on changed t due) last rest a_free pfc_row to
    own_brought {f} {rest} {to = to} now link mine is brings own =
        let b = subst (λ (n : ℕ). Brought (limits_of w p).mark room n to) is brings in
        let spans : Spans (length_of f) room.wanted room.span to.span = (span_grows b, crossing_not_counted b) in
        record {
          group =
              own_arrives to.free to.span to.wanted changed now sound.terms mine b.filled spans
              (λ off. omega (arith, sound.mark p, b.mark_free off)) link m own.group;
          dropped = fits_whole b (group_fits mine link.most.0 own.group) ∙ own.dropped;
          worst = omega (arith, own.worst, b.worst_then, span_within to.span sound.terms mine spans own.group);
        }

    -- the room is eased
    own_eased : {data_row : List Frame} {to : Shown} → Eased (limits_of w p).mark room to →
        Own w p t timers due last data_row a_free pfc_row room → Own w p t timers (due_on changed t due) last data_row a_free pfc_row to
    own_eased {data_row} {to} e own =
        record {
          group =
              own_taken to.free to.span to.wanted changed e.freed (span_stays e)
              (λ off. omega (arith, sound.mark p, e.mark_free off)) (e.none_wanted (own_calm sound own)) m own.group;
          dropped = e.dropped_stays ∙ own.dropped;
          worst = omega (arith, own.worst, e.worst_stays);
        }

    -- any move of the room, given what an arrival leaves
    pub own_moved : {Arrives : Type 0} {octets : ℕ} {data_row : List Frame} {to : Shown} →
        (Arrives → Brought (limits_of w p).mark room octets to → Own w p t timers (due_on changed t due) last data_row a_free pfc_row to) →
        Moves (limits_of w p).mark Arrives room octets to → Own w p t timers due last data_row a_free pfc_row room →
        Own w p t timers (due_on changed t due) last data_row a_free pfc_row to
    own_moved arrives Moves.alone own = own_with own (group_on changed m own.group)
    own_moved arrives (Moves.brought mine b) own = arrives mine b
    own_moved arrives (Moves.eased e) own = own_eased e own
