-- What each kind of record leaves of the facts of the link.
use Prim.Native.Nat.{ℕ, ◌+◌, ◌^◌, ◌≤◌, ◌<◌}
use mathlib.Core.Bool.{Bool, true, false}
use mathlib.Core.Path.{◌≡◌, refl}
use mathlib.Core.List.{List, [], ◌∷◌, ◌++◌}
use native.Mathlib.Omega.{arith}
use borrow.Author.Tests.{leb-true, leb-false}
use lib.Dec.{leb}
use lib.ListN.{length, length-append}
use Rattle.std.specs.Prelude.{None, Some}
use Rattle.ground.specs.Pick.{pick}
use Rattle.moments.specs.Moments.{Moment, at, due_on, due_by}
use Rattle.moments.proofs.Reached.{NotPast}
use Rattle.bench_meaning.specs.State.{Frame, length_of}
use Rattle.no_loss.proofs.Terms.{Terms, Sound, W}
use Rattle.no_loss.proofs.Rows.{pfc_length, InTime, each_started, follows_longer, underway_started, underway_left}
use Rattle.no_loss.proofs.Link.{DueInTime, Refreshed, RefreshIs, StartedBy, Marked, Link}

module _ (c : Terms) where
  -- a mark changes, or none does
  due_in_time_on : (changed : Bool) (t b_free : ℕ) (due : Moment) → DueInTime c t b_free due → DueInTime c t b_free (due_on changed t due)
  unfolding due_on
  due_in_time_on true t b_free None d = omega arith
  due_in_time_on false t b_free None d = d
  due_in_time_on changed t b_free (Some first) d = d

  -- a mark that changes makes PFC due, and where none changes as much is wanted as before
  refreshed_on : (changed : Bool) (t : ℕ) (some some' : Bool) (due last : Moment) → (changed ≡ false → some' ≡ some) → Refreshed c t some due last →
      Refreshed c t some' (due_on changed t due) last
  unfolding due_on
  refreshed_on changed t some false due last same r = tt
  refreshed_on changed t some true (Some first) last same r = tt
  refreshed_on true t some true None last same r = tt
  refreshed_on false t true true None last same r = r
  refreshed_on false t false true None last same r = let z : ◌≡◌ {A = ℕ} 0 1 = cc (same refl) in absurd (omega arith)

  -- time passes, and the refresh may fall due on the way
  due_passed : (t t' b_free : ℕ) (some : Bool) (due last refresh : Moment) → t ≤ t' → RefreshIs c some last refresh → Refreshed c t some due last →
      DueInTime c t b_free due → NotPast (due_by refresh t' due) (c.G + W c) t' →
      DueInTime c t' b_free (due_by refresh t' due) × Refreshed c t' some (due_by refresh t' due) last
  unfolding due_by pick
  due_passed t t' b_free false (Some d) last refresh h i r f past = (omega arith, tt)
  due_passed t t' b_free true (Some d) last refresh h i r f past = (omega arith, tt)
  due_passed t t' b_free true None None refresh h i r f past = absurd r
  due_passed t t' b_free false None last None h i r f past = (omega arith, tt)
  due_passed t t' b_free false None last (Some m) h i r f past = let z : ◌≡◌ {A = ℕ} 0 1 = cc in absurd (omega arith)
  due_passed t t' b_free true None (Some m) None h i r f past = let z : ◌≡◌ {A = ℕ} 0 1 = cc in absurd (omega arith)
  due_passed t t' b_free true None (Some m) (Some when) h i r f past = go (leb when.0 t') refl past
    where
      same : when.0 ≡ m.0 + c.I
      same = cc

      go : (b : Bool) → leb when.0 t' ≡ b → NotPast (pick b (Some when) None) (c.G + W c) t' →
          DueInTime c t' b_free (pick b (Some when) None) × Refreshed c t' true (pick b (Some when) None) (Some m)
      go true e p = (omega (arith, same, leb-true when.0 t' e), tt)
      go false e p = (omega (arith, same), omega (arith, same, leb-false when.0 t' e))

  -- what started by now has started by any later time
  started_later : (t t' : ℕ) (last : Moment) → t ≤ t' → StartedBy t last → StartedBy t' last
  started_later t t' None h s = tt
  started_later t t' (Some m) h s = omega arith

  -- a PFC frame that starts now has its refresh before it
  refreshed_by_start : (t : ℕ) (some : Bool) → 1 ≤ c.I → Refreshed c t some None (at t)
  refreshed_by_start t false h = tt
  refreshed_by_start t true h = omega arith

  -- an other frame that starts within G of the due moment leaves the wire in time
  other_in_time : (t b_free b_free' : ℕ) (due : Moment) → b_free' ≤ t + W c → NotPast due c.G t → DueInTime c t b_free due → DueInTime c t b_free' due
  other_in_time t b_free b_free' None h p d = h
  other_in_time t b_free b_free' (Some first) h p d = omega arith

  -- the refresh is looked after for each that is wanted
  refreshed_one : (t : ℕ) (one some : Bool) (due last : Moment) → (one ≡ true → some ≡ true) → Refreshed c t some due last →
      Refreshed c t one due last
  refreshed_one t false some due last h r = tt
  refreshed_one t true true due last h r = r
  refreshed_one t true false due last h r = let z : ◌≡◌ {A = ℕ} 0 1 = cc (h refl) in absurd (omega arith)

-- what holds where something is wanted holds of each that is
pub marked_one : {c : Terms} {t b_free : ℕ} {due last : Moment} {some : Bool} (one : Bool) → (one ≡ true → some ≡ true) →
    Marked c t b_free due last some → Marked c t b_free due last one
marked_one {c} {t} {due = due} {last = last} {some = some} one h m =
    record { due_time = m.due_time; refreshed = refreshed_one c t one some due last h m.refreshed; started = m.started }

module _ {c : Terms} {t a_free b_free : ℕ} {due last : Moment} {some : Bool} where
  -- kind 01
  pub link_passed : {data_row pfc_row : List Frame} (t' : ℕ) (refresh : Moment) → t ≤ t' → t' ≤ 2 ^ 40 → InTime c.D t' data_row → InTime c.P t' pfc_row →
      RefreshIs c some last refresh → NotPast (due_by refresh t' due) (c.G + W c) t' →
      Link c t a_free b_free due last some data_row pfc_row → Link c t' a_free b_free (due_by refresh t' due) last some data_row pfc_row
  link_passed t' refresh h small data_time pfc_time is past l =
      let then = due_passed c t t' b_free some due last refresh h is l.marked.refreshed l.marked.due_time past in
      let b = l.to_b in let a = l.to_a in
      record {
        time = small;
        to_b = record { wire = omega arith; most = b.most; underway = record { follows = b.underway.follows; in_time = data_time } };
        to_a = record { underway = record { follows = a.underway.follows; in_time = pfc_time }; count = a.count };
        marked = record { due_time = then.0; refreshed = then.1; started = started_later c t t' last h l.marked.started };
      }

  -- kind 02
  pub link_sent : {data_row pfc_row : List Frame} (f : Frame) → a_free ≤ t → length_of f ≤ c.M → f.end ≡ t + (length_of f + 20) →
      Link c t a_free b_free due last some data_row pfc_row → Link c t f.end b_free due last some (data_row ++ (f ∷ [])) pfc_row
  link_sent {data_row} f idle most ends l =
      record {
        time = l.time;
        to_b =
            record { wire = omega arith; most = each_started _ data_row f l.to_b.most most; underway = underway_started f idle ends l.to_b.underway };
        to_a = l.to_a;
        marked = l.marked;
      }

  -- kind 03: the oldest data frame leaves the row
  pub link_arrived : {f : Frame} {rest pfc_row : List Frame} → Link c t a_free b_free due last some (f ∷ rest) pfc_row →
      Link c t a_free b_free due last some rest pfc_row
  link_arrived l =
      record {
        time = l.time;
        to_b = record { wire = l.to_b.wire; most = l.to_b.most.1; underway = underway_left l.to_b.underway };
        to_a = l.to_a;
        marked = l.marked;
      }

  -- kinds 03 and 07, at the recorder: a mark changes, or none does
  pub link_marked : {data_row pfc_row : List Frame} (changed some' : Bool) → (changed ≡ false → some' ≡ some) →
      Link c t a_free b_free due last some data_row pfc_row → Link c t a_free b_free (due_on changed t due) last some' data_row pfc_row
  link_marked changed some' same l =
      let m = l.marked in
      let due_time = due_in_time_on c changed t b_free due m.due_time in
      let refreshed = refreshed_on c changed t some some' due last same m.refreshed in
      record { time = l.time; to_b = l.to_b; to_a = l.to_a; marked = record { due_time = due_time; refreshed = refreshed; started = m.started } }

  -- kind 04
  pub link_other : {data_row pfc_row : List Frame} (b_free' : ℕ) → b_free ≤ b_free' → b_free' ≤ t + W c → NotPast due c.G t →
      Link c t a_free b_free due last some data_row pfc_row → Link c t a_free b_free' due last some data_row pfc_row
  link_other {pfc_row = pfc_row} b_free' up h past l =
      let u = l.to_a.underway in let m = l.marked in
      let follows = follows_longer pfc_length 0 pfc_row b_free b_free' up u.follows in
      let due_time = other_in_time c t b_free b_free' due h past m.due_time in
      record {
        time = l.time;
        to_b = l.to_b;
        to_a = record { underway = record { follows = follows; in_time = u.in_time }; count = l.to_a.count };
        marked = record { due_time = due_time; refreshed = m.refreshed; started = m.started };
      }

  -- kind 05
  pub link_started : {data_row pfc_row : List Frame} (f : Frame) → Sound c → b_free ≤ t → length pfc_row < 128 → f.end ≡ t + 84 →
      Link c t a_free b_free due last some data_row pfc_row → Link c t a_free f.end None (at t) some data_row (pfc_row ++ (f ∷ []))
  link_started {pfc_row = pfc_row} f sound idle few ends l =
      record {
        time = l.time;
        to_b = l.to_b;
        to_a = record { underway = underway_started f idle ends l.to_a.underway; count = omega (arith, length-append pfc_row (f ∷ [])) };
        marked = record { due_time = omega (arith, sound.least); refreshed = refreshed_by_start c t some sound.some_refresh; started = omega arith };
      }

  -- kind 06, or the frame is lost: the oldest PFC frame leaves the row
  pub link_took : {f : Frame} {data_row rest : List Frame} → Link c t a_free b_free due last some data_row (f ∷ rest) →
      Link c t a_free b_free due last some data_row rest
  link_took l =
      let fewer = l.to_a.count in
      record {
        time = l.time;
        to_b = l.to_b;
        to_a = record { underway = underway_left l.to_a.underway; count = omega arith };
        marked = l.marked;
      }
