-- "The calculated headroom": where the headroom sum accepts its inputs and settings are made from them and from its answer, the headroom
-- of the settings, which `no_loss` speaks of, is the one that the sum answers, and so is the one-way time. It is stated of whatever the
-- contract of `headroom_sum::sum` permits. For whoever works out how much room to keep. It assumes nothing else of the settings.
use Prim.Native.Nat.{ℕ, ◌<◌, ◌≤◌}
use mathlib.Core.Bool.{true, false}
use mathlib.Core.Path.{◌≡◌, refl, sym, ap, subst, ◌∙◌}
use mathlib.Core.List.{List}
use native.Mathlib.Omega.{arith}
use contract.Lifetimes.{Lfts}
use borrow.Fn.Kinds.{Dens, res_t, ended_of}
use denote.Triple.Clauses.{AtExit}
use Rattle.std.specs.Prelude.{Ok}
use Rattle.ground.specs.Pick.{pick}
use Rattle.ground.specs.First.{first_of}
use Rattle.refusals.specs.Refusals.{refused_or}
use Rattle.refusals.proofs.Refused.{ok_is}
use Rattle.units.specs.Counts.{bits}
use Rattle.limits.specs.Limits.{refused13}
use Rattle.room_to_keep.specs.Keep.{one_way, headroom, refused14}
use Rattle.headroom_sum.specs.declared.Inputs.{Inputs}
use Rattle.headroom_sum.specs.declared.Items.{Items}
use Rattle.headroom_sum.specs.Cases.{example004}
use Rattle.headroom_sum.specs.Link.{link_bits}
use Rattle.headroom_sum.specs.Rates.{halt_limit}
use Rattle.headroom_sum.specs.Sum.{request_of, data_of, sum_refusal, items, summed}
use Rattle.headroom_sum.proofs.sum.Kinds as sum_kinds
use Rattle.headroom_sum.proofs.sum.Reads as sum
use Rattle.settings.specs.declared.Settings.{Settings}
use Rattle.settings.specs.Settings.{is_enabled, settings_refusal}
use Rattle.settings.specs.Cases.{settings004}
use Rattle.recorder.specs.Watching.{room_at}
use Rattle.records.specs.Records.{Asked}
use Rattle.no_loss.specs.Runs.{reached}
use Rattle.no_loss.specs.Calculated.{MadeFrom, Calculated}
use Rattle.ground.proofs.Passing.{passed, neither}
use Rattle.no_loss.proofs.NoLoss.{no_loss}

-- where the sum answers items, none of its refusals held, and they are the inputs' own
answered : (i : Inputs) (worked : Items) → summed i ≡ Ok worked → (sum_refusal i ≡ 0) × (worked ≡ items i)
unfolding summed
answered i worked told = ok_is (sum_refusal i) (items i) (sym told)

-- so that the paths of the settings are those of the inputs
paths_are : (i : Inputs) (worked : Items) (s : Settings) → summed i ≡ Ok worked → MadeFrom i worked s →
    (s.request_path.0 ≡ request_of i) × (s.data_path.0 ≡ data_of i)
paths_are i worked s told made =
    let is = (answered i worked told).1 in
    (made.request_path ∙ ap (λ (w : Items). w.request_path.0) is, made.data_path ∙ ap (λ (w : Items). w.data_path.0) is)

-- the one-way time and the headroom of the settings are the sum's
pub calculated : (i : Inputs) (worked : Items) (s : Settings) → summed i ≡ Ok worked → MadeFrom i worked s → Calculated worked s
calculated i worked s told made =
    let is = (answered i worked told).1 in
    let paths = paths_are i worked s told made in
    record {
      one_way =
          (λ j. one_way (made.largest j) (made.generation j) (paths.0 j)) ∙ sym (ap (λ (w : Items). w.room.one_way.0) is);
      headroom =
          (λ j. headroom (made.largest j) (made.generation j) (paths.0 j) (paths.1 j)) ∙ sym (ap (λ (w : Items). w.room.headroom.0) is);
    }

-- the same of whatever the contract of the sum permits
pub sum_calculates : (κs : Lfts 0) (args : Dens κs sum_kinds.ps) (answer : (res_t sum_kinds.r κs).Denot)
    (exit : AtExit (ended_of 0 sum_kinds.ps sum_kinds.r) κs) →
    sum.Post κs args answer exit → (worked : Items) (s : Settings) → answer ≡ Ok worked → MadeFrom args.0 worked s → Calculated worked s
sum_calculates κs args answer exit promised worked s told made = calculated args.0 worked s (sym promised.1 ∙ told) made

-- neither 13 nor 14 refuses such settings: the sum has tried them
pub sum_has_tried : (i : Inputs) (worked : Items) (s : Settings) → summed i ≡ Ok worked → MadeFrom i worked s →
    (refused13 s.largest ≡ false) × (refused14 s.generation.0 s.request_path.0 s.data_path.0 ≡ false)
unfolding first_of
sum_has_tried i worked s told made =
    let paths = paths_are i worked s told made in
    let ten = passed _ 10 _ (omega arith) (answered i worked told).0 in
    let eleven = passed _ 11 _ (omega arith) ten.1 in
    let twelve = passed _ 12 _ (omega arith) eleven.1 in
    let thirteen = passed _ 13 _ (omega arith) twelve.1 in
    let fourteen = passed _ 14 _ (omega arith) thirteen.1 in
    let within = (neither _ _ fourteen.0).1 in (
      ap (λ (m : ℕ). refused13 m) made.largest ∙ thirteen.0,
      (λ j. refused14 (made.generation j) (paths.0 j) (paths.1 j)) ∙ within,
    )

-- no wanted span of any run brings more than the headroom that was calculated
pub within_calculated : (worked : Items) (s : Settings) → Calculated worked s → settings_refusal s ≡ 0 → s.pause < 65536 →
    (records : List Asked) (priority : ℕ) → is_enabled s.enabled priority ≡ true →
    (room_at (reached s records).recorder priority).worst ≤ worked.room.headroom.0
within_calculated worked s same accepted fits records priority on =
    subst (λ (most : ℕ). (room_at (reached s records).recorder priority).worst ≤ most) same.headroom
    (no_loss s accepted fits records priority on).within_headroom

-- document 01's worked settings with the paths that the sum gives since L1
abbrev made004 : ℕ → ℕ → ℕ → Settings
made004 pause refresh room =
    let s = settings004 pause refresh room in
    record {
      enabled = s.enabled;
      largest = s.largest;
      generation = s.generation;
      request_path = bits 49592;
      data_path = bits 43448;
      pause = pause;
      refresh = s.refresh;
      hysteresis = s.hysteresis;
      rooms = s.rooms;
    }

-- the sum accepts document 004's example, and such settings are made from it, whatever their T, I and rooms
pub example_made : (pause refresh room : ℕ) →
    (summed example004 ≡ Ok (items example004)) × MadeFrom example004 (items example004) (made004 pause refresh room)
unfolding summed refused_or first_of halt_limit link_bits pick
example_made pause refresh room = (refl, record { largest = refl; generation = refl; request_path = refl; data_path = refl })

-- with the paths from before L1, 49,588 and 43,444 bits, they keep the same room: in octet times the paths are the same
pub example_unmoved : (pause refresh room : ℕ) → Calculated (items example004) (settings004 pause refresh room)
unfolding link_bits
example_unmoved pause refresh room = record { one_way = refl; headroom = refl }
