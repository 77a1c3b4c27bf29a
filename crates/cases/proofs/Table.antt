-- Document 01, "Numbers on each side of a limit", as document 02 reads it: every case marked P holds of the definitions. It is one table, a
-- row a case, and one theorem, found by computing each row. A layer adds its rows in its own specs/Cases.antt. Assumes nothing.
use mathlib.Core.Path.{◌≡◌, refl}
use mathlib.Core.Bool.{Bool, true}
use mathlib.Core.List.{List, [], ◌∷◌, ◌++◌}
use Prim.Native.Nat.{ℕ}
use lib.Dec.{eqb}
use Rattle.ground.specs.Pick.{pick}
use Rattle.ground.specs.First.{first_of}
use Rattle.ground.specs.Eight.{some}
use Rattle.ground.specs.Table.{all, same}
use Rattle.units.specs.Units.{octets_of_bits}
use Rattle.frame_build.specs.Cases.{frame_cases, enabled_in, frame_with_vector}
use Rattle.refusals.specs.Refusals.{refused_or}
use Rattle.frame.specs.Read.{is_accepted, is_control, is_elsewhere, is_other, order_by, taken, verdict}
use Rattle.head.specs.Cases.{head_cases}
use Rattle.headroom_sum.specs.Cases.{example004, item_of, headroom_cases}
use Rattle.headroom_sum.specs.Link.{link_bits, link_bits_before}
use Rattle.headroom_sum.specs.Rates.{halt_limit}
use Rattle.headroom_sum.specs.Sum.{summed}
use Rattle.headroom_sum.specs.declared.Items.{Items}
use Rattle.interface_rows.specs.Cases.{row_cases}
use Rattle.interface_rows.specs.Stack.{all_known, stack_bits, delays_of, stack_answer}
use Rattle.moments.specs.Moments.{due_on}
use Rattle.settings.specs.Cases.{settings004, settings_cases}
use Rattle.settings.specs.Settings.{is_enabled, some_enabled}
use Rattle.rooms.specs.Room.{held_after, dropped_after, wanted_after, span_after, span_kept, arrived_in, taken_from}
use Rattle.recorder.specs.Cases.{watch004, recorder_cases}
use Rattle.marks.specs.Marks.{differ, with_mark}
use Rattle.recorder.specs.Watching.{limits_of, with_room, arrived_with, arrived_at, refusal_with, taken_with, leaves_with, taking_leaves}

-- "with these": the settings' and the recorder's rows go by the paths and the room of the headroom's example. B is given path bits, here those
-- of document 01, 49,588 and 43,444. L1's are 49,592 and 43,448, in octet times the same: 6,199 and 5,431.
abbrev of_example : (Items → ℕ) → ℕ → Bool
of_example item = eqb (item_of item (summed example004))

unfoldable pub same_example : List Bool
same_example =
    of_example (λ (i : Items). i.room.request.0) (octets_of_bits (settings004 132 56 17779).request_path.0)
    ∷ of_example (λ (i : Items). i.room.«data».0) (octets_of_bits (settings004 132 56 17779).data_path.0)
    ∷ of_example (λ (i : Items). i.room.one_way.0) watch004.kept.one_way.0
    ∷ of_example (λ (i : Items). i.room.headroom.0) watch004.kept.headroom.0
    ∷ []

-- the frame's, the head's, Table N-1's, the headroom's, the settings' and the recorder's rows
unfoldable pub document_cases : List Bool
document_cases = frame_cases ++ head_cases ++ row_cases ++ headroom_cases ++ same_example ++ settings_cases ++ recorder_cases

pub every_case_holds : all document_cases ≡ true
unfolding document_cases same_example all same some pick frame_cases row_cases headroom_cases enabled_in frame_with_vector
    first_of refused_or verdict taken order_by is_control is_elsewhere is_other is_accepted
    link_bits link_bits_before halt_limit summed all_known stack_bits delays_of stack_answer
    is_enabled some_enabled
    held_after dropped_after wanted_after span_after span_kept arrived_in taken_from due_on
    limits_of differ with_mark with_room arrived_with arrived_at refusal_with taken_with leaves_with taking_leaves
every_case_holds = refl
