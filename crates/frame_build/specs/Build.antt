-- Document 01, "The frame", building: the 60 octets, and what a lent buffer holds at exit.
use Rattle.std.specs.Prelude.{ℕ, ◌%◌, List, [], ◌∷◌, ◌++◌, length, take, drop, get_or, replicate, ltb, eqb, Result, Ok, Err, ⊤}
use Rattle.ground.specs.First.{Condition, ◌gives◌, first_of}
use Rattle.octets.specs.Numbers.{octet_at, word_octets}
use Rattle.frame.specs.Layout.{frame_octets, group_octets, control_type, pfc_opcode}
use Rattle.refusals.specs.declared.Refusal.{Refusal}
use Rattle.refusals.specs.Refusals.{refused_or}

-- "Order: building 5, 6": "control buffer under 60 octets; source has the group bit", the lowest of its first octet
abbrev pub order_by : ℕ → ℕ → List Condition
order_by size first = ltb size frame_octets gives 5 ∷ eqb (first % 2) 1 gives 6 ∷ []

abbrev pub building_order : ℕ → List ℕ → List Condition
building_order size source = order_by size (octet_at source 0)

-- what building answers for a buffer's size and a source
unfoldable pub build_verdict : ℕ → List ℕ → Result ⊤ Refusal
build_verdict size source = refused_or (first_of (building_order size source)) tt

-- octets 6-11: source
abbrev pub source_octets : List ℕ → List ℕ
source_octets source =
    octet_at source 0 ∷ octet_at source 1 ∷ octet_at source 2 ∷ octet_at source 3 ∷ octet_at source 4 ∷ octet_at source 5 ∷ []

-- time[n] as two octets, "written as given, valid or not"
abbrev pub time_octets : List ℕ → ℕ → List ℕ
time_octets times n = word_octets (get_or times n 0)

-- octets 18-33: time[0] to time[7]
abbrev pub all_time_octets : List ℕ → List ℕ
all_time_octets times =
    time_octets times 0 ++
    time_octets times 1 ++
    time_octets times 2 ++
    time_octets times 3 ++
    time_octets times 4 ++
    time_octets times 5 ++
    time_octets times 6 ++
    time_octets times 7

-- octets 0-17 in document 01's order: destination, source, 88-08, opcode, enable vector with its first octet zero
abbrev pub lead_octets : List ℕ → ℕ → List ℕ
lead_octets source e = group_octets ++ source_octets source ++ word_octets control_type ++ word_octets pfc_opcode ++ (0 ∷ e ∷ [])

-- the 60 octets: those, the times, zeroes
abbrev pub built_frame : List ℕ → ℕ → List ℕ → List ℕ
built_frame source e times = lead_octets source e ++ all_time_octets times ++ replicate 26 0

-- octets put at the front of a buffer: all of them, then what the buffer held after as many
abbrev pub put_before : List ℕ → List ℕ → List ℕ
put_before made buffer = take (length made) made ++ drop (length made) buffer

-- "Building writes 60 octets and touches no octet after them"; a refused call leaves every octet as it was
unfoldable pub buffer_for : Result ⊤ Refusal → List ℕ → ℕ → List ℕ → List ℕ → List ℕ
buffer_for (Ok written) source e times buffer = built_frame source e times ++ drop frame_octets buffer
buffer_for (Err refusal) source e times buffer = buffer

-- what the lent buffer holds at exit
abbrev pub buffer_after : List ℕ → ℕ → List ℕ → List ℕ → List ℕ
buffer_after source e times buffer = buffer_for (build_verdict (length buffer) source) source e times buffer
