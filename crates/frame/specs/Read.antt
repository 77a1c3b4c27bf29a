-- Document 01, "The frame", reading: what a frame is, for any octets, any length, any M and any own address.
use Rattle.std.specs.Prelude.{ℕ, ◌-◌, Bool, true, not, ◌&&◌, List, [], ◌∷◌, length, drop, get_or, ltb, eqb}
use Rattle.std.specs.Prelude.{Option, Some, None, Result, Ok, Err}
use Rattle.ground.specs.Pick.{pick}
use Rattle.ground.specs.First.{Condition, ◌gives◌, first_of}
use Rattle.ground.specs.Eight.{eight}
use Rattle.octets.specs.Numbers.{address_at}
use Rattle.limits.specs.Limits.{refused13}
use Rattle.refusals.specs.declared.Refusal.{Refusal}
use Rattle.refusals.specs.Refusals.{refused_or}
use Rattle.frame.specs.Layout.{frame_octets, group, control_type, pfc_opcode, destination, length_type, opcode, enable_octet, time_field}
use Rattle.frame.specs.declared.Request.{Request}

-- "Accepted destinations of control frames are the group address and the station's own."
unfoldable pub is_accepted : ℕ → ℕ → Bool
is_accepted own to = pick (eqb to group) true (eqb to own)

-- the request with an enable octet and eight times
abbrev pub request_of : ℕ → List ℕ → Request
request_of enable times = record { e = enable; times = eight (λ n. get_or times n 0) }

-- the request that a frame carries: e and all eight times
abbrev pub request_in : List ℕ → Request
request_in frame = request_of (enable_octet frame) (eight (time_field frame))

-- a control frame: any other Length/Type "is data, whatever its address"
unfoldable pub is_control : List ℕ → Bool
is_control frame = eqb (length_type frame) control_type

-- 3: "control frame for another address"
unfoldable pub is_elsewhere : ℕ → List ℕ → Bool
is_elsewhere own frame = is_control frame && not (is_accepted own (destination frame))

-- 4: "opcode not 01-01", of a control frame
unfoldable pub is_other : List ℕ → Bool
is_other frame = is_control frame && not (eqb (opcode frame) pfc_opcode)

-- "Reading takes M and, in order: refusals 13, 1, 2; .. data ..; then refusals 3, 4", by the values of their tests
unfoldable pub order_by : Bool → Bool → Bool → Bool → Bool → List Condition
order_by outside short long elsewhere other = outside gives 13 ∷ short gives 1 ∷ long gives 2 ∷ elsewhere gives 3 ∷ other gives 4 ∷ []

-- 1 is "frame shorter than 60", 2 "longer than M - 4". Data has neither 3 nor 4, which are of control frames
abbrev pub reading_order : List ℕ → ℕ → List ℕ → List Condition
reading_order frame M own =
    order_by (refused13 M) (ltb (length frame) frame_octets) (ltb (M - 4) (length frame)) (is_elsewhere (address_at own 0) frame) (is_other frame)

-- what is not refused: data by its Length/Type, "else a request"
unfoldable pub taken : List ℕ → Option Request
taken frame = pick (is_control frame) (Some (request_in frame)) None

-- what a frame asks of a station with this own address: its request, none where it is data, or a refusal
unfoldable pub verdict : List ℕ → ℕ → List ℕ → Result (Option Request) Refusal
verdict frame M own = refused_or (first_of (reading_order frame M own)) (taken frame)

-- "the answer hands back the caller's own frame from octet 12 on"; "a refusal or a request has an empty part"
unfoldable pub part_for : Result (Option Request) Refusal → List ℕ → List ℕ
part_for (Ok None) frame = drop 12 frame
part_for (Ok (Some request)) frame = []
part_for (Err refusal) frame = []

-- the part handed back
abbrev pub part_of : List ℕ → ℕ → List ℕ → List ℕ
part_of frame M own = part_for (verdict frame M own) frame
