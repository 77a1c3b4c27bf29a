-- Document 01, "The frame": where each field of a PFC frame stands, and how its octets make a number.
use Rattle.std.specs.Prelude.{ℕ, ◌+◌, ◌*◌, List, [], ◌∷◌}
use Rattle.octets.specs.Numbers.{octet_at, word_at, address_at}

-- the octets of a control frame, and the fewest of any frame
abbrev pub frame_octets : ℕ
frame_octets = 60

-- "01-80-C2-00-00-01", the group address
abbrev pub group_octets : List ℕ
group_octets = 0x01 ∷ 0x80 ∷ 0xC2 ∷ 0x00 ∷ 0x00 ∷ 0x01 ∷ []

abbrev pub group : ℕ
group = address_at group_octets 0

-- "88-08", the Length/Type of a control frame
abbrev pub control_type : ℕ
control_type = 0x8808

-- "opcode 01-01"
abbrev pub pfc_opcode : ℕ
pfc_opcode = 0x0101

-- octets 0-5: destination
abbrev pub destination : List ℕ → ℕ
destination frame = address_at frame 0

-- octets 12-13: Length/Type
abbrev pub length_type : List ℕ → ℕ
length_type frame = word_at frame 12

-- octets 14-15: opcode
abbrev pub opcode : List ℕ → ℕ
opcode frame = word_at frame 14

-- octets 16-17: enable vector, of which only the second octet is read: "bit n of the second is e[n]"
abbrev pub enable_octet : List ℕ → ℕ
enable_octet frame = octet_at frame 17

-- octets 18-33: time[0] to time[7]
abbrev pub time_field : List ℕ → ℕ → ℕ
time_field frame n = word_at frame (18 + 2 * n)
