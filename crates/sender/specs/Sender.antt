-- Document 01, the sender at B: "is lent a control frame and a data frame and hands back the one to go".
use Rattle.std.specs.Prelude.{ℕ, Bool, List, [], length, take, ltb, Option}
use Rattle.ground.specs.Pick.{pick}
use Rattle.refusals.specs.declared.Refusal.{Refusal}
use Rattle.refusals.specs.Refusals.{refusal_if}

-- the octets of a control frame that go; "The FCS is not present"
abbrev pub frame_octets : ℕ
frame_octets = 60

-- "A control frame under 60 octets gives 5 .., due or not"; none where it does not
abbrev pub send_refusal : List ℕ → Option Refusal
send_refusal control = refusal_if (pick (ltb (length control) frame_octets) 5 0)

-- ".. and an empty part"; "the first 60 octets of the control frame when PFC is due, else the whole data frame, which may be empty"
unfoldable pub to_send : List ℕ → List ℕ → Bool → List ℕ
to_send control «data» due = pick (ltb (length control) frame_octets) [] (pick due (take frame_octets control) «data»)
