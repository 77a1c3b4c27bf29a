-- Document 01, "The bench": a record is "one octet of kind, then a fixed body, numbers most significant octet first".
use Rattle.std.specs.Prelude.{ℕ, ◌+◌, Bool, false, List, [], ◌∷◌, Result, length, ltb, eqb}
use Rattle.ground.specs.Pick.{pick}
use Rattle.ground.specs.First.{Condition, ◌gives◌, first_of}
use Rattle.octets.specs.Numbers.{octet_at, word_at}
use Rattle.refusals.specs.Refusals.{refused_or}
use Rattle.refusals.specs.declared.Refusal.{Refusal}
use Rattle.records.specs.declared.Record.{Record}
use Rattle.records.specs.declared.Record.TheVariants.{Wait, StartData, Arrive, StartOther, StartPfc, TakeEffect, TakeOctets}

-- the octets of a kind's body, by document 01's table: 00 has 57, 01 and 04 two, 02 and 07 three, 03, 05 and 06 none
unfoldable pub body_length : ℕ → ℕ
body_length kind =
    pick (eqb kind 0) 57 (pick (eqb kind 1) 2 (pick (eqb kind 2) 3 (pick (eqb kind 4) 2 (pick (eqb kind 7) 3 0))))

-- the kind's octet and its body
abbrev pub record_length : ℕ → ℕ
record_length kind = 1 + body_length kind

-- what a whole record of kind 01 to 07 asks (looked at only where 44 and 30 do not hold)
unfoldable pub body_of : ℕ → List ℕ → Record
body_of kind octets =
    pick (eqb kind 1) (Wait (word_at octets 1))
    (pick (eqb kind 2) (StartData (octet_at octets 1) (word_at octets 2))
    (pick (eqb kind 3) Arrive
    (pick (eqb kind 4) (StartOther (word_at octets 1))
    (pick (eqb kind 5) StartPfc
    (pick (eqb kind 6) TakeEffect
    (TakeOctets (octet_at octets 1) (word_at octets 2)))))))

-- settings repeated: a record of kind 00 (no octets at all are no such record, and cut short; no run hands them over)
unfoldable pub is_repeated : ℕ → ℕ → Bool
is_repeated kind size = pick (ltb size 1) false (eqb kind 0)

-- "Records 45, 44, 30, 31": after the settings, 44 for settings repeated, 30 for a kind above 07, 31 for a body cut short
abbrev pub record_order : ℕ → ℕ → ℕ → List Condition
record_order kind size whole = is_repeated kind size gives 44 ∷ ltb 7 kind gives 30 ∷ ltb size whole gives 31 ∷ []

unfoldable pub sized_refusal : ℕ → ℕ → ℕ → ℕ
sized_refusal kind size whole = first_of (record_order kind size whole)

-- of a record's octets
abbrev pub octets_refusal : List ℕ → ℕ
octets_refusal octets = sized_refusal (octet_at octets 0) (length octets) (record_length (octet_at octets 0))

-- what octets ask: a record, or they are refused
abbrev pub Asked : Type 0
Asked = Result Record Refusal

-- what the octets of a record ask, or their refusal
unfoldable pub decoded : List ℕ → Asked
decoded octets = refused_or (octets_refusal octets) (body_of (octet_at octets 0) octets)
