-- A walk octet time by octet time: what stands between the functions of a walk only, and is proved equal to all of it at once.
use Rattle.std.specs.Prelude.{ℕ, ◌+◌, ◌%◌, eqb}
use Rattle.ground.specs.Pick.{pick}
use Rattle.units.specs.Units.{quantum}
use Rattle.head.specs.declared.Head.{Head}
use Rattle.head.specs.Timers.{after_quanta}
use Rattle.walk.specs.Walk.{quanta_in}
use Rattle.walk.specs.declared.Pace.{Pace}

-- a quantum passes where the clock reaches a multiple of 64
unfoldable pub head_at : Head → ℕ → Head
head_at head clock = pick (eqb (clock % quantum) 0) (after_quanta head 1) head

-- one octet time
unfoldable pub ticked : Pace → Pace
ticked pace = record { clock = record { 0 = pace.clock.0 + 1 }; head = head_at pace.head (pace.clock.0 + 1) }

-- n octet times: as many quanta as there are multiples of 64 on the way
unfoldable pub paced_by : Pace → ℕ → Pace
paced_by pace n = record { clock = record { 0 = pace.clock.0 + n }; head = after_quanta pace.head (quanta_in pace.clock.0 n) }
