-- A plain number as a count of one kind.
use Rattle.std.specs.Prelude.{ℕ}
use Rattle.units.specs.declared.BitTimes.{BitTimes}
use Rattle.units.specs.declared.OctetTimes.{OctetTimes}
use Rattle.units.specs.declared.Quanta.{Quanta}

abbrev pub bits : ℕ → BitTimes
bits count = record { 0 = count }

abbrev pub octets : ℕ → OctetTimes
octets count = record { 0 = count }

abbrev pub quanta : ℕ → Quanta
quanta count = record { 0 = count }
