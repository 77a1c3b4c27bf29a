-- Any two answers that a contract of this crate permits for the same call are equal. It is stated about the contracts themselves, for
-- every public function, and assumes nothing. A count has one field, which its promise decides.
use mathlib.Core.Path.{sym, ◌∙◌}
use Rattle.ground.proofs.Decides.{Decides}
use Rattle.units.proofs.bits_of_octets.Kinds as bits_of_octets_kinds
use Rattle.units.proofs.bits_of_octets.Reads as bits_of_octets
use Rattle.units.proofs.bits_of_quanta.Kinds as bits_of_quanta_kinds
use Rattle.units.proofs.bits_of_quanta.Reads as bits_of_quanta
use Rattle.units.proofs.octets_of_quanta.Kinds as octets_of_quanta_kinds
use Rattle.units.proofs.octets_of_quanta.Reads as octets_of_quanta
use Rattle.units.proofs.octets_of_bits.Kinds as octets_of_bits_kinds
use Rattle.units.proofs.octets_of_bits.Reads as octets_of_bits
use Rattle.units.proofs.quanta_of_bits.Kinds as quanta_of_bits_kinds
use Rattle.units.proofs.quanta_of_bits.Reads as quanta_of_bits
use Rattle.units.proofs.later.Kinds as later_kinds
use Rattle.units.proofs.later.Reads as later
use Rattle.units.proofs.wire_time.Kinds as wire_time_kinds
use Rattle.units.proofs.wire_time.Reads as wire_time
use Rattle.units.proofs.sum_of_bits.Kinds as sum_of_bits_kinds
use Rattle.units.proofs.sum_of_bits.Reads as sum_of_bits

pub decided :
    (Decides 0 bits_of_octets_kinds.ps bits_of_octets_kinds.r bits_of_octets.Post) ×
    (Decides 0 bits_of_quanta_kinds.ps bits_of_quanta_kinds.r bits_of_quanta.Post) ×
    (Decides 0 octets_of_quanta_kinds.ps octets_of_quanta_kinds.r octets_of_quanta.Post) ×
    (Decides 0 octets_of_bits_kinds.ps octets_of_bits_kinds.r octets_of_bits.Post) ×
    (Decides 0 quanta_of_bits_kinds.ps quanta_of_bits_kinds.r quanta_of_bits.Post) ×
    (Decides 0 later_kinds.ps later_kinds.r later.Post) ×
    (Decides 0 wire_time_kinds.ps wire_time_kinds.r wire_time.Post) ×
    (Decides 0 sum_of_bits_kinds.ps sum_of_bits_kinds.r sum_of_bits.Post)
decided = (
  λ κs args x y e f p q. λ i. record { 0 = (p ∙ sym q) i },
  λ κs args x y e f p q. λ i. record { 0 = (p ∙ sym q) i },
  λ κs args x y e f p q. λ i. record { 0 = (p ∙ sym q) i },
  λ κs args x y e f p q. λ i. record { 0 = (p ∙ sym q) i },
  λ κs args x y e f p q. λ i. record { 0 = (p ∙ sym q) i },
  λ κs args x y e f p q. λ i. record { 0 = (p ∙ sym q) i },
  λ κs args x y e f p q. λ i. record { 0 = (p ∙ sym q) i },
  λ κs args x y e f p q. λ i. record { 0 = (p ∙ sym q) i },
)
