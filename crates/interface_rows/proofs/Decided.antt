-- Any two answers that a contract of this crate permits for the same call are equal. It is stated about the contracts themselves, for
-- every public function, and assumes nothing. A count has one field, which its promise decides.
use mathlib.Core.Path.{sym, ◌∙◌}
use Rattle.ground.proofs.Decides.{Decides}
use Rattle.interface_rows.proofs.receive_of.Kinds as receive_of_kinds
use Rattle.interface_rows.proofs.receive_of.Reads as receive_of
use Rattle.interface_rows.proofs.row_at.Kinds as row_at_kinds
use Rattle.interface_rows.proofs.row_at.Reads as row_at
use Rattle.interface_rows.proofs.stack_delays.Kinds as stack_delays_kinds
use Rattle.interface_rows.proofs.stack_delays.Reads as stack_delays
use Rattle.interface_rows.proofs.transmit_of.Kinds as transmit_of_kinds
use Rattle.interface_rows.proofs.transmit_of.Reads as transmit_of

pub decided :
    (Decides 0 row_at_kinds.ps row_at_kinds.r row_at.Post) ×
    (Decides 0 transmit_of_kinds.ps transmit_of_kinds.r transmit_of.Post) ×
    (Decides 0 receive_of_kinds.ps receive_of_kinds.r receive_of.Post) ×
    (Decides 1 stack_delays_kinds.ps stack_delays_kinds.r stack_delays.Post)
decided = (
  λ κs args x y e f p q. p.1 ∙ sym q.1,
  λ κs args x y e f p q. λ i. record { 0 = (p ∙ sym q) i },
  λ κs args x y e f p q. λ i. record { 0 = (p ∙ sym q) i },
  λ κs args x y e f p q. p.1 ∙ sym q.1,
)
