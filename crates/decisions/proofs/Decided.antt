-- Any two answers that a contract of this crate permits for the same call are equal. It is stated about the contracts themselves, for
-- every public function, so that a promise that left something out would not pass. Assumes nothing.
use mathlib.Core.Path.{sym, ◌∙◌}
use Rattle.ground.proofs.Decides.{Decides}
use Rattle.decisions.proofs.length_outside.Kinds as length_outside_kinds
use Rattle.decisions.proofs.length_outside.Reads as length_outside
use Rattle.decisions.proofs.kind_01.may_wait.Kinds as may_wait_kinds
use Rattle.decisions.proofs.kind_01.may_wait.Reads as may_wait
use Rattle.decisions.proofs.kind_02.may_start_data.Kinds as may_start_data_kinds
use Rattle.decisions.proofs.kind_02.may_start_data.Reads as may_start_data
use Rattle.decisions.proofs.kinds_03_06.may_arrive.Kinds as may_arrive_kinds
use Rattle.decisions.proofs.kinds_03_06.may_arrive.Reads as may_arrive
use Rattle.decisions.proofs.kind_04.may_start_other.Kinds as may_start_other_kinds
use Rattle.decisions.proofs.kind_04.may_start_other.Reads as may_start_other
use Rattle.decisions.proofs.kind_05.may_start_pfc.Kinds as may_start_pfc_kinds
use Rattle.decisions.proofs.kind_05.may_start_pfc.Reads as may_start_pfc

pub length_outside_decides : Decides 0 length_outside_kinds.ps length_outside_kinds.r length_outside.Post
length_outside_decides κs args x y e f p q = p ∙ sym q

pub may_wait_decides : Decides 0 may_wait_kinds.ps may_wait_kinds.r may_wait.Post
may_wait_decides κs args x y e f p q = p.1 ∙ sym q.1

pub may_start_data_decides : Decides 0 may_start_data_kinds.ps may_start_data_kinds.r may_start_data.Post
may_start_data_decides κs args x y e f p q = p.1 ∙ sym q.1

pub may_arrive_decides : Decides 0 may_arrive_kinds.ps may_arrive_kinds.r may_arrive.Post
may_arrive_decides κs args x y e f p q = p.1 ∙ sym q.1

pub may_start_other_decides : Decides 0 may_start_other_kinds.ps may_start_other_kinds.r may_start_other.Post
may_start_other_decides κs args x y e f p q = p.1 ∙ sym q.1

pub may_start_pfc_decides : Decides 0 may_start_pfc_kinds.ps may_start_pfc_kinds.r may_start_pfc.Post
may_start_pfc_decides κs args x y e f p q = p.1 ∙ sym q.1
