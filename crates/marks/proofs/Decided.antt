-- Any two answers that a contract of this crate permits for the same call are equal. It is stated about the contracts themselves, for every
-- public function, and assumes nothing.
use Rattle.std.proofs.Common.{sym, ◌∙◌}
use Rattle.ground.proofs.Decides.{Decides}
use Rattle.marks.proofs.Marks.fresh.Kinds as fresh_kinds
use Rattle.marks.proofs.Marks.fresh.Reads as fresh
use Rattle.marks.proofs.with_mark.Kinds as with_mark_kinds
use Rattle.marks.proofs.with_mark.Reads as with_mark
use Rattle.marks.proofs.refresh_of.Kinds as refresh_of_kinds
use Rattle.marks.proofs.refresh_of.Reads as refresh_of
use Rattle.marks.proofs.started.Kinds as started_kinds
use Rattle.marks.proofs.started.Reads as started
use Rattle.marks.proofs.with_due.Kinds as with_due_kinds
use Rattle.marks.proofs.with_due.Reads as with_due
use Rattle.marks.proofs.times_for.Kinds as times_for_kinds
use Rattle.marks.proofs.times_for.Reads as times_for

pub fresh_decides : Decides 0 fresh_kinds.ps fresh_kinds.r fresh.Post
fresh_decides κs args x y e f p q = p ∙ sym q

pub with_mark_decides : Decides 0 with_mark_kinds.ps with_mark_kinds.r with_mark.Post
with_mark_decides κs args x y e f p q = p ∙ sym q

pub refresh_of_decides : Decides 0 refresh_of_kinds.ps refresh_of_kinds.r refresh_of.Post
refresh_of_decides κs args x y e f p q = p ∙ sym q

pub started_decides : Decides 0 started_kinds.ps started_kinds.r started.Post
started_decides κs args x y e f p q = p ∙ sym q

pub with_due_decides : Decides 0 with_due_kinds.ps with_due_kinds.r with_due.Post
with_due_decides κs args x y e f p q = p ∙ sym q

pub times_for_decides : Decides 0 times_for_kinds.ps times_for_kinds.r times_for.Post
times_for_decides κs args x y e f p q = p ∙ sym q
