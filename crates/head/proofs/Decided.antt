-- Any two answers that a contract of this crate permits for the same call are equal. It is stated about the contracts themselves, for
-- every public function, and assumes nothing.
use Rattle.std.proofs.Common.{sym, ◌∙◌}
use Rattle.ground.proofs.Decides.{Decides}
use Rattle.head.proofs.Head.fresh.Kinds as fresh_kinds
use Rattle.head.proofs.Head.fresh.Reads as fresh
use Rattle.head.proofs.Head.is_paused.Kinds as is_paused_kinds
use Rattle.head.proofs.Head.is_paused.Reads as is_paused
use Rattle.head.proofs.Head.marks.Kinds as marks_kinds
use Rattle.head.proofs.Head.marks.Reads as marks
use Rattle.head.proofs.Head.passed.Kinds as passed_kinds
use Rattle.head.proofs.Head.passed.Reads as passed
use Rattle.head.proofs.Head.taken.Kinds as taken_kinds
use Rattle.head.proofs.Head.taken.Reads as taken

pub fresh_decides : Decides 0 fresh_kinds.ps fresh_kinds.r fresh.Post
fresh_decides κs args x y e f p q = p ∙ sym q

pub taken_decides : Decides 0 taken_kinds.ps taken_kinds.r taken.Post
taken_decides κs args x y e f p q = p ∙ sym q

pub passed_decides : Decides 0 passed_kinds.ps passed_kinds.r passed.Post
passed_decides κs args x y e f p q = p ∙ sym q

pub is_paused_decides : Decides 0 is_paused_kinds.ps is_paused_kinds.r is_paused.Post
is_paused_decides κs args x y e f p q = p ∙ sym q

pub marks_decides : Decides 0 marks_kinds.ps marks_kinds.r marks.Post
marks_decides κs args x y e f p q = p ∙ sym q
