-- Any two answers that a contract of this crate permits for the same call are equal. It is stated about the contracts themselves, for
-- every public function, so that a promise that left something out would not pass. Assumes nothing.
use mathlib.Core.Path.{sym, ◌∙◌}
use Rattle.ground.proofs.Decides.{Decides}
use Rattle.moments.proofs.is_never.Kinds as is_never_kinds
use Rattle.moments.proofs.is_never.Reads as is_never
use Rattle.moments.proofs.is_ahead.Kinds as is_ahead_kinds
use Rattle.moments.proofs.is_ahead.Reads as is_ahead
use Rattle.moments.proofs.past.Kinds as past_kinds
use Rattle.moments.proofs.past.Reads as past
use Rattle.moments.proofs.due_on.Kinds as due_on_kinds
use Rattle.moments.proofs.due_on.Reads as due_on
use Rattle.moments.proofs.refresh_from.Kinds as refresh_from_kinds
use Rattle.moments.proofs.refresh_from.Reads as refresh_from
use Rattle.moments.proofs.due_by.Kinds as due_by_kinds
use Rattle.moments.proofs.due_by.Reads as due_by

pub is_never_decides : Decides 0 is_never_kinds.ps is_never_kinds.r is_never.Post
is_never_decides κs args x y e f p q = p ∙ sym q

pub is_ahead_decides : Decides 0 is_ahead_kinds.ps is_ahead_kinds.r is_ahead.Post
is_ahead_decides κs args x y e f p q = p ∙ sym q

pub past_decides : Decides 0 past_kinds.ps past_kinds.r past.Post
past_decides κs args x y e f p q = p ∙ sym q

pub due_on_decides : Decides 0 due_on_kinds.ps due_on_kinds.r due_on.Post
due_on_decides κs args x y e f p q = p ∙ sym q

pub refresh_from_decides : Decides 0 refresh_from_kinds.ps refresh_from_kinds.r refresh_from.Post
refresh_from_decides κs args x y e f p q = p ∙ sym q

pub due_by_decides : Decides 0 due_by_kinds.ps due_by_kinds.r due_by.Post
due_by_decides κs args x y e f p q = p ∙ sym q
