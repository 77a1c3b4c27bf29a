-- Any two answers that a contract of this crate permits for the same call are equal. It is stated about the contracts themselves, for
-- every public function, and assumes nothing.
use mathlib.Core.Path.{◌≡◌, sym, ◌∙◌}
use contract.Lifetimes.{Lfts}
use borrow.Fn.Kinds.{Dens, res_t, ended_of}
use denote.Triple.Clauses.{AtExit}
use Rattle.ground.proofs.Decides.{Decides}
use Rattle.words.proofs.blanks.Kinds as blanks_kinds
use Rattle.words.proofs.blanks.Reads as blanks
use Rattle.words.proofs.delays_of_rows.Kinds as delays_of_rows_kinds
use Rattle.words.proofs.delays_of_rows.Reads as delays_of_rows
use Rattle.words.proofs.inputs_of.Kinds as inputs_of_kinds
use Rattle.words.proofs.inputs_of.Reads as inputs_of
use Rattle.words.proofs.is_rows.Kinds as is_rows_kinds
use Rattle.words.proofs.is_rows.Reads as is_rows
use Rattle.words.proofs.number_of.Kinds as number_of_kinds
use Rattle.words.proofs.number_of.Reads as number_of_lem

pub decided :
    (Decides 1 number_of_kinds.ps number_of_kinds.r number_of_lem.Post) ×
    (Decides 1 is_rows_kinds.ps is_rows_kinds.r is_rows.Post) ×
    (Decides 1 delays_of_rows_kinds.ps delays_of_rows_kinds.r delays_of_rows.Post) ×
    (Decides 1 inputs_of_kinds.ps inputs_of_kinds.r inputs_of.Post) ×
    (Decides 0 blanks_kinds.ps blanks_kinds.r blanks.Post)
decided = (
  λ κs args x y e f p q. p.1 ∙ sym q.1,
  λ κs args x y e f p q. p ∙ sym q,
  λ κs args x y e f p q. p.1 ∙ sym q.1,
  λ κs args x y e f p q. p ∙ sym q,
  λ κs args x y e f p q. p ∙ sym q,
)

-- and the octets of the word lent to it
pub delays_of_rows_decides_word : (κs : Lfts 1) (args : Dens κs delays_of_rows_kinds.ps) (x y : (res_t delays_of_rows_kinds.r κs).Denot)
    (e f : AtExit (ended_of 1 delays_of_rows_kinds.ps delays_of_rows_kinds.r) κs) →
    delays_of_rows.Post κs args x e → delays_of_rows.Post κs args y f → e.0.now ≡ f.0.now
delays_of_rows_decides_word κs args x y e f p q = p.2 ∙ sym q.2
