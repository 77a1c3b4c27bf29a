-- Any two answers that the contracts of `number_of` and of `tell` permit for the same call are equal. (What `remark` answers is the
-- system's to decide.)
use mathlib.Core.Path.{◌≡◌, sym, ◌∙◌}
use Rattle.std.specs.Prelude.{Result, Ok, Err, IsOk, ◌↔◌, true, false, refl}
use Rattle.ground.proofs.Decides.{Decides}
use Rattle.remarks.specs.declared.Told.{Told}
use Rattle.remarks.proofs.number_of.Kinds as number_of_kinds
use Rattle.remarks.proofs.number_of.Reads as number_of
use Rattle.remarks.proofs.tell.Kinds as tell_kinds
use Rattle.remarks.proofs.tell.Reads as tell

-- two answers that are each well where a call went well
same_answer : (x y : Result Unit Told) (P : Type 0) → (IsOk x ↔ P) → (IsOk y ↔ P) → x ≡ y
same_answer (Ok a) (Ok b) P p q = refl
same_answer (Ok a) (Err b) P p q = let well : false ≡ true = q.1 (p.0 refl) in cc
same_answer (Err a) (Ok b) P p q = let well : false ≡ true = p.1 (q.0 refl) in cc
same_answer (Err a) (Err b) P p q = refl

pub number_of_decides : Decides 1 number_of_kinds.ps number_of_kinds.r number_of.Post
number_of_decides κs args x y e f p q = p.0 ∙ sym q.0

pub tell_decides : Decides 3 tell_kinds.ps tell_kinds.r tell.Post
tell_decides κs args x y e f p q = same_answer x y _ p q
