-- Any two answers that a contract of this crate permits for the same call are equal. It is stated about the contracts themselves, for
-- every public function, and assumes nothing.
use mathlib.Core.Path.{sym, ◌∙◌}
use Rattle.ground.proofs.Decides.{Decides}
use Rattle.records.proofs.body_length.Kinds as body_length_kinds
use Rattle.records.proofs.body_length.Reads as body_length
use Rattle.records.proofs.decode.Kinds as decode_kinds
use Rattle.records.proofs.decode.Reads as decode

pub body_length_decides : Decides 0 body_length_kinds.ps body_length_kinds.r body_length.Post
body_length_decides κs args x y e f p q = p.0 ∙ sym q.0

pub decode_decides : Decides 1 decode_kinds.ps decode_kinds.r decode.Post
decode_decides κs args x y e f p q = p.1 ∙ sym q.1
