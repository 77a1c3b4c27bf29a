-- Any two answers that a contract of this crate permits for the same call are equal. It is stated about the contracts themselves, for
-- every public function, and assumes nothing.
use mathlib.Core.Path.{sym, ◌∙◌}
use Rattle.ground.proofs.Decides.{Decides}
use Rattle.octets.proofs.octet_at.Kinds as octet_at_kinds
use Rattle.octets.proofs.octet_at.Reads as octet_at
use Rattle.octets.proofs.word_at.Kinds as word_at_kinds
use Rattle.octets.proofs.word_at.Reads as word_at
use Rattle.octets.proofs.long_at.Kinds as long_at_kinds
use Rattle.octets.proofs.long_at.Reads as long_at
use Rattle.octets.proofs.address_at.Kinds as address_at_kinds
use Rattle.octets.proofs.address_at.Reads as address_at
use Rattle.octets.proofs.wide_at.Kinds as wide_at_kinds
use Rattle.octets.proofs.wide_at.Reads as wide_at
use Rattle.octets.proofs.word_octets.Kinds as word_octets_kinds
use Rattle.octets.proofs.word_octets.Reads as word_octets
use Rattle.octets.proofs.bits.Kinds as bits_kinds
use Rattle.octets.proofs.bits.Reads as bits
use Rattle.octets.proofs.is_set.Kinds as is_set_kinds
use Rattle.octets.proofs.is_set.Reads as is_set
use Rattle.octets.proofs.some_of.Kinds as some_of_kinds
use Rattle.octets.proofs.some_of.Reads as some_of

pub octet_at_decides : Decides 1 octet_at_kinds.ps octet_at_kinds.r octet_at.Post
octet_at_decides κs args x y e f p q = p ∙ sym q

pub word_at_decides : Decides 1 word_at_kinds.ps word_at_kinds.r word_at.Post
word_at_decides κs args x y e f p q = p ∙ sym q

pub long_at_decides : Decides 1 long_at_kinds.ps long_at_kinds.r long_at.Post
long_at_decides κs args x y e f p q = p ∙ sym q

pub address_at_decides : Decides 1 address_at_kinds.ps address_at_kinds.r address_at.Post
address_at_decides κs args x y e f p q = p ∙ sym q

pub wide_at_decides : Decides 1 wide_at_kinds.ps wide_at_kinds.r wide_at.Post
wide_at_decides κs args x y e f p q = p ∙ sym q

pub word_octets_decides : Decides 0 word_octets_kinds.ps word_octets_kinds.r word_octets.Post
word_octets_decides κs args x y e f p q = p ∙ sym q

pub bits_decides : Decides 0 bits_kinds.ps bits_kinds.r bits.Post
bits_decides κs args x y e f p q = p ∙ sym q

pub is_set_decides : Decides 0 is_set_kinds.ps is_set_kinds.r is_set.Post
is_set_decides κs args x y e f p q = p ∙ sym q

pub some_of_decides : Decides 0 some_of_kinds.ps some_of_kinds.r some_of.Post
some_of_decides κs args x y e f p q = p ∙ sym q
