-- `Reading` holds at each octet.
use Rattle.words.proofs.Reading.{Reading}
use Rattle.words.proofs.number_of.Given as goal

abbrev pub invariant-loop-octet : goal.invariant-loop-octet
invariant-loop-octet l = Reading l.word l.so_far l.octet-index
