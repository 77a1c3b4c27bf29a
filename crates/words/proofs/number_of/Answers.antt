-- `Reading` goes on by one octet. Assumes nothing.
use Rattle.std.proofs.Common.{ℕ, ◌≤◌, refl, rules, get_or}
use Rattle.words.specs.Words.{zero', nine'}
use Rattle.words.proofs.Reading.{goes_on}
use Rattle.words.proofs.number_of.Goals as goal

pub loop-octet-preserved : goal.loop-octet-preserved
loop-octet-preserved c =
    let octet : ℕ = get_or c.args.word.now c.loop-octet.octet-index 0 in
    let low : zero' ≤ octet = search rules in
    let high : octet ≤ nine' = search rules in
    goes_on _ _ _ octet _ _ _ c.loop-octet.invariant c.loop-octet-test.true refl low high c.from.ensures c.extended.ensures c.in_ok-so_far.ensures.ok_part
