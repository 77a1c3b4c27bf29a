use Rattle.std.proofs.Common.{rules, ◌≡◌, ℕ, ◌+◌, ◌-◌, length, ap, arith, subst, sym}
use borrow.Rule.Slice.PartMut.{put_mid}
use Rattle.page.specs.Page.{IsFilled}
use Rattle.page.proofs.Rest.{still_filled}
use Rattle.page.proofs.Page.put.Goals as goal

-- after the words: they are behind what was used, and behind them there is 0 still
pub invariant_of-self-2 : goal.invariant_of-self-2
invariant_of-self-2 c =
    let count = length c.args.words.now in
    let used = c.self.inside.used in
    let same : count ≡ used + count - used = omega arith in
    subst (λ (k : ℕ). IsFilled (used + count) (put_mid used k c.self.inside.octets c.copy_from_slice.new.self)) same
    (still_filled used count c.self.inside.octets c.copy_from_slice.new.self c.self.invariant (search rules)
    (ap length c.copy_from_slice.ensures.after))
