-- The lead, the times after it, then the zeroes that are left. Assumes nothing.
use Rattle.std.proofs.Common.{◌≡◌, length}
use borrow.Author.Rules.{rules}
use Rattle.frame_build.proofs.Building.{parts_joined}
use Rattle.frame_build.proofs.frame_octets.Goals as goal

pub returns : goal.returns
returns c =
    let long : length c.args.lead ≡ 18 = search rules in
    rw (c.copy_from_slice.ensures.after, c.copy_from_slice-2.ensures.after) (parts_joined c.args.lead c.args.times _ long)
