-- The round trip: a frame that is built reads back as the same request, its enable octet and all eight times, for every source, every
-- own address and every M from 64 to 9,216, with any octets after the sixtieth that M leaves room for. It is for whoever builds at one
-- end and reads at the other. It assumes that each time fits its two octets, as the builder's type says.
use Prim.Native.Nat.{ℕ, ◌+◌, ◌*◌, ◌/◌, ◌%◌, ◌-◌, ◌<◌, ◌≤◌}
use mathlib.Core.Path.{◌≡◌, ap, ◌∙◌}
use mathlib.Core.Bool.{false}
use mathlib.Core.List.{List, ◌++◌}
use native.Mathlib.Omega.{arith}
use lib.ListN.{length, get_or}
use lib.Dec.{ltb}
use borrow.Author.Tests.{le-ltb}
use Rattle.std.specs.Prelude.{Some, Ok}
use Rattle.ground.specs.Pick.{pick}
use Rattle.ground.specs.First.{first_of}
use Rattle.frame_build.specs.Build.{built_frame}
use Rattle.frame.specs.declared.Request.{Request}
use Rattle.frame.specs.Read.{is_accepted, is_control, is_elsewhere, is_other, order_by, taken, verdict, request_of, request_in}
use Rattle.limits.specs.Limits.{refused13}
use Rattle.refusals.proofs.Refused.{not_refused}

-- within the limits none of 13, 1 and 2 is given, and with neither of 3 and 4 nothing is refused
pub size_passes : (size M : ℕ) → 64 ≤ M → M ≤ 9216 → 60 ≤ size → size ≤ M - 4 →
    first_of (order_by (refused13 M) (ltb size 60) (ltb (M - 4) size) false false) ≡ 0
unfolding first_of order_by pick
size_passes size M least most whole fits =
    simp (le-ltb M 64 least, le-ltb 9216 M most, le-ltb size 60 whole, le-ltb (M - 4) size fits)

-- the two octets of a time make the time again
rejoined : (times : List ℕ) → ((n : ℕ) → get_or times n 0 < 65536) → (n : ℕ) →
    256 * (get_or times n 0 / 256 % 256) + get_or times n 0 % 256 ≡ get_or times n 0
rejoined times fit n = omega (arith, fit n)

-- the request in a built frame is the one that it was built of
request_kept : (source : List ℕ) (e : ℕ) (times rest : List ℕ) → ((n : ℕ) → get_or times n 0 < 65536) →
    request_in (built_frame source e times ++ rest) ≡ request_of e times
request_kept source e times rest fit =
    let kept = rejoined times fit in
    cc (kept 0, kept 1, kept 2, kept 3, kept 4, kept 5, kept 6, kept 7)

pub reads_back : (source : List ℕ) (e : ℕ) (times rest own : List ℕ) (M : ℕ) → 64 ≤ M → M ≤ 9216 → 60 + length rest ≤ M - 4 →
    ((n : ℕ) → get_or times n 0 < 65536) → verdict (built_frame source e times ++ rest) M own ≡ Ok (Some (request_of e times))
unfolding verdict taken is_control is_elsewhere is_other is_accepted pick
reads_back source e times rest own M least most room fit =
    let size = length (built_frame source e times ++ rest) in
    not_refused _ (taken (built_frame source e times ++ rest)) (size_passes size M least most (omega arith) (omega arith)) ∙
    ap (λ (asked : Request). Ok (Some asked)) (request_kept source e times rest fit)
