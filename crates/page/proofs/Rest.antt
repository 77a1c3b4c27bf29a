-- The octets behind what is on a page stay 0 when words are put on it.
use Rattle.std.proofs.Common.{◌≡◌, ℕ, ◌+◌, ◌-◌, ◌≤◌, List, length, drop, replicate, sym, ap, ◌∙◌, arith, drop-drop, length-drop, length-take-le}
use Rattle.std.proofs.lemmas.List.{drop-replicate}
use Rattle.std.proofs.lemmas.Slice.{drop-put_mid}
use borrow.Rule.Slice.PartMut.{put_mid, same_len_mid, mid_of}
use Rattle.page.specs.Page.{IsFilled}

-- k octets are put behind those that are used, where they fit
pub still_filled : (used k : ℕ) (octets words : List ℕ) → IsFilled used octets → used + k ≤ 8192 → length words ≡ k →
    IsFilled (used + k) (put_mid used k octets words)
still_filled used k octets words filled fits sized =
    let long : length octets ≡ 8192 = filled.1 in
    let within : used ≤ length octets = omega (arith, filled.0, long) in
    let part : length (mid_of used k octets) ≡ k = length-take-le k (drop used octets) (omega (arith, length-drop used octets, long, fits)) in
    let after : length (put_mid used k octets words) ≡ length octets = same_len_mid used k octets words (omega (arith, part, sized)) in
    let behind : drop (used + k) (put_mid used k octets words) ≡ drop (used + k) octets =
    drop-put_mid used k octets words (used + k) (omega arith) within sized in
    let left : 8192 - used - k ≡ 8192 - (used + k) = omega arith in
    let zeros : drop k (drop used octets) ≡ replicate (8192 - (used + k)) 0 =
    ap (drop k) filled.2 ∙ drop-replicate k (8192 - used) 0 ∙ ap (λ (n : ℕ). replicate n 0) left in
    (fits, omega (arith, after, long), behind ∙ sym (drop-drop k used octets) ∙ zeros)
