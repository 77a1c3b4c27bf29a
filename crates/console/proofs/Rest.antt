-- What came into the rest of a buffer.
use Rattle.std.proofs.Common.{◌≡◌, ℕ, ◌+◌, ◌-◌, ◌≤◌, List, ◌++◌, length, take, drop, sym, ap, ◌∙◌, subst, le_refl, arith, [], drop_at, length-take-le}
use Rattle.std.proofs.lemmas.Slice.{take-put_mid_below}
use Rattle.std.specs.Io.KnownBytes.{Consumes, Keeps}
use Rattle.std.proofs.KnownBytes.{Consumes-trans}
use Rattle.std.specs.Prelude.{Option, None, Some}
use borrow.Rule.Slice.PartMut.{put_mid, post_of}
use lib.Seq.{take-add, take-append-le}

-- what an input gave so far is at the front of a buffer, and what it gave then is at the front of the rest: together they are at the front
pub more_came : (start now next : Option (List ℕ)) (at count : ℕ) (buffer rest : List ℕ) → at ≤ length buffer → count ≤ length rest
    → Consumes start now (take at buffer) → Consumes now next (take count rest)
    → Consumes start next (take (at + count) (put_mid at (length buffer - at) buffer rest))
more_came start now next at count buffer rest within fits before came =
    let room = length buffer - at in
    let after = post_of at room buffer in
    let new = put_mid at room buffer rest in
    let front : take at new ≡ take at buffer = take-put_mid_below _ _ _ _ _ (le_refl _) within in
    let back : take count (drop at new) ≡ take count rest =
    ap (take count) (drop_at (take at buffer) (rest ++ after) at (length-take-le at buffer within)) ∙ take-append-le count rest after fits in
    let split : take (at + count) new ≡ take at new ++ take count (drop at new) = take-add at count new in
    let joined : take at buffer ++ take count rest ≡ take (at + count) new =
    ap (λ (l : List ℕ). l ++ take count rest) (sym front) ∙ ap (λ (l : List ℕ). take at new ++ l) (sym back) ∙ sym split in
    subst (Consumes start next) joined (Consumes-trans start now next _ _ before came)

-- an input that stays as it was gave no octets
nothing : (now next : Option (List ℕ)) → Keeps now next → Consumes now next []
nothing None next kept = tt
nothing (Some xs) None kept = elim kept [ ]
nothing (Some xs) (Some ys) kept = sym kept

-- what an input gave so far is at the front of a buffer, also once a read that gave nothing wrote to the rest
pub none_came : (start now next : Option (List ℕ)) (at : ℕ) (buffer rest : List ℕ) → at ≤ length buffer
    → Consumes start now (take at buffer) → Keeps now next → Consumes start next (take at (put_mid at (length buffer - at) buffer rest))
none_came start now next at buffer rest within before kept =
    let same : at + 0 ≡ at = omega arith in
    subst (λ (n : ℕ). Consumes start next (take n (put_mid at (length buffer - at) buffer rest))) same
    (more_came start now next at 0 buffer rest within (omega arith) before (nothing now next kept))
