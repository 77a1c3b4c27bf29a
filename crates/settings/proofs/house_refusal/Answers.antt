-- 17, 18 and 16 decide where one of them holds; once they passed the hysteresis is within its limit and 15 is left. Assumes nothing.
use Rattle.std.proofs.Common.{ℕ, refl, sym, ap, ◌∙◌, arith}
use Rattle.ground.specs.Pick.{pick}
use Rattle.ground.proofs.Pick.{pick_yes, pick_no}
use Rattle.refusals.specs.Refusals.{refused_or, numbered_in}
use Rattle.settings.proofs.Settled.{calm, own_passage, own_headroom, bounds_refused, bounds_passed}
use Rattle.settings.proofs.house_refusal.Goals as goal

pub returns-in_err-bounds_refusal : goal.returns-in_err-bounds_refusal
returns-in_err-bounds_refusal c =
    let s = c.args.s in
    let own = sym (own_passage s _ c.requires c.refused_16-is_16.ensures refl) in
    bounds_refused s c.refused_17-is_17.ensures c.refused_18-is_18.ensures own _ _ c.from_residual.ensures.1 c.in_err-bounds_refusal.ensures

pub refused_15-requires : goal.refused_15-requires
refused_15-requires c =
    let s = c.args.s in
    let own = sym (own_passage s _ c.requires c.refused_16-is_16.ensures refl) in
    let none = bounds_passed s c.refused_17-is_17.ensures c.refused_18-is_18.ensures own c.in_ok-bounds_refusal.ensures in
    omega (arith, calm s.enabled s.rooms s.hysteresis (sym c.refused_18-is_18.ensures ∙ none.1), c.requires.small, c.requires.headroom)

pub returns-then-refused_15 : goal.returns-then-refused_15
unfolding refused_or numbered_in pick
returns-then-refused_15 c =
    let s = c.args.s in
    let own = sym (own_passage s _ c.requires c.refused_16-is_16.ensures refl) in
    let none = bounds_passed s c.refused_17-is_17.ensures c.refused_18-is_18.ensures own c.in_ok-bounds_refusal.ensures in
    let over = own_headroom s _ c.requires c.refused_15.ensures c.if-refused_15.true in
    sym (ap (λ (n : ℕ). refused_or n tt) (none.0 ∙ pick_yes _ _ over))

pub returns : goal.returns
unfolding refused_or pick
returns c =
    let s = c.args.s in
    let own = sym (own_passage s _ c.requires c.refused_16-is_16.ensures refl) in
    let none = bounds_passed s c.refused_17-is_17.ensures c.refused_18-is_18.ensures own c.in_ok-bounds_refusal.ensures in
    let fits = own_headroom s _ c.requires c.refused_15.ensures c.if-refused_15.false in
    sym (ap (λ (n : ℕ). refused_or n tt) (none.0 ∙ pick_no _ _ fits))
