-- What `settle` answers by the headroom layer's refusals and by the house's. Assumes nothing.
use Rattle.settings.proofs.SettingsLaws.{told}
use Rattle.settings.proofs.Settled.{settled_by_sum, settled_by_house, accepted}
use Rattle.settings.proofs.settle.Goals as goal

pub returns-in_err-kept-clause-answer : goal.returns-in_err-kept-clause-answer
returns-in_err-kept-clause-answer c = settled_by_sum _ _ _ c.from_residual.ensures.1 c.in_err-kept.ensures.answer

pub returns-in_err-kept-clause-number : goal.returns-in_err-kept-clause-number
returns-in_err-kept-clause-number c = told _ _ (returns-in_err-kept-clause-answer c)

pub returns-in_err-house_refusal-clause-answer : goal.returns-in_err-house_refusal-clause-answer
returns-in_err-house_refusal-clause-answer c =
    settled_by_house _ _ c.in_ok-kept.ensures.answer _ _ c.from_residual-in_err-house_refusal.ensures.1 c.in_err-house_refusal.ensures

pub returns-in_err-house_refusal-clause-number : goal.returns-in_err-house_refusal-clause-number
returns-in_err-house_refusal-clause-number c = told _ _ (returns-in_err-house_refusal-clause-answer c)

pub returns-clause-answer : goal.returns-clause-answer
returns-clause-answer c = accepted _ _ c.in_ok-kept.ensures.answer c.in_ok-house_refusal.ensures

pub returns-clause-number : goal.returns-clause-number
returns-clause-number c = told _ _ (returns-clause-answer c)
