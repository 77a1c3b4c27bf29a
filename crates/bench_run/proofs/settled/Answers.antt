-- Accepted settings: what follows them is run. Assumes nothing.
use Rattle.std.proofs.Common.{◌-◌, length, take, drop, sym, ap, ◌∙◌}
use Rattle.ground.proofs.Parts.{take_rest}
use Rattle.settings.specs.declared.Settings.{Settings}
use Rattle.settings.specs.Settings.{settling}
use Rattle.bench_meaning.specs.Run.{settings_in, watch_with, follow_of}
use Rattle.bench_run.proofs.Running.{settled_accepted}
use Rattle.bench_run.proofs.settled.Goals as goal

pub returns-in-Ok : goal.returns-in-Ok
returns-in-Ok c =
    let input = c.args.input.now in
    let kept = c.in-Ok.kept in
    c.follow.ensures ∙
    ap (λ (s : Settings). follow_of (watch_with s kept) (take (length input - 58) (drop 58 input))) c.settings_in-settings.ensures ∙
    ap (follow_of (watch_with (settings_in input) kept)) (take_rest 58 input) ∙
    settled_accepted input _ (ap settling (sym c.settings_in-settings.ensures) ∙ sym c.in-Ok.ensures.answer)
