-- What is built in a buffer of 60 octets is the frame. Assumes nothing.
use Rattle.std.proofs.Common.{ap, ◌∙◌}
use Rattle.ground.specs.Pick.{pick}
use Rattle.ground.specs.First.{first_of}
use Rattle.refusals.specs.Refusals.{refused_or}
use Rattle.frame_build.specs.Build.{built_frame, buffer_for, build_verdict}
use Rattle.bench_meaning.specs.Step.{source_b}
use Rattle.asking.proofs.pfc_octets.Goals as goal

pub returns : goal.returns
unfolding buffer_for build_verdict refused_or first_of pick
returns c = c.build.ensures.octets ∙ ap (built_frame source_b c.args.watch.settings.enabled) c.times_for-times.ensures
