-- What `build` answers and leaves in the buffer, by those of what it calls. Assumes nothing.
use Rattle.std.proofs.Common.{ℕ, List, ◌++◌, length, refl, ap, ap₂, ◌∙◌, arith}
use Rattle.std.proofs.Math.ListN.{replicate}
use Rattle.refusals.proofs.Refused.{handed_on, ok_is}
use Rattle.frame_build.specs.Build.{build_verdict, buffer_for, put_before}
use Rattle.frame_build.proofs.Building.{bears, buffer_left, has_room}
use Rattle.frame_build.proofs.build.Goals as goal

pub returns-in_err-refused : goal.returns-in_err-refused
unfolding build_verdict buffer_for
returns-in_err-refused c =
    let a = c.args in
    let is = handed_on _ (tt {0}) (tt {0}) c.in_err-refused.field-0.0 c.from_residual.result c.from_residual.ensures.1 c.in_err-refused.ensures in
    record { number = bears _ a.source is; answer = is; octets = buffer_left a.source a.e a.times a.buffer.now _ c.in_err-refused.ensures refl }

pub returns : goal.returns
unfolding build_verdict buffer_for
returns c =
    let a = c.args in
    let is = c.in_ok-refused.ensures in
    let made =
    c.frame_octets-made.ensures
    ∙ ap₂ (λ (lead times : List ℕ). lead ++ times ++ replicate 26 0) c.lead_octets.ensures c.time_octets.ensures in
    record {
      number = bears _ a.source is;
      answer = is;
      octets = buffer_left a.source a.e a.times a.buffer.now _ is (c.put.ensures ∙ ap (λ (octets : List ℕ). put_before octets a.buffer.now) made);
    }

pub put-requires : goal.put-requires
put-requires c =
    let made =
    c.frame_octets-made.ensures
    ∙ ap₂ (λ (lead times : List ℕ). lead ++ times ++ replicate 26 0) c.lead_octets.ensures c.time_octets.ensures in
    omega (arith, ap length made, has_room _ _ (ok_is _ (tt {0}) c.in_ok-refused.ensures).0)
