use Rattle.std.proofs.Common.{rules}
use Rattle.std.proofs.lemmas.Fn.{filter_same}
use Rattle.std.specs.Prelude.{not}
use Rattle.vq_capture_touched.specs.declared.touch.Touch.{Touch}
use Rattle.vq_capture_check.specs.Watching.{is_stood_for}
use Rattle.vq_capture_check.proofs.touched.forget.Goals as goal

pub returns : goal.returns
returns c =
    filter_same _ (λ (t : Touch). not (is_stood_for c.args.step.now c.args.newest.now t)) _ (λ x b f k. search rules) _ _ c.retain.ensures.filtered
