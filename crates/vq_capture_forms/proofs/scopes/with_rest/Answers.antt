use Rattle.std.specs.List.{slice_split}
use Rattle.vq_capture.specs.MaskWords.{is_colon}
use Rattle.vq_capture_forms.proofs.ThreeParts.{three_parts}
use Rattle.vq_capture_forms.proofs.scopes.with_rest.Goals as goal

pub returns-in-Some : goal.returns-in-Some
returns-in-Some c =
    three_parts c.args.stages.now c.first_part.result.0.now (slice_split is_colon c.args.rest.now) c.first_part.result.1 c.in-Some.field-0 c.in-Some.is c.first_part.ensures.parts
