use Rattle.std.proofs.Common.{◌≡◌, ◌∙◌, Some, rules}
use Rattle.std.specs.List.{slice_get}
use Rattle.vq_capture_check.proofs.LooseFound.{goes_first}
use Rattle.vq_capture_check.proofs.touched.goes_on.Goals as goal

pub returns-in-Some : goal.returns-in-Some
returns-in-Some c =
    let first : slice_get c.args.newest.now 0 ≡ Some c.in-Some.w.now = search rules in
    c.same_command.ensures ∙ goes_first c.args.step.now c.args.newest.now c.in-Some.w.now first c.requires
