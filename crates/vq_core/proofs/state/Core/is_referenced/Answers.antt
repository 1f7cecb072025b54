use Rattle.std.proofs.Common.{◌≡◌, ◌==◌, get_or, ap, ◌∙◌, subst}
use Rattle.std.specs.Prelude.{nat_lt}
use Rattle.std.specs.List.{list_any}
use Rattle.vq_core.specs.CoreState.{Course, world}
use Rattle.vq_core.specs.Kept.{course_of}
use Rattle.vq_tables.specs.declared.table.PointSlot.{PointSlot}
use Rattle.vq_core.proofs.Courses.{counts_any}
use Rattle.vq_core.proofs.state.Core.is_referenced.Goals as goal

pub returns : goal.returns
returns c =
    let q = c.args.point in
    let is = c.at.ensures ∙ ap (get_or c.self.inside.slots q) c.empty.ensures in
    let counted = ap (λ (s : PointSlot). s.references) is ∙ (c.self.invariant.tells.slots.each q).references in
    subst (λ (s : Course). nat_lt 0 c.at.result.references ≡ list_any (λ r. r.point == q) (world s).held) c.self.view_is
    (ap (nat_lt 0) counted ∙ counts_any (λ r. r.point == q) (world (course_of c.self.inside)).held)
