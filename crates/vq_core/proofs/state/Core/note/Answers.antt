use Rattle.std.proofs.Common.{◌∙◌, ◌<◌, ℕ, [], get_or, sym, ap, subst}
use Rattle.vq_point_laws.specs.Points.{needs_resolved}
use Rattle.vq_tables.specs.declared.notes.Note.{Note}
use Rattle.vq_core.specs.CoreState.{Course, world}
use Rattle.vq_core.specs.Kept.{course_of}
use Rattle.vq_tables.specs.Notes.{IsNote, place_in, no_note}
use Rattle.vq_core.proofs.state.Core.note.Goals as goal

pub returns : goal.returns
returns c =
    let j = c.args.job in
    let e = c.args.op in
    let place = c.place_of_need-place.ensures ∙ sym (ap (λ (s : Course). place_in s.plan j e) c.self.view_is) in
    let is = c.at.ensures ∙ ap (λ (k : ℕ). get_or (get_or c.self.inside.notes j []) k no_note) place in
    subst (λ (s : Course). 0 < needs_resolved s.plan j e →
    IsNote s.plan (world s).machine.progress.finished (world s).held (world s).referred (world s).looked j e
    c.at.result) c.self.view_is
    (λ more. subst (λ (n : Note). IsNote c.self.inside.ordered (world (course_of
    c.self.inside)).machine.progress.finished (world (course_of c.self.inside)).held (world (course_of
    c.self.inside)).referred (world (course_of c.self.inside)).looked j e n) (sym is)
    (c.self.invariant.tells.notes.each j e more))
