use Rattle.std.proofs.Common.{◌≡◌, ◌∙◌, Some, false, get_or, sym, ap, subst}
use Rattle.std.specs.Prelude.{IsTrue, ◌↔◌, nat_eq}
use Rattle.vq_tables.specs.declared.table.PointSlot.{PointSlot}
use Rattle.vq_core.specs.CoreState.{Course, world, IsCourse}
use Rattle.vq_core.proofs.Courses.{carried_exists}
use Rattle.vq_core.proofs.Tests.{some_iff, none_iff}
use Rattle.vq_core.proofs.state.Core.carries.Goals as goal

pub returns-in-Some-clause-carries : goal.returns-in-Some-clause-carries
returns-in-Some-clause-carries c =
    let q = c.args.point in
    let is = ap (λ (s : PointSlot). s.carried) (c.at.ensures ∙ ap (get_or c.self.inside.slots q) c.empty.ensures)
    ∙ (c.self.invariant.tells.slots.each q).is_carried in
    let found = sym c.in-Some.is ∙ is in
    subst (λ (s : Course). IsTrue (nat_eq c.in-Some.carried c.args.op) ↔ ((world s).carried q ≡ Some c.args.op))
    c.self.view_is
    (some_iff c.in-Some.carried c.args.op (λ e. sym found ∙ e) (λ e. found ∙ e))

pub returns-in-None-clause-carries : goal.returns-in-None-clause-carries
returns-in-None-clause-carries c =
    let q = c.args.point in
    let is = ap (λ (s : PointSlot). s.carried) (c.at.ensures ∙ ap (get_or c.self.inside.slots q) c.empty.ensures)
    ∙ (c.self.invariant.tells.slots.each q).is_carried in
    let found = sym c.in-None.is ∙ is in
    subst (λ (s : Course). IsTrue false ↔ ((world s).carried q ≡ Some c.args.op)) c.self.view_is
    (none_iff c.args.op (λ e. found ∙ e))

pub returns-in-Some-clause-exists : goal.returns-in-Some-clause-exists
returns-in-Some-clause-exists c = carried_exists c.args.self.now (subst IsCourse c.self.view_is (record {
  read =
      c.self.invariant.read;
  lawful = c.self.invariant.lawful;
  history_from = c.self.invariant.history;
})) c.args.point
    c.args.op

pub returns-in-None-clause-exists : goal.returns-in-None-clause-exists
returns-in-None-clause-exists c = carried_exists c.args.self.now (subst IsCourse c.self.view_is (record {
  read =
      c.self.invariant.read;
  lawful = c.self.invariant.lawful;
  history_from = c.self.invariant.history;
})) c.args.point
    c.args.op
