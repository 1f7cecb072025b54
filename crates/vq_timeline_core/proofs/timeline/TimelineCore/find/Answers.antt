use Rattle.std.proofs.Common.{◌≡◌, ◌<◌, ◌≤◌, ◌↔◌, ℕ, sym, ◌∙◌, ap, subst, arith}
use Rattle.vq_point_laws.specs.Timeline.{Timeline, past_value, pending_value}
use Rattle.vq_timeline_core.specs.declared.answers.Found.TheVariants as found_as
use Rattle.vq_timeline_core.specs.Answers.{found}
use Rattle.vq_timeline_core.specs.Lists.{lists_of}
use Rattle.vq_timeline_core.proofs.Points.{read_point, pending_is_some}
use Rattle.vq_timeline_core.proofs.Finding.{IsLate, late_cut, past_below, found_past, found_not_yet, found_pending, not_yet_is}
use Rattle.vq_timeline_core.proofs.timeline.TimelineCore.find.Goals as goal

pub returns-then-value-past-clause-not_yet : goal.returns-then-value-past-clause-not_yet
returns-then-value-past-clause-not_yet c =
    let t = lists_of c.self.inside in
    let early = subst (λ (t : Timeline). c.args.value ≤ past_value t) (sym c.self.view_is) (subst (λ (n : ℕ). c.args.value ≤ n) c.past.ensures c.if-value-past.true) in
    subst (λ (u : Timeline). (found_as.Past c.self.inside.completed ≡ found_as.NotYet u.bound) ↔ (pending_value u < c.args.value)) c.self.view_is
    (not_yet_is t c.args.value (found_as.Past c.self.inside.completed) c.self.invariant.kept (found_past t c.args.value early))

pub returns-then-index-self-clause-answer : goal.returns-then-index-self-clause-answer
returns-then-index-self-clause-answer c =
    let t = lists_of c.self.inside in
    let late = subst (λ (t : Timeline). IsLate t c.args.value c.first_reaching-index.result) (sym c.self.view_is) (late_cut c.args.self.now c.args.value c.first_reaching-index.result c.past.result c.past.ensures c.if-value-past.false c.first_reaching-index.ensures) in
    found_not_yet t c.args.value c.first_reaching-index.result c.self.invariant.kept late c.if-index-self.true
    ∙ ap (λ (u : Timeline). found u c.args.value) c.self.view_is

pub returns-then-index-self-clause-not_yet : goal.returns-then-index-self-clause-not_yet
returns-then-index-self-clause-not_yet c =
    subst (λ (u : Timeline). (found_as.NotYet c.self.inside.bound ≡ found_as.NotYet u.bound) ↔ (pending_value u < c.args.value)) c.self.view_is
    (not_yet_is (lists_of c.self.inside) c.args.value (found_as.NotYet c.self.inside.bound) c.self.invariant.kept
    (returns-then-index-self-clause-answer c ∙ sym (ap (λ (u : Timeline). found u c.args.value) c.self.view_is)))

pub unwrap-requires : goal.unwrap-requires
unwrap-requires c =
    let t = lists_of c.self.inside in
    let late = subst (λ (t : Timeline). IsLate t c.args.value c.first_reaching-index.result) (sym c.self.view_is) (late_cut c.args.self.now c.args.value c.first_reaching-index.result c.past.result c.past.ensures c.if-value-past.false c.first_reaching-index.ensures) in
    pending_is_some t c.first_reaching-index.result c.index.result.now c.self.invariant.kept
    (past_below t c.args.value c.first_reaching-index.result c.self.invariant.kept late) c.if-index-self.false c.index.ensures

pub returns-clause-answer : goal.returns-clause-answer
returns-clause-answer c =
    let t = lists_of c.self.inside in
    let k = c.self.invariant.kept in
    let late = subst (λ (t : Timeline). IsLate t c.args.value c.first_reaching-index.result) (sym c.self.view_is) (late_cut c.args.self.now c.args.value c.first_reaching-index.result c.past.result c.past.ensures c.if-value-past.false c.first_reaching-index.ensures) in
    let within = k.within in
    let test = c.if-index-self.false in
    let slot = sym (read_point t c.first_reaching-index.result c.index.result.now k (omega arith) c.index.ensures) ∙ c.unwrap.ensures in
    found_pending t c.args.value c.first_reaching-index.result c.unwrap.result k late test slot
    ∙ ap (λ (u : Timeline). found u c.args.value) c.self.view_is

pub returns-clause-not_yet : goal.returns-clause-not_yet
returns-clause-not_yet c =
    subst (λ (u : Timeline). (found_as.Pending c.first_reaching-index.result c.unwrap.result ≡ found_as.NotYet u.bound) ↔ (pending_value u < c.args.value)) c.self.view_is
    (not_yet_is (lists_of c.self.inside) c.args.value (found_as.Pending c.first_reaching-index.result c.unwrap.result) c.self.invariant.kept
    (returns-clause-answer c ∙ sym (ap (λ (u : Timeline). found u c.args.value) c.self.view_is)))
