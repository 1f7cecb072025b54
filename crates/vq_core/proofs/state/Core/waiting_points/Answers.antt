use Rattle.std.proofs.Common.{◌≡◌, ◌<◌, ◌∙◌, length, get_or, sym, ap, subst, arith}
use Rattle.std.proofs.lemmas.List.{get_or_default}
use Rattle.std.specs.List.{filter_map}
use Rattle.vq_model.specs.Plan.{chain}
use Rattle.vq_point_laws.specs.Timeline.{Timeline}
use Rattle.vq_turns.specs.Turns.{waiting_point}
use Rattle.vq_core.specs.CoreState.{Course, world, IsCourse}
use Rattle.vq_core.specs.Kept.{course_of}
use Rattle.vq_tables.specs.Tables.{no_timeline}
use Rattle.vq_core.proofs.Collecting.{waiting_are}
use Rattle.vq_core.proofs.state.Core.waiting_points.Goals as goal

pub returns : goal.returns
returns c =
    let a = c.self.inside in
    let i = c.self.invariant in
    let t = c.args.chain in
    let s : Course = course_of a in
    let k : IsCourse s = record { read = i.read; lawful = i.lawful; history_from = i.history } in
    let exists : t < length s.plan.chains = subst (λ (s : Course). t < length s.plan.chains)
    (sym c.self.view_is) c.requires in
    let count = i.tells.timelines.count in
    let within : t < length a.timelines.items = omega arith in
    let same = c.index.ensures ∙ get_or_default a.timelines.items t c.index.result.now no_timeline within in
    c.waiting_free.ensures ∙ ap (λ (l : Timeline). l.waiting) same
    ∙ sym (subst (λ (s : Course). filter_map (waiting_point (world s))
    (chain s.plan t) ≡ (get_or a.timelines.items t no_timeline).waiting) c.self.view_is
    (waiting_are s k t (get_or a.timelines.items t no_timeline) (i.tells.timelines.each t within)
    (i.tells.timelines.kept t within)))
