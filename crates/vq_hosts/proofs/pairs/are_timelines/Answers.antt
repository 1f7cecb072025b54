use Rattle.std.proofs.Common.{◌&&◌, Bool, not, sym, ap, ◌∙◌}
use Rattle.std.specs.List.{list_all}
use Rattle.vq_model.specs.declared.statement.Form.TheVariants.{Plain}
use Rattle.vq_model.specs.Context.{number_at}
use Rattle.vq_model.specs.LineFaults.{is_known}
use Rattle.vq_model.specs.Meaning.{pair_places}
use Rattle.vq_model.specs.Text.{words_in}
use Rattle.vq_hosts.proofs.PairSteps.{next_known}
use Rattle.vq_hosts.proofs.pairs.are_timelines.Goals as goal

pub returns-then-is_none : goal.returns-then-is_none
returns-then-is_none c = λ lines h.
    let more = pair_places (words_in c.in-Some.after.now) in
    sym (sym (c.loop-name.invariant lines h)
    ∙ next_known (number_at lines) _ _ _ more _ _ c.in-Some.ensures.0 (c.timeline.ensures Plain lines h) c.is_none.ensures
    ∙ ap (λ (b : Bool). not b && list_all (is_known (number_at lines)) more) c.if-is_none.true)

pub loop-name-preserved : goal.loop-name-preserved
loop-name-preserved c = λ lines h.
    let more = pair_places (words_in c.in-Some.after.now) in
    sym (next_known (number_at lines) _ _ _ more _ _ c.in-Some.ensures.0 (c.timeline.ensures Plain lines h) c.is_none.ensures
    ∙ ap (λ (b : Bool). not b && list_all (is_known (number_at lines)) more) c.if-is_none.false)
    ∙ c.loop-name.invariant lines h
