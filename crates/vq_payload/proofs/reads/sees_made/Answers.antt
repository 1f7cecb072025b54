use Rattle.std.proofs.Common.{◌∙◌, ap, sym, subst}
use Rattle.vq_board_laws.specs.declared.view.View.{View}
use Rattle.vq_board_laws.specs.PointSteps.{recalls}
use Rattle.vq_board.specs.Named.{view}
use Rattle.vq_payload.specs.Reading.{ShowsNext}
use Rattle.vq_payload.proofs.Growing.{learned_on, learned_recall}
use Rattle.vq_payload.proofs.Looking.{recalled_unbound}
use Rattle.vq_payload.proofs.reads.sees_made.Goals as goal

pub returns-in-Unbound-clause-pass : goal.returns-in-Unbound-clause-pass
returns-in-Unbound-clause-pass c = learned_recall c.args.pass.now c.recall.new.pass c.args.op c.recall.result _ c.recall.ensures.pass

pub returns-in-Unbound-clause-shown : goal.returns-in-Unbound-clause-shown
returns-in-Unbound-clause-shown c = λ _.
    subst (λ (w : View). ShowsNext (view c.args.pass.now) w c.args.op) (sym (c.recall.ensures.pass.2 ∙ ap (recalls (view c.args.pass.now) c.args.op) c.in-Unbound.is))
    (recalled_unbound (view c.args.pass.now) c.args.op)

pub returns-in-Past-clause-pass : goal.returns-in-Past-clause-pass
returns-in-Past-clause-pass c = learned_recall c.args.pass.now c.recall.new.pass c.args.op c.recall.result _ c.recall.ensures.pass

pub returns-in-Bound-clause-pass : goal.returns-in-Bound-clause-pass
returns-in-Bound-clause-pass c =
    learned_on c.args.pass.now c.recall.new.pass c.sees_made_at.new.pass
    (learned_recall c.args.pass.now c.recall.new.pass c.args.op c.recall.result _ c.recall.ensures.pass) c.sees_made_at.ensures.pass
