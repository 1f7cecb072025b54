use Rattle.std.proofs.Common.{◌∙◌, ap, rules}
use Rattle.vq_capture_clocks.specs.declared.gone.GoneLanes.{GoneLanes}
use Rattle.vq_capture_clocks.specs.Gone.{gone_place}
use Rattle.vq_capture_clocks.specs.Least.{least_in}
use Rattle.vq_capture_clocks.proofs.Numbered.{cleared_gone, cleared_back}
use Rattle.vq_capture_clocks.proofs.cells.clear_site.Goals as goal

pub returns-then-clear : goal.returns-then-clear
returns-then-clear c =
    cleared_gone (least_in c.args.least.now) c.args.gone.now c.args.cells.now c.remove.new.self c.args.number c.in-Some.ensures.updates.0 c.in-Some.site c.clear.new.self (search rules)
    (λ p l g. c.clear.ensures.same p l (ap (λ (x : GoneLanes). gone_place x p) c.gone_at.ensures ∙ g))
    (c.clear.ensures.nothing c.if-clear.true)

pub returns : goal.returns
returns c =
    cleared_back (least_in c.args.least.now) c.args.gone.now c.args.cells.now c.remove.new.self c.args.number c.in-Some.ensures.updates.0 c.in-Some.site c.clear.new.self (search rules)
    (λ p l g. c.clear.ensures.same p l (ap (λ (x : GoneLanes). gone_place x p) c.gone_at.ensures ∙ g))
    c.insert.new.self c.in_ok-insert.ensures.updates.0
