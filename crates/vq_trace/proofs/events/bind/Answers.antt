use Rattle.std.proofs.Common.{◌∙◌, ℕ, ap, option_map, sym}
use Rattle.vq_model.specs.declared.plan.Event.TheVariants.{Bind as Binds}
use Rattle.vq_lexer.specs.Words.{texts}
use Rattle.vq_trace.proofs.EventShapes.{by_bind}
use Rattle.vq_trace.proofs.events.bind.Goals as goal

pub returns : goal.returns
returns c = λ a.
    ap (option_map (λ (x : ℕ × ℕ). Binds x.0 x.1)) c.in_ok-op.ensures
    ∙ sym (by_bind c.args.plan.now a (texts c.args.words.now))
