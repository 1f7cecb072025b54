use Rattle.std.proofs.Common.{◌≡◌, IfOk, subst}
use Rattle.vq_model.specs.declared.script.Script.{Script}
use Rattle.vq_model.specs.Canonical.{canonical_text}
use Rattle.vq_generator.proofs.script.generate.Goals as goal

pub returns : goal.returns
returns c =
    subst (λ (s : Script). IfOk c.print.result (λ text. text.items ≡ canonical_text s))
    c.in_ok-script.ensures c.print.ensures
