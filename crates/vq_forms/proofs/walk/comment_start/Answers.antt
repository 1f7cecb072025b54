use Rattle.std.proofs.Common.{◌∙◌}
use Rattle.std.specs.Prelude.{◌==◌}
use Rattle.vq_lexer.proofs.Cited.{place_of_first}
use Rattle.vq_forms.proofs.walk.comment_start.Goals as goal

pub returns-clause-place : goal.returns-clause-place
returns-clause-place c = c.unwrap_or.ensures ∙ place_of_first (λ b. b == 35) c.args.line.now c.memchr.result c.memchr.ensures
