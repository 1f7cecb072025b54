use Rattle.std.proofs.Common.{ℕ, ap, take}
use Rattle.vq_forms.proofs.walk.without_comment.Goals as goal

pub returns : goal.returns
returns c = ap (λ (n : ℕ). take n c.args.line.now) c.comment_start-end.ensures.place
