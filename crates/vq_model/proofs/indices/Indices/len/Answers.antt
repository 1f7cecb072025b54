use Rattle.std.proofs.Common.{◌∙◌, sym, ap, length}
use Rattle.std.proofs.lemmas.List.FromFn.{length-range_with_len}
use Rattle.vq_model.proofs.indices.Indices.len.Goals as goal

pub returns : goal.returns
returns c =
    sym (length-range_with_len c.self.inside.first c.self.inside.count) ∙ ap length c.self.view_is
