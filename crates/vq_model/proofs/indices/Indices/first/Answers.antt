use Rattle.std.proofs.Common.{◌≡◌, ◌∙◌, sym, ap, length}
use Rattle.std.proofs.lemmas.List.FromFn.{length-range_with_len}
use Rattle.std.specs.List.{range_with_len}
use Rattle.vq_model.proofs.indices.Indices.first.Goals as goal

pub returns : goal.returns
returns c =
    let n : c.self.inside.count ≡ length c.args.self.now =
    sym (length-range_with_len c.self.inside.first c.self.inside.count) ∙ ap length c.self.view_is in
    sym c.self.view_is ∙ ap (range_with_len c.self.inside.first) n
