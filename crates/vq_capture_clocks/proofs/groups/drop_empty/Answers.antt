use Rattle.std.proofs.Common.{◌∙◌, List, ap, rules}
use Rattle.std.proofs.lemmas.Fn.{filter_same}
use Rattle.std.specs.Prelude.{not, ◌==◌}
use Rattle.vq_capture_clocks.specs.declared.groups.Group.{Group}
use Rattle.vq_capture_clocks.specs.Cells.{cell_in}
use Rattle.vq_capture_clocks.proofs.LeftLanes.{none_empty}
use Rattle.vq_capture_clocks.proofs.groups.drop_empty.Goals as goal

pub returns : goal.returns
returns c p =
    ap (λ (xs : List Group). cell_in xs p)
    (filter_same _ (λ (x : Group). not (x.lanes == 0)) _ (λ x b f k. search rules) _ _ c.retain.ensures.filtered)
    ∙ none_empty p c.args.groups.now.items
