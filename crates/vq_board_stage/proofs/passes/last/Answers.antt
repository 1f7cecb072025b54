use Rattle.std.proofs.Common.{List, ap, ◌∙◌}
use Rattle.std.specs.List.{slice_get}
use Rattle.std.specs.Option.{option_to_list}
use Rattle.vq_ground.proofs.Gets.{get-append_left, get_within}
use Rattle.vq_board.specs.declared.parts.Pass.{Pass}
use Rattle.vq_board_stage.proofs.passes.last.Goals as goal

pub returns-clause-left : goal.returns-clause-left
returns-clause-left c = λ k x e.
    c.requires k x
    (ap (λ (xs : List Pass). slice_get xs k) c.pop.ensures.items ∙ (get-append_left c.pop.new.self.items (option_to_list c.pop.result) k (get_within c.pop.new.self.items k x e) ∙ e))
