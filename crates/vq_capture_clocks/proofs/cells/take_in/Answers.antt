use Rattle.std.proofs.Common.{List, subst, rules}
use Rattle.vq_capture_clocks.specs.declared.groups.Group.{Group}
use Rattle.vq_capture_clocks.specs.Blocks.{says}
use Rattle.vq_capture_clocks.specs.Cells.{HasTaken, cell_in}
use Rattle.vq_capture_clocks.proofs.NumberLanes.{taken_site}
use Rattle.vq_capture_clocks.proofs.cells.take_in.Goals as goal

pub returns-in_ok-take_groups-in-Some : goal.returns-in_ok-take_groups-in-Some
returns-in_ok-take_groups-in-Some c =
    taken_site c.args.cells.now c.args.number c.args.set c.requires c.in-Some.site.now (says c.args.clock.now.items) (says c.take_groups.new.clock.items) (search rules)
    (subst (λ (xs : List Group). HasTaken (cell_in xs) c.args.set (says c.args.clock.now.items) (says c.take_groups.new.clock.items)) c.deref.ensures.value c.in_ok-take_groups-in-Some.ensures)
