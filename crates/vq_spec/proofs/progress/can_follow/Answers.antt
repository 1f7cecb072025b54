use Rattle.std.proofs.Common.{◌<◌, ◌++◌, All, length, subst, sym}
use Rattle.std.specs.Option.{option_to_list}
use Rattle.vq_spec.proofs.SlowReady.{all_right}
use Rattle.vq_spec.proofs.progress.can_follow.Goals as goal

pub are_marked-requires : goal.are_marked-requires
are_marked-requires c =
    let job = c.args.job.now in
    subst (All (λ j. j < length c.args.marks.now)) (sym c.as_slice.ensures)
    (all_right (λ j. j < length c.args.marks.now) (option_to_list job.previous ++ option_to_list job.host_before) job.idle_after c.requires)
