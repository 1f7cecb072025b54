use Rattle.std.proofs.Common.{◌∙◌, ap, ◌++◌, ◌+◌, List}
use Rattle.vq_model.specs.declared.script.Job.{Job}
use Rattle.vq_generator.specs.Generated.{generated_round}
use Rattle.vq_generator.proofs.RoundLists.{rounds_more}
use Rattle.vq_generator.proofs.rounds.jobs.Goals as goal

pub loop-round-preserved : goal.loop-round-preserved
loop-round-preserved c =
    c.in_ok-push_round.ensures
    ∙ (ap (λ (xs : List Job). xs ++ generated_round (c.loop-round.round + 1)) c.loop-round.invariant
    ∙ rounds_more generated_round c.loop-round.round)
