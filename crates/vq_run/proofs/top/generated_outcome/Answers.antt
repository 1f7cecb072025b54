use Rattle.std.proofs.Common.{◌≤◌, ℕ, List, IfOk, length, subst, sym}
use Rattle.vq_generator.proofs.Cited.{generated_is_short}
use Rattle.vq_run.specs.Tasks.{generated_text}
use Rattle.vq_messages.specs.Refused.{input_limit}
use Rattle.vq_run.specs.Outcomes.{IsOutcome}
use Rattle.vq_run.proofs.top.generated_outcome.Goals as goal

pub run_outcome-requires-clause-short : goal.run_outcome-requires-clause-short
run_outcome-requires-clause-short g c κs within =
    subst (λ text. length text ≤ input_limit) (sym c.in_ok-text.ensures)
    (generated_is_short c.args.rounds c.requires.many)

pub returns : goal.returns
unfolding generated_text
returns g c =
    subst (λ (text : List ℕ). IfOk c.run_outcome.result (λ o. IsOutcome c.args.task text o.status o.text.items))
    c.in_ok-text.ensures c.run_outcome.ensures
