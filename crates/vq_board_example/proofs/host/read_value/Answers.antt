use Rattle.std.proofs.Common.{arith, inl, inr, rules, subst, sym}
use Rattle.vq_model.specs.declared.plan.Answer.TheVariants.{Value}
use Rattle.vq_model.specs.declared.plan.Question.{Question}
use Rattle.vq_board_laws.specs.declared.view.Fact.TheVariants.{Job}
use Rattle.vq_board_laws.specs.declared.view.JobState.TheVariants.{Finished}
use Rattle.vq_board_laws.specs.declared.view.View.{View}
use Rattle.vq_board_laws.specs.Knowledge.{Knows, KnowsMade.of_finished}
use Rattle.vq_board_laws.specs.Shows.{ShowsBy}
use Rattle.vq_board.specs.Named.{plan_of, view}
use Rattle.vq_board_example.proofs.Chain.{value_within}
use Rattle.vq_board_example.proofs.host.read_value.Goals as goal

pub answer-requires-clause-may : goal.answer-requires-clause-may
answer-requires-clause-may c =
    let p = plan_of c.args.board.now in
    let k = c.requires.plan in
    let first = c.requires.finished.jobs 0 (omega arith) in
    let finished = subst (λ (v : View). Knows v.known (Job 0 Finished)) (sym c.start.ensures.pass.2) (inr first) in record {
      host = search rules;
      runs = search rules;
      asks = search rules;
      unanswered = search rules;
      shows = subst (λ (q : Question). ShowsBy p (view c.start.new.pass) 2 q (Value 1)) (sym k.jobs.read.question) record {
        known = inr (0, k.signal.its_chain, k.signal.its_value, of_finished finished k.signal.its_job);
        next = inl (value_within p k.signal);
      };
    }
