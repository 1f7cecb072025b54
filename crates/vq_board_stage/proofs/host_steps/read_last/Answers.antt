use Rattle.std.proofs.Common.{inl, inr, rules, subst, sym}
use Rattle.vq_board.specs.Named.{plan_of, view}
use Rattle.vq_model.specs.declared.plan.Answer.TheVariants.{Value}
use Rattle.vq_model.specs.declared.plan.Question.{Question}
use Rattle.vq_board_laws.specs.Knowledge.{KnowsMade.shown}
use Rattle.vq_board_laws.specs.Shows.{ShowsBy}
use Rattle.vq_board_stage.proofs.Chains.{value_within}
use Rattle.vq_board_stage.proofs.host_steps.read_last.Goals as goal

pub answer-requires-clause-may : goal.answer-requires-clause-may
answer-requires-clause-may c =
    let p = plan_of c.args.board.now in
    let k = c.requires.plan in record {
      host = search rules;
      runs = search rules;
      asks = search rules;
      unanswered = search rules;
      shows = subst (λ (q : Question). ShowsBy p (view c.start.new.pass) 2 q (Value 1)) (sym k.last.question) record {
        known = inr (0, k.signal.op.its_chain, k.its_value, shown (search rules));
        next = inl (value_within p k);
      };
    }
