use Rattle.std.proofs.Common.{sym, subst, List, ℕ, All, ◌<◌, length}
use Rattle.vq_plan_laws.proofs.Cited.{plan_well_formed}
use Rattle.vq_actor.proofs.ProgramsMade.{signals_exist}
use Rattle.vq_actor.proofs.programs.batches.push_moves.Goals as goal

pub push_takes-requires : goal.push_takes-requires
push_takes-requires c =
    let p = c.args.plan.now in
    record {
      exist = subst (λ (es : List ℕ). All (λ e. e < length p.ops) es) (sym c.signals_of-signals.ensures)
          (signals_exist p (plan_well_formed p c.requires.read) c.args.j);
    }
