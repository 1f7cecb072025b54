use Rattle.std.proofs.Common.{rules, sym, subst, List, ℕ, All, ◌<◌, length}
use Rattle.vq_plan_laws.proofs.Cited.{plan_well_formed}
use Rattle.vq_actor.proofs.ProgramsMade.{step_is, signals_exist}
use Rattle.vq_actor.proofs.programs.host.push_step.Goals as goal

pub push_takes-requires : goal.push_takes-requires
push_takes-requires c =
    let p = c.args.plan.now in
    record {
      exist = subst (λ (es : List ℕ). All (λ e. e < length p.ops) es) (sym c.signals_of-signals.ensures)
          (signals_exist p (plan_well_formed p c.requires.read) c.args.j);
    }

pub returns : goal.returns
returns c =
    step_is c.args.plan.now c.args.j c.job-job.result.now c.job-job.ensures c.args.tasks.now.items
    c.push_host_waits.new.tasks.items c.push_idle.new.tasks.items c.push.new.self.items
    c.push_takes.new.tasks.items c.push_binds.new.tasks.items c.push_signals.new.tasks.items
    c.push_compares.new.tasks.items c.push_answer.new.tasks.items c.push-2.new.self.items
    (search rules) (search rules) (search rules) (search rules) (search rules) (search rules) (search rules)
    (search rules) (search rules)
