-- Each lawful plan of a script that was read keeps what programs and places ask of it.
use Rattle.std.proofs.Common.{sym, subst}
use Rattle.vq_model.specs.Plan.{Plan}
use Rattle.vq_model.specs.Checks.{IsLawful}
use Rattle.vq_model.specs.LoweredPlans.{IsPlan}
use Rattle.vq_plan_laws.proofs.Cited.{plan_hosts, plan_well_formed}
use Rattle.vq_order_laws.proofs.Cited.{plan_has_sure_order}
use Rattle.vq_turn_laws.specs.PlanParts.{KeepsParts, IsOrderly}
use Rattle.vq_turn_laws.proofs.CountedWaits.{read_counted}
use Rattle.vq_turn_laws.proofs.PlanParts.{keeps_parts}
use Rattle.vq_turn_laws.proofs.Resolvers.{has_resolvers}

pub plan_parts : (p : Plan) → IsPlan p → KeepsParts p
plan_parts p i = subst KeepsParts (sym i.lowered) (keeps_parts p.script (read_counted p.script i.of_script))

pub plan_orderly : (p : Plan) → IsPlan p → IsLawful p → IsOrderly p
plan_orderly p i l =
    let sure = plan_has_sure_order p i l in
    record {
      well_formed = plan_well_formed p i;
      hosts = plan_hosts p i;
      parts = plan_parts p i;
      chains = sure.chains;
      resolvers = has_resolvers p l.reachable;
    }
