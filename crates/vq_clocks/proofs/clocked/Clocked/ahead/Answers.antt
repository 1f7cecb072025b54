use Rattle.std.proofs.Common.{◌≡◌, ◌-◌, suc, get_or, [], sym, ap, ◌∙◌, arith}
use Rattle.std.specs.Option.{option_map_or}
use Rattle.vq_model.specs.Edges.{At}
use Rattle.vq_model.specs.Plan.{commands_of}
use Rattle.vq_ground.specs.Lists.{has}
use Rattle.vq_ground.proofs.Lists.{has_some}
use Rattle.vq_clocks.proofs.CommandPlaces.{command_stands, first_of_range}
use Rattle.vq_clocks.proofs.clocked.Clocked.ahead.Goals as goal

pub first-requires : goal.first-requires
first-requires c =
    let own : c.job.result.now.commands ≡ commands_of c.args.self.now c.args.j =
    sym (ap (λ o. option_map_or (λ x. x.commands) o []) c.job.ensures.value) in
    has_some c.job.result.now.commands c.args.d (ap (λ xs. has xs c.args.d) own ∙ c.requires)

pub overflow_sub-result : goal.overflow_sub-result
overflow_sub-result c =
    let p = c.args.self.now in
    let own : c.job.result.now.commands ≡ commands_of p c.args.j =
    sym (ap (λ o. option_map_or (λ x. x.commands) o []) c.job.ensures.value) in
    let stands = command_stands p c.job.ensures.complete.plan c.args.j c.args.d c.requires in
    let first = first_of_range c.job.result.now.commands c.first.result c.args.d c.first.ensures
    (ap (λ xs. has xs c.args.d) own ∙ c.requires) in
    omega (arith, ap (λ xs. get_or xs 0 0) own, stands.first)

pub returns : goal.returns
returns c =
    let p = c.args.self.now in
    let own : c.job.result.now.commands ≡ commands_of p c.args.j =
    sym (ap (λ o. option_map_or (λ x. x.commands) o []) c.job.ensures.value) in
    let stands = command_stands p c.job.ensures.complete.plan c.args.j c.args.d c.requires in
    let first = first_of_range c.job.result.now.commands c.first.result c.args.d c.first.ensures
    (ap (λ xs. has xs c.args.d) own ∙ c.requires) in
    ap (λ n. At (suc n)) (stands.place_is ∙ ((λ i. c.args.d - get_or (sym own i) 0 0) ∙ ap (λ n. c.args.d - n) first))
