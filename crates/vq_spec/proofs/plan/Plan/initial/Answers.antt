use Rattle.std.proofs.Common.{◌<◌, ◌∙◌, ap, sym, subst, arith, length}
use Rattle.vq_model.specs.Plan.{initial}
use Rattle.vq_model.specs.Signals.{initial_value}
use Rattle.std.proofs.Common.{slice_index_or}
use Rattle.vq_spec.proofs.Initials.{initial_is}
use Rattle.vq_spec.proofs.KeptTables.{chain_count}
use Rattle.vq_spec.proofs.plan.Plan.initial.Goals as goal

-- the chain is that of a semaphore
within : (c : goal.After-as_slice) → c.args.t < length c.self.inside.script.semaphores
within c =
    let n = ap (λ p. length p.chains) c.self.view_is in
    omega (arith, chain_count c.self.inside.script)

pub bounds-as_slice-t : goal.bounds-as_slice-t
bounds-as_slice-t c = subst (λ xs. c.args.t < length xs) (sym c.as_slice.ensures) (within c)

pub bounds-as_slice-t-2 : goal.bounds-as_slice-t-2
bounds-as_slice-t-2 c = subst (λ xs. c.args.t < length xs) (sym c.as_slice.ensures) (within c)

pub returns : goal.returns
returns c =
    let n = ap (λ p. length p.chains) c.self.view_is in
    c.initial_value.ensures
    ∙ (ap (λ xs. initial_value (slice_index_or xs c.args.t c.index-as_slice-t.result).kind)
    c.as_slice.ensures
    ∙ (sym (initial_is c.self.inside.script c.args.t c.index-as_slice-t.result
    (omega (arith, chain_count c.self.inside.script)))
    ∙ ap (λ p. initial p c.args.t) c.self.view_is))
