use Rattle.std.proofs.Common.{◌<◌, ℕ, List, Option, Some, get_or, length, sym, subst, ap, ◌∙◌}
use Rattle.std.specs.Option.{option_map_or}
use Rattle.vq_model.specs.declared.plan.Op.{Op}
use Rattle.vq_turns.specs.declared.outcome.Want.TheVariants.{Next, Released}
use Rattle.std.proofs.lemmas.Option.{slice_get-get_or}
use Rattle.vq_model.specs.Plan.{Plan, chain}
use Rattle.vq_timeline.specs.declared.parts.BindFault.{BindFault}
use Rattle.vq_access.specs.Asking.{want_by}
use Rattle.vq_access.proofs.Existing.{earlier_exists, earlier_is, found_chain}
use Rattle.vq_access.proofs.lists.held_back.Goals as goal

pub chain-requires : goal.chain-requires
chain-requires c =
    subst (λ (p : Plan). c.args.found.chain < length p.chains) (sym c.plan-plan.ensures.value)
    (found_chain c.args.ordered.now c.plan-plan.ensures.read c.plan-plan.ensures.lawful c.args.op c.args.found
    c.requires.found)

pub bounds-chain-next : goal.bounds-chain-next
bounds-chain-next c =
    let low = c.requires.next c.in-NotNext.next c.in-NotNext.is in
    let same = c.chain.ensures ∙ ap (λ (p : Plan). chain p c.args.found.chain) c.plan-plan.ensures.value in
    subst (λ (es : List ℕ). c.in-NotNext.next < length es) (sym same)
    (earlier_exists c.args.ordered.now c.plan-plan.ensures.read c.plan-plan.ensures.lawful c.args.op c.args.found
    c.requires.found c.in-NotNext.next low)

pub returns-in-NotNext-clause-wants : goal.returns-in-NotNext-clause-wants
returns-in-NotNext-clause-wants c =
    let p = c.args.ordered.now in
    let n = c.in-NotNext.next in
    let low = c.requires.next n c.in-NotNext.is in
    let same = c.chain.ensures ∙ ap (λ (q : Plan). chain q c.args.found.chain) c.plan-plan.ensures.value in
    let inside = earlier_exists p c.plan-plan.ensures.read c.plan-plan.ensures.lawful c.args.op c.args.found
    c.requires.found n low in
    earlier_is p c.plan-plan.ensures.read c.plan-plan.ensures.lawful c.args.op c.args.found c.requires.found n
    (get_or c.chain.result.now n 0) low
    (slice_get-get_or (chain p c.args.found.chain) n 0 inside
    ∙ ap (λ (es : List ℕ). Some (get_or es n 0)) (sym same))

pub returns-in-NotNext-clause-fault : goal.returns-in-NotNext-clause-fault
returns-in-NotNext-clause-fault c =
    let same = c.chain.ensures ∙ ap (λ (p : Plan). chain p c.args.found.chain) c.plan-plan.ensures.value in
    ap (λ (es : List ℕ). Next (get_or es c.in-NotNext.next 0)) same
    ∙ ap (λ (f : BindFault). want_by c.args.ordered.now c.args.found.chain c.args.op f) (sym c.in-NotNext.is)

pub returns-in-NotReleased-clause-fault : goal.returns-in-NotReleased-clause-fault
returns-in-NotReleased-clause-fault c =
    ap (λ (o : Option Op). Released (option_map_or (λ x. x.job) o 0)) (sym c.requires.found)
    ∙ ap (λ (f : BindFault). want_by c.args.ordered.now c.args.found.chain c.args.op f) (sym c.in-NotReleased.is)
