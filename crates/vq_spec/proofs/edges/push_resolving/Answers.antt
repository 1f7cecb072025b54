use Rattle.std.proofs.Common.{◌++◌, ◌∙◌, ap, sym, length, refl, get_or, append-nil}
use Rattle.std.proofs.lemmas.Option.{slice_get_read}
use Rattle.vq_model.specs.declared.script.Semaphore.{Semaphore}
use Rattle.vq_model.specs.Signals.{initial_value}
use Rattle.vq_spec.proofs.PlanEdges.{initial_is, resolving_one, resolving_none}
use Rattle.vq_spec.proofs.edges.push_resolving.Goals as goal

pub returns-in_ok-push_some : goal.returns-in_ok-push_some
returns-in_ok-push_some c =
    let s = c.args.script.now in
    let n = c.args.need.now in
    let x = c.index-as_slice-chain.result in
    let at = slice_get_read s.semaphores (length s.semaphores) n.chain x refl c.requires.exists
    (c.index-as_slice-chain.is ∙ ap (λ xs. get_or xs n.chain x) c.as_slice.ensures) in
    (c.in_ok-push_some.ensures {u = tt})
    ∙ ap (λ es. c.args.ops.now.items ++ es)
    (resolving_one s c.requires.read c.args.chains.now c.requires.chains n c.requires.exists
    c.initial_value.result c.index-chains-chain.result c.resolver.result
    (initial_is s c.requires.read c.args.chains.now c.requires.chains n c.requires.exists x at
    ∙ (ap (λ (y : Semaphore). initial_value y.kind) c.index-as_slice-chain.is
    ∙ sym c.initial_value.ensures)) c.if-initial_value-need.true c.index-chains-chain.is
    c.resolver.ensures)

pub returns-else-initial_value-need : goal.returns-else-initial_value-need
returns-else-initial_value-need c =
    let s = c.args.script.now in
    let n = c.args.need.now in
    let x = c.index-as_slice-chain.result in
    let at = slice_get_read s.semaphores (length s.semaphores) n.chain x refl c.requires.exists
    (c.index-as_slice-chain.is ∙ ap (λ xs. get_or xs n.chain x) c.as_slice.ensures) in
    sym (append-nil c.args.ops.now.items)
    ∙ ap (λ es. c.args.ops.now.items ++ es)
    (resolving_none s c.requires.read c.args.chains.now c.requires.chains n c.requires.exists
    c.initial_value.result
    (initial_is s c.requires.read c.args.chains.now c.requires.chains n c.requires.exists x at
    ∙ (ap (λ (y : Semaphore). initial_value y.kind) c.index-as_slice-chain.is
    ∙ sym c.initial_value.ensures)) c.if-initial_value-need.false)
