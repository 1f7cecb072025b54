use Rattle.std.proofs.Common.{◌≡◌, ◌<◌, ◌∙◌, length, subst, sym, arith}
use Rattle.std.proofs.lemmas.List.{get_or_read}
use Rattle.vq_core.specs.CoreState.{Course, world}
use Rattle.vq_core.proofs.Pushes.{inside_facts}
use Rattle.vq_core.proofs.state.Core.payload.Goals as goal

pub index-requires : goal.index-requires
index-requires c =
    let a = c.self.inside in
    let k = c.self.invariant in
    let size = a.payloads.ok.0 in
    let count = k.tells.payloads.count in
    let chains = (inside_facts a k).semaphores.chains in
    let exists = subst (λ (s : Course). c.args.chain < length s.plan.chains) (sym c.self.view_is) c.requires in
    omega arith

pub returns : goal.returns
returns c =
    let a = c.self.inside in
    let k = c.self.invariant in
    let count = k.tells.payloads.count in
    let chains = (inside_facts a k).semaphores.chains in
    let exists = subst (λ (s : Course). c.args.chain < length s.plan.chains) (sym c.self.view_is) c.requires in
    subst (λ (s : Course). c.index.result.now ≡ (world s).machine.progress.payload c.args.chain) c.self.view_is
    (get_or_read a.payloads.items c.args.chain c.index.result.now (omega arith) c.index.ensures 0
    ∙ k.tells.payloads.each c.args.chain)
