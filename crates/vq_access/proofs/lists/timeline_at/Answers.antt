use Rattle.std.proofs.Common.{◌<◌, sym, subst, ℕ}
use Rattle.std.proofs.lemmas.Option.{slice_get-get_or}
use Rattle.vq_access.proofs.lists.timeline_at.Goals as goal

pub bounds-timelines-chain : goal.bounds-timelines-chain
bounds-timelines-chain c = subst (λ (n : ℕ). c.args.chain < n) (sym c.requires.timelines.count) c.requires.exists

pub returns-clause-there : goal.returns-clause-there
returns-clause-there c =
    let found = slice_get-get_or c.args.timelines.now c.args.chain c.index-timelines-chain.result
    (subst (λ (n : ℕ). c.args.chain < n) (sym c.requires.timelines.count) c.requires.exists) in
    let is = c.index-timelines-chain.is in
    cc
