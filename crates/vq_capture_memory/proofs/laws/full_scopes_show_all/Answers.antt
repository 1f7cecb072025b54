use Rattle.vq_capture_memory.proofs.FullScopesShow.{full_scopes_show}
use Rattle.vq_capture_memory.proofs.laws.full_scopes_show_all.Goals as goal

pub returns : goal.returns
returns c steps f q a b u = u.unseen (full_scopes_show steps f q a b u.pair.first u.ordered)
