use Rattle.std.proofs.Common.{◌∙◌, ap, length}
use Rattle.vq_spec.specs.Walks.{never_used}
use Rattle.vq_spec.proofs.UseWalks.{finds, never_used_count}
use Rattle.vq_spec.proofs.uses.find_fault.Goals as goal

pub use_jobs-requires-clause-kept : goal.use_jobs-requires-clause-kept
use_jobs-requires-clause-kept c =
    ap length (c.as_mut_slice.ensures.value ∙ c.in_ok-last.ensures {u = tt})
    ∙ (never_used_count _ ∙ ap length c.as_slice.ensures)

pub returns : goal.returns
returns c =
    let s = c.args.script.now in
    finds s c.requires c.use_jobs.result _ c.as_mut_slice.result.now
    (c.as_mut_slice.ensures.value ∙ (c.in_ok-last.ensures {u = tt}
    ∙ ap (λ xs. never_used (length xs)) c.as_slice.ensures)) c.use_jobs.ensures
