use Rattle.vq_spec.proofs.Lowered.{read_job}
use Rattle.vq_spec.proofs.lowering.Lowered.push.Goals as goal

pub push_step-requires-clause-at : goal.push_step-requires-clause-at
push_step-requires-clause-at c =
    read_job c.args.script.now.jobs c.as_slice.result.now c.args.j c.index-as_slice-j.result _
    c.as_slice.ensures c.requires.exists c.index-as_slice-j.is c.in-Host.is

pub push_batch-requires-clause-at : goal.push_batch-requires-clause-at
push_batch-requires-clause-at c =
    read_job c.args.script.now.jobs c.as_slice.result.now c.args.j c.index-as_slice-j.result _
    c.as_slice.ensures c.requires.exists c.index-as_slice-j.is c.in-Batch.is
