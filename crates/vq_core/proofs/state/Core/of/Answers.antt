use Rattle.std.proofs.Common.{◌∙◌, length, map, refl, ap}
use Rattle.vq_model.specs.Memory.{Memory, zeros_of}
use Rattle.vq_model.specs.Plan.{Plan}
use Rattle.vq_model.proofs.Sizes.{sizes-zeros_of}
use Rattle.vq_core.proofs.Histories.{core_open, all_left, none_submitted, plan_sizes}
use Rattle.vq_core.proofs.state.Core.of.Goals as goal

pub invariant_of-result : goal.invariant_of-result
invariant_of-result c =
    let p = c.args.ordered in
    let r = c.requires in
    let sizes = plan_sizes p c.plan.ensures.read in
    let zeros = r.buffers ∙ ap zeros_of sizes in
    core_open _ c.plan.ensures.read c.plan.ensures.lawful r.history r.room r.few
    (record {
      earlier = r.earlier;
      submitted = none_submitted p;
      jobs = r.jobs;
      answers = r.answers;
      made = r.made;
      points = refl;
      slots = r.slots;
      payloads = r.payloads;
      timelines = r.timelines;
      lanes = r.lanes_are;
      notes = r.notes;
      buffers = zeros;
      sizes = ap (λ (m : Memory). map length m) zeros ∙ sizes-zeros_of p.sizes;
      left = c.jobs-left.ensures ∙ (ap (λ (q : Plan). length q.jobs) c.plan.ensures.value ∙ all_left p);
    })
