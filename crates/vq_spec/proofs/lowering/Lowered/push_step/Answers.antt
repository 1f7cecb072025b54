use Rattle.std.proofs.Common.{◌≡◌, ◌<◌, ◌^◌, ◌∙◌, ap, subst, sym, All, List, drop, length, refl, rules}
use Rattle.vq_ground.proofs.Gets.{whole_new}
use Rattle.vq_spec.specs.declared.fences.FenceState.{FenceState}
use Rattle.vq_spec.specs.Fences.{AreFences, after_step}
use Rattle.vq_spec.proofs.LoweredJobs.{waited_exist, polled_exist, reset_within, few_fence_resets, lowered_step}
use Rattle.vq_spec.proofs.lowering.Lowered.push_step.Goals as goal

pub step_job-requires-clause-waited : goal.step_job-requires-clause-waited
step_job-requires-clause-waited c = λ f e.
    subst (λ (xs : List FenceState). f < length xs) (sym c.as_slice-states.ensures.value)
    (waited_exist c.args.script.now c.requires.read c.args.j c.args.host.now c.requires.at
    c.args.self.now c.requires.kept f e)

pub step_job-requires-clause-polled : goal.step_job-requires-clause-polled
step_job-requires-clause-polled c = λ f e.
    subst (λ (xs : List FenceState). f < length xs) (sym c.as_slice-states.ensures.value)
    (polled_exist c.args.script.now c.requires.read c.args.j c.args.host.now c.requires.at
    c.args.self.now c.requires.kept f e)

pub step_job-requires-clause-few : goal.step_job-requires-clause-few
step_job-requires-clause-few c =
    subst (λ (xs : List FenceState). All (λ x. x.resets < 2 ^ 32) xs)
    (sym c.as_slice-states.ensures.value)
    (few_fence_resets c.args.script.now c.requires.read c.args.j c.args.host.now c.requires.at
    c.args.self.now c.requires.kept)

pub take_step-requires-clause-exists : goal.take_step-requires-clause-exists
take_step-requires-clause-exists c = λ f e.
    subst (λ (xs : List FenceState). f < length xs) (sym c.deref_mut.ensures.value)
    (reset_within c.args.script.now c.requires.read c.args.j c.args.host.now c.requires.at
    c.args.self.now c.requires.kept f e)

pub take_step-requires-clause-few : goal.take_step-requires-clause-few
take_step-requires-clause-few c =
    subst (λ (xs : List FenceState). All (λ x. x.resets < 2 ^ 32) xs)
    (sym c.deref_mut.ensures.value)
    (few_fence_resets c.args.script.now c.requires.read c.args.j c.args.host.now c.requires.at
    c.args.self.now c.requires.kept)

pub returns : goal.returns
returns c =
    let s = c.args.script.now in
    let x = c.args.self.now in
    let k = c.requires.kept in
    let states = c.take_step.new.states in
    let size : length states ≡ x.fences.len = search rules in
    let whole = whole_new x.fences.len states (drop (length states) x.fences.items) size in
    let own = c.in_ok-signals.ensures {u = tt} in
    lowered_step s c.requires.read c.args.j c.args.host.now c.requires.at x k _ c.in_ok-job.job
    (c.in_ok-job.ensures {u = tt} s c.args.j
    (subst (AreFences s c.args.j) (sym c.as_slice-states.ensures.value) k.fences)
    (c.as_slice.ensures.value ∙ k.last) k.host own.own)
    ((c.in_ok-push.ensures {u = tt}).items) refl refl refl
    (whole ∙ (c.take_step.ensures ∙ ap (λ ys. after_step ys c.args.host.now.step) c.deref_mut.ensures.value))
    own.kept own.more
