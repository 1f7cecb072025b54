use Rattle.std.proofs.Common.{◌≡◌, ◌<◌, ◌++◌, ◌∷◌, [], ◌∙◌, ℕ, List, Some, length, get_or, refl, sym, ap, subst, arith}
use Rattle.std.specs.List.{slice_get}
use Rattle.std.proofs.Common.{not, option_map}
use Rattle.vq_spec.proofs.Cited.{bytes_push}
use Rattle.vq_model.specs.declared.script.CommandLine.{CommandLine}
use Rattle.vq_ground.proofs.Gets.{get_within}
use Rattle.vq_ground.proofs.Options.{some_of}
use Rattle.vq_ground.proofs.Searches.{find_member}
use Rattle.vq_model.specs.declared.plan.Event.TheVariants.{Apply}
use Rattle.vq_model.specs.Machine.{CanApply}
use Rattle.vq_model.specs.Memory.{effect}
use Rattle.vq_model.specs.Plan.{Plan, commands_of, command_at}
use Rattle.vq_ground.specs.Lists.{has}
use Rattle.vq_model.specs.FittingCommands.{Fits as FitsBuffers}
use Rattle.vq_point_laws.specs.Points.{after_event}
use Rattle.vq_history_laws.specs.Histories.{points_after}
use Rattle.vq_core_laws.proofs.Cited.{next_is, rising_at_least}
use Rattle.vq_core.specs.CoreState.{Course, world}
use Rattle.vq_tables.specs.Tables.{AreJobs, IsJobState}
use Rattle.vq_core.proofs.Pushes.{inside_facts, inside_keeps, more_room, core_next}
use Rattle.vq_tables.proofs.Cited.{jobs_applied}
use Rattle.vq_tables.proofs.Cited.{timelines_by}
use Rattle.vq_core.proofs.state.Core.apply_command.Goals as goal

pub command-line-requires : goal.command-line-requires
command-line-requires c =
    let a = c.self.inside in
    let k = c.self.invariant in
    let p = a.ordered in
    let w = points_after p a.history.items in
    let t = k.tells in
    let x = Apply c.args.job c.args.command in
    let g = subst (λ (s : Course). CanApply s.plan (world s).machine.progress c.args.job c.args.command) (sym
    c.self.view_is) c.requires in
    let f = inside_facts a k in
    let member = find_member (λ y. not (has w.machine.progress.applied y)) (commands_of p c.args.job) c.args.command
    g.next in
    let fits = f.formed.fits c.args.command c.args.job member in
    let line = some_of (λ (y : CommandLine). y.command) (slice_get p.commands c.args.command) fits.0 fits.1 in
    subst (λ (q : Plan). c.args.command < length q.commands) (sym c.plan.ensures.value) (get_within p.commands
    c.args.command line.0 line.1)

pub apply-requires : goal.apply-requires
apply-requires c =
    let a = c.self.inside in
    let k = c.self.invariant in
    let p = a.ordered in
    let w = points_after p a.history.items in
    let t = k.tells in
    let x = Apply c.args.job c.args.command in
    let g = subst (λ (s : Course). CanApply s.plan (world s).machine.progress c.args.job c.args.command) (sym
    c.self.view_is) c.requires in
    let f = inside_facts a k in
    let member = find_member (λ y. not (has w.machine.progress.applied y)) (commands_of p c.args.job) c.args.command
    g.next in
    let fits = f.formed.fits c.args.command c.args.job member in
    let line = subst (λ (q : Plan). slice_get q.commands c.args.command ≡ Some c.command-line.result.now)
    c.plan.ensures.value c.command-line.ensures in
    let command : command_at p c.args.command ≡ Some c.command-line.result.now.command = ap (option_map (λ (y :
    CommandLine). y.command)) line in
    let same : fits.0 ≡ c.command-line.result.now.command = (let z = sym fits.1 ∙ command in cc) in
    subst (λ (zs : List ℕ). FitsBuffers zs c.command-line.result.now.command) (sym t.sizes) (subst (FitsBuffers
    p.sizes) same fits.2)

pub overflow_add-state : goal.overflow_add-state
overflow_add-state c =
    let a = c.self.inside in
    let k = c.self.invariant in
    let p = a.ordered in
    let w = points_after p a.history.items in
    let t = k.tells in
    let x = Apply c.args.job c.args.command in
    let g = subst (λ (s : Course). CanApply s.plan (world s).machine.progress c.args.job c.args.command) (sym
    c.self.view_is) c.requires in
    let f = inside_facts a k in
    let member = find_member (λ y. not (has w.machine.progress.applied y)) (commands_of p c.args.job) c.args.command
    g.next in
    let fits = f.formed.fits c.args.command c.args.job member in
    let is = c.at-state.ensures ∙ ap (get_or a.jobs c.args.job) c.idle.ensures in
    let state = subst (IsJobState p w.released w.machine.progress.started w.machine.progress.finished
    w.machine.progress.made w.machine.progress.applied c.args.job) (sym is) (t.jobs.each c.args.job) in
    let here = sym (next_is (has w.machine.progress.applied) (commands_of p c.args.job) c.at-state.result.commands
    state.first_commands) ∙ g.next in
    let least = rising_at_least (commands_of p c.args.job) (f.formed.commands c.args.job) c.at-state.result.commands
    c.args.command here in
    let small = c.ranges.command.fits in
    omega arith

pub put-requires : goal.put-requires
put-requires c =
    let a = c.self.inside in
    let k = c.self.invariant in
    let p = a.ordered in
    let w = points_after p a.history.items in
    let t = k.tells in
    let x = Apply c.args.job c.args.command in
    let g = subst (λ (s : Course). CanApply s.plan (world s).machine.progress c.args.job c.args.command) (sym
    c.self.view_is) c.requires in
    let exists = (inside_keeps a k).turns.exists c.args.job g.started in
    let n = t.jobs.count in
    omega arith

pub push_reserved-requires : goal.push_reserved-requires
push_reserved-requires c =
    let a = c.self.inside in
    let k = c.self.invariant in
    let p = a.ordered in
    let w = points_after p a.history.items in
    let t = k.tells in
    let x = Apply c.args.job c.args.command in
    let g = subst (λ (s : Course). CanApply s.plan (world s).machine.progress c.args.job c.args.command) (sym
    c.self.view_is) c.requires in
    let size = a.history.ok.0 in
    let room = more_room a k x g in
    omega arith

pub invariant_of-self : goal.invariant_of-self
invariant_of-self c =
    let a = c.self.inside in
    let k = c.self.invariant in
    let p = a.ordered in
    let w = points_after p a.history.items in
    let t = k.tells in
    let x = Apply c.args.job c.args.command in
    let g = subst (λ (s : Course). CanApply s.plan (world s).machine.progress c.args.job c.args.command) (sym
    c.self.view_is) c.requires in
    let f = inside_facts a k in
    let member = find_member (λ y. not (has w.machine.progress.applied y)) (commands_of p c.args.job) c.args.command
    g.next in
    let fits = f.formed.fits c.args.command c.args.job member in
    let exists = (inside_keeps a k).turns.exists c.args.job g.started in
    let is = c.at-state.ensures ∙ ap (get_or a.jobs c.args.job) c.idle.ensures in
    let state = subst (IsJobState p w.released w.machine.progress.started w.machine.progress.finished
    w.machine.progress.made w.machine.progress.applied c.args.job) (sym is) (t.jobs.each c.args.job) in
    let here = sym (next_is (has w.machine.progress.applied) (commands_of p c.args.job) c.at-state.result.commands
    state.first_commands) ∙ g.next in
    let line = subst (λ (q : Plan). slice_get q.commands c.args.command ≡ Some c.command-line.result.now)
    c.plan.ensures.value c.command-line.ensures in
    let command : command_at p c.args.command ≡ Some c.command-line.result.now.command = ap (option_map (λ (y :
    CommandLine). y.command)) line in
    let same : fits.0 ≡ c.command-line.result.now.command = (let z = sym fits.1 ∙ command in cc) in
    core_next a k x g _ refl c.push_reserved.ensures.items (let e = c.push_reserved.ensures.capacity in omega arith)
    (record {
      earlier = t.earlier;
      submitted = t.submitted;
      jobs = subst (AreJobs p w.released w.machine.progress.started w.machine.progress.finished
          w.machine.progress.made (w.machine.progress.applied ++ c.args.command ∷ [])) (sym c.put.ensures)
          (jobs_applied p w.released w.machine.progress.started w.machine.progress.finished w.machine.progress.made
          w.machine.progress.applied a.jobs t.jobs c.args.job exists c.at-state.result state f c.args.command here);
      answers = t.answers;
      made = t.made;
      points = t.points;
      slots = t.slots;
      payloads = t.payloads;
      timelines = timelines_by p w (after_event p w x) a.timelines.items refl refl refl refl refl refl t.timelines;
      lanes = t.lanes;
      notes = t.notes;
      buffers = c.apply.ensures.bytes ∙ (ap (effect c.command-line.result.now.command) t.buffers
          ∙ sym (bytes_push p w.machine.progress.applied c.args.command c.command-line.result.now.command command));
      sizes = c.apply.ensures.sizes ∙ t.sizes;
      left = t.left;
    })
