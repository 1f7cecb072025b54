use Rattle.std.proofs.Common.{◌≡◌, ◌∙◌, ℕ, true, Some, length, get_or, set, refl, sym, ap, subst, arith}
use Rattle.std.specs.List.{slice_get}
use Rattle.std.specs.Option.{option_map_or}
use Rattle.std.proofs.Common.{not}
use Rattle.vq_ground.proofs.Searches.{find_member}
use Rattle.vq_model.specs.declared.plan.Event.TheVariants.{Signal}
use Rattle.vq_model.specs.declared.plan.Op.{Op}
use Rattle.vq_model.specs.Machine.{put, next, with_signal}
use Rattle.vq_model.specs.Plan.{signals_of, value}
use Rattle.vq_model.proofs.Plans.{op_within}
use Rattle.vq_point_laws.specs.Points.{CanSignalNow}
use Rattle.vq_history_laws.specs.Histories.{points_after}
use Rattle.vq_core_laws.proofs.Cited.{next_is, rising_at_least}
use Rattle.vq_core.specs.CoreState.{Course, world}
use Rattle.vq_tables.specs.Tables.{AreJobs, IsJobState, AreMade, ArePayloads}
use Rattle.vq_core.proofs.EventParts.{signal_tells}
use Rattle.vq_core.proofs.Ops.{of_chain, of_job as op_job, chain_exists}
use Rattle.vq_core.proofs.Pushes.{inside_facts, inside_keeps, more_room, core_next}
use Rattle.vq_tables.proofs.Cited.{jobs_signaled, made_next, payload_next}
use Rattle.vq_tables.proofs.Cited.{timelines_by}
use Rattle.vq_core.proofs.state.Core.signal.Goals as goal

pub index_mut-requires : goal.index_mut-requires
index_mut-requires c =
    let a = c.self.inside in
    let k = c.self.invariant in
    let p = a.ordered in
    let w = points_after p a.history.items in
    let t = k.tells in
    let x = Signal c.args.op in
    let g = subst (λ (s : Course). CanSignalNow s.plan (world s) c.args.op) (sym c.self.view_is) c.requires in
    let f = inside_facts a k in
    let o = c.op-chain.result in
    let at = subst (λ (s : Course). slice_get s.plan.ops c.args.op ≡ Some o) (sym c.self.view_is)
    c.op-chain.ensures.op in
    let of = of_chain p f c.args.op o at in
    let there = chain_exists p f c.args.op o at in
    let chains = f.semaphores.chains in
    let payloads = t.payloads.count in
    let size = a.payloads.ok.0 in
    omega arith

pub put-requires : goal.put-requires
put-requires c =
    let a = c.self.inside in
    let k = c.self.invariant in
    let p = a.ordered in
    let w = points_after p a.history.items in
    let t = k.tells in
    let x = Signal c.args.op in
    let g = subst (λ (s : Course). CanSignalNow s.plan (world s) c.args.op) (sym c.self.view_is) c.requires in
    let f = inside_facts a k in
    let o = c.op-chain.result in
    let at = subst (λ (s : Course). slice_get s.plan.ops c.args.op ≡ Some o) (sym c.self.view_is)
    c.op-chain.ensures.op in
    let of = of_chain p f c.args.op o at in
    let there = chain_exists p f c.args.op o at in
    let chains = f.semaphores.chains in
    let payloads = t.payloads.count in
    let n = t.made.count in
    let e = op_within p c.args.op o.chain of in
    omega arith

pub overflow_add-state : goal.overflow_add-state
overflow_add-state c =
    let a = c.self.inside in
    let k = c.self.invariant in
    let p = a.ordered in
    let w = points_after p a.history.items in
    let t = k.tells in
    let x = Signal c.args.op in
    let g = subst (λ (s : Course). CanSignalNow s.plan (world s) c.args.op) (sym c.self.view_is) c.requires in
    let f = inside_facts a k in
    let o = c.op-chain.result in
    let at = subst (λ (s : Course). slice_get s.plan.ops c.args.op ≡ Some o) (sym c.self.view_is)
    c.op-chain.ensures.op in
    let of = of_chain p f c.args.op o at in
    let there = chain_exists p f c.args.op o at in
    let chains = f.semaphores.chains in
    let payloads = t.payloads.count in
    let owner : g.job ≡ o.job = (let z = sym (f.formed.of_job c.args.op g.job (find_member (λ y. not
    (w.machine.progress.made y)) (signals_of p g.job) c.args.op g.next)) ∙ op_job p f c.args.op o at in cc) in
    let next_is_op = subst (λ (j : ℕ). next w.machine.progress.made (signals_of p j) ≡ Some c.args.op) owner g.next in
    let started = subst (λ (j : ℕ). w.machine.progress.started j ≡ true) owner g.started in
    let exists = (inside_keeps a k).turns.exists o.job started in
    let is = c.at-state.ensures ∙ ap (get_or a.jobs o.job) c.idle.ensures in
    let state = subst (IsJobState p w.released w.machine.progress.started w.machine.progress.finished
    w.machine.progress.made w.machine.progress.applied o.job) (sym is) (t.jobs.each o.job) in
    let here = sym (next_is w.machine.progress.made (signals_of p o.job) c.at-state.result.signals
    state.first_signals) ∙ next_is_op in
    let least = rising_at_least (signals_of p o.job) (f.formed.signals o.job) c.at-state.result.signals c.args.op
    here in
    let small = c.ranges.op.fits in
    omega arith

pub put-requires-2 : goal.put-requires-2
put-requires-2 c =
    let a = c.self.inside in
    let k = c.self.invariant in
    let p = a.ordered in
    let w = points_after p a.history.items in
    let t = k.tells in
    let x = Signal c.args.op in
    let g = subst (λ (s : Course). CanSignalNow s.plan (world s) c.args.op) (sym c.self.view_is) c.requires in
    let f = inside_facts a k in
    let o = c.op-chain.result in
    let at = subst (λ (s : Course). slice_get s.plan.ops c.args.op ≡ Some o) (sym c.self.view_is)
    c.op-chain.ensures.op in
    let of = of_chain p f c.args.op o at in
    let there = chain_exists p f c.args.op o at in
    let chains = f.semaphores.chains in
    let payloads = t.payloads.count in
    let owner : g.job ≡ o.job = (let z = sym (f.formed.of_job c.args.op g.job (find_member (λ y. not
    (w.machine.progress.made y)) (signals_of p g.job) c.args.op g.next)) ∙ op_job p f c.args.op o at in cc) in
    let next_is_op = subst (λ (j : ℕ). next w.machine.progress.made (signals_of p j) ≡ Some c.args.op) owner g.next in
    let started = subst (λ (j : ℕ). w.machine.progress.started j ≡ true) owner g.started in
    let exists = (inside_keeps a k).turns.exists o.job started in
    let n = t.jobs.count in
    omega arith

pub push_reserved-requires : goal.push_reserved-requires
push_reserved-requires c =
    let a = c.self.inside in
    let k = c.self.invariant in
    let p = a.ordered in
    let w = points_after p a.history.items in
    let t = k.tells in
    let x = Signal c.args.op in
    let g = subst (λ (s : Course). CanSignalNow s.plan (world s) c.args.op) (sym c.self.view_is) c.requires in
    let size = a.history.ok.0 in
    let room = more_room a k x g in
    omega arith

pub invariant_of-self : goal.invariant_of-self
invariant_of-self c =
    let a = c.self.inside in
    let k = c.self.invariant in
    let p = a.ordered in
    let w = points_after p a.history.items in
    let t = k.tells in
    let x = Signal c.args.op in
    let g = subst (λ (s : Course). CanSignalNow s.plan (world s) c.args.op) (sym c.self.view_is) c.requires in
    let f = inside_facts a k in
    let o = c.op-chain.result in
    let at = subst (λ (s : Course). slice_get s.plan.ops c.args.op ≡ Some o) (sym c.self.view_is)
    c.op-chain.ensures.op in
    let of = of_chain p f c.args.op o at in
    let there = chain_exists p f c.args.op o at in
    let chains = f.semaphores.chains in
    let payloads = t.payloads.count in
    let owner : g.job ≡ o.job = (let z = sym (f.formed.of_job c.args.op g.job (find_member (λ y. not
    (w.machine.progress.made y)) (signals_of p g.job) c.args.op g.next)) ∙ op_job p f c.args.op o at in cc) in
    let next_is_op = subst (λ (j : ℕ). next w.machine.progress.made (signals_of p j) ≡ Some c.args.op) owner g.next in
    let started = subst (λ (j : ℕ). w.machine.progress.started j ≡ true) owner g.started in
    let exists = (inside_keeps a k).turns.exists o.job started in
    let is = c.at-state.ensures ∙ ap (get_or a.jobs o.job) c.idle.ensures in
    let state = subst (IsJobState p w.released w.machine.progress.started w.machine.progress.finished
    w.machine.progress.made w.machine.progress.applied o.job) (sym is) (t.jobs.each o.job) in
    let here = sym (next_is w.machine.progress.made (signals_of p o.job) c.at-state.result.signals
    state.first_signals) ∙ next_is_op in
    let v = record w {
      machine = record w.machine {
        progress = with_signal p w.machine.progress c.args.op (Some
            o.chain);
      };
    } in
    let value_is : value p c.args.op ≡ o.value = ap (λ y. option_map_or (λ (z : Op). z.value) y 0) at in
    core_next a k x g _ refl c.push_reserved.ensures.items (let e = c.push_reserved.ensures.capacity in omega arith)
    (signal_tells p w _ c.args.op o.chain of (record {
      earlier = t.earlier;
      submitted = t.submitted;
      jobs = subst (AreJobs p w.released w.machine.progress.started w.machine.progress.finished (put
          w.machine.progress.made c.args.op true) w.machine.progress.applied) (sym c.put-2.ensures)
          (jobs_signaled p w.released w.machine.progress.started w.machine.progress.finished w.machine.progress.made
          w.machine.progress.applied a.jobs t.jobs o.job exists c.at-state.result state f c.args.op here);
      answers = t.answers;
      made = subst (AreMade (length p.ops) (put w.machine.progress.made c.args.op true)) (sym c.put.ensures)
          (made_next (length p.ops) w.machine.progress.made a.made c.args.op t.made (op_within p c.args.op o.chain of));
      points = t.points;
      slots = t.slots;
      payloads = subst (λ (n : ℕ). ArePayloads (length p.script.semaphores) (put w.machine.progress.payload o.chain
          n) (set a.payloads.items o.chain o.value)) (sym value_is) (payload_next (length p.script.semaphores)
          w.machine.progress.payload a.payloads.items o.chain o.value t.payloads (omega arith));
      timelines = timelines_by p w v a.timelines.items refl refl refl refl refl refl t.timelines;
      lanes = t.lanes;
      notes = t.notes;
      buffers = t.buffers;
      sizes = t.sizes;
      left = t.left;
    }))
