-- That an event may come has at most one proof, and so has a history: they may be ghost facts of a type.
use Rattle.std.proofs.Common.{◌≡◌, ℕ, ◌<◌, ◌||◌, ◌&&◌, not, if◌then◌else◌, Bool, true, false, [], Some, None}
use Rattle.std.proofs.Common.{sym, ◌∙◌}
use Rattle.std.specs.Prelude.{MatchBool}
use Rattle.std.specs.List.{list_all, list_any, slice_get}
use Rattle.std.proofs.Props.{props}
use mathlib.Core.HLevel.{is_prop→PathP}
use Rattle.std.proofs.lemmas.Option.{same_Some}
use Rattle.vq_model.specs.declared.script.ActorName.{ActorName}
use Rattle.vq_model.specs.declared.plan.Event.{Event}
use Rattle.vq_model.specs.declared.plan.Event.TheVariants.{Submit, Take, Release, Bind, Refer, Look, Unref, Complete}
use Rattle.vq_model.specs.declared.plan.Event.TheVariants.{Free, Start, Apply, Signal, Finish, Answer}
use Rattle.vq_model.specs.Plan.{Plan, job_of, chain_of, signals_of, commands_of, is_host_step}
use Rattle.vq_ground.specs.Lists.{has}
use Rattle.vq_model.specs.Edges.{AtEnd}
use Rattle.vq_model.specs.Machine.{next, are_reached}
use Rattle.vq_model.specs.WellFormed.{IsWellFormed}
use Rattle.vq_point_laws.specs.Points.{PointState, next_job, CanTake, CanBind, CanRefer, CanLook, CanComplete, CanSignalNow}
use Rattle.vq_point_laws.specs.Points.{CanCome, earlier_in_queue, are_needs_pending, may_bind}
use Rattle.vq_point_laws.specs.Points.{smaller_ops, needs_now, resolves, needs_resolved, count_of, holds, is_pending}
use Rattle.vq_run_laws.proofs.Cited.{next_in}

module _ (p : Plan) (w : PointState) where
  take_prop : (e q : ℕ) (fresh : Bool) → IsProp (CanTake p w e q fresh)
  take_prop e q fresh x y =
      let j : x.job ≡ y.job = same_Some x.job y.job (sym x.of_job ∙ y.of_job) in
      let c : x.chain ≡ y.chain = same_Some x.chain y.chain (sym x.in_chain ∙ y.in_chain) in
      λ i. record {
        job = j i;
        of_job = is_prop→PathP (λ k. job_of p e ≡ Some (j k)) (λ k. Prim.hlevel props) x.of_job y.of_job i;
        chain = c i;
        in_chain = is_prop→PathP (λ k. chain_of p e ≡ Some (c k)) (λ k. Prim.hlevel props) x.in_chain y.in_chain i;
        without = (let h : IsProp (w.point_of e ≡ None) = Prim.hlevel props in h x.without y.without i);
        in_turn = is_prop→PathP
            (λ k. (if is_host_step p (j k) then w.machine.progress.started (j k) else w.submitted (j k) && not
            (w.released (j k)) && list_all w.released (earlier_in_queue p (j k)) && are_needs_pending p w (j k)) ≡ true)
            (λ k. Prim.hlevel props) x.in_turn y.in_turn i;
        point = is_prop→PathP
            (λ k. MatchBool fresh ((w.free (c k) ≡ []) × (q ≡ w.points)) (slice_get (w.free (c k)) 0 ≡ Some q))
            (λ k. point_prop (c k) fresh) x.point y.point i;
      }
    where
      point_prop : (t : ℕ) (b : Bool) →
          IsProp (MatchBool b ((w.free t ≡ []) × (q ≡ w.points)) (slice_get (w.free t) 0 ≡ Some q))
      point_prop t true = Prim.hlevel props
      point_prop t false = Prim.hlevel props

  bind_prop : (e q : ℕ) → IsProp (CanBind p w e q)
  bind_prop e q x y =
      let j : x.job ≡ y.job = same_Some x.job y.job (sym x.of_job ∙ y.of_job) in
      let c : x.chain ≡ y.chain = same_Some x.chain y.chain (sym x.in_chain ∙ y.in_chain) in
      λ i. record {
        job = j i;
        of_job = is_prop→PathP (λ k. job_of p e ≡ Some (j k)) (λ k. Prim.hlevel props) x.of_job y.of_job i;
        chain = c i;
        in_chain = is_prop→PathP (λ k. chain_of p e ≡ Some (c k)) (λ k. Prim.hlevel props) x.in_chain y.in_chain i;
        carries = (let h : IsProp (w.carried q ≡ Some e) = Prim.hlevel props in h x.carries y.carries i);
        unbound = (let h : IsProp (w.bound e ≡ false) = Prim.hlevel props in h x.unbound y.unbound i);
        ready = is_prop→PathP (λ k. may_bind p w (j k) ≡ true) (λ k. Prim.hlevel props) x.ready y.ready i;
        in_order = is_prop→PathP (λ k. list_all w.bound (smaller_ops p (c k) e) ≡ true)
            (λ k. Prim.hlevel props) x.in_order y.in_order i;
      }

  refer_prop : (a : ActorName) (q e : ℕ) → IsProp (CanRefer p w a q e)
  refer_prop a q e x y =
      let j : x.job ≡ y.job = same_Some x.job y.job (sym x.is_next ∙ y.is_next) in
      λ i. record {
        job = j i;
        is_next = is_prop→PathP (λ k. next_job p w a ≡ Some (j k)) (λ k. Prim.hlevel props) x.is_next y.is_next i;
        carries = (let h : IsProp (w.carried q ≡ Some e) = Prim.hlevel props in h x.carries y.carries i);
        bound = (let h : IsProp (w.bound e ≡ true) = Prim.hlevel props in h x.bound y.bound i);
        released = is_prop→PathP (λ k. (is_host_step p (j k) || w.released (j k)) ≡ true)
            (λ k. Prim.hlevel props) x.released y.released i;
        needed = is_prop→PathP (λ k. list_any (resolves p e) (needs_now p w (j k)) ≡ true)
            (λ k. Prim.hlevel props) x.needed y.needed i;
        wanted = is_prop→PathP (λ k. count_of (w.referred (j k)) e < needs_resolved p (j k) e)
            (λ k. Prim.hlevel props) x.wanted y.wanted i;
      }

  look_prop : (a : ActorName) (q e : ℕ) → IsProp (CanLook p w a q e)
  look_prop a q e x y =
      let j : x.job ≡ y.job = same_Some x.job y.job (sym x.is_next ∙ y.is_next) in
      λ i. record {
        job = j i;
        is_next = is_prop→PathP (λ k. next_job p w a ≡ Some (j k)) (λ k. Prim.hlevel props) x.is_next y.is_next i;
        holds = (let h : IsProp (holds w a q e ≡ true) = Prim.hlevel props in h x.holds y.holds i);
        signaled = (let h : IsProp (w.machine.progress.made e ≡ true) = Prim.hlevel props in h x.signaled y.signaled i);
        fewer = is_prop→PathP (λ k. count_of (w.looked (j k)) e < count_of (w.referred (j k)) e)
            (λ k. Prim.hlevel props) x.fewer y.fewer i;
      }

  complete_prop : (e : ℕ) → IsProp (CanComplete p w e)
  complete_prop e x y =
      let c : x.chain ≡ y.chain = same_Some x.chain y.chain (sym x.in_chain ∙ y.in_chain) in
      λ i. record {
        chain = c i;
        in_chain = is_prop→PathP (λ k. chain_of p e ≡ Some (c k)) (λ k. Prim.hlevel props) x.in_chain y.in_chain i;
        pending = (let h : IsProp (is_pending w e ≡ true) = Prim.hlevel props in h x.pending y.pending i);
        in_order = is_prop→PathP (λ k. list_all w.past (smaller_ops p (c k) e) ≡ true)
            (λ k. Prim.hlevel props) x.in_order y.in_order i;
        signaled = (let h : IsProp (w.machine.progress.made e ≡ true) = Prim.hlevel props in h x.signaled y.signaled i);
      }

  module _ (wf : IsWellFormed p) where
    -- an operation is its own job's
    signal_prop : (e : ℕ) → IsProp (CanSignalNow p w e)
    signal_prop e x y =
        let first = wf.of_job e x.job (next_in w.machine.progress.made (signals_of p x.job) e x.next).0 in
        let second = wf.of_job e y.job (next_in w.machine.progress.made (signals_of p y.job) e y.next).0 in
        let j : x.job ≡ y.job = same_Some x.job y.job (sym first ∙ second) in
        let c : x.chain ≡ y.chain = same_Some x.chain y.chain (sym x.in_chain ∙ y.in_chain) in
        λ i. record {
          job = j i;
          chain = c i;
          in_chain = is_prop→PathP (λ k. chain_of p e ≡ Some (c k)) (λ k. Prim.hlevel props) x.in_chain y.in_chain i;
          started = is_prop→PathP (λ k. w.machine.progress.started (j k) ≡ true)
              (λ k. Prim.hlevel props) x.started y.started i;
          unfinished = is_prop→PathP (λ k. w.machine.progress.finished (j k) ≡ false)
              (λ k. Prim.hlevel props) x.unfinished y.unfinished i;
          commands = is_prop→PathP (λ k. list_all (has w.machine.progress.applied) (commands_of p (j k)) ≡ true)
              (λ k. Prim.hlevel props) x.commands y.commands i;
          next = is_prop→PathP (λ k. next w.machine.progress.made (signals_of p (j k)) ≡ Some e)
              (λ k. Prim.hlevel props) x.next y.next i;
          ready = is_prop→PathP (λ k. are_reached p w.machine.progress.payload (j k) AtEnd ≡ true)
              (λ k. Prim.hlevel props) x.ready y.ready i;
          bound = (let h : IsProp (w.bound e ≡ true) = Prim.hlevel props in h x.bound y.bound i);
        }

    pub can_come_prop : (x : Event) → IsProp (CanCome p w x)
    can_come_prop (Submit j) = Prim.hlevel props
    can_come_prop (Take e q fresh) = take_prop e q fresh
    can_come_prop (Release j) = Prim.hlevel props
    can_come_prop (Bind e q) = bind_prop e q
    can_come_prop (Refer a q e) = refer_prop a q e
    can_come_prop (Look a q e) = look_prop a q e
    can_come_prop (Unref a q e) = Prim.hlevel props
    can_come_prop (Complete e) = complete_prop e
    can_come_prop (Free q) = Prim.hlevel props
    can_come_prop (Start j) = Prim.hlevel props
    can_come_prop (Apply j c) = Prim.hlevel props
    can_come_prop (Signal e) = signal_prop e
    can_come_prop (Finish j) = Prim.hlevel props
    can_come_prop (Answer j a) = Prim.hlevel props
