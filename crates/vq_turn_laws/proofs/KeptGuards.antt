-- Guards in the worlds of histories.
use Rattle.std.proofs.Common.{◌≡◌, ℕ, Bool, true, false, Option, Some, None, refl, sym, subst, ◌∙◌, List, [], ◌∷◌}
use Rattle.std.specs.Option.{option_map_or}
use Rattle.std.proofs.lemmas.Bool.{false≢true}
use Rattle.std.specs.List.{list_any, slice_get}
use Rattle.vq_model.specs.declared.script.ActorName.{ActorName}
use Rattle.vq_model.specs.declared.plan.Need.{Need}
use Rattle.vq_model.specs.declared.plan.Event.{Event}
use Rattle.vq_model.specs.declared.plan.Event.TheVariants.{Bind as Binds, Complete, Free, Refer}
use Rattle.vq_model.specs.Plan.{Plan, of_job}
use Rattle.vq_model.specs.WellFormed.{IsWellFormed}
use Rattle.vq_model.specs.declared.plan.Lane.TheVariants.{Host as HostLane}
use Rattle.vq_model.specs.declared.plan.PlanJob.{PlanJob}
use Rattle.vq_model.specs.Naming.{same_actor}
use Rattle.vq_point_laws.specs.Points.{PointState, CanCome, Reference, actor_of_lane}
use Rattle.vq_point_laws.proofs.Cited.{Links}
use Rattle.vq_turns.specs.declared.task.Task.{Task}
use Rattle.vq_turns.specs.declared.task.Task.TheVariants.{Bind}
use Rattle.vq_turns.specs.declared.look.Found.TheVariants.{Pending}
use Rattle.vq_turns.specs.declared.look.Holding.{Holding}
use Rattle.vq_turns.specs.Turns.{point_of, unbound_before, to_complete, to_free, collected, found, held_for}
use Rattle.vq_turn_laws.specs.Holdings.{HoldsTruly}
use Rattle.vq_turn_laws.proofs.References.{AtIndex}
use Rattle.vq_turn_laws.specs.Orders.{AsksBind, AsksWait}
use Rattle.vq_turn_laws.specs.Places.{IsDone, IsLeft}
use Rattle.vq_turn_laws.specs.PlanParts.{lane_of_job}
use Rattle.vq_turn_laws.specs.Tasks.{Each}
use Rattle.vq_history_laws.specs.KeptFacts.{KeepsFacts}
use Rattle.vq_turn_laws.proofs.Guards.{can_bind, can_complete, can_free}
use Rattle.vq_turn_laws.proofs.References.{can_refer}

module _ (p : Plan) (wf : IsWellFormed p) (h : List Event) (w : PointState) (links : Links p h w)
    (k : KeepsFacts p w) where
  unpast : (e : ℕ) → w.bound e ≡ false → w.past e ≡ false
  unpast e b = by_past (w.past e) refl
    where
      by_past : (c : Bool) → w.past e ≡ c → c ≡ false
      by_past false s = refl
      by_past true s = absurd (false≢true (sym b ∙ k.ops.past_bound e s))

  pub binds_kept : (before : List Task) → Each (IsDone w) before → (e : ℕ) → AsksBind p before e →
      unbound_before p w e ≡ None → IsLeft w (Bind e) → CanCome p w (Binds e (point_of w e))
  binds_kept before d e a none left = can_bind p w before d e (λ q is b. links.pending e q is (unpast e b)) a none left

  -- what collection gives may come
  pub collects_kept : (t : ℕ) (x : Event) → collected p w t ≡ Some x → CanCome p w x
  collects_kept t x is = by_complete (to_complete p w t) refl is
    where
      by_free : (o : Option ℕ) → to_free p w t ≡ o → option_map_or (λ q. Some (Free q)) o None ≡ Some x → CanCome p w x
      by_free None f s = absurd (let z = s in cc)
      by_free (Some q) f s =
          let same : Free q ≡ x = let z = s in cc in
          subst (CanCome p w) same (can_free p wf w t q f)

      by_complete : (o : Option ℕ) → to_complete p w t ≡ o →
          option_map_or (λ e. Some (Complete e)) o (option_map_or (λ q. Some (Free q)) (to_free p w t) None) ≡ Some x →
          CanCome p w x
      by_complete None c s = by_free (to_free p w t) refl s
      by_complete (Some e) c s =
          let same : Complete e ≡ x = let z = s in cc in
          subst (CanCome p w) same (can_complete p wf w t e (λ f i b m. k.ops.below e t f b i m) c)

  pub refers_kept : (a : ActorName) (before after : List Task) (d : Each (IsDone w) before)
      (left : Each (IsLeft w) after) (ns : List Need) (holding : List Holding) (asks : AsksWait p a before ns after)
      (i : ℕ) (n : Need) (e q : ℕ) → AtIndex 0 ns i n → held_for i holding ≡ None →
      HoldsTruly p w a before asks.job ns holding false → found p w n.chain n.value ≡ Some (Pending e q) →
      CanCome p w (Refer a q e)
  refers_kept a before after d left ns holding asks i n e q at none t f =
      can_refer p a w before after d left ns holding asks i n e q at none t (λ r is u. links.pending e r is u)
      (λ b. k.ops.bound_taken e b) f

-- A job finishes where its lane's actor holds nothing.
pub finish_free : (p : Plan) (w : PointState) (a : ActorName) (j : ℕ) → actor_of_lane (lane_of_job p j) ≡ a →
    list_any (λ (r : Reference). same_actor a r.actor) w.held ≡ false →
    list_any (λ (r : Reference). of_job (λ x. same_actor (actor_of_lane x.lane) r.actor) false p j) w.held ≡ false
finish_free p w a j own free = by_job (slice_get p.jobs j) own
  where
    none : (rs : List Reference) → list_any (λ (r : Reference). false) rs ≡ false
    none [] = refl
    none (r ∷ rs) = none rs

    by_job : (o : Option PlanJob) → actor_of_lane (option_map_or (λ x. x.lane) o HostLane) ≡ a →
        list_any (λ (r : Reference). option_map_or (λ x. same_actor (actor_of_lane x.lane) r.actor) o false) w.held ≡
        false
    by_job None own = none w.held
    by_job (Some x) own = subst (λ (b : ActorName). list_any (λ (r : Reference). same_actor b r.actor) w.held ≡ false)
        (sym own) free
