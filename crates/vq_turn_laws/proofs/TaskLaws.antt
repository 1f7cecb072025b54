-- The event of each task may come at a true place, and the place behind it is true.
use Rattle.std.proofs.Common.{◌≡◌, ℕ, Bool, true, false, List, [], ◌∷◌, Option, Some, None, refl, sym, subst, ap}
use Rattle.std.proofs.Common.{is_some}
use Rattle.std.specs.Option.{option_map_or}
use Rattle.vq_model.specs.declared.script.ActorName.{ActorName}
use Rattle.vq_model.specs.declared.plan.Need.{Need}
use Rattle.vq_model.specs.declared.plan.Question.{Question}
use Rattle.vq_model.specs.declared.plan.Question.TheVariants.{Value as AsksValue}
use Rattle.vq_model.specs.declared.plan.Event.{Event}
use Rattle.vq_model.specs.declared.plan.Event.TheVariants.{Submit as Submits, Take as Takes, Release as Releases}
use Rattle.vq_model.specs.declared.plan.Event.TheVariants.{Bind as Binds, Start as Starts, Apply as Applies}
use Rattle.vq_model.specs.declared.plan.Event.TheVariants.{Signal as Signals, Finish as Finishes, Answer as AnswersAs}
use Rattle.vq_model.specs.declared.plan.Event.TheVariants.{Complete, Free}
use Rattle.vq_model.specs.Plan.{Plan, asked, question}
use Rattle.vq_model.specs.Machine.{with_signal}
use Rattle.vq_ground.proofs.Lists.{has_here, has-append_right}
use Rattle.vq_model.proofs.Puts.{put_here}
use Rattle.vq_point_laws.specs.Points.{PointState, CanCome, after_event}
use Rattle.vq_turns.specs.declared.task.Task.{Task}
use Rattle.vq_turns.specs.declared.task.Task.TheVariants.{Submit, Take, Release, Bind, Start, Apply, Signal, Answer}
use Rattle.vq_turns.specs.declared.task.Task.TheVariants.{Finish}
use Rattle.vq_turns.specs.declared.look.Holding.{Holding}
use Rattle.vq_turns.specs.declared.look.Seen.{Seen}
use Rattle.vq_turns.specs.Turns.{taken, taken_of, point_of, unbound_before, collected, to_complete, to_free, answer_by}
use Rattle.vq_turn_laws.specs.PlanParts.{IsOrderly}
use Rattle.vq_turn_laws.specs.Tasks.{IsOf, finishes}
use Rattle.vq_turn_laws.specs.TruePlaces.{Stands}
use Rattle.vq_turn_laws.specs.Worlds.{Sees}
use Rattle.vq_turn_laws.proofs.CutFacts.{IsCut, job_of_actor}
use Rattle.vq_turn_laws.proofs.Guards.{can_submit, can_start, can_apply, can_signal, can_finish, can_answer, pairs_of}
use Rattle.vq_turn_laws.proofs.KeptGuards.{binds_kept, collects_kept, finish_free}
use Rattle.vq_turn_laws.proofs.PlaceLaws.{can_release, can_take}
use Rattle.vq_turn_laws.proofs.Reached.{Reached}
use Rattle.vq_turn_laws.proofs.References.{none_referring}
use Rattle.vq_turn_laws.proofs.StandLaws.{SameReferences, nothing_held, stands_behind, stands_finished, stands_still}

-- an event may come, and the place behind the task that it does is true
abbrev pub Does : Plan → PointState → ActorName → List Task → Task → List Task → Event → Type 0
Does p w a before t left x = CanCome p w x × Stands p (after_event p w x) a (t ∷ before) left [] false

module _ (p : Plan) (o : IsOrderly p) (w : PointState) (r : Reached p w) (a : ActorName) (before left : List Task)
    (holding : List Holding) (met : Bool) where
  pub does_submit : (j : ℕ) → IsCut p a before (Submit j ∷ left) → Stands p w a before (Submit j ∷ left) holding met →
      Does p w a before (Submit j) left (Submits j)
  does_submit j c s =
      let can = can_submit p w before s.done j c.order.0 s.left.0 in (
        can,
        stands_behind p o w r a before (Submit j) left holding met (Submits j) refl c can refl
            (put_here w.submitted j true) (record { held = refl; referred = refl; looked = refl }) s,
      )

  pub does_release : (j : ℕ) → IsCut p a before (Release j ∷ left) →
      Stands p w a before (Release j ∷ left) holding met → Does p w a before (Release j) left (Releases j)
  does_release j c s =
      let can = can_release p w before s.done j o.resolvers c.order.0 s.left.0 in (
        can,
        stands_behind p o w r a before (Release j) left holding met (Releases j) refl c can refl
            (put_here w.released j true) (record { held = refl; referred = refl; looked = refl }) s,
      )

  pub does_take : (e t : ℕ) → IsCut p a before (Take e t ∷ left) → Stands p w a before (Take e t ∷ left) holding met →
      Does p w a before (Take e t) left (taken w e t)
  does_take e t c s = by_free (w.free t) (can_take p w before s.done e t left o.resolvers c.order.0 s.left)
    where
      by_free : (qs : List ℕ) → CanCome p w (taken_of w e qs) → Does p w a before (Take e t) left (taken_of w e qs)
      by_free [] can = (
        can,
        stands_behind p o w r a before (Take e t) left holding met
            (Takes e w.points true) refl c can refl (ap is_some (put_here w.point_of e (Some w.points)))
            (record { held = refl; referred = refl; looked = refl }) s,
      )
      by_free (q ∷ qs) can = (
        can,
        stands_behind p o w r a before (Take e t) left holding met (Takes e q false) refl c can refl
            (ap is_some (put_here w.point_of e (Some q))) (record { held = refl; referred = refl; looked = refl }) s,
      )

  -- That no smaller operation is unbound is what the turn asks.
  pub does_bind : (e : ℕ) → unbound_before p w e ≡ None → IsCut p a before (Bind e ∷ left) →
      Stands p w a before (Bind e ∷ left) holding met → Does p w a before (Bind e) left (Binds e (point_of w e))
  does_bind e none c s =
      let can = binds_kept p o.well_formed r.past w r.links r.facts before s.done e c.order.0 none s.left.0 in (
        can,
        stands_behind p o w r a before (Bind e) left holding met (Binds e (point_of w e)) refl c can refl
            (put_here w.bound e true) (record { held = refl; referred = refl; looked = refl }) s,
      )

  pub does_start : (j : ℕ) → IsCut p a before (Start j ∷ left) → Stands p w a before (Start j ∷ left) holding met →
      Does p w a before (Start j) left (Starts j)
  does_start j c s =
      let can = can_start p w before s.done j c.order.0 s.left.0 in (
        can,
        stands_behind p o w r a before (Start j) left holding met (Starts j) refl c can refl
            (put_here w.machine.progress.started j true) (record { held = refl; referred = refl; looked = refl }) s,
      )

  pub does_apply : (j d : ℕ) → IsCut p a before (Apply j d ∷ left) →
      Stands p w a before (Apply j d ∷ left) holding met → Does p w a before (Apply j d) left (Applies j d)
  does_apply j d c s =
      let can = can_apply p w before s.done j d left c.order.0 s.left in (
        can,
        stands_behind p o w r a before (Apply j d) left holding met (Applies j d) refl c can refl
            (has-append_right w.machine.progress.applied (d ∷ []) d (has_here d []))
            (record { held = refl; referred = refl; looked = refl }) s,
      )

  -- That the operation is bound is what the turn asks.
  pub does_signal : (e : ℕ) → w.bound e ≡ true → IsCut p a before (Signal e ∷ left) →
      Stands p w a before (Signal e ∷ left) holding met → Does p w a before (Signal e) left (Signals e)
  does_signal e bound c s =
      let asks = c.order.0 in
      let can = can_signal p w before s.done e left asks bound s.left in
      let done = subst (λ (z : Option ℕ). (with_signal p w.machine.progress e z).made e ≡ true) (sym asks.in_chain)
      (put_here w.machine.progress.made e true) in (
        can,
        stands_behind p o w r a before (Signal e) left holding met (Signals e) refl c can refl done
            (record { held = refl; referred = refl; looked = refl }) s,
      )

  pub does_finish : (j : ℕ) → IsCut p a before (Finish j ∷ left) → Stands p w a before (Finish j ∷ left) holding met →
      Does p w a before (Finish j) left (Finishes j)
  does_finish j c s =
      let own = job_of_actor p o.well_formed a before (Finish j ∷ left) c j (finishes left) refl in
      let holds = nothing_held p w a before j [] holding met refl (s.between refl) (s.holds j (finishes left) refl) in
      let none = none_referring p a w before left s.done s.left.1 j [] false holds in
      let can = can_finish p w before s.done j c.order.0 s.left.0 (finish_free p w a j own none) in (
        can,
        stands_finished p o w r a before j left holding met (Finishes j) c can refl
            (put_here w.machine.progress.finished j true) (record { held = refl; referred = refl; looked = refl }) s,
      )

  -- What was seen is so, and a value is asked of the chain that the question names.
  pub does_answer : (j : ℕ) (asks : Question) (seen : List Seen) → Sees p w j (pairs_of (asked p j)) seen →
      ((t : ℕ) → question p j ≡ AsksValue t → (n : Need) × (ns : List Need) × (asked p j ≡ n ∷ ns) × (n.chain ≡ t)) →
      IsCut p a before (Answer j asks ∷ left) → Stands p w a before (Answer j asks ∷ left) holding met →
      Does p w a before (Answer j asks) left (AnswersAs j (answer_by asks seen))
  does_answer j asks seen sees valued c s =
      let can = can_answer p w before s.done j asks seen left c.order.0 s.left.0 sees valued in (
        can,
        stands_behind p o w r a before (Answer j asks) left holding met
            (AnswersAs j (answer_by asks seen)) refl c can refl
            (ap is_some (put_here w.machine.answer j (Some (answer_by asks seen))))
            (record { held = refl; referred = refl; looked = refl }) s,
      )

-- Collection

module _ (p : Plan) (o : IsOrderly p) (w : PointState) (r : Reached p w) where
  collects_none : (t : ℕ) (x : Event) → collected p w t ≡ Some x →
      ((u : Task) → IsOf x u → ⊥) × SameReferences w (after_event p w x)
  collects_none t x is = by_complete (to_complete p w t) is
    where
      None_of : Event → Type 0
      None_of y = ((u : Task) → IsOf y u → ⊥) × SameReferences w (after_event p w y)

      by_free : (z : Option ℕ) → option_map_or (λ q. Some (Free q)) z None ≡ Some x → None_of x
      by_free None s = absurd (let y = s in cc)
      by_free (Some q) s =
          let same : Free q ≡ x = let y = s in cc in
          subst None_of same ((λ u own. own), record { held = refl; referred = refl; looked = refl })

      by_complete : (z : Option ℕ) →
          option_map_or (λ e. Some (Complete e)) z (option_map_or (λ q. Some (Free q)) (to_free p w t) None) ≡ Some x →
          None_of x
      by_complete None s = by_free (to_free p w t) s
      by_complete (Some e) s =
          let same : Complete e ≡ x = let y = s in cc in
          subst None_of same ((λ u own. own), record { held = refl; referred = refl; looked = refl })

  -- What collection gives may come, and leaves every place true.
  pub collects_true : (t : ℕ) (x : Event) → collected p w t ≡ Some x →
      CanCome p w x × ((a : ActorName) (before after : List Task) (holding : List Holding) (met : Bool) →
      Stands p w a before after holding met → Stands p (after_event p w x) a before after holding met)
  collects_true t x is =
      let can = collects_kept p o.well_formed r.past w r.links r.facts t x is in
      let none = collects_none t x is in (
        can,
        λ a before after holding met s. stands_still p o w r a before after holding met x can
            (λ u m own. none.0 u own) none.1 s,
      )
