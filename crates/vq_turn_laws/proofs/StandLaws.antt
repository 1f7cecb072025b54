-- A place stays true through the events that leave the actor's references alone.
use Rattle.std.proofs.Common.{◌≡◌, ℕ, ◌≤◌, Bool, true, false, List, [], ◌∷◌, ◌++◌, refl, subst, ap, ◌∙◌, arith}
use Rattle.std.proofs.lemmas.Bool.{false≢true}
use Rattle.vq_model.specs.declared.script.ActorName.{ActorName}
use Rattle.vq_model.specs.declared.plan.Need.{Need}
use Rattle.vq_model.specs.declared.plan.Event.{Event}
use Rattle.vq_model.specs.Plan.{Plan}
use Rattle.vq_ground.proofs.Lists.{has-append_right, has_here}
use Rattle.vq_point_laws.specs.Points.{PointState, CanCome, after_event, count_of}
use Rattle.vq_turns.specs.declared.task.Task.{Task}
use Rattle.vq_turns.specs.declared.task.Task.TheVariants.{AwaitNeeds, Finish}
use Rattle.vq_turns.specs.declared.look.Holding.{Holding}
use Rattle.vq_turn_laws.specs.Holdings.{HoldsTruly}
use Rattle.vq_turn_laws.specs.Orders.{waited_since}
use Rattle.vq_turn_laws.specs.Places.{IsDone}
use Rattle.vq_turn_laws.specs.PlanParts.{IsOrderly}
use Rattle.vq_turn_laws.specs.Tasks.{Among, IsOf, finishes, waited_now, is_waiting}
use Rattle.vq_turn_laws.specs.TruePlaces.{Stands}
use Rattle.vq_turn_laws.proofs.CutFacts.{IsCut}
use Rattle.vq_turn_laws.proofs.HoldingLaws.{same_references, passes_task, enters_wait}
use Rattle.vq_turn_laws.proofs.LeftLaws.{true_for_others, true_behind, true_after_look}
use Rattle.vq_turn_laws.proofs.NextJobs.{not_referred}
use Rattle.vq_turn_laws.proofs.PlaceLaws.{reached_stays}
use Rattle.vq_turn_laws.proofs.Reached.{Reached, reached_rises}
use Rattle.vq_turn_laws.proofs.RingOrder.{push}

-- the references of a world are those of another one
pub record SameReferences (w v : PointState) : Type 0 where
  pub held : v.held ≡ w.held
  pub referred : v.referred ≡ w.referred
  pub looked : v.looked ≡ w.looked

-- whether a task neither waits for needs nor finishes a job
abbrev pub is_plain : Task → Bool
is_plain (AwaitNeeds ns) = false
is_plain (Finish j) = false
is_plain other = true

plain_finishes : (t : Task) → is_plain t ≡ true → (ts : List Task) → finishes (t ∷ ts) ≡ finishes ts
plain_finishes (AwaitNeeds ns) h ts = refl
plain_finishes (Finish j) h ts = absurd (false≢true h)
plain_finishes other h ts = refl

plain_since : (p : Plan) (t : Task) → is_plain t ≡ true → (e : ℕ) (ts : List Task) →
    waited_since p e (t ∷ ts) ≡ waited_since p e ts
plain_since p (AwaitNeeds ns) h e ts = absurd (false≢true h)
plain_since p (Finish j) h e ts = absurd (false≢true h)
plain_since p other h e ts = refl

plain_waited : (t : Task) → is_plain t ≡ true → (ts : List Task) → waited_now (t ∷ ts) ≡ []
plain_waited (AwaitNeeds ns) h ts = absurd (false≢true h)
plain_waited (Finish j) h ts = refl
plain_waited other h ts = refl

plain_waiting : (t : Task) → is_plain t ≡ true → (ts : List Task) → is_waiting (t ∷ ts) ≡ false
plain_waiting (AwaitNeeds ns) h ts = absurd (false≢true h)
plain_waiting (Finish j) h ts = refl
plain_waiting other h ts = refl

module _ (p : Plan) (w : PointState) (a : ActorName) where
  -- what is held in a wait for these needs
  same_wait : (before : List Task) (j : ℕ) (ns ms : List Need) (holding : List Holding) (met : Bool) → ns ≡ ms →
      HoldsTruly p w a before j ns holding met → HoldsTruly p w a before j ms holding met
  same_wait before j ns ms holding met e t = subst (λ us. HoldsTruly p w a before j us holding met) e t

  pub nothing_held : (before : List Task) (j : ℕ) (ns : List Need) (holding : List Holding) (met : Bool) → ns ≡ [] →
      (holding ≡ []) × (met ≡ false) → HoldsTruly p w a before j ns holding met → HoldsTruly p w a before j [] [] false
  nothing_held before j ns holding met e b t =
      subst (λ (m : Bool). HoldsTruly p w a before j [] [] m) b.1
      (subst (λ (hs : List Holding). HoldsTruly p w a before j [] hs met) b.0
      (same_wait before j ns [] holding met e t))

  -- What is held stays so when the next task is done, ..
  pub holds_behind : (v : PointState) → SameReferences w v →
      (before : List Task) (t : Task) (left : List Task) (holding : List Holding) (met : Bool) → is_plain t ≡ true →
      Stands p w a before (t ∷ left) holding met → (j : ℕ) (js : List ℕ) → finishes left ≡ j ∷ js →
      HoldsTruly p v a (t ∷ before) j (waited_now left) [] false
  holds_behind v same before t left holding met plain s j js f =
      let h = s.holds j js (plain_finishes t plain left ∙ f) in
      let n = nothing_held before j (waited_now (t ∷ left)) holding met (plain_waited t plain left)
      (s.between (plain_waiting t plain left)) h in
      let m = same_references p w v a before j [] [] false same.held same.referred same.looked n in
      enters_wait p v a (t ∷ before) j (waited_now left)
      (passes_task p v a t before j (λ e. plain_since p t plain e before) m)

  -- .. and at the end of a job nothing was referred to for the next one.
  pub holds_next : (r : Reached p w) → (v : PointState) → SameReferences w v →
      (before : List Task) (i : ℕ) (left : List Task) (holding : List Holding) (met : Bool) →
      IsCut p a before (Finish i ∷ left) → Stands p w a before (Finish i ∷ left) holding met → (j : ℕ) (js : List ℕ) →
      finishes left ≡ j ∷ js → HoldsTruly p v a (Finish i ∷ before) j (waited_now left) [] false
  holds_next r v same before i left holding met c s j js f =
      let h = nothing_held before i [] holding met refl (s.between refl) (s.holds i (j ∷ js) (ap (λ us. i ∷ us) f)) in
      let m = same_references p w v a before i [] [] false same.held same.referred same.looked h in
      enters_wait p v a (Finish i ∷ before) j (waited_now left)
      (record {
        tie = m.tie;
        of_need = λ k x y z n at. absurd (let u = at in cc);
        above = λ k x y z n at. absurd (let u = at in cc);
        referred = λ e. let z = none e in omega arith;
        looked = λ e. let z = none e in let y = few e in omega arith;
      })
    where
      none_before : (e : ℕ) → count_of (w.referred j) e ≡ 0
      none_before e =
          let lane = c.in_lane i (j ∷ js) (ap (λ us. i ∷ us) f) in
          let whole = c.whole lane.0 lane.1 ∙ (ap (λ us. c.front ++ i ∷ us) f ∙ push c.front i (j ∷ js)) in
          not_referred p w r.in_turn lane.0 (c.front ++ i ∷ []) js j i e whole
          (has-append_right c.front (i ∷ []) i (has_here i [])) s.left.0

      none : (e : ℕ) → count_of (v.referred j) e ≡ 0
      none e = ap (λ (g : ℕ → List ℕ). count_of (g j) e) same.referred ∙ none_before e

      few : (e : ℕ) → count_of (v.looked j) e ≤ count_of (v.referred j) e
      few e =
          let x : count_of (v.referred j) e ≡ count_of (w.referred j) e = ap
          (λ (g : ℕ → List ℕ). count_of (g j) e) same.referred in
          let y : count_of (v.looked j) e ≡ count_of (w.looked j) e = ap
          (λ (g : ℕ → List ℕ). count_of (g j) e) same.looked in
          let z = r.facts.references.looks j e in
          omega arith

-- The event of a task

module _ (p : Plan) (o : IsOrderly p) (w : PointState) (r : Reached p w) (a : ActorName) where
  -- An event that is none of the actor's tasks leaves its place true, where what it holds is left so.
  pub stands_with : (before after : List Task) (holding : List Holding) (met : Bool) (x : Event) → CanCome p w x →
      ((t : Task) → Among t after → IsOf x t → ⊥) → Stands p w a before after holding met →
      ((j : ℕ) (js : List ℕ) → finishes after ≡ j ∷ js →
      HoldsTruly p (after_event p w x) a before j (waited_now after) holding met) →
      Stands p (after_event p w x) a before after holding met
  stands_with before after holding met x can other s holds =
      let rise = reached_rises p o w r x can in
      let true_at = true_for_others p w x rise before after other (record { done = s.done; left = s.left }) in
      record {
        done = true_at.done;
        left = true_at.left;
        holds = holds;
        between = s.between;
        reached = λ m. reached_stays p w x rise (waited_now after) (s.reached m);
      }

  pub stands_still : (before after : List Task) (holding : List Holding) (met : Bool) (x : Event) → CanCome p w x →
      ((t : Task) → Among t after → IsOf x t → ⊥) → SameReferences w (after_event p w x) →
      Stands p w a before after holding met → Stands p (after_event p w x) a before after holding met
  stands_still before after holding met x can other same s =
      stands_with before after holding met x can other s
      (λ j js f. same_references p w (after_event p w x) a before j
      (waited_now after) holding met same.held same.referred same.looked (s.holds j js f))

  -- the event of the next task
  own_behind : (before : List Task) (t : Task) (left : List Task) (holding : List Holding) (met : Bool) (x : Event) →
      IsCut p a before (t ∷ left) → CanCome p w x → IsOf x t → IsDone (after_event p w x) t →
      Stands p w a before (t ∷ left) holding met →
      ((j : ℕ) (js : List ℕ) → finishes left ≡ j ∷ js →
      HoldsTruly p (after_event p w x) a (t ∷ before) j (waited_now left) [] false) →
      Stands p (after_event p w x) a (t ∷ before) left [] false
  own_behind before t left holding met x c can own done s holds =
      let true_at = true_behind p w x (reached_rises p o w r x can) before t left done
      (λ u m other. c.apart.0 u m x own other) (record { done = s.done; left = s.left }) in
      record {
        done = true_at.done;
        left = true_at.left;
        holds = holds;
        between = λ h. (refl, refl);
        reached = λ m. absurd (false≢true m);
      }

  pub stands_behind : (before : List Task) (t : Task) (left : List Task) (holding : List Holding) (met : Bool)
      (x : Event) → is_plain t ≡ true → IsCut p a before (t ∷ left) → CanCome p w x → IsOf x t →
      IsDone (after_event p w x) t → SameReferences w (after_event p w x) → Stands p w a before (t ∷ left) holding met →
      Stands p (after_event p w x) a (t ∷ before) left [] false
  stands_behind before t left holding met x plain c can own done same s =
      own_behind before t left holding met x c can own done s
      (holds_behind p w a (after_event p w x) same before t left holding met plain s)

  pub stands_finished : (before : List Task) (i : ℕ) (left : List Task) (holding : List Holding) (met : Bool)
      (x : Event) → IsCut p a before (Finish i ∷ left) → CanCome p w x → IsOf x (Finish i) →
      IsDone (after_event p w x) (Finish i) → SameReferences w (after_event p w x) →
      Stands p w a before (Finish i ∷ left) holding met →
      Stands p (after_event p w x) a (Finish i ∷ before) left [] false
  stands_finished before i left holding met x c can own done same s =
      own_behind before (Finish i) left holding met x c can own done s
      (holds_next p w a r (after_event p w x) same before i left holding met c s)

  -- A look that finds its thing so goes forward without an event.
  pub stands_looked : (before : List Task) (t : Task) (left : List Task) (holding : List Holding) (met : Bool) →
      is_plain t ≡ true → IsDone w t → Stands p w a before (t ∷ left) holding met →
      Stands p w a (t ∷ before) left [] false
  stands_looked before t left holding met plain done s =
      let true_at = true_after_look p w before t left done (record { done = s.done; left = s.left }) in
      record {
        done = true_at.done;
        left = true_at.left;
        holds = holds_behind p w a w
            (record { held = refl; referred = refl; looked = refl }) before t left holding met plain s;
        between = λ h. (refl, refl);
        reached = λ m. absurd (false≢true m);
      }
