-- What an actor saw for its question stays so, and grows by each comparison.
use Rattle.std.proofs.Common.{◌≡◌, ℕ, ◌<◌, ◌&&◌, ◌==◌, nat_lt, Bool, true, false, List, [], ◌∷◌, ◌++◌, append-nil}
use Rattle.std.proofs.Common.{Option, Some, None, refl, sym, subst, ap, ◌∙◌, ◌⊎◌, inl, inr, arith}
use Rattle.std.specs.List.{list_any}
use Rattle.std.specs.Option.{option_map_or}
use Rattle.std.proofs.lemmas.Bool.{false≢true, or_left, or_right, and_from, eq-eqb, lt-ltb, cases_eq}
use Rattle.std.proofs.lemmas.List.{append_assoc}
use Rattle.vq_model.specs.declared.script.ActorName.{ActorName}
use Rattle.vq_model.specs.declared.plan.Need.{Need}
use Rattle.vq_model.specs.declared.plan.Question.{Question}
use Rattle.vq_model.specs.declared.plan.Event.{Event}
use Rattle.vq_model.specs.declared.plan.Event.TheVariants.{Complete, Free}
use Rattle.vq_model.specs.Plan.{Plan, asked, chain, initial, value}
use Rattle.vq_ground.specs.Lists.{has}
use Rattle.vq_model.specs.Machine.{was_since}
use Rattle.vq_ground.proofs.Lists.{has_cases}
use Rattle.vq_point_laws.specs.Points.{PointState, CanCome, after_event}
use Rattle.vq_run_laws.proofs.Cited.{RaisedTo}
use Rattle.vq_turns.specs.declared.task.Task.{Task}
use Rattle.vq_turns.specs.declared.task.Task.TheVariants.{Start, Compare, Answer}
use Rattle.vq_turns.specs.declared.look.Seen.{Seen}
use Rattle.vq_turns.specs.Turns.{collected, to_complete, to_free, past_value}
use Rattle.vq_turn_laws.specs.Places.{IsDone}
use Rattle.vq_turn_laws.specs.PlanParts.{IsOrderly}
use Rattle.vq_turn_laws.specs.Tasks.{Each, Among, onto, compares, finishes, compared_now, is_asking}
use Rattle.vq_turn_laws.specs.TruePlaces.{SawTruly}
use Rattle.vq_turn_laws.specs.Worlds.{Sees}
use Rattle.vq_turn_laws.proofs.CutFacts.{IsCut}
use Rattle.vq_turn_laws.proofs.Guards.{pairs_of}
use Rattle.vq_turn_laws.proofs.PastLaws.{past_is_payload}
use Rattle.vq_turn_laws.proofs.PlaceLaws.{each_among}
use Rattle.vq_turn_laws.proofs.ProgramLaws.{among_onto}
use Rattle.vq_turn_laws.proofs.Reached.{Reached, reached_rises}
use Rattle.vq_turn_laws.proofs.SeenLaws.{sees_stays, sees_more}

-- behind a task that doesn't compare nothing was compared
not_compared : (t : Task) (left before : List Task) → is_asking (t ∷ left) ≡ false → compared_now (t ∷ before) ≡ []
not_compared (Compare t v) left before h = absurd (false≢true (sym h))
not_compared other left before h = refl

compared_onto : (ns : List Need) (earlier : List Task) →
    compared_now (onto (compares ns) earlier) ≡ compared_now earlier ++ pairs_of ns
compared_onto [] earlier = sym (append-nil (compared_now earlier))
compared_onto (n ∷ ns) earlier =
    compared_onto ns (Compare n.chain n.value ∷ earlier) ∙ append_assoc (compared_now earlier) ((n.chain, n.value) ∷ [])
    (pairs_of ns)

pub saw_first : (p : Plan) (w : PointState) (after : List Task) → SawTruly p w [] after []
saw_first p w after = record { sees = λ h j js f. tt; unseen = λ h. refl }

-- behind a task that neither compares nor answers
pub saw_behind : (p : Plan) (w v : PointState) (before : List Task) (t : Task) (left : List Task) (seen : List Seen) →
    is_asking (t ∷ left) ≡ false → SawTruly p w before (t ∷ left) seen → SawTruly p v (t ∷ before) left seen
saw_behind p w v before t left seen h s =
    let none = s.unseen h in
    record {
      sees = λ g j js f. subst (λ (qs : List (ℕ × ℕ)). Sees p v j qs seen) (sym (not_compared t left before h))
          (subst (λ (xs : List Seen). Sees p v j [] xs) (sym none) tt);
      unseen = λ g. none;
    }

pub saw_answered : (p : Plan) (v : PointState) (before : List Task) (j : ℕ) (asks : Question) (left : List Task) →
    SawTruly p v (Answer j asks ∷ before) left []
saw_answered p v before j asks left = record { sees = λ h i is f. tt; unseen = λ h. refl }

module _ (p : Plan) (o : IsOrderly p) (w : PointState) (r : Reached p w) (a : ActorName) (before : List Task)
    (d : Each (IsDone w) before) where
  -- the job of a question is started
  asking_started : (after : List Task) → IsCut p a before after → is_asking after ≡ true → (j : ℕ) (js : List ℕ) →
      finishes after ≡ j ∷ js → w.machine.progress.started j ≡ true
  asking_started [] c h j js f = absurd (false≢true h)
  asking_started (Compare t v ∷ left) c h j js f =
      let asks = c.order.0 in
      let same : asks.job ≡ j = let z = sym asks.first ∙ f in cc in
      subst (λ (z : ℕ). w.machine.progress.started z ≡ true) same
      (each_among (IsDone w) before (Start asks.job) d asks.started)
  asking_started (Answer i q ∷ left) c h j js f =
      let asks = c.order.0 in
      let same : i ≡ j = let z = sym asks.first ∙ f in cc in
      let stands = subst (λ us. Among (Start i) us) (sym asks.compared)
      (among_onto (Start i) (compares (asked p i)) asks.earlier asks.started) in
      subst (λ (z : ℕ). w.machine.progress.started z ≡ true) same (each_among (IsDone w) before (Start i) d stands)
  asking_started (other ∷ left) c h j js f = absurd (false≢true h)

  -- What was seen stays so, whatever event comes.
  pub saw_still : (after : List Task) (seen : List Seen) → IsCut p a before after → SawTruly p w before after seen →
      (x : Event) → CanCome p w x → SawTruly p (after_event p w x) before after seen
  saw_still after seen c s x can =
      record {
        sees = λ h j js f. sees_stays p w j (asking_started after c h j js f) x can (reached_rises p o w r x can)
            (compared_now before) seen (s.sees h j js f);
        unseen = s.unseen;
      }

  none_completed : (t : ℕ) → collected p w t ≡ None → to_complete p w t ≡ None
  none_completed t h = by_complete (to_complete p w t) h
    where
      by_complete : (z : Option ℕ) →
          option_map_or (λ e. Some (Complete e)) z (option_map_or (λ q. Some (Free q)) (to_free p w t) None) ≡ None →
          z ≡ None
      by_complete None e = refl
      by_complete (Some y) e = absurd (let z = e in cc)

  some_sets : (t n : ℕ) (e : ℕ) (es : List ℕ) → has es e ≡ true → w.machine.progress.made e ≡ true → value p e ≡ n →
      list_any (λ f. w.machine.progress.made f && (value p f == n)) es ≡ true
  some_sets t n e [] m made v = absurd (false≢true m)
  some_sets t n e (f ∷ fs) m made v =
      elim (has_cases f fs e m) [
        | inl s ↦ or_left (w.machine.progress.made f && (value p f == n))
            (list_any (λ g. w.machine.progress.made g && (value p g == n)) fs)
            (subst (λ (z : ℕ). (w.machine.progress.made z && (value p z == n)) ≡ true) (sym s)
            (and_from (w.machine.progress.made e) (value p e == n) made (eq-eqb (value p e) n v)))
        | inr g ↦ or_right (w.machine.progress.made f && (value p f == n))
            (list_any (λ g. w.machine.progress.made g && (value p g == n)) fs) (some_sets t n e fs g made v)
      ]

  -- an operation of a chain that was made sets this value
  abbrev made_at : ℕ → ℕ → Bool
  made_at t n = list_any (λ f. w.machine.progress.made f && (value p f == n)) (chain p t)

  -- the payload now is one since the start of a started job
  payload_since : (j t : ℕ) → w.machine.progress.started j ≡ true →
      was_since p w.machine j t (w.machine.progress.payload t) ≡ true
  payload_since j t started =
      elim (cases_eq (w.machine.progress.payload t) (w.machine.at_start j t)) [
        | inl e ↦ or_left (w.machine.progress.payload t == w.machine.at_start j t)
            (nat_lt (w.machine.at_start j t) (w.machine.progress.payload t) &&
            (made_at t (w.machine.progress.payload t)))
            (eq-eqb (w.machine.progress.payload t) (w.machine.at_start j t) e)
        | inr n ↦ or_right (w.machine.progress.payload t == w.machine.at_start j t)
            (nat_lt (w.machine.at_start j t) (w.machine.progress.payload t) &&
            (made_at t (w.machine.progress.payload t)))
            (and_from (nat_lt (w.machine.at_start j t) (w.machine.progress.payload t))
            (made_at t (w.machine.progress.payload t))
            (lt-ltb (w.machine.at_start j t) (w.machine.progress.payload t) (less n))
            (raised n (r.follows.machine.raised t)))
      ]
    where
      less : (w.machine.progress.payload t ≡ w.machine.at_start j t → ⊥) →
          w.machine.at_start j t < w.machine.progress.payload t
      less n = let k = r.starts j t started in let high = k.1 in elim
          (cases_eq (w.machine.progress.payload t) (w.machine.at_start j t))
          [ inl e ↦ absurd (n e) | inr m ↦ omega arith ]

      raised : (w.machine.progress.payload t ≡ w.machine.at_start j t → ⊥) →
          (w.machine.progress.payload t ≡ initial p t) ⊎ RaisedTo p w.machine.progress.made t
          (w.machine.progress.payload t) → (made_at t (w.machine.progress.payload t)) ≡ true
      raised n (inl e) = absurd (let k = r.starts j t started in let low = k.0 in let l = less n in omega arith)
      raised n (inr x) = some_sets t (w.machine.progress.payload t) x.op (chain p t) x.in_chain x.was_made x.sets

  -- A comparison more.
  pub saw_compared : (t v : ℕ) (left : List Task) (seen : List Seen) → collected p w t ≡ None →
      IsCut p a before (Compare t v ∷ left) → SawTruly p w before (Compare t v ∷ left) seen →
      SawTruly p w (Compare t v ∷ before) left (seen ++ record { wanted = v; past = past_value p w t } ∷ [])
  saw_compared t v left seen none c s =
      let now = past_is_payload p w o.well_formed o.chains r.follows.machine r.made t (λ e m made. r.raised e t m made)
      (none_completed t none) in
      record {
        sees = λ h j js f.
            let started = asking_started (Compare t v ∷ left) c refl j js f in
            sees_more p w j started (compared_now before) seen t v (record { wanted = v; past = past_value p w t })
            (s.sees refl j js f) refl now (r.starts j t started).1 (payload_since j t started);
        unseen = λ h. absurd (false≢true (sym h ∙ c.order.0.asking));
      }

  -- What was compared for an answer is what the job asks.
  pub saw_asked : (j : ℕ) (q : Question) (left : List Task) (seen : List Seen) → IsCut p a before (Answer j q ∷ left) →
      SawTruly p w before (Answer j q ∷ left) seen → Sees p w j (pairs_of (asked p j)) seen
  saw_asked j q left seen c s =
      let asks = c.order.0 in
      let same : compared_now before ≡ pairs_of (asked p j) =
      ap compared_now asks.compared ∙
      (compared_onto (asked p j) asks.earlier ∙ ap (λ us. us ++ pairs_of (asked p j)) asks.alone) in
      subst (λ (qs : List (ℕ × ℕ)). Sees p w j qs seen) same (s.sees refl j asks.later asks.first)
