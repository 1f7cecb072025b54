-- The words of an event are read as this event, and they are words.
use Rattle.std.proofs.Common.{◌≡◌, ℕ, ◌<◌, ◌^◌, ◌++◌, ◌&&◌, not, Bool, true, false, List, [], ◌∷◌, length, Option, Some, None}
use Rattle.std.proofs.Common.{option_map, refl, sym, ap, ◌∙◌, arith, codes}
use Rattle.std.specs.Fmt.{decimal}
use Rattle.std.specs.List.{slice_get}
use Rattle.std.specs.Option.{option_map_or, option_and_then}
use Rattle.std.proofs.lemmas.Bool.{and_parts, cond-true}
use Rattle.vq_model.specs.declared.script.ActorName.{ActorName}
use Rattle.vq_model.specs.declared.plan.Op.{Op}
use Rattle.vq_model.specs.declared.plan.Answer.{Answer as Answered}
use Rattle.vq_model.specs.declared.plan.Answer.TheVariants.{Reached, Timeout, NotReady, Value}
use Rattle.vq_model.specs.declared.plan.Event.{Event}
use Rattle.vq_model.specs.declared.plan.Event.TheVariants.{Submit, Take, Release, Bind, Refer, Look, Unref, Complete}
use Rattle.vq_model.specs.declared.plan.Event.TheVariants.{Free, Start, Apply, Signal, Finish, Answer}
use Rattle.vq_model.specs.LoweredPlans.{IsPlan}
use Rattle.vq_model.specs.Naming.{semaphore_name, same_actor}
use Rattle.vq_model.specs.Plan.{Plan, value, line_of_job, line_of_command}
use Rattle.vq_model.specs.SureOrder.{KeepsChains}
use Rattle.vq_model.specs.Meaning.{of_two, of_three, small_numeral}
use Rattle.vq_model.proofs.Actors.{same_actor_is}
use Rattle.vq_ground.proofs.Gets.{get_some}
use Rattle.vq_canonical_laws.proofs.Cited.{decimal_back}
use Rattle.vq_given.specs.Words.{job_said, job_with, apply_said, op_said, taken_said, answer_said, event_said, may_make, if_made_by}
use Rattle.vq_given.specs.Words.{is_submit_actor}
use Rattle.vq_trace_laws.specs.ReadsBack.{HasSmallLines}
use Rattle.vq_trace_laws.proofs.SaidWords.{HasSmallValues, answer_parts, event_parts, NamesWhatIs, IsSmallAnswer}
use Rattle.vq_replay.specs.Traces.{op_words, taken_word}
use Rattle.vq_trace_laws.proofs.Lookups.{job_back, command_back, job_with_back, op_back, small_back}

-- an answer by its words
answer_back : (a : Answered) → IsSmallAnswer a → answer_said (answer_parts a) ≡ Some a
answer_back Reached h = refl
answer_back Timeout h = refl
answer_back NotReady h = refl
answer_back (Value n) h = ap (option_map (λ k. Value k)) (decimal_back n h)

-- where a point comes from
taken_back : (fresh : Bool) → taken_said (taken_word fresh) ≡ Some fresh
taken_back true = refl
taken_back false = refl

module _ (p : Plan) (is : IsPlan p) (chains : KeepsChains p) (small : HasSmallLines p) (values : HasSmallValues p) where
  -- An operation that exists has two words, which name it.
  pub record HasWords (e : ℕ) : Type 0 where
    pub name : List ℕ
    pub number : ℕ
    pub op : Op
    pub there : slice_get p.ops e ≡ Some op
    pub words : op_words p e ≡ name ∷ decimal number ∷ []
    pub said : op_said p name (decimal number) ≡ Some e
    pub is_name : name ≡ semaphore_name p.script op.chain
    pub is_small : number < 2 ^ 64

  pub op_has_words : (e : ℕ) → e < length p.ops → HasWords e
  op_has_words e l =
      let o = get_some p.ops e l in
      let v : value p e ≡ o.0.value = ap (λ (z : Option Op). option_map_or (λ y. y.value) z 0) o.1 in
      let s = values.ops e in
      record {
        name = semaphore_name p.script o.0.chain;
        number = o.0.value;
        op = o.0;
        there = o.1;
        words = ap (λ (z : Option Op). option_map_or (λ o. semaphore_name p.script o.chain ∷ decimal o.value ∷ []) z []) o.1;
        said = op_back p is chains e o.0 o.1 (omega arith);
        is_name = refl;
        is_small = omega arith;
      }

  module _ (a : ActorName) where
    made_back : (x : Event) (o : Option Event) → may_make p a x ≡ true → o ≡ Some x →
        option_and_then (if_made_by p a) o ≡ Some x
    made_back x o m e = ap (option_and_then (if_made_by p a)) e ∙ cond-true (may_make p a x) (Some x) None m

    job_event : (f : ℕ → Event) (j : ℕ) → j < length p.jobs → may_make p a (f j) ≡ true →
        option_and_then (if_made_by p a) (option_map f (job_said p (decimal (line_of_job p j)))) ≡ Some (f j)
    job_event f j l m = made_back (f j) (option_map f (job_said p (decimal (line_of_job p j)))) m
        (ap (option_map f) (job_back p is small j l))

    op_event : (f : ℕ → Event) (e : ℕ) (h : HasWords e) → may_make p a (f e) ≡ true →
        option_and_then (if_made_by p a) (option_map f (op_said p h.name (decimal h.number))) ≡ Some (f e)
    op_event f e h m = made_back (f e) (option_map f (op_said p h.name (decimal h.number))) m (ap (option_map f) h.said)

    -- a point before an operation
    pointed : (f : ℕ → ℕ → Event) (q e : ℕ) (h : HasWords e) → q < 2 ^ 32 → may_make p a (f q e) ≡ true →
        option_and_then (if_made_by p a) (of_two f (small_numeral (decimal q)) (op_said p h.name (decimal h.number)))
        ≡ Some (f q e)
    pointed f q e h l m = made_back (f q e) (of_two f (small_numeral (decimal q)) (op_said p h.name (decimal h.number))) m
        (λ i. of_two f (small_back q l i) (h.said i))

    -- a reference is the actor's own
    referring : (f : ActorName → ℕ → ℕ → Event) (word : List ℕ) (b : ActorName) (q e : ℕ) →
        ((c : ActorName) → may_make p a (f c q e) ≡ (same_actor a c && not (is_submit_actor a))) →
        ((h : HasWords e) → may_make p a (f a q e) ≡ true → event_said p a (word ∷ decimal q ∷ h.name ∷ decimal h.number ∷ []) ≡ Some (f a q e)) →
        e < length p.ops → may_make p a (f b q e) ≡ true →
        event_said p a (word ∷ decimal q ∷ op_words p e) ≡ Some (f b q e)
    referring f word b q e by reads l m =
        let h = op_has_words e l in
        let same = same_actor_is a b (and_parts (same_actor a b) (not (is_submit_actor a)) (sym (by b) ∙ m)).0 in
        ap (λ (ws : List (List ℕ)). event_said p a (word ∷ decimal q ∷ ws)) h.words
        ∙ (reads h (ap (λ (c : ActorName). may_make p a (f c q e)) same ∙ m)
        ∙ ap (λ (c : ActorName). Some (f c q e)) same)

    -- The words of an event are read as it, where its actor may make it.
    pub event_back : (x : Event) → NamesWhatIs p x → may_make p a x ≡ true → event_said p a (event_parts p x) ≡ Some x
    event_back (Submit j) h m = job_event (λ k. Submit k) j h m
    event_back (Take e q fresh) h m =
        let w = op_has_words e h.0 in
        ap (λ (ws : List (List ℕ)). event_said p a (codes "take" ∷ (ws ++ taken_word fresh ∷ decimal q ∷ []))) w.words
        ∙ made_back (Take e q fresh)
        (of_three (λ e fresh q. Take e q fresh) (op_said p w.name (decimal w.number)) (taken_said (taken_word fresh))
        (small_numeral (decimal q))) m
        (λ i. of_three (λ e fresh q. Take e q fresh) (w.said i) (taken_back fresh i) (small_back q h.1 i))
    event_back (Release j) h m = job_event (λ k. Release k) j h m
    event_back (Bind e q) h m =
        let w = op_has_words e h.0 in
        ap (λ (ws : List (List ℕ)). event_said p a (codes "bind" ∷ (ws ++ decimal q ∷ []))) w.words
        ∙ made_back (Bind e q)
        (of_two (λ e q. Bind e q) (op_said p w.name (decimal w.number)) (small_numeral (decimal q))) m
        (λ i. of_two (λ e q. Bind e q) (w.said i) (small_back q h.1 i))
    event_back (Refer b q e) h m =
        referring (λ c q e. Refer c q e) (codes "refer") b q e (λ c. refl)
        (λ w n. pointed (λ q e. Refer a q e) q e w h.1 n) h.0 m
    event_back (Look b q e) h m =
        referring (λ c q e. Look c q e) (codes "look") b q e (λ c. refl)
        (λ w n. pointed (λ q e. Look a q e) q e w h.1 n) h.0 m
    event_back (Unref b q e) h m =
        referring (λ c q e. Unref c q e) (codes "unref") b q e (λ c. refl)
        (λ w n. pointed (λ q e. Unref a q e) q e w h.1 n) h.0 m
    event_back (Complete e) h m =
        let w = op_has_words e h in
        ap (λ (ws : List (List ℕ)). event_said p a (codes "complete" ∷ ws)) w.words ∙ op_event (λ k. Complete k) e w m
    event_back (Free q) h m =
        made_back (Free q) (option_map (λ k. Free k) (small_numeral (decimal q))) m
        (ap (option_map (λ k. Free k)) (small_back q h))
    event_back (Start j) h m = job_event (λ k. Start k) j h m
    event_back (Apply j c) h m =
        made_back (Apply j c) (apply_said p (decimal (line_of_command p c))) m
        (ap (option_and_then (λ d. option_map (λ k. Apply k d) (job_with p d))) (command_back p is small c h.1)
        ∙ ap (option_map (λ k. Apply k c)) (job_with_back p is j c h.0 h.2))
    event_back (Signal e) h m =
        let w = op_has_words e h in
        ap (λ (ws : List (List ℕ)). event_said p a (codes "signal" ∷ ws)) w.words ∙ op_event (λ k. Signal k) e w m
    event_back (Finish j) h m = job_event (λ k. Finish k) j h m
    event_back (Answer j answer) h m = by_answer answer h.1 m
      where
        -- the words of an answer are one or two
        by_answer : (r : Answered) → IsSmallAnswer r → may_make p a (Answer j r) ≡ true →
            event_said p a (codes "answer" ∷ decimal (line_of_job p j) ∷ answer_parts r) ≡ Some (Answer j r)
        by_answer r s n =
            made_back (Answer j r)
            (of_two (λ k answer. Answer k answer) (job_said p (decimal (line_of_job p j))) (answer_said (answer_parts r))) n
            (λ i. of_two (λ k answer. Answer k answer) (job_back p is small j h.0 i) (answer_back r s i))
