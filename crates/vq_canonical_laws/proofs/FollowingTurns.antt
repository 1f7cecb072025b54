-- A line without a fault in the schedule takes turns of an actor.
use Rattle.std.proofs.Common.{◌≡◌, ℕ, ◌+◌, ◌<◌, ◌≤◌, Bool, true, false, cond, ◌&&◌, List, [], ◌∷◌, length, map, find, Option, Some, None, option_map, refl, sym, ap, ◌∙◌, subst, arith}
use Rattle.std.specs.Prelude.{codes, drop, sum}
use Rattle.std.specs.List.{position}
use Rattle.std.specs.Str.{bytes_eq}
use Rattle.std.proofs.lemmas.Bool.{false≢true, and_parts, ltb-true, ltb-false}
use Rattle.std.proofs.lemmas.List.{length-map}
use Rattle.std.proofs.lemmas.Option.{same_Some}
use Rattle.vq_ground.proofs.Positions.{found_at}
use Rattle.vq_model.specs.declared.statement.Form.{Form}
use Rattle.vq_model.specs.declared.statement.Line.{Line}
use Rattle.vq_model.specs.declared.statement.LineForm.{LineForm}
use Rattle.vq_model.specs.declared.statement.LineForm.TheVariants.{TurnLine, TurnsLine}
use Rattle.vq_model.specs.declared.statement.Section.{Section}
use Rattle.vq_model.specs.declared.statement.Statement.{Statement}
use Rattle.vq_model.specs.declared.statement.Statement.TheVariants.{TakeTurns}
use Rattle.vq_model.specs.declared.script.ActorName.{ActorName}
use Rattle.vq_model.specs.declared.script.ActorName.TheVariants.{Host as HostActor, Submit as SubmitActor, Ring as RingActor}
use Rattle.vq_model.specs.declared.script.Turn.{Turn}
use Rattle.vq_model.specs.Context.{queues, is_threaded, turns_of}
use Rattle.vq_model.specs.Limits.{limits_of}
use Rattle.vq_model.specs.Forms.{forms_in_schedule}
use Rattle.vq_model.specs.LineFaults.{fault_of, is_in_range}
use Rattle.vq_model.specs.Meaning.{actor_at, is_marked, of_two, matches, forms_at, meaning}
use Rattle.vq_model.specs.SameScript.{queue_without_line, turn_without_line}
use Rattle.vq_model.specs.ScriptOfLines.{turns_at}
use Rattle.vq_model.specs.Text.{numeral}
use Rattle.vq_model.specs.Context.{number_at}
use Rattle.vq_model.specs.Earlier.{earlier}
use Rattle.vq_model.specs.LineFaults.{passes_limit}
use Rattle.vq_model.specs.Forms.{QueueName, ThreadedName}
use Rattle.std.specs.List.{flat_map}
use Rattle.vq_reading_laws.proofs.Cited.{found_passes, found_belongs, forms_in, turns_counted}
use Rattle.vq_canonical_laws.proofs.LineTests.{PassesTests, tests_passed}
use Rattle.vq_canonical_laws.proofs.SaidContext.{most_before, position_same}
use Rattle.vq_canonical_laws.proofs.ScriptParts.{Parts}
use Rattle.vq_canonical_laws.proofs.ScheduleParts.{IsActorIn, SaySchedule}

-- whether a form takes turns
abbrev takes_turns : LineForm → Bool
takes_turns TurnLine = true
takes_turns TurnsLine = true
takes_turns other = false

-- A statement takes turns of an actor of these parts, one at least, after so many turns.
pub record Takes (p : Parts) (turns : ℕ) (s : Statement) : Type 0 where
  pub actor : ActorName
  pub count : ℕ
  pub is : TakeTurns actor count ≡ s
  pub exists : IsActorIn p.queues actor
  pub some_turns : 0 < count
  pub few : turns + count ≤ (limits_of p.version).turns

-- the queues of lines, and their turns
module _ (before : List Line) (p : Parts) (turns : List Turn) (h : SaySchedule before p turns) where
  pub queue_said : (name : List ℕ) → number_at before QueueName name ≡ position (λ q. bytes_eq name q.name) p.queues
  queue_said name =
      sym (position_same (λ q. bytes_eq name q.name) queue_without_line (λ x. refl) (queues before))
      ∙ ap (position (λ q. bytes_eq name q.name)) h.queues_are

  pub threaded_said : (name : List ℕ) → number_at before ThreadedName name
      ≡ position (λ q. bytes_eq name q.name && is_threaded q.mode) p.queues
  threaded_said name =
      sym (position_same (λ q. bytes_eq name q.name && is_threaded q.mode) queue_without_line
      (λ x. refl) (queues before))
      ∙ ap (position (λ q. bytes_eq name q.name && is_threaded q.mode)) h.queues_are

  pub turns_said : sum (map (λ line. turns_of line.statement) before) ≡ length turns
  turns_said =
      sym (turns_counted before)
      ∙ (sym (length-map (flat_map turns_at before) turn_without_line) ∙ ap length h.turns_are)

  -- the actor of a word
  actor_said : (word : List ℕ) (a : ActorName) → actor_at (number_at before) word ≡ Some a → IsActorIn p.queues a
  actor_said word a e = by_host (bytes_eq word (codes "host")) refl e
    where
      name : List ℕ
      name = drop 2 word

      by_submit : (o : Option ℕ) → number_at before ThreadedName name ≡ o →
          option_map (λ q. SubmitActor q) o ≡ Some a → IsActorIn p.queues a
      by_submit None i g = absurd (let c : None ≡ Some a = g in cc)
      by_submit (Some q) i g =
          let found =
          found_at (λ x. bytes_eq name x.name && is_threaded x.mode) p.queues q
          (sym (threaded_said name) ∙ i) in
          subst (IsActorIn p.queues) (same_Some (SubmitActor q) a g) (
            found.0,
            found.1,
            (and_parts (bytes_eq name found.0.name) (is_threaded found.0.mode) found.2).1,
          )

      by_ring : (o : Option ℕ) → number_at before QueueName name ≡ o →
          option_map (λ q. RingActor q) o ≡ Some a → IsActorIn p.queues a
      by_ring None i g = absurd (let c : None ≡ Some a = g in cc)
      by_ring (Some q) i g =
          let found =
          found_at (λ x. bytes_eq name x.name) p.queues q (sym (queue_said name) ∙ i) in
          subst (IsActorIn p.queues) (same_Some (RingActor q) a g) (found.0, found.1)

      of_queue : Bool → Option ActorName
      of_queue b =
          cond b (option_map (λ q. SubmitActor q) (number_at before ThreadedName name))
          (option_map (λ q. RingActor q) (number_at before QueueName name))

      by_mark : (b : Bool) → of_queue b ≡ Some a → IsActorIn p.queues a
      by_mark true g = by_submit (number_at before ThreadedName name) refl g
      by_mark false g = by_ring (number_at before QueueName name) refl g

      by_host : (b : Bool) → bytes_eq word (codes "host") ≡ b → actor_at (number_at before) word ≡ Some a →
          IsActorIn p.queues a
      by_host true i g =
          subst (IsActorIn p.queues)
          (same_Some HostActor a
          (sym (ap (λ (b : Bool). cond b (Some HostActor) (of_queue (is_marked 83 word))) i) ∙ g)) tt
      by_host false i g =
          by_mark (is_marked 83 word)
          (sym (ap (λ (b : Bool). cond b (Some HostActor) (of_queue (is_marked 83 word))) i) ∙ g)

  module _ (form : Form) where
    -- turns in range, as few as there may be
    takes : (a : ActorName) (n : ℕ) (s : Statement) → IsActorIn p.queues a →
        is_in_range (earlier before) s ≡ true →
        passes_limit (earlier before) s ≡ false → TakeTurns a n ≡ s →
        Takes p (length turns) s
    takes a n s exists ranged limited same =
        let r : is_in_range (earlier before) (TakeTurns a n) ≡ true =
        subst (λ (z : Statement). is_in_range (earlier before) z ≡ true) (sym same) ranged in
        let l : passes_limit (earlier before) (TakeTurns a n) ≡ false =
        subst (λ (z : Statement). passes_limit (earlier before) z ≡ false)
        (sym same) limited in
        let few =
        ltb-false (most_before before).turns
        (sum (map (λ (line : Line). turns_of line.statement) before) + n) l in
        let most = ap (λ (v : ℕ). (limits_of v).turns) h.version in
        let counted = turns_said in
        record {
          actor = a;
          count = n;
          is = same;
          exists = exists;
          some_turns = ltb-true 0 n r;
          few = omega arith;
        }

    turn_takes : (words : List (List ℕ)) (s : Statement) → matches words TurnLine ≡ true →
        PassesTests form before words TurnLine s → Takes p (length turns) s
    turn_takes (word ∷ []) s m t = by_actor (actor_at (number_at before) word) refl t.said
      where
        by_actor : (o : Option ActorName) → actor_at (number_at before) word ≡ o →
            option_map (λ a. TakeTurns a 1) o ≡ Some s → Takes p (length turns) s
        by_actor None e g = absurd (let c : None ≡ Some s = g in cc)
        by_actor (Some a) e g =
            takes a 1 s (actor_said word a e) t.ranged t.limited (same_Some (TakeTurns a 1) s g)
    turn_takes words s m t = absurd (false≢true m)

    turns_take : (words : List (List ℕ)) (s : Statement) → matches words TurnsLine ≡ true →
        PassesTests form before words TurnsLine s → Takes p (length turns) s
    turns_take (word ∷ count ∷ []) s m t =
        by_actor (actor_at (number_at before) word) (numeral count) refl t.said
      where
        by_actor : (o : Option ActorName) (n : Option ℕ) → actor_at (number_at before) word ≡ o →
            of_two (λ a k. TakeTurns a k) o n ≡ Some s → Takes p (length turns) s
        by_actor None n e g = absurd (let c : None ≡ Some s = g in cc)
        by_actor (Some a) None e g = absurd (let c : None ≡ Some s = g in cc)
        by_actor (Some a) (Some n) e g =
            takes a n s (actor_said word a e) t.ranged t.limited (same_Some (TakeTurns a n) s g)
    turns_take words s m t = absurd (false≢true m)

    by_form : (f : LineForm) (words : List (List ℕ)) (s : Statement) → takes_turns f ≡ true →
        matches words f ≡ true → PassesTests form before words f s →
        Takes p (length turns) s
    by_form TurnLine words s g m t = turn_takes words s m t
    by_form TurnsLine words s g m t = turns_take words s m t
    by_form f words s g m t = absurd (false≢true g)

    -- A line without a fault takes turns.
    pub turns_follow : (words : List (List ℕ)) (s : Statement) → fault_of form before words ≡ None →
        meaning form before words ≡ Some s → Takes p (length turns) s
    turns_follow words s e m =
        let t = tests_passed form before words s e m in
        let here : find (matches words) forms_in_schedule ≡ Some t.0 =
        sym (ap (λ (was : Section). find (matches words) (forms_in form before was)) h.part)
        ∙ t.1.found in
        by_form t.0 words s
        (found_belongs (matches words) takes_turns forms_in_schedule t.0 refl here)
        (found_passes (matches words) (forms_at form before) t.0 t.1.found) t.1
