-- The words of a turn's line are read as this turn, and they are words.
use Rattle.std.proofs.Common.{◌≡◌, ℕ, ◌<◌, ◌^◌, ◌++◌, ◌||◌, Bool, true, false, List, [], ◌∷◌, length, Option, Some, None}
use Rattle.std.proofs.Common.{option_map, refl, sym, subst, ap, ◌∙◌, arith, codes, append-nil}
use Rattle.std.specs.Prelude.{nat_lt}
use Rattle.std.specs.Fmt.{decimal}
use Rattle.std.specs.Str.{bytes_eq}
use Rattle.std.specs.List.{list_all}
use Rattle.std.specs.Option.{option_map_or, option_and_then}
use Rattle.std.proofs.lemmas.Bool.{and_from, and_parts, cond-false, lt-ltb}
use Rattle.vq_model.specs.declared.script.ActorName.{ActorName}
use Rattle.vq_model.specs.declared.script.ActorName.TheVariants.{Host as HostActor, Submit as SubmitActor, Ring as RingActor}
use Rattle.vq_model.specs.declared.script.Queue.{Queue}
use Rattle.vq_model.specs.declared.script.Semaphore.{Semaphore}
use Rattle.vq_model.specs.declared.plan.Answer.{Answer as Answered}
use Rattle.vq_model.specs.declared.plan.Answer.TheVariants.{Reached, Timeout, NotReady, Value}
use Rattle.vq_model.specs.declared.plan.Event.{Event}
use Rattle.vq_model.specs.declared.plan.Event.TheVariants.{Submit, Take, Release, Bind, Refer, Look, Unref, Complete}
use Rattle.vq_model.specs.declared.plan.Event.TheVariants.{Free, Start, Apply, Signal, Finish, Answer}
use Rattle.vq_model.specs.LoweredPlans.{IsPlan}
use Rattle.vq_model.specs.Naming.{queue_name, semaphore_name, actor_word}
use Rattle.vq_model.specs.Plan.{Plan, chain_of}
use Rattle.vq_model.specs.SureOrder.{KeepsChains}
use Rattle.vq_model.specs.ValidScripts.{IsActor}
use Rattle.vq_ground.proofs.Gets.{get_some}
use Rattle.vq_turns.specs.declared.outcome.Outcome.{Outcome}
use Rattle.vq_turns.specs.declared.outcome.Outcome.TheVariants.{Moved, Blocked, Ended}
use Rattle.vq_turn_laws.specs.Scenes.{event_made}
use Rattle.vq_plan_laws.proofs.Cited.{plan_semaphores}
use Rattle.vq_canonical_laws.proofs.Cited.{is_kept_byte, is_kept_word, are_kept_words, text_to_kept, decimal_back, decimal_word}
use Rattle.vq_canonical_laws.proofs.Cited.{name_word, read_names}
use Rattle.vq_given.specs.declared.given.TraceTurn.{TraceTurn}
use Rattle.vq_given.specs.declared.given.TraceLine.TheVariants.{Turn, Faulty}
use Rattle.vq_given.specs.Words.{is_silent_outcome, event_said, outcome_said, turn_said, line_said}
use Rattle.vq_trace_laws.specs.ReadsBack.{HasSmallLines}
use Rattle.vq_trace_laws.proofs.SaidWords.{HasSmallValues, answer_parts, event_parts, outcome_parts, turn_parts}
use Rattle.vq_trace_laws.proofs.SaidWords.{NamesWhatIs, IsSmallAnswer, CanBeTold}
use Rattle.vq_replay.specs.Traces.{op_words, taken_word}
use Rattle.vq_trace_laws.proofs.Lookups.{actor_back, threaded_exists}
use Rattle.vq_trace_laws.proofs.EventsBack.{op_has_words, event_back}

-- the turn that a line says
abbrev pub turn_told : ℕ → ActorName → Outcome → TraceTurn
turn_told n a o = record { number = n; actor = a; event = event_made o }

-- Words

pub decimal_kept : (n : ℕ) → n < 2 ^ 64 → is_kept_word (decimal n) ≡ true
decimal_kept n small = text_to_kept (decimal n) (decimal_word n small)

-- words one after another
pub kept_on : (word : List ℕ) (words : List (List ℕ)) → is_kept_word word ≡ true → are_kept_words words ≡ true →
    are_kept_words (word ∷ words) ≡ true
kept_on word words h k = and_from (is_kept_word word) (are_kept_words words) h k

kept_two : (a b : List ℕ) → is_kept_word a ≡ true → is_kept_word b ≡ true → are_kept_words (a ∷ b ∷ []) ≡ true
kept_two a b h k = kept_on a (b ∷ []) h (kept_on b [] k refl)

pub answer_kept : (r : Answered) → IsSmallAnswer r → are_kept_words (answer_parts r) ≡ true
answer_kept Reached h = refl
answer_kept Timeout h = refl
answer_kept NotReady h = refl
answer_kept (Value n) h = kept_two (codes "value") (decimal n) refl (decimal_kept n h)

taken_kept : (fresh : Bool) → is_kept_word (taken_word fresh) ≡ true
taken_kept true = refl
taken_kept false = refl

module _ (p : Plan) (is : IsPlan p) (chains : KeepsChains p) (small : HasSmallLines p) (values : HasSmallValues p) where
  queue_kept : (q : ℕ) → q < length p.script.queues → is_kept_word (queue_name p.script q) ≡ true
  queue_kept q l =
      let x = get_some p.script.queues q l in
      ap (λ (o : Option Queue). is_kept_word (option_map_or (λ y. y.name) o [])) x.1
      ∙ text_to_kept x.0.name (name_word x.0.name ((read_names p.script is.of_script).queues.names q x.0 x.1))

  marked_kept : (letter : ℕ) (name : List ℕ) → is_kept_byte letter ≡ true → is_kept_word name ≡ true →
      is_kept_word (letter ∷ 58 ∷ name) ≡ true
  marked_kept letter name h k =
      and_from (nat_lt 0 (length (letter ∷ 58 ∷ name))) (list_all is_kept_byte (letter ∷ 58 ∷ name))
      (lt-ltb 0 (length (letter ∷ 58 ∷ name)) (omega arith))
      (and_from (is_kept_byte letter) (list_all is_kept_byte (58 ∷ name)) h
      (and_from (is_kept_byte 58) (list_all is_kept_byte name) refl
      (and_parts (nat_lt 0 (length name)) (list_all is_kept_byte name) k).1))

  pub actor_kept : (a : ActorName) → IsActor p.script a → is_kept_word (actor_word p.script a) ≡ true
  actor_kept HostActor h = refl
  actor_kept (SubmitActor q) h =
      marked_kept 83 (queue_name p.script q) refl (queue_kept q (threaded_exists p is q h))
  actor_kept (RingActor q) h = marked_kept 82 (queue_name p.script q) refl (queue_kept q h)

  op_kept : (e : ℕ) → e < length p.ops → (more : List (List ℕ)) → are_kept_words more ≡ true →
      are_kept_words (op_words p e ++ more) ≡ true
  op_kept e l more k =
      let w = op_has_words p is chains small values e l in
      let named : w.name ≡ semaphore_name p.script w.op.chain = w.is_name in
      let of_e : chain_of p e ≡ Some w.op.chain = ap (option_map (λ y. y.chain)) w.there in
      let x = get_some p.script.semaphores w.op.chain ((plan_semaphores p is).op_chain e w.op.chain of_e) in
      let name_kept : is_kept_word w.name ≡ true =
      ap is_kept_word named
      ∙ (ap (λ (o : Option Semaphore). is_kept_word (option_map_or (λ y. y.name) o [])) x.1
      ∙ text_to_kept x.0.name (name_word x.0.name ((read_names p.script is.of_script).semaphores.names w.op.chain x.0 x.1))) in
      ap (λ (ws : List (List ℕ)). are_kept_words (ws ++ more)) w.words
      ∙ kept_on w.name (decimal w.number ∷ more) name_kept
      (kept_on (decimal w.number) more (decimal_kept w.number w.is_small) k)

  op_alone : (e : ℕ) → e < length p.ops → are_kept_words (op_words p e) ≡ true
  op_alone e l =
      subst (λ (ws : List (List ℕ)). are_kept_words ws ≡ true) (append-nil (op_words p e)) (op_kept e l [] refl)

  point_kept : (q : ℕ) → q < 2 ^ 32 → is_kept_word (decimal q) ≡ true
  point_kept q l = decimal_kept q (omega arith)

  pub event_kept : (x : Event) → NamesWhatIs p x → are_kept_words (event_parts p x) ≡ true
  event_kept (Submit j) h = kept_two (codes "submit") (decimal _) refl (decimal_kept _ (small.jobs j))
  event_kept (Take e q fresh) h =
      kept_on (codes "take") (op_words p e ++ taken_word fresh ∷ decimal q ∷ []) refl
      (op_kept e h.0 (taken_word fresh ∷ decimal q ∷ [])
      (kept_two (taken_word fresh) (decimal q) (taken_kept fresh) (point_kept q h.1)))
  event_kept (Release j) h = kept_two (codes "release") (decimal _) refl (decimal_kept _ (small.jobs j))
  event_kept (Bind e q) h =
      kept_on (codes "bind") (op_words p e ++ decimal q ∷ []) refl
      (op_kept e h.0 (decimal q ∷ []) (kept_on (decimal q) [] (point_kept q h.1) refl))
  event_kept (Refer b q e) h =
      kept_on (codes "refer") (decimal q ∷ op_words p e) refl
      (kept_on (decimal q) (op_words p e) (point_kept q h.1) (op_alone e h.0))
  event_kept (Look b q e) h =
      kept_on (codes "look") (decimal q ∷ op_words p e) refl
      (kept_on (decimal q) (op_words p e) (point_kept q h.1) (op_alone e h.0))
  event_kept (Unref b q e) h =
      kept_on (codes "unref") (decimal q ∷ op_words p e) refl
      (kept_on (decimal q) (op_words p e) (point_kept q h.1) (op_alone e h.0))
  event_kept (Complete e) h = kept_on (codes "complete") (op_words p e) refl (op_alone e h)
  event_kept (Free q) h = kept_two (codes "free") (decimal q) refl (point_kept q h)
  event_kept (Start j) h = kept_two (codes "start") (decimal _) refl (decimal_kept _ (small.jobs j))
  event_kept (Apply j c) h = kept_two (codes "apply") (decimal _) refl (decimal_kept _ (small.commands c))
  event_kept (Signal e) h = kept_on (codes "signal") (op_words p e) refl (op_alone e h)
  event_kept (Finish j) h = kept_two (codes "finish") (decimal _) refl (decimal_kept _ (small.jobs j))
  event_kept (Answer j r) h =
      kept_on (codes "answer") (decimal _ ∷ answer_parts r) refl
      (kept_on (decimal _) (answer_parts r) (decimal_kept _ (small.jobs j)) (answer_kept r h.1))

  -- The words of a turn's line are words.
  pub turn_kept : (n : ℕ) (a : ActorName) (o : Outcome) → n < 2 ^ 64 → IsActor p.script a → CanBeTold p a o →
      are_kept_words (turn_parts p n a o) ≡ true
  turn_kept n a o l h k =
      kept_on (decimal n) (actor_word p.script a ∷ outcome_parts p o) (decimal_kept n l)
      (kept_on (actor_word p.script a) (outcome_parts p o) (actor_kept a h) (by_outcome o k))
    where
      by_outcome : (o : Outcome) → CanBeTold p a o → are_kept_words (outcome_parts p o) ≡ true
      by_outcome (Moved x) k = event_kept x k.0
      by_outcome (Blocked want) k = refl
      by_outcome Ended k = refl

  -- Turns

  -- words that begin with another word than `-` and `.`
  pub record IsLoud (words : List (List ℕ)) : Type 0 where
    pub first : List ℕ
    pub others : List (List ℕ)
    pub whole : words ≡ first ∷ others
    pub loud : (bytes_eq first (codes "-") || bytes_eq first (codes ".")) ≡ false

  not_silent : (words : List (List ℕ)) → IsLoud words → is_silent_outcome words ≡ false
  not_silent words h = ap is_silent_outcome h.whole ∙ by_others h.others
    where
      by_others : (others : List (List ℕ)) → is_silent_outcome (h.first ∷ others) ≡ false
      by_others [] = h.loud
      by_others (word ∷ words) = refl

  event_loud : (x : Event) → IsLoud (event_parts p x)
  event_loud (Submit j) = record { first = _; others = _; whole = refl; loud = refl }
  event_loud (Take e q fresh) = record { first = _; others = _; whole = refl; loud = refl }
  event_loud (Release j) = record { first = _; others = _; whole = refl; loud = refl }
  event_loud (Bind e q) = record { first = _; others = _; whole = refl; loud = refl }
  event_loud (Refer b q e) = record { first = _; others = _; whole = refl; loud = refl }
  event_loud (Look b q e) = record { first = _; others = _; whole = refl; loud = refl }
  event_loud (Unref b q e) = record { first = _; others = _; whole = refl; loud = refl }
  event_loud (Complete e) = record { first = _; others = _; whole = refl; loud = refl }
  event_loud (Free q) = record { first = _; others = _; whole = refl; loud = refl }
  event_loud (Start j) = record { first = _; others = _; whole = refl; loud = refl }
  event_loud (Apply j c) = record { first = _; others = _; whole = refl; loud = refl }
  event_loud (Signal e) = record { first = _; others = _; whole = refl; loud = refl }
  event_loud (Finish j) = record { first = _; others = _; whole = refl; loud = refl }
  event_loud (Answer j r) = record { first = _; others = _; whole = refl; loud = refl }

  outcome_back : (a : ActorName) (o : Outcome) → CanBeTold p a o →
      outcome_said p a (outcome_parts p o) ≡ Some (event_made o)
  outcome_back a (Moved x) k =
      cond-false (is_silent_outcome (event_parts p x)) (Some None)
      (option_map (λ event. Some event) (event_said p a (event_parts p x))) (not_silent (event_parts p x) (event_loud x))
      ∙ ap (option_map (λ event. Some event)) (event_back p is chains small values a x k.0 k.1)
  outcome_back a (Blocked want) k = refl
  outcome_back a Ended k = refl

  -- The words of a turn's line are read as this turn.
  pub turn_back : (n : ℕ) (a : ActorName) (o : Outcome) → n < 2 ^ 64 → IsActor p.script a → CanBeTold p a o →
      line_said p (turn_parts p n a o) ≡ Turn (turn_told n a o)
  turn_back n a o l h k = more o k ∙ ap (λ (t : Option TraceTurn). option_map_or (λ turn. Turn turn) t Faulty) said
    where
      said : turn_said p (turn_parts p n a o) ≡ Some (turn_told n a o)
      said =
          (λ i. option_and_then (λ m. option_and_then (λ b. option_map (λ event.
          record { number = m; actor = b; event = event }) (outcome_said p b (outcome_parts p o)))
          (actor_back p is a h i)) (decimal_back n l i))
          ∙ ap (option_map (λ event. record { number = n; actor = a; event = event })) (outcome_back a o k)

      more : (o : Outcome) → CanBeTold p a o →
          line_said p (turn_parts p n a o) ≡ option_map_or (λ turn. Turn turn) (turn_said p (turn_parts p n a o)) Faulty
      more (Moved x) k = by_loud (event_parts p x) (event_loud x)
        where
          by_loud : (words : List (List ℕ)) → IsLoud words →
              line_said p (decimal n ∷ actor_word p.script a ∷ words)
              ≡ option_map_or (λ turn. Turn turn) (turn_said p (decimal n ∷ actor_word p.script a ∷ words)) Faulty
          by_loud words g =
              subst (λ (ws : List (List ℕ)). line_said p (decimal n ∷ actor_word p.script a ∷ ws)
              ≡ option_map_or (λ turn. Turn turn) (turn_said p (decimal n ∷ actor_word p.script a ∷ ws)) Faulty)
              (sym g.whole) refl
      more (Blocked want) k = refl
      more Ended k = refl
