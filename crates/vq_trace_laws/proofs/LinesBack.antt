-- The text of turns that were played, line by line: it is one of lines of words, and these are read as the turns.
use Rattle.std.proofs.Common.{◌≡◌, ℕ, zero, suc, ◌<◌, ◌≤◌, ◌^◌, ◌+◌, ◌/◌, true, List, [], ◌∷◌, ◌++◌, length, map, Option, Some, None, Err}
use Rattle.std.proofs.Common.{refl, sym, ap, ◌∙◌, arith, codes, append_assoc, append-nil}
use Rattle.std.specs.Prelude.{Result}
use Rattle.std.specs.Fmt.{decimal}
use Rattle.std.specs.List.{list_all, flat_map, range_with_len, join_with_byte}
use Rattle.std.proofs.lemmas.Bool.{and_from, and_parts, cond-true, lt-ltb}
use Rattle.std.proofs.lemmas.List.{map-append}
use Rattle.std.proofs.lemmas.List.Elements.{filter_map-append}
use Rattle.vq_model.specs.declared.script.ActorName.{ActorName}
use Rattle.vq_model.specs.declared.plan.Answer.TheVariants.{Reached, Timeout, NotReady, Value}
use Rattle.vq_model.specs.declared.plan.Event.{Event}
use Rattle.vq_model.specs.declared.plan.Event.TheVariants.{Submit, Take, Release, Bind, Refer, Look, Unref, Complete}
use Rattle.vq_model.specs.declared.plan.Event.TheVariants.{Free, Start, Apply, Signal, Finish, Answer}
use Rattle.vq_model.specs.Canonical.{line_text}
use Rattle.vq_model.specs.LoweredPlans.{IsPlan}
use Rattle.vq_model.specs.Machine.{State}
use Rattle.vq_model.specs.Naming.{actor_word}
use Rattle.vq_model.specs.OutputText.{answers_of, buffers_text, line_feed, lines_answered}
use Rattle.vq_model.specs.Plan.{Plan}
use Rattle.vq_model.specs.SlowRun.{bytes_after}
use Rattle.vq_model.specs.SureOrder.{KeepsChains}
use Rattle.vq_model.specs.Text.{words_of}
use Rattle.vq_model.specs.ValidScripts.{IsActor}
use Rattle.vq_turns.specs.declared.outcome.Outcome.{Outcome}
use Rattle.vq_turns.specs.declared.outcome.Outcome.TheVariants.{Moved, Blocked, Ended}
use Rattle.vq_turn_laws.specs.Scenes.{event_made}
use Rattle.vq_canonical_laws.proofs.Cited.{are_kept_words, kept_words_back}
use Rattle.vq_given.specs.declared.given.GivenEvent.{GivenEvent}
use Rattle.vq_given.specs.declared.given.GivenTrace.{GivenTrace}
use Rattle.vq_given.specs.declared.given.TraceTurn.{TraceTurn}
use Rattle.vq_given.specs.declared.given.TraceLine.{TraceLine}
use Rattle.vq_given.specs.declared.given.TraceLine.TheVariants.{Turn}
use Rattle.vq_given.specs.Words.{line_said}
use Rattle.vq_given.specs.Reading.{TurnsRead, follows, event_at, with_turn, rest_line, rest_from, go_on, read_from}
use Rattle.vq_audit.specs.Verdicts.{made_events, texts_of}
use Rattle.vq_trace_laws.specs.ReadsBack.{HasSmallLines, Made, made_by, made_of, given_of}
use Rattle.vq_trace_laws.proofs.SaidWords.{HasSmallValues, event_parts, turn_parts, CanBeTold}
use Rattle.vq_trace_laws.proofs.EndWords.{answer_line_parts, hex_parts, buffer_parts, all_buffer_parts, rest_parts}
use Rattle.vq_replay.specs.declared.played.Played.{Played}
use Rattle.vq_replay.specs.Traces.{event_of, events_of, event_words, outcome_words, turn_line, end_text}
use Rattle.vq_trace_laws.proofs.TurnsBack.{turn_kept, turn_told, turn_back}
use Rattle.vq_trace_laws.proofs.EndsBack.{rest_spelled, spelled_both}

-- Spelling

abbrev pub parts_of : Plan → Played → List (List ℕ)
parts_of p x = turn_parts p x.number x.actor x.outcome

-- the line of a turn, whose answer may be of two words
turn_spelled : (p : Plan) (n : ℕ) (a : ActorName) (o : Outcome) →
    line_text (decimal n ∷ actor_word p.script a ∷ outcome_words p o) ≡ line_text (turn_parts p n a o)
turn_spelled p n a (Blocked want) = refl
turn_spelled p n a Ended = refl
turn_spelled p n a (Moved x) = by_event x
  where
    by_event : (x : Event) → line_text (decimal n ∷ actor_word p.script a ∷ event_words p x)
        ≡ line_text (decimal n ∷ actor_word p.script a ∷ event_parts p x)
    by_event (Submit j) = refl
    by_event (Take e q fresh) = refl
    by_event (Release j) = refl
    by_event (Bind e q) = refl
    by_event (Refer b q e) = refl
    by_event (Look b q e) = refl
    by_event (Unref b q e) = refl
    by_event (Complete e) = refl
    by_event (Free q) = refl
    by_event (Start j) = refl
    by_event (Apply j c) = refl
    by_event (Signal e) = refl
    by_event (Finish j) = refl
    by_event (Answer j Reached) = refl
    by_event (Answer j Timeout) = refl
    by_event (Answer j NotReady) = refl
    by_event (Answer j (Value k)) = refl

turns_spelled : (p : Plan) (xs : List Played) → flat_map (turn_line p) xs ≡ flat_map line_text (map (parts_of p) xs)
turns_spelled p [] = refl
turns_spelled p (x ∷ xs) = λ i. turn_spelled p x.number x.actor x.outcome i ++ turns_spelled p xs i

-- the lines at the end of a trace that leaves so many jobs
abbrev pub end_parts : Plan → State → ℕ → List (List (List ℕ))
end_parts p s zero = (codes "finished" ∷ []) ∷ rest_parts p s
end_parts p s (suc left) = (codes "unfinished" ∷ decimal (suc left) ∷ []) ∷ []

end_spelled : (p : Plan) (s : State) (left : ℕ) → end_text p s left ≡ flat_map line_text (end_parts p s left)
end_spelled p s zero =
    append_assoc (codes "finished" ++ line_feed) (answers_of p s)
    (buffers_text p.script.buffers (bytes_after p s.progress.applied))
    ∙ ap (λ (xs : List ℕ). codes "finished" ++ line_feed ++ xs) (rest_spelled p s)
end_spelled p s (suc left) = sym (append-nil (line_text (codes "unfinished" ∷ decimal (suc left) ∷ [])))

-- The text of turns and an end is that of their lines.
pub trace_spelled : (p : Plan) (xs : List Played) (s : State) (left : ℕ) →
    flat_map (turn_line p) xs ++ end_text p s left ≡ flat_map line_text (map (parts_of p) xs ++ end_parts p s left)
trace_spelled p xs s left =
    spelled_both (map (parts_of p) xs) (end_parts p s left) (flat_map (turn_line p) xs) (end_text p s left)
    (turns_spelled p xs) (end_spelled p s left)

-- The rest

-- lines that have words
abbrev pub HaveWords : List (List (List ℕ)) → Type 0
HaveWords [] = Unit {0}
HaveWords ([] ∷ lines) = ⊥
HaveWords ((word ∷ words) ∷ lines) = HaveWords lines

have_both : (xs ys : List (List (List ℕ))) → HaveWords xs → HaveWords ys → HaveWords (xs ++ ys)
have_both [] ys h k = k
have_both ([] ∷ xs) ys h k = absurd h
have_both ((w ∷ ws) ∷ xs) ys h k = have_both xs ys h k

answers_have : (xs : List _) → HaveWords (map answer_line_parts xs)
answers_have [] = tt
answers_have (x ∷ xs) = answers_have xs

rows_have : (bytes rows : List ℕ) → HaveWords (map (hex_parts bytes) rows)
rows_have bytes [] = tt
rows_have bytes (row ∷ rows) = rows_have bytes rows

buffers_have : (bs : List _) (m : List (List ℕ)) → HaveWords (all_buffer_parts bs m)
buffers_have [] m = tt
buffers_have (b ∷ bs) [] = have_both (buffer_parts b []) (all_buffer_parts bs []) (rows_have [] (range_with_len 0 ((0 + 15) / 16)))
    (buffers_have bs [])
buffers_have (b ∷ bs) (bytes ∷ m) =
    have_both (buffer_parts b bytes) (all_buffer_parts bs m)
    (rows_have bytes (range_with_len 0 ((length bytes + 15) / 16))) (buffers_have bs m)

pub rest_have : (p : Plan) (s : State) → HaveWords (rest_parts p s)
rest_have p s =
    have_both (map answer_line_parts (lines_answered p s))
    (all_buffer_parts p.script.buffers (bytes_after p s.progress.applied) ++ (codes "end" ∷ []) ∷ [])
    (answers_have (lines_answered p s))
    (have_both (all_buffer_parts p.script.buffers (bytes_after p s.progress.applied)) ((codes "end" ∷ []) ∷ [])
    (buffers_have p.script.buffers (bytes_after p s.progress.applied)) tt)

-- Lines of words after the end come back as they are.
pub rest_back : (n : ℕ) (lines : List (List (List ℕ))) → HaveWords lines → list_all are_kept_words lines ≡ true →
    texts_of (rest_from n (map (join_with_byte 32) lines)) ≡ map (join_with_byte 32) lines
rest_back n [] h k = refl
rest_back n ([] ∷ lines) h k = absurd h
rest_back n ((word ∷ words) ∷ lines) h k =
    let both = and_parts (are_kept_words (word ∷ words)) (list_all are_kept_words lines) k in
    ap (λ (ws : List (List ℕ)). texts_of (rest_line n ws ++ rest_from (n + 1) (map (join_with_byte 32) lines)))
    (kept_words_back (word ∷ words) both.0)
    ∙ ap (λ (xs : List (List ℕ)). join_with_byte 32 (word ∷ words) ∷ xs) (rest_back (n + 1) lines h both.1)

-- Reading turns

-- the turns that are read
abbrev pub turns_read : TurnsRead → ℕ → List Played → TurnsRead
turns_read before n [] = before
turns_read before n (x ∷ xs) =
    turns_read (with_turn before n (turn_told x.number x.actor x.outcome)) (n + 1) xs

-- numbers rise, from one on
abbrev pub RiseFrom : ℕ → List Played → Type 0
RiseFrom m [] = Unit {0}
RiseFrom m (x ∷ xs) = (m ≤ x.number) × RiseFrom (x.number + 1) xs

-- they are above that of the last turn
abbrev pub IsBelow : Option ℕ → ℕ → Type 0
IsBelow None m = Unit {0}
IsBelow (Some k) m = k < m

-- a turn that can be told, of a number that a line can hold
pub record IsTold (p : Plan) (x : Played) : Type 0 where
  pub number : x.number < 2 ^ 64
  pub actor : IsActor p.script x.actor
  pub outcome : CanBeTold p x.actor x.outcome

abbrev pub AreTold : Plan → List Played → Type 0
AreTold p [] = Unit {0}
AreTold p (x ∷ xs) = IsTold p x × AreTold p xs

module _ (p : Plan) (is : IsPlan p) (chains : KeepsChains p) (small : HasSmallLines p) (values : HasSmallValues p) where
  pub turns_kept : (xs : List Played) → AreTold p xs → list_all are_kept_words (map (parts_of p) xs) ≡ true
  turns_kept [] t = refl
  turns_kept (x ∷ xs) t =
      and_from (are_kept_words (parts_of p x)) (list_all are_kept_words (map (parts_of p) xs))
      (turn_kept p is chains small values x.number x.actor x.outcome t.0.number t.0.actor t.0.outcome)
      (turns_kept xs t.1)

  -- a line that is read
  line_back : (words : List (List ℕ)) (says : TraceLine) → are_kept_words words ≡ true → line_said p words ≡ says →
      line_said p (words_of (join_with_byte 32 words)) ≡ says
  line_back words says k s = ap (line_said p) (kept_words_back words k) ∙ s

  follows_last : (last : Option ℕ) (m number : ℕ) → IsBelow last m → m ≤ number → follows last number ≡ true
  follows_last None m number b l = refl
  follows_last (Some k) m number b l = lt-ltb k number (omega arith)

  -- The lines of turns are read as the turns.
  pub read_turns : (before : TurnsRead) (n m : ℕ) (xs : List Played) (rest : List (List ℕ)) → AreTold p xs →
      IsBelow before.last m → RiseFrom m xs →
      read_from p before n (map (join_with_byte 32) (map (parts_of p) xs) ++ rest)
      ≡ read_from p (turns_read before n xs) (n + length xs) rest
  read_turns before n m [] rest t b r =
      ap (λ (k : ℕ). read_from p before k rest) (let e : n ≡ n + 0 = omega arith in e)
  read_turns before n m (x ∷ xs) rest t b r =
      ap (go_on before n lines next)
      (line_back (parts_of p x) (Turn told)
      (turn_kept p is chains small values x.number x.actor x.outcome t.0.number t.0.actor t.0.outcome)
      (turn_back p is chains small values x.number x.actor x.outcome t.0.number t.0.actor t.0.outcome))
      ∙ (cond-true (follows before.last x.number) (next (with_turn before n told)) (Err n)
      (follows_last before.last m x.number b r.0)
      ∙ (read_turns (with_turn before n told) (n + 1) (x.number + 1) xs rest t.1 (omega arith) r.1
      ∙ ap (λ (k : ℕ). read_from p (turns_read (with_turn before n told) (n + 1) xs) k rest)
      (let e : n + 1 + length xs ≡ n + suc (length xs) = omega arith in e)))
    where
      told : TraceTurn
      told = turn_told x.number x.actor x.outcome

      lines : List (List ℕ)
      lines = map (join_with_byte 32) (map (parts_of p) xs) ++ rest

      next : TurnsRead → Result GivenTrace ℕ
      next now = read_from p now (n + 1) lines

-- What was read

-- the event of a turn
one_made : (line n : ℕ) (a : ActorName) (o : Outcome) →
    given_of (event_at line (record { number = n; actor = a; event = event_made o }))
    ≡ made_of (record { number = n; actor = a; outcome = o } ∷ [])
one_made line n a (Moved x) = refl
one_made line n a (Blocked want) = refl
one_made line n a Ended = refl

one_event : (line n : ℕ) (a : ActorName) (o : Outcome) →
    made_events (event_at line (record { number = n; actor = a; event = event_made o }))
    ≡ events_of (record { number = n; actor = a; outcome = o } ∷ [])
one_event line n a (Moved x) = refl
one_event line n a (Blocked want) = refl
one_event line n a Ended = refl

-- The events that are read are those of the turns, each by its actor.
pub read_made : (before : TurnsRead) (n : ℕ) (xs : List Played) →
    given_of (turns_read before n xs).events ≡ given_of before.events ++ made_of xs
read_made before n [] = sym (append-nil (given_of before.events))
read_made before n (x ∷ xs) =
    let here = event_at n (record { number = x.number; actor = x.actor; event = event_made x.outcome }) in
    read_made (with_turn before n (record { number = x.number; actor = x.actor; event = event_made x.outcome })) (n + 1) xs
    ∙ (ap (λ (ms : List Made). ms ++ made_of xs)
    (map-append (λ (g : GivenEvent). (g.actor, g.event)) before.events here
    ∙ ap (λ (ms : List Made). given_of before.events ++ ms) (one_made n x.number x.actor x.outcome))
    ∙ (append_assoc (given_of before.events) (made_of (x ∷ [])) (made_of xs)
    ∙ ap (λ (ms : List Made). given_of before.events ++ ms) (sym (filter_map-append made_by (x ∷ []) xs))))

pub read_events : (before : TurnsRead) (n : ℕ) (xs : List Played) →
    made_events (turns_read before n xs).events ≡ made_events before.events ++ events_of xs
read_events before n [] = sym (append-nil (made_events before.events))
read_events before n (x ∷ xs) =
    let here = event_at n (record { number = x.number; actor = x.actor; event = event_made x.outcome }) in
    read_events (with_turn before n (record { number = x.number; actor = x.actor; event = event_made x.outcome })) (n + 1) xs
    ∙ (ap (λ (es : List Event). es ++ events_of xs)
    (map-append (λ (g : GivenEvent). g.event) before.events here
    ∙ ap (λ (es : List Event). made_events before.events ++ es) (one_event n x.number x.actor x.outcome))
    ∙ (append_assoc (made_events before.events) (events_of (x ∷ [])) (events_of xs)
    ∙ ap (λ (es : List Event). made_events before.events ++ es) (sym (filter_map-append event_of (x ∷ []) xs))))
