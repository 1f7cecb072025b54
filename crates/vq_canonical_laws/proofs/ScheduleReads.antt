-- The canonical lines of a schedule are read.
use Rattle.std.proofs.Common.{◌≡◌, ℕ, ◌+◌, ◌<◌, ◌≤◌, ◌^◌, Bool, true, false, cond, ◌&&◌, List, [], ◌∷◌, ◌++◌, append_assoc, append-nil, length, length-append, map, replicate, Option, Some, None, Ok, Err, option_map, refl, sym, ap, ◌∙◌, subst, arith}
use Rattle.std.specs.Prelude.{codes, nat_lt, is_some, sum, Result}
use Rattle.std.specs.List.{AllByRecursion as Every, list_all, join_with_byte, slice_get}
use Rattle.std.specs.Option.{option_map_or}
use Rattle.std.specs.Str.{bytes_eq}
use Rattle.std.specs.Fmt.{decimal}
use Rattle.std.proofs.lemmas.Bool.{and_parts, and_from, or_from, lt-ltb, ltb-false}
use Rattle.std.proofs.lemmas.List.{length-replicate}
use Rattle.vq_ground.proofs.Tests.{not_below_test}
use Rattle.vq_model.specs.declared.statement.FaultKind.{FaultKind}
use Rattle.vq_model.specs.declared.statement.FaultKind.TheVariants.{Syntax}
use Rattle.vq_model.specs.declared.statement.Form.{Form}
use Rattle.vq_model.specs.declared.statement.Form.TheVariants.{Plain, Scheduled}
use Rattle.vq_model.specs.declared.statement.Line.{Line}
use Rattle.vq_model.specs.declared.statement.LineForm.TheVariants.{ScheduleLine, TurnLine, TurnsLine}
use Rattle.vq_model.specs.declared.statement.Section.TheVariants.{InSchedule}
use Rattle.vq_model.specs.declared.statement.Statement.TheVariants.{BeginSchedule, TakeTurns}
use Rattle.vq_model.specs.declared.script.ActorName.{ActorName}
use Rattle.vq_model.specs.declared.script.ActorName.TheVariants.{Host as HostActor, Submit as SubmitActor, Ring as RingActor}
use Rattle.vq_model.specs.declared.script.Queue.{Queue}
use Rattle.vq_model.specs.declared.script.Script.{Script}
use Rattle.vq_model.specs.declared.script.Turn.{Turn}
use Rattle.vq_model.specs.Canonical.{Turns, turns_words}
use Rattle.vq_model.specs.Context.{section, open_batch, some, is_threaded, turns_of}
use Rattle.vq_model.specs.Limits.{limits_of}
use Rattle.vq_model.specs.LineFaults.{ends_early}
use Rattle.vq_model.specs.Meaning.{actor_at, is_actor, of_two}
use Rattle.vq_model.specs.Reading.{with_line, read_statement, read_lines, go_on}
use Rattle.vq_model.specs.Context.{number_at, part_of}
use Rattle.vq_model.specs.Naming.{actor_word}
use Rattle.vq_canonical_laws.proofs.SaidContext.{most_before}
use Rattle.vq_canonical_laws.proofs.FollowingTurns.{queue_said, threaded_said, turns_said}
use Rattle.vq_canonical_laws.proofs.JoinedTurns.{AreOf, expanded}
use Rattle.vq_canonical_laws.proofs.LineTests.{PassesTests, read_tested}
use Rattle.vq_canonical_laws.proofs.LineWords.{ReadsAs, words_plain, words_of_two, form_in, form_outside}
use Rattle.vq_canonical_laws.proofs.NamedParts.{AreNamed, name_word, position_of_both}
use Rattle.vq_canonical_laws.proofs.ScheduleParts.{IsActorIn, SaySchedule, a_turn, schedule_goes_on, scheduled_script}
use Rattle.vq_canonical_laws.proofs.ScriptParts.{Parts, Say, Told, OpenLines, part_of_batch}
use Rattle.vq_canonical_laws.proofs.WrittenNumbers.{decimal_back, decimal_word}
use Rattle.vq_canonical_laws.proofs.WrittenTexts.{are_text_words, is_text_word, is_word_byte, words_back}

-- The line that begins the schedule is read.
pub schedule_reads : (before : List Line) (p : Parts) → Say before p → p.batch ≡ None →
    ReadsAs Scheduled before (codes "schedule" ∷ []) BeginSchedule
schedule_reads before p h closed =
    let opened : some (λ s. nat_lt 0 (part_of s)) (open_batch before) ≡ false =
    subst (λ (b : Option Told). OpenLines b (open_batch before)) closed h.opened in
    let tests : PassesTests Scheduled before (codes "schedule" ∷ []) ScheduleLine BeginSchedule =
    record {
      found =
          form_outside Scheduled before (codes "schedule" ∷ []) (Some ScheduleLine)
          (h.part ∙ ap part_of_batch closed) refl refl;
      plain = refl;
      shaped = refl;
      in_order = or_from (some (λ s. nat_lt 0 (part_of s)) (open_batch before)) false opened refl;
      numeric = refl;
      known = refl;
      fresh = refl;
      said = refl;
      ranged = refl;
      apart = refl;
      limited = refl;
    } in
    record {
      are_words = refl;
      reads = λ n. read_tested Scheduled before n (codes "schedule") [] ScheduleLine BeginSchedule tests;
    }

-- what the word of an actor passes
record IsActorWord (before : List Line) (word : List ℕ) (a : ActorName) : Type 0 where
  text : is_text_word word ≡ true
  shaped : is_actor word ≡ true
  known : actor_at (number_at before) word ≡ Some a

-- a name behind a letter and a colon is a word
marked_word : (letter : ℕ) (name : List ℕ) → is_word_byte letter ≡ true → is_text_word name ≡ true →
    is_text_word (letter ∷ 58 ∷ name) ≡ true
marked_word letter name l w =
    let word : List ℕ = letter ∷ 58 ∷ name in
    and_from (nat_lt 0 (length word)) (list_all is_word_byte word)
    (lt-ltb 0 (length word) (omega arith))
    (and_from (is_word_byte letter) (list_all is_word_byte (58 ∷ name)) l
    (and_parts (nat_lt 0 (length name)) (list_all is_word_byte name) w).1)

module _ (before : List Line) (p : Parts) (turns : List Turn) (h : SaySchedule before p turns)
    (named : AreNamed p) (ts : List Turn) where
  -- the script whose names are written
  abbrev whole : Script
  whole = scheduled_script p true ts

  submit_word : (q : ℕ) (x : Queue) → slice_get p.queues q ≡ Some x → is_threaded x.mode ≡ true →
      IsActorWord before (codes "S:" ++ x.name) (SubmitActor q)
  submit_word q x there threaded =
      let name = named.queue_names q x there in
      record {
        text = marked_word 83 x.name refl (name_word x.name name.0);
        shaped = name.0;
        known = ap (λ (o : Option ℕ). option_map (λ k. SubmitActor k) o)
            (threaded_said before p turns h x.name
            ∙ position_of_both (λ y. bytes_eq x.name y.name) (λ y. is_threaded y.mode) p.queues q x
            name.1 there threaded);
      }

  ring_word : (q : ℕ) (x : Queue) → slice_get p.queues q ≡ Some x →
      IsActorWord before (codes "R:" ++ x.name) (RingActor q)
  ring_word q x there =
      let name = named.queue_names q x there in
      record {
        text = marked_word 82 x.name refl (name_word x.name name.0);
        shaped = name.0;
        known = ap (λ (o : Option ℕ). option_map (λ k. RingActor k) o)
            (queue_said before p turns h x.name ∙ name.1);
      }

  actor_reads : (a : ActorName) → IsActorIn p.queues a →
      IsActorWord before (actor_word whole a) a
  actor_reads HostActor i = record { text = refl; shaped = refl; known = refl }
  actor_reads (SubmitActor q) i =
      subst (λ (o : Option Queue). IsActorWord before
      (codes "S:" ++ option_map_or (λ x. x.name) o []) (SubmitActor q)) (sym i.1)
      (submit_word q i.0 i.1 i.2)
  actor_reads (RingActor q) i =
      subst (λ (o : Option Queue). IsActorWord before
      (codes "R:" ++ option_map_or (λ x. x.name) o []) (RingActor q)) (sym i.1)
      (ring_word q i.0 i.1)

  module _ (form : Form) where
    -- the line of one turn
    turn_reads : (word : List ℕ) (a : ActorName) → IsActorWord before word a →
        length turns + 1 ≤ (limits_of p.version).turns → ReadsAs form before (word ∷ []) (TakeTurns a 1)
    turn_reads word a w few =
        let counted = turns_said before p turns h in
        let most = ap (λ (v : ℕ). (limits_of v).turns) h.version in
        let words : are_text_words (word ∷ []) ≡ true = and_from (is_text_word word) true w.text refl in
        let tests : PassesTests form before (word ∷ []) TurnLine (TakeTurns a 1) =
        record {
          found = form_in form before (word ∷ []) InSchedule h.part;
          plain = words_plain (word ∷ []) words;
          shaped = and_from (is_actor word) true w.shaped refl;
          in_order = or_from (some (λ s. nat_lt 0 (part_of s)) (open_batch before)) false h.opened refl;
          numeric = refl;
          known = λ i. is_some (w.known i) && true;
          fresh = refl;
          said = λ i. option_map (λ x. TakeTurns x 1) (w.known i);
          ranged = refl;
          apart = refl;
          limited = not_below_test (most_before before).turns
              (sum (map (λ (line : Line). turns_of line.statement) before) + 1) (omega arith);
        } in
        record {
          are_words = words;
          reads = λ n. read_tested form before n word [] TurnLine (TakeTurns a 1) tests;
        }

    -- the line of turns with their count
    counted_reads : (word : List ℕ) (a : ActorName) (count : ℕ) → IsActorWord before word a →
        0 < count → length turns + count ≤ (limits_of p.version).turns →
        ReadsAs form before (word ∷ decimal count ∷ []) (TakeTurns a count)
    counted_reads word a count w some_turns few =
        let counted = turns_said before p turns h in
        let most = ap (λ (v : ℕ). (limits_of v).turns) h.version in
        let small : count < 2 ^ 64 = omega arith in
        let words : are_text_words (word ∷ decimal count ∷ []) ≡ true =
        words_of_two word (decimal count) w.text (decimal_word count small) in
        let tests : PassesTests form before (word ∷ decimal count ∷ []) TurnsLine (TakeTurns a count) =
        record {
          found = form_in form before (word ∷ decimal count ∷ []) InSchedule h.part;
          plain = words_plain (word ∷ decimal count ∷ []) words;
          shaped = and_from (is_actor word) true w.shaped refl;
          in_order = or_from (some (λ s. nat_lt 0 (part_of s)) (open_batch before)) false h.opened refl;
          numeric = λ i. is_some (decimal_back count small i) && true;
          known = λ i. is_some (w.known i) && true;
          fresh = refl;
          said = λ i. of_two (λ x k. TakeTurns x k) (w.known i) (decimal_back count small i);
          ranged = lt-ltb 0 count some_turns;
          apart = refl;
          limited = not_below_test (most_before before).turns
              (sum (map (λ (line : Line). turns_of line.statement) before) + count) (omega arith);
        } in
        record {
          are_words = words;
          reads =
              λ n. read_tested form before n word (decimal count ∷ []) TurnsLine (TakeTurns a count)
              tests;
        }

    -- The canonical line of turns is read.
    pub turns_read : (a : ActorName) (count : ℕ) → IsActorIn p.queues a → 0 < count →
        length turns + count ≤ (limits_of p.version).turns →
        ReadsAs form before (turns_words whole (a, count)) (TakeTurns a count)
    turns_read a count i some_turns few = by_count (nat_lt 1 count) refl
      where
        word : List ℕ
        word = actor_word whole a

        by_count : (b : Bool) → nat_lt 1 count ≡ b →
            ReadsAs form before (cond b (word ∷ decimal count ∷ []) (word ∷ [])) (TakeTurns a count)
        by_count true e = counted_reads word a count (actor_reads a i) some_turns few
        by_count false e =
            let l = ltb-false 1 count e in
            let one : 1 ≡ count = omega arith in
            subst (λ (k : ℕ). ReadsAs form before (word ∷ []) (TakeTurns a k)) one
            (turn_reads word a (actor_reads a i) (omega arith))

-- Turns are read, up to the end of the text.
pub record AreTaken (form : Form) (before : List Line) (n : ℕ) (p : Parts) (turns ts : List Turn)
    (js : List Turns) : Type 0 where
  pub are_words : list_all are_text_words (map (turns_words (scheduled_script p true ts)) js) ≡ true
  pub all : List Line
  pub reads : read_lines form before n
      (map (join_with_byte 32) (map (turns_words (scheduled_script p true ts)) js)) ≡ Ok all
  pub say : SaySchedule all p (turns ++ expanded js)

-- a text may end in the schedule
may_end : (form : Form) (before : List Line) → section before ≡ InSchedule →
    ends_early form before ≡ false
may_end form before e = by_form form
  where
    by_form : (f : Form) → ends_early f before ≡ false
    by_form Plain = rw e refl
    by_form Scheduled = rw e refl

pub all_turns_read : (form : Form) (before : List Line) (n : ℕ) (p : Parts) (turns ts : List Turn)
    (js : List Turns) → SaySchedule before p turns → AreNamed p → Every (AreOf p.queues) js →
    length turns + length (expanded js) ≤ (limits_of p.version).turns → AreTaken form before n p turns ts js
all_turns_read form before n p turns ts [] h named all few =
    record {
      are_words = refl;
      all = before;
      reads =
          ap (λ (b : Bool). cond {A = Result (List Line) (ℕ × FaultKind)} b (Err (n, Syntax))
          (Ok before)) (may_end form before h.part);
      say = subst (SaySchedule before p) (sym (append-nil turns)) h;
    }
all_turns_read form before n p turns ts ((a, count) ∷ js) h named all few =
    let s0 : Script = scheduled_script p true ts in
    let more : List Turn = replicate count (a_turn a) in
    let long = length-append more (expanded js) in
    let counted = length-replicate count (a_turn a) in
    let longer = length-append turns more in
    let line = turns_read before p turns h named ts form a count all.0.0 all.0.1 (omega arith) in
    let now : List Line = with_line before n (TakeTurns a count) in
    let rest =
    all_turns_read form now (n + 1) p (turns ++ more) ts js
    (schedule_goes_on before n p turns a count h) named all.1 (omega arith) in
    record {
      are_words =
          and_from (are_text_words (turns_words s0 (a, count)))
          (list_all are_text_words (map (turns_words s0) js)) line.are_words rest.are_words;
      all = rest.all;
      reads =
          ap (λ (r : Result (List Line) FaultKind). go_on n
          (λ ls. read_lines form ls (n + 1)
          (map (join_with_byte 32) (map (turns_words s0) js))) r)
          (ap (read_statement form before n) (words_back (turns_words s0 (a, count)) line.are_words)
          ∙ line.reads n)
          ∙ rest.reads;
      say = subst (SaySchedule rest.all p) (append_assoc turns more (expanded js)) rest.say;
    }
