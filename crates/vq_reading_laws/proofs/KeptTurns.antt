-- The turns of lines that were read, and whether a schedule stands in them.
use Rattle.std.proofs.Common.{◌≡◌, ℕ, Bool, true, false, ◌||◌, List, [], ◌∷◌, ◌++◌, length, map, replicate, zero, suc, refl, sym, ap, ◌∙◌, arith, length-append}
use Rattle.std.specs.List.{AllByRecursion as Every, flat_map, fold}
use Rattle.std.proofs.lemmas.List.{length-replicate}
use Rattle.std.proofs.lemmas.List.Sums.{sum_by-cons}
use Rattle.std.proofs.lemmas.Bool.{false≢true, or_parts}
use Rattle.vq_ground.proofs.Every.{every_append}
use Rattle.vq_model.specs.declared.statement.Line.{Line}
use Rattle.vq_model.specs.declared.statement.Statement.{Statement}
use Rattle.vq_model.specs.declared.statement.Statement.TheVariants.{HasVersion, DeclareBuffer, DeclareSemaphore, DeclareQueue, BeginBatch, AddWait, AddCommand, AddSignal, AddFence, EndBatch, BeginSchedule, TakeTurns, TakeHostStep}
use Rattle.vq_model.specs.declared.script.Turn.{Turn}
use Rattle.vq_model.specs.Context.{some, turns_of}
use Rattle.vq_model.specs.ScriptOfLines.{is_schedule, turns_at}
use Rattle.vq_reading_laws.proofs.LineFacts.{IsActorOf, turns_before}
use Rattle.vq_reading_laws.proofs.LinePushes.{a_line}
use Rattle.vq_reading_laws.proofs.Standing.{Declarations, Where, is_outside, is_inside, in_schedule, where_after, Stands, AllStand}

-- a turn of an actor of these declarations
abbrev pub IsTurnOf : Declarations → Turn → Type 0
IsTurnOf d t = IsActorOf d.modes t.actor

-- whether a place is in the schedule
abbrev pub is_at_schedule : Where → Bool
is_at_schedule in_schedule = true
is_at_schedule other = false

-- how many turns lines give
line_counted : (n : ℕ) (s : Statement) → length (turns_at (a_line n s)) ≡ turns_of s
line_counted n (TakeTurns actor count) = length-replicate count (record { line = n; actor = actor })
line_counted n other = refl

pub turns_counted : (lines : List Line) → length (flat_map turns_at lines) ≡ turns_before lines
turns_counted [] = refl
turns_counted (line ∷ lines) =
    let here = line_counted line.number line.statement in
    let more = turns_counted lines in
    let both = length-append (turns_at line) (flat_map turns_at lines) in
    let all = sum_by-cons (λ (x : ℕ). x) (turns_of line.statement)
    (map (λ (l : Line). turns_of l.statement) lines) in
    omega arith

module _ (d : Declarations) where
  repeated : (n : ℕ) (t : Turn) → IsTurnOf d t → Every (IsTurnOf d) (replicate n t)
  repeated zero t h = tt
  repeated (suc n) t h = (h, repeated n t h)

  -- the turns of a line are of actors
  line_turns : (n : ℕ) (was : Where) (s : Statement) → Stands d was s →
      Every (IsTurnOf d) (turns_at (a_line n s))
  line_turns n in_schedule (TakeTurns actor count) h =
      repeated count (record { line = n; actor = actor }) h
  line_turns n is_outside (TakeTurns actor count) h = absurd h
  line_turns n (is_inside q w g k) (TakeTurns actor count) h = absurd h
  line_turns n was other h = tt

  pub turns_kept : (was : Where) (lines : List Line) → AllStand d was lines →
      Every (IsTurnOf d) (flat_map turns_at lines)
  turns_kept was [] a = tt
  turns_kept was (line ∷ lines) a =
      every_append (IsTurnOf d) (turns_at line) (flat_map turns_at lines)
      (line_turns line.number was line.statement a.0)
      (turns_kept (where_after was line.statement) lines a.1)

  -- A line leads into the schedule where it begins it, or stands in it.
  leads_into : (was : Where) (s : Statement) → Stands d was s →
      is_at_schedule (where_after was s) ≡ (is_at_schedule was || is_schedule s)
  leads_into is_outside (HasVersion version) h = refl
  leads_into is_outside (DeclareBuffer name size) h = refl
  leads_into is_outside (DeclareSemaphore name kind) h = refl
  leads_into is_outside (DeclareQueue name mode) h = refl
  leads_into is_outside (BeginBatch q) h = refl
  leads_into is_outside (TakeHostStep step) h = refl
  leads_into is_outside BeginSchedule h = refl
  leads_into (is_inside q w g k) (AddWait pair from) h = refl
  leads_into (is_inside q w g k) (AddCommand c) h = refl
  leads_into (is_inside q w g k) (AddSignal pair) h = refl
  leads_into (is_inside q w g k) (AddFence f) h = refl
  leads_into (is_inside q w g k) EndBatch h = refl
  leads_into in_schedule (TakeTurns actor count) h = refl
  leads_into was s h = absurd h

  -- So lines lead into it where one of them begins it.
  pub led_into : (was : Where) (lines : List Line) → AllStand d was lines →
      is_at_schedule (fold (λ was (l : Line). where_after was l.statement) was lines)
      ≡ (is_at_schedule was || some is_schedule lines)
  led_into was [] a = sym (or_nothing (is_at_schedule was))
    where
      or_nothing : (b : Bool) → (b || false) ≡ b
      or_nothing true = refl
      or_nothing false = refl
  led_into was (line ∷ lines) a =
      led_into (where_after was line.statement) lines a.1
      ∙ (ap (λ (b : Bool). b || some is_schedule lines) (leads_into was line.statement a.0)
      ∙ joined (is_at_schedule was) (is_schedule line.statement) (some is_schedule lines))
    where
      joined : (a b c : Bool) → ((a || b) || c) ≡ (a || (b || c))
      joined true b c = refl
      joined false b c = refl

  -- no line outside the schedule takes a turn
  no_turn : (n : ℕ) (was : Where) (s : Statement) → Stands d was s → is_at_schedule was ≡ false →
      turns_at (a_line n s) ≡ []
  no_turn n in_schedule s h e = absurd (false≢true (sym e))
  no_turn n is_outside (TakeTurns actor count) h e = absurd h
  no_turn n (is_inside q w g k) (TakeTurns actor count) h e = absurd h
  no_turn n was other h e = refl

  -- Without a schedule there are no turns.
  pub no_turns : (was : Where) (lines : List Line) → AllStand d was lines →
      is_at_schedule was ≡ false → some is_schedule lines ≡ false → flat_map turns_at lines ≡ []
  no_turns was [] a e f = refl
  no_turns was (line ∷ lines) a e f =
      let parts = or_parts (is_schedule line.statement) (some is_schedule lines) f in λ i.
      no_turn line.number was line.statement a.0 e i
      ++ no_turns (where_after was line.statement) lines a.1
      (leads_into was line.statement a.0 ∙ (λ j. e j || parts.0 j)) parts.1 i
