-- Small texts with a schedule, read: each line holds by evaluation.
use Rattle.std.proofs.Common.{ℕ, Ok, Err, List, ◌≡◌, [], refl, ◌∷◌, ◌++◌}
use Rattle.std.specs.Prelude.{Result, codes}
use Rattle.vq_model.specs.declared.statement.FaultKind.{FaultKind}
use Rattle.vq_model.specs.declared.statement.FaultKind.TheVariants.{Syntax, Number, Name, Range, Limit}
use Rattle.vq_model.specs.declared.statement.Form.TheVariants.{Scheduled}
use Rattle.vq_model.specs.declared.script.ActorName.{ActorName}
use Rattle.vq_model.specs.declared.script.ActorName.TheVariants.{Host, Submit, Ring}
use Rattle.vq_model.specs.declared.script.Script.{Script}
use Rattle.vq_model.specs.declared.script.Turn.{Turn}
use Rattle.vq_model.specs.Reading.{read_script}

-- the turns of a text's script, or its first fault
abbrev turns_read : Result Script (ℕ × FaultKind) → Result (List Turn) (ℕ × FaultKind)
turns_read (Ok script) = Ok script.turns
turns_read (Err fault) = Err fault

abbrev turns_of : List ℕ → Result (List Turn) (ℕ × FaultKind)
turns_of text = turns_read (read_script text Scheduled)

-- the same of a text that declares a threaded queue and an immediate one, then a schedule with one line
abbrev turns_in : List ℕ → Result (List Turn) (ℕ × FaultKind)
turns_in line = turns_of (codes "queue P threaded\nqueue I immediate\nschedule\n" ++ line)

abbrev turn : ℕ → ActorName → Turn
turn n actor = record { line = n; actor = actor }

no_turns : turns_of (codes "schedule") ≡ Ok []
no_turns = refl

of_each_actor :
    turns_in (codes "host # note\n\nS:P 2\nR:I 0x1\n")
    ≡ Ok (turn 4 Host ∷ turn 6 (Submit 0) ∷ turn 6 (Submit 0) ∷ turn 7 (Ring 1) ∷ [])
of_each_actor = refl

no_schedule : turns_of (codes "queue P threaded\n") ≡ Err (2, Syntax)
no_schedule = refl

three_words : turns_in (codes "host 1 2") ≡ Err (4, Syntax)
three_words = refl

no_actor : turns_in (codes "s:P") ≡ Err (4, Syntax)
no_actor = refl

no_name : turns_in (codes "S:9") ≡ Err (4, Syntax)
no_name = refl

no_count : turns_in (codes "host idle") ≡ Err (4, Number)
no_count = refl

not_threaded : turns_in (codes "S:I 0") ≡ Err (4, Name)
not_threaded = refl

not_declared : turns_in (codes "R:Q") ≡ Err (4, Name)
not_declared = refl

no_turn : turns_in (codes "S:P 0") ≡ Err (4, Range)
no_turn = refl

too_many : turns_in (codes "host\nR:P 65536") ≡ Err (5, Limit)
too_many = refl
