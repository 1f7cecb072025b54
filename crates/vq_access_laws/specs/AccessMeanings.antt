-- What an access over a board means. This project's own.
use Rattle.std.specs.Prelude.{Bool, true, false, List, ◌∷◌, map, reverse, length, None}
use Rattle.std.specs.Borrow.{GName}
use Rattle.atomic_table.specs.Seated.{TableId}
use Rattle.vq_model.specs.declared.script.ActorName.{ActorName}
use Rattle.vq_model.specs.declared.plan.Need.{Need}
use Rattle.vq_model.specs.declared.plan.Event.{Event}
use Rattle.vq_model.specs.declared.plan.Event.TheVariants.{Answer}
use Rattle.vq_model.specs.Plan.{Plan}
use Rattle.vq_turns.specs.Turns.{Place}
use Rattle.vq_actor.specs.Meanings.{Meaning, Recent, FoundAt}
use Rattle.vq_board_laws.specs.declared.view.Told.{Told}
use Rattle.vq_board_laws.specs.declared.view.View.{View}
use Rattle.vq_access_laws.specs.Causes.{Refusals}
use Rattle.vq_access_laws.specs.TruePasses.{is_for}

-- a table as a list of numbers, which no other table has
abbrev pub names_of : TableId → List GName
names_of z = z.words ∷ z.slots ∷ z.views_name ∷ z.atom ∷ z.block ∷ z.offset ∷ z.slot_names

abbrev pub is_answer : Event → Bool
is_answer (Answer j a) = true
is_answer other = false

-- the answers that a pass told, in the order in which they were given
abbrev pub answers_told : List Told → List Event
answers_told told = map (λ x. Answer x.job x.answer) (reverse told)

-- The plan, an actor at its place, the last call, the pass and the refusals: no state is told, and the answers are
-- noted.
abbrev pub meaning_of : List GName → Plan → ActorName → Place → Recent → View → Refusals → Meaning
meaning_of lenders p a x recent v refusals =
    record {
      plan = p;
      actor = a;
      place = x;
      recent = recent;
      state = None;
      noted = is_answer;
      events = answers_told v.told;
      steps = (length v.steps, refusals.count);
      lenders = lenders;
    }

-- What was found last for a need of the next wait, if anything, is a point that may be, with the operation that
-- resolves the need.
abbrev pub is_found : Plan → List Need → Recent → Bool
is_found p ns (FoundAt k e q) = is_for p ns (record { need = k; point = q; op = e })
is_found p ns _ = true
