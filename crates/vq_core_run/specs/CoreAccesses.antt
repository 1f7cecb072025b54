-- What an access over a core means, and what its calls need of a true place. This project's own.
use Rattle.std.specs.Prelude.{ℕ, ◌≡◌, true, List, [], ◌∷◌, ◌++◌, Some, None}
use Rattle.std.specs.Borrow.{GName}
use Rattle.vq_model.specs.declared.script.ActorName.{ActorName}
use Rattle.vq_model.specs.declared.plan.Event.{Event}
use Rattle.vq_turns.specs.declared.outcome.Outcome.{Outcome}
use Rattle.vq_turns.specs.declared.outcome.Outcome.TheVariants.{Blocked}
use Rattle.vq_turns.specs.Turns.{Place, collected}
use Rattle.vq_turns.specs.Wants.{IsNotSo}
use Rattle.vq_actor.specs.Meanings.{Meaning, Recent, Other, Collected, FoundAt}
use Rattle.vq_core.specs.CoreState.{Course, world}
use Rattle.vq_core_run.specs.declared.core_access.Last.{Last}
use Rattle.vq_core_run.specs.declared.core_access.Last.TheVariants as last_as

-- Where the last call was a collection that found nothing, there is nothing to collect on its chain.
abbrev pub IsEmptied : Course → Recent → Type 0
IsEmptied c recent = (t : ℕ) → recent ≡ Collected t → collected c.plan (world c) t ≡ None

abbrev pub recent_of : Last → Recent
recent_of last_as.Other = Other
recent_of (last_as.Collected t) = Collected t
recent_of (last_as.FoundAt k e q) = FoundAt k e q

-- an access of an actor over a core with this plan and history
abbrev pub meaning_of : List GName → Course → ActorName → Place → Recent → Meaning
meaning_of lenders c a x recent =
    record {
      plan = c.plan;
      actor = a;
      place = x;
      recent = recent;
      state = Some (world c);
      noted = λ event. true;
      events = c.history;
      steps = (0, 0);
      lenders = lenders;
    }

-- a want isn't so; of an event nothing is shown beyond that it is noted
abbrev pub shown_by : Course → Outcome → ℕ × ℕ → Type 0
shown_by c (Blocked want) since = IsNotSo (world c) want
shown_by c other since = Unit {0}

-- one event more
abbrev pub with_event : Course → Event → Course
with_event c event = record c { history = c.history ++ event ∷ [] }
