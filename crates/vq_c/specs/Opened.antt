-- What opening gives: a plan, a run, or the actors of one. This project's own.
use Rattle.std.specs.Prelude.{ℕ, ◌≡◌, ◌<◌, ◌≤◌, ◌+◌, ◌*◌, ◌⊎◌, List, [], length, map}
use Rattle.std.specs.Global.{Box}
use Rattle.vq_model.specs.Plan.{Plan}
use Rattle.vq_core_run.specs.Casts.{Cast, first_places, places}
use Rattle.vq_face.specs.declared.ending.Ending.{Ending}
use Rattle.vq_face.specs.declared.ending.Ending.TheVariants.{Lawful}
use Rattle.vq_face.specs.declared.reply.Reply.{Reply}
use Rattle.vq_face.specs.declared.reply.Reply.TheVariants.{NoRoom}
use Rattle.vq_face.specs.declared.verdict.Verdict.{Verdict}
use Rattle.vq_face.specs.Endings.{IsEnding, IsLawfulPlanOf, IsRefusal}
use Rattle.vq_face.specs.Kinds.{reply_code}
use Rattle.vq_face.specs.Verdicts.{verdict_of}
use Rattle.vq_c.specs.declared.object.Object.{Object}
use Rattle.vq_c.specs.declared.object.Object.TheVariants.{Plan as HoldsPlan, Run as HoldsRun, Actor as HoldsActor}
use Rattle.vq_c.specs.declared.opening.Numbered.{Numbered}
use Rattle.vq_shared_run.specs.declared.player.Player.{Player}
use Rattle.vq_shared_run.specs.Players.{actor_of, number_of}
use Rattle.vq_shared_run.specs.Shares.{AreShared}

-- a run of the lawful plan of a text, before its first turn
abbrev pub IsRunOf : List ℕ → Cast → Type 0
IsRunOf text x =
    IsLawfulPlanOf text x.course.plan × (x.course.history ≡ []) × (places x ≡ first_places)

-- the lawful plan of a text is held
abbrev pub HoldsPlanOf : List ℕ → Object → Type 0
HoldsPlanOf text o = (p : Plan) × (o ≡ HoldsPlan p) × IsLawfulPlanOf text p

-- a run of it is held
abbrev pub HoldsRunOf : List ℕ → Object → Type 0
HoldsRunOf text o = (x : Cast) × (o ≡ HoldsRun x) × IsRunOf text x

-- These are all actors of one run of the plan before their first turns, in order, each held by itself, with its number.
pub record AreActorsOf (p : Plan) (xs : List Numbered) : Type 0 where
  pub players : List (Box Player)
  pub shared : AreShared p players
  pub objects : map (λ x. x.object.value) xs ≡ map (λ y. HoldsActor y.value) players
  pub numbers : map (λ x. x.number) xs ≡ map (λ y. number_of (actor_of y.value)) players

-- The verdict is that of the text, and where it isn't lawful, what stood for the handle stays.
abbrev pub HasOpened : List ℕ → {A : Type 0} → A → A → Verdict → Type 0
HasOpened text old new v =
    (e : Ending) × IsEnding text e × (v ≡ verdict_of e) × ((e ≡ Lawful) ⊎ (new ≡ old))

-- how many numbers the actors of a plan have
abbrev pub count_of : Plan → ℕ
count_of p = 2 * length p.script.queues + 1

-- a reply as a verdict, which speaks of no line
abbrev pub verdict_by : Reply → Verdict
verdict_by r = record { code = reply_code r; first = 0; second = 0 }

-- The script is lawful and its actors were handed out; or it is lawful, and the room too small for them; or what the
-- check of the text ends with was told, or want of memory. Where none were handed out, the room stays.
abbrev pub HasShared : List ℕ → {A : Type 0} → List A → List A → ℕ → ℕ → Verdict → Type 0
HasShared text old new before needed v =
    ((p : Plan) × IsLawfulPlanOf text p × (needed ≡ count_of p) × (count_of p ≤ length old) × (v ≡ verdict_of Lawful))
    ⊎ (((p : Plan) × IsLawfulPlanOf text p × (needed ≡ count_of p) × (length old < count_of p) × (new ≡ old)
    × (v ≡ verdict_by NoRoom))
    ⊎ ((e : Ending) × IsRefusal text e × (v ≡ verdict_of e) × (new ≡ old) × (needed ≡ before)))
