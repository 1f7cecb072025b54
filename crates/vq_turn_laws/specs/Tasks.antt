-- Lists of tasks. This project's own.
use Rattle.std.specs.Prelude.{ℕ, ◌≡◌, Bool, true, false, List, [], ◌∷◌, ◌++◌, map, ◌⊎◌}
use Rattle.vq_model.specs.declared.script.ActorName.{ActorName}
use Rattle.vq_model.specs.declared.plan.Need.{Need}
use Rattle.vq_model.specs.declared.plan.Event.{Event}
use Rattle.vq_model.specs.declared.plan.Event.TheVariants.{Submit as Submits, Take as Takes, Release as Releases}
use Rattle.vq_model.specs.declared.plan.Event.TheVariants.{Bind as Binds, Start as Starts, Apply as Applies}
use Rattle.vq_model.specs.declared.plan.Event.TheVariants.{Signal as Signals, Finish as Finishes, Answer as AnswersAs}
use Rattle.vq_model.specs.declared.plan.Event.TheVariants.{Refer, Look, Unref, Complete, Free}
use Rattle.vq_model.specs.Plan.{Plan}
use Rattle.vq_turns.specs.declared.task.Task.{Task}
use Rattle.vq_turns.specs.declared.task.Task.TheVariants.{AwaitNeeds, Submit, Take, Release, Bind, Start, Apply, Signal}
use Rattle.vq_turns.specs.declared.task.Task.TheVariants.{Compare, Answer, Finish}
use Rattle.vq_turns.specs.Programs.{program}

-- Lists

abbrev pub Each : (Task → Type 0) → List Task → Type 0
Each P [] = Unit {0}
Each P (t ∷ ts) = P t × Each P ts

abbrev pub Among : Task → List Task → Type 0
Among t [] = ⊥
Among t (x ∷ xs) = (x ≡ t) ⊎ Among t xs

-- the comparisons for the values that are asked for
abbrev pub compares : List Need → List Task
compares ns = map (λ n. Compare n.chain n.value) ns

-- a list turned round onto another
abbrev pub onto : List Task → List Task → List Task
onto [] before = before
onto (t ∷ ts) before = onto ts (t ∷ before)

-- What stands next

-- the jobs that tasks finish, in order
abbrev pub finishes : List Task → List ℕ
finishes [] = []
finishes (Finish j ∷ ts) = j ∷ finishes ts
finishes (other ∷ ts) = finishes ts

-- the needs for which the next task waits, and whether it waits for needs
abbrev pub waited_now : List Task → List Need
waited_now (AwaitNeeds ns ∷ ts) = ns
waited_now other = []

abbrev pub is_waiting : List Task → Bool
is_waiting (AwaitNeeds ns ∷ ts) = true
is_waiting other = false

-- the comparisons that were done last, in order: the chains and the values
abbrev pub compared_now : List Task → List (ℕ × ℕ)
compared_now (Compare t v ∷ ts) = compared_now ts ++ (t, v) ∷ []
compared_now other = []

-- whether the next task compares or answers
abbrev pub is_asking : List Task → Bool
is_asking (Compare t v ∷ ts) = true
is_asking (Answer j asks ∷ ts) = true
is_asking other = false

-- Events of tasks

-- whether an event is that of a task
abbrev pub IsOf : Event → Task → Type 0
IsOf (Submits i) (Submit j) = i ≡ j
IsOf (Takes f q fresh) (Take e t) = f ≡ e
IsOf (Releases i) (Release j) = i ≡ j
IsOf (Binds f q) (Bind e) = f ≡ e
IsOf (Starts i) (Start j) = i ≡ j
IsOf (Applies i d) (Apply j c) = d ≡ c
IsOf (Signals f) (Signal e) = f ≡ e
IsOf (AnswersAs i a) (Answer j asks) = i ≡ j
IsOf (Finishes i) (Finish j) = i ≡ j
IsOf other task = ⊥

-- two tasks have no event in common
abbrev pub Differ : Task → Task → Type 0
Differ t u = (x : Event) → IsOf x t → IsOf x u → ⊥

-- no two of these tasks have
abbrev pub AreApart : List Task → Type 0
AreApart [] = Unit {0}
AreApart (t ∷ ts) = ((u : Task) → Among u ts → Differ t u) × AreApart ts

-- whether an event is one of an actor's: that of a task of its program, one on its references, or collection,
-- which is everybody's
abbrev pub IsEventOf : Plan → ActorName → Event → Type 0
IsEventOf p a (Refer b q e) = b ≡ a
IsEventOf p a (Look b q e) = b ≡ a
IsEventOf p a (Unref b q e) = b ≡ a
IsEventOf p a (Complete e) = Unit {0}
IsEventOf p a (Free q) = Unit {0}
IsEventOf p a x = (t : Task) × Among t (program p a) × IsOf x t
