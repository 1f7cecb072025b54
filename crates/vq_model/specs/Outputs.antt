-- What a run of a plan may write when its jobs run beside one another.
-- Vulkan 1.3, "Host Operations on Semaphores", "Fences".
use Rattle.std.specs.Prelude.{List, ◌∷◌, ℕ, Option, ◌≡◌, ◌<◌, Some, if◌then◌else◌, []}
use Rattle.std.specs.Prelude.{◌≤◌, ◌⊎◌, true, ◌++◌, not}
use Rattle.std.specs.Prelude.{length, filter, map}
use Rattle.std.specs.Option.{option_to_list}
use Rattle.std.specs.List.{range_with_len}
use Rattle.vq_model.specs.declared.plan.Need.{Need}
use Rattle.vq_model.specs.declared.plan.Answer.{Answer}
use Rattle.vq_model.specs.declared.plan.Question.{Question}
use Rattle.vq_model.specs.declared.plan.Question.TheVariants.{Reached as AsksReached, PollAll, PollAny, Fence}
use Rattle.vq_model.specs.declared.plan.Question.TheVariants.{Value as AsksValue}
use Rattle.vq_model.specs.declared.plan.Answer.TheVariants.{Reached, Value, Timeout, NotReady}
use Rattle.vq_model.specs.declared.plan.AnswerLine.{AnswerLine}
use Rattle.vq_model.specs.Plan.{Plan, initial, resolver, asked, waits_for_any, chain_of, value, question, needs}
use Rattle.vq_model.specs.Plan.{is_silent}
use Rattle.vq_model.specs.Windows.{IsSurelyReached, IsMadeWith, IsPossiblyReached}
use Rattle.vq_model.specs.OutputText.{answer_at, answer_text, buffers_text}
use Rattle.vq_model.specs.SlowRun.{final}

-- an element of a list
pub data IsIn {X : Type 0} (x : X) : List X → Type 0 where
  here : {xs : List X} → IsIn x (x ∷ xs)
  there : {y : X} {xs : List X} → IsIn x xs → IsIn x (y ∷ xs)

-- A host step, its answer, and, where the step asks for any of several pairs and is answered `ok`,
-- the pair that is chosen.
pub record Answered : Type 0 where
  pub job : ℕ
  pub answer : Answer
  pub pick : Option Need

-- What an answer shows

-- an operation that reaches a pair above its initial value
pub record Resolves (p : Plan) (n : Need) (e : ℕ) : Type 0 where
  pub above : initial p n.chain < n.value
  pub resolves : resolver p n.chain n.value ≡ Some e

-- the pairs that an `ok` shows reached
abbrev pub shown_pairs : Plan → Answered → Question → List Need
shown_pairs p told AsksReached = if waits_for_any p told.job then option_to_list told.pick else []
shown_pairs p told PollAll = asked p told.job
shown_pairs p told PollAny = option_to_list told.pick
shown_pairs p told Fence = asked p told.job
shown_pairs p told other = []

-- an operation that a value of a read shows
abbrev pub ShowsValue : Plan → Question → ℕ → ℕ → Type 0
ShowsValue p (AsksValue t) n e = (chain_of p e ≡ Some t) × (initial p t < n) × (value p e ≡ n)
ShowsValue p other n e = ⊥

-- an operation that an answer shows made
abbrev pub ShowsBy : Plan → Answered → ℕ → Question → Answer → Type 0
ShowsBy p told e q Reached = (n : Need) × IsIn n (shown_pairs p told q) × Resolves p n e
ShowsBy p told e q (Value n) = ShowsValue p q n e
ShowsBy p told e q other = ⊥

abbrev pub Shows : Plan → Answered → ℕ → Type 0
Shows p told e = ShowsBy p told e (question p told.job) told.answer

-- The numbers of which the low end of a window is the greatest: the floor's, and what earlier
-- answers carry.
pub data IsShownReached (p : Plan) (before : List Answered) (h t : ℕ) : ℕ → Type 0 where
  from_floor : {n : ℕ} → IsSurelyReached p h t n → IsShownReached p before h t n
  carried : {f : ℕ} (told : Answered) (e : ℕ) → IsIn told before → Shows p told e →
      IsMadeWith p e f → chain_of p f ≡ Some t → IsShownReached p before h t (value p f)

-- What may be answered

abbrev pub AtMostCeiling : Plan → ℕ → Need → Type 0
AtMostCeiling p h n = (m : ℕ) × IsPossiblyReached p h n.chain m × (n.value ≤ m)

abbrev pub IsAboveLow : Plan → List Answered → ℕ → Need → Type 0
IsAboveLow p before h n = (m : ℕ) → IsShownReached p before h n.chain m → m < n.value

-- a value that a read may give
pub record MayRead (p : Plan) (before : List Answered) (h t n : ℕ) : Type 0 where
  pub known : (n ≡ initial p t) ⊎ ((e : ℕ) × (chain_of p e ≡ Some t) × (value p e ≡ n))
  pub low : (m : ℕ) → IsShownReached p before h t m → m ≤ n
  pub high : (m : ℕ) × IsPossiblyReached p h t m × (n ≤ m)

-- one of these pairs is chosen, and its value may have been reached
abbrev pub MayPick : Plan → Answered → List Need → Type 0
MayPick p told ns = (n : Need) × (told.pick ≡ Some n) × IsIn n ns × AtMostCeiling p told.job n

-- What a step may be answered after these answers.
abbrev pub AllowedBy : Plan → List Answered → Answered → Question → Answer → Type 0
AllowedBy p before told AsksReached Reached = waits_for_any p told.job ≡ true →
    MayPick p told (needs p told.job)
AllowedBy p before told PollAll Reached = (n : Need) → IsIn n (asked p told.job) →
    AtMostCeiling p told.job n
AllowedBy p before told PollAny Reached = MayPick p told (asked p told.job)
AllowedBy p before told Fence Reached = (n : Need) → IsIn n (asked p told.job) →
    AtMostCeiling p told.job n
AllowedBy p before told PollAll Timeout =
    (n : Need) × IsIn n (asked p told.job) × IsAboveLow p before told.job n
AllowedBy p before told PollAny Timeout = (n : Need) → IsIn n (asked p told.job) →
    IsAboveLow p before told.job n
AllowedBy p before told Fence NotReady =
    (n : Need) × IsIn n (asked p told.job) × IsAboveLow p before told.job n
AllowedBy p before told (AsksValue t) (Value n) = MayRead p before told.job t n
AllowedBy p before told other answer = ⊥

abbrev pub Allowed : Plan → List Answered → Answered → Type 0
Allowed p before told = AllowedBy p before told (question p told.job) told.answer

-- each answer is allowed after those before it
abbrev pub AllAllowed : Plan → List Answered → List Answered → Type 0
AllAllowed p before [] = Unit {0}
AllAllowed p before (told ∷ rest) = Allowed p before told × AllAllowed p (before ++ told ∷ []) rest

-- Outputs

-- the host steps with a question, in the order of the script
abbrev pub asking : Plan → List ℕ
asking p = filter (λ j. not (is_silent (question p j))) (range_with_len 0 (length p.jobs))

abbrev pub answer_lines : Plan → List Answered → List AnswerLine
answer_lines p tolds = map (λ told. answer_at p told.job told.answer) tolds

-- The texts that a run of a plan may write.
pub record IsOutput (p : Plan) (text : List ℕ) : Type 0 where
  pub answers : List Answered
  pub in_order : map (λ told. told.job) answers ≡ asking p
  pub allowed : AllAllowed p [] answers
  pub spelled : text ≡ answer_text (answer_lines p answers)
      ++ buffers_text p.script.buffers (final p)
