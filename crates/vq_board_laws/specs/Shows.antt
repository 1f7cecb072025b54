-- What a pass shows of the host step that it runs: the answers that it may give.
-- This project's own; the answers are those of Vulkan 1.3, vkWaitSemaphores, vkGetFenceStatus,
-- vkGetSemaphoreCounterValue.
use Rattle.std.specs.Prelude.{ℕ, List, ◌≡◌, ◌<◌, ◌≤◌, ◌⊎◌, Some, None, true, false, All}
use Rattle.std.specs.List.{slice_get}
use Rattle.std.specs.Prelude.{is_some}
use Rattle.vq_model.specs.declared.plan.Answer.{Answer}
use Rattle.vq_model.specs.declared.plan.Answer.TheVariants.{Reached, Timeout, NotReady, Value}
use Rattle.vq_model.specs.declared.plan.Need.{Need}
use Rattle.vq_model.specs.declared.plan.Question.{Question}
use Rattle.vq_model.specs.declared.plan.Question.TheVariants.{Reached as AsksReached, PollAll, PollAny, Fence}
use Rattle.vq_model.specs.declared.plan.Question.TheVariants.{Value as AsksValue}
use Rattle.vq_model.specs.Plan.{Plan, asked, question, is_silent, initial, value, chain_of, resolver}
use Rattle.vq_ground.specs.Lists.{has}
use Rattle.vq_board_laws.specs.declared.view.View.{View}
use Rattle.vq_board_laws.specs.Knowledge.{IsKnownValue}
use Rattle.vq_board_laws.specs.May.{KnowsReached}
use Rattle.vq_board_laws.specs.Reached.{answer_told}

-- an operation of the chain, not above the resolver, that a step since the job's start showed unmade
pub record IsHeldUp (p : Plan) (v : View) (n : Need) : Type 0 where
  pub reaching : ℕ
  pub resolves : resolver p n.chain n.value ≡ Some reaching
  pub op : ℕ
  pub in_chain : chain_of p op ≡ Some n.chain
  pub within : value p op ≤ value p reaching
  pub unmade : has v.unmade op ≡ true

-- the pass misses the pair: it is above its initial value, and nothing resolves it or it was held up
pub record Misses (p : Plan) (v : View) (n : Need) : Type 0 where
  pub above : initial p n.chain < n.value
  pub unreached : (resolver p n.chain n.value ≡ None) ⊎ IsHeldUp p v n

-- the least operation of the chain above the value was shown unmade since the job's start
pub record IsNextUnmade (p : Plan) (v : View) (t n : ℕ) : Type 0 where
  pub op : ℕ
  pub in_chain : chain_of p op ≡ Some t
  pub above : n < value p op
  pub least : (e : ℕ) → chain_of p e ≡ Some t → n < value p e → value p op ≤ value p e
  pub unmade : has v.unmade op ≡ true

pub record ShowsValue (p : Plan) (v : View) (t n : ℕ) : Type 0 where
  pub known : IsKnownValue p v.known t n
  pub next : ((e : ℕ) → chain_of p e ≡ Some t → value p e ≤ n) ⊎ IsNextUnmade p v t n

-- one of the pairs is known reached, or missed
pub record OneOf (P : Need → Type 0) (ns : List Need) : Type 0 where
  pub place : ℕ
  pub pair : Need
  pub is : slice_get ns place ≡ Some pair
  pub holds : P pair

-- the pass shows this answer of a job with this question
abbrev pub ShowsBy : Plan → View → ℕ → Question → Answer → Type 0
ShowsBy p v j AsksReached Reached = Unit {0}
ShowsBy p v j PollAll Reached = All (KnowsReached p v.known) (asked p j)
ShowsBy p v j PollAny Reached = OneOf (KnowsReached p v.known) (asked p j)
ShowsBy p v j Fence Reached = All (KnowsReached p v.known) (asked p j)
ShowsBy p v j PollAll Timeout = OneOf (Misses p v) (asked p j)
ShowsBy p v j PollAny Timeout = All (Misses p v) (asked p j)
ShowsBy p v j Fence NotReady = OneOf (Misses p v) (asked p j)
ShowsBy p v j (AsksValue t) (Value n) = ShowsValue p v t n
ShowsBy p v j other answer = ⊥

-- the host's pass may answer: it runs the step, which asks and isn't answered, and it shows the answer
pub record MayAnswer (p : Plan) (v : View) (j : ℕ) (a : Answer) : Type 0 where
  pub host : v.role ≡ 0
  pub runs : v.runs ≡ Some j
  pub asks : is_silent (question p j) ≡ false
  pub unanswered : is_some (answer_told v.told j) ≡ false
  pub shows : ShowsBy p v j (question p j) a
