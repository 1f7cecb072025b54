-- What a pass knows and has after each kind of step on points and operations, and what the step tells
-- its caller. This project's own.
use Rattle.std.specs.Prelude.{ℕ, suc, Bool, List, [], ◌∷◌, ◌++◌, length, filter, not}
use Rattle.std.specs.Prelude.{◌+◌, ◌^◌, ◌<◌, ◌==◌, ◌&&◌, ◌≡◌, ◌≢◌, ◌⊎◌, false, if◌then◌else◌}
use Rattle.atomic_table.specs.Table as Table
use Rattle.vq_ground.specs.Lists.{has}
use Rattle.vq_model.specs.declared.plan.Answer.{Answer}
use Rattle.vq_model.specs.declared.plan.Answer.TheVariants.{Reached, Timeout, NotReady, Value}
use Rattle.vq_point_laws.specs.PointWord.{parts}
use Rattle.vq_board_laws.specs.declared.view.View.{View}
use Rattle.vq_board_laws.specs.declared.view.Fact.{Fact}
use Rattle.vq_board_laws.specs.declared.view.Fact.TheVariants.{Taken, Bound, BoundTo, Made, Past}
use Rattle.vq_board_laws.specs.declared.view.LoggedBuffers.{LoggedBuffers}
use Rattle.vq_board_laws.specs.declared.view.OpState.{OpState}
use Rattle.vq_board_laws.specs.declared.view.OpState.TheVariants.{Unbound as UnboundOp, Past as PastOp}
use Rattle.vq_board_laws.specs.declared.view.OpState.TheVariants.{Bound as BoundOp}
use Rattle.vq_board_laws.specs.declared.view.Reference.{Reference}
use Rattle.vq_board_laws.specs.Knowledge.{Knows, KnowsMade}
use Rattle.vq_board_laws.specs.MayPoints.{MaySignal}
use Rattle.vq_board_laws.specs.Points.{reference, Lists, IsWord}
use Rattle.vq_board_laws.specs.Steps.{Mine, own_step}
use Rattle.vq_board_laws.specs.Words.{count_word, job_word, op_word, point_word, Carries}

-- the word of a point that carries an operation, unsignaled and without references
abbrev pub carrying_word : ℕ → ℕ
carrying_word e = e + 2 ^ 49

-- the number of an operation's state
abbrev pub op_number : OpState → ℕ
op_number UnboundOp = 0
op_number PastOp = 1
op_number (BoundOp q) = q + 2

-- What a step shows

abbrev pub op_facts : ℕ → OpState → List Fact
op_facts e UnboundOp = []
op_facts e PastOp = Past e ∷ Bound e ∷ []
op_facts e (BoundOp q) = BoundTo e q ∷ Bound e ∷ []

abbrev pub op_unmade : ℕ → OpState → List ℕ
op_unmade e UnboundOp = e ∷ []
op_unmade e other = []

-- a point's word shows its operation taken, and made where the point is signaled
abbrev pub point_facts : ℕ → List Fact
point_facts n =
    if (parts n).held
    then (if (parts n).signaled then Made (parts n).op ∷ Taken (parts n).op ∷ [] else Taken (parts n).op ∷ [])
    else []

abbrev pub point_unmade : ℕ → List ℕ
point_unmade n = if (parts n).held && not (parts n).signaled then (parts n).op ∷ [] else []

abbrev pub carries : ℕ → ℕ → Bool
carries n e = (parts n).held && ((parts n).op == e)

-- an operation that was known bound to the point, and that its word doesn't carry, is past
abbrev pub moved_on : ℕ → ℕ → List Fact → List Fact
moved_on q n [] = []
moved_on q n (BoundTo e r ∷ fs) =
    if (r == q) && not (carries n e) then Past e ∷ moved_on q n fs else moved_on q n fs
moved_on q n (f ∷ fs) = moved_on q n fs

-- Lists of points

-- without the first such reference
abbrev pub without : Reference → List Reference → List Reference
without r [] = []
without r (x ∷ xs) =
    if (x.point == r.point) && (x.op == r.op) then xs else x ∷ without r xs

abbrev pub without_point : ℕ → List Reference → List Reference
without_point q rs = filter (λ r. not (r.point == q)) rs

-- The pass after its step

-- it looked at a point
abbrev pub sees : View → ℕ → ℕ → View
sees v q n =
    record v {
      known = point_facts n ++ moved_on q n v.known ++ v.known;
      unmade = point_unmade n ++ v.unmade;
      steps = own_step (point_word q) n ∷ v.steps;
    }

-- it looked at an operation
abbrev pub recalls : View → ℕ → OpState → View
recalls v e s =
    record v {
      known = op_facts e s ++ v.known;
      unmade = op_unmade e s ++ v.unmade;
      steps = own_step (op_word e) (op_number s) ∷ v.steps;
    }

abbrev pub makes : View → ℕ → View
makes v q = record v { owned = q ∷ v.owned; steps = own_step count_word q ∷ v.steps }

abbrev pub assigns : View → ℕ → ℕ → View
assigns v q e =
    record v {
      known = Taken e ∷ v.known;
      carrying = reference q e ∷ v.carrying;
      steps = own_step (point_word q) (carrying_word e) ∷ v.steps;
    }

abbrev pub binds : View → ℕ → ℕ → View
binds v e q =
    record v {
      known = BoundTo e q ∷ Bound e ∷ v.known;
      bound = e ∷ v.bound;
      steps = own_step (op_word e) (q + 2) ∷ v.steps;
    }

-- it signaled the operation, of whose point it found this word
abbrev pub signals : View → ℕ → ℕ → ℕ → View
signals v e q n =
    record v {
      known = Made e ∷ v.known;
      signaled = suc v.signaled;
      steps = own_step (point_word q) n ∷ v.steps;
    }

abbrev pub completes : View → ℕ → View
completes v e =
    record v {
      known = Past e ∷ v.known;
      past = e ∷ v.past;
      steps = own_step (op_word e) 1 ∷ v.steps;
    }

abbrev pub retires : View → ℕ → ℕ → View
retires v q n =
    record v {
      carrying = without_point q v.carrying;
      steps = own_step (point_word q) n ∷ v.steps;
    }

abbrev pub refers : View → ℕ → ℕ → ℕ → View
refers v q e n =
    record v { refs = reference q e ∷ v.refs; steps = own_step (point_word q) n ∷ v.steps }

abbrev pub unrefers : View → ℕ → ℕ → ℕ → View
unrefers v q e n =
    record v {
      refs = without (reference q e) v.refs;
      steps = own_step (point_word q) n ∷ v.steps;
    }

-- it found another word than it had loaded
abbrev pub misses_point : View → ℕ → ℕ → View
misses_point v q n = record v { steps = own_step (point_word q) n ∷ v.steps }

-- it answered the host step that it runs, whose word says so
abbrev pub answers : View → ℕ → Answer → View
answers v j a =
    record v {
      told = record { job = j; answer = a } ∷ v.told;
      steps = own_step (job_word j) 3 ∷ v.steps;
    }

-- What the step tells

-- what the word says agrees with what the pass knows
abbrev pub recalled : Table.Step LoggedBuffers → Mine → ℕ → Mine → Type 0
recalled st m n m' =
    (e : ℕ) → st.word ≡ op_word e →
    (s : OpState) × (n ≡ op_number s) × (m' ≡ (recalls m.0 e s, m.1))
    × ((q : ℕ) → s ≡ BoundOp q → q < length m.0.plan.ops)
    × (MaySignal m.0.plan m.0 e → s ≢ PastOp)
    × (s ≡ UnboundOp → ¬ KnowsMade m.0.plan m.0.known e)
    × (Knows m.0.known (Past e) → s ≡ PastOp)
    × ((q : ℕ) → Knows m.0.known (BoundTo e q) → (s ≡ BoundOp q) ⊎ (s ≡ PastOp))

abbrev pub saw : Table.Step LoggedBuffers → Mine → ℕ → Mine → Type 0
saw st m n m' =
    (q : ℕ) → st.word ≡ point_word q →
    (m' ≡ (sees m.0 q n, m.1)) × IsWord n
    × ((e : ℕ) → Lists m.0.refs (reference q e) → Carries n e)
    × ((e : ℕ) → Lists m.0.carrying (reference q e) → Carries n e)
    × ((e : ℕ) → Carries n e → (parts n).signaled ≡ false → ¬ KnowsMade m.0.plan (sees m.0 q n).known e)

abbrev pub made_point : Table.Step LoggedBuffers → Mine → ℕ → Mine → Type 0
made_point st m n m' =
    (m' ≡ (makes m.0 n, m.1)) × (n < length m.0.plan.ops) × (has m.0.owned n ≡ false)

abbrev pub assigned : Table.Step LoggedBuffers → Mine → ℕ → Mine → Type 0
assigned st m n m' =
    (q e : ℕ) → st.word ≡ point_word q → st.first ≡ carrying_word e →
    m' ≡ (assigns m.0 q e, m.1)

abbrev pub bound_op : Table.Step LoggedBuffers → Mine → ℕ → Mine → Type 0
bound_op st m n m' =
    (e q : ℕ) → st.word ≡ op_word e → st.first ≡ q + 2 → m' ≡ (binds m.0 e q, m.1)

abbrev pub signaled : Table.Step LoggedBuffers → Mine → ℕ → Mine → Type 0
signaled st m n m' =
    (q e : ℕ) → st.word ≡ point_word q → MaySignal m.0.plan m.0 e →
    m' ≡ (signals m.0 e q n, m.1)

abbrev pub completed : Table.Step LoggedBuffers → Mine → ℕ → Mine → Type 0
completed st m n m' = (e : ℕ) → st.word ≡ op_word e → m' ≡ (completes m.0 e, m.1)

-- The word was as loaded and is 0 now, or it was another.
abbrev pub retired : Table.Step LoggedBuffers → Mine → ℕ → Mine → Type 0
retired st m n m' =
    (q : ℕ) → st.word ≡ point_word q →
    (n ≡ st.first → m' ≡ (retires m.0 q n, m.1)) × (n ≢ st.first → m' ≡ (misses_point m.0 q n, m.1))

abbrev pub referred : Table.Step LoggedBuffers → Mine → ℕ → Mine → Type 0
referred st m n m' =
    (q : ℕ) → st.word ≡ point_word q →
    (n ≡ st.first → m' ≡ (refers m.0 q (parts n).op n, m.1))
    × (n ≢ st.first → m' ≡ (misses_point m.0 q n, m.1))

abbrev pub unreferred : Table.Step LoggedBuffers → Mine → ℕ → Mine → Type 0
unreferred st m n m' =
    (q : ℕ) → st.word ≡ point_word q →
    (n ≡ st.first → m' ≡ (unrefers m.0 q (parts n).op n, m.1))
    × (n ≢ st.first → m' ≡ (misses_point m.0 q n, m.1))

-- The operands of the step say the answer: their first is the word of no job, so that nothing is
-- stored.
abbrev pub answer_code : Answer → ℕ
answer_code Reached = 5
answer_code Timeout = 6
answer_code NotReady = 7
answer_code (Value n) = 8

abbrev pub answer_operand : Answer → ℕ
answer_operand (Value n) = n
answer_operand other = 0

abbrev pub answered : Table.Step LoggedBuffers → Mine → ℕ → Mine → Type 0
answered st m n m' =
    (j : ℕ) (a : Answer) → st.word ≡ job_word j → st.first ≡ answer_code a →
    st.second ≡ answer_operand a → m' ≡ (answers m.0 j a, m.1)
