-- What runs of a compiled plan keep of the batches of threads: how many steps of each thread have been made.
use Rattle.std.proofs.Common.{◌≡◌, ℕ, ◌+◌, ◌<◌, ◌≤◌, ◌⊎◌, inl, inr, Bool, true, false, List, length, Some, refl, sym}
use Rattle.std.proofs.Common.{ap, ◌∙◌, zero, suc, subst, arith}
use Rattle.std.specs.List.{slice_get}
use Rattle.std.proofs.lemmas.Bool.{false≢true, cases_lt, cases_eq}
use Rattle.std.proofs.lemmas.Option.{same_Some}
use Rattle.vq_model.specs.declared.script.Pair.{Pair}
use Rattle.vq_model.specs.Machine.{put}
use Rattle.vq_ground.proofs.Gets.{get_within}
use Rattle.vq_model.proofs.Puts.{put_here, put_there}
use Rattle.vq_blocks.specs.declared.block.HostThread.{HostThread}
use Rattle.vq_blocks.specs.declared.block.ThreadStep.{ThreadStep}
use Rattle.vq_blocks.specs.declared.block.ThreadStep.TheVariants.{Wait, Signal}
use Rattle.vq_blocks.specs.HostsRuns.{steps_in_order}
use Rattle.vq_hosts_laws.proofs.StepPlaces.{first_of, IsThreadStep, batch_of_place, earlier_step, step_within}
use Rattle.vq_hosts_laws.proofs.StepPlaces.{same_place}
use Rattle.vq_hosts_laws.proofs.StepSignals.{signal_place, signal_by, signal_stands, signals_of_steps, Steps}

-- whether the batch of a step has come to the moment that is the step: the start of a wait, the signal of a signal
abbrev pub has_come : Steps → (ℕ → Bool) → (ℕ → Bool) → ℕ → ThreadStep → Bool
has_come steps started made j (Wait pairs) = started j
has_come steps started made j (Signal pair) = made (signal_place steps j)

-- What is kept of the batches of threads, where each thread has made so many steps.
pub record Keeps (threads : List HostThread) (started finished made : ℕ → Bool) (done : ℕ → ℕ) : Type 0 where
  -- no thread makes more steps than it has
  pub within : (t : ℕ) (x : HostThread) → slice_get threads t ≡ Some x → done t ≤ length x.steps
  -- the steps that were made are the first ones
  pub ahead : (t i j : ℕ) (step : ThreadStep) → IsThreadStep threads t i j step →
      has_come (steps_in_order threads) started made j step ≡ true → i < done t
  pub behind : (t i j : ℕ) (step : ThreadStep) → IsThreadStep threads t i j step → i < done t →
      has_come (steps_in_order threads) started made j step ≡ true
  -- a batch starts behind the one before it in its thread
  pub in_turn : (t i j : ℕ) (step : ThreadStep) → IsThreadStep threads t i j step → started j ≡ true →
      (m k : ℕ) (other : ThreadStep) → IsThreadStep threads t m k other → m < i → finished k ≡ true
  -- a step is made by a started batch, and a finished batch has made its step
  pub begun : (t i j : ℕ) (step : ThreadStep) → IsThreadStep threads t i j step →
      has_come (steps_in_order threads) started made j step ≡ true → started j ≡ true
  pub ended : (t i j : ℕ) (step : ThreadStep) → IsThreadStep threads t i j step → finished j ≡ true →
      has_come (steps_in_order threads) started made j step ≡ true

module _ (threads : List HostThread) where
  abbrev steps : Steps
  steps = steps_in_order threads

  -- nothing has been made at the opening
  pub keeps_opening : Keeps threads (λ j. false) (λ j. false) (λ e. false) (λ t. 0)
  keeps_opening =
      record {
        within = λ t x e. omega arith;
        ahead = λ t i j step k h. absurd (never j step h);
        behind = λ t i j step k l. absurd (omega arith);
        in_turn = λ t i j step k h m n other g l. absurd (false≢true h);
        begun = λ t i j step k h. absurd (never j step h);
        ended = λ t i j step k h. absurd (false≢true h);
      }
    where
      never : (j : ℕ) (step : ThreadStep) → has_come (steps_in_order threads) (λ j. false) (λ e. false) j step
          ≡ true → ⊥
      never j (Wait pairs) h = false≢true h
      never j (Signal pair) h = false≢true h

  -- signals of two batches stand at two places
  pub one_place : (t i j : ℕ) (pair : Pair) (u m k : ℕ) (other : Pair) → IsThreadStep threads t i j (Signal pair) →
      IsThreadStep threads u m k (Signal other) → signal_place steps j ≡ signal_place steps k → j ≡ k
  one_place t i j pair u m k other a b e =
      let p = signal_stands 0 0 steps j t pair (batch_of_place threads t i j (Signal pair) a) in
      let q = signal_stands 0 0 steps k u other (batch_of_place threads u m k (Signal other) b) in
      let same = same_Some (signal_by (0 + j) pair) (signal_by (0 + k) other) (sym p
      ∙ (ap (slice_get (signals_of_steps 0 0 steps)) e ∙ q)) in
      let n = ap (λ x. x.job) same in
      omega arith

  module _ (started finished made : ℕ → Bool) (done : ℕ → ℕ) (keeps : Keeps threads started finished made done) where
    -- A batch that was started and has not come to its step has the next one.
    pub next_is : (t i j : ℕ) (step : ThreadStep) → IsThreadStep threads t i j step → started j ≡ true →
        has_come steps started made j step ≡ false → done t ≡ i
    next_is t i j step k h not = by_place i k
      where
        not_past : (n : ℕ) → IsThreadStep threads t n j step → done t ≤ n
        not_past n k = elim (cases_lt n (done t)) [
          | inl l ↦ absurd (false≢true (sym not ∙ keeps.behind t n j step k l))
          | inr l ↦ l
        ]

        by_place : (n : ℕ) → IsThreadStep threads t n j step → done t ≡ n
        by_place zero k = let a = not_past 0 k in omega arith
        by_place (suc n) k =
            let a = not_past (suc n) k in
            let e = earlier_step threads t (suc n) n j step k (omega arith) in
            let f = keeps.in_turn t (suc n) j step k h n (first_of threads t + n) e.0 e.1 (omega arith) in
            let g = keeps.ahead t n (first_of threads t + n) e.0 e.1
            (keeps.ended t n (first_of threads t + n) e.0 e.1 f) in
            omega arith

    -- .. and so has one that is not started, but whose earlier batches are finished
    pub next_starts : (t i j : ℕ) (step : ThreadStep) → IsThreadStep threads t i j step → started j ≡ false →
        ((m k : ℕ) (other : ThreadStep) → IsThreadStep threads t m k other → i ≡ suc m → finished k ≡ true) → done t ≡ i
    next_starts t i j step k h before = by_place i k before
      where
        not_past : (n : ℕ) → IsThreadStep threads t n j step → done t ≤ n
        not_past n k = elim (cases_lt n (done t)) [
          | inl l ↦ absurd (false≢true (sym h ∙ keeps.begun t n j step k (keeps.behind t n j step k l)))
          | inr l ↦ l
        ]

        by_place : (n : ℕ) → IsThreadStep threads t n j step →
            ((m k : ℕ) (other : ThreadStep) → IsThreadStep threads t m k other → n ≡ suc m → finished k ≡ true) →
            done t ≡ n
        by_place zero k b = let a = not_past 0 k in omega arith
        by_place (suc n) k b =
            let a = not_past (suc n) k in
            let e = earlier_step threads t (suc n) n j step k (omega arith) in
            let g = keeps.ahead t n (first_of threads t + n) e.0 e.1 (keeps.ended t n (first_of threads t + n) e.0 e.1
            (b n (first_of threads t + n) e.0 e.1 refl)) in
            omega arith

    -- where one batch is finished, all earlier ones of its thread are
    pub all_before : (t i : ℕ) → ((m k : ℕ) (other : ThreadStep) → IsThreadStep threads t m k other → i ≡ suc m →
        finished k ≡ true) → (m k : ℕ) (other : ThreadStep) → IsThreadStep threads t m k other →
        (j : ℕ) (step : ThreadStep) → IsThreadStep threads t i j step → m < i → finished k ≡ true
    all_before t zero before m k other g j step h l = absurd (omega arith)
    all_before t (suc n) before m k other g j step h l = by_order (cases_lt m n)
      where
        by_order : ((m < n) ⊎ (n ≤ m)) → finished k ≡ true
        by_order (inl a) =
            let e = earlier_step threads t (suc n) n j step h (omega arith) in
            let f = before n (first_of threads t + n) e.0 e.1 refl in
            keeps.in_turn t n (first_of threads t + n) e.0 e.1 (keeps.begun t n (first_of threads t + n) e.0 e.1
            (keeps.ended t n (first_of threads t + n) e.0 e.1 f)) m k other g a
        by_order (inr a) = let z : suc n ≡ suc m = omega arith in before m k other g z

    -- Changes behind the batches and signals of threads are none to them.
    pub keeps_still : (s f g : ℕ → Bool) → ((j : ℕ) → j < length steps → s j ≡ started j) →
        ((j : ℕ) → j < length steps → f j ≡ finished j) →
        ((t i j : ℕ) (pair : Pair) → IsThreadStep threads t i j (Signal pair) → g (signal_place steps j)
        ≡ made (signal_place steps j)) → Keeps threads s f g done
    keeps_still s f g same_started same_finished same_made =
        record {
          within = keeps.within;
          ahead = λ t i j step k h. keeps.ahead t i j step k (sym (come t i j step k) ∙ h);
          behind = λ t i j step k l. come t i j step k ∙ keeps.behind t i j step k l;
          in_turn = λ t i j step k h m n other o l.
              same_finished n (step_within threads t m n other o)
              ∙ keeps.in_turn t i j step k (sym (same_started j (step_within threads t i j step k))
              ∙ h) m n other o l;
          begun = λ t i j step k h. same_started j (step_within threads t i j step k)
              ∙ keeps.begun t i j step k (sym (come t i j step k) ∙ h);
          ended = λ t i j step k h. come t i j step k
              ∙ keeps.ended t i j step k (sym (same_finished j (step_within threads t i j step k)) ∙ h);
        }
      where
        come : (t i j : ℕ) (step : ThreadStep) → IsThreadStep threads t i j step → has_come steps s g j step
            ≡ has_come steps started made j step
        come t i j (Wait pairs) k = same_started j (step_within threads t i j (Wait pairs) k)
        come t i j (Signal pair) k = same_made t i j pair k

    -- One batch more has come to its step, which is the next one of its thread: then the thread has made one step more.
    module _ (t i j : ℕ) (step : ThreadStep) (here : IsThreadStep threads t i j step) (next : done t ≡ i) (s g : ℕ →
        Bool)
        (comes : has_come steps s g j step ≡ true)
        (still : (u m k : ℕ) (other : ThreadStep) → IsThreadStep threads u m k other →
        has_come steps started made k other ≡ true → has_come steps s g k other ≡ true)
        (no_other : (u m k : ℕ) (other : ThreadStep) → IsThreadStep threads u m k other → has_come steps s g k other
        ≡ true → (k ≡ j) ⊎ (has_come steps started made k other ≡ true)) where
      abbrev more : ℕ → ℕ
      more = put done t (done t + 1)

      same_batch : (u m k : ℕ) (other : ThreadStep) → IsThreadStep threads u m k other → k ≡ j →
          (u ≡ t) × (m ≡ i) × (other ≡ step)
      same_batch u m k other o e = same_place threads u m j other t i step
          (subst (λ x. IsThreadStep threads u m x other) e o) here

      grows : (u : ℕ) → done u ≤ more u
      grows u = elim (cases_eq u t) [
        | inl e ↦ (let a = ap more e ∙ put_here done t (done t + 1) in let b = ap done e in omega arith)
        | inr n ↦ (let a = put_there done t (done t + 1) u n in omega arith)
      ]

      pub more_within : (u : ℕ) (x : HostThread) → slice_get threads u ≡ Some x → more u ≤ length x.steps
      more_within u x e = elim (cases_eq u t) [
        | inl c ↦ (let a = ap more c ∙ put_here done t (done t + 1) in
            let w = get_within here.steps.steps i here.line here.at_place in
            let same : x ≡ here.steps = same_Some x here.steps (sym e ∙ (ap (slice_get threads) c ∙ here.of_thread)) in
            let v = ap (λ (y : HostThread). length y.steps) same in
            omega arith)
        | inr n ↦ (let a = put_there done t (done t + 1) u n in let b = keeps.within u x e in omega arith)
      ]

      pub more_ahead : (u m k : ℕ) (other : ThreadStep) → IsThreadStep threads u m k other →
          has_come steps s g k other ≡ true → m < more u
      more_ahead u m k other o h = elim (no_other u m k other o h) [
        | inl c ↦ (let p = same_batch u m k other o c in
            let a = ap more p.0 ∙ put_here done t (done t + 1) in
            let b = p.1 in
            omega arith)
        | inr c ↦ (let a = keeps.ahead u m k other o c in let b = grows u in omega arith)
      ]

      pub more_behind : (u m k : ℕ) (other : ThreadStep) → IsThreadStep threads u m k other → m < more u →
          has_come steps s g k other ≡ true
      more_behind u m k other o l = elim (cases_lt m (done u)) [
        | inl a ↦ still u m k other o (keeps.behind u m k other o a)
        | inr a ↦ elim (cases_eq u t) [
          | inl e ↦ (let b = ap more e ∙ put_here done t (done t + 1) in
              let d = ap done e in
              let z : m ≡ i = omega arith in
              let f = ap (first_of threads) e in
              let on = o.number in
              let hn = here.number in
              let w : k ≡ j = omega arith in
              let p = same_batch u m k other o w in
              subst (λ (x : ℕ × ThreadStep). has_come steps s g x.0 x.1 ≡ true) (λ r. (sym w r, sym p.2 r)) comes)
          | inr n ↦ (let b = put_there done t (done t + 1) u n in absurd (omega arith))
        ]
      ]
