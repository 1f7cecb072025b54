-- The steps of a compiled plan that are those of a thread's batch keep what is known of the threads.
use Rattle.std.proofs.Common.{◌≡◌, ℕ, ◌+◌, ◌<◌, ◌⊎◌, inl, inr, Bool, true, refl, sym, ap, ◌∙◌, subst, arith}
use Rattle.vq_model.specs.declared.script.Pair.{Pair}
use Rattle.vq_model.specs.Machine.{put}
use Rattle.vq_model.proofs.Puts.{put_here, put_there, put_cases, put_keeps}
use Rattle.std.specs.Prelude.{List}
use Rattle.vq_blocks.specs.declared.block.HostThread.{HostThread}
use Rattle.vq_blocks.specs.declared.block.ThreadStep.{ThreadStep}
use Rattle.vq_blocks.specs.declared.block.ThreadStep.TheVariants.{Wait, Signal}
use Rattle.vq_blocks.specs.HostsRuns.{steps_in_order}
use Rattle.vq_hosts_laws.proofs.StepPlaces.{IsThreadStep, same_place}
use Rattle.vq_hosts_laws.proofs.StepSignals.{Steps, signal_place}
use Rattle.vq_hosts_laws.proofs.ThreadKeeps.{Keeps, has_come, one_place, more_within, more_ahead, more_behind}

module _ (threads : List HostThread) (started finished made : ℕ → Bool) (done : ℕ →
    ℕ) (keeps : Keeps threads started finished made done) (t i j : ℕ) where
  abbrev steps : Steps
  steps = steps_in_order threads

  -- another step of the same batch is the same
  same_step : (step : ThreadStep) → IsThreadStep threads t i j step → (u m k : ℕ) (other : ThreadStep) →
      IsThreadStep threads u m k other → k ≡ j → (u ≡ t) × (m ≡ i) × (other ≡ step)
  same_step step here u m k other o e =
      same_place threads u m j other t i step (subst (λ x. IsThreadStep threads u m x other) e o) here

  -- all batches before this one of its thread are finished
  abbrev pub AllBefore : Type 0
  AllBefore = (m k : ℕ) (other : ThreadStep) → IsThreadStep threads t m k other → m < i → finished k ≡ true

  -- where the batch starts, those before it are finished
  starts_in_turn : (step : ThreadStep) → IsThreadStep threads t i j step → AllBefore →
      (u n k : ℕ) (step : ThreadStep) → IsThreadStep threads u n k step → put started j true k ≡ true →
      (m l : ℕ) (other : ThreadStep) → IsThreadStep threads u m l other → m < n → finished l ≡ true
  starts_in_turn here_step here before u n k step o h m l other p below = elim (put_cases started j k h) [
    | inl e ↦ (let c = same_step here_step here u n k step o e in
        let d = c.1 in
        before m l other (subst (λ x. IsThreadStep threads x m l other) c.0 p) (omega arith))
    | inr e ↦ keeps.in_turn u n k step o e m l other p below
  ]

  -- the batch of a wait starts, which is the wait
  module _ (pairs : List Pair) (here : IsThreadStep threads t i j (Wait pairs)) (next : done t
      ≡ i) (before : AllBefore) where
    wait_comes : (u m k : ℕ) (other : ThreadStep) → IsThreadStep threads u m k other →
        has_come steps started made k other ≡ true → has_come steps (put started j true) made k other ≡ true
    wait_comes u m k (Wait ps) o h = put_keeps started j k h
    wait_comes u m k (Signal p) o h = h

    wait_cases : (u m k : ℕ) (other : ThreadStep) → IsThreadStep threads u m k other →
        has_come steps (put started j true) made k other ≡ true → (k ≡ j) ⊎ (has_come steps started made k other ≡ true)
    wait_cases u m k (Wait ps) o h = put_cases started j k h
    wait_cases u m k (Signal p) o h = inr h

    wait_begun : (u m k : ℕ) (other : ThreadStep) → IsThreadStep threads u m k other →
        has_come steps (put started j true) made k other ≡ true → put started j true k ≡ true
    wait_begun u m k (Wait ps) o h = h
    wait_begun u m k (Signal p) o h = put_keeps started j k (keeps.begun u m k (Signal p) o h)

    pub wait_starts : Keeps threads (put started j true) finished made (put done t (done t + 1))
    wait_starts =
        record {
          within = more_within threads started finished made done keeps t i j (Wait pairs) here next
              (put started j true) made (put_here started j true) wait_comes wait_cases;
          ahead = more_ahead threads started finished made done keeps t i j (Wait pairs) here next
              (put started j true) made (put_here started j true) wait_comes wait_cases;
          behind = more_behind threads started finished made done keeps t i j (Wait pairs) here next
              (put started j true) made (put_here started j true) wait_comes wait_cases;
          in_turn = starts_in_turn (Wait pairs) here before;
          begun = wait_begun;
          ended = λ u m k other o h. wait_comes u m k other o (keeps.ended u m k other o h);
        }

  -- the batch of a signal starts
  pub signal_starts : (pair : Pair) → IsThreadStep threads t i j (Signal pair) → AllBefore →
      Keeps threads (put started j true) finished made done
  signal_starts pair here before =
      record {
        within = keeps.within;
        ahead = λ u m k other o h. keeps.ahead u m k other o (sym (same u m k other o) ∙ h);
        behind = λ u m k other o l. same u m k other o ∙ keeps.behind u m k other o l;
        in_turn = starts_in_turn (Signal pair) here before;
        begun = λ u m k other o h. put_keeps started j k (keeps.begun u m k other o (sym (same u m k other o) ∙ h));
        ended = λ u m k other o h. same u m k other o ∙ keeps.ended u m k other o h;
      }
    where
      same : (u m k : ℕ) (other : ThreadStep) → IsThreadStep threads u m k other →
          has_come steps (put started j true) made k other ≡ has_come steps started made k other
      same u m k (Wait ps) o = put_there started j true k (λ e. differ e)
        where
          differ : k ≡ j → ⊥
          differ e = let c : Wait ps ≡ Signal pair = (same_step (Signal pair) here u m k (Wait ps) o e).2 in cc
      same u m k (Signal p) o = refl

  -- the batch of a signal makes it, which is the signal
  module _ (pair : Pair) (here : IsThreadStep threads t i j (Signal pair)) (next : done t
      ≡ i) (has_started : started j ≡ true) where
    abbrev at : ℕ
    at = signal_place steps j

    signal_comes : (u m k : ℕ) (other : ThreadStep) → IsThreadStep threads u m k other →
        has_come steps started made k other ≡ true → has_come steps started (put made at true) k other ≡ true
    signal_comes u m k (Wait ps) o h = h
    signal_comes u m k (Signal p) o h = put_keeps made at (signal_place steps k) h

    signal_cases : (u m k : ℕ) (other : ThreadStep) → IsThreadStep threads u m k other →
        has_come steps started (put made at true) k other ≡ true →
        (k ≡ j) ⊎ (has_come steps started made k other ≡ true)
    signal_cases u m k (Wait ps) o h = inr h
    signal_cases u m k (Signal p) o h = elim (put_cases made at (signal_place steps k) h) [
      | inl e ↦ inl (one_place threads u m k p t i j pair o here e)
      | inr e ↦ inr e
    ]

    pub signal_makes : Keeps threads started finished (put made at true) (put done t (done t + 1))
    signal_makes =
        record {
          within = more_within threads started finished made done keeps t i j (Signal pair) here next started
              (put made at true) (put_here made at true) signal_comes signal_cases;
          ahead = more_ahead threads started finished made done keeps t i j (Signal pair) here next started
              (put made at true) (put_here made at true) signal_comes signal_cases;
          behind = more_behind threads started finished made done keeps t i j (Signal pair) here next started
              (put made at true) (put_here made at true) signal_comes signal_cases;
          in_turn = keeps.in_turn;
          begun = λ u m k other o h. elim (signal_cases u m k other o h) [
            | inl e ↦ ap started e ∙ has_started
            | inr e ↦ keeps.begun u m k other o e
          ];
          ended = λ u m k other o h. signal_comes u m k other o (keeps.ended u m k other o h);
        }

  -- a batch that has come to its step finishes
  pub batch_finishes : (step : ThreadStep) → IsThreadStep threads t i j step → has_come steps started made j step
      ≡ true → Keeps threads started (put finished j true) made done
  batch_finishes step here came =
      record {
        within = keeps.within;
        ahead = keeps.ahead;
        behind = keeps.behind;
        in_turn = λ u n k other o h m l p q below. put_keeps finished j l (keeps.in_turn u n k other o h m l p q below);
        begun = keeps.begun;
        ended = λ u m k other o h. elim (put_cases finished j k h) [
          | inl e ↦ (let c = same_step step here u m k other o e in
              subst (λ (x : ℕ × ThreadStep). has_come steps started made x.0 x.1 ≡ true) (λ r. (sym e r, sym c.2 r))
              came)
          | inr e ↦ keeps.ended u m k other o e
        ];
      }
