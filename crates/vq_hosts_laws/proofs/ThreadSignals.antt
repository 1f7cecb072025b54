-- The signals that threads have made, by their places.
use Rattle.std.proofs.Common.{◌≡◌, ℕ, ◌+◌, ◌<◌, Bool, true, false, ◌||◌, List, [], ◌∷◌, take, Option, Some, None}
use Rattle.std.proofs.Common.{option_map, refl, sym, ap, ◌∙◌, zero, suc, arith}
use Rattle.std.specs.List.{slice_get, list_any, flat_map, enumerate_from}
use Rattle.std.proofs.lemmas.List.Folds.{list_any-append}
use Rattle.std.proofs.lemmas.Bool.{false≢true}
use Rattle.vq_model.specs.declared.script.Pair.{Pair}
use Rattle.vq_ground.proofs.Gets.{get-enumerate, get-take, get-take_within}
use Rattle.vq_ground.proofs.Options.{some_of}
use Rattle.vq_blocks.specs.declared.block.HostThread.{HostThread}
use Rattle.vq_blocks.specs.declared.block.ThreadLine.{ThreadLine}
use Rattle.vq_blocks.specs.declared.block.ThreadStep.{ThreadStep}
use Rattle.vq_blocks.specs.declared.block.ThreadStep.TheVariants.{Wait, Signal}
use Rattle.vq_blocks.specs.Blocks.{signaled_by}
use Rattle.vq_blocks.specs.HostsMachine.{thread_signals}
use Rattle.vq_hosts_laws.proofs.StepPlaces.{first_of, IsThreadStep}

-- some element of joined lists passes a test
any_flat : {X Y : Type 0} (f : Y → Bool) (g : X → List Y) (xs : List X) → list_any f (flat_map g xs) ≡ true →
    (i : ℕ) × (x : X) × (slice_get xs i ≡ Some x) × (list_any f (g x) ≡ true)
any_flat f g [] h = absurd (false≢true h)
any_flat {X} {Y} f g (x ∷ xs) h = by_test (list_any f (g x)) refl (sym (list_any-append f (g x) (flat_map g xs))
    ∙ h) (any_flat f g xs)
  where
    by_test : (b : Bool) → list_any f (g x) ≡ b → (list_any f (g x) || list_any f (flat_map g xs)) ≡ true →
        (list_any f (flat_map g xs) ≡ true → (i : ℕ) × (y : X) × (slice_get xs i ≡ Some y)
        × (list_any f (g y) ≡ true)) → (i : ℕ) × (y : X) × (slice_get (x ∷ xs) i ≡ Some y)
        × (list_any f (g y) ≡ true)
    by_test true e h r = (0, x, refl, e)
    by_test false e h r = let o = r (ap (λ b. b || list_any f (flat_map g xs)) (sym e) ∙ h) in (suc o.0, o.1, o.2, o.3)

flat_any : {X Y : Type 0} (f : Y → Bool) (g : X → List Y) (xs : List X) (i : ℕ) (x : X) → slice_get xs i ≡ Some x →
    list_any f (g x) ≡ true → list_any f (flat_map g xs) ≡ true
flat_any f g [] i x e h = absurd (let c : None ≡ Some x = e in cc)
flat_any f g (y ∷ xs) zero x e h =
    let same : y ≡ x = cc in
    list_any-append f (g y) (flat_map g xs)
    ∙ ap (λ b. b || list_any f (flat_map g xs)) (ap (λ z. list_any f (g z)) same ∙ h)
flat_any f g (y ∷ xs) (suc i) x e h =
    list_any-append f (g y) (flat_map g xs) ∙ (ap (λ b. list_any f (g y) || b) (flat_any f g xs i x e h)
    ∙ or_true (list_any f (g y)))
  where
    or_true : (b : Bool) → (b || true) ≡ true
    or_true true = refl
    or_true false = refl

-- A signal that a thread has made.
pub record IsMade (threads : List HostThread) (done : ℕ → ℕ) (test : Pair → Bool) : Type 0 where
  pub thread : ℕ
  pub place : ℕ
  pub pair : Pair
  pub step : IsThreadStep threads thread place (first_of threads thread + place) (Signal pair)
  pub made : place < done thread
  pub passes : test pair ≡ true

module _ (threads : List HostThread) (done : ℕ → ℕ) (test : Pair → Bool) where
  abbrev of_line : ThreadLine → List Pair
  of_line line = signaled_by line.step

  abbrev of_thread : ℕ × HostThread → List Pair
  of_thread x = flat_map (λ line. signaled_by line.step) (take (done x.0) x.1.steps)

  pub made_signal : list_any test (thread_signals threads done) ≡ true → IsMade threads done test
  made_signal h =
      let a = any_flat test of_thread (enumerate_from 0 threads) h in
      let b = some_of (λ (x : HostThread). (0 + a.0, x)) (slice_get threads a.0) a.1
      (sym (get-enumerate 0 threads a.0) ∙ a.2) in
      by_thread a.0 b.0 b.1 (ap (λ x. list_any test (of_thread x)) b.2 ∙ a.3)
    where
      by_step : (t i : ℕ) (x : HostThread) (line : ThreadLine) → slice_get threads t ≡ Some x → slice_get x.steps i
          ≡ Some line → i < done t → (step : ThreadStep) → line.step ≡ step → list_any test (signaled_by step)
          ≡ true → IsMade threads done test
      by_step t i x line e f l (Wait pairs) same h = absurd (false≢true h)
      by_step t i x line e f l (Signal pair) same h =
          record {
            thread = t;
            place = i;
            pair = pair;
            step = record { steps = x; of_thread = e; line = line; at_place = f; is = same; number = refl };
            made = l;
            passes = first (test pair) h;
          }
        where
          first : (b : Bool) → (b || false) ≡ true → b ≡ true
          first true g = refl
          first false g = g

      by_thread : (t : ℕ) (x : HostThread) → slice_get threads t ≡ Some x → list_any test (of_thread (0 + t, x))
          ≡ true → IsMade threads done test
      by_thread t x e g =
          let z : 0 + t ≡ t = omega arith in
          let k = ap (λ n. list_any test (of_thread (n, x))) (sym z) ∙ g in
          let a = any_flat test of_line (take (done t) x.steps) k in
          let l = get-take_within (done t) x.steps a.0 a.1 a.2 in
          by_step t a.0 x a.1 e (sym (get-take (done t) x.steps a.0 l) ∙ a.2) l a.1.step refl a.3

  pub signal_made : IsMade threads done test → list_any test (thread_signals threads done) ≡ true
  signal_made k =
      let z : 0 + k.thread ≡ k.thread = omega arith in
      flat_any test of_thread (enumerate_from 0 threads) k.thread (k.thread, k.step.steps)
      (get-enumerate 0 threads k.thread ∙ (ap (option_map (λ x. (0 + k.thread, x))) k.step.of_thread
      ∙ ap {B = Option (ℕ × HostThread)} (λ n. Some (n, k.step.steps)) z))
      (flat_any test of_line (take (done k.thread) k.step.steps.steps) k.place k.step.line
      (get-take (done k.thread) k.step.steps.steps k.place k.made ∙ k.step.at_place)
      (ap (λ x. list_any test (signaled_by x)) k.step.is ∙ first (test k.pair) k.passes))
    where
      first : (b : Bool) → b ≡ true → (b || false) ≡ true
      first true g = refl
      first false g = g
