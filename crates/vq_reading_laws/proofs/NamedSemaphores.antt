-- The semaphores that lines name, and what the steps of the host name.
use Rattle.std.proofs.Common.{List, [], ◌∷◌, map, ◌≡◌, Some, None, Option, ℕ, Bool, true, subst, refl, suc, zero, ap, ◌&&◌, option_map}
use Rattle.std.specs.List.{slice_get, position, AllByRecursion as Every}
use Rattle.std.specs.Str.{bytes_eq}
use Rattle.std.proofs.lemmas.Bool.{and_parts}
use Rattle.vq_ground.proofs.Positions.{found_at}
use Rattle.vq_model.specs.declared.statement.Line.{Line}
use Rattle.vq_model.specs.declared.statement.Statement.{Statement}
use Rattle.vq_model.specs.declared.statement.Statement.TheVariants.{TakeHostStep}
use Rattle.vq_model.specs.declared.script.Semaphore.{Semaphore}
use Rattle.vq_model.specs.declared.script.SemaphoreKind.{SemaphoreKind}
use Rattle.vq_model.specs.declared.script.Pair.{Pair}
use Rattle.vq_model.specs.declared.script.HostStep.{HostStep}
use Rattle.vq_model.specs.declared.script.HostStep.TheVariants.{Signal, WaitAll, WaitAny, PollAll, PollAny, Read, FenceWait, FencePoll, FenceReset, Idle}
use Rattle.vq_model.specs.Context.{semaphores, is_timeline, is_fence}
use Rattle.vq_model.specs.Meaning.{of_two, pairs_at}
use Rattle.vq_model.specs.Text.{numeral}
use Rattle.vq_model.specs.Context.{number_at}
use Rattle.vq_model.specs.Forms.{TimelineName, FenceName}

-- its kind
pub kind_at : (xs : List Semaphore) (t : ℕ) (x : Semaphore) → slice_get xs t ≡ Some x →
    slice_get (map (λ s. s.kind) xs) t ≡ Some x.kind
kind_at [] t x e = absurd (let c : None ≡ Some x = e in cc)
kind_at (y ∷ xs) zero x e = let same : y ≡ x = cc in ap (λ (s : Semaphore). Some s.kind) same
kind_at (y ∷ xs) (suc t) x e = kind_at xs t x e

-- the kinds of the semaphores that lines declare
abbrev pub kinds_before : List Line → List SemaphoreKind
kinds_before before = map (λ s. s.kind) (semaphores before)

-- a semaphore of these kinds, whose own kind passes a test
pub record IsOfKind (test : SemaphoreKind → Bool) (kinds : List SemaphoreKind) (t : ℕ) : Type 0 where
  pub kind : SemaphoreKind
  pub is : slice_get kinds t ≡ Some kind
  pub tested : test kind ≡ true

-- the pair of a timeline
abbrev pub IsPairOf : List SemaphoreKind → Pair → Type 0
IsPairOf kinds pair = IsOfKind is_timeline kinds pair.semaphore

-- a step of the host that names timelines and fences, each where its form needs one
abbrev pub IsStepOf : List SemaphoreKind → HostStep → Type 0
IsStepOf kinds (Signal pair) = IsPairOf kinds pair
IsStepOf kinds (WaitAll pairs) = Every (IsPairOf kinds) pairs
IsStepOf kinds (WaitAny pairs) = Every (IsPairOf kinds) pairs
IsStepOf kinds (PollAll pairs) = Every (IsPairOf kinds) pairs
IsStepOf kinds (PollAny pairs) = Every (IsPairOf kinds) pairs
IsStepOf kinds (Read t) = IsOfKind is_timeline kinds t
IsStepOf kinds (FenceWait f) = IsOfKind is_fence kinds f
IsStepOf kinds (FencePoll f) = IsOfKind is_fence kinds f
IsStepOf kinds (FenceReset f) = IsOfKind is_fence kinds f
IsStepOf kinds Idle = Unit {0}

-- a statement is such a step, after these lines
abbrev pub SaysStep : List Line → Statement → Type 0
SaysStep before s = (step : HostStep) × IsStepOf (kinds_before before) step × (TakeHostStep step ≡ s)

module _ (before : List Line) where
  -- what a name stands for
  named : (test : SemaphoreKind → Bool) (name : List ℕ) (t : ℕ) →
      position (λ s. bytes_eq name s.name && test s.kind) (semaphores before) ≡ Some t →
      IsOfKind test (kinds_before before) t
  named test name t e =
      let f = found_at (λ s. bytes_eq name s.name && test s.kind) (semaphores before) t e in
      let k = and_parts (bytes_eq name f.0.name) (test f.0.kind) f.2 in
      record { kind = f.0.kind; is = kind_at (semaphores before) t f.0 f.1; tested = k.1 }

  pub timeline_named : (name : List ℕ) (t : ℕ) → number_at before TimelineName name ≡ Some t →
      IsOfKind is_timeline (kinds_before before) t
  timeline_named name t e = named is_timeline name t e

  pub fence_named : (name : List ℕ) (t : ℕ) → number_at before FenceName name ≡ Some t →
      IsOfKind is_fence (kinds_before before) t
  fence_named name t e = named is_fence name t e

  -- pairs name timelines
  pairs_named : (words : List (List ℕ)) (pairs : List Pair) → pairs_at (number_at before) words ≡ Some pairs →
      Every (IsPairOf (kinds_before before)) pairs
  pairs_named [] pairs h =
      let same : [] ≡ pairs = cc in subst (Every (IsPairOf (kinds_before before))) same tt
  pairs_named (name ∷ []) pairs h =
      let same : [] ≡ pairs = cc in subst (Every (IsPairOf (kinds_before before))) same tt
  pairs_named (name ∷ value ∷ words) pairs h =
      by_parts (number_at before TimelineName name) (numeral value) (pairs_at (number_at before) words) refl refl h
      (pairs_named words)
    where
      by_parts : (t v : Option ℕ) (ps : Option (List Pair)) → number_at before TimelineName name ≡ t →
          pairs_at (number_at before) words ≡ ps →
          of_two (λ (p : Pair) (more : List Pair). p ∷ more)
          (of_two (λ x y. record { semaphore = x; value = y }) t v) ps ≡ Some pairs →
          ((qs : List Pair) → pairs_at (number_at before) words ≡ Some qs →
          Every (IsPairOf (kinds_before before)) qs) →
          Every (IsPairOf (kinds_before before)) pairs
      by_parts None v ps e f h later = absurd (let c : None ≡ Some pairs = h in cc)
      by_parts (Some t) None ps e f h later = absurd (let c : None ≡ Some pairs = h in cc)
      by_parts (Some t) (Some v) None e f h later = absurd (let c : None ≡ Some pairs = h in cc)
      by_parts (Some t) (Some v) (Some ps) e f h later =
          let pair : Pair = record { semaphore = t; value = v } in
          let same : pair ∷ ps ≡ pairs = cc in
          subst (Every (IsPairOf (kinds_before before))) same (timeline_named name t e, later ps f)

  -- The words of a step of the host: a pair, pairs, a name of a timeline or a fence.
  pub says_pair : (name : List ℕ) (t v : Option ℕ) (s : Statement) → number_at before TimelineName name ≡ t →
      option_map (λ p. TakeHostStep (Signal p))
      (of_two (λ x y. record { semaphore = x; value = y }) t v) ≡ Some s → SaysStep before s
  says_pair name None v s e h = absurd (let c : None ≡ Some s = h in cc)
  says_pair name (Some t) None s e h = absurd (let c : None ≡ Some s = h in cc)
  says_pair name (Some t) (Some v) s e h =
      (Signal (record { semaphore = t; value = v }), timeline_named name t e, cc)

  pub says_pairs : (of : List Pair → HostStep) (words : List (List ℕ)) (ps : Option (List Pair))
      (s : Statement) →
      ((qs : List Pair) → Every (IsPairOf (kinds_before before)) qs →
      IsStepOf (kinds_before before) (of qs)) →
      pairs_at (number_at before) words ≡ ps → option_map (λ qs. TakeHostStep (of qs)) ps ≡ Some s →
      SaysStep before s
  says_pairs of words None s is e h = absurd (let c : None ≡ Some s = h in cc)
  says_pairs of words (Some qs) s is e h = (of qs, is qs (pairs_named words qs e), cc)

  pub says_name : (of : ℕ → HostStep) (t : Option ℕ) (s : Statement) →
      ((x : ℕ) → t ≡ Some x → IsStepOf (kinds_before before) (of x)) →
      option_map (λ x. TakeHostStep (of x)) t ≡ Some s → SaysStep before s
  says_name of None s is h = absurd (let c : None ≡ Some s = h in cc)
  says_name of (Some t) s is h = (of t, is t refl, cc)
