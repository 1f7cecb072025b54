-- What a point shows to a read at a stage, by one of the kinds of that.
use Rattle.std.proofs.Common.{◌≡◌, ◌<◌, true, ℕ, List, [], ◌∷◌, refl, sym, ◌∙◌, ap, subst, inl, inr, arith, Option, Some, None}
use Rattle.std.proofs.lemmas.Bool.{and_from}
use Rattle.vq_capture.specs.declared.stage.Stage.{Stage}
use Rattle.vq_capture.specs.declared.stage.StageMask.{StageMask}
use Rattle.vq_capture.specs.declared.stage.AccessMask.{AccessMask}
use Rattle.vq_capture.specs.declared.stage.Scope.{Scope}
use Rattle.vq_capture.specs.declared.statement.Statement.{Statement}
use Rattle.vq_capture.specs.declared.statement.Statement.TheVariants.{Barrier, Transition, AwaitEvent}
use Rattle.vq_capture.specs.declared.capture.Step.{Step}
use Rattle.vq_capture.specs.Masks.{has_stage}
use Rattle.vq_capture.specs.MaskWords.{no_access}
use Rattle.vq_capture.specs.Points.{Point, gives, IsMember}
use Rattle.vq_capture_laws.proofs.Cited.{and_left, and_right}
use Rattle.vq_capture_memory.specs.AccessKinds.{has_read}
use Rattle.vq_capture_memory.specs.Seen.{kinds_of, names_stage, is_read_in, makes_visible}
use Rattle.vq_capture_clocks.specs.Cells.{all_brought}
use Rattle.vq_capture_clocks_laws.proofs.Cited.{of_later, below_first, below_second}
use Rattle.vq_capture_delivery.specs.MemoryLanes.{every_read, is_of_kind, read_stages, shown_stages}
use Rattle.vq_capture_delivery_laws.proofs.KindLanes.{At, from_if, to_if, later_has}
use Rattle.vq_capture_delivery_laws.proofs.ReadKinds.{some_kind, of_kind}

module _ (st : Step) (y : Point) (t : Stage) (at : y.stage ≡ Some t) where
  abbrev own : AccessMask
  own = kinds_of y.step.statement

  abbrev with_said : Statement → Point
  with_said said = record { step = record st { statement = said }; stage = None }

  named_in : (m : StageMask) → names_stage m y.stage ≡ has_stage m t
  named_in m = ap (λ (o : Option Stage). names_stage m o) at

  module _ (i : ℕ) (k : AccessMask) (there : At i k every_read) (of : is_of_kind own k ≡ true) where
    in_scope : (scope : Scope) → has_stage (read_stages scope k) t ≡ true → (has_stage scope.stages t ≡ true) × (is_read_in scope y ≡ true)
    in_scope scope h =
        let f = from_if (has_read scope.accesses k) scope.stages t h in
        (f.1, and_from (names_stage scope.stages y.stage) (has_read scope.accesses own) (named_in scope.stages ∙ f.1) (of_kind scope.accesses own i k there of f.0))

    shown_at : (said : Statement) → has_stage (shown_stages (with_said said) k) t ≡ true →
        (has_stage (gives (with_said said)) t ≡ true) × (makes_visible (with_said said) y ≡ true)
    shown_at (Barrier first second) h = let r = in_scope second h in (later_has second.stages t r.0, r.1)
    shown_at (Transition first second access) h = let r = in_scope second h in (later_has second.stages t r.0, r.1)
    shown_at (AwaitEvent e scope) h = let r = in_scope scope h in (later_has scope.stages t r.0, r.1)
    shown_at other h = (h, refl)

  -- a kind of the read to which a point shows
  abbrev Shows : Point → Type 0
  Shows p = (i : ℕ) × (k : AccessMask) × At i k every_read × (is_of_kind own k ≡ true) × (has_stage (shown_stages p k) t ≡ true)

  of_scope : (scope : Scope) → is_read_in scope y ≡ true →
      (i : ℕ) × (k : AccessMask) × At i k every_read × (is_of_kind own k ≡ true) × (has_stage (read_stages scope k) t ≡ true)
  of_scope scope h =
      let r = some_kind scope.accesses own (and_right (names_stage scope.stages y.stage) (has_read scope.accesses own) h) in (
        r.0,
        r.1,
        r.2,
        r.3,
        to_if (has_read scope.accesses r.1) scope.stages t r.4
            (sym (named_in scope.stages) ∙ and_left (names_stage scope.stages y.stage) (has_read scope.accesses own) h),
      )

  at_shown : (said : Statement) → has_stage (gives (with_said said)) t ≡ true → makes_visible (with_said said) y ≡ true → Shows (with_said said)
  at_shown (Barrier first second) g h = of_scope second h
  at_shown (Transition first second access) g h = of_scope second h
  at_shown (AwaitEvent e scope) g h = of_scope scope h
  at_shown other g h = let r = some_kind no_access own refl in (r.0, r.1, r.2, r.3, g)

pub shown_sound : (z y : Point) (t : Stage) (i : ℕ) (k : AccessMask) → z.stage ≡ None → y.stage ≡ Some t → At i k every_read → is_of_kind (kinds_of y.step.statement) k ≡ true →
    has_stage (shown_stages z k) t ≡ true → (has_stage (gives z) t ≡ true) × (makes_visible z y ≡ true)
shown_sound z y t i k n e a o h =
    let same : z ≡ record { step = z.step; stage = None } = (λ i. record { step = z.step; stage = n i }) in
    subst (λ (u : Point). (has_stage (gives u) t ≡ true) × (makes_visible u y ≡ true)) (sym same)
    (shown_at z.step y t e i k a o z.step.statement (subst (λ (u : Point). has_stage (shown_stages u k) t ≡ true) same h))

pub shown_complete : (z y : Point) (t : Stage) → z.stage ≡ None → y.stage ≡ Some t → has_stage (gives z) t ≡ true → makes_visible z y ≡ true →
    (i : ℕ) × (k : AccessMask) × At i k every_read × (is_of_kind (kinds_of y.step.statement) k ≡ true) × (has_stage (shown_stages z k) t ≡ true)
shown_complete z y t n e g h =
    let same : z ≡ record { step = z.step; stage = None } = (λ i. record { step = z.step; stage = n i }) in
    subst (λ (u : Point). (i : ℕ) × (k : AccessMask) × At i k every_read × (is_of_kind (kinds_of y.step.statement) k ≡ true) × (has_stage (shown_stages u k) t ≡ true)) (sym same)
    (at_shown z.step y t e z.step.statement (subst (λ (u : Point). has_stage (gives u) t ≡ true) same g) (subst (λ (u : Point). makes_visible u y ≡ true) same h))

-- All that was brought to some lanes

module _ (v k : ℕ) (cells : ℕ → ℕ → ℕ) where
  pub brought_from : (ls : List ℕ) → v < all_brought cells ls k → (j : ℕ) × IsMember j ls × (v < cells j k)
  brought_from [] l = absurd (omega arith)
  brought_from (j ∷ js) l = elim (of_later v (cells j k) (all_brought cells js k) l) [
    | inl m ↦ (j, inl refl, m)
    | inr m ↦ (let r = brought_from js m in (r.0, inr r.1, r.2))
  ]

  pub brought_one : (ls : List ℕ) (j : ℕ) → IsMember j ls → v < cells j k → v < all_brought cells ls k
  brought_one [] j m l = absurd m
  brought_one (i ∷ is) j (inl e) l =
      below_first v (cells i k) (all_brought cells is k) (subst (λ (n : ℕ). v < cells n k) e l)
  brought_one (i ∷ is) j (inr m) l = below_second v (cells i k) (all_brought cells is k) (brought_one is j m l)
