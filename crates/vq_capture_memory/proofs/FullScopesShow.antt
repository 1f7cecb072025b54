-- Where barriers and events have full scopes, what is ordered is seen.
use Rattle.std.proofs.Common.{◌≡◌, ◌⊎◌, Bool, true, false, ◌&&◌, ◌||◌, List, filter, ℕ, refl, sym, ◌∙◌, ap, subst, inl, inr, Option, Some, None}
use Rattle.std.specs.Prelude.{nat_lt, not, is_some}
use Rattle.std.proofs.lemmas.Bool.{or_cases, or_left, and_from}
use Rattle.vq_ground.specs.Lists.{has}
use Rattle.vq_ground.proofs.Bools.{never}
use Rattle.vq_capture.specs.declared.stage.Stage.{Stage}
use Rattle.vq_capture.specs.declared.stage.Scope.{Scope}
use Rattle.vq_capture.specs.declared.statement.Access.{Access}
use Rattle.vq_capture.specs.declared.statement.Statement.{Statement}
use Rattle.vq_capture.specs.declared.statement.Statement.TheVariants.{CommandAccess, Barrier, Transition, SetEvent, AwaitEvent}
use Rattle.vq_capture.specs.declared.capture.Step.{Step}
use Rattle.vq_capture.specs.Masks.{has_stage, meets}
use Rattle.vq_capture.specs.Releases.{releases}
use Rattle.vq_capture.specs.Points.{Point, points_of, points_at, points_of_step, stages_with_word, IsMember, takes, gives}
use Rattle.vq_capture.specs.Before.{Before, one, more, IsEdge, is_direct, are_of_one_queue, by_scopes, by_signals, by_release, by_thread, by_telling, by_cut}
use Rattle.vq_capture.specs.Before.{is_semaphore_operation, follows_them, was_handed, is_after, is_cut, same_thread, steps_above}
use Rattle.vq_capture.specs.Races.{Ordered}
use Rattle.vq_capture_laws.proofs.Cited.{from_flat_map, from_map, own_step, and_left, and_right, in_flat_map}
use Rattle.vq_capture_memory.specs.AccessKinds.{has_all_kinds, has_write, has_read, share_read, names_read}
use Rattle.vq_capture_memory.specs.Seen.{kinds_of, names_stage, is_written_in, is_read_in, makes_available, makes_visible, AvailableAt, by_itself, made, IsAvailableTo, IsVisibleTo}
use Rattle.vq_capture_memory.specs.UnseenWrites.{is_read, IsDelivered, Sees}
use Rattle.vq_capture_memory.specs.FullScopes.{IsFull, HasFullScopes, AreFull, AreOfQueues}

-- Scopes that are full

at_full : (scope : Scope) → IsFull scope → (o : Option Stage) (s : Stage) → o ≡ Some s → names_stage scope.stages o ≡ true
at_full scope f o s e = ap (λ (p : Option Stage). names_stage scope.stages p) e ∙ f.0 s

written : (scope : Scope) → IsFull scope → (x : Point) (s : Stage) → x.stage ≡ Some s → is_written_in scope x ≡ true
written scope f x s e =
    let k = kinds_of x.step.statement in
    and_from (names_stage scope.stages x.stage) (has_write scope.accesses k) (at_full scope f x.stage s e)
    (or_left (has_all_kinds scope.accesses || scope.accesses.memory_write) (scope.accesses.storage_write && (k.storage_write || not k.memory_write))
    (or_left (has_all_kinds scope.accesses) scope.accesses.memory_write f.1))

seen_in : (scope : Scope) → IsFull scope → (y : Point) (s : Stage) → y.stage ≡ Some s → is_read_in scope y ≡ true
seen_in scope f y s e =
    let k = kinds_of y.step.statement in
    and_from (names_stage scope.stages y.stage) (has_read scope.accesses k) (at_full scope f y.stage s e)
    (or_left (has_all_kinds scope.accesses || scope.accesses.memory_read || share_read scope.accesses k) (names_read scope.accesses && not (names_read k))
    (or_left (has_all_kinds scope.accesses || scope.accesses.memory_read) (share_read scope.accesses k)
    (or_left (has_all_kinds scope.accesses) scope.accesses.memory_read f.1)))

-- a point whose line says something else
abbrev saying : Point → Statement → Point
saying p said = record { step = record p.step { statement = said }; stage = p.stage }

all_available : (p x : Point) (s : Stage) → x.stage ≡ Some s → (said : Statement) → p.step.statement ≡ said → HasFullScopes said → makes_available p x ≡ true
all_available p x s e (Barrier first second) q f =
    ap (λ (t : Statement). makes_available (saying p t) x) q ∙ written first f.0 x s e
all_available p x s e (Transition first second access) q f =
    ap (λ (t : Statement). makes_available (saying p t) x) q ∙ written first f.0 x s e
all_available p x s e (SetEvent event scope) q f =
    ap (λ (t : Statement). makes_available (saying p t) x) q ∙ written scope f x s e
all_available p x s e other q f = ap (λ (t : Statement). makes_available (saying p t) x) q

all_visible : (p y : Point) (s : Stage) → y.stage ≡ Some s → (said : Statement) → p.step.statement ≡ said → HasFullScopes said → makes_visible p y ≡ true
all_visible p y s e (Barrier first second) q f =
    ap (λ (t : Statement). makes_visible (saying p t) y) q ∙ seen_in second f.1 y s e
all_visible p y s e (Transition first second access) q f =
    ap (λ (t : Statement). makes_visible (saying p t) y) q ∙ seen_in second f.1 y s e
all_visible p y s e (AwaitEvent event scope) q f =
    ap (λ (t : Statement). makes_visible (saying p t) y) q ∙ seen_in scope f y s e
all_visible p y s e other q f = ap (λ (t : Statement). makes_visible (saying p t) y) q

-- Points of accesses

-- a point at a stage is of an access of a command
accessing : (step : Step) (said : Statement) (p : Point) (s : Stage) → IsMember p (points_at step said) → p.stage ≡ Some s → (a : Access) × (scope : Scope) × (said ≡ CommandAccess a scope)
accessing step (CommandAccess a scope) p s m e = (a, scope, refl)
accessing step other p s (inl i) e = let h = sym (ap (λ (q : Point). q.stage) i) ∙ e in absurd (cc)
accessing step other p s (inr m) e = absurd m

-- a read of a command is at stages
at_stage_of : (step : Step) (said : Statement) (p : Point) → IsMember p (points_at step said) → is_read said ≡ true → (s : Stage) × (p.stage ≡ Some s)
at_stage_of step (CommandAccess a scope) p m r =
    let at : Stage → Point = λ t. record { step = step; stage = Some t } in
    let f = from_map at p (filter (has_stage scope.stages) stages_with_word) m in
    (f.0, ap (λ (q : Point). q.stage) f.2)
at_stage_of step other p m r = never r

module _ (steps : List Step) (full : AreFull steps) (queues : AreOfQueues steps) where
  -- the step of a point of a capture
  step_of_point : (p : Point) → IsMember p (points_of steps) → IsMember p.step steps × IsMember p (points_of_step p.step)
  step_of_point p m =
      let r = from_flat_map points_of_step p steps m in
      let e = own_step r.0 r.0.statement p r.2 in
      (subst (λ (s : Step). IsMember s steps) (sym e) r.1, subst (λ (s : Step). IsMember p (points_of_step s)) (sym e) r.2)

  made_at : (x p : Point) (s : Stage) → x.stage ≡ Some s → IsEdge steps x p → AvailableAt steps x p
  made_at x p s e i = made (record {
    edge = i;
    scope = all_available p x s e p.step.statement refl (full p.step (step_of_point p i.point).0);
  })

  -- the first edge of a path
  first_edge : (x y : Point) → Before steps x y → (z : Point) × IsEdge steps x z × ((z ≡ y) ⊎ Before steps z y)
  first_edge x y (one e) = (y, e, inl refl)
  first_edge x y (more {y = w} b e) = let r = first_edge x w b in (r.0, r.1, inr (on r.0 r.2))
    where
      on : (z : Point) → (z ≡ w) ⊎ Before steps z w → Before steps z y
      on z (inl q) = subst (λ (v : Point). Before steps v y) (sym q) (one e)
      on z (inr c) = more c e

  -- two accesses of commands have no order by themselves
  module _ (x y : Point) (s t : Stage) (at_s : x.stage ≡ Some s) (at_t : y.stage ≡ Some t) (by_none : x.step.thread ≡ None) (a b : Access) (v w : Scope) (e : x.step.statement ≡ CommandAccess a v) (f : y.step.statement ≡ CommandAccess b w) where
    no_scopes : by_scopes x y ≡ true → ⊥
    no_scopes h =
        never (sym (λ i. not (is_some (at_s i) && is_some (at_t i)))
        ∙ and_right (are_of_one_queue x y) (not (is_some x.stage && is_some y.stage)) (and_left (are_of_one_queue x y && not (is_some x.stage && is_some y.stage)) (meets (gives x) (takes y)) h))

    no_signals : by_signals x y ≡ true → ⊥
    no_signals h =
        never (sym (ap (λ (q : Statement). follows_them q) f)
        ∙ and_right (are_of_one_queue x y && is_semaphore_operation x.step.statement) (follows_them y.step.statement) h)

    no_release : by_release steps x y ≡ true → ⊥
    no_release h = elim (or_cases (has (releases (steps_above steps y.step.line) y.step.queue y.step.statement) x.step.line) (was_handed y.step.statement x.step.line) h) [
      | inl r ↦ never (sym (ap (λ (q : Statement). has (releases (steps_above steps y.step.line) y.step.queue q) x.step.line) f) ∙ r)
      | inr r ↦ never (sym (ap (λ (q : Statement). was_handed q x.step.line) f) ∙ r)
    ]

    no_thread : by_thread x y ≡ true → ⊥
    no_thread h = never (sym (ap (λ (o : Option ℕ). same_thread o y.step.thread) by_none) ∙ h)

    no_telling : by_telling x y ≡ true → ⊥
    no_telling h = never (sym (ap (λ (q : Statement). is_after q x.step.thread) f) ∙ h)

    no_cut : by_cut x y ≡ true → ⊥
    no_cut h = elim (or_cases (is_cut x.step.statement) (is_cut y.step.statement) h) [
      | inl r ↦ never (sym (ap (λ (q : Statement). is_cut q) e) ∙ r)
      | inr r ↦ never (sym (ap (λ (q : Statement). is_cut q) f) ∙ r)
    ]

    no_edge : is_direct steps x y ≡ true → ⊥
    no_edge d =
        some (and_right (nat_lt x.step.line y.step.line) (by_scopes x y || by_signals x y || by_release steps x y || by_thread x y || by_telling x y || by_cut x y) d)
      where
        three : (by_scopes x y || by_signals x y || by_release steps x y) ≡ true → ⊥
        three k = elim (or_cases (by_scopes x y || by_signals x y) (by_release steps x y) k) [
          | inl i ↦ elim (or_cases (by_scopes x y) (by_signals x y) i) [ inl j ↦ no_scopes j | inr j ↦ no_signals j ]
          | inr i ↦ no_release i
        ]

        some : (by_scopes x y || by_signals x y || by_release steps x y || by_thread x y || by_telling x y || by_cut x y) ≡ true → ⊥
        some k = elim (or_cases (by_scopes x y || by_signals x y || by_release steps x y || by_thread x y || by_telling x y) (by_cut x y) k) [
          | inl i ↦ elim (or_cases (by_scopes x y || by_signals x y || by_release steps x y || by_thread x y) (by_telling x y) i) [
            | inl j ↦ elim (or_cases (by_scopes x y || by_signals x y || by_release steps x y) (by_thread x y) j) [
              | inl l ↦ three l
              | inr l ↦ no_thread l
            ]
            | inr j ↦ no_telling j
          ]
          | inr i ↦ no_cut i
        ]

  apart : (x y : Point) (s t : Stage) → x.stage ≡ Some s → y.stage ≡ Some t → IsMember x (points_of steps) → IsMember y (points_of steps) → is_direct steps x y ≡ true → ⊥
  apart x y s t e f m n =
      let p = step_of_point x m in
      let q = step_of_point y n in
      let c = accessing x.step x.step.statement x s p.1 e in
      let d = accessing y.step y.step.statement y t q.1 f in
      no_edge x y s t e f (queues x.step c.0 c.1 p.0 c.2) c.0 d.0 c.1 d.1 c.2 d.2

  -- What is ordered is delivered

  available : (x y : Point) → Before steps x y → IsAvailableTo steps x y
  available x y b = by x.stage refl
    where
      from_first : (s : Stage) → x.stage ≡ Some s → (z : Point) → IsEdge steps x z → (z ≡ y) ⊎ Before steps z y → IsAvailableTo steps x y
      from_first s e z i (inl q) =
          let j = subst (λ (v : Point). IsEdge steps x v) q i in
          inl (record { edge = j; scope = all_available y x s e y.step.statement refl (full y.step (step_of_point y j.point).0) })
      from_first s e z i (inr c) = inr (z, made_at x z s e i, c)

      by : (o : Option Stage) → x.stage ≡ o → IsAvailableTo steps x y
      by None e = inr (x, by_itself e, b)
      by (Some s) e = let r = first_edge x y b in from_first s e r.0 r.1 r.2

  shown : (q y : Point) (t : Stage) → y.stage ≡ Some t → IsEdge steps q y → IsMember q (points_of steps) → makes_visible q y ≡ true
  shown q y t f i m = all_visible q y t f q.step.statement refl (full q.step (step_of_point q m).0)

  -- the points of a path but its beginning are of the capture
  ends_in : (x y : Point) → Before steps x y → IsMember y (points_of steps)
  ends_in x y (one e) = e.point
  ends_in x y (more b e) = e.point

  visible : (x y : Point) (t : Stage) → y.stage ≡ Some t → IsMember x (points_of steps) → Before steps x y → IsVisibleTo steps x y
  visible x y t f m (one i) = by x.stage refl
    where
      by : (o : Option Stage) → x.stage ≡ o → IsVisibleTo steps x y
      by None e = (x, x, by_itself e, record { behind = inl refl; edge = i; scope = shown x y t f i m })
      by (Some s) e = absurd (apart x y s t e f m i.point i.direct)
  visible x y t f m (more {y = w} b i) = by x.stage refl
    where
      by : (o : Option Stage) → x.stage ≡ o → IsVisibleTo steps x y
      by None e =
          (x, w, by_itself e, record { behind = inr b; edge = i; scope = shown w y t f i (ends_in x w b) })
      by (Some s) e =
          let r = first_edge x w b in
          (r.0, w, made_at x r.0 s e r.1, record { behind = r.2; edge = i; scope = shown w y t f i (ends_in x w b) })

  pub full_scopes_show : (a b : Step) → IsMember a steps → Ordered steps a b → Sees steps a b
  full_scopes_show a b m o x y p q = by (is_read b.statement) refl
    where
      by : (r : Bool) → is_read b.statement ≡ r → IsDelivered steps r x y
      by true e =
          let s = at_stage_of b b.statement y q e in
          visible x y s.0 s.1 (in_flat_map points_of_step x a steps m p) (o x y p q)
      by false e = available x y (o x y p q)
