-- What joins the two points of an edge.
use Rattle.std.proofs.Common.{◌≡◌, true, ◌||◌, ◌&&◌, ℕ, List, refl, sym, ap, inl, inr, Option, Some, None}
use Rattle.std.specs.Prelude.{nat_lt, not, is_some}
use Rattle.std.proofs.lemmas.Bool.{eqb-true, or_cases}
use Rattle.vq_ground.specs.Lists.{has}
use Rattle.vq_ground.proofs.Bools.{never}
use Rattle.vq_capture.specs.declared.statement.Statement.{Statement}
use Rattle.vq_capture.specs.declared.statement.Statement.TheVariants.{After, SubmitHanded, Cut}
use Rattle.vq_capture.specs.declared.capture.Step.{Step}
use Rattle.vq_capture.specs.Masks.{meets}
use Rattle.vq_capture.specs.Releases.{releases, same_queue}
use Rattle.vq_capture.specs.Points.{Point, takes, gives}
use Rattle.vq_capture.specs.Before.{is_direct, by_scopes, by_signals, by_release, by_thread, by_telling, by_cut}
use Rattle.vq_capture.specs.Before.{steps_above, was_handed, same_thread, is_after, is_cut, is_semaphore_operation, follows_them}
use Rattle.vq_capture_laws.specs.Edges.{JoinedBy, OneQueue, OneThread, Released, HandedOver, Told, AtCut}
use Rattle.vq_capture_laws.proofs.MemberFacts.{and_left, and_right}

one_queue : (p q : Option ℕ) → same_queue p q ≡ true → (n : ℕ) × (p ≡ Some n) × (q ≡ Some n)
one_queue None q h = never h
one_queue (Some m) None h = never h
one_queue (Some m) (Some n) h = (m, refl, ap Some (sym (eqb-true m n h)))

one_thread : (p q : Option ℕ) → same_thread p q ≡ true → (n : ℕ) × (p ≡ Some n) × (q ≡ Some n)
one_thread None q h = never h
one_thread (Some m) None h = never h
one_thread (Some m) (Some n) h = (m, refl, ap Some (sym (eqb-true m n h)))

handed : (said : Statement) (line : ℕ) → was_handed said line ≡ true → (q : ℕ) × (said ≡ SubmitHanded q line)
handed (SubmitHanded q k) line h = (q, ap (λ n. SubmitHanded q n) (eqb-true k line h))
handed other line h = never h

told : (said : Statement) (thread : Option ℕ) → is_after said thread ≡ true → (g : ℕ) × (thread ≡ Some g) × (said ≡ After g)
told (After g) (Some n) h = (n, refl, ap After (eqb-true g n h))
told (After g) None h = never h
told other thread h = never h

cut : (said : Statement) → is_cut said ≡ true → said ≡ Cut
cut Cut h = refl
cut other h = never h

module _ (steps : List Step) (x y : Point) where
  queued : same_queue x.step.queue y.step.queue ≡ true → JoinedBy steps x y
  queued h = let r = one_queue x.step.queue y.step.queue h in OneQueue r.0 r.1 r.2

  scoped : by_scopes x y ≡ true → JoinedBy steps x y
  scoped h =
      queued (and_left (same_queue x.step.queue y.step.queue) (not (is_some x.stage && is_some y.stage)) (and_left (same_queue x.step.queue y.step.queue && not (is_some x.stage && is_some y.stage)) (meets (gives x) (takes y)) h))

  signaled : by_signals x y ≡ true → JoinedBy steps x y
  signaled h =
      queued (and_left (same_queue x.step.queue y.step.queue) (is_semaphore_operation x.step.statement) (and_left (same_queue x.step.queue y.step.queue && is_semaphore_operation x.step.statement) (follows_them y.step.statement) h))

  released : by_release steps x y ≡ true → JoinedBy steps x y
  released h = elim (or_cases (has (releases (steps_above steps y.step.line) y.step.queue y.step.statement) x.step.line) (was_handed y.step.statement x.step.line) h) [
    | inl r ↦ Released r
    | inr r ↦ let s = handed y.step.statement x.step.line r in HandedOver s.0 s.1
  ]

  threaded : by_thread x y ≡ true → JoinedBy steps x y
  threaded h = let r = one_thread x.step.thread y.step.thread h in OneThread r.0 r.1 r.2

  told_so : by_telling x y ≡ true → JoinedBy steps x y
  told_so h = let r = told y.step.statement x.step.thread h in Told r.0 r.1 r.2

  at_cut : by_cut x y ≡ true → JoinedBy steps x y
  at_cut h = elim (or_cases (is_cut x.step.statement) (is_cut y.step.statement) h) [
    | inl c ↦ AtCut (inl (cut x.step.statement c))
    | inr c ↦ AtCut (inr (cut y.step.statement c))
  ]

  pub joined : is_direct steps x y ≡ true → JoinedBy steps x y
  joined h =
      some_way (and_right (nat_lt x.step.line y.step.line) (by_scopes x y || by_signals x y || by_release steps x y || by_thread x y || by_telling x y || by_cut x y) h)
    where
      three : (by_scopes x y || by_signals x y || by_release steps x y) ≡ true → JoinedBy steps x y
      three k = elim (or_cases (by_scopes x y || by_signals x y) (by_release steps x y) k) [
        | inl i ↦ elim (or_cases (by_scopes x y) (by_signals x y) i) [ inl a ↦ scoped a | inr b ↦ signaled b ]
        | inr i ↦ released i
      ]

      some_way : (by_scopes x y || by_signals x y || by_release steps x y || by_thread x y || by_telling x y || by_cut x y) ≡ true → JoinedBy steps x y
      some_way k = elim (or_cases (by_scopes x y || by_signals x y || by_release steps x y || by_thread x y || by_telling x y) (by_cut x y) k) [
        | inl i ↦ elim (or_cases (by_scopes x y || by_signals x y || by_release steps x y || by_thread x y) (by_telling x y) i) [
          | inl j ↦ elim (or_cases (by_scopes x y || by_signals x y || by_release steps x y) (by_thread x y) j) [
            | inl a ↦ three a
            | inr b ↦ threaded b
          ]
          | inr j ↦ told_so j
        ]
        | inr i ↦ at_cut i
      ]
