-- Where a point gives a lane that one below takes, it is ordered directly before that; and the other way round, for the
-- edges within a queue or a thread, and those between threads.
use Rattle.std.proofs.Common.{◌≡◌, ◌⊎◌, ◌<◌, ◌+◌, ◌∙◌, Bool, true, false, ℕ, List, [], ◌∷◌, ◌++◌, cond, map, filter, refl, sym, ap, subst, inl, inr, arith, Option, Some, None}
use Rattle.std.specs.Prelude.{◌*◌, ◌&&◌, not, is_some, if◌then◌else◌}
use Rattle.std.proofs.lemmas.Bool.{and_from, eqb-true, eq-eqb}
use Rattle.vq_ground.proofs.Bools.{never}
use Rattle.vq_capture.specs.declared.stage.Stage.{Stage}
use Rattle.vq_capture.specs.declared.stage.StageMask.{StageMask}
use Rattle.vq_capture.specs.declared.statement.Statement.{Statement}
use Rattle.vq_capture.specs.declared.statement.Statement.TheVariants.{After}
use Rattle.vq_capture.specs.declared.capture.Step.{Step}
use Rattle.vq_capture.specs.Masks.{has_stage, meets}
use Rattle.vq_capture.specs.Releases.{same_queue}
use Rattle.vq_capture.specs.Points.{Point, takes, gives, IsMember}
use Rattle.vq_capture.specs.Before.{is_direct, are_of_one_queue, by_signals, by_thread, by_telling, is_semaphore_operation, follows_them, same_thread, is_after}
use Rattle.vq_capture_laws.proofs.Cited.{in_front, in_back, in_either, from_map}
use Rattle.vq_capture_check.specs.declared.sites.Site.{Site}
use Rattle.vq_capture_check.specs.declared.sites.Site.TheVariants.{OnQueue, OnThread}
use Rattle.vq_capture_check.specs.Sites.{site_number, has_site, some_lane, queue_site, thread_site, after_site}
use Rattle.vq_capture_check.specs.Lanes.{stage_number, every_stage, stage_lanes, last_if, is_told, given, taken}
use Rattle.vq_capture_clocks_laws.proofs.EdgeCauses.{edge_by_scopes, edge_by_signals, edge_by_thread, edge_by_telling}
use Rattle.vq_capture_clocks_laws.proofs.StageNumbers.{same_stage, stage_low, in_every, meets_at, at_meeting}
use Rattle.vq_capture_clocks_laws.proofs.SiteNumbers.{HasSites, lanes_by, same_of_number}

-- Elements of lists

pub in_map : {X Y : Type 0} (f : X → Y) (x : X) (xs : List X) → IsMember x xs → IsMember (f x) (map f xs)
in_map f x [] m = absurd m
in_map f x (y ∷ ys) (inl e) = inl (ap f e)
in_map f x (y ∷ ys) (inr m) = inr (in_map f x ys m)

pub in_filter : {X : Type 0} (test : X → Bool) (x : X) (xs : List X) → IsMember x xs → test x ≡ true → IsMember x (filter test xs)
in_filter test x [] m t = absurd m
in_filter {X} test x (y ∷ ys) (inl e) t =
    subst (λ (b : Bool). IsMember x (cond b (y ∷ filter test ys) (filter test ys)))
    (sym (subst (λ (z : X). test z ≡ true) e t)) (inl e)
in_filter {X} test x (y ∷ ys) (inr m) t = case (test y) (in_filter test x ys m t)
  where
    case : (b : Bool) → IsMember x (filter test ys) → IsMember x (cond b (y ∷ filter test ys) (filter test ys))
    case true n = inr n
    case false n = n

from_filter : {X : Type 0} (test : X → Bool) (x : X) (xs : List X) → IsMember x (filter test xs) → test x ≡ true
from_filter test x [] m = absurd m
from_filter {X} test x (y ∷ ys) m = case (test y) refl m (λ n. from_filter test x ys n)
  where
    case : (b : Bool) → test y ≡ b → IsMember x (cond b (y ∷ filter test ys) (filter test ys)) →
        (IsMember x (filter test ys) → test x ≡ true) → test x ≡ true
    case true e (inl q) f = subst (λ (z : X). test z ≡ true) (sym q) e
    case true e (inr n) f = f n
    case false e n f = f n

-- Lanes of a queue and of a thread

pub from_stages : (first : ℕ) (mask : StageMask) (k : ℕ) → IsMember k (stage_lanes first mask) → (s : Stage) × (has_stage mask s ≡ true) × (k ≡ first + stage_number s)
from_stages first mask k m =
    let r = from_map (λ s. first + stage_number s) k (filter (has_stage mask) every_stage) m in
    (r.0, from_filter (has_stage mask) r.0 every_stage r.1, r.2)

pub to_stages : (first : ℕ) (mask : StageMask) (s : Stage) → has_stage mask s ≡ true → IsMember (first + stage_number s) (stage_lanes first mask)
to_stages first mask s h =
    in_map (λ t. first + stage_number t) s (filter (has_stage mask) every_stage)
    (in_filter (has_stage mask) s every_stage (in_every s) h)

pub from_last : (test : Bool) (first k : ℕ) → IsMember k (last_if test first) → (test ≡ true) × (k ≡ first + 13)
from_last true first k (inl e) = (refl, e)
from_last true first k (inr m) = absurd m
from_last false first k m = absurd m

pub to_last : (test : Bool) (first : ℕ) → test ≡ true → IsMember (first + 13) (last_if test first)
to_last true first e = inl refl
to_last false first e = never e

-- why a lane of a queue's is one of these
abbrev pub OfQueue : Option ℕ → ℕ → StageMask → Bool → ℕ → Type 0
OfQueue queue first mask test k =
    (q : ℕ) × (queue ≡ Some q)
    × (((s : Stage) × (has_stage mask s ≡ true) × (k ≡ first + stage_number s)) ⊎ ((test ≡ true) × (k ≡ first + 13)))

abbrev pub OfThread : Option ℕ → ℕ → ℕ → Type 0
OfThread thread first k = (h : ℕ) × (thread ≡ Some h) × (k ≡ first + 13)

pub from_queue : (queue : Option ℕ) (first : ℕ) (mask : StageMask) (test : Bool) (k : ℕ) → IsMember k (if is_some queue then stage_lanes first mask ++ last_if test first else []) → OfQueue queue first mask test k
from_queue None first mask test k m = absurd m
from_queue (Some q) first mask test k m = (
  q,
  refl,
  elim (in_either k (stage_lanes first mask) (last_if test first) m) [
    | inl n ↦ inl (from_stages first mask k n)
    | inr n ↦ inr (from_last test first k n)
  ],
)

pub to_queue : (queue : Option ℕ) (first : ℕ) (mask : StageMask) (test : Bool) (q k : ℕ) → queue ≡ Some q → IsMember k (stage_lanes first mask ++ last_if test first) → IsMember k (if is_some queue then stage_lanes first mask ++ last_if test first else [])
to_queue queue first mask test q k e m =
    subst (λ (o : Option ℕ). IsMember k (if is_some o then stage_lanes first mask ++ last_if test first else [])) (sym e) m

pub from_thread : (thread : Option ℕ) (first k : ℕ) → IsMember k (last_if (is_some thread) first) → OfThread thread first k
from_thread None first k m = absurd m
from_thread (Some h) first k (inl e) = (h, refl, e)
from_thread (Some h) first k (inr m) = absurd m

pub to_thread : (thread : Option ℕ) (first h : ℕ) → thread ≡ Some h → IsMember (first + 13) (last_if (is_some thread) first)
to_thread thread first h e =
    subst (λ (o : Option ℕ). IsMember (first + 13) (last_if (is_some o) first)) (sym e) (inl refl)

-- why a line is told by a thread
abbrev pub OfTold : Statement → ℕ → ℕ → Type 0
OfTold said first k = (h : ℕ) × (said ≡ After h) × (k ≡ first + 13)

pub from_told : (said : Statement) (first k : ℕ) → IsMember k (last_if (is_told said) first) → OfTold said first k
from_told (After h) first k (inl e) = (h, refl, e)
from_told (After h) first k (inr m) = absurd m
from_told other first k m = absurd m

module _ (sites : List Site) where
  -- the lanes that a point gives, and those that it takes
  abbrev pub gives_lanes : Point → List ℕ
  gives_lanes x = given (lanes_by sites x.step) x

  abbrev pub takes_lanes : Point → List ℕ
  takes_lanes y = taken (lanes_by sites y.step) y

  pub from_given : (x : Point) (k : ℕ) → IsMember k (gives_lanes x) →
      OfQueue x.step.queue (some_lane sites (queue_site x.step.queue)) (gives x) (is_semaphore_operation x.step.statement) k
      ⊎ OfThread x.step.thread (some_lane sites (thread_site x.step.thread)) k
  from_given x k m =
      let first = some_lane sites (queue_site x.step.queue) in
      let last = some_lane sites (thread_site x.step.thread) in
      elim (in_either k (if is_some x.step.queue then stage_lanes first (gives x) ++ last_if (is_semaphore_operation x.step.statement) first else []) (last_if (is_some x.step.thread) last) m) [
        | inl n ↦ inl (from_queue x.step.queue first (gives x) (is_semaphore_operation x.step.statement) k n)
        | inr n ↦ inr (from_thread x.step.thread last k n)
      ]

  pub from_taken : (y : Point) (k : ℕ) → IsMember k (takes_lanes y) →
      (OfQueue y.step.queue (some_lane sites (queue_site y.step.queue)) (takes y) (follows_them y.step.statement) k
      ⊎ OfThread y.step.thread (some_lane sites (thread_site y.step.thread)) k)
      ⊎ OfTold y.step.statement (some_lane sites (after_site y.step.statement)) k
  from_taken y k m =
      let first = some_lane sites (queue_site y.step.queue) in
      let last = some_lane sites (thread_site y.step.thread) in
      let queues = if is_some y.step.queue then stage_lanes first (takes y) ++ last_if (follows_them y.step.statement) first else [] in
      elim (in_either k (queues ++ last_if (is_some y.step.thread) last) (last_if (is_told y.step.statement) (some_lane sites (after_site y.step.statement))) m) [
        | inl n ↦ elim (in_either k queues (last_if (is_some y.step.thread) last) n) [
          | inl l ↦ inl (inl (from_queue y.step.queue first (takes y) (follows_them y.step.statement) k l))
          | inr l ↦ inl (inr (from_thread y.step.thread last k l))
        ]
        | inr n ↦ inr (from_told y.step.statement (some_lane sites (after_site y.step.statement)) k n)
      ]

  pub queue_lane : (queue : Option ℕ) (q : ℕ) → queue ≡ Some q → some_lane sites (queue_site queue) ≡ 15 * site_number sites (OnQueue q)
  queue_lane queue q e = ap (λ (o : Option ℕ). some_lane sites (queue_site o)) e

  pub thread_lane : (thread : Option ℕ) (h : ℕ) → thread ≡ Some h → some_lane sites (thread_site thread) ≡ 15 * site_number sites (OnThread h) + 1
  thread_lane thread h e = ap (λ (o : Option ℕ). some_lane sites (thread_site o)) e

  pub after_lane : (said : Statement) (h : ℕ) → said ≡ After h → some_lane sites (after_site said) ≡ 15 * site_number sites (OnThread h) + 1
  after_lane said h e = ap (λ (s : Statement). some_lane sites (after_site s)) e

  module _ (x y : Point) (hx : HasSites sites x.step) (hy : HasSites sites y.step) where
    there_queue : (s : Step) → HasSites sites s → (q : ℕ) → s.queue ≡ Some q → queue_site s.queue ≡ Some (OnQueue q)
    there_queue s h q e = ap (λ (o : Option ℕ). queue_site o) e

    there_thread : (s : Step) → HasSites sites s → (q : ℕ) → s.thread ≡ Some q → thread_site s.thread ≡ Some (OnThread q)
    there_thread s h q e = ap (λ (o : Option ℕ). thread_site o) e

    same_queues : (p q : ℕ) → x.step.queue ≡ Some p → y.step.queue ≡ Some q → site_number sites (OnQueue p) ≡ site_number sites (OnQueue q) → same_queue x.step.queue y.step.queue ≡ true
    same_queues p q e f n =
        let s = same_of_number sites (OnQueue p) (OnQueue q) refl (hx.queue (OnQueue p) (there_queue x.step hx p e)) (hy.queue (OnQueue q) (there_queue y.step hy q f)) n in
        let r : p ≡ q = one_queue p q s in
        (λ i. same_queue (e i) (f i)) ∙ eq-eqb p q r
      where
        one_queue : (p q : ℕ) → OnQueue p ≡ OnQueue q → p ≡ q
        one_queue p q s = cc

    -- how a point is ordered directly before the other, within a queue or between threads
    abbrev pub Leads : Type 0
    Leads = (((same_queue x.step.queue y.step.queue ≡ true) × (meets (gives x) (takes y) ≡ true))
        ⊎ (by_signals x y ≡ true)) ⊎ ((by_thread x y ≡ true) ⊎ (by_telling x y ≡ true))

    of_queues : (k : ℕ) →
        OfQueue x.step.queue (some_lane sites (queue_site x.step.queue)) (gives x) (is_semaphore_operation x.step.statement) k →
        OfQueue y.step.queue (some_lane sites (queue_site y.step.queue)) (takes y) (follows_them y.step.statement) k → Leads
    of_queues k a b = by a.2 b.2
      where
        ea : some_lane sites (queue_site x.step.queue) ≡ 15 * site_number sites (OnQueue a.0)
        ea = queue_lane x.step.queue a.0 a.1

        eb : some_lane sites (queue_site y.step.queue) ≡ 15 * site_number sites (OnQueue b.0)
        eb = queue_lane y.step.queue b.0 b.1

        by : (((s : Stage) × (has_stage (gives x) s ≡ true) × (k ≡ some_lane sites (queue_site x.step.queue) + stage_number s))
            ⊎ ((is_semaphore_operation x.step.statement ≡ true) × (k ≡ some_lane sites (queue_site x.step.queue) + 13))) →
            (((s : Stage) × (has_stage (takes y) s ≡ true) × (k ≡ some_lane sites (queue_site y.step.queue) + stage_number s))
            ⊎ ((follows_them y.step.statement ≡ true) × (k ≡ some_lane sites (queue_site y.step.queue) + 13))) → Leads
        by (inl s) (inl t) =
            let fa = ea in
            let fb = eb in
            let ls = stage_low s.0 in
            let lt = stage_low t.0 in
            let es = s.2 in
            let et = t.2 in
            let one : site_number sites (OnQueue a.0) ≡ site_number sites (OnQueue b.0) = omega arith in
            let two : stage_number s.0 ≡ stage_number t.0 = omega arith in
            inl (inl (same_queues a.0 b.0 a.1 b.1 one, meets_at (gives x) (takes y) t.0 (subst (λ (u : Stage). has_stage (gives x) u ≡ true) (same_stage s.0 t.0 two) s.1) t.1))
        by (inl s) (inr t) =
            let fa = ea in let fb = eb in let ls = stage_low s.0 in let es = s.2 in let et = t.1 in absurd (omega arith)
        by (inr s) (inl t) =
            let fa = ea in let fb = eb in let lt = stage_low t.0 in let es = s.1 in let et = t.2 in absurd (omega arith)
        by (inr s) (inr t) =
            let fa = ea in
            let fb = eb in
            let es = s.1 in
            let et = t.1 in
            let one : site_number sites (OnQueue a.0) ≡ site_number sites (OnQueue b.0) = omega arith in
            inl (inr (and_from (are_of_one_queue x y && is_semaphore_operation x.step.statement) (follows_them y.step.statement)
            (and_from (are_of_one_queue x y) (is_semaphore_operation x.step.statement) (same_queues a.0 b.0 a.1 b.1 one) s.0) t.0))

    -- a lane of a queue isn't one of a thread
    queue_and_thread : (s : Step) → HasSites sites s → (mask : StageMask) (test : Bool) (k h : ℕ) →
        OfQueue s.queue (some_lane sites (queue_site s.queue)) mask test k → has_site sites (OnThread h) ≡ true →
        k ≡ (15 * site_number sites (OnThread h) + 1) + 13 → ⊥
    queue_and_thread s hs mask test k h a there ek = by a.2
      where
        ea : some_lane sites (queue_site s.queue) ≡ 15 * site_number sites (OnQueue a.0)
        ea = queue_lane s.queue a.0 a.1

        by : (((u : Stage) × (has_stage mask u ≡ true) × (k ≡ some_lane sites (queue_site s.queue) + stage_number u))
            ⊎ ((test ≡ true) × (k ≡ some_lane sites (queue_site s.queue) + 13))) → ⊥
        by (inl u) = let fa = ea in let l = stage_low u.0 in let eu = u.2 in omega arith
        by (inr u) = let fa = ea in let eu = u.1 in omega arith

    one_thread : (g h : ℕ) → OnThread g ≡ OnThread h → g ≡ h
    one_thread g h s = cc

    told_there : (h : ℕ) → y.step.statement ≡ After h → has_site sites (OnThread h) ≡ true
    told_there h e = hy.after (OnThread h) (ap (λ (t : Statement). after_site t) e)

    leads : (k : ℕ) → IsMember k (gives_lanes x) → IsMember k (takes_lanes y) → Leads
    leads k m n = by (from_given x k m) (from_taken y k n)
      where
        by : (OfQueue x.step.queue (some_lane sites (queue_site x.step.queue)) (gives x) (is_semaphore_operation x.step.statement) k
            ⊎ OfThread x.step.thread (some_lane sites (thread_site x.step.thread)) k) →
            ((OfQueue y.step.queue (some_lane sites (queue_site y.step.queue)) (takes y) (follows_them y.step.statement) k
            ⊎ OfThread y.step.thread (some_lane sites (thread_site y.step.thread)) k)
            ⊎ OfTold y.step.statement (some_lane sites (after_site y.step.statement)) k) → Leads
        by (inl a) (inl (inl b)) = of_queues k a b
        by (inl a) (inl (inr b)) =
            absurd (queue_and_thread x.step hx (gives x) (is_semaphore_operation x.step.statement) k b.0 a
            (hy.thread (OnThread b.0) (there_thread y.step hy b.0 b.1))
            (b.2 ∙ ap (λ (n : ℕ). n + 13) (thread_lane y.step.thread b.0 b.1)))
        by (inl a) (inr b) =
            absurd (queue_and_thread x.step hx (gives x) (is_semaphore_operation x.step.statement) k b.0 a
            (told_there b.0 b.1) (b.2 ∙ ap (λ (n : ℕ). n + 13) (after_lane y.step.statement b.0 b.1)))
        by (inr a) (inl (inl b)) =
            absurd (queue_and_thread y.step hy (takes y) (follows_them y.step.statement) k a.0 b
            (hx.thread (OnThread a.0) (there_thread x.step hx a.0 a.1))
            (a.2 ∙ ap (λ (n : ℕ). n + 13) (thread_lane x.step.thread a.0 a.1)))
        by (inr a) (inl (inr b)) =
            let ea = thread_lane x.step.thread a.0 a.1 in
            let eb = thread_lane y.step.thread b.0 b.1 in
            let ka = a.2 in
            let kb = b.2 in
            let n : site_number sites (OnThread a.0) ≡ site_number sites (OnThread b.0) = omega arith in
            let same = one_thread a.0 b.0 (same_of_number sites (OnThread a.0) (OnThread b.0) refl (hx.thread (OnThread a.0) (there_thread x.step hx a.0 a.1)) (hy.thread (OnThread b.0) (there_thread y.step hy b.0 b.1)) n) in
            inr (inl ((λ i. same_thread (a.1 i) (b.1 i)) ∙ eq-eqb a.0 b.0 same))
        by (inr a) (inr b) =
            let ea = thread_lane x.step.thread a.0 a.1 in
            let eb = after_lane y.step.statement b.0 b.1 in
            let ka = a.2 in
            let kb = b.2 in
            let n : site_number sites (OnThread b.0) ≡ site_number sites (OnThread a.0) = omega arith in
            let same = one_thread b.0 a.0 (same_of_number sites (OnThread b.0) (OnThread a.0) refl (told_there b.0 b.1) (hx.thread (OnThread a.0) (there_thread x.step hx a.0 a.1)) n) in
            inr (inr ((λ i. is_after (b.1 i) (a.1 i)) ∙ eq-eqb b.0 a.0 same))

    -- an edge by a lane
    pub edge_of_lane : (steps : List Step) (k : ℕ) → x.step.line < y.step.line → (is_some x.stage && is_some y.stage) ≡ false →
        IsMember k (gives_lanes x) → IsMember k (takes_lanes y) → is_direct steps x y ≡ true
    edge_of_lane steps k l e m n = by (leads k m n)
      where
        by : Leads → is_direct steps x y ≡ true
        by (inl (inl s)) = edge_by_scopes steps x y l s.0 (ap (λ (b : Bool). not b) e) s.1
        by (inl (inr s)) = edge_by_signals steps x y l s
        by (inr (inl s)) = edge_by_thread steps x y l s
        by (inr (inr s)) = edge_by_telling steps x y l s

  -- The lanes of an edge

  -- a lane that one point gives and another takes
  abbrev pub SharesLane : Point → Point → Type 0
  SharesLane x y = (k : ℕ) × IsMember k (gives_lanes x) × IsMember k (takes_lanes y)

  pub both_queues : (o p : Option ℕ) → same_queue o p ≡ true → (q : ℕ) × (o ≡ Some q) × (p ≡ Some q)
  both_queues (Some o) (Some p) e = (o, refl, ap (λ (n : ℕ). Some n) (sym (eqb-true o p e)))
  both_queues (Some o) None e = never e
  both_queues None p e = never e

  both_threads : (o p : Option ℕ) → same_thread o p ≡ true → (h : ℕ) × (o ≡ Some h) × (p ≡ Some h)
  both_threads (Some o) (Some p) e = (o, refl, ap (λ (n : ℕ). Some n) (sym (eqb-true o p e)))
  both_threads (Some o) None e = never e
  both_threads None p e = never e

  told_thread : (said : Statement) (o : Option ℕ) → is_after said o ≡ true → (h : ℕ) × (said ≡ After h) × (o ≡ Some h)
  told_thread (After g) (Some h) e = (g, refl, ap (λ (n : ℕ). Some n) (sym (eqb-true g h e)))
  told_thread (After g) None e = never e
  told_thread other o e = never e

  pub gives_queue : (x : Point) (q k : ℕ) → x.step.queue ≡ Some q →
      IsMember k (stage_lanes (some_lane sites (queue_site x.step.queue)) (gives x) ++ last_if (is_semaphore_operation x.step.statement) (some_lane sites (queue_site x.step.queue))) →
      IsMember k (gives_lanes x)
  gives_queue x q k e m =
      in_front k (if is_some x.step.queue then stage_lanes (some_lane sites (queue_site x.step.queue)) (gives x) ++ last_if (is_semaphore_operation x.step.statement) (some_lane sites (queue_site x.step.queue)) else [])
      (last_if (is_some x.step.thread) (some_lane sites (thread_site x.step.thread)))
      (to_queue x.step.queue (some_lane sites (queue_site x.step.queue)) (gives x) (is_semaphore_operation x.step.statement) q k e m)

  pub takes_queue : (y : Point) (q k : ℕ) → y.step.queue ≡ Some q →
      IsMember k (stage_lanes (some_lane sites (queue_site y.step.queue)) (takes y) ++ last_if (follows_them y.step.statement) (some_lane sites (queue_site y.step.queue))) →
      IsMember k (takes_lanes y)
  takes_queue y q k e m =
      let queues = if is_some y.step.queue then stage_lanes (some_lane sites (queue_site y.step.queue)) (takes y) ++ last_if (follows_them y.step.statement) (some_lane sites (queue_site y.step.queue)) else [] in
      let threads = last_if (is_some y.step.thread) (some_lane sites (thread_site y.step.thread)) in
      in_front k (queues ++ threads) (last_if (is_told y.step.statement) (some_lane sites (after_site y.step.statement)))
      (in_front k queues threads
      (to_queue y.step.queue (some_lane sites (queue_site y.step.queue)) (takes y) (follows_them y.step.statement) q k e m))

  pub lane_of_scopes : (x y : Point) → are_of_one_queue x y ≡ true → meets (gives x) (takes y) ≡ true → SharesLane x y
  lane_of_scopes x y q m =
      let b = both_queues x.step.queue y.step.queue q in
      let r = at_meeting (gives x) (takes y) m in
      let fx = some_lane sites (queue_site x.step.queue) in
      let fy = some_lane sites (queue_site y.step.queue) in
      let same : fy + stage_number r.0 ≡ fx + stage_number r.0 =
      ap (λ (n : ℕ). n + stage_number r.0) (queue_lane y.step.queue b.0 b.2 ∙ sym (queue_lane x.step.queue b.0 b.1)) in (
        fx + stage_number r.0,
        gives_queue x b.0 (fx + stage_number r.0) b.1
            (in_front (fx + stage_number r.0) (stage_lanes fx (gives x)) (last_if (is_semaphore_operation x.step.statement) fx) (to_stages fx (gives x) r.0 r.1)),
        subst (λ (n : ℕ). IsMember n (takes_lanes y)) same
            (takes_queue y b.0 (fy + stage_number r.0) b.2
            (in_front (fy + stage_number r.0) (stage_lanes fy (takes y)) (last_if (follows_them y.step.statement) fy) (to_stages fy (takes y) r.0 r.2))),
      )

  pub lane_of_signals : (x y : Point) → are_of_one_queue x y ≡ true → is_semaphore_operation x.step.statement ≡ true → follows_them y.step.statement ≡ true → SharesLane x y
  lane_of_signals x y q s f =
      let b = both_queues x.step.queue y.step.queue q in
      let fx = some_lane sites (queue_site x.step.queue) in
      let fy = some_lane sites (queue_site y.step.queue) in
      let same : fy + 13 ≡ fx + 13 =
      ap (λ (n : ℕ). n + 13) (queue_lane y.step.queue b.0 b.2 ∙ sym (queue_lane x.step.queue b.0 b.1)) in (
        fx + 13,
        gives_queue x b.0 (fx + 13) b.1
            (in_back (fx + 13) (stage_lanes fx (gives x)) (last_if (is_semaphore_operation x.step.statement) fx) (to_last (is_semaphore_operation x.step.statement) fx s)),
        subst (λ (n : ℕ). IsMember n (takes_lanes y)) same
            (takes_queue y b.0 (fy + 13) b.2
            (in_back (fy + 13) (stage_lanes fy (takes y)) (last_if (follows_them y.step.statement) fy) (to_last (follows_them y.step.statement) fy f))),
      )

  gives_thread : (x : Point) (h : ℕ) → x.step.thread ≡ Some h → IsMember (some_lane sites (thread_site x.step.thread) + 13) (gives_lanes x)
  gives_thread x h e =
      let last = some_lane sites (thread_site x.step.thread) in
      in_back (last + 13) (if is_some x.step.queue then stage_lanes (some_lane sites (queue_site x.step.queue)) (gives x) ++ last_if (is_semaphore_operation x.step.statement) (some_lane sites (queue_site x.step.queue)) else [])
      (last_if (is_some x.step.thread) last) (to_thread x.step.thread last h e)

  pub lane_of_thread : (x y : Point) → by_thread x y ≡ true → SharesLane x y
  lane_of_thread x y t =
      let b = both_threads x.step.thread y.step.thread t in
      let lx = some_lane sites (thread_site x.step.thread) in
      let ly = some_lane sites (thread_site y.step.thread) in
      let same : ly + 13 ≡ lx + 13 =
      ap (λ (n : ℕ). n + 13) (thread_lane y.step.thread b.0 b.2 ∙ sym (thread_lane x.step.thread b.0 b.1)) in
      let queues = if is_some y.step.queue then stage_lanes (some_lane sites (queue_site y.step.queue)) (takes y) ++ last_if (follows_them y.step.statement) (some_lane sites (queue_site y.step.queue)) else [] in
      let threads = last_if (is_some y.step.thread) ly in (
        lx + 13,
        gives_thread x b.0 b.1,
        subst (λ (n : ℕ). IsMember n (takes_lanes y)) same
            (in_front (ly + 13) (queues ++ threads) (last_if (is_told y.step.statement) (some_lane sites (after_site y.step.statement)))
            (in_back (ly + 13) queues threads (to_thread y.step.thread ly b.0 b.2))),
      )

  pub lane_of_telling : (x y : Point) → by_telling x y ≡ true → SharesLane x y
  lane_of_telling x y t =
      let b = told_thread y.step.statement x.step.thread t in
      let lx = some_lane sites (thread_site x.step.thread) in
      let ly = some_lane sites (after_site y.step.statement) in
      let same : ly + 13 ≡ lx + 13 =
      ap (λ (n : ℕ). n + 13) (after_lane y.step.statement b.0 b.1 ∙ sym (thread_lane x.step.thread b.0 b.2)) in
      let queues = if is_some y.step.queue then stage_lanes (some_lane sites (queue_site y.step.queue)) (takes y) ++ last_if (follows_them y.step.statement) (some_lane sites (queue_site y.step.queue)) else [] in
      let threads = last_if (is_some y.step.thread) (some_lane sites (thread_site y.step.thread)) in
      let told : is_told y.step.statement ≡ true = ap (λ (s : Statement). is_told s) b.1 in (
        lx + 13,
        gives_thread x b.0 b.2,
        subst (λ (n : ℕ). IsMember n (takes_lanes y)) same
            (in_back (ly + 13) (queues ++ threads) (last_if (is_told y.step.statement) ly) (to_last (is_told y.step.statement) ly told)),
      )
