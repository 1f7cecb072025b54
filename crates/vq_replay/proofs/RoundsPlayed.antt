-- Rounds, one after another, until all jobs are finished.
use Rattle.std.proofs.Common.{◌≡◌, ℕ, suc, ◌+◌, ◌-◌, ◌<◌, ◌≤◌, ◌^◌, ◌↔◌, inl, inr, Bool, true, false, IsTrue, List, [], ◌++◌, length}
use Rattle.std.proofs.Common.{refl, sym, subst, ap, ◌∙◌, append_assoc, arith}
use Rattle.std.proofs.lemmas.Bool.{cases_eq, cases_lt, false≢true}
use Rattle.std.proofs.lemmas.List.{length-append}
use Rattle.vq_model.specs.declared.script.ActorName.{ActorName}
use Rattle.vq_model.specs.declared.plan.Event.{Event}
use Rattle.vq_model.specs.Plan.{Plan}
use Rattle.vq_model.specs.Checks.{IsLawful}
use Rattle.vq_model.specs.LoweredPlans.{IsPlan}
use Rattle.vq_model.specs.Machine.{AreFinished}
use Rattle.vq_point_laws.specs.Points.{opening_points}
use Rattle.vq_history_laws.specs.Histories.{acts}
use Rattle.vq_turns.specs.Turns.{Scene, first_scene}
use Rattle.vq_progress_laws.specs.Movers.{round, rounds_of}
use Rattle.vq_progress_laws.specs.Scenes.{FinishIn, scene_after}
use Rattle.vq_progress_laws.proofs.Cited.{few_acts, few_turns, opening_scene, rounds_end, rounds_more}
use Rattle.vq_core.specs.CoreState.{Course, world}
use Rattle.vq_core_run.specs.Casts.{Cast, first_places, places, scene}
use Rattle.vq_replay.specs.declared.played.Played.{Played}
use Rattle.vq_replay.specs.declared.rests.Rest.{Rest}
use Rattle.vq_replay.specs.Passages.{AreUnderWay, HasGone, LeadsTo}
use Rattle.vq_replay.specs.Resting.{AreKnown}
use Rattle.vq_replay.specs.Rounds.{HaveFinished, moved_from, moved_turns}
use Rattle.vq_replay.proofs.Passages.{leads_first, leads_on}

abbrev first : Plan → Scene
first p = first_scene (opening_points p)

-- all jobs are finished in a scene
abbrev IsEnd : Plan → Scene → Type 0
IsEnd p s = AreFinished p s.world.machine.progress

-- .. and in a cast
abbrev IsEndOf : Cast → Type 0
IsEndOf x = AreFinished x.course.plan (world x.course).machine.progress

-- What a core tells of its end.
module _ (x : Cast) (c : Course) (same : c ≡ x.course) (told : Bool)
    (iff : IsTrue told ↔ AreFinished c.plan (world c).machine.progress) where
  pub told_end : told ≡ true → IsEndOf x
  told_end is = subst (λ (d : Course). AreFinished d.plan (world d).machine.progress) same (iff.0 is)

  pub told_left : told ≡ false → ¬ IsEndOf x
  told_left is done =
      let yes : told ≡ true =
      iff.1 (subst (λ (d : Course). AreFinished d.plan (world d).machine.progress) (sym same) done) in
      false≢true (sym is ∙ yes)

grown : (p : Plan) (n : ℕ) → rounds_of n p ++ round p ≡ rounds_of (n + 1) p
grown p n =
    let next : suc n ≡ n + 1 = omega arith in
    sym (rounds_more p n) ∙ ap (λ (m : ℕ). rounds_of m p) next

-- Before the first round.
pub gone_first : (p : Plan) (x : Cast) → x.course ≡ record { plan = p; history = [] } → places x ≡ first_places →
    HasGone p 0 0 x []
gone_first p x new at =
    record {
      leads = leads_first p x new at;
      count = refl;
      left = λ m less. absurd (omega arith);
    }

module _ (p : Plan) (n turns : ℕ) (x : Cast) (played : List Played) (h : HasGone p n turns x played) where
  end_there : IsEndOf x → IsEnd p (scene_after p (first p) (rounds_of n p))
  end_there done =
      subst (IsEnd p) h.leads.there (subst (λ (q : Plan). IsEnd q (scene x)) h.leads.plan done)

  end_here : IsEnd p (scene_after p (first p) (rounds_of n p)) → IsEndOf x
  end_here done =
      subst (λ (q : Plan). IsEnd q (scene x)) (sym h.leads.plan) (subst (IsEnd p) (sym h.leads.there) done)

  -- One round more.
  pub goes_round : ¬ IsEndOf x → (y : Cast) (more : List Played) (m : ℕ) →
      LeadsTo x.course.plan (scene x) x.course.history turns (round p) played y more → m ≡ turns + length (round p) →
      HasGone p (n + 1) m y more
  goes_round unfinished y more m k e =
      let count = h.count in
      let number : turns ≡ 0 + length (rounds_of n p) = omega arith in
      let both = length-append (rounds_of n p) (round p) in
      let all = ap (λ (us : List ActorName). length us) (grown p n) in
      record {
        leads = subst (λ (us : List ActorName). LeadsTo p (first p) [] 0 us [] y more) (grown p n)
            (leads_on p (first p) [] 0 (rounds_of n p) [] x played h.leads (round p) y more
            (subst (λ (k : ℕ). LeadsTo x.course.plan (scene x) x.course.history k (round p) played y more) number k));
        count = omega arith;
        left = still_left;
      }
    where
      still_left : (k : ℕ) → k < n + 1 → IsEnd p (scene_after p (first p) (rounds_of k p)) → ⊥
      still_left k less done =
          elim (cases_lt k n) [
            | inl l ↦ h.left k l done
            | inr l ↦
                let same : k ≡ n = omega arith in
                unfinished (end_here (subst (λ (i : ℕ). IsEnd p (scene_after p (first p) (rounds_of i p))) same done))
          ]

  module _ (i : IsPlan p) (l : IsLawful p) where
    -- as many rounds as the law names
    least : (r : ℕ) × (r ≤ acts p) × FinishIn p (first p) r
    least =
        let r = rounds_end p i l (first p) [] (opening_scene p) in
        let few = r.1 in
        (r.0, omega arith, r.2)

    -- no fewer than these
    no_fewer : n ≤ least.0
    no_fewer = elim (cases_lt least.0 n) [ inl l ↦ absurd (h.left least.0 l least.2.finished) | inr l ↦ l ]

    -- Where jobs are left these aren't all rounds, ..
    one_left : ¬ IsEndOf x → n + 1 ≤ acts p
    one_left unfinished =
        let few = least.1 in
        let all = no_fewer in
        elim (cases_eq n least.0) [
          | inl same ↦
              absurd (unfinished (end_here (subst (λ (k : ℕ). IsEnd p (scene_after p (first p) (rounds_of k p)))
              (sym same) least.2.finished)))
          | inr other ↦ omega arith
        ]

    -- .. so that the turns of one more can be counted, ..
    pub countable : ¬ IsEndOf x → (us : List ActorName) → us ≡ round p → turns + length us < 2 ^ 32
    countable unfinished us is =
        let count = h.count in
        let few = few_turns p i (n + 1) (one_left unfinished) in
        let both = length-append (rounds_of n p) (round p) in
        let all = ap (λ (vs : List ActorName). length vs) (grown p n) in
        let same = ap (λ (vs : List ActorName). length vs) is in
        omega arith

    -- .. and no loop over all numbers of 32 bits comes to its end.
    pub never_past : 2 ^ 32 - 1 ≤ n → ⊥
    never_past past =
        let few = few_acts p i in
        let within = least.1 in
        h.left least.0 (omega arith) least.2.finished

    -- Where no job is left these are all rounds.
    pub have_finished : IsEndOf x → HaveFinished p played x.course
    have_finished done =
        let few = least.1 in
        let all = no_fewer in
        record {
          rounds = n;
          few = omega arith;
          finish = record { finished = end_there done; first = h.left };
          moved = h.leads.moved;
          course = ap (λ (q : Plan). with_history q x.course.history) h.leads.plan
              ∙ ap (with_history p) h.leads.history;
          finished = subst (λ (q : Plan). AreFinished q (world x.course).machine.progress) h.leads.plan done;
        }
      where
        with_history : Plan → List Event → Course
        with_history q es = record { plan = q; history = es }

-- Rounds under way

-- the same turns, kept behind others
rebased : (p : Plan) (s : Scene) (before : List Event) (n : ℕ) (actors : List ActorName) (were other : List Played)
    (x : Cast) (played : List Played) → LeadsTo p s before n actors were x played →
    LeadsTo p s before n actors other x (other ++ moved_from p (n + 1) s actors)
rebased p s before n actors were other x played h =
    record { plan = h.plan; there = h.there; moved = refl; history = h.history }

-- Before the first round.
pub under_way_first : (p : Plan) (x : Cast) (rests : List Rest) (each : List ActorName) →
    x.course ≡ record { plan = p; history = [] } → places x ≡ first_places →
    AreKnown x.course.plan (scene x) each rests → each ≡ round p → AreUnderWay x.course.plan 0 0 x rests each
under_way_first p x rests each new at known actors =
    subst (λ (q : Plan). AreUnderWay q 0 0 x rests each) (sym (ap (λ (c : Course). c.plan) new))
    (record { gone = gone_first p x new at; known = known; actors = actors })

module _ (n turns : ℕ) (x : Cast) (rests : List Rest) (each : List ActorName)
    (u : AreUnderWay x.course.plan n turns x rests each) (unfinished : ¬ IsEndOf x) where
  -- One round more.
  module _ (were more : List Played) (y : Cast) (later : List Rest) (m : ℕ) (count : m ≡ turns + length each)
      (k : LeadsTo x.course.plan (scene x) x.course.history turns each were y more)
      (known : AreKnown y.course.plan (scene y) each later) where
    abbrev q : Plan
    q = x.course.plan

    in_round : LeadsTo q (scene x) x.course.history turns (round q) were y more
    in_round = subst (λ (us : List ActorName). LeadsTo q (scene x) x.course.history turns us were y more) u.actors k

    abbrev last : List Played
    last = moved_from q (turns + 1) (scene x) (round q)

    gone : HasGone q (n + 1) m y (moved_turns q n ++ last)
    gone =
        goes_round q n turns x (moved_turns q n) u.gone unfinished y (moved_turns q n ++ last) m
        (rebased q (scene x) x.course.history turns (round q) were (moved_turns q n) y more in_round)
        (count ∙ ap (λ (us : List ActorName). turns + length us) u.actors)

    all_moved : moved_turns q n ++ last ≡ moved_turns q (n + 1)
    all_moved = gone.leads.moved

    pub under_way_more : AreUnderWay y.course.plan (n + 1) m y later each
    under_way_more =
        subst (λ (r : Plan). AreUnderWay r (n + 1) m y later each) (sym gone.leads.plan)
        (record {
          gone = subst (HasGone q (n + 1) m y) all_moved gone;
          known = known;
          actors = u.actors;
        })

    pub kept_more : (before : List Played) → before ++ were ≡ moved_turns x.course.plan n →
        before ++ more ≡ moved_turns x.course.plan (n + 1)
    kept_more before is =
        ap (λ (ps : List Played). before ++ ps) in_round.moved
        ∙ (sym (append_assoc before were last) ∙ (ap (λ (ps : List Played). ps ++ last) is ∙ all_moved))

  -- It can be counted.
  pub few_rounds : IsPlan x.course.plan → IsLawful x.course.plan → n + 1 < 2 ^ 32
  few_rounds i l =
      let one = one_left x.course.plan n turns x (moved_turns x.course.plan n) u.gone i l unfinished in
      let few = few_acts x.course.plan i in
      omega arith

  pub few_turns_more : IsPlan x.course.plan → IsLawful x.course.plan → turns + length each < 2 ^ 32
  few_turns_more i l =
      countable x.course.plan n turns x (moved_turns x.course.plan n) u.gone i l unfinished each u.actors

-- What a call that plays to the end has: so many rounds of a plan, and which turns are kept.
module _ (p : Plan) (n count turns : ℕ) (x : Cast) (rests : List Rest) (each : List ActorName)
    (u : AreUnderWay x.course.plan n turns x rests each) (of_plan : x.course.plan ≡ p) (rounds : n ≡ count) where
  gone_there : HasGone p count turns x (moved_turns p count)
  gone_there =
      subst (λ (m : ℕ). HasGone p m turns x (moved_turns p m)) rounds
      (subst (λ (q : Plan). HasGone q n turns x (moved_turns q n)) of_plan u.gone)

  pub all_finished : IsPlan p → IsLawful p → IsEndOf x → (played : List Played) → played ≡ moved_turns p count →
      HaveFinished p played x.course
  all_finished i l done played is =
      subst (λ (ps : List Played). HaveFinished p ps x.course) (sym is)
      (have_finished p count turns x (moved_turns p count) gone_there i l done)

  pub not_past : IsPlan p → IsLawful p → 2 ^ 32 - 1 ≤ count → ⊥
  not_past i l past = never_past p count turns x (moved_turns p count) gone_there i l past

-- the same of the plan and the count of a call
pub kept_on : (p q : Plan) (n m : ℕ) → q ≡ p → n ≡ m → (were more : List Played) →
    ((before : List Played) → before ++ were ≡ moved_turns q n → before ++ more ≡ moved_turns q (n + 1)) →
    (before : List Played) → before ++ were ≡ moved_turns p m → before ++ more ≡ moved_turns p (m + 1)
kept_on p q n m of_plan rounds were more f =
    subst (λ (z : Plan × ℕ). (before : List Played) → before ++ were ≡ moved_turns z.0 z.1 →
    before ++ more ≡ moved_turns z.0 (z.1 + 1)) (λ k. (of_plan k, rounds k)) f
