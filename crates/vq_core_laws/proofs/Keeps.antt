-- What the world of a history keeps.
use Rattle.std.proofs.Common.{
  ◌≡◌,
  ℕ,
  ◌<◌,
  ◌≤◌,
  ◌+◌,
  Bool,
  true,
  false,
  ◌&&◌,
  List,
  [],
  ◌∷◌,
  length,
  Option,
  Some,
  None,
  is_some,
  refl,
  sym,
  ap,
  ◌∙◌,
  inl,
  inr,
  subst,
  arith,
  ◌==◌,
  ◌++◌,
  fold,
  cond,
}
use Rattle.std.specs.List.{slice_get, range_with_len, list_any, list_all, count_by}
use Rattle.std.specs.Option.{option_map_or, option_to_list}
use Rattle.std.proofs.lemmas.Bool.{false≢true, cases_eq, cases_lt, and_parts, or_cases, or_left, or_right, eqb-true}
use Rattle.vq_model.specs.declared.script.ActorName.{ActorName}
use Rattle.vq_model.specs.declared.plan.PlanJob.{PlanJob}
use Rattle.vq_model.specs.declared.plan.Event.{Event}
use Rattle.vq_model.specs.declared.plan.Event.TheVariants.{
  Submit,
  Take,
  Release,
  Bind,
  Refer,
  Look,
  Unref,
  Complete,
  Free,
  Start,
  Apply,
  Signal,
  Finish,
  Answer,
}
use Rattle.vq_model.specs.Lanes.{lane_at}
use Rattle.vq_model.specs.Machine.{put, with_signal, next}
use Rattle.vq_model.specs.Plan.{Plan, chain_of, previous, of_job}
use Rattle.vq_ground.specs.Lists.{has}
use Rattle.vq_model.specs.declared.plan.Op.{Op}
use Rattle.vq_ground.proofs.Gets.{get_within, first_is}
use Rattle.vq_ground.proofs.Lists.{has_here}
use Rattle.vq_ground.proofs.Options.{some_of}
use Rattle.vq_point_laws.specs.HistoryLaws.{last_take}
use Rattle.vq_model.proofs.Puts.{put_here, put_there, put_cases, put_keeps}
use Rattle.vq_model.specs.Naming.{same_actor}
use Rattle.vq_model.proofs.Actors.{same_actor_is}
use Rattle.vq_model.proofs.Plans.{op_within}
use Rattle.vq_history_laws.proofs.Cited.{count_cons}
use Rattle.vq_history_laws.specs.Measure.{one}
use Rattle.vq_point_laws.specs.Points.{
  count_of,
  with_note,
  PointState,
  Reference,
  CanCome,
  CanFinishNow,
  CanStartNow,
  CanRefer,
  after_event,
  holds,
  is_reference,
  next_job,
  needs_resolved,
  opening_points,
  HistoryFrom,
  jobs_of_lane,
  actor_of_lane,
  without_first,
}
use Rattle.vq_point_laws.proofs.Cited.{Links, one_event, at_opening, still_held}
use Rattle.vq_history_laws.specs.Histories.{points_after}
use Rattle.vq_core_laws.proofs.Counts.{put_some_counts}
use Rattle.vq_core_laws.proofs.LaneFacts.{next_of, next_put, IsNextOf}
use Rattle.vq_core_laws.proofs.PlanFacts.{Facts}

-- jobs of a lane run one after another
pub record KeepsTurns (p : Plan) (started finished : ℕ → Bool) : Type 0 where
  pub in_turn : (i j : ℕ) → started j ≡ true → i < j → lane_at p i ≡ lane_at p j → finished i ≡ true
  pub exists : (j : ℕ) → started j ≡ true → j < length p.jobs
  pub was_started : (j : ℕ) → finished j ≡ true → started j ≡ true

-- points and the operations that they carry
pub record KeepsCarried (p : Plan) (points : ℕ) (point_of carried : ℕ → Option ℕ) : Type 0 where
  pub made : (e q : ℕ) → point_of e ≡ Some q → q < points
  pub carries : (q e : ℕ) → carried q ≡ Some e → point_of e ≡ Some q
  pub chain : (q e : ℕ) → carried q ≡ Some e → (t : ℕ) × (chain_of p e ≡ Some t)
  pub few : points ≤ count_by (λ e. is_some (point_of e)) (range_with_len 0 (length p.ops))

-- a held reference is of its actor's next job, which needs its operation
abbrev pub KeepsReferences : Plan → PointState → Type 0
KeepsReferences p w = (a : ActorName) (q e : ℕ) → holds w a q e ≡ true →
    (j : ℕ) × (next_job p w a ≡ Some j) × (0 < needs_resolved p j e)

pub record Keeps (p : Plan) (w : PointState) : Type 0 where
  pub turns : KeepsTurns p w.machine.progress.started w.machine.progress.finished
  pub points : KeepsCarried p w.points w.point_of w.carried
  pub references : KeepsReferences p w
  pub before : List Event
  pub links : Links p before w

module _ (p : Plan) (f : Facts p) (w : PointState) (k : Keeps p w) where
  start_turns : (j : ℕ) → CanStartNow p w j →
      KeepsTurns p (put w.machine.progress.started j true) w.machine.progress.finished
  start_turns j g =
      record {
        in_turn = λ i l s b e. elim (put_cases w.machine.progress.started j l s) [
          | inl h ↦ first i (subst (λ (z : ℕ). i < z) h b) (subst (λ (z : ℕ). lane_at p i ≡ lane_at p z) h e)
          | inr h ↦ k.turns.in_turn i l h b e
        ];
        exists = λ l s. elim (put_cases w.machine.progress.started j l s) [
          | inl h ↦ subst (λ (z : ℕ). z < length p.jobs) (sym h) g.exists
          | inr h ↦ k.turns.exists l h
        ];
        was_started = λ l s. put_keeps w.machine.progress.started j l (k.turns.was_started l s);
      }
    where
      first : (i : ℕ) → i < j → lane_at p i ≡ lane_at p j → w.machine.progress.finished i ≡ true
      first i b e =
          let q = f.lanes.lane i j b g.exists e in
          let done : w.machine.progress.finished q.job ≡ true = by_previous q.job q.is_previous in
          let up = q.at_or_later in
          elim (cases_eq i q.job) [
            | inl s ↦ ap w.machine.progress.finished s ∙ done
            | inr d ↦ k.turns.in_turn i q.job (k.turns.was_started q.job done) (grind arith) (e ∙ sym q.same_lane)
          ]
        where
          by_previous : (l : ℕ) → previous p j ≡ Some l → w.machine.progress.finished l ≡ true
          by_previous l is =
              (and_parts (w.machine.progress.finished l) (list_all w.machine.progress.finished []) (subst (λ (o :
              Option ℕ). list_all w.machine.progress.finished (option_to_list o) ≡ true) is g.lane)).0

  take_points : (e q n : ℕ) → w.point_of e ≡ None → e < length p.ops → (t : ℕ) × (chain_of p e ≡ Some t) → q < n →
      w.points ≤ n → n ≤ w.points + 1 → KeepsCarried p n (put w.point_of e (Some q)) (put w.carried q (Some e))
  take_points e q n without exists of b l m =
      let counts = put_some_counts w.point_of e (length p.ops) q exists without in
      let few = k.points.few in
      record {
        made = λ x r is. elim (cases_eq x e) [
          | inl s ↦
              let same : q ≡ r = let a = sym (put_here w.point_of e (Some q))
              ∙ (ap (put w.point_of e (Some q)) (sym s) ∙ is) in cc in
              omega arith
          | inr d ↦ let old = k.points.made x r (sym (put_there w.point_of e (Some q) x d) ∙ is) in omega arith
        ];
        carries = λ r x is. elim (cases_eq r q) [
          | inl s ↦
              let same : e ≡ x = let a = sym (put_here w.carried q (Some e))
              ∙ (ap (put w.carried q (Some e)) (sym s) ∙ is) in cc in
              ap (put w.point_of e (Some q)) (sym same) ∙ put_here w.point_of e (Some q) ∙ ap Some (sym s)
          | inr d ↦
              let old = k.points.carries r x (sym (put_there w.carried q (Some e) r d) ∙ is) in
              put_there w.point_of e (Some q) x (λ s. let z = sym without ∙ (ap w.point_of (sym s)
              ∙ old) in absurd (cc)) ∙ old
        ];
        chain = λ r x is. elim (cases_eq r q) [
          | inl s ↦
              let same : e ≡ x = let a = sym (put_here w.carried q (Some e))
              ∙ (ap (put w.carried q (Some e)) (sym s) ∙ is) in cc in
              subst (λ (z : ℕ). (t : ℕ) × (chain_of p z ≡ Some t)) same of
          | inr d ↦ k.points.chain r x (sym (put_there w.carried q (Some e) r d) ∙ is)
        ];
        few = omega arith;
      }

  free_points : (q : ℕ) → KeepsCarried p w.points w.point_of (put w.carried q None)
  free_points q =
      record {
        made = k.points.made;
        carries = λ r x is. k.points.carries r x (old r x is);
        chain = λ r x is. k.points.chain r x (old r x is);
        few = k.points.few;
      }
    where
      old : (r x : ℕ) → put w.carried q None r ≡ Some x → w.carried r ≡ Some x
      old r x is = elim (cases_eq r q) [
        | inl s ↦ let a = sym (put_here w.carried q None) ∙ (ap (put w.carried q None) (sym s) ∙ is) in absurd (cc)
        | inr d ↦ sym (put_there w.carried q None r d) ∙ is
      ]

  refer_references : (a : ActorName) (q e : ℕ) → CanRefer p w a q e → (b : ActorName) (r x : ℕ) →
      list_any (is_reference b r x) (record { actor = a; point = q; op = e } ∷ w.held) ≡ true →
      (j : ℕ) × (next_job p w b ≡ Some j) × (0 < needs_resolved p j x)
  refer_references a q e g b r x h = elim (or_cases (is_reference b r x (record { actor = a; point = q; op = e }))
      (list_any (is_reference b r x) w.held) h) [
        | inl t ↦
            let both = and_parts (same_actor b a && (r == q)) (x == e) t in
            let actor = same_actor_is b a (and_parts (same_actor b a) (r == q) both.0).0 in
            let op = eqb-true x e both.1 in
            let more : 0 < needs_resolved p g.job e = (let m = g.wanted in omega arith) in
            (g.job, ap (next_job p w) actor ∙ g.is_next, subst (λ (z : ℕ). 0 < needs_resolved p g.job z) (sym op) more)
        | inr t ↦ k.references b r x t
      ]

  finish_references : (j : ℕ) → CanFinishNow p w j → KeepsReferences p (after_event p w (Finish j))
  finish_references j g a q e h =
      let r = k.references a q e h in
      let n = next_of p w a r.0 r.1 in
      let other : r.0 ≡ j → ⊥ = λ s. own s n in (
        r.0,
        ap (λ o. option_map_or (λ lane. next (put w.machine.progress.finished j true) (jobs_of_lane p lane)) o
            None) n.of_actor ∙ next_put w.machine.progress.finished (jobs_of_lane p n.lane) r.0 j n.is_next other,
        r.2,
      )
    where
      any_actor : (rs : List Reference) → list_any (is_reference a q e) rs ≡ true →
          list_any (λ r. same_actor a r.actor) rs ≡ true
      any_actor [] t = t
      any_actor (x ∷ xs) t = elim (or_cases (is_reference a q e x) (list_any (is_reference a q e) xs) t) [
        | inl i ↦ or_left (same_actor a x.actor) (list_any (λ r. same_actor a r.actor) xs) (and_parts (same_actor a
            x.actor) (q == x.point) (and_parts (same_actor a x.actor && (q == x.point)) (e == x.op) i).0).0
        | inr i ↦ or_right (same_actor a x.actor) (list_any (λ r. same_actor a r.actor) xs) (any_actor xs i)
      ]

      own : {i : ℕ} → i ≡ j → IsNextOf p w a i → ⊥
      own s n =
          let at = ap (slice_get p.jobs) (sym s) ∙ n.of_lane.at in
          let actor = ap actor_of_lane n.of_lane.lane_is ∙ n.actor_is in
          let same : (λ (r : Reference). of_job (λ x. same_actor (actor_of_lane x.lane) r.actor) false p j) ≡ (λ (r :
          Reference). same_actor a r.actor) =
          λ i r. (ap (λ o. option_map_or (λ (x : PlanJob). same_actor (actor_of_lane x.lane) r.actor) o false) at
          ∙ ap (λ b. same_actor b r.actor) actor) i in
          false≢true (sym g.unreferring ∙ (ap (λ t. list_any t w.held) same ∙ any_actor w.held h))

  -- a point that isn't made yet was never taken
  taken_below : (q e : ℕ) → last_take q k.before ≡ Some e → q < w.points
  taken_below q e t = elim (cases_lt q w.points) [
    | inl l ↦ l
    | inr l ↦ let n = sym (k.links.beyond q l).1 ∙ t in absurd (cc)
  ]

  pub free_below : (t q : ℕ) → has (w.free t) q ≡ true → q < w.points
  free_below t q m = let o = (k.links.free_in t q m).1 in taken_below q o.0 o.1

  pub carried_below : (q e : ℕ) → w.carried q ≡ Some e → q < w.points
  carried_below q e c = k.points.made e q (k.points.carries q e c)

  pub keeps_after : (x : Event) → CanCome p w x → Keeps p (after_event p w x)
  keeps_after x g = with_links x g (one_event p k.before w x k.links g).1
    where
      with_links : (x : Event) → CanCome p w x → Links p (x ∷ k.before) (after_event p w x) →
          Keeps p (after_event p w x)
      with_links (Submit j) g l = record {
        turns = k.turns;
        points = k.points;
        references = k.references;
        before =
            Submit j ∷ k.before;
        links = l;
      }
      with_links (Take e q true) g l =
          let n = g.point.1 in
          record {
            turns = k.turns;
            points = take_points e q (w.points + 1) g.without (op_within p e g.chain g.in_chain) (
              g.chain,
              g.in_chain,
            ) (omega arith) (omega arith) (omega arith);
            references = k.references;
            before = Take e q true ∷ k.before;
            links = l;
          }
      with_links (Take e q false) g l =
          let h = first_is (w.free g.chain) q g.point in
          record {
            turns = k.turns;
            points = take_points e q w.points g.without (op_within p e g.chain g.in_chain) (g.chain, g.in_chain)
                (free_below g.chain q (ap (λ zs. has zs q) h.1 ∙ has_here q h.0)) (omega arith) (omega arith);
            references = k.references;
            before = Take e q false ∷ k.before;
            links = l;
          }
      with_links (Release j) g l = record {
        turns = k.turns;
        points = k.points;
        references = k.references;
        before =
            Release j ∷ k.before;
        links = l;
      }
      with_links (Bind e q) g l = record {
        turns = k.turns;
        points = k.points;
        references = k.references;
        before =
            Bind e q ∷ k.before;
        links = l;
      }
      with_links (Refer a q e) g l = record {
        turns = k.turns;
        points = k.points;
        references = refer_references a q e
            g;
        before = Refer a q e ∷ k.before;
        links = l;
      }
      with_links (Look a q e) g l = record {
        turns = k.turns;
        points = k.points;
        references = k.references;
        before =
            Look a q e ∷ k.before;
        links = l;
      }
      with_links (Unref a q e) g l =
          record {
            turns = k.turns;
            points = k.points;
            references = λ b r x h. k.references b r x (still_held (is_reference a q e) (is_reference b r x) w.held h);
            before = Unref a q e ∷ k.before;
            links = l;
          }
      with_links (Complete e) g l = record {
        turns = k.turns;
        points = k.points;
        references = k.references;
        before =
            Complete e ∷ k.before;
        links = l;
      }
      with_links (Free q) g l = record {
        turns = k.turns;
        points = free_points q;
        references = k.references;
        before =
            Free q ∷ k.before;
        links = l;
      }
      with_links (Start j) g l = record {
        turns = start_turns j g;
        points = k.points;
        references = k.references;
        before = Start j ∷ k.before;
        links = l;
      }
      with_links (Apply j c) g l = record {
        turns = k.turns;
        points = k.points;
        references = k.references;
        before =
            Apply j c ∷ k.before;
        links = l;
      }
      with_links (Signal e) g l = by_chain (chain_of p e) l
        where
          by_chain : (o : Option ℕ) → Links p (Signal e ∷ k.before) (record w {
            machine = record w.machine {
              progress
                  = with_signal p w.machine.progress e o;
            };
          }) →
              Keeps p (record w { machine = record w.machine { progress = with_signal p w.machine.progress e o } })
          by_chain None l = record {
            turns = k.turns;
            points = k.points;
            references = k.references;
            before = Signal e
                ∷ k.before;
            links = l;
          }
          by_chain (Some t) l = record {
            turns = k.turns;
            points = k.points;
            references = k.references;
            before =
                Signal e ∷ k.before;
            links = l;
          }
      with_links (Finish j) g l =
          record {
            turns = record {
              in_turn = λ i m s b e. put_keeps w.machine.progress.finished j i (k.turns.in_turn i m s b e);
              exists = k.turns.exists;
              was_started = λ i s. elim (put_cases w.machine.progress.finished j i s) [
                | inl h ↦ ap w.machine.progress.started h ∙ g.step.done.started
                | inr h ↦ k.turns.was_started i h
              ];
            };
            points = k.points;
            references = finish_references j g;
            before = Finish j ∷ k.before;
            links = l;
          }
      with_links (Answer j a) g l = record {
        turns = k.turns;
        points = k.points;
        references = k.references;
        before =
            Answer j a ∷ k.before;
        links = l;
      }

pub keeps_opening : (p : Plan) → Keeps p (opening_points p)
keeps_opening p =
    record {
      turns = record {
        in_turn = λ i j s. absurd (false≢true s);
        exists = λ j s. absurd (false≢true s);
        was_started =
            λ j s. absurd (false≢true s);
      };
      points = record {
        made = λ e q s. let z = s in absurd (cc);
        carries = λ q e s. let z = s in absurd (cc);
        chain = λ q e s. let z = s in absurd (cc);
        few = omega arith;
      };
      references = λ a q e h. absurd (false≢true h);
      before = [];
      links = at_opening p;
    }

keeps_from : (p : Plan) → Facts p → (w : PointState) → Keeps p w → (xs : List Event) → HistoryFrom p w xs →
    Keeps p (fold (after_event p) w xs)
keeps_from p f w k [] r = k
keeps_from p f w k (x ∷ xs) r = keeps_from p f (after_event p w x) (keeps_after p f w k x r.0) xs r.1

pub keeps : (p : Plan) → Facts p → (history : List Event) → HistoryFrom p (opening_points p) history →
    Keeps p (points_after p history)
keeps p f history r = keeps_from p f (opening_points p) (keeps_opening p) history r

pub points_push : (p : Plan) (xs : List Event) (x : Event) →
    points_after p (xs ++ x ∷ []) ≡ after_event p (points_after p xs) x
points_push p xs x = push xs (opening_points p)
  where
    push : (xs : List Event) (w : PointState) →
        fold (after_event p) w (xs ++ x ∷ []) ≡ after_event p (fold (after_event p) w xs) x
    push [] w = refl
    push (y ∷ ys) w = push ys (after_event p w y)

-- no more references are held than events came
pub held_few : (p : Plan) (xs : List Event) → length (points_after p xs).held ≤ length xs
held_few p xs = let h = from xs (opening_points p) in omega arith
  where
    fewer : (test : Reference → Bool) (rs : List Reference) → length (without_first test rs) ≤ length rs
    fewer test [] = omega arith
    fewer test (r ∷ rs) = by_test (test r) (fewer test rs)
      where
        by_test : (b : Bool) → length (without_first test rs) ≤ length rs →
            length (cond b rs (r ∷ without_first test rs)) ≤ length (r ∷ rs)
        by_test true l = omega arith
        by_test false l = omega arith

    signal_same : (w : PointState) (e : ℕ) (o : Option ℕ) →
        length (record w { machine = record w.machine { progress = with_signal p w.machine.progress e o } }).held ≤
        length w.held + 1
    signal_same w e None = omega arith
    signal_same w e (Some t) = omega arith

    once : (w : PointState) (x : Event) → length (after_event p w x).held ≤ length w.held + 1
    once w (Submit j) = omega arith
    once w (Take e q fresh) = omega arith
    once w (Release j) = omega arith
    once w (Bind e q) = omega arith
    once w (Refer a q e) = omega arith
    once w (Look a q e) = omega arith
    once w (Unref a q e) = let l = fewer (is_reference a q e) w.held in omega arith
    once w (Complete e) = omega arith
    once w (Free q) = omega arith
    once w (Start j) = omega arith
    once w (Apply j c) = omega arith
    once w (Signal e) = signal_same w e (chain_of p e)
    once w (Finish j) = omega arith
    once w (Answer j a) = omega arith

    from : (xs : List Event) (w : PointState) → length (fold (after_event p) w xs).held ≤ length w.held + length xs
    from [] w = omega arith
    from (x ∷ xs) w = let a = from xs (after_event p w x) in let b = once w x in omega arith

-- no more references to the point of an operation are made for a job than events came
pub noted_few : (p : Plan) (xs : List Event) (j e : ℕ) → count_of ((points_after p xs).referred j) e ≤ length xs
noted_few p xs j e = let h = from xs (opening_points p) in omega arith
  where
    one_note : (notes : ℕ → List ℕ) (o : Option ℕ) (f : ℕ) →
        count_of (with_note notes o f j) e ≤ count_of (notes j) e + 1
    one_note notes None f = omega arith
    one_note notes (Some i) f = elim (cases_eq j i) [
      | inl s ↦
          let here = ap (λ zs. count_of zs e) (ap (put notes i (f ∷ notes i)) s ∙ put_here notes i (f ∷ notes i)) in
          let same = ap (λ (k : ℕ). count_of (notes k) e) s in
          let c = count_cons (λ y. y == e) f (notes i) in
          let b : one (f == e) ≤ 1 = small (f == e) in
          omega arith
      | inr d ↦ let there = ap (λ zs. count_of zs e) (put_there notes i (f ∷ notes i) j d) in omega arith
    ]
      where
        small : (b : Bool) → one b ≤ 1
        small true = omega arith
        small false = omega arith

    signal_same : (w : PointState) (f : ℕ) (o : Option ℕ) →
        count_of ((record w {
          machine = record w.machine { progress = with_signal p w.machine.progress f o };
        }).referred j) e ≤ count_of (w.referred j) e + 1
    signal_same w f None = omega arith
    signal_same w f (Some t) = omega arith

    once : (w : PointState) (x : Event) → count_of ((after_event p w x).referred j) e ≤ count_of (w.referred j) e + 1
    once w (Submit i) = omega arith
    once w (Take f q fresh) = omega arith
    once w (Release i) = omega arith
    once w (Bind f q) = omega arith
    once w (Refer a q f) = one_note w.referred (next_job p w a) f
    once w (Look a q f) = omega arith
    once w (Unref a q f) = omega arith
    once w (Complete f) = omega arith
    once w (Free q) = omega arith
    once w (Start i) = omega arith
    once w (Apply i c) = omega arith
    once w (Signal f) = signal_same w f (chain_of p f)
    once w (Finish i) = omega arith
    once w (Answer i a) = omega arith

    from : (xs : List Event) (w : PointState) →
        count_of ((fold (after_event p) w xs).referred j) e ≤ count_of (w.referred j) e + length xs
    from [] w = omega arith
    from (x ∷ xs) w = let a = from xs (after_event p w x) in let b = once w x in omega arith
