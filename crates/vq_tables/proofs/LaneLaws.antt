-- What changes of one lane leave of the lanes' table.
use Rattle.std.proofs.Common.{◌≡◌, ℕ, zero, suc, ◌+◌, ◌<◌, ◌==◌, ◌&&◌, Bool, true, false, List, ◌∷◌, length, get_or, set, Some, refl, sym, ap, ◌∙◌, inl, inr, subst, arith}
use Rattle.std.specs.Prelude.{count_by}
use Rattle.std.specs.List.{slice_get, list_any}
use Rattle.std.proofs.lemmas.Bool.{false≢true, eqb-true, eq-eqb, ne_eqb, and_parts, cases_eq, cases_lt}
use Rattle.std.proofs.lemmas.List.{length-set}
use Rattle.vq_model.specs.declared.script.ActorName.{ActorName}
use Rattle.vq_model.specs.declared.plan.Lane.{Lane}
use Rattle.vq_model.specs.declared.plan.Lane.TheVariants.{Host as HostLane, Queue as QueueLane}
use Rattle.vq_model.specs.declared.plan.PlanJob.{PlanJob}
use Rattle.vq_model.specs.Lanes.{lane_number, lane_at}
use Rattle.vq_model.specs.Machine.{put}
use Rattle.vq_model.specs.Plan.{Plan}
use Rattle.vq_ground.proofs.Gets.{get_within, get_some, place_in, get_has}
use Rattle.vq_model.specs.Naming.{same_actor}
use Rattle.vq_model.proofs.Actors.{same_actor_is, same_actor_self}
use Rattle.vq_point_laws.specs.Points.{Reference, jobs_of_lane, actor_of_lane, without_first, is_reference}
use Rattle.vq_core_laws.specs.Firsts.{AreFirst, StandOnce}
use Rattle.vq_core_laws.proofs.Cited.{Facts, put_next, put_other, lane_once, lane_has, in_lane, rising_less, lane_rises, lane_at_is}
use Rattle.vq_tables.specs.declared.lanes.LaneState.{LaneState}
use Rattle.vq_tables.specs.Lanes.{AreLanes, IsLane, lane_named, no_lane}
use Rattle.vq_tables.proofs.LaneNext.{named, own}
use Rattle.vq_tables.proofs.TableLaws.{set_each, count_more, count_other, count_less, count_same}

number_named : (n : ℕ) → lane_number (lane_named n) ≡ n
number_named zero = refl
number_named (suc q) = omega arith

pub named_once : (n : ℕ) (l : Lane) → lane_named n ≡ l → n ≡ lane_number l
named_once n l e = sym (number_named n) ∙ ap lane_number e

actor_once : (l m : Lane) → actor_of_lane l ≡ actor_of_lane m → l ≡ m
actor_once HostLane HostLane e = refl
actor_once HostLane (QueueLane r) e = absurd (let z = e in cc)
actor_once (QueueLane q) HostLane e = absurd (let z = e in cc)
actor_once (QueueLane q) (QueueLane r) e = let s : q ≡ r = let z = e in cc in ap (λ (n : ℕ). QueueLane n) s

module _ (p : Plan) (f : Facts p) (released finished : ℕ →
    Bool) (held : List Reference) (xs : List LaneState) (are : AreLanes p released finished held xs) where
  module _ (j : ℕ) (x : PlanJob) (at : slice_get p.jobs j ≡ Some x) where
    old : IsLane p released finished held x.lane (get_or xs (lane_number x.lane) no_lane)
    old = own p released finished held xs are j x at

    pub lane_within : lane_number x.lane < length xs
    lane_within =
        let e = f.lanes.lane_exists j in
        let i = lane_at_is p x.lane j (in_lane p x.lane j (lane_has p j x (get_within p.jobs j x at) at)) in
        let n = are.count in
        omega arith

    -- a job isn't of another lane
    not_in : (k : ℕ) → (k ≡ lane_number x.lane → ⊥) → (i : ℕ) → slice_get (jobs_of_lane p (lane_named k)) i ≡ Some j → ⊥
    not_in k n i e =
        let m = in_lane p (lane_named k) j (get_has (jobs_of_lane p (lane_named k)) i j e) in
        let same : m.job ≡ x = let z = sym m.at ∙ at in cc in
        n (named_once k x.lane (sym m.lane_is ∙ ap (λ (y : PlanJob). y.lane) same))

    pub lane_released : slice_get (get_or xs (lane_number x.lane) no_lane).jobs (get_or xs (lane_number x.lane)
        no_lane).released ≡ Some j → AreLanes p (put released j true) finished held (set xs (lane_number x.lane)
        (record (get_or xs (lane_number x.lane) no_lane) {
          released = (get_or xs (lane_number x.lane)
              no_lane).released + 1;
        }))
    lane_released next =
        let s = get_or xs (lane_number x.lane) no_lane in
        record {
          count = length-set xs (lane_number x.lane) (record s { released = s.released + 1 }) ∙ are.count;
          each = set_each (λ n y. IsLane p released finished held (lane_named n) y) (λ n y. IsLane p (put released j
              true) finished held (lane_named n) y) xs no_lane (record s { released = s.released + 1 }) (lane_number
              x.lane) lane_within are.each
              (subst (λ (l : Lane). IsLane p (put released j true) finished held l (record s {
                released = s.released
                    + 1;
              })) (sym (named x.lane))
              (record {
                jobs = old.jobs;
                first_released = put_next released s.jobs s.released j old.first_released
                    (subst StandOnce (sym old.jobs) (lane_once p x.lane)) next;
                first_finished = old.first_finished;
                references = old.references;
              }))
              (λ n d y h. record {
                jobs = h.jobs;
                first_released = put_other released y.jobs y.released j
                    h.first_released (λ i e. not_in n d i (ap (λ js. slice_get js i) (sym h.jobs)
                    ∙ e));
                first_finished = h.first_finished;
                references = h.references;
              });
        }

    pub lane_finished : slice_get (get_or xs (lane_number x.lane) no_lane).jobs (get_or xs (lane_number x.lane)
        no_lane).finished ≡ Some j → AreLanes p released (put finished j true) held (set xs (lane_number x.lane)
        (record (get_or xs (lane_number x.lane) no_lane) {
          finished = (get_or xs (lane_number x.lane)
              no_lane).finished + 1;
        }))
    lane_finished next =
        let s = get_or xs (lane_number x.lane) no_lane in
        record {
          count = length-set xs (lane_number x.lane) (record s { finished = s.finished + 1 }) ∙ are.count;
          each = set_each (λ n y. IsLane p released finished held (lane_named n) y) (λ n y. IsLane p released (put
              finished j true) held (lane_named n) y) xs no_lane (record s { finished = s.finished + 1 })
              (lane_number x.lane) lane_within are.each
              (subst (λ (l : Lane). IsLane p released (put finished j true) held l (record s {
                finished = s.finished
                    + 1;
              })) (sym (named x.lane))
              (record {
                jobs = old.jobs;
                first_released = old.first_released;
                first_finished = put_next finished
                    s.jobs s.finished j old.first_finished (subst StandOnce (sym old.jobs) (lane_once p x.lane)) next;
                references = old.references;
              }))
              (λ n d y h. record {
                jobs = h.jobs;
                first_released = h.first_released;
                first_finished = put_other
                    finished y.jobs y.finished j h.first_finished (λ i e. not_in n d i (ap (λ js. slice_get js i) (sym
                    h.jobs) ∙ e));
                references = h.references;
              });
        }

    -- the references that the lane's actor holds are these, and those of all others stay
    pub lane_referred : (new : List Reference) (n : ℕ) →
        n ≡ count_by (λ r. same_actor (actor_of_lane x.lane) r.actor) new → ((l : Lane) → (l ≡ x.lane → ⊥) →
        count_by (λ r. same_actor (actor_of_lane l) r.actor) new ≡ count_by (λ r. same_actor (actor_of_lane l)
        r.actor) held) → AreLanes p released finished new (set xs (lane_number x.lane) (record (get_or xs
        (lane_number x.lane) no_lane) { held = n }))
    lane_referred new n is same =
        let s = get_or xs (lane_number x.lane) no_lane in
        record {
          count = length-set xs (lane_number x.lane) (record s { held = n }) ∙ are.count;
          each = set_each (λ n y. IsLane p released finished held (lane_named n) y) (λ n y. IsLane p released
              finished new (lane_named n) y) xs no_lane (record s { held = n }) (lane_number x.lane) lane_within
              are.each
              (subst (λ (l : Lane). IsLane p released finished new l (record s { held = n })) (sym (named x.lane))
              (record {
                jobs = old.jobs;
                first_released = old.first_released;
                first_finished = old.first_finished;
                references = is;
              }))
              (λ k d y h. record {
                jobs = h.jobs;
                first_released = h.first_released;
                first_finished =
                    h.first_finished;
                references = h.references
                    ∙ sym (same (lane_named k) (λ e. d (named_once k x.lane e)));
              });
        }

    -- the job that is finished is the first of its lane that wasn't
    pub finished_place : finished j ≡ false → ((i : ℕ) → i < j → lane_at p i ≡ lane_at p j → finished i ≡ true) →
        slice_get (get_or xs (lane_number x.lane) no_lane).jobs (get_or xs (lane_number x.lane) no_lane).finished ≡
        Some j
    finished_place open_ before =
        let s = get_or xs (lane_number x.lane) no_lane in
        let place = place_in (jobs_of_lane p x.lane) j (lane_has p j x (get_within p.jobs j x at) at) in
        at_place s (subst (λ js. AreFirst finished js s.finished) old.jobs old.first_finished) old.jobs place.0 place.1
      where
        at_place : (s : LaneState) → AreFirst finished (jobs_of_lane p x.lane) s.finished →
            s.jobs ≡ jobs_of_lane p x.lane → (i : ℕ) → slice_get (jobs_of_lane p x.lane) i ≡ Some j →
            slice_get s.jobs s.finished ≡ Some j
        at_place s first jobs i is = elim (cases_lt i s.finished) [
          | inl m ↦ absurd (false≢true (sym open_ ∙ first.before i j is m))
          | inr m ↦ elim (cases_eq i s.finished) [
            | inl e ↦ ap (λ js. slice_get js s.finished) jobs ∙ (ap (slice_get (jobs_of_lane p x.lane)) (sym e) ∙ is)
            | inr d ↦ absurd (behind (grind arith))
          ]
        ]
          where
            behind : s.finished < i → ⊥
            behind m =
                let w = get_within (jobs_of_lane p x.lane) i j is in
                let y = get_some (jobs_of_lane p x.lane) s.finished (omega arith) in
                let less = rising_less (jobs_of_lane p x.lane) (lane_rises p x.lane) s.finished i y.0 j y.1 is m in
                let mine = lane_at_is p x.lane j (in_lane p x.lane j (get_has (jobs_of_lane p x.lane) i j is)) in
                let other = lane_at_is p x.lane y.0 (in_lane p x.lane y.0 (get_has (jobs_of_lane p x.lane) s.finished
                y.0 y.1)) in
                false≢true (sym (first.after s.finished y.0 y.1 (omega arith)) ∙ before y.0 less (other ∙ sym mine))

-- References of one actor

pub actor_more : (a : ActorName) (q e : ℕ) (rs : List Reference) →
    count_by (λ (r : Reference). same_actor a r.actor) (record { actor = a; point = q; op = e } ∷ rs) ≡ count_by (λ
    (r : Reference). same_actor a r.actor) rs + 1
actor_more a q e rs = count_more (λ (r : Reference). same_actor a r.actor) (record { actor = a; point = q; op = e })
    rs (same_actor_self a)

apart : (l m : Lane) → (l ≡ m → ⊥) → same_actor (actor_of_lane l) (actor_of_lane m) ≡ false
apart l m n = by_test (same_actor (actor_of_lane l) (actor_of_lane m)) refl
  where
    by_test : (b : Bool) → same_actor (actor_of_lane l) (actor_of_lane m) ≡ b → b ≡ false
    by_test false h = refl
    by_test true h = absurd (n (actor_once l m (same_actor_is (actor_of_lane l) (actor_of_lane m) h)))

pub others_more : (m : Lane) (q e : ℕ) (rs : List Reference) (l : Lane) → (l ≡ m → ⊥) →
    count_by (λ (r : Reference). same_actor (actor_of_lane l) r.actor) (record {
      actor = actor_of_lane m;
      point = q;
      op = e;
    } ∷ rs) ≡ count_by (λ (r : Reference). same_actor (actor_of_lane l) r.actor) rs
others_more m q e rs l n = count_other (λ (r : Reference). same_actor (actor_of_lane l) r.actor) (record {
  actor =
      actor_of_lane m;
  point = q;
  op = e;
}) rs (apart l m n)

pub actor_less : (a : ActorName) (q e : ℕ) (rs : List Reference) → list_any (is_reference a q e) rs ≡ true →
    count_by (λ (r : Reference). same_actor a r.actor) (without_first (is_reference a q e) rs) + 1 ≡ count_by (λ (r :
    Reference). same_actor a r.actor) rs
actor_less a q e rs h =
    count_less (is_reference a q e) (λ (r : Reference). same_actor a r.actor) rs h (λ r t. (and_parts (same_actor a
    r.actor) (q == r.point) (and_parts (same_actor a r.actor && (q == r.point)) (e == r.op) t).0).0)

pub others_less : (m : Lane) (q e : ℕ) (rs : List Reference) (l : Lane) → (l ≡ m → ⊥) →
    count_by (λ (r : Reference). same_actor (actor_of_lane l) r.actor) (without_first (is_reference (actor_of_lane m)
    q e) rs) ≡ count_by (λ (r : Reference). same_actor (actor_of_lane l) r.actor) rs
others_less m q e rs l n =
    count_same (is_reference (actor_of_lane m) q e) (λ (r : Reference). same_actor (actor_of_lane l) r.actor) rs (λ r t.
    let actor = same_actor_is (actor_of_lane m) r.actor (and_parts (same_actor (actor_of_lane m) r.actor) (q ==
    r.point) (and_parts (same_actor (actor_of_lane m) r.actor && (q == r.point)) (e == r.op) t).0).0 in
    ap (same_actor (actor_of_lane l)) (sym actor) ∙ apart l m n)

pub point_more : (a : ActorName) (q e : ℕ) (rs : List Reference) →
    count_by (λ (r : Reference). r.point == q) (record { actor = a; point = q; op = e } ∷ rs) ≡ count_by (λ (r :
    Reference). r.point == q) rs + 1
point_more a q e rs = count_more (λ (r : Reference). r.point == q) (record { actor = a; point = q; op = e }) rs
    (eq-eqb q q refl)

pub points_more : (a : ActorName) (q e : ℕ) (rs : List Reference) (k : ℕ) → (k ≡ q → ⊥) →
    count_by (λ (r : Reference). r.point == k) (record { actor = a; point = q; op = e } ∷ rs) ≡ count_by (λ (r :
    Reference). r.point == k) rs
points_more a q e rs k n = count_other (λ (r : Reference). r.point == k) (record { actor = a; point = q; op = e }) rs
    (ne_eqb q k (λ h. n (sym h)))

point_is : (a : ActorName) (q e : ℕ) (r : Reference) → is_reference a q e r ≡ true → q ≡ r.point
point_is a q e r t = eqb-true q r.point (and_parts (same_actor a r.actor) (q == r.point) (and_parts (same_actor a
    r.actor && (q == r.point)) (e == r.op) t).0).1

pub point_less : (a : ActorName) (q e : ℕ) (rs : List Reference) → list_any (is_reference a q e) rs ≡ true →
    count_by (λ (r : Reference). r.point == q) (without_first (is_reference a q e) rs) + 1 ≡ count_by (λ (r :
    Reference). r.point == q) rs
point_less a q e rs h =
    count_less (is_reference a q e) (λ (r : Reference). r.point == q) rs h (λ r t. eq-eqb r.point q (sym (point_is a
    q e r t)))

pub points_less : (a : ActorName) (q e : ℕ) (rs : List Reference) (k : ℕ) → (k ≡ q → ⊥) →
    count_by (λ (r : Reference). r.point == k) (without_first (is_reference a q e) rs) ≡ count_by (λ (r : Reference).
    r.point == k) rs
points_less a q e rs k n =
    count_same (is_reference a q e) (λ (r : Reference). r.point == k) rs (λ r t. ne_eqb r.point k (λ h. n (sym h
    ∙ sym (point_is a q e r t))))
