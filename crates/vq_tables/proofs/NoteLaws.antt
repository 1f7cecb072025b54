-- What changes leave of the notes on references.
use Rattle.std.proofs.Common.{◌≡◌, ℕ, zero, suc, ◌+◌, ◌-◌, ◌<◌, ◌==◌, ◌&&◌, not, Bool, true, false, List, [], ◌∷◌, length, get_or, set, Option, Some, None, refl, sym, ap, ◌∙◌, inl, inr, subst, arith}
use Rattle.std.specs.Prelude.{count_by}
use Rattle.std.specs.List.{slice_get, list_any, position_or_len}
use Rattle.std.specs.Option.{option_map_or}
use Rattle.std.proofs.lemmas.Bool.{false≢true, eqb-true, eq-eqb, ne_eqb, and_parts, and_from, cases_eq, cases_lt, or_cases, or_left, or_right, cond-true, cond-false}
use Rattle.std.proofs.lemmas.List.{length-set, get_or-set_same, get_or-set_other}
use Rattle.std.proofs.lemmas.List.Sums.{sum_by-cons}
use Rattle.std.proofs.lemmas.Option.{slice_get_past}
use Rattle.vq_model.specs.declared.script.ActorName.{ActorName}
use Rattle.vq_model.specs.declared.script.ActorName.TheVariants.{Host as HostActor, Submit as SubmitActor, Ring as RingActor}
use Rattle.vq_model.specs.declared.plan.Lane.{Lane}
use Rattle.vq_model.specs.declared.plan.Lane.TheVariants.{Host as HostLane, Queue as QueueLane}
use Rattle.vq_model.specs.declared.plan.Need.{Need}
use Rattle.vq_model.specs.declared.plan.PlanJob.{PlanJob}
use Rattle.vq_model.specs.Machine.{next, put}
use Rattle.vq_model.specs.Plan.{Plan, needs, resolver}
use Rattle.vq_ground.proofs.Gets.{get_within, get_some}
use Rattle.vq_model.proofs.Puts.{put_here, put_there}
use Rattle.vq_ground.proofs.Searches.{find_member}
use Rattle.vq_model.specs.Naming.{same_actor}
use Rattle.vq_model.proofs.Actors.{same_actor_is, same_actor_self}
use Rattle.vq_history_laws.proofs.Cited.{counted_any}
use Rattle.vq_history_laws.specs.Measure.{one}
use Rattle.vq_point_laws.specs.Points.{Reference, jobs_of_lane, actor_of_lane, resolves, needs_resolved, count_of, is_reference, without_first}
use Rattle.vq_core_laws.proofs.Cited.{in_lane, next_put, next_none}
use Rattle.vq_tables.specs.declared.notes.Note.{Note}
use Rattle.vq_tables.specs.Notes.{AreNotes, IsNote, place_in, next_by, held_by, no_note}
use Rattle.vq_tables.proofs.TableLaws.{count_more, count_other, count_less, count_same}

-- where the first stands that passes a test
record PassesAt (test : Need → Bool) (xs : List Need) : Type 0 where
  need : Need
  at : slice_get xs (position_or_len test xs) ≡ Some need
  passes : test need ≡ true

passes_at : (test : Need → Bool) (xs : List Need) → list_any test xs ≡ true → PassesAt test xs
passes_at test [] h = absurd (false≢true h)
passes_at test (x ∷ xs) h = by_test (test x) refl (passes_at test xs)
  where
    by_test : (b : Bool) → test x ≡ b → (list_any test xs ≡ true → PassesAt test xs) → PassesAt test (x ∷ xs)
    by_test true e f =
        record {
          need = x;
          at = ap (slice_get (x ∷ xs)) (cond-false (not (test x)) (1 + position_or_len test xs) 0 (ap not e));
          passes = e;
        }
    by_test false e f =
        let r = f (elim (or_cases (test x) (list_any test xs) h) [
          | inl t ↦ absurd (false≢true (sym e
              ∙ t))
          | inr t ↦ t
        ]) in
        record {
          need = r.need;
          at = ap (slice_get (x ∷ xs)) (cond-true (not (test x)) (1 + position_or_len test xs) 0 (ap not e)
              ∙ one_more (position_or_len test xs)) ∙ r.at;
          passes = r.passes;
        }
      where
        one_more : (n : ℕ) → 1 + n ≡ suc n
        one_more n = omega arith

module _ (p : Plan) (j : ℕ) where
  place_of : (e : ℕ) → 0 < needs_resolved p j e → PassesAt (resolves p e) (needs p j)
  place_of e l = passes_at (resolves p e) (needs p j) (counted_any (resolves p e) (needs p j) l)

  pub place_within : (e : ℕ) → 0 < needs_resolved p j e → place_in p j e < length (needs p j)
  place_within e l = let r = place_of e l in get_within (needs p j) (place_in p j e) r.need r.at

  resolved : (e : ℕ) (n : Need) → resolves p e n ≡ true → resolver p n.chain n.value ≡ Some e
  resolved e n h = by_option (resolver p n.chain n.value) h
    where
      by_option : (o : Option ℕ) → option_map_or (λ r. r == e) o false ≡ true → o ≡ Some e
      by_option None h = absurd (false≢true h)
      by_option (Some r) h = ap Some (eqb-true r e h)

  -- two operations have two places
  places_apart : (e g : ℕ) → 0 < needs_resolved p j e → 0 < needs_resolved p j g → (g ≡ e → ⊥) →
      place_in p j g ≡ place_in p j e → ⊥
  places_apart e g l m n same =
      let x = place_of e l in
      let y = place_of g m in
      let one : x.need ≡ y.need = let z = sym x.at ∙ (ap (slice_get (needs p j)) (sym same) ∙ y.at) in cc in
      let a = resolved e x.need x.passes in
      let b = resolved g y.need y.passes in
      let c = sym b ∙ (ap (λ (k : Need). resolver p k.chain k.value) (sym one) ∙ a) in
      let d : g ≡ e = cc in
      n d

  pub job_there : (e : ℕ) → 0 < needs_resolved p j e → j < length p.jobs
  job_there e l = elim (cases_lt j (length p.jobs)) [
    | inl m ↦ m
    | inr m ↦
        let none = ap (λ o. option_map_or (λ (x : PlanJob). x.needs) o []) (slice_get_past p.jobs j m) in
        let zero = ap (count_by (resolves p e)) none in
        absurd (omega arith)
  ]

-- an actor whose next job is of a lane is that lane's
pub next_actor : (p : Plan) (finished : ℕ → Bool) (a : ActorName) (j : ℕ) (x : PlanJob) →
    slice_get p.jobs j ≡ Some x → next_by p finished a ≡ Some j → a ≡ actor_of_lane x.lane
next_actor p finished a j x at h = by_actor a h
  where
    lane_of : (l : Lane) → next finished (jobs_of_lane p l) ≡ Some j → l ≡ x.lane
    lane_of l h =
        let k = in_lane p l j (find_member (λ y. not (finished y)) (jobs_of_lane p l) j h) in
        let same : k.job ≡ x = let z = sym k.at ∙ at in cc in
        sym k.lane_is ∙ ap (λ (y : PlanJob). y.lane) same

    by_actor : (a : ActorName) → next_by p finished a ≡ Some j → a ≡ actor_of_lane x.lane
    by_actor HostActor h = ap actor_of_lane (lane_of HostLane h)
    by_actor (RingActor q) h = ap actor_of_lane (lane_of (QueueLane q) h)
    by_actor (SubmitActor q) h = absurd (let z : None ≡ Some j = h in cc)

module _ (p : Plan) (finished : ℕ → Bool) (held : List Reference) (referred looked : ℕ →
    List ℕ) (rows : List (List Note)) (are : AreNotes p finished held referred looked rows) (a : ActorName) (j e : ℕ)
    (is_next : next_by p finished a ≡ Some j) (some : 0 < needs_resolved p j e) (v : Note) (x : IsNote p finished
    held referred looked j e v) where
  exists : j < length p.jobs
  exists = job_there p j e some

  within : j < length rows
  within = let n = are.count in let l = exists in omega arith

  pub note_within : place_in p j e < length (get_or rows j [])
  note_within = let n = are.one_each j in let l = place_within p j e some in omega arith

  notes_put : (new : List Reference) (referred' looked' : ℕ → List ℕ) (n : Note) →
      IsNote p finished new referred' looked' j e n → ((i g : ℕ) → (i ≡ j → g ≡ e → ⊥) → (m : Note) →
      IsNote p finished held referred looked i g m → IsNote p finished new referred' looked' i g m) →
      AreNotes p finished new referred' looked' (set rows j (set (get_or rows j []) (place_in p j e) n))
  notes_put new referred' looked' n own others =
      record {
        count = length-set rows j (set (get_or rows j []) (place_in p j e) n) ∙ are.count;
        one_each = λ i. elim (cases_eq i j) [
          | inl s ↦
              ap (λ (k : ℕ). length (get_or (set rows j row) k [])) s
              ∙ (ap length (get_or-set_same rows j row [] within)
              ∙ (length-set (get_or rows j []) (place_in p j e) n ∙ (are.one_each j
              ∙ ap (λ (k : ℕ). length (needs p k)) (sym s))))
          | inr d ↦ ap length (get_or-set_other rows j i row [] d) ∙ are.one_each i
        ];
        each = λ i g l. elim (cases_eq i j) [
          | inl s ↦ subst (λ (k : ℕ). IsNote p finished new referred' looked' k g (get_or (get_or (set rows j row) k
              []) (place_in p k g) no_note)) (sym s) (same_row g (subst (λ (k : ℕ). 0 < needs_resolved p k g) s l))
          | inr d ↦
              subst (λ (r : List Note). IsNote p finished new referred' looked' i g (get_or r (place_in p i g)
              no_note)) (sym (get_or-set_other rows j i row [] d))
              (others i g (λ s t. d s) (get_or (get_or rows i []) (place_in p i g) no_note) (are.each i g l))
        ];
      }
    where
      row : List Note
      row = set (get_or rows j []) (place_in p j e) n

      same_row : (g : ℕ) → 0 < needs_resolved p j g →
          IsNote p finished new referred' looked' j g (get_or (get_or (set rows j row) j []) (place_in p j g) no_note)
      same_row g l =
          subst (λ (r : List Note). IsNote p finished new referred' looked' j g (get_or r (place_in p j g) no_note))
          (sym (get_or-set_same rows j row [] within))
          (elim (cases_eq g e) [
            | inl s ↦ subst (λ (k : ℕ). IsNote p finished new referred' looked' j k (get_or row (place_in p j k)
                no_note)) (sym s) (subst (IsNote p finished new referred' looked' j e) (sym (get_or-set_same (get_or
                rows j []) (place_in p j e) n no_note note_within)) own)
            | inr d ↦
                subst (IsNote p finished new referred' looked' j g) (sym (get_or-set_other (get_or rows j [])
                (place_in p j e) (place_in p j g) n no_note (places_apart p j e g some l d)))
                (others j g (λ s t. d t) (get_or (get_or rows j []) (place_in p j g) no_note) (are.each j g l))
          ])

  -- counts in one list of notes

  counted_here : (notes : ℕ → List ℕ) → count_of (put notes j (e ∷ notes j) j) e ≡ count_of (notes j) e + 1
  counted_here notes =
      ap (λ zs. count_of zs e) (put_here notes j (e ∷ notes j))
      ∙ (let c = sum_by-cons (λ k. one (k == e)) e (notes j) in let o : one (e == e) ≡ 1 = ap one (eq-eqb e e
      refl) in omega arith)

  counted_there : (notes : ℕ → List ℕ) (i g : ℕ) → (i ≡ j → g ≡ e → ⊥) →
      count_of (put notes j (e ∷ notes j) i) g ≡ count_of (notes i) g
  counted_there notes i g n = elim (cases_eq i j) [
    | inl s ↦
        ap (λ (k : ℕ). count_of (put notes j (e ∷ notes j) k) g) s
        ∙ (ap (λ zs. count_of zs g) (put_here notes j (e ∷ notes j))
        ∙ ((let c = sum_by-cons (λ k. one (k == g)) e (notes j) in let o : one (e == g) ≡ 0 = ap one (ne_eqb e g (λ
        h. n s (sym h))) in omega arith)
        ∙ ap (λ (k : ℕ). count_of (notes k) g) (sym s)))
    | inr d ↦ ap (λ zs. count_of zs g) (put_there notes j (e ∷ notes j) i d)
  ]

  -- the job's actor is this one
  own_actor : (b : ActorName) → next_by p finished b ≡ Some j → b ≡ a
  own_actor b h =
      let x = get_some p.jobs j exists in
      next_actor p finished b j x.0 x.1 h ∙ sym (next_actor p finished a j x.0 x.1 is_next)

  -- a reference of this actor isn't counted for another job or operation
  not_counted : (i g : ℕ) → (i ≡ j → g ≡ e → ⊥) → (b : ActorName) → next_by p finished b ≡ Some i →
      (same_actor b a && (e == g)) ≡ false
  not_counted i g n b h = by_test (same_actor b a && (e == g)) refl
    where
      by_test : (t : Bool) → (same_actor b a && (e == g)) ≡ t → t ≡ false
      by_test false t = refl
      by_test true t =
          let both = and_parts (same_actor b a) (e == g) t in
          let same = same_actor_is b a both.0 in
          let z = sym h ∙ (ap (next_by p finished) same ∙ is_next) in
          let k : i ≡ j = cc in
          absurd (n k (sym (eqb-true e g both.1)))

  pub notes_referred : (q : ℕ) → AreNotes p finished (record { actor = a; point = q; op = e } ∷ held) (put referred j
      (e ∷ referred j)) looked (set rows j (set (get_or rows j []) (place_in p j e) (record v {
        referred = v.referred
            + 1;
        held = v.held + 1;
      })))
  notes_referred q =
      notes_put (record { actor = a; point = q; op = e } ∷ held) (put referred j (e ∷ referred j)) looked (record v {
        referred = v.referred + 1;
        held = v.held + 1;
      })
      (record {
        references = ap (λ (n : ℕ). n + 1) x.references ∙ sym (counted_here referred);
        looks = x.looks;
        next_held = λ b h.
            let same = own_actor b h in
            ap (λ (n : ℕ). n + 1) (x.next_held a is_next)
            ∙ (sym (count_more (λ (r : Reference). same_actor a r.actor && (r.op == e)) (record {
              actor = a;
              point =
                  q;
              op = e;
            }) held (and_from (same_actor a a) (e == e) (same_actor_self a) (eq-eqb e e refl)))
            ∙ ap (λ (c : ActorName). held_by (record { actor = a; point = q; op = e } ∷ held) c e) (sym same));
        other_held = λ none. absurd (none a is_next);
      })
      (λ i g n m k. record {
        references = k.references ∙ sym (counted_there referred i g n);
        looks = k.looks;
        next_held = λ b h. k.next_held b h ∙ sym (count_other (λ (r : Reference). same_actor b r.actor && (r.op ==
            g)) (record { actor = a; point = q; op = e }) held (not_counted i g n b h));
        other_held = k.other_held;
      })

  pub notes_looked : AreNotes p finished held referred (put looked j (e ∷ looked j)) (set rows j (set (get_or rows j
      []) (place_in p j e) (record v { looked = v.looked + 1 })))
  notes_looked =
      notes_put held referred (put looked j (e ∷ looked j)) (record v { looked = v.looked + 1 })
      (record {
        references = x.references;
        looks = ap (λ (n : ℕ). n + 1) x.looks ∙ sym (counted_here looked);
        next_held = x.next_held;
        other_held = x.other_held;
      })
      (λ i g n m k. record {
        references = k.references;
        looks = k.looks ∙ sym (counted_there looked i g n);
        next_held = k.next_held;
        other_held = k.other_held;
      })

  module _ (q : ℕ) (holds : list_any (is_reference a q e) held ≡ true) where
    parts : (r : Reference) → is_reference a q e r ≡ true → (a ≡ r.actor) × (e ≡ r.op)
    parts r t =
        let both = and_parts (same_actor a r.actor && (q == r.point)) (e == r.op) t in
        (same_actor_is a r.actor (and_parts (same_actor a r.actor) (q == r.point) both.0).0, eqb-true e r.op both.1)

    pub held_once : held_by (without_first (is_reference a q e) held) a e + 1 ≡ held_by held a e
    held_once = count_less (is_reference a q e) (λ (r : Reference). same_actor a r.actor && (r.op == e)) held holds
        (λ r t.
        let k = parts r t in
        and_from (same_actor a r.actor) (r.op == e) (ap (same_actor a) (sym k.0)
        ∙ same_actor_self a) (eq-eqb r.op e (sym k.1)))

    pub some_held : 0 < v.held
    some_held = let h = held_once in let n = x.next_held a is_next in omega arith

    pub notes_unreferred : AreNotes p finished (without_first (is_reference a q e) held) referred looked (set rows j
        (set (get_or rows j []) (place_in p j e) (record v { held = v.held - 1 })))
    notes_unreferred =
        notes_put (without_first (is_reference a q e) held) referred looked (record v { held = v.held - 1 })
        (record {
          references = x.references;
          looks = x.looks;
          next_held = λ b h.
              let same = own_actor b h in
              let once = held_once in
              let n = x.next_held a is_next in
              let less : v.held - 1 ≡ held_by (without_first (is_reference a q e) held) a e = omega arith in
              less ∙ ap (λ (c : ActorName). held_by (without_first (is_reference a q e) held) c e) (sym same);
          other_held = λ none. absurd (none a is_next);
        })
        (λ i g n m k. record {
          references = k.references;
          looks = k.looks;
          next_held = λ b h. k.next_held b h ∙ sym (count_same (is_reference a q e) (λ (r : Reference). same_actor b
              r.actor && (r.op == g)) held (λ r t.
              let z = parts r t in
              ap (λ (c : ActorName). same_actor b c && (r.op == g)) (sym z.0)
              ∙ (ap (λ (o : ℕ). same_actor b a && (o == g)) (sym z.1) ∙ not_counted i g n b h)));
          other_held = k.other_held;
        })

-- A finished job's actor holds nothing, and its next job has no notes of held references.
module _ (p : Plan) (finished : ℕ → Bool) (held : List Reference) (referred looked : ℕ →
    List ℕ) (rows : List (List Note)) (are : AreNotes p finished held referred looked rows) (j : ℕ) (x : PlanJob) (at
    : slice_get p.jobs j ≡ Some x) (none : list_any (λ r. same_actor (actor_of_lane x.lane) r.actor) held ≡ false) where
  -- nothing is counted for the job's actor
  nothing : (g : ℕ) → held_by held (actor_of_lane x.lane) g ≡ 0
  nothing g = by_count (held_by held (actor_of_lane x.lane) g) refl
    where
      weaker : (rs : List Reference) → list_any (λ (r : Reference). same_actor (actor_of_lane x.lane) r.actor &&
          (r.op == g)) rs ≡ true → list_any (λ (r : Reference). same_actor (actor_of_lane x.lane) r.actor) rs ≡ true
      weaker [] h = h
      weaker (r ∷ rs) h = elim (or_cases (same_actor (actor_of_lane x.lane) r.actor && (r.op == g)) (list_any (λ (r :
          Reference). same_actor (actor_of_lane x.lane) r.actor && (r.op == g)) rs) h) [
            | inl t ↦ or_left (same_actor (actor_of_lane x.lane) r.actor) (list_any (λ (r : Reference). same_actor
                (actor_of_lane x.lane) r.actor) rs) (and_parts (same_actor (actor_of_lane x.lane) r.actor) (r.op == g) t).0
            | inr t ↦ or_right (same_actor (actor_of_lane x.lane) r.actor) (list_any (λ (r : Reference). same_actor
                (actor_of_lane x.lane) r.actor) rs) (weaker rs t)
          ]

      by_count : (n : ℕ) → held_by held (actor_of_lane x.lane) g ≡ n → n ≡ 0
      by_count zero e = refl
      by_count (suc n) e =
          absurd (false≢true (sym none ∙ weaker held (counted_any (λ (r : Reference). same_actor (actor_of_lane
          x.lane) r.actor && (r.op == g)) held (omega arith))))

  -- the next job of an actor, where it isn't the one that is finished, stays
  stays : (b : ActorName) (k : ℕ) → next_by p finished b ≡ Some k → (k ≡ j → ⊥) →
      next_by p (put finished j true) b ≡ Some k
  stays HostActor k h n = next_put finished (jobs_of_lane p HostLane) k j h n
  stays (RingActor q) k h n = next_put finished (jobs_of_lane p (QueueLane q)) k j h n
  stays (SubmitActor q) k h n = absurd (let z : None ≡ Some k = h in cc)

  none_stays : (b : ActorName) → next_by p finished b ≡ None → next_by p (put finished j true) b ≡ None
  none_stays HostActor h = next_none finished (jobs_of_lane p HostLane) j h
  none_stays (RingActor q) h = next_none finished (jobs_of_lane p (QueueLane q)) j h
  none_stays (SubmitActor q) h = refl

  note_finished : (i g : ℕ) → 0 < needs_resolved p i g → (n : Note) →
      IsNote p finished held referred looked i g n → IsNote p (put finished j true) held referred looked i g n
  note_finished i g l n k =
      record {
        references = k.references;
        looks = k.looks;
        next_held = λ b h. by_next b h (next_by p finished b) refl;
        other_held = λ idle. by_own idle (next_by p finished (actor_of_lane y.0.lane)) refl;
      }
    where
      y : (z : PlanJob) × (slice_get p.jobs i ≡ Some z)
      y = get_some p.jobs i (job_there p i g l)

      -- no actor but this one has the job as its next one
      only : (b : ActorName) → b ≡ actor_of_lane y.0.lane → (next_by p finished b ≡ Some i → ⊥) → n.held ≡ 0
      only b same idle = k.other_held (λ c h. idle (ap (next_by p finished) (same
          ∙ sym (next_actor p finished c i y.0 y.1 h)) ∙ h))

      by_next : (b : ActorName) → next_by p (put finished j true) b ≡ Some i → (o : Option ℕ) →
          next_by p finished b ≡ o → n.held ≡ held_by held b g
      by_next b h None e = absurd (let z = sym (none_stays b e) ∙ h in cc)
      by_next b h (Some m) e = elim (cases_eq m i) [
        | inl s ↦ k.next_held b (e ∙ ap Some s)
        | inr d ↦ elim (cases_eq m j) [
          | inl t ↦
              let mine = next_actor p finished b j x at (e ∙ ap Some t) in
              let lane = next_actor p (put finished j true) b i y.0 y.1 h in
              only b lane (λ z. let u = sym e ∙ z in let v : m ≡ i = cc in d v)
              ∙ sym (ap (λ (c : ActorName). held_by held c g) mine ∙ nothing g)
          | inr t ↦ absurd (let z = sym (stays b m e t) ∙ h in let v : m ≡ i = cc in d v)
        ]
      ]

      by_own : ((b : ActorName) → next_by p (put finished j true) b ≡ Some i → ⊥) → (o : Option ℕ) →
          next_by p finished (actor_of_lane y.0.lane) ≡ o → n.held ≡ 0
      by_own idle None e = only (actor_of_lane y.0.lane) refl (λ z. let u = sym e ∙ z in absurd (cc))
      by_own idle (Some m) e = elim (cases_eq m i) [
        | inl s ↦ elim (cases_eq m j) [
          | inl t ↦
              let mine = next_actor p finished (actor_of_lane y.0.lane) j x at (e ∙ ap Some t) in
              k.next_held (actor_of_lane y.0.lane) (e ∙ ap Some s)
              ∙ (ap (λ (c : ActorName). held_by held c g) mine ∙ nothing g)
          | inr t ↦ absurd (idle (actor_of_lane y.0.lane) (stays (actor_of_lane y.0.lane) m e t ∙ ap Some s))
        ]
        | inr d ↦ only (actor_of_lane y.0.lane) refl (λ z. let u = sym e ∙ z in let v : m ≡ i = cc in d v)
      ]

  pub notes_finished : AreNotes p (put finished j true) held referred looked rows
  notes_finished =
      record {
        count = are.count;
        one_each = are.one_each;
        each = λ i g l. note_finished i g l (get_or (get_or rows i []) (place_in p i g) no_note) (are.each i g l);
      }
