-- What comes before a place of a job comes before its later places and its end. Where no wait is held all places are
-- alike.
use Rattle.std.proofs.Common.{◌≡◌, ℕ, ◌≤◌, Bool, true, false, List, [], ◌∷◌, filter, Option, Some, None, refl, sym, ap, ◌∙◌, inl, inr, subst, ltb, leb, eqb, arith}
use Rattle.std.specs.List.{filter_map, cons_option, position_or_len}
use Rattle.std.proofs.lemmas.Bool.{cond-true, cond-false, false≢true, le-leb, leb-true}
use Rattle.vq_model.specs.declared.plan.Need.{Need}
use Rattle.vq_model.specs.Plan.{Plan, initial, resolver, needs, waits_for_any, job_of, commands_of}
use Rattle.vq_ground.specs.Lists.{has}
use Rattle.vq_ground.proofs.Lists.{has_here, has_there, has_cases, has-append_cases, has-append_left, has-append_right}
use Rattle.vq_model.specs.Edges.{Stage, At, AtEnd, awaited_at, needs_at, must_finish, stage_of}
use Rattle.vq_model.specs.EdgeReasons.{HasNoHeldWait}
use Rattle.vq_model.specs.HappensBefore.{IsHop, HappensBefore, HappensBeforeAt, one, more, HappensBeforeCommand}
use Rattle.vq_ground.proofs.Mapped.{mapped, has_mapped}
use Rattle.vq_model.specs.Sure.{IsSure, IsSureAt, finished_first, waited_for, passed_on}
use Rattle.vq_plan_laws.proofs.Cited.{same_before, needs_alike}

-- What reaches a place reaches the end.

has_later : (f : Need → Option ℕ) (test at : Need → Bool) (ns : List Need) (r : ℕ) → has (filter_map f (filter test (filter at ns))) r ≡ true → has (filter_map f (filter test ns)) r ≡ true
has_later f test at [] r h = h
has_later f test at (n ∷ ns) r h = by_at (at n) refl (has_later f test at ns r)
  where
    more_here : (has (filter_map f (filter test ns)) r ≡ true) → has (filter_map f (filter test (n ∷ ns))) r ≡ true
    more_here m = by_test (test n) refl
      where
        by_test : (b : Bool) → test n ≡ b → has (filter_map f (filter test (n ∷ ns))) r ≡ true
        by_test true e = ap (λ zs. has (filter_map f zs) r) (cond-true (test n) (n ∷ filter test ns) (filter test ns) e) ∙ by_option (f n)
          where
            by_option : (o : Option ℕ) → has (cons_option o (filter_map f (filter test ns))) r ≡ true
            by_option None = m
            by_option (Some x) = has_there x (filter_map f (filter test ns)) r m
        by_test false e = ap (λ zs. has (filter_map f zs) r) (cond-false (test n) (n ∷ filter test ns) (filter test ns) e) ∙ m

    by_at : (b : Bool) → at n ≡ b → (has (filter_map f (filter test (filter at ns))) r ≡ true → has (filter_map f (filter test ns)) r ≡ true) → has (filter_map f (filter test (n ∷ ns))) r ≡ true
    by_at false e g = more_here (g (ap (λ zs. has (filter_map f (filter test zs)) r) (sym (cond-false (at n) (n ∷ filter at ns) (filter at ns) e)) ∙ h))
    by_at true e g = both (test n) refl (ap (λ zs. has (filter_map f (filter test zs)) r) (sym (cond-true (at n) (n ∷ filter at ns) (filter at ns) e)) ∙ h)
      where
        both : (b : Bool) → test n ≡ b → has (filter_map f (filter test (n ∷ filter at ns))) r ≡ true → has (filter_map f (filter test (n ∷ ns))) r ≡ true
        both false t m = more_here (g (ap (λ zs. has (filter_map f zs) r) (sym (cond-false (test n) (n ∷ filter test (filter at ns)) (filter test (filter at ns)) t)) ∙ m))
        both true t m =
            ap (λ zs. has (filter_map f zs) r) (cond-true (test n) (n ∷ filter test ns) (filter test ns) t)
            ∙ by_option (f n) (ap (λ zs. has (filter_map f zs) r) (sym (cond-true (test n) (n ∷ filter test (filter at ns)) (filter test (filter at ns)) t)) ∙ m)
          where
            by_option : (o : Option ℕ) → has (cons_option o (filter_map f (filter test (filter at ns)))) r ≡ true → has (cons_option o (filter_map f (filter test ns))) r ≡ true
            by_option None i = g i
            by_option (Some x) i = elim (has_cases x (filter_map f (filter test (filter at ns))) r i) [
              | inl d ↦ subst (λ z. has (x ∷ filter_map f (filter test ns)) z ≡ true) d (has_here x (filter_map f (filter test ns)))
              | inr t' ↦ has_there x (filter_map f (filter test ns)) r (g t')
            ]

abbrev found : Plan → List Need → List ℕ
found p ns = filter_map (λ n. resolver p n.chain n.value) (filter (λ n. ltb (initial p n.chain) n.value) ns)

awaited_later : (p : Plan) (j : ℕ) (k : Stage) (r : ℕ) → has (awaited_at p j k) r ≡ true → has (awaited_at p j AtEnd) r ≡ true
awaited_later p j AtEnd r h = h
awaited_later p j (At k) r h = by_test (waits_for_any p j) refl
  where
    by_test : (b : Bool) → waits_for_any p j ≡ b → has (awaited_at p j AtEnd) r ≡ true
    by_test true e = absurd (false≢true (ap (λ zs. has zs r) (sym (cond-true (waits_for_any p j) [] (found p (needs_at p j (At k))) e)) ∙ h))
    by_test false e =
        ap (λ zs. has zs r) (cond-false (waits_for_any p j) [] (found p (needs p j)) e)
        ∙ has_later (λ n. resolver p n.chain n.value) (λ n. ltb (initial p n.chain) n.value) (λ n. leb n.from k) (needs p j) r (ap (λ zs. has zs r) (sym (cond-false (waits_for_any p j) [] (found p (needs_at p j (At k))) e)) ∙ h)

hop_later : (p : Plan) (i j : ℕ) (k : Stage) → IsHop p i j k → IsHop p i j AtEnd
hop_later p i j k h =
    record {
      edge = elim (has-append_cases (must_finish p j) (filter_map (job_of p) (awaited_at p j k)) i h.edge) [
        | inl m ↦ has-append_left (must_finish p j) (filter_map (job_of p) (awaited_at p j AtEnd)) i m
        | inr m ↦
            let r = mapped (job_of p) (awaited_at p j k) i m in
            has-append_right (must_finish p j) (filter_map (job_of p) (awaited_at p j AtEnd)) i (has_mapped (job_of p) (awaited_at p j AtEnd) r.0 i (awaited_later p j k r.0 r.1) r.2)
      ];
      earlier = h.earlier;
    }

-- a job before a place of another is before the other
pub before_end : (p : Plan) (i j : ℕ) (k : Stage) → HappensBeforeAt p i j k → HappensBefore p i j
before_end p i j k (one h) = one (hop_later p i j k h)
before_end p i j k (more {h = q} b h) = more b (hop_later p q j k h)

-- What reaches a place reaches each later one.

kept_twice : (k m : ℕ) → k ≤ m → (ns : List Need) → filter (λ n. leb n.from k) (filter (λ n. leb n.from m) ns) ≡ filter (λ n. leb n.from k) ns
kept_twice k m l [] = refl
kept_twice k m l (n ∷ ns) = by_first (leb n.from k) refl (kept_twice k m l ns)
  where
    Low : List Need → List Need
    Low xs = filter (λ x. leb x.from k) xs

    High : List Need → List Need
    High xs = filter (λ x. leb x.from m) xs

    by_first : (b : Bool) → leb n.from k ≡ b → Low (High ns) ≡ Low ns → Low (High (n ∷ ns)) ≡ Low (n ∷ ns)
    by_first true e r =
        let low = leb-true n.from k e in
        ap Low (cond-true (leb n.from m) (n ∷ High ns) (High ns) (le-leb n.from m (omega arith)))
        ∙ (cond-true (leb n.from k) (n ∷ Low (High ns)) (Low (High ns)) e
        ∙ (ap (λ xs. n ∷ xs) r ∙ sym (cond-true (leb n.from k) (n ∷ Low ns) (Low ns) e)))
    by_first false e r = by_second (leb n.from m) refl
      where
        by_second : (b : Bool) → leb n.from m ≡ b → Low (High (n ∷ ns)) ≡ Low (n ∷ ns)
        by_second true f =
            ap Low (cond-true (leb n.from m) (n ∷ High ns) (High ns) f)
            ∙ (cond-false (leb n.from k) (n ∷ Low (High ns)) (Low (High ns)) e ∙ (r ∙ sym (cond-false (leb n.from k) (n ∷ Low ns) (Low ns) e)))
        by_second false f =
            ap Low (cond-false (leb n.from m) (n ∷ High ns) (High ns) f) ∙ (r ∙ sym (cond-false (leb n.from k) (n ∷ Low ns) (Low ns) e))

awaited_next : (p : Plan) (j k m : ℕ) → k ≤ m → (r : ℕ) → has (awaited_at p j (At k)) r ≡ true → has (awaited_at p j (At m)) r ≡ true
awaited_next p j k m l r h = by_test (waits_for_any p j) refl
  where
    by_test : (b : Bool) → waits_for_any p j ≡ b → has (awaited_at p j (At m)) r ≡ true
    by_test true e = absurd (false≢true (ap (λ zs. has zs r) (sym (cond-true (waits_for_any p j) [] (found p (needs_at p j (At k))) e)) ∙ h))
    by_test false e =
        ap (λ zs. has zs r) (cond-false (waits_for_any p j) [] (found p (needs_at p j (At m))) e)
        ∙ has_later (λ n. resolver p n.chain n.value) (λ n. ltb (initial p n.chain) n.value) (λ n. leb n.from k) (needs_at p j (At m)) r
        (ap (λ ns. has (found p ns) r) (kept_twice k m l (needs p j)) ∙ (ap (λ zs. has zs r) (sym (cond-false (waits_for_any p j) [] (found p (needs_at p j (At k))) e)) ∙ h))

hop_next : (p : Plan) (i j k m : ℕ) → k ≤ m → IsHop p i j (At k) → IsHop p i j (At m)
hop_next p i j k m l h =
    record {
      edge = elim (has-append_cases (must_finish p j) (filter_map (job_of p) (awaited_at p j (At k))) i h.edge) [
        | inl f ↦ has-append_left (must_finish p j) (filter_map (job_of p) (awaited_at p j (At m))) i f
        | inr f ↦
            let r = mapped (job_of p) (awaited_at p j (At k)) i f in
            has-append_right (must_finish p j) (filter_map (job_of p) (awaited_at p j (At m))) i (has_mapped (job_of p) (awaited_at p j (At m)) r.0 i (awaited_next p j k m l r.0 r.1) r.2)
      ];
      earlier = h.earlier;
    }

-- a job before a place of another is before each later place of it
pub before_later : (p : Plan) (i j k m : ℕ) → k ≤ m → HappensBeforeAt p i j (At k) → HappensBeforeAt p i j (At m)
before_later p i j k m l (one h) = one (hop_next p i j k m l h)
before_later p i j k m l (more {h = q} b h) = more b (hop_next p q j k m l h)

-- an operation that is sure for a place is sure for the job
pub sure_end : (p : Plan) (e j : ℕ) (k : Stage) → IsSureAt p e j k → IsSure p e j
sure_end p e j k (finished_first f) = finished_first f
sure_end p e j k (waited_for f) =
    waited_for (record { job = f.job; of_job = f.of_job; by_op = f.by_op; same_job = f.same_job; at_or_later = f.at_or_later; waits = awaited_later p j k f.by_op f.waits; earlier = f.earlier })
sure_end p e j k (passed_on {i = i} s h) = passed_on s (hop_later p i j k h)

-- Plans without held waits

-- commands are ordered as their jobs are
pub command_order : (p : Plan) → HasNoHeldWait p → (i j d : ℕ) → HappensBefore p i j → HappensBeforeCommand p i j d
command_order p n i j d b = same_before p i j AtEnd (stage_of p j d) (sym (needs_alike p j (position_or_len (λ c. eqb c d) (commands_of p j)) (n j))) b

pub job_order : (p : Plan) (i j d : ℕ) → HappensBeforeCommand p i j d → HappensBefore p i j
job_order p i j d b = before_end p i j (stage_of p j d) b
