-- The commands of the slow run stand in an order in which none comes before one that it must follow.
use Rattle.std.proofs.Common.{◌≡◌, Bool, true, false, refl, sym, ℕ, List, [], ◌∷◌, ◌++◌, inl, inr, subst, ◌<◌, eqb, ◌∙◌, arith, length, ap}
use Rattle.std.proofs.lemmas.Option.{slice_get_past}
use Rattle.vq_model.specs.Plan.{Plan, commands_of}
use Rattle.vq_ground.specs.Lists.{has, AreRising}
use Rattle.vq_ground.proofs.Lists.{has_here, has_there, has-append_cases, has_cases, has-append_left, has-append_right, AreDistinct, distinct_front, rising_distinct, distinct_append}
use Rattle.vq_run_laws.proofs.Swaps.{Extends}
use Rattle.std.specs.List.{flat_map}
use Rattle.std.proofs.lemmas.Bool.{false≢true, ne_eqb, cases_lt}
use Rattle.std.proofs.lemmas.List.{append_assoc}
use Rattle.vq_ground.proofs.Positions.{place, place_head, place_tail, place-append}
use Rattle.std.specs.Option.{option_map_or}
use Rattle.vq_model.specs.SlowRun.{slow_order}
use Rattle.vq_order_laws.proofs.Cited.{slow_distinct, Earlier, before_earlier}
use Rattle.vq_model.specs.Edges.{stage_of}
use Rattle.vq_model.specs.WellFormed.{IsWellFormed}
use Rattle.vq_model.specs.SureOrder.{HasSureOrder}
use Rattle.vq_run_laws.proofs.StateFacts.{Must}

-- Lists

extends_append : (R : ℕ → ℕ → Type 0) (xs ys : List ℕ) → Extends R xs → Extends R ys → ((x y : ℕ) → has xs x ≡ true → has ys y ≡ true → ¬ R y x) → Extends R (xs ++ ys)
extends_append R [] ys ex ey f = ey
extends_append R (x ∷ xs) ys ex ey f =
    ((λ y h. elim (has-append_cases xs ys y h) [ inl m ↦ ex.0 y m | inr m ↦ f x y (has_here x xs) m ]), extends_append R xs ys ex.1 ey (λ z y m n. f z y (has_there x xs z m) n))

pub has-flat_map : (f : ℕ → List ℕ) (js : List ℕ) (c : ℕ) → has (flat_map f js) c ≡ true → (j : ℕ) × (has js j ≡ true) × (has (f j) c ≡ true)
has-flat_map f [] c h = absurd (false≢true h)
has-flat_map f (j ∷ js) c h =
    elim (has-append_cases (f j) (flat_map f js) c h) [
      | inl m ↦ (j, has_here j js, m)
      | inr m ↦ let r = has-flat_map f js c m in (r.0, has_there j js r.0 r.1, r.2)
    ]

pub flat_map-has : (f : ℕ → List ℕ) (js : List ℕ) (j c : ℕ) → has js j ≡ true → has (f j) c ≡ true → has (flat_map f js) c ≡ true
flat_map-has f [] j c h m = absurd (false≢true h)
flat_map-has f (i ∷ js) j c h m =
    elim (has_cases i js j h) [
      | inl e ↦ has-append_left (f i) (flat_map f js) c (subst (λ z. has (f z) c ≡ true) (sym e) m)
      | inr t ↦ has-append_right (f i) (flat_map f js) c (flat_map-has f js j c t m)
    ]

-- a list of different elements is in the order of their places
in_order : (front back : List ℕ) → AreDistinct (front ++ back) → AreDistinct back → Extends (λ i j. place (front ++ back) i < place (front ++ back) j) back
in_order front [] d e = tt
in_order front (x ∷ back) d e =
    ((λ y h. behind y h), subst (λ zs. Extends (λ i j. place zs i < place zs j) back) (sym whole) (in_order (front ++ x ∷ []) back (subst AreDistinct whole d) e.1))
  where
    whole : front ++ x ∷ back ≡ (front ++ x ∷ []) ++ back
    whole = sym (append_assoc front (x ∷ []) back)

    behind : (y : ℕ) → has back y ≡ true → place (front ++ x ∷ back) y < place (front ++ x ∷ back) x → ⊥
    behind y h l =
        let apart : eqb x y ≡ false = ne_eqb x y (λ q. false≢true (sym e.0 ∙ subst (λ z. has back z ≡ true) (sym q) h)) in
        let px = place-append front (x ∷ back) x (distinct_front front (x ∷ back) x d (has_here x back)) in
        let py = place-append front (x ∷ back) y (distinct_front front (x ∷ back) y d (has_there x back y h)) in
        let hx = place_head x back in
        let hy = place_tail x back y apart in
        omega arith

module _ (p : Plan) where
  -- no job of the slow run's order stands earlier than one in front of it
  pub slow_extends : Extends (Earlier p) (slow_order p)
  slow_extends = in_order [] (slow_order p) (slow_distinct p) (slow_distinct p)

  no_loop : (j : ℕ) → Earlier p j j → ⊥
  no_loop j l = omega arith

  pub in_range : (j c : ℕ) → has (commands_of p j) c ≡ true → j < length p.jobs
  in_range j c h = elim (cases_lt j (length p.jobs)) [
    | inl l ↦ l
    | inr g ↦ absurd (false≢true (ap (λ o. has (option_map_or (λ x. x.commands) o []) c) (sym (slice_get_past p.jobs j g)) ∙ h))
  ]

module _ (p : Plan) (w : IsWellFormed p) (lawful : HasSureOrder p) where
  -- the commands of one job, in order
  job_extends : (j : ℕ) → Extends (Must p) (commands_of p j)
  job_extends j = go (commands_of p j) (λ c h. h) (w.commands j)
    where
      go : (xs : List ℕ) → ((c : ℕ) → has xs c ≡ true → has (commands_of p j) c ≡ true) → AreRising xs → Extends (Must p) xs
      go [] f r = tt
      go (x ∷ xs) f r = (
        (λ y h m.
            let a = w.one_job y m.first_job j m.first (f y (has_there x xs y h)) in
            let b = w.one_job x m.second_job j m.second (f x (has_here x xs)) in
            elim m.order [
              | inl q ↦ no_loop p j (subst (λ z. Earlier p z j) a (subst (λ z. Earlier p m.first_job z) b (before_earlier p m.first_job m.second_job (stage_of p m.second_job x) q)))
              | inr q ↦ let l = r.0 y h in let k = q.1 in absurd (omega arith)
            ]),
        go xs (λ c h. f c (has_there x xs c h)) r.1,
      )

  pub jobs_extend : (js : List ℕ) → AreDistinct js → Extends (Earlier p) js → Extends (Must p) (flat_map (commands_of p) js)
  jobs_extend [] d e = tt
  jobs_extend (j ∷ js) d e =
      extends_append (Must p) (commands_of p j) (flat_map (commands_of p) js) (job_extends j) (jobs_extend js d.1 e.1) (λ x y hx hy m.
      let s = has-flat_map (commands_of p) js y hy in
      let a = w.one_job y m.first_job s.0 m.first s.2 in
      let b = w.one_job x m.second_job j m.second hx in
      elim m.order [
        | inl q ↦ e.0 s.0 s.1 (subst (λ z. Earlier p z j) a (subst (λ z. Earlier p m.first_job z) b (before_earlier p m.first_job m.second_job (stage_of p m.second_job x) q)))
        | inr q ↦ false≢true (sym d.0 ∙ subst (λ z. has js z ≡ true) (sym a ∙ (q.0 ∙ b)) s.1)
      ])

  pub jobs_distinct : (js : List ℕ) → AreDistinct js → AreDistinct (flat_map (commands_of p) js)
  jobs_distinct [] d = tt
  jobs_distinct (j ∷ js) d =
      distinct_append (commands_of p j) (flat_map (commands_of p) js) (rising_distinct (commands_of p j) (w.commands j)) (jobs_distinct js d.1) (λ x h. absent x h (has (flat_map (commands_of p) js) x) refl)
    where
      absent : (x : ℕ) → has (commands_of p j) x ≡ true → (b : Bool) → has (flat_map (commands_of p) js) x ≡ b → has (flat_map (commands_of p) js) x ≡ false
      absent x h false e = e
      absent x h true e =
          let s = has-flat_map (commands_of p) js x e in
          let i = w.one_job x j s.0 h s.2 in
          absurd (false≢true (sym d.0 ∙ subst (λ z. has js z ≡ true) (sym i) s.1))
