-- The number of effective resets of a fence grows by one at each reset that is effective, and at no other job.
use Rattle.std.proofs.Common.{ℕ, Bool, false, ◌&&◌, ◌||◌, cond, List, [], ◌∷◌, ◌≡◌, ◌+◌, true, ◌++◌, refl, ap, ◌∙◌, arith, ◌<◌, Some, zero, suc, None, sym, ◌⊎◌, inl, inr, subst, take, Option}
use Rattle.vq_model.specs.declared.script.Job.{Job}
use Rattle.vq_model.specs.Lowering.{names_fence, resets_fence, effective_resets}
use Rattle.std.specs.List.{slice_get}
use Rattle.std.proofs.lemmas.Bool.{false≢true, or_cases, and_from, cond-false, and_parts, cond-true}
use Rattle.vq_model.specs.declared.script.Job.TheVariants.{Host, Batch}
use Rattle.std.specs.Option.{option_map_or}
use Rattle.vq_model.specs.declared.script.Script.{Script}
use Rattle.vq_model.specs.Checks.{names_at, resets_at, IsEffectiveReset}
use Rattle.vq_ground.proofs.Gets.{get-take, get-take_within}

-- whether a fence stands named after these jobs
abbrev named_after : ℕ → Bool → List Job → Bool
named_after f named [] = named
named_after f named (x ∷ xs) = cond (resets_fence f x && named) (named_after f false xs) (named_after f (named || names_fence f x) xs)

resets_push : (f : ℕ) (b : Bool) (xs : List Job) (x : Job) → effective_resets f b (xs ++ x ∷ []) ≡ cond (resets_fence f x && named_after f b xs) (effective_resets f b xs + 1) (effective_resets f b xs)
resets_push f b [] x = refl
resets_push f b (y ∷ xs) x = by_test (resets_fence f y && b) (resets_push f false xs x) (resets_push f (b || names_fence f y) xs x)
  where
    one_more : (c : Bool) (n : ℕ) → 1 + cond c (n + 1) n ≡ cond c (1 + n + 1) (1 + n)
    one_more true n = omega arith
    one_more false n = refl

    by_test : (c : Bool) →
        effective_resets f false (xs ++ x ∷ []) ≡ cond (resets_fence f x && named_after f false xs) (effective_resets f false xs + 1) (effective_resets f false xs) →
        effective_resets f (b || names_fence f y) (xs ++ x ∷ []) ≡ cond (resets_fence f x && named_after f (b || names_fence f y) xs) (effective_resets f (b || names_fence f y) xs + 1) (effective_resets f (b || names_fence f y) xs) →
        cond c (1 + effective_resets f false (xs ++ x ∷ [])) (effective_resets f (b || names_fence f y) (xs ++ x ∷ []))
        ≡ cond (resets_fence f x && cond c (named_after f false xs) (named_after f (b || names_fence f y) xs)) (cond c (1 + effective_resets f false xs) (effective_resets f (b || names_fence f y) xs) + 1) (cond c (1 + effective_resets f false xs) (effective_resets f (b || names_fence f y) xs))
    by_test true h k = ap (λ n. 1 + n) h ∙ one_more (resets_fence f x && named_after f false xs) (effective_resets f false xs)
    by_test false h k = k

-- a job that names the fence, after which none names or resets it
record NamedSince (f : ℕ) (xs : List Job) : Type 0 where
  place : ℕ
  job : Job
  is : slice_get xs place ≡ Some job
  names : names_fence f job ≡ true
  none : (k : ℕ) (y : Job) → place < k → slice_get xs k ≡ Some y → (names_fence f y ≡ false) × (resets_fence f y ≡ false)

abbrev Neither : ℕ → List Job → Type 0
Neither f xs = (k : ℕ) (y : Job) → slice_get xs k ≡ Some y → (names_fence f y ≡ false) × (resets_fence f y ≡ false)

same_job : (x y : Job) → Some x ≡ Some y → x ≡ y
same_job x y h = cc

shifted : (f : ℕ) (x : Job) (xs : List Job) → NamedSince f xs → NamedSince f (x ∷ xs)
shifted f x xs r = record { place = suc r.place; job = r.job; is = r.is; names = r.names; none = λ k y l h. later k y l h }
  where
    later : (k : ℕ) (y : Job) → suc r.place < k → slice_get (x ∷ xs) k ≡ Some y → (names_fence f y ≡ false) × (resets_fence f y ≡ false)
    later zero y l h = absurd (omega arith)
    later (suc k) y l h = r.none k y (omega arith) h

named_is : (f : ℕ) (b : Bool) (xs : List Job) → named_after f b xs ≡ true → NamedSince f xs ⊎ ((b ≡ true) × Neither f xs)
named_is f b [] h = inr (h, λ k y e. absurd (let c : None ≡ Some y = e in cc))
named_is f b (x ∷ xs) h = by_test (resets_fence f x && b) refl h (named_is f false xs) (named_is f (b || names_fence f x) xs)
  where
    by_names : (resets_fence f x && b) ≡ false → ((b || names_fence f x) ≡ true) × Neither f xs → (c : Bool) → names_fence f x ≡ c → NamedSince f (x ∷ xs) ⊎ ((b ≡ true) × Neither f (x ∷ xs))
    by_names e q true n = inl (record { place = 0; job = x; is = refl; names = n; none = λ k y l i. after k y l i })
      where
        after : (k : ℕ) (y : Job) → 0 < k → slice_get (x ∷ xs) k ≡ Some y → (names_fence f y ≡ false) × (resets_fence f y ≡ false)
        after zero y l i = absurd (omega arith)
        after (suc k) y l i = q.1 k y i
    by_names e q false n = inr (named, λ k y i. each k y i)
      where
        named : b ≡ true
        named = elim (or_cases b (names_fence f x) q.0) [ inl t ↦ t | inr t ↦ absurd (false≢true (sym n ∙ t)) ]

        no_reset : (c : Bool) → resets_fence f x ≡ c → resets_fence f x ≡ false
        no_reset false r = r
        no_reset true r = absurd (false≢true (sym e ∙ and_from (resets_fence f x) b r named))

        each : (k : ℕ) (y : Job) → slice_get (x ∷ xs) k ≡ Some y → (names_fence f y ≡ false) × (resets_fence f y ≡ false)
        each zero y i = let c = same_job x y i in subst (λ z. (names_fence f z ≡ false) × (resets_fence f z ≡ false)) c (n, no_reset (resets_fence f x) refl)
        each (suc k) y i = q.1 k y i

    by_test : (c : Bool) → (resets_fence f x && b) ≡ c → cond c (named_after f false xs) (named_after f (b || names_fence f x) xs) ≡ true → (named_after f false xs ≡ true → NamedSince f xs ⊎ ((false ≡ true) × Neither f xs)) → (named_after f (b || names_fence f x) xs ≡ true → NamedSince f xs ⊎ (((b || names_fence f x) ≡ true) × Neither f xs)) → NamedSince f (x ∷ xs) ⊎ ((b ≡ true) × Neither f (x ∷ xs))
    by_test true e h g k = elim (g h) [ inl r ↦ inl (shifted f x xs r) | inr q ↦ absurd (false≢true q.0) ]
    by_test false e h g k = elim (k h) [ inl r ↦ inl (shifted f x xs r) | inr q ↦ by_names e q (names_fence f x) refl ]

stays_named : (f : ℕ) (xs : List Job) → Neither f xs → named_after f true xs ≡ true
stays_named f [] n = refl
stays_named f (x ∷ xs) n =
    let r : (resets_fence f x && true) ≡ false = ap (λ c. c && true) (n 0 x refl).1 in
    cond-false (resets_fence f x && true) (named_after f false xs) (named_after f true xs) r ∙ stays_named f xs (λ k y h. n (suc k) y h)

names_no_reset : (f : ℕ) (x : Job) → names_fence f x ≡ true → resets_fence f x ≡ false
names_no_reset f (Host h) n = absurd (false≢true n)
names_no_reset f (Batch b) n = refl

is_named : (f : ℕ) (b : Bool) (xs : List Job) (place : ℕ) (job : Job) → slice_get xs place ≡ Some job → names_fence f job ≡ true → ((k : ℕ) (y : Job) → place < k → slice_get xs k ≡ Some y → (names_fence f y ≡ false) × (resets_fence f y ≡ false)) → named_after f b xs ≡ true
is_named f b [] place job h n none = absurd (let c : None ≡ Some job = h in cc)
is_named f b (x ∷ xs) zero job h n none =
    let c = same_job x job h in
    let m : names_fence f x ≡ true = ap (names_fence f) c ∙ n in
    cond-false (resets_fence f x && b) (named_after f false xs) (named_after f (b || names_fence f x) xs) (ap (λ r. r && b) (names_no_reset f x m))
    ∙ (ap (λ d. named_after f d xs) (ap (λ d. b || d) m ∙ or_true b) ∙ stays_named f xs (λ k y i. none (suc k) y (omega arith) i))
  where
    or_true : (d : Bool) → (d || true) ≡ true
    or_true true = refl
    or_true false = refl
is_named f b (x ∷ xs) (suc place) job h n none = by_test (resets_fence f x && b) (is_named f false xs place job h n (λ k y l i. none (suc k) y (omega arith) i)) (is_named f (b || names_fence f x) xs place job h n (λ k y l i. none (suc k) y (omega arith) i))
  where
    by_test : (c : Bool) → named_after f false xs ≡ true → named_after f (b || names_fence f x) xs ≡ true → cond c (named_after f false xs) (named_after f (b || names_fence f x) xs) ≡ true
    by_test true g k = g
    by_test false g k = k

take_push : (xs : List Job) (j : ℕ) (x : Job) → slice_get xs j ≡ Some x → take (suc j) xs ≡ take j xs ++ x ∷ []
take_push [] j x h = absurd (let c : None ≡ Some x = h in cc)
take_push (y ∷ xs) zero x h = ap (λ (z : Job). z ∷ []) (same_job y x h)
take_push (y ∷ xs) (suc j) x h = ap (λ (zs : List Job). y ∷ zs) (take_push xs j x h)

take_past : (xs : List Job) (j : ℕ) → slice_get xs j ≡ None → take (suc j) xs ≡ take j xs
take_past [] zero h = refl
take_past [] (suc j) h = refl
take_past (y ∷ xs) zero h = absurd (let c : Some y ≡ None = h in cc)
take_past (y ∷ xs) (suc j) h = ap (λ (zs : List Job). y ∷ zs) (take_past xs j h)

module _ (s : Script) (f j : ℕ) where
  -- a job at a place, of which a test holds
  passes : (test : Job → Bool) (k : ℕ) → option_map_or test (slice_get s.jobs k) false ≡ true → (x : Job) × (slice_get s.jobs k ≡ Some x) × (test x ≡ true)
  passes test k h = by_job (slice_get s.jobs k) refl h
    where
      by_job : (o : Option Job) → slice_get s.jobs k ≡ o → option_map_or test o false ≡ true → (x : Job) × (slice_get s.jobs k ≡ Some x) × (test x ≡ true)
      by_job None e g = absurd (false≢true g)
      by_job (Some x) e g = (x, e, g)

  -- an effective reset counts
  pub effective_counts : (naming : ℕ) → IsEffectiveReset s f naming j → effective_resets f false (take (suc j) s.jobs) ≡ effective_resets f false (take j s.jobs) + 1
  effective_counts naming e =
      let x = passes (resets_fence f) j e.resets in
      let y = passes (names_fence f) naming e.names in
      let m = is_named f false (take j s.jobs) naming y.0 (get-take j s.jobs naming e.earlier ∙ y.1) y.2 (λ k z l h. between k z l h) in
      ap (effective_resets f false) (take_push s.jobs j x.0 x.1)
      ∙ (resets_push f false (take j s.jobs) x.0
      ∙ cond-true (resets_fence f x.0 && named_after f false (take j s.jobs)) (effective_resets f false (take j s.jobs) + 1) (effective_resets f false (take j s.jobs)) (and_from (resets_fence f x.0) (named_after f false (take j s.jobs)) x.2 m))
    where
      between : (k : ℕ) (z : Job) → naming < k → slice_get (take j s.jobs) k ≡ Some z → (names_fence f z ≡ false) × (resets_fence f z ≡ false)
      between k z l h =
          let u = get-take_within j s.jobs k z h in
          let i : slice_get s.jobs k ≡ Some z = sym (get-take j s.jobs k u) ∙ h in
          let b = e.between k l u in
          (sym (ap (λ o. option_map_or (names_fence f) o false) i) ∙ b.0, sym (ap (λ o. option_map_or (resets_fence f) o false) i) ∙ b.1)

  -- and nothing else does
  pub others_count_not : ((naming : ℕ) → ¬ IsEffectiveReset s f naming j) → effective_resets f false (take (suc j) s.jobs) ≡ effective_resets f false (take j s.jobs)
  others_count_not none = by_job (slice_get s.jobs j) refl
    where
      effective : (x : Job) → slice_get s.jobs j ≡ Some x → resets_fence f x ≡ true → NamedSince f (take j s.jobs) → ⊥
      effective x e r n =
          let l = get-take_within j s.jobs n.place n.job n.is in
          let i : slice_get s.jobs n.place ≡ Some n.job = sym (get-take j s.jobs n.place l) ∙ n.is in
          none n.place (record {
            earlier = l;
            names = ap (λ o. option_map_or (names_fence f) o false) i ∙ n.names;
            resets = ap (λ o. option_map_or (resets_fence f) o false) e ∙ r;
            between = λ k a b. at k a b (slice_get s.jobs k) refl;
          })
        where
          at : (k : ℕ) → n.place < k → k < j → (o : Option Job) → slice_get s.jobs k ≡ o → (names_at s f k ≡ false) × (resets_at s f k ≡ false)
          at k a b None q = (ap (λ o. option_map_or (names_fence f) o false) q, ap (λ o. option_map_or (resets_fence f) o false) q)
          at k a b (Some y) q =
              let m = n.none k y a (get-take j s.jobs k b ∙ q) in
              (ap (λ o. option_map_or (names_fence f) o false) q ∙ m.0, ap (λ o. option_map_or (resets_fence f) o false) q ∙ m.1)

      by_job : (o : Option Job) → slice_get s.jobs j ≡ o → effective_resets f false (take (suc j) s.jobs) ≡ effective_resets f false (take j s.jobs)
      by_job None e = ap (effective_resets f false) (take_past s.jobs j e)
      by_job (Some x) e =
          ap (effective_resets f false) (take_push s.jobs j x e)
          ∙ (resets_push f false (take j s.jobs) x
          ∙ cond-false (resets_fence f x && named_after f false (take j s.jobs)) (effective_resets f false (take j s.jobs) + 1) (effective_resets f false (take j s.jobs)) (unless (resets_fence f x && named_after f false (take j s.jobs)) refl))
        where
          unless : (c : Bool) → (resets_fence f x && named_after f false (take j s.jobs)) ≡ c → (resets_fence f x && named_after f false (take j s.jobs)) ≡ false
          unless false q = q
          unless true q =
              let parts = and_parts (resets_fence f x) (named_after f false (take j s.jobs)) q in
              absurd (elim (named_is f false (take j s.jobs) parts.1) [ inl n ↦ effective x e parts.0 n | inr r ↦ false≢true r.0 ])
