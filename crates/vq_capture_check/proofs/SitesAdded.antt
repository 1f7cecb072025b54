-- A site that is put behind others.
use Rattle.std.proofs.Common.{suc, ◌≡◌, ◌+◌, ◌∙◌, Bool, true, false, ℕ, List, [], ◌∷◌, ◌++◌, cond, refl, sym, ap, subst, arith, Option, Some, None}
use Rattle.std.specs.Prelude.{nat_lt, ◌==◌, ◌||◌, ◌%◌}
use Rattle.std.specs.Ordering.{nat_cmp, is_eq}
use Rattle.std.specs.declared.cmp.Ordering.TheVariants.{Less, Equal, Greater}
use Rattle.std.specs.BTreeMap.{BTreeMap, is_at, get}
use Rattle.std.proofs.lemmas.Bool.{eqb-true, eq-eqb}
use Rattle.vq_ground.proofs.Bools.{never}
use Rattle.vq_ground.proofs.Tests.{below_of_test}
use Rattle.vq_capture_check.specs.declared.sites.Site.{Site}
use Rattle.vq_capture_check.specs.declared.sites.Site.TheVariants.{OnQueue, OnThread}
use Rattle.vq_capture_check.specs.Sites.{same_site, same_kind, counted, has_site, queue_site, site_number, some_lane, with_site}
use Rattle.vq_capture_check.specs.PastSites.{AreNumbered, numbered, of_kind}

same_itself : (s : Site) → same_site s s ≡ true
same_itself (OnQueue q) = eq-eqb q q refl
same_itself (OnThread h) = eq-eqb h h refl

pub site_of_test : (s t : Site) → same_site s t ≡ true → s ≡ t
site_of_test (OnQueue p) (OnQueue q) e = ap (λ (n : ℕ). OnQueue n) (eqb-true p q e)
site_of_test (OnThread p) (OnThread q) e = ap (λ (n : ℕ). OnThread n) (eqb-true p q e)
site_of_test (OnQueue p) (OnThread q) e = never e
site_of_test (OnThread p) (OnQueue q) e = never e

-- a site that is new gets the next number of its kind
number_of_new : (ts : List Site) (s : Site) → has_site ts s ≡ false → site_number (ts ++ s ∷ []) s ≡ of_kind ts s
number_of_new [] s h = ap (λ (b : Bool). cond b 0 (counted s s 0)) (same_itself s)
number_of_new (t ∷ ts) s h = case (same_site t s) refl (λ k. number_of_new ts s k)
  where
    case : (b : Bool) → same_site t s ≡ b → (has_site ts s ≡ false → site_number (ts ++ s ∷ []) s ≡ of_kind ts s) →
        cond b 0 (counted t s (site_number (ts ++ s ∷ []) s)) ≡ counted t s (of_kind ts s)
    case true q f = never (sym h ∙ ap (λ (b : Bool). b || has_site ts s) q)
    case false q f = ap (λ (n : ℕ). counted t s n) (f (sym (ap (λ (b : Bool). b || has_site ts s) q) ∙ h))

has_more : (ts : List Site) (s u : Site) → has_site (ts ++ s ∷ []) u ≡ (has_site ts u || same_site s u)
has_more [] s u = by (same_site s u)
  where
    by : (b : Bool) → (b || false) ≡ b
    by true = refl
    by false = refl
has_more (t ∷ ts) s u = by (same_site t u) (has_more ts s u)
  where
    by : (b : Bool) → has_site (ts ++ s ∷ []) u ≡ (has_site ts u || same_site s u) → (b || has_site (ts ++ s ∷ []) u) ≡ ((b || has_site ts u) || same_site s u)
    by true e = refl
    by false e = e

number_kept : (ts : List Site) (s u : Site) → has_site ts u ≡ true → site_number (ts ++ s ∷ []) u ≡ site_number ts u
number_kept [] s u h = never h
number_kept (t ∷ ts) s u h = by (same_site t u) refl (λ k. number_kept ts s u k)
  where
    by : (b : Bool) → same_site t u ≡ b → (has_site ts u ≡ true → site_number (ts ++ s ∷ []) u ≡ site_number ts u) → cond b 0 (counted t u (site_number (ts ++ s ∷ []) u)) ≡ cond b 0 (counted t u (site_number ts u))
    by true e f = refl
    by false e f = ap (λ (n : ℕ). counted t u n) (f (sym (ap (λ (b : Bool). b || has_site ts u) e) ∙ h))

pub numbered_more : (ts : List Site) (s u : Site) → has_site ts s ≡ false → numbered (ts ++ s ∷ []) u ≡ cond (same_site s u) (Some (of_kind ts s)) (numbered ts u)
numbered_more ts s u h = by (same_site s u) refl (has_site ts u) refl
  where
    some : (b : Bool) → (b || true) ≡ true
    some true = refl
    some false = refl

    by : (b : Bool) → same_site s u ≡ b → (t : Bool) → has_site ts u ≡ t → numbered (ts ++ s ∷ []) u ≡ cond b (Some (of_kind ts s)) (numbered ts u)
    by true e t g =
        subst (λ (v : Site). numbered (ts ++ s ∷ []) v ≡ Some (of_kind ts s)) (site_of_test s u e)
        ((λ i. cond ((has_more ts s s ∙ (ap (λ (b : Bool). has_site ts s || b) (same_itself s) ∙ some (has_site ts s))) i) (Some (number_of_new ts s h i)) None))
    by false e true g =
        (λ i. cond ((has_more ts s u ∙ (λ j. g j || e j)) i) (Some (number_kept ts s u g i)) None)
        ∙ sym (ap (λ (b : Bool). cond b (Some (site_number ts u)) None) g)
    by false e false g =
        (λ i. cond ((has_more ts s u ∙ (λ j. g j || e j)) i) (Some (site_number (ts ++ s ∷ []) u)) None)
        ∙ sym (ap (λ (b : Bool). cond b (Some (site_number ts u)) None) g)

kind_more : (ts : List Site) (s u : Site) → of_kind (ts ++ s ∷ []) u ≡ cond (same_kind s u) (suc (of_kind ts u)) (of_kind ts u)
kind_more [] s u = refl
kind_more (t ∷ ts) s u = ap (λ (n : ℕ). counted t u n) (kind_more ts s u) ∙ by (same_kind t u) (same_kind s u)
  where
    by : (a b : Bool) → cond a (suc (cond b (suc (of_kind ts u)) (of_kind ts u))) (cond b (suc (of_kind ts u)) (of_kind ts u)) ≡ cond b (suc (cond a (suc (of_kind ts u)) (of_kind ts u))) (cond a (suc (of_kind ts u)) (of_kind ts u))
    by true true = refl
    by true false = refl
    by false true = refl
    by false false = refl

same_key : (n q : ℕ) → is_at (nat_cmp n) q ≡ (n == q)
same_key n q = by (nat_lt n q) refl (n == q) refl
  where
    by : (l : Bool) → nat_lt n q ≡ l → (e : Bool) → (n == q) ≡ e → is_eq (cond l Less (cond e Equal Greater)) ≡ e
    by true f true e = apart n q f (eqb-true n q e)
      where
        apart : (n q : ℕ) → nat_lt n q ≡ true → n ≡ q → false ≡ true
        apart n q f e = let l = below_of_test n q f in absurd (omega arith)
    by true f false e = refl
    by false f true e = refl
    by false f false e = refl

module _ (ts : List Site) (queues threads : BTreeMap ℕ ℕ) (q t : ℕ) (k : AreNumbered ts queues threads q t) where
  pub queue_added : (n : ℕ) (more : BTreeMap ℕ ℕ) → has_site ts (OnQueue n) ≡ false → ((i : ℕ) → get nat_cmp more i ≡ cond (is_at (nat_cmp n) i) (Some q) (get nat_cmp queues i)) → AreNumbered (ts ++ OnQueue n ∷ []) more threads (q + 1) t
  queue_added n more h f = record {
    queues_are = λ i.
        f i
        ∙ ((λ j. cond (same_key n i j) (Some (sym (k.queues_count n) j)) (k.queues_are i j))
        ∙ sym (numbered_more ts (OnQueue n) (OnQueue i) h));
    threads_are = λ i. k.threads_are i ∙ sym (numbered_more ts (OnQueue n) (OnThread i) h);
    queues_count = λ i.
        let one = k.queues_count i in
        let more_of : of_kind (ts ++ OnQueue n ∷ []) (OnQueue i) ≡ suc (of_kind ts (OnQueue i)) = kind_more ts (OnQueue n) (OnQueue i) in
        omega arith;
    threads_count = λ i. kind_more ts (OnQueue n) (OnThread i) ∙ k.threads_count i;
  }

  pub thread_added : (n : ℕ) (more : BTreeMap ℕ ℕ) → has_site ts (OnThread n) ≡ false → ((i : ℕ) → get nat_cmp more i ≡ cond (is_at (nat_cmp n) i) (Some t) (get nat_cmp threads i)) → AreNumbered (ts ++ OnThread n ∷ []) queues more q (t + 1)
  thread_added n more h f = record {
    queues_are = λ i. k.queues_are i ∙ sym (numbered_more ts (OnThread n) (OnQueue i) h);
    threads_are = λ i.
        f i
        ∙ ((λ j. cond (same_key n i j) (Some (sym (k.threads_count n) j)) (k.threads_are i j))
        ∙ sym (numbered_more ts (OnThread n) (OnThread i) h));
    queues_count = λ i. kind_more ts (OnThread n) (OnQueue i) ∙ k.queues_count i;
    threads_count = λ i.
        let one = k.threads_count i in
        let more_of : of_kind (ts ++ OnThread n ∷ []) (OnThread i) ≡ suc (of_kind ts (OnThread i)) = kind_more ts (OnThread n) (OnThread i) in
        omega arith;
  }

-- the number that is found, or that of a site that is put behind the others
pub number_found : (ts : List Site) (s : Site) (n : ℕ) → Some n ≡ numbered ts s → (ts ≡ with_site ts s) × (n ≡ site_number ts s)
number_found ts s n e = by (has_site ts s) refl e
  where
    got : Option ℕ → ℕ
    got (Some m) = m
    got None = 0

    is : Option ℕ → Bool
    is (Some m) = true
    is None = false

    by : (b : Bool) → has_site ts s ≡ b → Some n ≡ cond b (Some (site_number ts s)) None → (ts ≡ with_site ts s) × (n ≡ site_number ts s)
    by true h f = (sym (ap (λ (b : Bool). cond b ts (ts ++ s ∷ [])) h), ap (λ (o : Option ℕ). got o) f)
    by false h f = never (sym (ap (λ (o : Option ℕ). is o) f))

pub not_found : (ts : List Site) (s : Site) → None ≡ numbered ts s → has_site ts s ≡ false
not_found ts s e = by (has_site ts s) refl e
  where
    is : Option ℕ → Bool
    is (Some m) = true
    is None = false

    by : (b : Bool) → has_site ts s ≡ b → None ≡ cond b (Some (site_number ts s)) None → has_site ts s ≡ false
    by true h f = never (ap (λ (o : Option ℕ). is o) f)
    by false h f = h

pub number_new : (ts now : List Site) (s : Site) (n : ℕ) → has_site ts s ≡ false → now ≡ ts ++ s ∷ [] → n ≡ of_kind ts s → (now ≡ with_site ts s) × (n ≡ site_number now s)
number_new ts now s n h e f = (
  e ∙ sym (ap (λ (b : Bool). cond b ts (ts ++ s ∷ [])) h),
  f ∙ (sym (number_of_new ts s h) ∙ ap (λ (us : List Site). site_number us s) (sym e)),
)

-- a queue's first lane
pub queue_aligned : (ts : List Site) (o : Option ℕ) → some_lane ts (queue_site o) % 15 ≡ 0
queue_aligned ts (Some q) = omega arith
queue_aligned ts None = refl
