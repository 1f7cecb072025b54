-- Sites by their numbers, which stay as others come behind them.
use Rattle.std.proofs.Common.{◌≡◌, ◌∙◌, Bool, true, false, ℕ, suc, List, [], ◌∷◌, ◌++◌, cond, refl, sym, ap, subst, arith, Option, Some, None}
use Rattle.std.specs.Prelude.{◌||◌}
use Rattle.std.proofs.lemmas.List.{append-nil, append_assoc}
use Rattle.std.proofs.lemmas.Bool.{eq-eqb}
use Rattle.vq_ground.proofs.Bools.{never}
use Rattle.vq_capture.specs.declared.capture.Step.{Step}
use Rattle.vq_capture_check.specs.declared.sites.Site.{Site}
use Rattle.vq_capture_check.specs.declared.sites.Site.TheVariants.{OnQueue, OnThread}
use Rattle.vq_capture_touched.specs.declared.touch.StepLanes.{StepLanes}
use Rattle.vq_capture_check.specs.Sites.{same_site, same_kind, counted, site_number, has_site, with_site, lane_from, first_lane, queue_site, thread_site, after_site, with_some, some_lane, with_sites, lanes_of}
use Rattle.vq_capture_check.proofs.Cited.{site_of_test}

test_of_site : (a b : Site) → a ≡ b → same_site a b ≡ true
test_of_site (OnQueue p) b e = subst (λ (c : Site). same_site (OnQueue p) c ≡ true) e (eq-eqb p p refl)
test_of_site (OnThread p) b e = subst (λ (c : Site). same_site (OnThread p) c ≡ true) e (eq-eqb p p refl)

-- a site that is there keeps its number
pub number_stays : (ts us : List Site) (s : Site) → has_site ts s ≡ true → site_number (ts ++ us) s ≡ site_number ts s
number_stays [] us s h = never h
number_stays (t ∷ ts) us s h = case (same_site t s) refl (λ k. number_stays ts us s k)
  where
    case : (b : Bool) → same_site t s ≡ b → (has_site ts s ≡ true → site_number (ts ++ us) s ≡ site_number ts s) →
        cond b 0 (counted t s (site_number (ts ++ us) s)) ≡ cond b 0 (counted t s (site_number ts s))
    case true e f = refl
    case false e f =
        ap (λ (n : ℕ). counted t s n)
        (f (sym (ap (λ (b : Bool). b || has_site ts s) e) ∙ h))

pub there_stays : (ts us : List Site) (s : Site) → has_site ts s ≡ true → has_site (ts ++ us) s ≡ true
there_stays [] us s h = never h
there_stays (t ∷ ts) us s h = case (same_site t s) refl (λ k. there_stays ts us s k)
  where
    case : (b : Bool) → same_site t s ≡ b → (has_site ts s ≡ true → has_site (ts ++ us) s ≡ true) →
        (b || has_site (ts ++ us) s) ≡ true
    case true e f = refl
    case false e f =
        f (sym (ap (λ (b : Bool). b || has_site ts s) e) ∙ h)

-- sites of one kind are counted alike
alike_counted : (t a b : Site) → same_kind a b ≡ true → (n : ℕ) → counted t a n ≡ counted t b n
alike_counted (OnQueue p) (OnQueue q) (OnQueue r) k n = refl
alike_counted (OnThread p) (OnQueue q) (OnQueue r) k n = refl
alike_counted (OnQueue p) (OnThread q) (OnThread r) k n = refl
alike_counted (OnThread p) (OnThread q) (OnThread r) k n = refl
alike_counted t (OnQueue q) (OnThread r) k n = never k
alike_counted t (OnThread q) (OnQueue r) k n = never k

counts_itself : (a : Site) (n : ℕ) → counted a a n ≡ suc n
counts_itself (OnQueue p) n = refl
counts_itself (OnThread p) n = refl

-- a number that is counted behind a site
counts_on : (t a : Site) (m n : ℕ) → counted t a m ≡ counted t a n → m ≡ n
counts_on t a m n = by (same_kind t a)
  where
    by : (c : Bool) → cond c (suc m) m ≡ cond c (suc n) n → m ≡ n
    by true e = omega arith
    by false e = e

-- sites of one kind and one number are the same
pub same_of_number : (ts : List Site) (a b : Site) → same_kind a b ≡ true → has_site ts a ≡ true → has_site ts b ≡ true → site_number ts a ≡ site_number ts b → a ≡ b
same_of_number [] a b kind h k e = never h
same_of_number (t ∷ ts) a b kind h k e =
    case (same_site t a) refl (same_site t b) refl e (λ p q n. same_of_number ts a b kind p q n)
  where
    -- a site of this kind behind it has a number above 0
    first : (c d : Site) → same_site t c ≡ true → same_kind c d ≡ true → (n : ℕ) → 0 ≡ counted t d n → c ≡ d
    first c d p j n q =
        let here : counted t d n ≡ suc n =
        sym (alike_counted t c d j n) ∙ (ap (λ (s : Site). counted s c n) (site_of_test t c p) ∙ counts_itself c n) in
        absurd (omega arith)

    back : (c d : Site) → same_kind c d ≡ true → same_kind d c ≡ true
    back (OnQueue p) (OnQueue q) j = refl
    back (OnThread p) (OnThread q) j = refl
    back (OnQueue p) (OnThread q) j = never j
    back (OnThread p) (OnQueue q) j = never j

    case : (x : Bool) → same_site t a ≡ x → (y : Bool) → same_site t b ≡ y →
        cond x 0 (counted t a (site_number ts a)) ≡ cond y 0 (counted t b (site_number ts b)) →
        (has_site ts a ≡ true → has_site ts b ≡ true → site_number ts a ≡ site_number ts b → a ≡ b) → a ≡ b
    case true p true q f g = sym (site_of_test t a p) ∙ site_of_test t b q
    case true p false q f g = first a b p kind (site_number ts b) f
    case false p true q f g = sym (first b a q (back a b kind) (site_number ts a) (sym f))
    case false p false q f g =
        g (sym (ap (λ (b : Bool). b || has_site ts a) p) ∙ h)
        (sym (ap (λ (x : Bool). x || has_site ts b) q) ∙ k)
        (counts_on t b (site_number ts a) (site_number ts b) (sym (alike_counted t a b kind (site_number ts a)) ∙ f))

-- Sites with more behind them

abbrev pub Extends : List Site → List Site → Type 0
Extends ts us = (more : List Site) × (us ≡ ts ++ more)

pub extends_itself : (ts : List Site) → Extends ts ts
extends_itself ts = ([], sym (append-nil ts))

pub extends_twice : (ts us vs : List Site) → Extends ts us → Extends us vs → Extends ts vs
extends_twice ts us vs p q =
    (p.0 ++ q.0, q.1 ∙ (ap (λ (l : List Site). l ++ q.0) p.1 ∙ append_assoc ts p.0 q.0))

with_extends : (ts : List Site) (s : Site) → Extends ts (with_site ts s)
with_extends ts s = case (has_site ts s)
  where
    case : (b : Bool) → Extends ts (cond b ts (ts ++ s ∷ []))
    case true = extends_itself ts
    case false = (s ∷ [], refl)

some_extends : (ts : List Site) (o : Option Site) → Extends ts (with_some ts o)
some_extends ts None = extends_itself ts
some_extends ts (Some s) = with_extends ts s

last_there : (ts : List Site) (s : Site) → has_site (ts ++ s ∷ []) s ≡ true
last_there [] s = ap (λ (b : Bool). b || false) (test_of_site s s refl)
last_there (t ∷ ts) s = case (same_site t s) (last_there ts s)
  where
    case : (b : Bool) → has_site (ts ++ s ∷ []) s ≡ true → (b || has_site (ts ++ s ∷ []) s) ≡ true
    case true f = refl
    case false f = f

with_there : (ts : List Site) (s : Site) → has_site (with_site ts s) s ≡ true
with_there ts s = case (has_site ts s) refl
  where
    case : (b : Bool) → has_site ts s ≡ b → has_site (cond b ts (ts ++ s ∷ [])) s ≡ true
    case true e = e
    case false e = last_there ts s

-- a site, if there is one, is there
abbrev pub IsThere : List Site → Option Site → Type 0
IsThere ts o = (s : Site) → o ≡ Some s → has_site ts s ≡ true

pub is_there : (ts us : List Site) (o : Option Site) → Extends (with_some ts o) us → IsThere us o
is_there ts us None e s q = absurd (no_site s q)
  where
    no_site : (s : Site) → None ≡ Some s → ⊥
    no_site s q = cc
is_there ts us (Some t) e s q =
    subst (λ (l : List Site). has_site l s ≡ true) (sym e.1)
    (there_stays (with_site ts t) e.0 s
    (subst (λ (u : Site). has_site (with_site ts t) u ≡ true) (same_some q) (with_there ts t)))
  where
    same_some : Some t ≡ Some s → t ≡ s
    same_some q = cc

lane_stays : (ts us : List Site) (o : Option Site) → Extends (with_some ts o) us → some_lane (with_some ts o) o ≡ some_lane us o
lane_stays ts us None e = refl
lane_stays ts us (Some s) e =
    sym (ap (λ (l : List Site). first_lane l s) e.1
    ∙ ap (λ (n : ℕ). lane_from s n) (number_stays (with_site ts s) e.0 s (with_there ts s)))

-- the first lanes of a step's sites among all
abbrev pub lanes_by : List Site → Step → StepLanes
lanes_by sites step = record {
  queue = some_lane sites (queue_site step.queue);
  thread = some_lane sites (thread_site step.thread);
  after = some_lane sites (after_site step.statement);
}

-- the sites of a step are among all
pub record HasSites (sites : List Site) (step : Step) : Type 0 where
  pub queue : IsThere sites (queue_site step.queue)
  pub thread : IsThere sites (thread_site step.thread)
  pub after : IsThere sites (after_site step.statement)

module _ (ts us : List Site) (step : Step) (e : Extends (with_sites ts step) us) where
  abbrev one : List Site
  one = with_some ts (queue_site step.queue)

  abbrev two : List Site
  two = with_some one (thread_site step.thread)

  from_two : Extends two us
  from_two = extends_twice two (with_sites ts step) us (some_extends two (after_site step.statement)) e

  from_one : Extends one us
  from_one = extends_twice one two us (some_extends one (thread_site step.thread)) from_two

  pub sites_there : HasSites us step
  sites_there = record {
    queue = is_there ts us (queue_site step.queue) from_one;
    thread = is_there one us (thread_site step.thread) from_two;
    after = is_there two us (after_site step.statement) e;
  }

  pub lanes_stay : lanes_of ts step ≡ lanes_by us step
  lanes_stay = λ i. record {
    queue = lane_stays ts us (queue_site step.queue) from_one i;
    thread = lane_stays one us (thread_site step.thread) from_two i;
    after = lane_stays two us (after_site step.statement) e i;
  }

pub sites_extend : (ts : List Site) (step : Step) → Extends ts (with_sites ts step)
sites_extend ts step =
    let one = with_some ts (queue_site step.queue) in
    let two = with_some one (thread_site step.thread) in
    extends_twice ts one (with_sites ts step) (some_extends ts (queue_site step.queue))
    (extends_twice one two (with_sites ts step) (some_extends one (thread_site step.thread))
    (some_extends two (after_site step.statement)))
