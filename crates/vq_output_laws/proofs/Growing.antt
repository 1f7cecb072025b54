-- Runs that go on from a state and do no more than they may: jobs that may run, operations that may be made.
use Rattle.std.proofs.Common.{ℕ, true, false, List, [], ◌∷◌, ◌≡◌, ◌≤◌, ◌⊎◌, refl, sym, ap, ◌∙◌, inl, inr, subst, arith, Option}
use Rattle.std.proofs.lemmas.Bool.{cases_eq, false≢true}
use Rattle.vq_ground.specs.Lists.{has}
use Rattle.vq_ground.proofs.Lists.{has-append_left, has_here, has_there, has_cases}
use Rattle.vq_model.specs.Plan.{Plan, value}
use Rattle.vq_model.specs.Machine.{State, Step, StartStep, ApplyStep, SignalStep, FinishStep, CanStep, CanSignal, after_step, with_signal, put}
use Rattle.vq_model.specs.SureOrder.{KeepsChains}
use Rattle.vq_model.specs.WellFormed.{IsWellFormed}
use Rattle.vq_model.specs.Outputs.{IsIn, here, there}
use Rattle.vq_model.proofs.Puts.{put_here, put_there, put_cases, put_keeps}
use Rattle.vq_run_laws.proofs.Cited.{Invariant, Raised, keep, raised_step}

-- what each state of a run keeps
pub record Sound (p : Plan) (s : State) : Type 0 where
  pub facts : Invariant p s.progress
  pub raised : Raised p s.progress.payload s.progress.made

pub data Path (p : Plan) (s : State) : State → Type 0 where
  stay : Path p s s
  go : (u : State) (x : Step) → Path p s u → CanStep p u x → Path p s (after_step p u x)

pub joined : (p : Plan) (s u v : State) → Path p s u → Path p u v → Path p s v
joined p s u v a stay = a
joined p s u v a (go w x b c) = go w x (joined p s u w a b) c

-- A later state, in which only jobs that may run and operations that may be made are new.
pub record Grows (MayRun MayMake : ℕ → Type 0) (s u : State) : Type 0 where
  pub made : (e : ℕ) → s.progress.made e ≡ true → u.progress.made e ≡ true
  pub started : (j : ℕ) → s.progress.started j ≡ true → u.progress.started j ≡ true
  pub finished : (j : ℕ) → s.progress.finished j ≡ true → u.progress.finished j ≡ true
  pub applied : (c : ℕ) → has s.progress.applied c ≡ true → has u.progress.applied c ≡ true
  pub payload : (t : ℕ) → s.progress.payload t ≤ u.progress.payload t
  pub answer : (j : ℕ) → u.answer j ≡ s.answer j
  pub at_start : (j t : ℕ) → s.progress.started j ≡ true → u.at_start j t ≡ s.at_start j t
  pub made_may : (e : ℕ) → u.progress.made e ≡ true → (s.progress.made e ≡ true) ⊎ MayMake e
  pub started_may : (j : ℕ) → u.progress.started j ≡ true → (s.progress.started j ≡ true) ⊎ MayRun j
  pub finished_may : (j : ℕ) → u.progress.finished j ≡ true → (s.progress.finished j ≡ true) ⊎ MayRun j

module _ (MayRun MayMake : ℕ → Type 0) where
  pub grows_same : (s : State) → Grows MayRun MayMake s s
  grows_same s =
      record {
        made = λ e h. h;
        started = λ j h. h;
        finished = λ j h. h;
        applied = λ c h. h;
        payload = λ t. omega arith;
        answer = λ j. refl;
        at_start = λ j t h. refl;
        made_may = λ e h. inl h;
        started_may = λ j h. inl h;
        finished_may = λ j h. inl h;
      }

  on : {A B C : Type 0} → (A → B ⊎ C) → A ⊎ C → B ⊎ C
  on f (inl a) = f a
  on f (inr c) = inr c

  pub grows_on : (s u v : State) → Grows MayRun MayMake s u → Grows MayRun MayMake u v → Grows MayRun MayMake s v
  grows_on s u v a b =
      record {
        made = λ e h. b.made e (a.made e h);
        started = λ j h. b.started j (a.started j h);
        finished = λ j h. b.finished j (a.finished j h);
        applied = λ c h. b.applied c (a.applied c h);
        payload = λ t. let x = a.payload t in let y = b.payload t in omega arith;
        answer = λ j. b.answer j ∙ a.answer j;
        at_start = λ j t h. b.at_start j t (a.started j h) ∙ a.at_start j t h;
        made_may = λ e h. on (a.made_may e) (b.made_may e h);
        started_may = λ j h. on (a.started_may j) (b.started_may j h);
        finished_may = λ j h. on (a.finished_may j) (b.finished_may j h);
      }

  pub start_grows : (p : Plan) (s : State) (j : ℕ) → s.progress.started j ≡ false → MayRun j → Grows MayRun MayMake s (after_step p s (StartStep j))
  start_grows p s j new may =
      record {
        made = λ e h. h;
        started = λ i h. put_keeps s.progress.started j i h;
        finished = λ i h. h;
        applied = λ c h. h;
        payload = λ t. omega arith;
        answer = λ i. refl;
        at_start = λ i t h. ap (λ (f : ℕ → ℕ). f t) (put_there s.at_start j s.progress.payload i (λ q. false≢true (sym new ∙ (ap s.progress.started (sym q) ∙ h))));
        made_may = λ e h. inl h;
        started_may = λ i h. elim (put_cases s.progress.started j i h) [ inl q ↦ inr (subst MayRun (sym q) may) | inr o ↦ inl o ];
        finished_may = λ i h. inl h;
      }

  pub apply_grows : (p : Plan) (s : State) (c : ℕ) → Grows MayRun MayMake s (after_step p s (ApplyStep c))
  apply_grows p s c =
      record {
        made = λ e h. h;
        started = λ i h. h;
        finished = λ i h. h;
        applied = λ d h. has-append_left s.progress.applied (c ∷ []) d h;
        payload = λ t. omega arith;
        answer = λ i. refl;
        at_start = λ i t h. refl;
        made_may = λ e h. inl h;
        started_may = λ i h. inl h;
        finished_may = λ i h. inl h;
      }

  pub signal_grows : (p : Plan) (s : State) (e : ℕ) → CanSignal p s.progress e → MayMake e → Grows MayRun MayMake s (after_step p s (SignalStep e))
  signal_grows p s e c may =
      let P : Option ℕ → Type 0 = λ o. Grows MayRun MayMake s (record s { progress = with_signal p s.progress e o }) in
      subst P (sym c.in_chain) record {
        made = λ f h. put_keeps s.progress.made e f h;
        started = λ i h. h;
        finished = λ i h. h;
        applied = λ d h. h;
        payload = λ t. rises t (cases_eq t c.chain);
        answer = λ i. refl;
        at_start = λ i t h. refl;
        made_may = λ f h. elim (put_cases s.progress.made e f h) [ inl q ↦ inr (subst MayMake (sym q) may) | inr o ↦ inl o ];
        started_may = λ i h. inl h;
        finished_may = λ i h. inl h;
      }
    where
      rises : (t : ℕ) → ((t ≡ c.chain) ⊎ (t ≡ c.chain → ⊥)) → s.progress.payload t ≤ put s.progress.payload c.chain (value p e) t
      rises t (inl q) =
          let a = ap s.progress.payload q in
          let b = ap (put s.progress.payload c.chain (value p e)) q ∙ put_here s.progress.payload c.chain (value p e) in
          let l = c.rises in
          omega arith
      rises t (inr q) = let b = put_there s.progress.payload c.chain (value p e) t q in omega arith

  pub finish_grows : (p : Plan) (s : State) (j : ℕ) → MayRun j → Grows MayRun MayMake s (after_step p s (FinishStep j))
  finish_grows p s j may =
      record {
        made = λ e h. h;
        started = λ i h. h;
        finished = λ i h. put_keeps s.progress.finished j i h;
        applied = λ c h. h;
        payload = λ t. omega arith;
        answer = λ i. refl;
        at_start = λ i t h. refl;
        made_may = λ e h. inl h;
        started_may = λ i h. inl h;
        finished_may = λ i h. elim (put_cases s.progress.finished j i h) [ inl q ↦ inr (subst MayRun (sym q) may) | inr o ↦ inl o ];
      }

-- a state to which a run goes on, and of which something holds
pub record Brings (p : Plan) (MayRun MayMake : ℕ → Type 0) (s : State) (Q : State → Type 0) : Type 0 where
  pub to : State
  pub path : Path p s to
  pub sound : Sound p to
  pub grows : Grows MayRun MayMake s to
  pub holds : Q to

module _ (p : Plan) (w : IsWellFormed p) (chains : KeepsChains p) where
  pub sound_step : (s : State) (x : Step) → Sound p s → CanStep p s x → Sound p (after_step p s x)
  sound_step s x k c = record { facts = keep p w chains s x k.facts c; raised = raised_step p s x k.raised c }

  module _ (MayRun MayMake : ℕ → Type 0) where
    pub brings_here : (s : State) (Q : State → Type 0) → Sound p s → Q s → Brings p MayRun MayMake s Q
    brings_here s Q k q = record { to = s; path = stay; sound = k; grows = grows_same MayRun MayMake s; holds = q }

    pub brings_on : (s : State) (Q R : State → Type 0) → Brings p MayRun MayMake s Q → ((u : State) → Sound p u → Grows MayRun MayMake s u → Q u → Brings p MayRun MayMake u R) → Brings p MayRun MayMake s R
    brings_on s Q R b f =
        let c = f b.to b.sound b.grows b.holds in
        record {
          to = c.to;
          path = joined p s b.to c.to b.path c.path;
          sound = c.sound;
          grows = grows_on MayRun MayMake s b.to c.to b.grows c.grows;
          holds = c.holds;
        }

    pub brings_step : (s : State) (x : Step) (Q : State → Type 0) → Sound p s → CanStep p s x → Grows MayRun MayMake s (after_step p s x) → Q (after_step p s x) → Brings p MayRun MayMake s Q
    brings_step s x Q k c g q = record { to = after_step p s x; path = go s x stay c; sound = sound_step s x k c; grows = g; holds = q }

    -- each of a list is brought about, one after another
    pub brings_each : (A : Type 0) (Q : A → State → Type 0) → ((a : A) (u v : State) → Grows MayRun MayMake u v → Q a u → Q a v) → (xs : List A) (s : State) → Sound p s → ((a : A) → IsIn a xs → (u : State) → Sound p u → Grows MayRun MayMake s u → Brings p MayRun MayMake u (Q a)) → Brings p MayRun MayMake s (λ u. (a : A) → IsIn a xs → Q a u)
    brings_each A Q stable [] s k f = brings_here s (λ u. (a : A) → IsIn a [] → Q a u) k (λ a m. none a m)
      where
        none : (a : A) → IsIn a [] → Q a s
        none a m = elim m [ ]
    brings_each A Q stable (x ∷ xs) s k f =
        brings_on s (Q x) (λ u. (a : A) → IsIn a (x ∷ xs) → Q a u) (f x here s k (grows_same MayRun MayMake s)) (λ u ku g q.
        brings_on u (λ v. (a : A) → IsIn a xs → Q a v) (λ v. (a : A) → IsIn a (x ∷ xs) → Q a v) (brings_each A Q stable xs u ku (λ a m v kv gv. f a (there m) v kv (grows_on MayRun MayMake s u v g gv))) (λ v kv gv each.
        brings_here v (λ z. (a : A) → IsIn a (x ∷ xs) → Q a z) kv (all u v gv q each)))
      where
        all : (u v : State) → Grows MayRun MayMake u v → Q x u → ((a : A) → IsIn a xs → Q a v) → (a : A) → IsIn a (x ∷ xs) → Q a v
        all u v g q each a here = stable x u v g q
        all u v g q each a (there m) = each a m

-- both ways to say that a number is in a list
pub is_in : (xs : List ℕ) (x : ℕ) → has xs x ≡ true → IsIn x xs
is_in [] x h = absurd (false≢true h)
is_in (y ∷ xs) x h = elim (has_cases y xs x h) [ inl q ↦ subst (λ z. IsIn z (y ∷ xs)) q here | inr m ↦ there (is_in xs x m) ]

pub of_in : (xs : List ℕ) (x : ℕ) → IsIn x xs → has xs x ≡ true
of_in [] x m = elim m [ ]
of_in (y ∷ xs) x here = has_here y xs
of_in (y ∷ xs) x (there m) = has_there y xs x (of_in xs x m)
