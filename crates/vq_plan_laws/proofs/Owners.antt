-- Where signals come from: the job of each operation.
use Rattle.std.proofs.Common.{◌≡◌, Some, ℕ, zero, suc, ◌++◌, None, sym, ap, ◌∙◌, ◌+◌, List, ◌<◌, ◌≤◌, [], ◌∷◌, length, refl, ◌⊎◌, inl, inr, subst, arith, ◌-◌}
use Rattle.vq_model.specs.Signals.{Signaling, job_signals, of_mark, step_signals}
use Rattle.std.specs.List.{slice_get, flat_map, enumerate_from}
use Rattle.std.specs.Option.{option_to_list}
use Rattle.vq_model.specs.declared.script.Job.{Job}
use Rattle.vq_model.specs.declared.script.Job.TheVariants.{Host, Batch}
use Rattle.vq_model.specs.declared.script.HostStep.{HostStep}
use Rattle.vq_model.specs.declared.script.HostStep.TheVariants.{Signal}
use Rattle.vq_ground.proofs.Gets.{get-map, get-append, get-append_left}
use Rattle.vq_ground.proofs.Options.{some_of}
use Rattle.std.proofs.lemmas.Bool.{cases_lt}

same_signal : (x y : Signaling) → Some x ≡ Some y → x ≡ y
same_signal x y e = cc

pub each_job : (a : ℕ) (job : Job) (i : ℕ) (x : Signaling) → slice_get (job_signals (a, job)) i ≡ Some x → x.job ≡ a
each_job a (Host h) i x e = by_step h.step e
  where
    absent : {A : Type 0} → None ≡ Some x → A
    absent c = absurd (cc)

    by_step : (t : HostStep) → slice_get (step_signals a h.line t) i ≡ Some x → x.job ≡ a
    by_step (Signal pair) g = first i g
      where
        first : (n : ℕ) → slice_get (step_signals a h.line (Signal pair)) n ≡ Some x → x.job ≡ a
        first zero c = let d : record { job = a; line = h.line; semaphore = pair.semaphore; value = pair.value } ≡ x = same_signal _ x c in ap (λ z. z.job) (sym d)
        first (suc n) c = absent c
    by_step t g = absent g
each_job a (Batch b) i x e =
    let m = some_of (of_mark a) (slice_get (b.signals ++ option_to_list b.fence) i) x (sym (get-map (of_mark a) (b.signals ++ option_to_list b.fence) i) ∙ e) in
    ap (λ z. z.job) (sym m.2)

-- the job of a signal
pub record IsOf (a : ℕ) (jobs : List Job) (x : Signaling) : Type 0 where
  pub place : ℕ
  pub number : a + place ≡ x.job
  pub job : Job
  pub is : slice_get jobs place ≡ Some job
  pub line : ℕ
  pub among : slice_get (job_signals (a + place, job)) line ≡ Some x

pub owner : (a : ℕ) (jobs : List Job) (e : ℕ) (x : Signaling) → slice_get (flat_map job_signals (enumerate_from a jobs)) e ≡ Some x → IsOf a jobs x
owner a [] e x g = absurd (let c : None ≡ Some x = g in cc)
owner a (job ∷ jobs) e x g = by_place (cases_lt e (length (job_signals (a, job)))) (owner (a + 1) jobs)
  where
    rest : List Signaling
    rest = flat_map job_signals (enumerate_from (a + 1) jobs)

    by_place : ((e < length (job_signals (a, job))) ⊎ (length (job_signals (a, job)) ≤ e)) → ((i : ℕ) (y : Signaling) → slice_get (flat_map job_signals (enumerate_from (a + 1) jobs)) i ≡ Some y → IsOf (a + 1) jobs y) → IsOf a (job ∷ jobs) x
    by_place (inl l) f =
        let c = sym (get-append_left (job_signals (a, job)) (flat_map job_signals (enumerate_from (a + 1) jobs)) e l) ∙ g in
        let z : a ≡ a + 0 = omega arith in
        record { place = 0; number = sym z ∙ sym (each_job a job e x c); job = job; is = refl; line = e; among = subst (λ n. slice_get (job_signals (n, job)) e ≡ Some x) z c }
    by_place (inr l) f =
        let i : ℕ = e - length (job_signals (a, job)) in
        let q : length (job_signals (a, job)) + i ≡ e = omega arith in
        let c = sym (get-append (job_signals (a, job)) (flat_map job_signals (enumerate_from (a + 1) jobs)) i) ∙ (ap (slice_get (job_signals (a, job) ++ flat_map job_signals (enumerate_from (a + 1) jobs))) q ∙ g) in
        let o = f i x c in
        let m : (a + 1) + o.place ≡ a + suc o.place = omega arith in
        record { place = suc o.place; number = sym m ∙ o.number; job = o.job; is = o.is; line = o.line; among = subst (λ n. slice_get (job_signals (n, o.job)) o.line ≡ Some x) m o.among }
