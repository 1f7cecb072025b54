-- Marks and payloads tell whether a job is ready.
use Rattle.std.proofs.Common.{◌≡◌, ℕ, zero, suc, ◌<◌, Bool, true, false, if◌then◌else◌, nat_le, List, [], ◌∷◌, ◌++◌, length, All, Some, None, refl, sym, ap, ◌∙◌, subst, arith}
use Rattle.std.specs.List.{list_all, list_any, slice_get}
use Rattle.std.specs.Option.{option_map_or, option_to_list}
use Rattle.vq_model.specs.declared.plan.Need.{Need}
use Rattle.vq_model.specs.declared.plan.PlanJob.{PlanJob}
use Rattle.vq_model.specs.Edges.{AtEnd, must_finish}
use Rattle.vq_model.specs.LoweredPlans.{IsPlan}
use Rattle.vq_model.specs.Machine.{is_reached, are_reached}
use Rattle.vq_model.specs.Plan.{Plan, needs, waits_for_any}
use Rattle.vq_ground.specs.Lists.{has}
use Rattle.vq_model.specs.SlowRun.{payload_after}
use Rattle.vq_ground.proofs.Lists.{has_here, has_there}
use Rattle.vq_plan_laws.proofs.Cited.{plan_lanes, plan_semaphores}
use Rattle.vq_spec.specs.Jobs.{finished_before}
use Rattle.vq_spec.specs.SlowProgress.{is_marked, payload_in, AreMarks, ArePayloads}

-- Lists

pub all_from : (P : ℕ → Type 0) (xs : List ℕ) → ((x : ℕ) → has xs x ≡ true → P x) → All P xs
all_from P [] f k d l = absurd (omega arith)
all_from P (x ∷ xs) f zero d l = f x (has_here x xs)
all_from P (x ∷ xs) f (suc k) d l = all_from P xs (λ y h. f y (has_there x xs y h)) k d (omega arith)

pub all_right : (P : ℕ → Type 0) (xs ys : List ℕ) → All P (xs ++ ys) → All P ys
all_right P [] ys a = a
all_right P (x ∷ xs) ys a = all_right P xs ys (λ k d l. a (suc k) d (omega arith))

all_tail : {X : Type 0} (P : X → Type 0) (x : X) (xs : List X) → All P (x ∷ xs) → All P xs
all_tail P x xs a k d l = a (suc k) d (omega arith)

same_all : {X : Type 0} (f g : X → Bool) (P : X → Type 0) (xs : List X) → All P xs → ((x : X) → P x → f x ≡ g x) → list_all f xs ≡ list_all g xs
same_all f g P [] a e = refl
same_all f g P (x ∷ xs) a e = let h = e x (a 0 x (omega arith)) in let t = same_all f g P xs (all_tail P x xs a) e in cc

pub same_any : {X : Type 0} (f g : X → Bool) (P : X → Type 0) (xs : List X) → All P xs → ((x : X) → P x → f x ≡ g x) → list_any f xs ≡ list_any g xs
same_any f g P [] a e = refl
same_any f g P (x ∷ xs) a e = let h = e x (a 0 x (omega arith)) in let t = same_any f g P xs (all_tail P x xs a) e in cc

-- What must be finished before a job

pub must_is : (p : Plan) (j : ℕ) (job : PlanJob) → slice_get p.jobs j ≡ Some job → must_finish p j ≡ finished_before job
must_is p j job at = ap (λ o. option_to_list (option_map_or (λ x. x.previous) o None) ++ option_to_list (option_map_or (λ x. x.host_before) o None) ++ option_map_or (λ x. x.idle_after) o []) at

module _ (p : Plan) (plan : IsPlan p) (j : ℕ) (job : PlanJob) (at : slice_get p.jobs j ≡ Some job) where
  pub firsts_exist : All (λ i. i < length p.jobs) (finished_before job)
  firsts_exist = all_from (λ i. i < length p.jobs) (finished_before job) (λ i h. (plan_lanes p plan).first_exists i j (ap (λ xs. has xs i) (must_is p j job at) ∙ h))

  pub firsts_marked : (done : List ℕ) (marks : List Bool) → AreMarks p done marks → list_all (is_marked marks) (finished_before job) ≡ list_all (has done) (must_finish p j)
  firsts_marked done marks m =
      same_all (is_marked marks) (has done) (λ i. i < length p.jobs) (finished_before job) firsts_exist (λ i l. m.each i l)
      ∙ ap (list_all (has done)) (sym (must_is p j job at))

  pub own_needs : needs p j ≡ job.needs
  own_needs = ap (λ o. option_map_or (λ x. x.needs) o []) at

  pub chains_exist : All (λ n. n.chain < length p.script.semaphores) job.needs
  chains_exist = subst (All (λ n. n.chain < length p.script.semaphores)) own_needs ((plan_semaphores p plan).needs_chain j)

  pub needs_are : (done payloads : List ℕ) → ArePayloads p done payloads → (if job.any then list_any (is_reached (payload_in payloads)) job.needs else list_all (is_reached (payload_in payloads)) job.needs) ≡ are_reached p (payload_after p done) j AtEnd
  needs_are done payloads m =
      (λ k. if job.any then same_any (is_reached (payload_in payloads)) (is_reached (payload_after p done)) (λ n. n.chain < length p.script.semaphores) job.needs chains_exist same k else same_all (is_reached (payload_in payloads)) (is_reached (payload_after p done)) (λ n. n.chain < length p.script.semaphores) job.needs chains_exist same k)
      ∙ (λ k. if sym any k then list_any (is_reached (payload_after p done)) (sym own_needs k) else list_all (is_reached (payload_after p done)) (sym own_needs k))
    where
      any : waits_for_any p j ≡ job.any
      any = ap (λ o. option_map_or (λ x. x.any) o false) at

      same : (n : Need) → n.chain < length p.script.semaphores → is_reached (payload_in payloads) n ≡ is_reached (payload_after p done) n
      same n l = ap (λ v. nat_le n.value v) (m.each n.chain l)
