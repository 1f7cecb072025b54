-- The signals of a chain as the script has them, and what is counted of them.
use Rattle.std.proofs.Common.{◌≡◌, ◌+◌, Bool, cond, List, ◌∷◌, count_by, ℕ, suc, false, [], Some, refl, ap, arith, zero, ◌<◌, ◌≤◌, true, take, None, sym, subst, ◌∙◌, ◌++◌, Option, option_map, find, ◌⊎◌, inl, inr}
use Rattle.std.proofs.lemmas.List.Sums.{sum_by-cons}
use Rattle.std.specs.List.{slice_get}
use Rattle.vq_model.specs.declared.script.Mark.{Mark}
use Rattle.vq_model.specs.Plan.{job_of, line_of_op, value, chain_of, Plan}
use Rattle.vq_ground.specs.Lists.{has}
use Rattle.vq_ground.proofs.Lists.{has_here, has_there, has_cases, has-append_right}
use Rattle.vq_order_laws.proofs.JobLines.{mark_lines}
use Rattle.std.specs.Option.{option_to_list, option_map_or}
use Rattle.vq_model.specs.declared.script.Script.{Script}
use Rattle.vq_model.specs.declared.script.Batch.{Batch}
use Rattle.vq_model.specs.declared.script.Job.TheVariants.{Batch as BatchJob, Host}
use Rattle.vq_model.specs.Signals.{Signaling, all_signals, job_signals, of_mark, step_signals, is_timeline_at}
use Rattle.vq_model.specs.Lowering.{plan_of}
use Rattle.std.proofs.lemmas.Bool.{false≢true, cond-true, cond-false}
use Rattle.vq_model.specs.declared.script.HostLine.{HostLine}
use Rattle.vq_model.specs.declared.script.HostStep.{HostStep}
use Rattle.vq_model.specs.declared.script.HostStep.TheVariants.{Signal}
use Rattle.vq_model.specs.declared.script.Job.{Job}
use Rattle.vq_model.specs.ValidScripts.{IsValidStep, HasValidSteps}
use Rattle.vq_ground.proofs.Gets.{get-map}
use Rattle.vq_ground.proofs.Options.{some_of}
use Rattle.vq_plan_laws.proofs.Cited.{owner, op_chain_is, op_job_is, op_line_is}
use Rattle.vq_model.specs.WellFormed.{AreInOrder}

-- Counting

pub count-cons : {X : Type 0} (P : X → Bool) (x : X) (xs : List X) → count_by P (x ∷ xs)
    ≡ cond (P x) 1 0 + count_by P xs
count-cons P x xs = sum_by-cons (λ y. cond (P y) 1 0) x xs

pub none_counted : {X : Type 0} (P : X → Bool) (xs : List X) →
    ((i : ℕ) (y : X) → slice_get xs i ≡ Some y → P y ≡ false) → count_by P xs ≡ 0
none_counted P [] f = refl
none_counted P (x ∷ xs) f =
    let c = count-cons P x xs in
    let d : cond {A = ℕ} (P x) 1 0 ≡ 0 = ap (λ (b : Bool). cond {A = ℕ} b 1 0) (f 0 x refl) in
    let r = none_counted P xs (λ i y e. f (suc i) y e) in
    omega arith

-- one item more that is counted
pub count_take_more : {X : Type 0} (P : X → Bool) (xs : List X) (e f : ℕ) (x : X) →
    slice_get xs e ≡ Some x → P x ≡ true → e < f →
    count_by P (take e xs) + 1 ≤ count_by P (take f xs)
count_take_more P [] e f x h q l = absurd (let c : None ≡ Some x = h in cc)
count_take_more P (y ∷ xs) e zero x h q l = absurd (omega arith)
count_take_more {X} P (y ∷ xs) zero (suc f) x h q l =
    let is : y ≡ x = cc in
    let c = count-cons P y (take f xs) in
    let d : cond {A = ℕ} (P y) 1 0 ≡ 1 =
    ap (λ (b : Bool). cond {A = ℕ} b 1 0) (subst (λ (z : X). P z ≡ true) (sym is) q) in
    omega arith
count_take_more P (y ∷ xs) (suc e) (suc f) x h q l =
    let r = count_take_more P xs e f x h q (omega arith) in
    let c = count-cons P y (take e xs) in
    let d = count-cons P y (take f xs) in
    omega arith

-- of the numbers up to a place as many are counted by one test as before it by another, and one more
pub count_to : {X : Type 0} (P Q : X → Bool) (xs : List X) (e : ℕ) (x : X) → slice_get xs e ≡ Some x →
    Q x ≡ true → ((i : ℕ) (y : X) → slice_get xs i ≡ Some y → i ≤ e → P y ≡ Q y) →
    ((i : ℕ) (y : X) → slice_get xs i ≡ Some y → e < i → P y ≡ false) →
    count_by P xs ≡ count_by Q (take e xs) + 1
count_to P Q [] e x h q same none = absurd (let c : None ≡ Some x = h in cc)
count_to {X} P Q (y ∷ xs) zero x h q same none =
    let is : y ≡ x = cc in
    let a = same 0 y refl (omega arith) in
    let b : Q y ≡ true = subst (λ (z : X). Q z ≡ true) (sym is) q in
    let c = count-cons P y xs in
    let d : cond {A = ℕ} (P y) 1 0 ≡ 1 = ap (λ (b : Bool). cond {A = ℕ} b 1 0) (a ∙ b) in
    let n = none_counted P xs (λ i z k. none (suc i) z k (omega arith)) in
    omega arith
count_to P Q (y ∷ xs) (suc e) x h q same none =
    let r = count_to P Q xs e x h q (λ i z k l. same (suc i) z k (omega arith))
    (λ i z k l. none (suc i) z k (omega arith)) in
    let a = same 0 y refl (omega arith) in
    let c = count-cons P y xs in
    let d = count-cons Q y (take e xs) in
    let f : cond {A = ℕ} (P y) 1 0 ≡ cond {A = ℕ} (Q y) 1 0 = ap (λ (b : Bool). cond {A = ℕ} b 1 0) a in
    omega arith

-- the line of a mark that stands in a list
pub mark_has : (ms : List Mark) (k : ℕ) (m : Mark) → slice_get ms k ≡ Some m →
    has (mark_lines ms) m.line ≡ true
mark_has [] k m e = absurd (let c : None ≡ Some m = e in cc)
mark_has (x ∷ ms) zero m e =
    let same : x ≡ m = cc in
    subst (λ (z : Mark). has (mark_lines (x ∷ ms)) z.line ≡ true) same (has_here x.line (mark_lines ms))
mark_has (x ∷ ms) (suc k) m e = has_there x.line (mark_lines ms) m.line (mark_has ms k m e)

-- Signals of a chain

-- A signal operation of a chain, as the script has it.
pub record IsSignal (s : Script) (e t : ℕ) : Type 0 where
  pub signal : Signaling
  pub at : slice_get (all_signals s) e ≡ Some signal
  pub of_chain : signal.semaphore ≡ t
  pub batch : Batch
  pub job_at : slice_get s.jobs signal.job ≡ Some (BatchJob batch)
  pub place : ℕ
  pub mark : Mark
  pub among : slice_get (batch.signals ++ option_to_list batch.fence) place ≡ Some mark
  pub of_line : signal.line ≡ mark.line
  pub of_mark_chain : mark.semaphore ≡ t
  pub of_job : job_of (plan_of s) e ≡ Some signal.job
  pub line_is : line_of_op (plan_of s) e ≡ signal.line

module _ (s : Script) (hs : HasValidSteps s) where
  -- a host step signals timelines alone
  host_signals : (j : ℕ) (h : HostLine) → slice_get s.jobs j ≡ Some (Host h) → (k : ℕ) (x : Signaling) →
      slice_get (step_signals j h.line h.step) k ≡ Some x → is_timeline_at s x.semaphore ≡ true
  host_signals j h e k x among = by_step h.step (hs j h e) k among
    where
      by_step : (t : HostStep) → IsValidStep s t → (k : ℕ) →
          slice_get (step_signals j h.line t) k ≡ Some x → is_timeline_at s x.semaphore ≡ true
      by_step (Signal pair) v zero g =
          let here : Signaling = record { job = j; line = h.line; semaphore = pair.semaphore; value = pair.value } in
          let same : here ≡ x = cc in
          ap (λ (z : Signaling). is_timeline_at s z.semaphore) (sym same) ∙ v
      by_step (Signal pair) v (suc k) g = absurd (let c : None ≡ Some x = g in cc)
      by_step other v k g = absurd (let c : None ≡ Some x = g in cc)

  signal_of_batch : (e t : ℕ) (x : Signaling) → slice_get (all_signals s) e ≡ Some x →
      x.semaphore ≡ t → is_timeline_at s t ≡ false → IsSignal s e t
  signal_of_batch e t x at of_chain counted =
      let o = owner 0 s.jobs e x at in
      let n = o.number in
      let z : 0 + o.place ≡ o.place = omega arith in
      let same : o.place ≡ x.job = sym z ∙ n in
      by_job o.job (subst (λ (k : ℕ). slice_get s.jobs k ≡ Some o.job) same o.is) o.line
      (subst (λ (k : ℕ). slice_get (job_signals (k, o.job)) o.line ≡ Some x) n o.among)
    where
      by_job : (job : Job) → slice_get s.jobs x.job ≡ Some job → (line : ℕ) →
          slice_get (job_signals (x.job, job)) line ≡ Some x → IsSignal s e t
      by_job (Host h) is line among =
          absurd
          (false≢true
          (sym counted
          ∙ (ap (is_timeline_at s) (sym of_chain) ∙ host_signals x.job h is line x among)))
      by_job (BatchJob b) is line among =
          let m = some_of (of_mark x.job) (slice_get (b.signals ++ option_to_list b.fence) line) x
          (sym (get-map (of_mark x.job) (b.signals ++ option_to_list b.fence) line) ∙ among) in
          record {
            signal = x;
            at = at;
            of_chain = of_chain;
            batch = b;
            job_at = is;
            place = line;
            mark = m.0;
            among = m.1;
            of_line = ap (λ (y : Signaling). y.line) (sym m.2);
            of_mark_chain = ap (λ (y : Signaling). y.semaphore) m.2 ∙ of_chain;
            of_job = op_job_is s e ∙ ap (option_map (λ y. y.job)) at;
            line_is = op_line_is s e ∙ ap (λ (q : Option Signaling). option_map_or (λ y. y.line) q 0) at;
          }

  pub signal_is : (e t : ℕ) → chain_of (plan_of s) e ≡ Some t → is_timeline_at s t ≡ false →
      IsSignal s e t
  signal_is e t c counted =
      let x = some_of (λ y. y.semaphore) (slice_get (all_signals s) e) t (sym (op_chain_is s e) ∙ c) in
      signal_of_batch e t x.0 x.1 x.2 counted

-- the line of a signal is one of its batch
pub line_among : (s : Script) (e t : ℕ) (i : IsSignal s e t) →
    has (mark_lines (i.batch.signals ++ option_to_list i.batch.fence)) i.signal.line ≡ true
line_among s e t i =
    subst (λ (l : ℕ). has (mark_lines (i.batch.signals ++ option_to_list i.batch.fence)) l ≡ true)
    (sym i.of_line)
    (mark_has (i.batch.signals ++ option_to_list i.batch.fence) i.place i.mark i.among)

-- the mark of an option
pub only : (o : Option Mark) (k : ℕ) (m : Mark) → slice_get (option_to_list o) k ≡ Some m → o ≡ Some m
only None k m e = absurd (let c : None ≡ Some m = e in cc)
only (Some x) zero m e = e
only (Some x) (suc k) m e = absurd (let c : None ≡ Some m = e in cc)

-- Chains in order

-- the first that passes
pub find_here : (test : ℕ → Bool) (front : List ℕ) (e : ℕ) (back : List ℕ) →
    ((g : ℕ) → has front g ≡ true → test g ≡ false) → test e ≡ true →
    find test (front ++ e ∷ back) ≡ Some e
find_here test [] e back f h = cond-true (test e) (Some e) (find test back) h
find_here test (x ∷ front) e back f h =
    cond-false (test x) (Some x) (find test (front ++ e ∷ back)) (f x (has_here x front))
    ∙ find_here test front e back (λ g m. f g (has_there x front g m)) h

-- what stands in the front of a list in order comes before what stands in its end
pub order_across : (p : Plan) (xs ys : List ℕ) (g e : ℕ) → AreInOrder p (xs ++ ys) → has xs g ≡ true →
    has ys e ≡ true → (value p g < value p e) ⊎ ((value p g ≡ value p e) × (g < e))
order_across p [] ys g e o h m = absurd (false≢true h)
order_across p (x ∷ xs) ys g e o h m = elim (has_cases x xs g h) [
  | inl q ↦ subst (λ (z : ℕ). (value p z < value p e) ⊎ ((value p z ≡ value p e) × (z < e))) q
      (o.0 e (has-append_right xs ys e m))
  | inr n ↦ order_across p xs ys g e o.1 n m
]
