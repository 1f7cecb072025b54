-- Programs as they are made, part after part.
use Rattle.std.proofs.Common.{◌≡◌, ℕ, suc, ◌+◌, ◌<◌, Bool, true, false, if◌then◌else◌, List, [], ◌∷◌, ◌++◌}
use Rattle.std.proofs.Common.{length, map}
use Rattle.std.proofs.Common.{filter, take, Option, Some, None, All, refl, sym, ap, ◌∙◌, arith, append_assoc}
use Rattle.std.proofs.Common.{append-nil, option_map}
use Rattle.std.specs.List.{slice_get, flat_map, enumerate_from, range_with_len}
use Rattle.std.specs.Option.{option_map_or}
use Rattle.std.proofs.lemmas.List.Elements.{filter-append, All-nil, All-cons}
use Rattle.std.proofs.lemmas.Grind.{flat_map-append}
use Rattle.std.proofs.Math.Seq.{take-length}
use Rattle.vq_ground.proofs.Gets.{get-enumerate, get_within, take_push}
use Rattle.vq_ground.proofs.Lists.{has_here, has_there}
use Rattle.vq_model.specs.WellFormed.{IsWellFormed}
use Rattle.vq_model.specs.declared.plan.Op.{Op}
use Rattle.vq_model.specs.declared.plan.Question.{Question}
use Rattle.vq_model.specs.declared.plan.Question.TheVariants.{Silent}
use Rattle.vq_model.specs.declared.plan.Need.{Need}
use Rattle.vq_model.specs.declared.plan.PlanJob.{PlanJob}
use Rattle.vq_model.specs.Plan.{Plan, needs, commands_of, signals_of, chain_of, idle_after, asked}
use Rattle.vq_ground.specs.Lists.{has}
use Rattle.vq_model.specs.Plan.{is_silent}
use Rattle.vq_ground.proofs.Numbers.{range_more}
use Rattle.vq_turns.specs.declared.task.Task.{Task}
use Rattle.vq_turns.specs.declared.task.Task.TheVariants.{AwaitReleased, AwaitFinished, AwaitNeeds, Start, Apply}
use Rattle.vq_turns.specs.declared.task.Task.TheVariants.{Signal, Finish, Take, Bind, Compare, Answer}
use Rattle.vq_turns.specs.Programs.{runs_batch, runs_command, host_waits, does_step}
use Rattle.vq_actor.specs.declared.programs.waits.Within.{Within}
use Rattle.vq_actor.specs.declared.programs.waits.Within.TheVariants.{Start as AtStart, Place, Behind}
use Rattle.vq_actor.specs.ProgramParts.{is_within, wait_where}

-- Lists

-- a part is added, and then another one
pub both : {A : Type 0} (s t u xs ys : List A) → t ≡ s ++ xs → u ≡ t ++ ys → u ≡ s ++ (xs ++ ys)
both s t u xs ys e f = f ∙ (ap (λ zs. zs ++ ys) e ∙ append_assoc s xs ys)

pub flat_map_one : {A B : Type 0} (f : A → List B) (x : A) → flat_map f (x ∷ []) ≡ f x
flat_map_one f x = append-nil (f x)

pub flat_map_push : {A B : Type 0} (f : A → List B) (xs : List A) (x : A) →
    flat_map f (xs ++ x ∷ []) ≡ flat_map f xs ++ f x
flat_map_push f xs x = flat_map-append f xs (x ∷ []) ∙ ap (λ ys. flat_map f xs ++ ys) (flat_map_one f x)

length-enumerate : {A : Type 0} (a : ℕ) (xs : List A) → length (enumerate_from a xs) ≡ length xs
length-enumerate a [] = refl
length-enumerate a (x ∷ xs) = ap suc (length-enumerate (a + 1) xs)

-- Waits

pub waits_are : (within : Within) (ns : List Need) →
    flat_map (wait_where within) ns ≡ map (λ n. AwaitNeeds (n ∷ [])) (filter (is_within within) ns)
waits_are within [] = refl
waits_are within (n ∷ ns) = by_test (is_within within n) (waits_are within ns)
  where
    rest : List Need
    rest = filter (is_within within) ns

    by_test : (b : Bool) → flat_map (wait_where within) ns ≡ map (λ m. AwaitNeeds (m ∷ [])) rest →
        (if b then AwaitNeeds (n ∷ []) ∷ [] else []) ++ flat_map (wait_where within) ns
        ≡ map (λ m. AwaitNeeds (m ∷ [])) (if b then n ∷ rest else rest)
    by_test true e = ap (λ ts. AwaitNeeds (n ∷ []) ∷ ts) e
    by_test false e = e

-- Jobs of a lane

-- one job more, which isn't of the lane or is
pub job_passed : (f : ℕ → List Task) (test : ℕ → Bool) (n : ℕ) (ts : List Task) →
    ts ≡ flat_map f (filter test (range_with_len 0 n)) → test n ≡ false →
    ts ≡ flat_map f (filter test (range_with_len 0 (n + 1)))
job_passed f test n ts e isnt =
    e ∙ sym (ap (λ js. flat_map f (filter test js)) (range_more n)
    ∙ ap (flat_map f) (filter-append test (range_with_len 0 n) (n ∷ [])
    ∙ (ap (λ b. filter test (range_with_len 0 n) ++ (if b then n ∷ [] else [])) isnt
    ∙ append-nil (filter test (range_with_len 0 n)))))

pub job_added : (f : ℕ → List Task) (test : ℕ → Bool) (n : ℕ) (ts us : List Task) →
    ts ≡ flat_map f (filter test (range_with_len 0 n)) → test n ≡ true → us ≡ ts ++ f n →
    us ≡ flat_map f (filter test (range_with_len 0 (n + 1)))
job_added f test n ts us e is added =
    added ∙ (ap (λ vs. vs ++ f n) e
    ∙ sym (ap (λ js. flat_map f (filter test js)) (range_more n)
    ∙ (ap (flat_map f) (filter-append test (range_with_len 0 n) (n ∷ [])
    ∙ ap (λ b. filter test (range_with_len 0 n) ++ (if b then n ∷ [] else [])) is)
    ∙ flat_map_push f (filter test (range_with_len 0 n)) n)))

-- each job, whatever its lane
pub each_added : (f : ℕ → List Task) (n : ℕ) (ts us : List Task) →
    ts ≡ flat_map f (range_with_len 0 n) → us ≡ ts ++ f n → us ≡ flat_map f (range_with_len 0 (n + 1))
each_added f n ts us e added =
    added ∙ (ap (λ vs. vs ++ f n) e
    ∙ sym (ap (flat_map f) (range_more n) ∙ flat_map_push f (range_with_len 0 n) n))

-- Batches

module _ (p : Plan) (j : ℕ) (x : PlanJob) (at : slice_get p.jobs j ≡ Some x) where
  abbrev part : {B : Type 0} → (PlanJob → B) → B → B
  part f none = option_map_or f (slice_get p.jobs j) none

  pub part_at : {B : Type 0} (f : PlanJob → B) (none : B) → f x ≡ part f none
  part_at f none = ap (λ o. option_map_or f o none) (sym at)

  pub command_added : (k c : ℕ) (s t u v : List Task) → slice_get (commands_of p j) k ≡ Some c →
      t ≡ s ++ flat_map (runs_command p j) (take k (enumerate_from 1 (commands_of p j))) →
      u ≡ t ++ map (λ n. AwaitNeeds (n ∷ [])) (filter (is_within (Place (k + 1))) x.needs) →
      v ≡ u ++ Apply j c ∷ [] →
      v ≡ s ++ flat_map (runs_command p j) (take (k + 1) (enumerate_from 1 (commands_of p j)))
  command_added k c s t u v is e f g =
      let ks = enumerate_from 1 (commands_of p j) in
      let front = flat_map (runs_command p j) (take k ks) in
      let waits : List Need → List Task =
      λ ns. map (λ n. AwaitNeeds (n ∷ [])) (filter (is_within (Place (k + 1))) ns) in
      let here : runs_command p j (k + 1, c) ≡ waits x.needs ++ Apply j c ∷ [] =
      ap (λ ns. waits ns ++ Apply j c ∷ []) (sym (part_at (λ y. y.needs) [])) in
      let index : 1 + k ≡ k + 1 = omega arith in
      let next : slice_get ks k ≡ Some (k + 1, c) =
      get-enumerate 1 (commands_of p j) k
      ∙ (ap (option_map (λ d. (1 + k, d))) is ∙ ap (λ (i : ℕ). Some (i, c)) index) in
      both s t v front (waits x.needs ++ Apply j c ∷ []) e (both t u v (waits x.needs) (Apply j c ∷ []) f g)
      ∙ ap (λ ts. s ++ ts)
      (sym (ap (flat_map (runs_command p j)) (take_push ks k (k + 1, c) next)
      ∙ (flat_map_push (runs_command p j) (take k ks) (k + 1, c) ∙ ap (λ ts. front ++ ts) here)))

  pub commands_end : (k : ℕ) (s t : List Task) → k ≡ length (commands_of p j) →
      t ≡ s ++ flat_map (runs_command p j) (take k (enumerate_from 1 (commands_of p j))) →
      t ≡ s ++ flat_map (runs_command p j) (enumerate_from 1 (commands_of p j))
  commands_end k s t at_end e =
      let cs = commands_of p j in
      let whole : k ≡ length (enumerate_from 1 cs) =
      at_end ∙ sym (length-enumerate 1 cs) in
      e ∙ (ap (λ (i : ℕ). s ++ flat_map (runs_command p j) (take i (enumerate_from 1 cs))) whole
      ∙ ap (λ ks. s ++ flat_map (runs_command p j) ks) (take-length (enumerate_from 1 cs)))

  pub runs_are : (old t1 t2 t3 t4 t5 t6 t7 : List Task) → t1 ≡ old ++ AwaitReleased j ∷ [] →
      t2 ≡ t1 ++ map (λ n. AwaitNeeds (n ∷ [])) (filter (is_within AtStart) x.needs) →
      t3 ≡ t2 ++ Start j ∷ [] →
      t4 ≡ t3 ++ flat_map (runs_command p j) (enumerate_from 1 (commands_of p j)) →
      t5 ≡ t4 ++ map (λ n. AwaitNeeds (n ∷ [])) (filter (is_within (Behind (length x.commands))) x.needs) →
      t6 ≡ t5 ++ map Signal (signals_of p j) → t7 ≡ t6 ++ Finish j ∷ [] → t7 ≡ old ++ runs_batch p j
  runs_are old t1 t2 t3 t4 t5 t6 t7 e1 e2 e3 e4 e5 e6 e7 =
      let waits : Within → List Need → List Task =
      λ within ns. map (λ n. AwaitNeeds (n ∷ [])) (filter (is_within within) ns) in
      let commands = flat_map (runs_command p j) (enumerate_from 1 (commands_of p j)) in
      let a : List Task = AwaitReleased j ∷ [] in
      let b = waits AtStart x.needs in
      let c : List Task = Start j ∷ [] in
      let d = waits (Behind (length x.commands)) x.needs in
      let signals : List Task = map Signal (signals_of p j) in
      let whole : List Need → List ℕ → List Task = λ ns cs.
      a ++ waits AtStart ns ++ c ++ commands ++ waits (Behind (length cs)) ns ++ signals ++ Finish j ∷ [] in
      let d2 = both old t1 t2 a b e1 e2 in
      let d3 = both old t2 t3 (a ++ b) c d2 e3 in
      let d4 = both old t3 t4 (a ++ b ++ c) commands d3 e4 in
      let d5 = both old t4 t5 (a ++ b ++ c ++ commands) d d4 e5 in
      let d6 = both old t5 t6 (a ++ b ++ c ++ commands ++ d) signals d5 e6 in
      both old t6 t7 (a ++ b ++ c ++ commands ++ d ++ signals) (Finish j ∷ []) d6 e7
      ∙ (ap (λ ns. old ++ whole ns x.commands) (part_at (λ y. y.needs) [])
      ∙ ap (λ cs. old ++ whole (needs p j) cs) (part_at (λ y. y.commands) []))

  pub step_is : (old t1 t2 t3 t4 t5 t6 t7 t8 t9 : List Task) → t1 ≡ old ++ host_waits p j →
      t2 ≡ t1 ++ map AwaitFinished x.idle_after → t3 ≡ t2 ++ Start j ∷ [] →
      t4 ≡ t3 ++ map (λ e. Take e (option_map_or (λ t. t) (chain_of p e) 0)) (signals_of p j) →
      t5 ≡ t4 ++ map Bind (signals_of p j) → t6 ≡ t5 ++ map Signal (signals_of p j) →
      t7 ≡ t6 ++ map (λ n. Compare n.chain n.value) x.asked →
      t8 ≡ t7 ++ (if is_silent x.question then [] else Answer j x.question ∷ []) →
      t9 ≡ t8 ++ Finish j ∷ [] → t9 ≡ old ++ does_step p j
  step_is old t1 t2 t3 t4 t5 t6 t7 t8 t9 e1 e2 e3 e4 e5 e6 e7 e8 e9 =
      let a = host_waits p j in
      let b : List Task = map AwaitFinished x.idle_after in
      let c : List Task = Start j ∷ [] in
      let es = signals_of p j in
      let d : List Task = map (λ e. Take e (option_map_or (λ t. t) (chain_of p e) 0)) es in
      let f : List Task = map Bind es in
      let g : List Task = map Signal es in
      let h : List Task = map (λ n. Compare n.chain n.value) x.asked in
      let answers : Question → List Task = λ q. if is_silent q then [] else Answer j q ∷ [] in
      let whole : List ℕ → List Need → Question → List Task = λ is ns q.
      a ++ map AwaitFinished is ++ c ++ d ++ f ++ g ++ map (λ n. Compare n.chain n.value) ns ++ answers q
      ++ Finish j ∷ [] in
      let d2 = both old t1 t2 a b e1 e2 in
      let d3 = both old t2 t3 (a ++ b) c d2 e3 in
      let d4 = both old t3 t4 (a ++ b ++ c) d d3 e4 in
      let d5 = both old t4 t5 (a ++ b ++ c ++ d) f d4 e5 in
      let d6 = both old t5 t6 (a ++ b ++ c ++ d ++ f) g d5 e6 in
      let d7 = both old t6 t7 (a ++ b ++ c ++ d ++ f ++ g) h d6 e7 in
      let d8 = both old t7 t8 (a ++ b ++ c ++ d ++ f ++ g ++ h) (answers x.question) d7 e8 in
      both old t8 t9 (a ++ b ++ c ++ d ++ f ++ g ++ h ++ answers x.question) (Finish j ∷ []) d8 e9
      ∙ (ap (λ is. old ++ whole is x.asked x.question) (part_at (λ y. y.idle_after) [])
      ∙ (ap (λ ns. old ++ whole (idle_after p j) ns x.question) (part_at (λ y. y.asked) [])
      ∙ ap (λ q. old ++ whole (idle_after p j) (asked p j) q) (part_at (λ y. y.question) Silent)))

-- a job's signals are operations of the plan
pub signals_exist : (p : Plan) → IsWellFormed p → (j : ℕ) → All (λ e. e < length p.ops) (signals_of p j)
signals_exist p wf j =
    from_member (λ e. e < length p.ops) (signals_of p j)
    (λ e h. of_op e (slice_get p.ops e) refl (wf.of_job e j h))
  where
    of_op : (e : ℕ) (o : Option Op) → slice_get p.ops e ≡ o → option_map (λ y. y.job) o ≡ Some j → e < length p.ops
    of_op e None is h = absurd (cc)
    of_op e (Some y) is h = get_within p.ops e y is

    from_member : (P : ℕ → Type 0) (es : List ℕ) → ((e : ℕ) → has es e ≡ true → P e) → All P es
    from_member P [] h = All-nil P
    from_member P (e ∷ es) h = All-cons P e es (h e (has_here e es)) (from_member P es (λ f m. h f
        (has_there e es f m)))
