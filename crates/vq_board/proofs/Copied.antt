-- The commands that are copied out of a plan.
use Rattle.std.proofs.Common.{◌≡◌, ℕ, suc, ◌+◌, ◌<◌, List, [], ◌∷◌, ◌++◌, ◌-◌, ◌≤◌, ◌⊎◌, inl, inr, length, map, Some, None, refl, sym, ap, ◌∙◌, subst, arith}
use Rattle.std.specs.List.{slice_get, flat_map}
use Rattle.std.proofs.lemmas.Bool.{cases_lt}
use Rattle.vq_model.specs.declared.script.Command.{Command}
use Rattle.vq_model.specs.declared.script.Job.{Job}
use Rattle.vq_model.specs.Lowering.{batch_commands}
use Rattle.vq_model.specs.ValidScripts.{sizes_of}
use Rattle.vq_model.specs.declared.script.CommandLine.{CommandLine}
use Rattle.vq_model.specs.LoweredPlans.{IsPlan}
use Rattle.vq_model.specs.Plan.{Plan, command_at}
use Rattle.vq_model.specs.FittingCommands.{Fits}
use Rattle.vq_ground.proofs.Gets.{get-append, get-append_left, get-map}
use Rattle.vq_ground.proofs.Options.{some_of}
use Rattle.vq_reading_laws.proofs.Cited.{read_valid}
use Rattle.vq_board.specs.Copied.{command_of, AllFit}

-- the command that is copied is the plan's
pub copied_at : (p : Plan) (commands : List Command) (c : ℕ) (x : Command) → commands ≡ map command_of p.commands → slice_get commands c ≡ Some x → command_at p c ≡ Some x
copied_at p commands c x same e = sym (get-map command_of p.commands c) ∙ (ap (λ (xs : List Command). slice_get xs c) (sym same) ∙ e)

-- a command and the job that it is of
record IsOfJob (jobs : List Job) (x : CommandLine) : Type 0 where
  job : ℕ
  item : Job
  is : slice_get jobs job ≡ Some item
  place : ℕ
  among : slice_get (batch_commands item) place ≡ Some x

job_of_command : (jobs : List Job) (c : ℕ) (x : CommandLine) → slice_get (flat_map batch_commands jobs) c ≡ Some x → IsOfJob jobs x
job_of_command [] c x e = absurd (let none : None ≡ Some x = e in cc)
job_of_command (y ∷ jobs) c x e = by_place (cases_lt c (length (batch_commands y))) (job_of_command jobs)
  where
    by_place : ((c < length (batch_commands y)) ⊎ (length (batch_commands y) ≤ c)) → ((i : ℕ) (z : CommandLine) → slice_get (flat_map batch_commands jobs) i ≡ Some z → IsOfJob jobs z) → IsOfJob (y ∷ jobs) x
    by_place (inl l) f = record { job = 0; item = y; is = refl; place = c; among = sym (get-append_left (batch_commands y) (flat_map batch_commands jobs) c l) ∙ e }
    by_place (inr g) f =
        let i : ℕ = c - length (batch_commands y) in
        let q : length (batch_commands y) + i ≡ c = omega arith in
        let o = f i x (sym (get-append (batch_commands y) (flat_map batch_commands jobs) i) ∙ (ap (slice_get (batch_commands y ++ flat_map batch_commands jobs)) q ∙ e)) in
        record { job = suc o.job; item = o.item; is = o.is; place = o.place; among = o.among }

-- each command of a plan fits its buffers
pub all_fit : (p : Plan) → IsPlan p → (commands : List Command) (sizes : List ℕ) → commands ≡ map command_of p.commands → sizes ≡ p.sizes → AllFit sizes commands
all_fit p plan commands sizes same same_sizes c x e =
    let at : command_at p c ≡ Some x = copied_at p commands c x same e in
    let line = some_of command_of (slice_get p.commands c) x at in
    let o = job_of_command p.script.jobs c line.0 (ap (λ (q : Plan). slice_get q.commands c) (sym plan.lowered) ∙ line.1) in
    let fits = (read_valid p.script plan.of_script).commands o.job o.place o.item line.0 o.is o.among in
    let lowered : p.sizes ≡ sizes_of p.script = ap (λ (q : Plan). q.sizes) plan.lowered in
    subst (λ (t : List ℕ × Command). Fits t.0 t.1) (λ i. (sym (same_sizes ∙ lowered) i, line.2 i)) fits

pub map_push : {A B : Type 0} (f : A → B) (xs : List A) (x : A) → map f (xs ++ x ∷ []) ≡ map f xs ++ f x ∷ []
map_push f [] x = refl
map_push f (y ∷ xs) x = ap (λ ys. f y ∷ ys) (map_push f xs x)
