-- In each plan of the first version all waits of a job hold back its start.
use Rattle.std.proofs.Common.{◌≡◌, ℕ, suc, true, false, List, [], ◌∷◌, All, Option, Some, None, refl, map, eqb, arith, ap, ◌∙◌, sym, subst}
use Rattle.std.specs.List.{list_all, slice_get}
use Rattle.std.specs.Option.{option_map_or}
use Rattle.std.proofs.lemmas.Bool.{eq-eqb, and_from}
use Rattle.vq_model.specs.declared.script.Script.{Script}
use Rattle.vq_model.specs.declared.script.Mark.{Mark}
use Rattle.vq_model.specs.declared.script.Job.{Job}
use Rattle.vq_model.specs.declared.script.Job.TheVariants.{Host, Batch}
use Rattle.vq_model.specs.EdgeReasons.{HasNoHeldWait}
use Rattle.vq_model.specs.Lowering.{of_wait, plan_job, plan_of}
use Rattle.vq_model.specs.LoweredPlans.{IsPlan}
use Rattle.vq_model.specs.Plan.{Plan, needs, is_host_lane, is_host_step}
use Rattle.vq_model.specs.ValidScripts.{IsValid, HoldsBack, HasValidBatches}
use Rattle.vq_plan_laws.proofs.PlanParts.{part_is}
use Rattle.vq_plan_laws.proofs.WellFormedPlans.{well_formed}
use Rattle.vq_reading_laws.proofs.Cited.{read_valid, read_batches}

from_start : (s : Script) (j : ℕ) (waits : List Mark) → s.version ≡ 1 → All (HoldsBack s) waits →
    list_all (λ n. eqb n.from 1) (map (of_wait s j) waits) ≡ true
from_start s j [] first a = refl
from_start s j (m ∷ waits) first a =
    and_from (eqb m.from 1) (list_all (λ n. eqb n.from 1) (map (of_wait s j) waits))
    (eq-eqb m.from 1 ((a 0 m (omega arith)).whole first))
    (from_start s j waits first (λ i d l. a (suc i) d (omega arith)))

-- a host step is held back as a whole in any case
no_held_wait : (s : Script) → IsValid s → HasValidBatches s → s.version ≡ 1 → HasNoHeldWait (plan_of s)
no_held_wait s v b first j =
    ap (list_all (λ n. eqb n.from 1)) (part_is (λ x. x.needs) [] s j) ∙ by_job (slice_get s.jobs j) refl
  where
    by_job : (o : Option Job) → slice_get s.jobs j ≡ o → list_all (λ n. eqb n.from 1) (option_map_or (λ job. (plan_job s (j, job)).needs) o []) ≡ true
    by_job None e = refl
    by_job (Some (Batch x)) e = from_start s j x.waits first (b j x e).held
    by_job (Some (Host h)) e =
        let own : needs (plan_of s) j ≡ (plan_job s (j, Host h)).needs =
        part_is (λ x. x.needs) [] s j ∙ ap (λ (o : Option Job). option_map_or (λ job. (plan_job s (j, job)).needs) o []) e in
        let host : is_host_step (plan_of s) j ≡ true =
        part_is (λ x. is_host_lane x.lane) false s j
        ∙ ap (λ (o : Option Job). option_map_or (λ job. is_host_lane (plan_job s (j, job)).lane) o false) e in
        ap (list_all (λ n. eqb n.from 1)) (sym own) ∙ (well_formed s v).host_waits j host

pub first_version_unheld : (p : Plan) → IsPlan p → p.script.version ≡ 1 → HasNoHeldWait p
first_version_unheld p i first =
    subst HasNoHeldWait (sym i.lowered)
    (no_held_wait p.script (read_valid p.script i.of_script) (read_batches p.script i.of_script) first)
