use Rattle.std.proofs.Common.{◌≡◌, ◌<◌, length, List, sym, ap, ◌∙◌, arith}
use Rattle.std.specs.List.{slice_get}
use Rattle.std.specs.Option.{option_map}
use Rattle.std.proofs.lemmas.Option.{slice_get-get_or}
use Rattle.vq_plan_laws.proofs.Cited.{plan_semaphores}
use Rattle.vq_model.specs.declared.script.Semaphore.{Semaphore}
use Rattle.vq_model.specs.Plan.{Plan}
use Rattle.vq_clocks.proofs.clocked.Clocked.kind.Goals as goal

within : (c : goal.After-as_slice) → c.args.t < length c.as_slice.result.now
within c =
    let n = (plan_semaphores c.args.self.now c.plan.ensures.complete.plan).chains in
    let m : length c.as_slice.result.now ≡ length c.args.self.now.script.semaphores =
    ap length c.as_slice.ensures ∙ (ap (λ s. length s.semaphores) c.script.ensures.script ∙ ap (λ (q : Plan). length q.script.semaphores) c.plan.ensures.value) in
    let l = c.requires in
    omega arith

pub bounds-as_slice-t : goal.bounds-as_slice-t
bounds-as_slice-t c = within c

pub bounds-as_slice-t-2 : goal.bounds-as_slice-t-2
bounds-as_slice-t-2 c = within c

pub returns-clause-value : goal.returns-clause-value
returns-clause-value c =
    let items : List Semaphore = c.as_slice.result.now in
    let e : items ≡ c.args.self.now.script.semaphores = c.as_slice.ensures ∙ (ap (λ s. s.semaphores) c.script.ensures.script ∙ ap (λ (q : Plan). q.script.semaphores) c.plan.ensures.value) in
    let n = (plan_semaphores c.args.self.now c.plan.ensures.complete.plan).chains in
    let m = ap length e in
    let l = c.requires in
    ap (λ (xs : List Semaphore). option_map (λ x. x.kind) (slice_get xs c.args.t)) (sym e) ∙ ap (option_map (λ x. x.kind)) (slice_get-get_or items c.args.t c.index-as_slice-t.result (omega arith))
