-- The room for a run's text.
use Rattle.std.proofs.Common.{◌≡◌, ℕ, ◌+◌, ◌-◌, ◌*◌, ◌^◌, ◌<◌, min, map, Bool, true, false, not, if◌then◌else◌, List, [], ◌∷◌, ◌++◌, suc, length, filter, Option, Some, sym, ap, ◌∙◌, arith, length-append}
use Rattle.std.proofs.lemmas.List.Elements.{filter-append}
use Rattle.std.specs.List.{range_with_len, slice_get}
use Rattle.std.specs.Option.{option_map_or}
use Rattle.vq_ground.proofs.Numbers.{range_push}
use Rattle.vq_model.specs.declared.plan.PlanJob.{PlanJob}
use Rattle.vq_model.specs.declared.plan.Question.TheVariants.{Silent}
use Rattle.vq_model.specs.declared.script.Buffer.{Buffer}
use Rattle.vq_model.specs.FittingCommands.{HasSizes}
use Rattle.vq_model.specs.Memory.{Memory, zeros_of}
use Rattle.vq_model.specs.OutputText.{buffers_text}
use Rattle.vq_model.specs.Outputs.{asking}
use Rattle.vq_model.specs.ValidScripts.{sizes_of}
use Rattle.vq_spec.proofs.SlowRuns.{zeros_sized}
use Rattle.vq_spec.specs.TextRooms.{text_room}
use Rattle.vq_model.specs.Plan.{Plan, is_silent, question}

-- whether a job of a plan asks something
abbrev asks : Plan → ℕ → Bool
asks p j = not (is_silent (question p j))

count_one : (test : ℕ → Bool) (j : ℕ) (silent : Bool) → test j ≡ not silent →
    length (filter test (j ∷ [])) ≡ (if silent then 0 else 1)
count_one test j true e = ap (λ (b : Bool). length (if b then j ∷ [] else [])) e
count_one test j false e = ap (λ (b : Bool). length (if b then j ∷ [] else [])) e

-- the count so far, and with one job more
pub one_more : (p : Plan) (job count one : ℕ) (x : PlanJob) → slice_get p.jobs job ≡ Some x →
    one ≡ (if is_silent x.question then 0 else 1) → count ≡ length (filter (asks p) (range_with_len 0 job)) →
    count + one ≡ length (filter (asks p) (range_with_len 0 (job + 1)))
one_more p job count one x there counts so_far =
    let same : question p job ≡ x.question = ap (λ (y : Option PlanJob). option_map_or (λ z. z.question) y Silent) there in
    let here = count_one (asks p) job (is_silent x.question) (ap (λ q. not (is_silent q)) same) in
    let next : job + 1 ≡ suc job = omega arith in
    let range : range_with_len 0 (job + 1) ≡ range_with_len 0 job ++ job ∷ [] =
    ap (range_with_len 0) next ∙ (range_push 0 job ∙ ap (λ (k : ℕ). range_with_len 0 job ++ k ∷ []) (omega arith)) in
    let parts : length (filter (asks p) (range_with_len 0 (job + 1)))
    ≡ length (filter (asks p) (range_with_len 0 job)) + length (filter (asks p) (job ∷ [])) =
    ap (λ (js : List ℕ). length (filter (asks p) js)) range
    ∙ (ap length (filter-append (asks p) (range_with_len 0 job) (job ∷ []))
    ∙ length-append (filter (asks p) (range_with_len 0 job)) (filter (asks p) (job ∷ []))) in
    omega arith

-- the room that is made
pub room_is : (p : Plan) (bs : List Buffer) (asked buffers capacity : ℕ) → bs ≡ p.script.buffers →
    asked ≡ length (asking p) →
    ((m : Memory) → HasSizes (map (λ b. b.size) bs) m → buffers ≡ min (length (buffers_text bs m)) (2 ^ 64 - 1)) →
    capacity ≡ min (38 * asked + buffers) (2 ^ 64 - 1) → capacity < 2 ^ 63 → capacity ≡ text_room p
room_is p bs asked buffers capacity same jobs size is small =
    let zeros : Memory = zeros_of (sizes_of p.script) in
    let sized : HasSizes (map (λ b. b.size) bs) zeros =
    zeros_sized (map (λ (b : Buffer). b.size) bs) zeros
    (ap (λ (xs : List Buffer). zeros_of (map (λ b. b.size) xs)) (sym same)) in
    let whole : buffers ≡ min (length (buffers_text p.script.buffers zeros)) (2 ^ 64 - 1) =
    size zeros sized ∙ ap (λ (xs : List Buffer). min (length (buffers_text xs zeros)) (2 ^ 64 - 1)) same in
    omega arith
