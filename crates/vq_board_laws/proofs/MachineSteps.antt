-- Which steps of the board are steps of the machine, and that the words show the same after the others.
use Rattle.std.proofs.Common.{◌≡◌, ℕ, suc, ◌+◌, ◌-◌, ◌^◌, ◌<◌, length, set, ap, sym, ◌∙◌, arith}
use mathlib.Core.Option.{some}
use lib.ListN.{get_elem?}
use Rattle.atomic_table.specs.Table.{State}
use Rattle.vq_model.specs.Machine.{put, StartStep, ApplyStep, SignalStep, FinishStep}
use Rattle.vq_model.specs.Plan.{Plan}
use Rattle.vq_model.proofs.Plans.{batch_exists}
use Rattle.vq_board_laws.specs.declared.view.View.{View}
use Rattle.vq_board_laws.specs.declared.view.LoggedBuffers.{LoggedBuffers}
use Rattle.vq_board_laws.specs.declared.view.Fact.TheVariants.{BoundTo}
use Rattle.vq_board_laws.specs.Words.{Words, Carries, words_of, job_word, op_word, point_word, place_word, count_word, turn_word, is_made, made_of, shown}
use Rattle.vq_board_laws.specs.Knowledge.{Knows}
use Rattle.vq_board_laws.specs.MachineSteps.{IsMachineStep, ShowsTheSame}
use Rattle.vq_board_laws.specs.May.{MaySubmit, MayRelease, MayStart, MayEnter, MayFinish}
use Rattle.vq_board_laws.specs.MayPoints.{MayAssign, MayBind, MaySignal, MayComplete, MayRetire}
use Rattle.vq_board_laws.specs.Points.{Lists, reference}
use Rattle.vq_board_laws.specs.PointSteps.{carrying_word}
use Rattle.vq_board_laws.specs.RunLaws.{RunLaws}
use Rattle.vq_board_laws.specs.Rule.{Kept}
use Rattle.vq_board_laws.proofs.Columns.{job_set, op_set, point_set, place_set, count_set, turn_set}
use Rattle.vq_board_laws.proofs.EnterSteps.{room, can_apply, entered_shows}
use Rattle.vq_board_laws.proofs.FewReferences.{few_references}
use Rattle.vq_board_laws.proofs.JobSteps.{early_shows, submit_finds, release_finds}
use Rattle.vq_board_laws.proofs.MadeWords.{made_point, made_op, made_recounted, shown_remade}
use Rattle.vq_board_laws.proofs.Needs.{knows_made}
use Rattle.vq_board_laws.proofs.OpSteps.{bound_made}
use Rattle.vq_board_laws.proofs.PointBits.{more_bits, less_bits}
use Rattle.vq_board_laws.proofs.PointSteps.{some_counted, none_bound, none_assigned}
use Rattle.vq_board_laws.proofs.RunSteps.{can_begin, begun_shows, runs, can_end, ended_shows}
use Rattle.vq_board_laws.proofs.Shares.{carried_below, points_within}
use Rattle.vq_board_laws.proofs.Shelves.{shelf_below}
use Rattle.vq_board_laws.proofs.SignalSteps.{word, can_signal, signal_shows}

module _ (p : Plan) (s : State LoggedBuffers View) (k : Kept p s) where
  abbrev d : Words
  d = words_of s.words

  point_below : (q e : ℕ) → Carries (d.point q) e → q < length p.ops
  point_below q e = carried_below p d.count s.views k.rule.ownership d.op d.point e q k.rule.points

  -- One word changes, and shows the same

  same_job : (j x : ℕ) → j < length p.jobs → shown p d ≡ shown p (record d { job = put d.job j x }) → ShowsTheSame p s.words (set s.words (job_word j) x)
  same_job j x inside same = ap (shown p) (job_set s.words j x (let c = k.count in omega arith)) ∙ sym same

  same_op : (e x : ℕ) → e < length p.ops → is_made (put d.op e x) d.point ≡ made_of d → ShowsTheSame p s.words (set s.words (op_word e) x)
  same_op e x inside same = ap (shown p) (op_set s.words e x (let c = k.count in omega arith)) ∙ shown_remade p d (put d.op e x) d.point same

  same_point : (q x : ℕ) → q < length p.ops → is_made d.op (put d.point q x) ≡ made_of d → ShowsTheSame p s.words (set s.words (point_word q) x)
  same_point q x inside same = ap (shown p) (point_set s.words q x (let c = k.count in omega arith)) ∙ shown_remade p d d.op (put d.point q x) same

  pub count_shows : (x : ℕ) → ShowsTheSame p s.words (set s.words count_word x)
  count_shows x = ap (shown p) (count_set s.words x (let c = k.count in omega arith))

  pub turn_shows : (x : ℕ) → ShowsTheSame p s.words (set s.words turn_word x)
  turn_shows x = ap (shown p) (turn_set s.words x (let c = k.count in omega arith))

  pub refer_shows : (q e : ℕ) → Carries (d.point q) e → ShowsTheSame p s.words (set s.words (point_word q) (d.point q + 2 ^ 32))
  refer_shows q e carries = same_point q (d.point q + 2 ^ 32) (point_below q e carries) (made_recounted d.op d.point q (d.point q + 2 ^ 32) (more_bits (d.point q) (let few = few_references p s k q in omega arith)))

  module _ (id : ℕ) (v : View) (at : get_elem? s.views id ≡ some v) where
    -- The steps of the machine

    pub start_is : RunLaws p → (j : ℕ) → MayStart p v j → IsMachineStep p s.words (set s.words (job_word j) 3) (StartStep j)
    start_is laws j may = record {
      may_come = can_begin p laws s id j v k at may;
      leaves = ap (shown p) (job_set s.words j 3 (let inside = may.exists in let c = k.count in omega arith)) ∙ sym (begun_shows p laws s id j v k at may);
    }

    pub enter_is : RunLaws p → (c : ℕ) (may : MayEnter p v c) → IsMachineStep p s.words (set s.words (place_word may.filled) (c + 1)) (ApplyStep c)
    enter_is laws c may =
        let next : c + 1 ≡ suc c = omega arith in
        record {
          may_come = (may.job, can_apply p laws s id c v k at may);
          leaves = ap (λ (x : ℕ). shown p (words_of (set s.words (place_word may.filled) x))) next
              ∙ (ap (shown p) (place_set s.words may.filled (suc c) (let inside = room p laws s id c v k at may in let n = k.count in omega arith)) ∙ sym (entered_shows p laws s id c v k at may));
        }

    pub signal_is : RunLaws p → (e q : ℕ) → MaySignal p v e → Knows v.known (BoundTo e q) → IsMachineStep p s.words (set s.words (point_word q) (d.point q + 2 ^ 48)) (SignalStep e)
    signal_is laws e q may bound =
        let inside = point_below q e (k.rule.points.carried e q (word p s id e q v laws may bound k at)) in
        record {
          may_come = can_signal p s id e q v laws may bound k at;
          leaves = ap (shown p) (point_set s.words q (d.point q + 2 ^ 48) (let c = k.count in omega arith)) ∙ sym (signal_shows p s id e q v laws may bound k at);
        }

    pub finish_is : RunLaws p → (j : ℕ) → MayFinish p v j → IsMachineStep p s.words (set s.words (job_word j) 4) (FinishStep j)
    finish_is laws j may = record {
      may_come = can_end p laws s id j v k at may;
      leaves = ap (shown p) (job_set s.words j 4 (let inside = (runs p laws s id j v k at may).2 in let c = k.count in omega arith)) ∙ sym (ended_shows p laws s id j v k at may);
    }

    -- The other steps

    pub submit_shows : (j : ℕ) → MaySubmit p v j → ShowsTheSame p s.words (set s.words (job_word j) 1)
    submit_shows j may = let zero = submit_finds p s id j v k at may in same_job j 1 (batch_exists p j may.batch) (early_shows p d j 1 (omega arith) (omega arith))

    pub release_shows : (j : ℕ) → MayRelease p v j → ShowsTheSame p s.words (set s.words (job_word j) 2)
    release_shows j may = let one = release_finds p s id j v k at may in same_job j 2 (batch_exists p j may.batch) (early_shows p d j 2 (omega arith) (omega arith))

    pub assign_shows : (q e : ℕ) → MayAssign p v q e → ShowsTheSame p s.words (set s.words (point_word q) (carrying_word e))
    assign_shows q e may =
        let below = k.rule.ownership.owned id v at q may.owned in
        let most = points_within p d.count s.views k.rule.ownership in
        same_point q (carrying_word e) (omega arith) (made_point d.op d.point q (carrying_word e) (λ a is. absurd (none_assigned p s id q v k at e may a is)))

    pub bind_shows : (e q : ℕ) → MayBind p v e q → ShowsTheSame p s.words (set s.words (op_word e) (q + 2))
    bind_shows e q may = same_op e (q + 2) (shelf_below p e v.role ((k.rule.points.shelves id v at).taken q e may.carries).1) (bound_made p s id e q v k at may)

    pub complete_shows : RunLaws p → (e : ℕ) → MayComplete p v e → ShowsTheSame p s.words (set s.words (op_word e) 1)
    complete_shows laws e may = same_op e 1 (shelf_below p e v.role may.shelf) (made_op d.op d.point e 1 (sym (knows_made p d s.views v.known e laws k.rule.run (k.rule.knowledge id v at) may.signaled)))

    pub retire_shows : (q e : ℕ) → MayRetire p v q e → ShowsTheSame p s.words (set s.words (point_word q) 0)
    retire_shows q e may = same_point q 0 (point_below q e ((k.rule.points.shelves id v at).taken q e may.carries).2) (made_point d.op d.point q 0 (λ a is. absurd (none_bound p s id q v k at e may a is)))

    pub unrefer_shows : (q e : ℕ) → Lists v.refs (reference q e) → ShowsTheSame p s.words (set s.words (point_word q) (d.point q - 2 ^ 32))
    unrefer_shows q e listed =
        same_point q (d.point q - 2 ^ 32) (point_below q e (k.rule.references.carried id v at q e listed))
        (made_recounted d.op d.point q (d.point q - 2 ^ 32) (less_bits (d.point q) (some_counted p s id q v k at e listed)))
