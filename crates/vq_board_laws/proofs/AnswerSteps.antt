-- Answering a host step keeps the rule.
use Rattle.std.proofs.Common.{◌≡◌, ◌≢◌, ℕ, zero, suc, ◌<◌, true, false, eqb, ◌∷◌, length, Some, set, refl, ap, sym, ◌∙◌, subst, arith, inl, inr}
use mathlib.Core.Option.{some, none}
use lib.ListN.{get_elem?}
use native.Mathlib.Decide.{dec_le}
use prog.Atomic.{either}
use Rattle.std.specs.Prelude.{is_some}
use Rattle.std.proofs.lemmas.Bool.{lt-ltb, false≢true}
use Rattle.atomic_table.specs.Table.{State, step, Act, keeps, Valid, stepped, carried_after, Allows}
use Rattle.atomic_table.proofs.Lists.{exchanged}
use Rattle.vq_model.specs.declared.plan.Answer.{Answer}
use Rattle.vq_model.specs.declared.plan.Answer.TheVariants.{Reached, Timeout, NotReady, Value}
use Rattle.vq_model.specs.Machine.{Progress, State as MachineState, AnswerStep, CanAnswer, after_step}
use Rattle.vq_model.specs.Plan.{Plan, question, is_silent}
use Rattle.vq_plan_laws.proofs.Cited.{plan_hosts}
use Rattle.vq_board_laws.specs.declared.view.View.{View}
use Rattle.vq_board_laws.specs.declared.view.LoggedBuffers.{LoggedBuffers}
use Rattle.vq_board_laws.specs.declared.view.Told.{Told}
use Rattle.vq_board_laws.specs.Words.{Words, words_of, job_word, shown}
use Rattle.vq_board_laws.specs.PointSteps.{answers, answered, answer_code, answer_operand}
use Rattle.vq_board_laws.specs.Reached.{IsReached, InOrder, answer_told}
use Rattle.vq_board_laws.specs.Roles.{runner}
use Rattle.vq_board_laws.specs.Rule.{Kept}
use Rattle.vq_board_laws.specs.RunLaws.{RunLaws}
use Rattle.vq_board_laws.specs.Shows.{MayAnswer}
use Rattle.vq_board_laws.specs.Steps.{Mine}
use Rattle.vq_board_laws.proofs.Columns.{put_each}
use Rattle.vq_board_laws.proofs.Frames.{kept_load}
use Rattle.vq_board_laws.proofs.Guards.{guarded}
use Rattle.vq_board_laws.proofs.Runs.{end_state, reach_further}
use Rattle.vq_board_laws.proofs.Since.{since_rises}
use Rattle.vq_board_laws.proofs.ToldLists.{told_here, told_there, told_cases, told_more}

-- The operands of the step say the answer

abbrev said : ℕ → ℕ → Answer
said (suc (suc (suc (suc (suc zero))))) n = Reached
said (suc (suc (suc (suc (suc (suc zero)))))) n = Timeout
said (suc (suc (suc (suc (suc (suc (suc zero))))))) n = NotReady
said c n = Value n

said_is : (a : Answer) → said (answer_code a) (answer_operand a) ≡ a
said_is Reached = refl
said_is Timeout = refl
said_is NotReady = refl
said_is (Value n) = refl

one_said : (a b : Answer) → answer_code a ≡ answer_code b → answer_operand a ≡ answer_operand b → a ≡ b
one_said a b code operand = sym (said_is a) ∙ ((λ i. said (code i) (operand i)) ∙ said_is b)

above_words : (a : Answer) → 4 < answer_code a
above_words Reached = omega arith
above_words Timeout = omega arith
above_words NotReady = omega arith
above_words (Value n) = omega arith

module _ (p : Plan) (laws : RunLaws p) (s : State LoggedBuffers View) (id j : ℕ) (v : View) (a : Answer) (k : Kept p s) (at : get_elem? s.views id ≡ some v) (may : MayAnswer p v j a) where
  abbrev d : Words
  d = words_of s.words

  abbrev w : View
  w = answers v j a

  abbrev line : Told
  line = record { job = j; answer = a }

  abbrev now : MachineState
  now = end_state p (shown p d) d.job s.views k.rule.run

  runs : (runner p j ≡ v.role) × (d.job j ≡ 3) × (j < length p.jobs)
  runs = (k.rule.jobs.own id v at).0.runs_one j may.runs

  first : id ≡ 0
  first = sym (k.rule.ownership.roles id v at) ∙ may.host

  can_answer : CanAnswer p now j a
  can_answer = record {
    started = ap (λ (z : Progress). z.started j) k.rule.run.leads ∙ lt-ltb 2 (d.job j) (let t = runs.1 in omega arith);
    unanswered = ap is_some (k.rule.run.answers id v at first j) ∙ may.unanswered;
    allowed = guarded p laws s id j v k at may.runs a may.shows;
  }

  -- the line that is told stands after all those before
  order_told : InOrder p d.job (line ∷ v.told)
  order_told =
      let o = k.rule.run.told id v at first in
      let hosts = plan_hosts p k.plan in record {
        falling = (
          λ b h. elim (dec_le b j) [
            | yes low ↦ let ne : b ≢ j = λ e. false≢true (sym may.unanswered ∙ subst (λ (z : ℕ). is_some (answer_told v.told z) ≡ true) e h) in omega arith
            | no high ↦ let over = k.rule.jobs.lane j b (hosts.asks j may.asks).0 (hosts.asks b (o.asks b h)).0 (omega arith) (o.begun b h) in let t = runs.1 in absurd (omega arith)
          ],
          o.falling,
        );
        asks = λ b h. elim (told_cases line v.told b h) [ inl is ↦ subst (λ (z : ℕ). is_silent (question p z) ≡ false) is may.asks | inr m ↦ o.asks b m ];
        begun = λ b h. elim (told_cases line v.told b h) [ inl is ↦ subst (λ (z : ℕ). 2 < d.job z) is (let t = runs.1 in omega arith) | inr m ↦ o.begun b m ];
        finished = λ b h asks. told_more line v.told b (o.finished b h asks);
      }

  answered_shown : IsReached p (shown p d) d.job (set s.views id w)
  answered_shown =
      let r = k.rule.run in
      reach_further p (shown p d) (shown p d) (AnswerStep j a) d.job d.job s.views id w r can_answer r.leads
      (λ h. put_each now.answer j (Some a) (λ b y. y ≡ answer_told (line ∷ v.told) b) (sym (told_here line v.told j refl)) (λ b ne. r.answers id v at h b ∙ sym (told_there line v.told b (λ (e : j ≡ b). ne (sym e)))))
      (λ i u ne h b same. absurd (ne (h ∙ sym first)))
      (since_rises p now (after_step p now (AnswerStep j a)) v.runs v.unmade refl (λ t. omega arith) (r.since id v at))
      (λ i u ne e. since_rises p now (after_step p now (AnswerStep j a)) u.runs u.unmade refl (λ t. omega arith))
      (λ h. order_told)
      (λ i u ne h e o. o)

  answered_kept : Kept p record { words = set s.words (job_word j) (d.job j); homes = s.homes; views = set s.views id w }
  answered_kept = kept_load p s (job_word j) id v w k at refl refl refl refl refl (k.rule.knowledge id v at) answered_shown

pub answers_job : (p : Plan) (slots id : ℕ) (m : Mine) (j : ℕ) (a : Answer) → RunLaws p → MayAnswer p m.0 j a
    → Allows (Kept p) slots id m (job_word j) (λ n. either (eqb n (answer_code a)) (answer_operand a) n) (answered (step slots (job_word j) (answer_code a) (answer_operand a) none) m)
answers_job p slots id m j a laws may s k deep at fits =
    let d : Words = words_of s.words in
    let v : View = m.0 in
    let n : ℕ = d.job j in
    let code : ℕ = answer_code a in
    let operand : ℕ = answer_operand a in
    let Goes : ℕ → Type 0 = λ y. (w : View) × (act : Act LoggedBuffers) × Valid s.homes m.1 act × Kept p (stepped s (job_word j) y id m.1 w act) × answered (step slots (job_word j) code operand none) m n (w, carried_after m.1 act) in
    exchanged n code operand Goes
    (λ is. absurd (let three = (runs p laws s id j v a k at may).1 in let above = above_words a in omega arith))
    (λ ne. (
      answers v j a,
      keeps,
      tt,
      answered_kept p laws s id j v a k at may,
      λ i b same code_is operand_is. let is : j ≡ i = omega arith in let says : a ≡ b = one_said a b code_is operand_is in (λ t. (answers v (is t) (says t), m.1)),
    ))
