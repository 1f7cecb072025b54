-- In each state of a run the signals of a job are made in their order, and those of a finished job are made.
use Rattle.std.proofs.Common.{◌≡◌, ℕ, ◌<◌, true, false, List, [], ◌∷◌, Option, Some, ap, sym, ◌∙◌, subst, arith, ⊎_elim, inl, inr}
use Rattle.std.specs.Prelude.{fold}
use Rattle.std.proofs.lemmas.Bool.{false≢true}
use Rattle.std.proofs.lemmas.Option.{same_Some}
use Rattle.vq_model.specs.Machine.{Progress, State, Step, Run, RunFrom, CanStep, CanSignal, after_step, opening_state, state_after, with_signal, next, StartStep, ApplyStep, SignalStep, FinishStep, AnswerStep}
use Rattle.vq_model.specs.Plan.{Plan, job_of, signals_of}
use Rattle.vq_ground.specs.Lists.{has}
use Rattle.vq_model.specs.Sure.{IsSure}
use Rattle.vq_model.specs.WellFormed.{IsWellFormed}
use Rattle.vq_model.specs.Windows.{itself, signaled_earlier, sure}
use Rattle.vq_ground.proofs.Lists.{list_all_has}
use Rattle.vq_model.proofs.Puts.{put_cases, put_keeps}
use Rattle.vq_run_laws.proofs.Cited.{next_in, next_before}
use Rattle.vq_run_laws.specs.RunFacts.{IsSureInTime, MakesAsPayloadsSay}
use Rattle.vq_board_laws.specs.RunLaws.{MakesTogether, MakesBeforeFinish, RunLaws}

record SignalsInOrder (p : Plan) (s : Progress) : Type 0 where
  earlier : (e f j : ℕ) → job_of p e ≡ Some j → job_of p f ≡ Some j → f < e → s.made e ≡ true → s.made f ≡ true
  own : (e j : ℕ) → job_of p e ≡ Some j → s.finished j ≡ true → s.made e ≡ true

order_signaled : (p : Plan) (s : Progress) (e : ℕ) → IsWellFormed p → SignalsInOrder p s → (can : CanSignal p s e) → SignalsInOrder p (with_signal p s e (Some can.chain))
order_signaled p s e w k can = record {
  earlier = λ f g j of_f of_g l m. put_keeps s.made e g (elim (put_cases s.made e f m) [
    | inl is ↦
        let member = (next_in s.made (signals_of p can.job) e can.next).0 in
        let same : j ≡ can.job = same_Some j can.job (sym of_f ∙ (ap (job_of p) is ∙ w.of_job e can.job member)) in
        next_before s.made (signals_of p can.job) e g (w.signals can.job) can.next (subst (λ (i : ℕ). has (signals_of p i) g ≡ true) same (w.in_job g j of_g)) (omega arith)
    | inr t ↦ k.earlier f g j of_f of_g l t
  ]);
  own = λ f j of_f done. put_keeps s.made e f (k.own f j of_f done);
}

order_after : (p : Plan) → IsWellFormed p → (s : State) (x : Step) → SignalsInOrder p s.progress → CanStep p s x → SignalsInOrder p (after_step p s x).progress
order_after p w s (StartStep j) k can = record { earlier = k.earlier; own = k.own }
order_after p w s (ApplyStep c) k can = record { earlier = k.earlier; own = k.own }
order_after p w s (SignalStep e) k can = subst (λ (o : Option ℕ). SignalsInOrder p (with_signal p s.progress e o)) (sym can.in_chain) (order_signaled p s.progress e w k can)
order_after p w s (FinishStep j) k can = record {
  earlier = k.earlier;
  own = λ e i of_job done. elim (put_cases s.progress.finished j i done) [
    | inl is ↦ list_all_has s.progress.made (signals_of p j) e can.done.signals (w.in_job e j (of_job ∙ ap Some is))
    | inr t ↦ k.own e i of_job t
  ];
}
order_after p w s (AnswerStep j a) k can = k

order_run : (p : Plan) → IsWellFormed p → (s : State) (xs : List Step) → SignalsInOrder p s.progress → RunFrom p s xs → SignalsInOrder p (fold (after_step p) s xs).progress
order_run p w s [] k r = k
order_run p w s (x ∷ xs) k r = order_run p w (after_step p s x) xs (order_after p w s x k r.0) r.1

order_kept : (p : Plan) → IsWellFormed p → (steps : List Step) → Run p steps → SignalsInOrder p (state_after p steps).progress
order_kept p w steps run = order_run p w (opening_state p) steps record { earlier = λ e f j a b l m. absurd (false≢true m); own = λ e j a m. absurd (false≢true m) } run

pub run_laws : (p : Plan) → IsWellFormed p → MakesAsPayloadsSay p → IsSureInTime p → RunLaws p
run_laws p w payloads in_time = (payloads, together, before_finish)
  where
    together : MakesTogether p
    together steps run e f m itself = m
    together steps run e f m (signaled_earlier {j} of_e of_f l) = (order_kept p w steps run).earlier e f j of_e of_f l m
    together steps run e f m (sure {j} of_e is) = in_time.signaled steps run f j e of_e m is

    before_finish : MakesBeforeFinish p
    before_finish steps run e j done why = ⊎_elim (λ (o : job_of p e ≡ Some j). (order_kept p w steps run).own e j o done) (λ (i : IsSure p e j). in_time.finished steps run e j done i) why
