-- A history of a lawful plan, without the events on points, is a run of the machine.
use Rattle.std.proofs.Common.{◌≡◌, List, fold, ℕ, ◌<◌, true, Bool, false, cond, [], ◌∷◌, ◌++◌, Option, Some, None, refl, sym, ap, ◌∙◌, inl, inr, subst, arith}
use Rattle.vq_model.specs.declared.plan.Event.{Event}
use Rattle.vq_model.specs.Plan.{Plan, is_host_step, previous, host_before, idle_after, signals_of, value, chain_of}
use Rattle.vq_ground.specs.Lists.{has}
use Rattle.vq_model.specs.Machine.{State, RunFrom, after_step, are_reached, StartStep, ApplyStep, SignalStep, FinishStep, AnswerStep, CanStart, CanSignal, with_signal}
use Rattle.vq_point_laws.specs.Points.{PointState, steps_of, opening_points, CanSubmit, CanStartNow, CanSignalNow, after_event, HistoryFrom}
use Rattle.vq_run_laws.proofs.StateFacts.{Invariant}
use Rattle.std.proofs.lemmas.Bool.{false≢true, and_from, cond-true, cases_lt}
use Rattle.vq_run_laws.proofs.KeptRuns.{holds_at_opening, keep}
use Rattle.std.specs.List.{list_all, range_with_len}
use Rattle.std.specs.Option.{option_to_list}
use Rattle.vq_model.specs.declared.plan.Event.TheVariants.{Submit, Take, Release, Bind, Refer, Look, Unref, Complete, Free, Start, Apply, Signal, Finish, Answer}
use Rattle.vq_model.specs.Edges.{At, must_finish}
use Rattle.vq_model.specs.WellFormed.{IsWellFormed, KeepsHostOrder}
use Rattle.vq_model.specs.SureOrder.{KeepsChains}
use Rattle.vq_ground.proofs.Lists.{has_cases, has-append_cases, list_all_has, list_all_from}
use Rattle.vq_ground.proofs.Numbers.{has_range}
use Rattle.vq_run_laws.proofs.Payloads.{made_where_reached}
use Rattle.vq_run_laws.proofs.NextDone.{next_in}
use Rattle.vq_model.proofs.Puts.{put_cases, put_keeps}

-- What each world keeps: the facts of a run, and that a batch was submitted after the host steps before it and released after
-- that.
pub record Follows (p : Plan) (w : PointState) : Type 0 where
  pub machine : Invariant p w.machine.progress
  pub submitted : (j : ℕ) → w.released j ≡ true → w.submitted j ≡ true
  pub hosts : (i j : ℕ) → w.submitted j ≡ true → i < j → is_host_step p i ≡ true → w.machine.progress.finished i ≡ true

-- the run that a history is, and where it leads
pub record Leads (p : Plan) (s : State) (events : List Event) (end : PointState) : Type 0 where
  pub run : RunFrom p s (steps_of events)
  pub leads : end.machine ≡ fold (after_step p) s (steps_of events)
  pub follows : Follows p end

pub follows_opening : (p : Plan) → Follows p (opening_points p)
follows_opening p =
    record { machine = holds_at_opening p; submitted = λ j r. absurd (false≢true r); hosts = λ i j s l h. absurd (false≢true s) }

module _ (p : Plan) (wf : IsWellFormed p) (host : KeepsHostOrder p) (ch : KeepsChains p) where
  module _ (w : PointState) (k : Follows p w) where
    -- a job that may start by the events may start by the machine
    start_step : (j : ℕ) → CanStartNow p w j → CanStart p w.machine.progress j
    start_step j g =
        record {
          exists = g.exists;
          waiting = g.waiting;
          ready = and_from (list_all w.machine.progress.finished (must_finish p j)) (are_reached p w.machine.progress.payload j (At 1)) (list_all_from w.machine.progress.finished (must_finish p j) done) g.ready;
        }
      where
        host_done : (i : ℕ) (o : Option ℕ) → host_before p j ≡ o → has (option_to_list o) i ≡ true → w.machine.progress.finished i ≡ true
        host_done i None e m = absurd (false≢true m)
        host_done i (Some h) e m =
            elim (has_cases h [] i m) [
              | inl q ↦
                  let f = host.before_batch h j e in
                  subst (λ z. w.machine.progress.finished z ≡ true) q (k.hosts h j (k.submitted j (released f.2)) f.0 f.1)
              | inr n ↦ absurd (false≢true n)
            ]
          where
            released : is_host_step p j ≡ false → w.released j ≡ true
            released b = by_lane (is_host_step p j) _ b g.released
              where
                by_lane : (c x : Bool) → c ≡ false → cond c x (w.released j) ≡ true → w.released j ≡ true
                by_lane true x n r = absurd (false≢true (sym n))
                by_lane false x n r = r

        done : (i : ℕ) → has (must_finish p j) i ≡ true → w.machine.progress.finished i ≡ true
        done i m =
            elim (has-append_cases (option_to_list (previous p j) ++ option_to_list (host_before p j)) (idle_after p j) i m) [
              | inl a ↦ elim (has-append_cases (option_to_list (previous p j)) (option_to_list (host_before p j)) i a) [
                | inl b ↦ list_all_has w.machine.progress.finished (option_to_list (previous p j)) i g.lane b
                | inr b ↦ host_done i (host_before p j) refl b
              ]
              | inr b ↦ list_all_has w.machine.progress.finished (idle_after p j) i g.idle b
            ]

    -- and a signal: its operation isn't made, so the payload hasn't reached its value
    pub signal_step : (e : ℕ) → CanSignalNow p w e → CanSignal p w.machine.progress e
    signal_step e g =
        record {
          job = g.job;
          chain = g.chain;
          in_chain = g.in_chain;
          started = g.started;
          unfinished = g.unfinished;
          commands = g.commands;
          next = g.next;
          ready = g.ready;
          rises = elim (cases_lt (w.machine.progress.payload g.chain) (value p e)) [
            | inl l ↦ l
            | inr l ↦ absurd (false≢true (sym (next_in w.machine.progress.made (signals_of p g.job) e g.next).1 ∙ made_where_reached p wf ch w.machine.progress k.machine e g.chain g.in_chain l))
          ];
        }

    follow_submit : (j : ℕ) → CanSubmit p w j → Follows p (after_event p w (Submit j))
    follow_submit j g =
        record {
          machine = k.machine;
          submitted = λ i r. put_keeps w.submitted j i (k.submitted i r);
          hosts = λ i h s l o. elim (put_cases w.submitted j h s) [ inl e ↦ done i (subst (λ z. i < z) e l) o | inr t ↦ k.hosts i h t l o ];
        }
      where
        done : (i : ℕ) → i < j → is_host_step p i ≡ true → w.machine.progress.finished i ≡ true
        done i l o =
            sym (cond-true (is_host_step p i) (w.machine.progress.finished i) (w.submitted i) o)
            ∙ list_all_has (λ x. cond (is_host_step p x) (w.machine.progress.finished x) (w.submitted x)) (range_with_len 0 j) i g.in_order (has_range j 0 i (omega arith) (omega arith))

    follow_release : (j : ℕ) → w.submitted j ≡ true → Follows p (after_event p w (Release j))
    follow_release j s =
        record {
          machine = k.machine;
          submitted = λ i r. elim (put_cases w.released j i r) [ inl e ↦ subst (λ z. w.submitted z ≡ true) (sym e) s | inr o ↦ k.submitted i o ];
          hosts = k.hosts;
        }

    follow_finish : (j : ℕ) → Invariant p (after_step p w.machine (FinishStep j)).progress → Follows p (after_event p w (Finish j))
    follow_finish j m = record { machine = m; submitted = k.submitted; hosts = λ i h s l o. put_keeps w.machine.progress.finished j i (k.hosts i h s l o) }

    follow_signal : (e : ℕ) → Invariant p (after_step p w.machine (SignalStep e)).progress → Follows p (after_event p w (Signal e))
    follow_signal e m = record { machine = m; submitted = k.submitted; hosts = λ i h s l o. by_chain (chain_of p e) i (k.hosts i h s l o) }
      where
        by_chain : (c : Option ℕ) (i : ℕ) → w.machine.progress.finished i ≡ true → (with_signal p w.machine.progress e c).finished i ≡ true
        by_chain None i f = f
        by_chain (Some t) i f = f

  -- what an event on points leaves
  follow_points : (w v : PointState) → Follows p w → v.machine ≡ w.machine → v.released ≡ w.released → v.submitted ≡ w.submitted → Follows p v
  follow_points w v k m r s =
      record {
        machine = subst (λ (x : State). Invariant p x.progress) (sym m) k.machine;
        submitted = λ j h. ap (λ (f : ℕ → Bool). f j) s ∙ k.submitted j (sym (ap (λ (f : ℕ → Bool). f j) r) ∙ h);
        hosts = λ i j h l o. ap (λ (x : State). x.progress.finished i) m ∙ k.hosts i j (sym (ap (λ (f : ℕ → Bool). f j) s) ∙ h) l o;
      }

  pub history_leads : (w : PointState) (xs : List Event) → Follows p w → HistoryFrom p w xs → Leads p w.machine xs (fold (after_event p) w xs)
  history_leads w [] k h = record { run = tt; leads = refl; follows = k }
  history_leads w (Submit j ∷ xs) k h = let r = history_leads (after_event p w (Submit j)) xs (follow_submit w k j h.0) h.1 in record { run = r.run; leads = r.leads; follows = r.follows }
  history_leads w (Take e q f ∷ xs) k h = let r = history_leads (after_event p w (Take e q f)) xs (follow_points w (after_event p w (Take e q f)) k refl refl refl) h.1 in record { run = r.run; leads = r.leads; follows = r.follows }
  history_leads w (Release j ∷ xs) k h = let r = history_leads (after_event p w (Release j)) xs (follow_release w k j h.0.submitted) h.1 in record { run = r.run; leads = r.leads; follows = r.follows }
  history_leads w (Bind e q ∷ xs) k h = let r = history_leads (after_event p w (Bind e q)) xs (follow_points w (after_event p w (Bind e q)) k refl refl refl) h.1 in record { run = r.run; leads = r.leads; follows = r.follows }
  history_leads w (Refer a q e ∷ xs) k h = let r = history_leads (after_event p w (Refer a q e)) xs (follow_points w (after_event p w (Refer a q e)) k refl refl refl) h.1 in record { run = r.run; leads = r.leads; follows = r.follows }
  history_leads w (Look a q e ∷ xs) k h = let r = history_leads (after_event p w (Look a q e)) xs (follow_points w (after_event p w (Look a q e)) k refl refl refl) h.1 in record { run = r.run; leads = r.leads; follows = r.follows }
  history_leads w (Unref a q e ∷ xs) k h = let r = history_leads (after_event p w (Unref a q e)) xs (follow_points w (after_event p w (Unref a q e)) k refl refl refl) h.1 in record { run = r.run; leads = r.leads; follows = r.follows }
  history_leads w (Complete e ∷ xs) k h = let r = history_leads (after_event p w (Complete e)) xs (follow_points w (after_event p w (Complete e)) k refl refl refl) h.1 in record { run = r.run; leads = r.leads; follows = r.follows }
  history_leads w (Free q ∷ xs) k h = let r = history_leads (after_event p w (Free q)) xs (follow_points w (after_event p w (Free q)) k refl refl refl) h.1 in record { run = r.run; leads = r.leads; follows = r.follows }
  history_leads w (Start j ∷ xs) k h =
      let g = start_step w k j h.0 in
      let r = history_leads (after_event p w (Start j)) xs (record { machine = keep p wf ch w.machine (StartStep j) k.machine g; submitted = k.submitted; hosts = k.hosts }) h.1 in
      record { run = (g, r.run); leads = r.leads; follows = r.follows }
  history_leads w (Apply j c ∷ xs) k h =
      let r = history_leads (after_event p w (Apply j c)) xs (record { machine = keep p wf ch w.machine (ApplyStep c) k.machine (j, h.0); submitted = k.submitted; hosts = k.hosts }) h.1 in
      record { run = ((j, h.0), r.run); leads = r.leads; follows = r.follows }
  history_leads w (Signal e ∷ xs) k h =
      let g = signal_step w k e h.0 in
      let r = history_leads (after_event p w (Signal e)) xs (follow_signal w k e (keep p wf ch w.machine (SignalStep e) k.machine g)) h.1 in
      record { run = (g, r.run); leads = r.leads; follows = r.follows }
  history_leads w (Finish j ∷ xs) k h =
      let r = history_leads (after_event p w (Finish j)) xs (follow_finish w k j (keep p wf ch w.machine (FinishStep j) k.machine h.0.step)) h.1 in
      record { run = (h.0.step, r.run); leads = r.leads; follows = r.follows }
  history_leads w (Answer j a ∷ xs) k h =
      let r = history_leads (after_event p w (Answer j a)) xs (record { machine = keep p wf ch w.machine (AnswerStep j a) k.machine h.0; submitted = k.submitted; hosts = k.hosts }) h.1 in
      record { run = (h.0, r.run); leads = r.leads; follows = r.follows }
