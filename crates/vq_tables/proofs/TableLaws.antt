-- What a change of one item leaves of the tables.
use Rattle.std.proofs.Common.{◌≡◌, ℕ, ◌+◌, ◌<◌, ◌==◌, ◌++◌, Bool, true, false, List, [], ◌∷◌, length, get_or, set, cond, Option, Some, None, is_some, refl, sym, ap, ◌∙◌, inl, inr, subst, arith}
use Rattle.std.specs.Prelude.{count_by}
use Rattle.std.specs.List.{slice_get, list_any}
use Rattle.std.proofs.lemmas.Bool.{cases_eq, false≢true, or_cases, cond-true, cond-false}
use Rattle.std.proofs.lemmas.List.{get_or-set_same, get_or-set_other, length-set}
use Rattle.vq_ground.proofs.Gets.{get_has}
use Rattle.vq_model.specs.Machine.{put}
use Rattle.vq_model.specs.declared.plan.Answer.{Answer}
use Rattle.vq_model.specs.Plan.{Plan, commands_of, signals_of, job_of, question, asked}
use Rattle.vq_ground.specs.Lists.{has}
use Rattle.vq_ground.proofs.Lists.{has-append_left, has-append_right, has-append_cases, has_here, has_cases}
use Rattle.vq_model.proofs.Puts.{put_here, put_there}
use Rattle.vq_history_laws.proofs.Cited.{count_cons}
use Rattle.vq_history_laws.specs.Measure.{one}
use Rattle.vq_point_laws.specs.Points.{Reference, without_first}
use Rattle.vq_core_laws.specs.Firsts.{AreFirst}
use Rattle.vq_core_laws.proofs.Cited.{Facts, put_next, put_other, rising_once}
use Rattle.vq_tables.specs.declared.answer_state.AnswerState.{AnswerState}
use Rattle.vq_tables.specs.AnswerStates.{AreAnswerStates, IsAnswerState, not_asked, is_asked_reached, payload_read}
use Rattle.vq_tables.specs.declared.table.JobRecord.{JobRecord}
use Rattle.vq_tables.specs.declared.table.PointSlot.{PointSlot}
use Rattle.vq_tables.specs.Tables.{AreJobs, IsJobState, ArePoints, IsSlot, AreMade, ArePayloads, idle, no_slot}

-- one item is put
pub set_each : {A : Type 0} (P Q : ℕ → A → Type 0) (xs : List A) (d v : A) (j : ℕ) → j < length xs → ((k : ℕ) →
    P k (get_or xs k d)) → Q j v → ((k : ℕ) → (k ≡ j → ⊥) → (x : A) → P k x → Q k x) → (k : ℕ) →
    Q k (get_or (set xs j v) k d)
set_each P Q xs d v j l all here there k = elim (cases_eq k j) [
  | inl s ↦
      subst (λ (i : ℕ). Q i (get_or (set xs j v) i d)) (sym s) (subst (Q j) (sym (get_or-set_same xs j v d l)) here)
  | inr n ↦ subst (Q k) (sym (get_or-set_other xs j k v d n)) (there k n (get_or xs k d) (all k))
]

module _ (p : Plan) (released started finished made : ℕ →
    Bool) (applied : List ℕ) (xs : List JobRecord) (are : AreJobs p released started finished made applied xs) (j : ℕ)
    (l : j < length p.jobs) (v : JobRecord) where
  within : j < length xs
  within = let n = are.count in omega arith

  count : length (set xs j v) ≡ length p.jobs
  count = length-set xs j v ∙ are.count

  module _ (x : IsJobState p released started finished made applied j v) where
    pub jobs_released : AreJobs p (put released j true) started finished made applied (set xs j (record v {
      released
          = true;
    }))
    jobs_released =
        record {
          count = length-set xs j (record v { released = true }) ∙ are.count;
          each = set_each (IsJobState p released started finished made applied) (IsJobState p (put released j true)
              started finished made applied) xs idle (record v { released = true }) j within are.each
              (record {
                is_released = sym (put_here released j true);
                is_started = x.is_started;
                is_finished =
                    x.is_finished;
                first_commands = x.first_commands;
                first_signals = x.first_signals;
              })
              (λ k n s h. record {
                is_released = h.is_released
                    ∙ sym (put_there released j true k n);
                is_started = h.is_started;
                is_finished = h.is_finished;
                first_commands = h.first_commands;
                first_signals = h.first_signals;
              });
        }

    pub jobs_started : AreJobs p released (put started j true) finished made applied (set xs j (record v {
      started =
          true;
    }))
    jobs_started =
        record {
          count = length-set xs j (record v { started = true }) ∙ are.count;
          each = set_each (IsJobState p released started finished made applied) (IsJobState p released (put started j
              true) finished made applied) xs idle (record v { started = true }) j within are.each
              (record {
                is_released = x.is_released;
                is_started = sym (put_here started j true);
                is_finished =
                    x.is_finished;
                first_commands = x.first_commands;
                first_signals = x.first_signals;
              })
              (λ k n s h. record {
                is_released = h.is_released;
                is_started = h.is_started
                    ∙ sym (put_there started j true k n);
                is_finished = h.is_finished;
                first_commands =
                    h.first_commands;
                first_signals = h.first_signals;
              });
        }

    pub jobs_finished : AreJobs p released started (put finished j true) made applied (set xs j (record v {
      finished
          = true;
    }))
    jobs_finished =
        record {
          count = length-set xs j (record v { finished = true }) ∙ are.count;
          each = set_each (IsJobState p released started finished made applied) (IsJobState p released started (put
              finished j true) made applied) xs idle (record v { finished = true }) j within are.each
              (record {
                is_released = x.is_released;
                is_started = x.is_started;
                is_finished = sym (put_here finished
                    j true);
                first_commands = x.first_commands;
                first_signals = x.first_signals;
              })
              (λ k n s h. record {
                is_released = h.is_released;
                is_started = h.is_started;
                is_finished =
                    h.is_finished ∙ sym (put_there finished j true k n);
                first_commands = h.first_commands;
                first_signals = h.first_signals;
              });
        }

    -- a command more, the next one of its job
    pub jobs_applied : Facts p → (c : ℕ) → slice_get (commands_of p j) v.commands ≡ Some c →
        AreJobs p released started finished made (applied ++ c ∷ []) (set xs j (record v { commands = v.commands + 1 }))
    jobs_applied f c is =
        record {
          count = length-set xs j (record v { commands = v.commands + 1 }) ∙ are.count;
          each = set_each (IsJobState p released started finished made applied) (IsJobState p released started
              finished made (applied ++ c ∷ [])) xs idle (record v { commands = v.commands + 1 }) j within are.each
              (record {
                is_released = x.is_released;
                is_started = x.is_started;
                is_finished = x.is_finished;
                first_commands = pushed_first (commands_of p j) (v.commands + 1) (put_next (has applied)
                    (commands_of p j) v.commands c x.first_commands (rising_once (commands_of p j) (f.formed.commands
                    j)) is);
                first_signals = x.first_signals;
              })
              (λ k n s h. record {
                is_released = h.is_released;
                is_started = h.is_started;
                is_finished =
                    h.is_finished;
                first_commands = pushed_first (commands_of p k) s.commands (put_other (has applied)
                    (commands_of p k) s.commands c h.first_commands (λ i e. n (f.formed.one_job c k j (get_has
                    (commands_of p k) i c e) (get_has (commands_of p j) v.commands c is))));
                first_signals =
                    h.first_signals;
              });
        }
      where
        same : (d : ℕ) → has (applied ++ c ∷ []) d ≡ put (has applied) c true d
        same d = elim (cases_eq d c) [
          | inl s ↦ has-append_right applied (c ∷ []) d (ap (has (c ∷ [])) s ∙ has_here c [])
              ∙ sym (ap (put (has applied) c true) s ∙ put_here (has applied) c true)
          | inr m ↦ by_test m (has (applied ++ c ∷ []) d) refl ∙ sym (put_there (has applied) c true d m)
        ]
          where
            by_test : (d ≡ c → ⊥) → (b : Bool) → has (applied ++ c ∷ []) d ≡ b →
                has (applied ++ c ∷ []) d ≡ has applied d
            by_test m true h = elim (has-append_cases applied (c ∷ []) d h) [
              | inl t ↦ h ∙ sym t
              | inr t ↦ elim (has_cases c [] d t) [ inl s ↦ absurd (m (sym s)) | inr z ↦ absurd (false≢true z) ]
            ]
            by_test m false h = h ∙ sym (not_before (has applied d) refl)
              where
                not_before : (b : Bool) → has applied d ≡ b → has applied d ≡ false
                not_before false z = z
                not_before true z = absurd (false≢true (sym h ∙ has-append_left applied (c ∷ []) d z))

        pushed_first : (cs : List ℕ) (n : ℕ) → AreFirst (put (has applied) c true) cs n →
            AreFirst (has (applied ++ c ∷ [])) cs n
        pushed_first cs n g = record {
          within = g.within;
          before = λ i y e b. same y
              ∙ g.before i y e b;
          after = λ i y e b. same y ∙ g.after i y e b;
        }

    -- a signal more
    pub jobs_signaled : Facts p → (e : ℕ) → slice_get (signals_of p j) v.signals ≡ Some e →
        AreJobs p released started finished (put made e true) applied (set xs j (record v { signals = v.signals + 1 }))
    jobs_signaled f e is =
        record {
          count = length-set xs j (record v { signals = v.signals + 1 }) ∙ are.count;
          each = set_each (IsJobState p released started finished made applied) (IsJobState p released started
              finished (put made e true) applied) xs idle (record v { signals = v.signals + 1 }) j within are.each
              (record {
                is_released = x.is_released;
                is_started = x.is_started;
                is_finished = x.is_finished;
                first_commands = x.first_commands;
                first_signals = put_next made (signals_of p j) v.signals e
                    x.first_signals (rising_once (signals_of p j) (f.formed.signals j)) is;
              })
              (λ k n s h. record {
                is_released = h.is_released;
                is_started = h.is_started;
                is_finished =
                    h.is_finished;
                first_commands = h.first_commands;
                first_signals = put_other made (signals_of p k)
                    s.signals e h.first_signals (λ i g. n (one_job e k j (f.formed.of_job e k (get_has (signals_of p k)
                    i e g)) (f.formed.of_job e j (get_has (signals_of p j) v.signals e is))));
              });
        }
      where
        one_job : (e k j : ℕ) → job_of p e ≡ Some k → job_of p e ≡ Some j → k ≡ j
        one_job e k j a b = let z = sym a ∙ b in cc

pub made_next : (size : ℕ) (made : ℕ → Bool) (xs : List Bool) (e : ℕ) → AreMade size made xs → e < size →
    AreMade size (put made e true) (set xs e true)
made_next size made xs e are l =
    record {
      count = length-set xs e true ∙ are.count;
      each = set_each (λ k b. b ≡ made k) (λ k b. b ≡ put made e true k) xs false true e (let n = are.count in omega
          arith) are.each (sym (put_here made e true)) (λ k n b h. h ∙ sym (put_there made e true k n));
    }

pub payload_next : (size : ℕ) (payload : ℕ → ℕ) (xs : List ℕ) (t v : ℕ) → ArePayloads size payload xs → t < size →
    ArePayloads size (put payload t v) (set xs t v)
payload_next size payload xs t v are l =
    record {
      count = length-set xs t v ∙ are.count;
      each = set_each (λ k n. n ≡ payload k) (λ k n. n ≡ put payload t v k) xs 0 v t (let n = are.count in omega
          arith) are.each (sym (put_here payload t v)) (λ k n b h. h ∙ sym (put_there payload t v k n));
    }

-- Answers

module _ (p : Plan) (started : ℕ → Bool) (answer : ℕ → Option Answer) (at_start : ℕ → ℕ →
    ℕ) (xs : List AnswerState) (are : AreAnswerStates p started answer at_start xs) (j : ℕ) (l : j < length p.jobs)
    (s : AnswerState) (x : IsAnswerState p started answer at_start j s) where
  -- a job starts
  pub answers_started : (payload : ℕ → ℕ) (reached : Bool) (n : ℕ) →
      reached ≡ is_asked_reached (question p j) payload (asked p j) → n ≡ payload_read (question p j) payload →
      AreAnswerStates p (put started j true) answer (put at_start j payload) (set xs j (record s {
        reached = reached;
        payload = n;
      }))
  answers_started payload reached n r v =
      record {
        count = length-set xs j (record s { reached = reached; payload = n }) ∙ are.count;
        each = set_each (IsAnswerState p started answer at_start) (IsAnswerState p (put started j true) answer (put
            at_start j payload)) xs not_asked (record s { reached = reached; payload = n }) j (let n = are.count in
            omega arith) are.each
            (record {
              is_answered = x.is_answered;
              was_reached = λ h. r ∙ ap (λ (f : ℕ → ℕ). is_asked_reached (question p j) f (asked p j)) (sym
                  (put_here at_start j payload));
              was_payload = λ h. v ∙ ap (λ (f : ℕ → ℕ). payload_read (question p j) f) (sym (put_here at_start j
                  payload));
            })
            (λ k d y h. record {
              is_answered = h.is_answered;
              was_reached = λ b. h.was_reached (sym (put_there started j true k d) ∙ b)
                  ∙ ap (λ (f : ℕ → ℕ). is_asked_reached (question p k) f (asked p k)) (sym (put_there at_start j
                  payload k d));
              was_payload = λ b. h.was_payload (sym (put_there started j true k d) ∙ b)
                  ∙ ap (λ (f : ℕ → ℕ). payload_read (question p k) f) (sym (put_there at_start j payload k d));
            });
      }

  -- a job is answered
  pub answers_given : (a : Answer) → AreAnswerStates p started (put answer j (Some a)) at_start (set xs j (record s {
    answered = true;
  }))
  answers_given a =
      record {
        count = length-set xs j (record s { answered = true }) ∙ are.count;
        each = set_each (IsAnswerState p started answer at_start) (IsAnswerState p started (put answer j (Some a))
            at_start) xs not_asked (record s { answered = true }) j (let n = are.count in omega arith) are.each
            (record {
              is_answered = ap is_some (sym (put_here answer j (Some a)));
              was_reached = x.was_reached;
              was_payload = x.was_payload;
            })
            (λ k d y h. record {
              is_answered = h.is_answered ∙ ap is_some (sym (put_there answer j (Some a) k d));
              was_reached = h.was_reached;
              was_payload = h.was_payload;
            });
      }

-- Points

module _ (size : ℕ) (carried : ℕ → Option ℕ) (waiting : ℕ →
    Bool) (held : List Reference) (xs : List PointSlot) (are : ArePoints size carried waiting held xs) (q : ℕ) (l : q
    < size) (v : PointSlot) (x : IsSlot carried waiting held q v) where
  inside : q < length xs
  inside = let n = are.count in omega arith

  pub slot_taken : (e : ℕ) → ArePoints size (put carried q (Some e)) waiting held (set xs q (record v {
    carried =
        Some e;
  }))
  slot_taken e =
      record {
        count = length-set xs q (record v { carried = Some e }) ∙ are.count;
        each = set_each (IsSlot carried waiting held) (IsSlot (put carried q (Some e)) waiting held) xs no_slot
            (record v { carried = Some e }) q inside are.each
            (record {
              is_carried = sym (put_here carried q (Some e));
              is_waiting = x.is_waiting;
              references =
                  x.references;
            })
            (λ k n s h. record {
              is_carried = h.is_carried
                  ∙ sym (put_there carried q (Some e) k n);
              is_waiting = h.is_waiting;
              references = h.references;
            });
      }

  pub slot_completed : ArePoints size carried (put waiting q true) held (set xs q (record v { waits = true }))
  slot_completed =
      record {
        count = length-set xs q (record v { waits = true }) ∙ are.count;
        each = set_each (IsSlot carried waiting held) (IsSlot carried (put waiting q true) held) xs no_slot (record v
            { waits = true }) q inside are.each
            (record {
              is_carried = x.is_carried;
              is_waiting = sym (put_here waiting q true);
              references =
                  x.references;
            })
            (λ k n s h. record {
              is_carried = h.is_carried;
              is_waiting = h.is_waiting
                  ∙ sym (put_there waiting q true k n);
              references = h.references;
            });
      }

  pub slot_freed : ArePoints size (put carried q None) (put waiting q false) held (set xs q (record v {
    carried =
        None;
    waits = false;
  }))
  slot_freed =
      record {
        count = length-set xs q (record v { carried = None; waits = false }) ∙ are.count;
        each = set_each (IsSlot carried waiting held) (IsSlot (put carried q None) (put waiting q false) held) xs
            no_slot (record v { carried = None; waits = false }) q inside are.each
            (record {
              is_carried = sym (put_here carried q None);
              is_waiting = sym (put_here waiting q false);
              references = x.references;
            })
            (λ k n s h. record {
              is_carried = h.is_carried
                  ∙ sym (put_there carried q None k n);
              is_waiting = h.is_waiting
                  ∙ sym (put_there waiting q false k n);
              references = h.references;
            });
      }

  -- the references to this point are these, and those to all others stay
  pub slot_referred : (new : List Reference) (n : ℕ) → n ≡ count_by (λ r. r.point == q) new → ((k : ℕ) → (k ≡ q →
      ⊥) → count_by (λ r. r.point == k) new ≡ count_by (λ r. r.point == k) held) →
      ArePoints size carried waiting new (set xs q (record v { references = n }))
  slot_referred new n is same =
      record {
        count = length-set xs q (record v { references = n }) ∙ are.count;
        each = set_each (IsSlot carried waiting held) (IsSlot carried waiting new) xs no_slot (record v {
          references
              = n;
        }) q inside are.each
            (record { is_carried = x.is_carried; is_waiting = x.is_waiting; references = is })
            (λ k d s h. record {
              is_carried = h.is_carried;
              is_waiting = h.is_waiting;
              references = h.references
                  ∙ sym (same k d);
            });
      }

-- Counting references

-- one more
pub count_more : (test : Reference → Bool) (r : Reference) (rs : List Reference) → test r ≡ true →
    count_by test (r ∷ rs) ≡ count_by test rs + 1
count_more test r rs h = let c = count_cons test r rs in let o : one (test r) ≡ 1 = ap one h in omega arith

pub count_other : (test : Reference → Bool) (r : Reference) (rs : List Reference) → test r ≡ false →
    count_by test (r ∷ rs) ≡ count_by test rs
count_other test r rs h = let c = count_cons test r rs in let o : one (test r) ≡ 0 = ap one h in omega arith

-- one less: the first that passes a test, which passes another one too, or doesn't
pub count_less : (first test : Reference → Bool) (rs : List Reference) → list_any first rs ≡ true →
    ((r : Reference) → first r ≡ true → test r ≡ true) → count_by test (without_first first rs) + 1 ≡ count_by test rs
count_less first test [] h f = absurd (false≢true h)
count_less first test (r ∷ rs) h f = by_test (first r) refl (count_less first test rs)
  where
    by_test : (b : Bool) → first r ≡ b → (list_any first rs ≡ true → ((r : Reference) → first r ≡ true →
        test r ≡ true) → count_by test (without_first first rs) + 1 ≡ count_by test rs) →
        count_by test (cond (first r) rs (r ∷ without_first first rs)) + 1 ≡ count_by test (r ∷ rs)
    by_test true e g =
        ap (λ (us : List Reference). count_by test us + 1) (cond-true (first r) rs (r ∷ without_first first rs) e) ∙
        sym (count_more test r rs (f r e))
    by_test false e g =
        let rest = g (elim (or_cases (first r) (list_any first rs) h) [
          | inl t ↦ absurd (false≢true (sym e
              ∙ t))
          | inr t ↦ t
        ]) f in
        let a = count_cons test r (without_first first rs) in
        let b = count_cons test r rs in
        ap (λ (us : List Reference). count_by test us + 1) (cond-false (first r) rs (r ∷ without_first first rs) e) ∙
        (omega arith)

pub count_same : (first test : Reference → Bool) (rs : List Reference) → ((r : Reference) → first r ≡ true →
    test r ≡ false) → count_by test (without_first first rs) ≡ count_by test rs
count_same first test [] f = refl
count_same first test (r ∷ rs) f = by_test (first r) refl (count_same first test rs f)
  where
    by_test : (b : Bool) → first r ≡ b → count_by test (without_first first rs) ≡ count_by test rs →
        count_by test (cond (first r) rs (r ∷ without_first first rs)) ≡ count_by test (r ∷ rs)
    by_test true e g =
        ap (count_by test) (cond-true (first r) rs (r ∷ without_first first rs) e) ∙ sym (count_other test r rs (f r e))
    by_test false e g =
        let a = count_cons test r (without_first first rs) in
        let b = count_cons test r rs in
        ap (count_by test) (cond-false (first r) rs (r ∷ without_first first rs) e) ∙ (omega arith)
