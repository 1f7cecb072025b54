-- When a job of a batch or of the host's signal may take its steps.
use Rattle.std.proofs.Common.{◌≡◌, ℕ, zero, suc, ◌+◌, ◌<◌, ◌≤◌, Bool, true, false, not, ◌||◌, List, [], ◌∷◌, length, filter, Some, refl, sym, ap, ◌∙◌, arith}
use Rattle.std.specs.Prelude.{◌==◌, nat_le, if◌then◌else◌}
use Rattle.std.specs.List.{slice_get, list_all, list_any, range_with_len, position_or_len}
use Rattle.std.specs.Prelude.{is_some}
use Rattle.std.proofs.lemmas.Bool.{and_from, and_parts, cond-true, cond-false}
use Rattle.vq_model.specs.declared.plan.Need.{Need}
use Rattle.vq_model.specs.Plan.{Plan, needs, waits_for_any, commands_of, chain_of, value}
use Rattle.vq_model.specs.Edges.{At, AtEnd, needs_at, must_finish}
use Rattle.vq_model.specs.Machine.{Progress, State, is_reached, are_reached, next, CanStart, CanApply, CanSignal, CanFinish}
use Rattle.vq_ground.specs.Lists.{has}
use Rattle.vq_ground.proofs.Lists.{list_all_from}
use Rattle.vq_ground.proofs.Gets.{get_within}
use Rattle.vq_layer.specs.declared.answers.Wanted.{Wanted}
use Rattle.vq_ground.proofs.Numbers.{has_range}
use Rattle.vq_layer_machine.specs.Tales.{Place, Running}
use Rattle.vq_layer_machine.proofs.Jobs.{Asked, IsJob}

-- a job that runs, so far; and one that hasn't started
pub record Runs (p : Plan) (s : Progress) (x : Place) (r : Running) : Type 0 where
  pub started : s.started x.job ≡ true
  pub unfinished : s.finished x.job ≡ false
  pub reached : list_all (is_reached s.payload) (needs p x.job) ≡ true
  pub done : (i : ℕ) → i < r.applied → has s.applied (x.command + i) ≡ true
  pub undone : (c : ℕ) → has (commands_of p x.job) c ≡ true → x.command + r.applied ≤ c → has s.applied c ≡ false
  pub made_first : (i : ℕ) → i < r.made → s.made (x.op + i) ≡ true

pub record IsFresh (p : Plan) (s : Progress) (x : Place) : Type 0 where
  pub waiting : s.started x.job ≡ false
  pub unfinished : s.finished x.job ≡ false
  pub undone : (c : ℕ) → has (commands_of p x.job) c ≡ true → has s.applied c ≡ false

-- no made operation is above the payload
abbrev pub AreLow : Plan → Progress → Type 0
AreLow p s = (e t : ℕ) → s.made e ≡ true → chain_of p e ≡ Some t → value p e ≤ s.payload t

reached_some : (payload : ℕ → ℕ) (k : ℕ) (ns : List Need) → list_all (is_reached payload) ns ≡ true → list_all (is_reached payload) (filter (λ n. nat_le n.from k) ns) ≡ true
reached_some payload k [] h = refl
reached_some payload k (n ∷ ns) h =
    let parts = and_parts (is_reached payload n) (list_all (is_reached payload) ns) h in
    by_test (nat_le n.from k) parts.0 (reached_some payload k ns parts.1)
  where
    by_test : (b : Bool) → is_reached payload n ≡ true → list_all (is_reached payload) (filter (λ m. nat_le m.from k) ns) ≡ true → list_all (is_reached payload) (if b then n ∷ filter (λ m. nat_le m.from k) ns else filter (λ m. nat_le m.from k) ns) ≡ true
    by_test true f r = and_from (is_reached payload n) (list_all (is_reached payload) (filter (λ m. nat_le m.from k) ns)) f r
    by_test false f r = r

next_in_range : (done : ℕ → Bool) (n a k : ℕ) → k < n → ((i : ℕ) → i < k → done (a + i) ≡ true) → done (a + k) ≡ false → next done (range_with_len a n) ≡ Some (a + k)
next_in_range done zero a k l f e = absurd (omega arith)
next_in_range done (suc n) a zero l f e =
    let z : a + 0 ≡ a = omega arith in
    cond-true (not (done a)) (Some a) (next done (range_with_len (a + 1) n)) (ap (λ (i : ℕ). not (done i)) (sym z) ∙ ap not e) ∙ ap Some (sym z)
next_in_range done (suc n) a (suc k) l f e =
    let z : a + 0 ≡ a = omega arith in
    let m : (i : ℕ) → (a + 1) + i ≡ a + suc i = λ i. omega arith in
    cond-false (not (done a)) (Some a) (next done (range_with_len (a + 1) n)) (ap (λ (i : ℕ). not (done i)) (sym z) ∙ ap not (f 0 (omega arith)))
    ∙ next_in_range done n (a + 1) k (omega arith) (λ i b. ap done (m i) ∙ f (suc i) (omega arith)) (ap done (m k) ∙ e)
    ∙ ap Some (m k)

all_in_range : (done : ℕ → Bool) (n a : ℕ) → ((i : ℕ) → i < n → done (a + i) ≡ true) → list_all done (range_with_len a n) ≡ true
all_in_range done zero a f = refl
all_in_range done (suc n) a f =
    let z : a + 0 ≡ a = omega arith in
    let m : (i : ℕ) → (a + 1) + i ≡ a + suc i = λ i. omega arith in
    and_from (done a) (list_all done (range_with_len (a + 1) n)) (ap done (sym z) ∙ f 0 (omega arith))
    (all_in_range done n (a + 1) (λ i l. ap done (m i) ∙ f (suc i) (omega arith)))

module _ (p : Plan) (lane : ℕ) (a : Asked) (x : Place) (job : IsJob p lane a x) where
  reached_end : (payload : ℕ → ℕ) → list_all (is_reached payload) (needs p x.job) ≡ true → are_reached p payload x.job AtEnd ≡ true
  reached_end payload h =
      cond-false (waits_for_any p x.job) (list_any (is_reached payload) (needs p x.job)) (list_all (is_reached payload) (needs p x.job)) job.any ∙ h

  reached_at : (payload : ℕ → ℕ) (k : ℕ) → list_all (is_reached payload) (needs p x.job) ≡ true → are_reached p payload x.job (At k) ≡ true
  reached_at payload k h =
      cond-false (waits_for_any p x.job) (list_any (is_reached payload) (needs_at p x.job (At k))) (list_all (is_reached payload) (needs_at p x.job (At k))) job.any
      ∙ reached_some payload k (needs p x.job) h

  pub may_start : (s : Progress) → IsFresh p s x → ((i : ℕ) → has (must_finish p x.job) i ≡ true → s.finished i ≡ true) → list_all (is_reached s.payload) (needs p x.job) ≡ true → CanStart p s x.job
  may_start s f done h =
      record {
        exists = job.exists;
        waiting = f.waiting;
        ready = and_from (list_all s.finished (must_finish p x.job)) (are_reached p s.payload x.job (At 1)) (list_all_from s.finished (must_finish p x.job) done) (reached_at s.payload 1 h);
      }

  pub its_command : (k : ℕ) → k < a.commands → has (commands_of p x.job) (x.command + k) ≡ true
  its_command k l = ap (λ cs. has cs (x.command + k)) job.commands ∙ has_range a.commands x.command (x.command + k) (omega arith) (omega arith)

  pub may_apply : (s : Progress) (r : Running) → Runs p s x r → r.applied < a.commands → CanApply p s x.job (x.command + r.applied)
  may_apply s r run l =
      record {
        started = run.started;
        unfinished = run.unfinished;
        next = ap (next (has s.applied)) job.commands ∙ next_in_range (has s.applied) a.commands x.command r.applied l run.done (run.undone (x.command + r.applied) (its_command r.applied l) (omega arith));
        ready = reached_at s.payload (suc (position_or_len (λ d. d == x.command + r.applied) (commands_of p x.job))) run.reached;
      }

  all_applied : (s : Progress) (r : Running) → Runs p s x r → r.applied ≡ a.commands → list_all (has s.applied) (commands_of p x.job) ≡ true
  all_applied s r run e =
      ap (list_all (has s.applied)) job.commands ∙ all_in_range (has s.applied) a.commands x.command (λ i l. run.done i (omega arith))

  pub may_signal : (s : Progress) (r : Running) (w : Wanted) → Runs p s x r → AreLow p s → r.applied ≡ a.commands → slice_get a.signals r.made ≡ Some w → s.payload w.timeline < w.value → CanSignal p s (x.op + r.made)
  may_signal s r w run low all e l =
      let on = job.signal r.made w e in
      let within = get_within a.signals r.made w e in
      let v = on.1 in
      record {
        job = x.job;
        chain = w.timeline;
        in_chain = on.0;
        started = run.started;
        unfinished = run.unfinished;
        commands = all_applied s r run all;
        next = ap (next s.made) job.ops ∙ next_in_range s.made (length a.signals) x.op r.made within run.made_first (unmade (s.made (x.op + r.made)) refl);
        ready = reached_end s.payload run.reached;
        rises = omega arith;
      }
    where
      unmade : (b : Bool) → s.made (x.op + r.made) ≡ b → s.made (x.op + r.made) ≡ false
      unmade true m =
          let on = job.signal r.made w e in
          let v = on.1 in
          let under = low (x.op + r.made) w.timeline m on.0 in
          absurd (omega arith)
      unmade false m = m

  pub may_finish : (s : State) (r : Running) → Runs p s.progress x r → r.applied ≡ a.commands → r.made ≡ length a.signals → CanFinish p s x.job
  may_finish s r run all every =
      record {
        done = record {
          started = run.started;
          unfinished = run.unfinished;
          commands = all_applied s.progress r run all;
          signals = ap (list_all s.progress.made) job.ops ∙ all_in_range s.progress.made (length a.signals) x.op (λ i l. run.made_first i (omega arith));
          ready = reached_end s.progress.payload run.reached;
        };
        answered = ap (λ (b : Bool). b || is_some (s.answer x.job)) job.silent;
      }
