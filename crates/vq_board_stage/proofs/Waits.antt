-- What the passes of the test of a batch with two waits may do.
use Rattle.std.proofs.Common.{◌≡◌, ℕ, zero, suc, ◌<◌, true, false, not, nat_lt, nat_le, List, [], ◌∷◌, ◌++◌, length, Some, None, refl, sym, ap, subst, ◌∙◌, inr, arith, leb-true}
use Rattle.std.specs.Prelude.{All, Result, Ok, Err, IfOk}
use Rattle.std.specs.Result.{is_err}
use Rattle.std.specs.List.{slice_get}
use Rattle.std.proofs.lemmas.Bool.{false≢true, and_parts}
use Rattle.std.proofs.lemmas.List.Elements.{All-cons, All-nil}
use Rattle.std.proofs.lemmas.Option.{same_Some}
use Rattle.vq_ground.proofs.Searches.{find_member, find_passes}
use Rattle.vq_model.specs.Plan.{Plan, is_host_step, chain, value, resolver}
use Rattle.vq_ground.specs.Lists.{has}
use Rattle.vq_model.specs.Edges.{Stage, At, AtEnd}
use Rattle.vq_model.specs.declared.plan.Need.{Need}
use Rattle.vq_point.specs.declared.PointWord.{PointWord as PointParts}
use Rattle.vq_point.specs.Word.{bits_of}
use Rattle.vq_board_laws.specs.declared.view.Fact.{Fact}
use Rattle.vq_board_laws.specs.declared.view.Fact.TheVariants.{Job, Bound, Made}
use Rattle.vq_board_laws.specs.declared.view.JobState.TheVariants.{Submitted, Released, Finished}
use Rattle.vq_board_laws.specs.declared.view.Role.TheVariants.{Ring}
use Rattle.vq_board_laws.specs.declared.view.View.{View}
use Rattle.vq_board_laws.specs.Knowledge.{Knows, KnowsMade.shown}
use Rattle.vq_board_laws.specs.May.{MaySubmit, MayRelease, MayStart, MayFinish, KnowsReached, KnowsNeeds}
use Rattle.vq_board_laws.proofs.Cited.{needs_each, knows_so_far, knows_first, knows_more}
use Rattle.vq_board_laws.specs.PointSteps.{point_facts, moved_on, sees, unrefers}
use Rattle.vq_board_laws.specs.Roles.{role_number}
use Rattle.vq_board_stage.specs.HostSteps.{HasHostStep}
use Rattle.vq_board_stage.specs.TwoWaits.{IsOfTwoWaits}

-- what a point's word says that carries the operation, which is signaled, and has one reference
abbrev pub signaled_word : ℕ → PointParts
signaled_word e = record { op = e; refs = 1; signaled = true; held = true }

-- a look at a point shows what the word that it finds says
pub look_shows : (v w : View) (q : ℕ) (x y : PointParts) (f : Fact) → w ≡ sees v q (bits_of x) → x ≡ y → Knows (point_facts (bits_of y)) f → Knows w.known f
look_shows v w q x y f is found h =
    let n = bits_of x in
    let said = subst (λ (z : PointParts). Knows (point_facts (bits_of z)) f) (sym found) h in
    subst (λ (u : View). Knows u.known f) (sym is) (knows_first (point_facts n ++ moved_on q n v.known) v.known f (knows_first (point_facts n) (moved_on q n v.known) f said))

-- and forgets nothing
pub look_keeps : (v w : View) (q n : ℕ) (f : Fact) → w ≡ sees v q n → Knows v.known f → Knows w.known f
look_keeps v w q n f is h =
    subst (λ (x : View). Knows x.known f) (sym is) (knows_more (point_facts n ++ moved_on q n v.known) v.known f h)

-- nor does a reference that is given back
pub unrefer_keeps : (v w : View) (q n e : ℕ) (f : Fact) → w ≡ unrefers (sees v q n) q e n → Knows v.known f → Knows w.known f
unrefer_keeps v w q n e f is h =
    subst (λ (x : View). Knows x.known f) (sym is) (knows_more (point_facts n ++ moved_on q n v.known) v.known f h)

-- what is ensured where a call gives no error
pub given : {A B : Type 0} (r : Result A B) (P : Type 0) → IfOk r (λ _. P) → is_err r ≡ false → P
given (Ok x) P h e = h
given (Err y) P h e = absurd (false≢true (sym e))

module _ (p : Plan) (known : List Fact) where
  -- where two waits are the same, so are the operations that resolve them
  bound_by : (m n : Need) (f e : ℕ) → Some m ≡ Some n → resolver p m.chain m.value ≡ Some f → resolver p n.chain n.value ≡ Some e → Knows known (Bound f) → Knows known (Bound e)
  bound_by m n f e same found resolves bound =
      let both = sym found ∙ (ap (λ (x : Need). resolver p x.chain x.value) (same_Some m n same) ∙ resolves) in
      subst (λ (x : ℕ). Knows known (Bound x)) (same_Some f e both) bound

  -- a wait is reached, where the operation that resolves it is made
  reached : (n : Need) (e : ℕ) → resolver p n.chain n.value ≡ Some e → Knows known (Made e) → KnowsReached p known n
  reached n e found made =
      let test = λ (f : ℕ). nat_le n.value (value p f) in
      inr record {
        op = e;
        in_chain = find_member test (chain p n.chain) e found;
        reaches = leb-true n.value (value p e) (find_passes test (chain p n.chain) e found);
        made = shown made;
      }

module _ (p : Plan) (k : IsOfTwoWaits p) (v : View) where
  -- the two jobs before the batch are steps of the host
  step_at : (i : ℕ) → i < 2 → HasHostStep p i
  step_at zero l = k.first.step
  step_at (suc zero) l = k.second.step
  step_at (suc (suc i)) l = absurd (omega arith)

  pub may_submit : v.role ≡ 0 → v.submitted ≡ [] → ((i : ℕ) → i < 2 → Knows v.known (Job i Finished)) → MaySubmit p v 2
  may_submit role none finished = record {
    host = role;
    batch = k.batch.batch;
    new = subst (λ (xs : List ℕ). has xs 2 ≡ false) (sym none) refl;
    next = λ i l batch. absurd (false≢true (sym (ap not (step_at i l).step) ∙ (and_parts (nat_lt i (length p.jobs)) (not (is_host_step p i)) batch).1));
    before = λ i l _. finished i l;
  }

  -- what resolves a wait of the batch is known bound
  bound_at : Knows v.known (Bound 0) → Knows v.known (Bound 1) → (n : Need) (place e : ℕ) → slice_get (k.waits.first ∷ k.waits.second ∷ []) place ≡ Some n → resolver p n.chain n.value ≡ Some e → Knows v.known (Bound e)
  bound_at first second n zero e is resolves = bound_by p v.known k.waits.first n 0 e is k.waits.by_first resolves first
  bound_at first second n (suc zero) e is resolves = bound_by p v.known k.waits.second n 1 e is k.waits.by_second resolves second
  bound_at first second n (suc (suc i)) e is resolves = absurd (let c : None ≡ Some n = is in cc)

  pub may_release : v.role ≡ 0 → v.released ≡ [] → Knows v.known (Job 2 Submitted) → Knows v.known (Bound 0) → Knows v.known (Bound 1) → MayRelease p v 2
  may_release role none submitted first second = record {
    submitter = k.batch.submitter ∙ sym role;
    batch = k.batch.batch;
    new = subst (λ (xs : List ℕ). has xs 2 ≡ false) (sym none) refl;
    next = λ i l lane. absurd (let mine = (step_at i l).lane in let its = k.batch.lane in omega arith);
    submitted = knows_so_far v.known 2 Submitted submitted;
    bound = λ n place e is _ resolves. bound_at first second n place e (subst (λ (ns : List Need). slice_get ns place ≡ Some n) k.waits.both is) resolves;
    taken = λ e is. absurd (false≢true (sym (ap (λ (xs : List ℕ). has xs e) k.batch.its_signals) ∙ is));
  }

  both_reached : Knows v.known (Made 0) → Knows v.known (Made 1) → All (KnowsReached p v.known) (k.waits.first ∷ k.waits.second ∷ [])
  both_reached first second =
      let P = KnowsReached p v.known in
      All-cons P k.waits.first (k.waits.second ∷ []) (reached p v.known k.waits.first 0 k.waits.by_first first) (All-cons P k.waits.second [] (reached p v.known k.waits.second 1 k.waits.by_second second) (All-nil P))

  -- so what holds back any place of the batch is known reached
  needed : Knows v.known (Made 0) → Knows v.known (Made 1) → (place : Stage) → KnowsNeeds p v.known 2 place
  needed first second place =
      needs_each p v.known 2 place k.batch.any (subst (λ (ns : List Need). All (KnowsReached p v.known) ns) (sym k.waits.both) (both_reached first second))

  pub may_start : v.role ≡ role_number p (Ring 0) → v.runs ≡ None → v.begun ≡ [] → Knows v.known (Job 2 Released) → Knows v.known (Made 0) → Knows v.known (Made 1) → MayStart p v 2
  may_start role idle none released first second = record {
    exists = k.batch.exists;
    runner = k.batch.runner ∙ sym role;
    idle = idle;
    new = subst (λ (xs : List ℕ). has xs 2 ≡ false) (sym none) refl;
    released = λ _. knows_so_far v.known 2 Released released;
    previous = λ i is. absurd (let c : None ≡ Some i = sym k.begins ∙ is in cc);
    idle_after = λ i is. absurd (false≢true (sym (ap (λ (xs : List ℕ). has xs i) k.batch.idle_after) ∙ is));
    reached = needed first second (At 1);
  }

  pub may_finish : v.runs ≡ Some 2 → v.entered ≡ 0 → v.signaled ≡ 0 → v.held ≡ None → v.refs ≡ [] → Knows v.known (Made 0) → Knows v.known (Made 1) → MayFinish p v 2
  may_finish runs entered signaled turnless alone first second = record {
    runs = runs;
    commands = entered ∙ ap (λ (xs : List ℕ). length xs) (sym k.batch.its_commands);
    signals = signaled ∙ ap (λ (xs : List ℕ). length xs) (sym k.batch.its_signals);
    answered = λ asks. absurd (false≢true (sym asks ∙ k.batch.silent));
    turnless = turnless;
    without_reference = alone;
    reached = needed first second AtEnd;
  }
