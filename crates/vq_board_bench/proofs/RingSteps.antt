-- What the ring's pass may do next in a row, and how far it is then.
use Rattle.std.proofs.Common.{ℕ, ◌≡◌, ◌<◌, ◌≤◌, false, List, Some, length, refl, sym, ap, subst, ◌∙◌, inl, inr, arith}
use Rattle.std.specs.List.{slice_get}
use Rattle.std.proofs.lemmas.Bool.{false≢true}
use Rattle.vq_model.specs.Edges.{Stage, At}
use Rattle.vq_model.specs.Plan.{Plan, commands_of, signals_of}
use Rattle.vq_ground.specs.Lists.{has}
use Rattle.vq_board_laws.specs.declared.view.Fact.{Fact}
use Rattle.vq_board_laws.specs.declared.view.View.{View}
use Rattle.vq_board_laws.specs.declared.view.JobState.{JobState}
use Rattle.vq_board_laws.specs.declared.view.JobState.TheVariants.{Released}
use Rattle.vq_board_laws.specs.May.{MayStart, KnowsNeeds}
use Rattle.vq_board_laws.proofs.Cited.{knows_so_far, needs_nothing}
use Rattle.vq_board_laws.specs.Steps.{looks}
use Rattle.vq_board_bench.specs.Rows.{IsRow, IsBetween}
use Rattle.vq_board_bench.proofs.Below.{not_below}

module _ (p : Plan) (n c s : ℕ) (row : IsRow p n c s) (j : ℕ) (exists : j < n) where
  pub may_start : (v w : View) (t : JobState) → IsBetween p v j → w ≡ looks v j t → t ≡ Released → MayStart p w j
  may_start v w t b is state =
      let link = row.linked j exists in
      let jobs = row.jobs in
      subst (λ (x : View). MayStart p x j) (sym (is ∙ ap (looks v j) state))
      record {
        exists = omega arith;
        runner = link.runner ∙ sym b.ring.role;
        idle = b.idle;
        new = subst (λ (xs : List ℕ). has xs j ≡ false) (sym b.ring.begun) (not_below j j (omega arith));
        released = λ step. knows_so_far (looks v j Released).known j Released (inl refl);
        previous = λ i e. inr (b.last i (link.previous i e));
        idle_after = λ i e. absurd (false≢true (ap (λ (xs : List ℕ). has xs i) (sym link.idle_after) ∙ e));
        reached = needs_nothing p (looks v j Released).known j (At 1) link.needs link.any;
      }

  -- the batch has one command, or none,
  pub first_command : j < c → slice_get (commands_of p j) 0 ≡ Some j
  first_command l = ap (λ (xs : List ℕ). slice_get xs 0) ((row.linked j exists).commands.one l)

  pub one_command : j < c → length (commands_of p j) ≡ 1
  one_command l = ap (λ (xs : List ℕ). length xs) ((row.linked j exists).commands.one l)

  pub no_command : c ≤ j → length (commands_of p j) ≡ 0
  no_command l = ap (λ (xs : List ℕ). length xs) ((row.linked j exists).commands.none l)

  -- and one signal, or none
  pub first_signal : j < s → slice_get (signals_of p j) 0 ≡ Some j
  first_signal l = ap (λ (xs : List ℕ). slice_get xs 0) ((row.linked j exists).signals.one l)

  pub one_signal : j < s → length (signals_of p j) ≡ 1
  one_signal l = ap (λ (xs : List ℕ). length xs) ((row.linked j exists).signals.one l)

  pub no_signal : s ≤ j → length (signals_of p j) ≡ 0
  no_signal l = ap (λ (xs : List ℕ). length xs) ((row.linked j exists).signals.none l)

-- a batch of a row needs nothing
pub needless : (p : Plan) (n c s : ℕ) (known : List Fact) (j : ℕ) (k : Stage) → IsRow p n c s → j < n → KnowsNeeds p known j k
needless p n c s known j k row exists = let link = row.linked j exists in needs_nothing p known j k link.needs link.any
