-- What a pass knows reached stays known, and where all needs of a job hold back its start, they hold back
-- nothing later.
use Rattle.std.proofs.Common.{◌≡◌, ℕ, suc, Bool, true, false, cond, nat_le, arith, List, [], ◌∷◌, filter, Some, subst, sym, ap, ◌∙◌, inl, inr}
use Rattle.std.specs.Prelude.{All}
use Rattle.std.specs.List.{slice_get}
use Rattle.std.proofs.lemmas.Bool.{false≢true}
use Rattle.std.proofs.lemmas.List.Elements.{All-nil, All-cons, All-head, All-tail}
use Rattle.vq_model.specs.declared.plan.Need.{Need}
use Rattle.vq_model.specs.Plan.{Plan, needs, waits_for_any}
use Rattle.vq_model.specs.Edges.{Stage, At, AtEnd, needs_at}
use Rattle.vq_model.specs.EdgeReasons.{waits_at_start}
use Rattle.vq_plan_laws.proofs.Cited.{needs_alike}
use Rattle.vq_board_laws.specs.declared.view.Fact.{Fact}
use Rattle.vq_board_laws.specs.declared.view.Fact.TheVariants.{Job, Made, Past}
use Rattle.vq_board_laws.specs.declared.view.JobState.{JobState}
use Rattle.vq_board_laws.specs.declared.view.JobState.TheVariants.{Finished}
use Rattle.vq_board_laws.specs.Knowledge.{Knows, KnowsSoFar, KnowsMade, shown, completed, made_with, of_finished, before_finished}
use Rattle.vq_board_laws.specs.May.{KnowsReached, KnowsNeeds}

-- More is known

module _ (p : Plan) (known more : List Fact) (grows : (f : Fact) → Knows known f → Knows more f) where
  pub made_still : (e : ℕ) → KnowsMade p known e → KnowsMade p more e
  made_still e (shown h) = shown (grows (Made e) h)
  made_still e (completed h) = completed (grows (Past e) h)
  made_still e (made_with {e = f} k is) = made_with (made_still f k) is
  made_still e (of_finished {j} h of_job) = of_finished (grows (Job j Finished) h) of_job
  made_still e (before_finished {j} h sure) = before_finished (grows (Job j Finished) h) sure

  pub reached_still : (n : Need) → KnowsReached p known n → KnowsReached p more n
  reached_still n (inl low) = inl low
  reached_still n (inr k) = inr record { op = k.op; in_chain = k.in_chain; reaches = k.reaches; made = made_still k.op k.made }

  pub needs_still : (j : ℕ) (k : Stage) → KnowsNeeds p known j k → KnowsNeeds p more j k
  needs_still j k h = record {
    all = λ every i d l. reached_still _ (h.all every i d l);
    one = λ any. let o = h.one any in record { place = o.place; need = o.need; is = o.is; reached = reached_still o.need o.reached };
  }

-- Where all needs hold back the start

module _ (p : Plan) (known : List Fact) (j : ℕ) where
  needs_same : (k l : Stage) → needs_at p j k ≡ needs_at p j l → KnowsNeeds p known j k → KnowsNeeds p known j l
  needs_same k l same h = record {
    all = λ every. subst (All (KnowsReached p known)) same (h.all every);
    one = λ any. let o = h.one any in record { place = o.place; need = o.need; is = subst (λ (ns : List Need). slice_get ns o.place ≡ Some o.need) same o.is; reached = o.reached };
  }

  -- what is known reached at the start is all that a later place asks
  pub needs_later : waits_at_start p j ≡ true → (k : ℕ) → KnowsNeeds p known j (At 1) → KnowsNeeds p known j (At (suc k))
  needs_later held k h = needs_same (At 1) (At (suc k)) (needs_alike p j 0 held ∙ sym (needs_alike p j k held)) h

  pub needs_to_end : waits_at_start p j ≡ true → KnowsNeeds p known j (At 1) → KnowsNeeds p known j AtEnd
  needs_to_end held h = needs_same (At 1) AtEnd (needs_alike p j 0 held) h

-- a job that waits for nothing needs nothing
pub needs_nothing : (p : Plan) (known : List Fact) (j : ℕ) (k : Stage) → needs p j ≡ [] → waits_for_any p j ≡ false → KnowsNeeds p known j k
needs_nothing p known j k none single = record {
  all = λ _. subst (All (KnowsReached p known)) (sym (nothing_at k)) (All-nil (KnowsReached p known));
  one = λ any. absurd (false≢true (sym single ∙ any));
}
  where
    nothing_at : (l : Stage) → needs_at p j l ≡ []
    nothing_at (At n) = ap (filter (λ x. nat_le x.from n)) none
    nothing_at AtEnd = none

-- what is known of all needs of a job serves each place of it

some_of_all : (P : Need → Type 0) (at : Need → Bool) (ns : List Need) → All P ns → All P (filter at ns)
some_of_all P at [] h = All-nil P
some_of_all P at (n ∷ ns) h = by_test (at n) (some_of_all P at ns (All-tail P n ns h))
  where
    by_test : (b : Bool) → All P (filter at ns) → All P (cond b (n ∷ filter at ns) (filter at ns))
    by_test true rest = All-cons P n (filter at ns) (All-head P n ns h) rest
    by_test false rest = rest

pub needs_each : (p : Plan) (known : List Fact) (j : ℕ) (k : Stage) → waits_for_any p j ≡ false → All (KnowsReached p known) (needs p j) → KnowsNeeds p known j k
needs_each p known j k single h = record {
  all = λ _. at_place k;
  one = λ any. absurd (false≢true (sym single ∙ any));
}
  where
    at_place : (l : Stage) → All (KnowsReached p known) (needs_at p j l)
    at_place (At n) = some_of_all (KnowsReached p known) (λ x. nat_le x.from n) (needs p j) h
    at_place AtEnd = h

-- a job that is known in a state is known at least so far
pub knows_so_far : (known : List Fact) (j : ℕ) (s : JobState) → Knows known (Job j s) → KnowsSoFar known j s
knows_so_far known j s h = (s, omega arith, h)
