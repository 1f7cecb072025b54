-- What a look at an operation, and then at its point, shows of it.
use Rattle.std.proofs.Common.{◌≡◌, ℕ, if◌then◌else◌, List, [], ◌∷◌, ◌++◌, true, false, Bool, ◌&&◌, ◌||◌, ◌==◌, eqb, not, cond, length, refl, sym, ap, ◌∙◌, subst, arith, inl, inr}
use Rattle.std.proofs.lemmas.Bool.{false≢true, and_from, and_parts, or_cases, or_left, or_parts, eq-eqb, eqb-true, not-false}
use Rattle.vq_board_laws.proofs.Cited.{knows_first, knows_more}
use Rattle.vq_ground.specs.Lists.{has}
use Rattle.vq_ground.proofs.Lists.{has_here}
use Rattle.vq_point_laws.specs.PointWord.{parts, PointWord}
use Rattle.vq_point.specs.declared.PointWord.{PointWord as PointParts}
use Rattle.vq_board_laws.specs.declared.view.Fact.{Fact}
use Rattle.vq_board_laws.specs.declared.view.Fact.TheVariants.{Job, Taken, Bound, BoundTo, Past, Made}
use Rattle.vq_board_laws.specs.declared.view.View.{View}
use Rattle.vq_board_laws.specs.declared.view.OpState.TheVariants.{Unbound as UnboundOp}
use Rattle.vq_board_laws.specs.Knowledge.{Knows}
use Rattle.vq_board_laws.specs.PointSteps.{recalls, sees, point_facts, moved_on, carries}
use Rattle.vq_board_laws.specs.Words.{Carries}
use Rattle.vq_board.specs.Firsts.{shows_made}
use Rattle.vq_board.proofs.Cited.{shown_more}
use Rattle.vq_board_laws.specs.Learning.{Grows}
use Rattle.std.proofs.lemmas.List.{length-append}
use Rattle.vq_payload.specs.Reading.{ShowsNext}

-- what is known made or past by a step is shown made
made_shown : (fs : List Fact) (e : ℕ) → Knows fs (Made e) → shows_made fs e ≡ true
made_shown [] e h = absurd h
made_shown (g ∷ fs) e (inl is) = subst (λ (z : Fact). shows_made (z ∷ fs) e ≡ true) (sym is) (or_left (eqb e e) (shows_made fs e) (eq-eqb e e refl))
made_shown (g ∷ fs) e (inr k) = shown_more (g ∷ []) fs e (made_shown fs e k)

past_shown : (fs : List Fact) (e : ℕ) → Knows fs (Past e) → shows_made fs e ≡ true
past_shown [] e h = absurd h
past_shown (g ∷ fs) e (inl is) = subst (λ (z : Fact). shows_made (z ∷ fs) e ≡ true) (sym is) (or_left (eqb e e) (shows_made fs e) (eq-eqb e e refl))
past_shown (g ∷ fs) e (inr k) = shown_more (g ∷ []) fs e (past_shown fs e k)

-- An operation that was known bound to a point, which doesn't carry it, has moved on.

later : (q n : ℕ) (g : Fact) (fs : List Fact) (h : Fact) → Knows (moved_on q n fs) h → Knows (moved_on q n (g ∷ fs)) h
later q n (BoundTo f r) fs h k = by_test (eqb r q && not (carries n f))
  where
    by_test : (b : Bool) → Knows (cond b (Past f ∷ moved_on q n fs) (moved_on q n fs)) h
    by_test true = inr k
    by_test false = k
later q n (Job j s) fs h k = k
later q n (Taken f) fs h k = k
later q n (Bound f) fs h k = k
later q n (Made f) fs h k = k
later q n (Past f) fs h k = k

moved_first : (q n e : ℕ) (rest : List Fact) → carries n e ≡ false → Knows (moved_on q n (BoundTo e q ∷ rest)) (Past e)
moved_first q n e rest isnt = by_test (eqb q q && not (carries n e)) (and_from (eqb q q) (not (carries n e)) (eq-eqb q q refl) (ap not isnt)) refl
  where
    by_test : (b : Bool) → b ≡ true → (eqb q q && not (carries n e)) ≡ b → Knows (moved_on q n (BoundTo e q ∷ rest)) (Past e)
    by_test true t is = subst (λ (z : Bool). Knows (cond z (Past e ∷ moved_on q n rest) (moved_on q n rest)) (Past e)) (sym is) (inl refl)
    by_test false t is = absurd (false≢true t)

moved : (q n e : ℕ) (fs : List Fact) → carries n e ≡ false → Knows fs (BoundTo e q) → Knows (moved_on q n fs) (Past e)
moved q n e [] isnt h = absurd h
moved q n e (g ∷ fs) isnt (inl is) = subst (λ (z : Fact). Knows (moved_on q n (z ∷ fs)) (Past e)) (sym is) (moved_first q n e fs isnt)
moved q n e (g ∷ fs) isnt (inr k) = later q n g fs (Past e) (moved q n e fs isnt k)

-- The operation

pub recalled_unbound : (v : View) (e : ℕ) → ShowsNext v (recalls v e UnboundOp) e
recalled_unbound v e = record {
  new = omega arith;
  unmade = record { last = _; before = v.steps; are = refl; shows = inl (refl, refl); noted = has_here e v.unmade };
}

-- Its point

module _ (v : View) (q n e : ℕ) where
  seen_signaled : Carries n e → (parts n).signaled ≡ true → Knows (point_facts n) (Made e)
  seen_signaled c set =
      subst (λ (b : Bool). Knows (if b then (if (parts n).signaled then Made (parts n).op ∷ Taken (parts n).op ∷ [] else Taken (parts n).op ∷ []) else []) (Made e)) (sym c.held)
      (subst (λ (b : Bool). Knows (if b then Made (parts n).op ∷ Taken (parts n).op ∷ [] else Taken (parts n).op ∷ []) (Made e)) (sym set) (inl (ap Made c.op)))

  carried : carries n e ≡ true → Carries n e
  carried h = let both = and_parts (parts n).held ((parts n).op == e) h in record { held = both.0; op = eqb-true (parts n).op e both.1 }

  look_made : (not (carries n e) || (parts n).signaled) ≡ true → Knows v.known (BoundTo e q) → shows_made (sees v q n).known e ≡ true
  look_made h bound = by_test (carries n e) refl
    where
      by_test : (b : Bool) → carries n e ≡ b → shows_made (sees v q n).known e ≡ true
      by_test false isnt =
          past_shown (sees v q n).known e
          (knows_first (point_facts n ++ moved_on q n v.known) v.known (Past e) (knows_more (point_facts n) (moved_on q n v.known) (Past e) (moved q n e v.known isnt bound)))
      by_test true is =
          let set : (parts n).signaled ≡ true = elim (or_cases (not (carries n e)) (parts n).signaled h) [ inl other ↦ absurd (false≢true (sym (ap not is) ∙ other)) | inr set ↦ set ] in
          made_shown (sees v q n).known e
          (knows_first (point_facts n ++ moved_on q n v.known) v.known (Made e) (knows_first (point_facts n) (moved_on q n v.known) (Made e) (seen_signaled (carried is) set)))

  look_carries : (not (carries n e) || (parts n).signaled) ≡ false → Carries n e
  look_carries h = carried (not-false (carries n e) (or_parts (not (carries n e)) (parts n).signaled h).0)

  look_unmade : (not (carries n e) || (parts n).signaled) ≡ false → ShowsNext v (sees v q n) e
  look_unmade h =
      let unset = (or_parts (not (carries n e)) (parts n).signaled h).1 in
      let c = look_carries h in
      let shows_op : ((parts n).held && not (parts n).signaled) ≡ true = and_from (parts n).held (not (parts n).signaled) c.held (ap not unset) in
      let first : has ((parts n).op ∷ v.unmade) e ≡ true = or_left (eqb (parts n).op e) (has v.unmade e) (eq-eqb (parts n).op e c.op) in
      record {
        new = omega arith;
        unmade = record {
          last = _;
          before = v.steps;
          are = refl;
          shows = inr (q, refl, c, unset);
          noted = subst (λ (b : Bool). has ((if b then (parts n).op ∷ [] else []) ++ v.unmade) e ≡ true) (sym shows_op) first;
        };
      }

-- by the parts that the look answers
module _ (v : View) (q n e : ℕ) (word : PointParts) (said : parts n ≡ record { op = word.op; refs = word.refs; signaled = word.signaled; held = word.held }) where
  test_is : (b : Bool) → (not (word.held && (word.op == e)) || word.signaled) ≡ b → (not (carries n e) || (parts n).signaled) ≡ b
  test_is b h = subst (λ (x : PointWord). (not (x.held && (x.op == e)) || x.signaled) ≡ b) (sym said) h

  pub shows_it_made : (not (word.held && (word.op == e)) || word.signaled) ≡ true → Knows v.known (BoundTo e q) → shows_made (sees v q n).known e ≡ true
  shows_it_made h bound = look_made v q n e (test_is true h) bound

  pub shows_it_unmade : (not (word.held && (word.op == e)) || word.signaled) ≡ false → ShowsNext v (sees v q n) e
  shows_it_unmade h = look_unmade v q n e (test_is false h)

-- steps before leave it the last step
pub next_later : (u v w : View) (e : ℕ) → Grows u.steps v.steps → ShowsNext v w e → ShowsNext u w e
next_later u v w e (front, is) h =
    let size = ap length is in
    let both = length-append front u.steps in
    let new = h.new in
    record { new = omega arith; unmade = h.unmade }
