-- Every history keeps the pending law.
use Rattle.std.proofs.Common.{◌≡◌, ℕ, true, List, is_some, Bool, [], ◌∷◌, refl, ap, ◌∙◌, inl, inr, false, Some, sym, not, ◌&&◌, ◌||◌, cond, eqb, leb, Option, None}
use Rattle.vq_model.specs.declared.plan.Event.{Event}
use Rattle.vq_point_laws.specs.Points.{PointState, CanRelease, CanBind, after_event, CanCome, HistoryFrom, opening_points}
use Rattle.vq_point_laws.specs.HistoryLaws.{came, releases, binds, takes_for, starts, is_pending_at, ReleasesInTime, BindsInTime, KeepsPending, AfterEach, PendingLaw}
use Rattle.std.specs.List.{list_all, list_any}
use Rattle.std.proofs.lemmas.Bool.{and_parts, and_from, or_left, or_right, false≢true, eq-eqb, or_cases, not-true, cases_eq}
use Rattle.vq_model.specs.Plan.{Plan, needs, waits_for_any, chain, chain_of, initial, value, resolver, is_host_step, is_batch}
use Rattle.vq_ground.specs.Lists.{has}
use Rattle.vq_ground.proofs.Lists.{has_here, has-append_right, any_has, all_weaker}
use Rattle.std.specs.Option.{option_map_or}
use Rattle.vq_model.specs.declared.script.ActorName.{ActorName}
use Rattle.vq_model.specs.declared.plan.Answer.{Answer as AnswerTo}
use Rattle.vq_model.specs.declared.plan.Need.{Need}
use Rattle.vq_model.specs.declared.plan.Event.TheVariants.{Submit, Take, Release, Bind, Refer, Look, Unref, Complete, Free, Start, Apply, Signal, Finish, Answer}
use Rattle.vq_model.specs.WellFormed.{IsWellFormed}
use Rattle.vq_model.specs.Machine.{with_signal}
use Rattle.std.specs.Prelude.{nat_lt, length}
use Rattle.vq_model.proofs.Puts.{put_there, put_cases}
use Rattle.vq_ground.proofs.Searches.{find_splits, find_passes}

-- the world, and what came before it
record Comes (h : List Event) (w : PointState) : Type 0 where
  released : (j : ℕ) → w.released j ≡ true → came (releases j) h ≡ true
  bound : (e : ℕ) → w.bound e ≡ true → came (binds e) h ≡ true
  taken : (e : ℕ) → is_some (w.point_of e) ≡ true → came (takes_for e) h ≡ true
  started : (j : ℕ) → w.machine.progress.started j ≡ true → came (starts j) h ≡ true

module _ (p : Plan) (h : List Event) (w : PointState) (k : Comes h w) where
  -- a need whose resolver is bound is pending
  need_pending : (n : Need) → (leb n.value (initial p n.chain) || option_map_or w.bound (resolver p n.chain n.value) false) ≡ true → is_pending_at p h n ≡ true
  need_pending n a =
      elim (or_cases (leb n.value (initial p n.chain)) (option_map_or w.bound (resolver p n.chain n.value) false) a) [
        | inl i ↦ or_left (leb n.value (initial p n.chain)) (list_any (λ e. leb n.value (value p e) && came (binds e) h) (chain p n.chain)) i
        | inr i ↦ or_right (leb n.value (initial p n.chain)) (list_any (λ e. leb n.value (value p e) && came (binds e) h) (chain p n.chain)) (by_resolver (resolver p n.chain n.value) refl i)
      ]
    where
      by_resolver : (o : Option ℕ) → resolver p n.chain n.value ≡ o → option_map_or w.bound o false ≡ true → list_any (λ e. leb n.value (value p e) && came (binds e) h) (chain p n.chain) ≡ true
      by_resolver None e b = absurd (false≢true b)
      by_resolver (Some r) e b =
          let f = find_splits (λ x. leb n.value (value p x)) (chain p n.chain) r e in
          any_has (λ x. leb n.value (value p x) && came (binds x) h) (chain p n.chain) r
          (ap (λ zs. has zs r) f.whole ∙ has-append_right f.front (r ∷ f.back) r (has_here r f.back))
          (and_from (leb n.value (value p r)) (came (binds r) h) (find_passes (λ x. leb n.value (value p x)) (chain p n.chain) r e) (k.bound r b))

  release_law : IsWellFormed p → (j : ℕ) → CanRelease p w j → ReleasesInTime p h j
  release_law wf j g =
      let a = wf.waits_for_all j (host_not j g.batch) in
      record {
        batch = g.batch;
        in_order = all_weaker w.released (λ i. came (releases i) h) _ k.released g.in_order;
        taken = all_weaker (λ e. is_some (w.point_of e)) (λ e. came (takes_for e) h) _ k.taken g.taken;
        needs = all_weaker (λ n. leb n.value (initial p n.chain) || option_map_or w.bound (resolver p n.chain n.value) false) (is_pending_at p h) (needs p j) need_pending
            (elim (or_cases (waits_for_any p j) (list_all (λ n. leb n.value (initial p n.chain) || option_map_or w.bound (resolver p n.chain n.value) false) (needs p j)) g.needs) [
              | inl i ↦ absurd (false≢true (sym a ∙ i))
              | inr i ↦ i
            ]);
      }
    where
      host_not : (j : ℕ) → is_batch p j ≡ true → is_host_step p j ≡ false
      host_not j b = not-true (is_host_step p j) (and_parts (nat_lt j (length p.jobs)) (not (is_host_step p j)) b).1

  bind_law : (e q : ℕ) → CanBind p w e q → BindsInTime p h e
  bind_law e q g =
      record {
        job = g.job;
        of_job = g.of_job;
        chain = g.chain;
        in_chain = g.in_chain;
        in_order = all_weaker w.bound (λ f. came (binds f) h) _ k.bound g.in_order;
        ready = by_lane (is_host_step p g.job) g.ready;
      }
    where
      by_lane : (b : Bool) → cond b (w.machine.progress.started g.job) (w.released g.job) ≡ true → cond b (came (starts g.job) h) (came (releases g.job) h) ≡ true
      by_lane true r = k.started g.job r
      by_lane false r = k.released g.job r

  comes_submit : (j : ℕ) → Comes (Submit j ∷ h) (after_event p w (Submit j))
  comes_submit j = record { released = k.released; bound = k.bound; taken = k.taken; started = k.started }

  comes_refer : (a : ActorName) (q e : ℕ) → Comes (Refer a q e ∷ h) (after_event p w (Refer a q e))
  comes_refer a q e = record { released = k.released; bound = k.bound; taken = k.taken; started = k.started }

  comes_look : (a : ActorName) (q e : ℕ) → Comes (Look a q e ∷ h) (after_event p w (Look a q e))
  comes_look a q e = record { released = k.released; bound = k.bound; taken = k.taken; started = k.started }

  comes_unrefer : (a : ActorName) (q e : ℕ) → Comes (Unref a q e ∷ h) (after_event p w (Unref a q e))
  comes_unrefer a q e = record { released = k.released; bound = k.bound; taken = k.taken; started = k.started }

  comes_complete : (e : ℕ) → Comes (Complete e ∷ h) (after_event p w (Complete e))
  comes_complete e = record { released = k.released; bound = k.bound; taken = k.taken; started = k.started }

  comes_free : (q : ℕ) → Comes (Free q ∷ h) (after_event p w (Free q))
  comes_free q = record { released = k.released; bound = k.bound; taken = k.taken; started = k.started }

  comes_apply : (j c : ℕ) → Comes (Apply j c ∷ h) (after_event p w (Apply j c))
  comes_apply j c = record { released = k.released; bound = k.bound; taken = k.taken; started = k.started }

  comes_finish : (j : ℕ) → Comes (Finish j ∷ h) (after_event p w (Finish j))
  comes_finish j = record { released = k.released; bound = k.bound; taken = k.taken; started = k.started }

  comes_answer : (j : ℕ) (a : AnswerTo) → Comes (Answer j a ∷ h) (after_event p w (Answer j a))
  comes_answer j a = record { released = k.released; bound = k.bound; taken = k.taken; started = k.started }

  comes_signal : (e : ℕ) → Comes (Signal e ∷ h) (after_event p w (Signal e))
  comes_signal e = record { released = k.released; bound = k.bound; taken = k.taken; started = λ j s. by_chain (chain_of p e) j s }
    where
      by_chain : (o : Option ℕ) → (j : ℕ) → (with_signal p w.machine.progress e o).started j ≡ true → came (starts j) h ≡ true
      by_chain None j s = k.started j s
      by_chain (Some t) j s = k.started j s

  comes_release : (j : ℕ) → Comes (Release j ∷ h) (after_event p w (Release j))
  comes_release j =
      record {
        released = λ i s. elim (put_cases w.released j i s) [ inl e ↦ or_left (eqb i j) (came (releases i) h) (eq-eqb i j e) | inr o ↦ or_right (eqb i j) (came (releases i) h) (k.released i o) ];
        bound = k.bound;
        taken = k.taken;
        started = k.started;
      }

  comes_bind : (e q : ℕ) → Comes (Bind e q ∷ h) (after_event p w (Bind e q))
  comes_bind e q =
      record {
        released = k.released;
        bound = λ f s. elim (put_cases w.bound e f s) [ inl i ↦ or_left (eqb f e) (came (binds f) h) (eq-eqb f e i) | inr o ↦ or_right (eqb f e) (came (binds f) h) (k.bound f o) ];
        taken = k.taken;
        started = k.started;
      }

  comes_take : (e q : ℕ) (fresh : Bool) → Comes (Take e q fresh ∷ h) (after_event p w (Take e q fresh))
  comes_take e q fresh =
      record {
        released = k.released;
        bound = k.bound;
        taken = λ f s. elim (cases_eq f e) [
          | inl i ↦ or_left (eqb f e) (came (takes_for f) h) (eq-eqb f e i)
          | inr n ↦ or_right (eqb f e) (came (takes_for f) h) (k.taken f (sym (ap (λ (o : Option ℕ). is_some o) (put_there w.point_of e (Some q) f n)) ∙ s))
        ];
        started = k.started;
      }

  comes_start : (j : ℕ) → Comes (Start j ∷ h) (after_event p w (Start j))
  comes_start j =
      record {
        released = k.released;
        bound = k.bound;
        taken = k.taken;
        started = λ i s. elim (put_cases w.machine.progress.started j i s) [ inl e ↦ or_left (eqb i j) (came (starts i) h) (eq-eqb i j e) | inr o ↦ or_right (eqb i j) (came (starts i) h) (k.started i o) ];
      }

one_event : (p : Plan) → IsWellFormed p → (h : List Event) (w : PointState) (x : Event) → Comes h w → CanCome p w x → KeepsPending p h x × Comes (x ∷ h) (after_event p w x)
one_event p wf h w (Submit j) k g = (tt, comes_submit p h w k j)
one_event p wf h w (Refer a q e) k g = (tt, comes_refer p h w k a q e)
one_event p wf h w (Look a q e) k g = (tt, comes_look p h w k a q e)
one_event p wf h w (Unref a q e) k g = (tt, comes_unrefer p h w k a q e)
one_event p wf h w (Complete e) k g = (tt, comes_complete p h w k e)
one_event p wf h w (Free q) k g = (tt, comes_free p h w k q)
one_event p wf h w (Apply j c) k g = (tt, comes_apply p h w k j c)
one_event p wf h w (Finish j) k g = (tt, comes_finish p h w k j)
one_event p wf h w (Answer j a) k g = (tt, comes_answer p h w k j a)
one_event p wf h w (Signal e) k g = (tt, comes_signal p h w k e)
one_event p wf h w (Take e q fresh) k g = (tt, comes_take p h w k e q fresh)
one_event p wf h w (Start j) k g = (tt, comes_start p h w k j)
one_event p wf h w (Release j) k g = (release_law p h w k wf j g, comes_release p h w k j)
one_event p wf h w (Bind e q) k g = (bind_law p h w k e q g, comes_bind p h w k e q)

all_events : (p : Plan) → IsWellFormed p → (h : List Event) (w : PointState) (xs : List Event) → Comes h w → HistoryFrom p w xs → AfterEach (KeepsPending p) h xs
all_events p wf h w [] k r = tt
all_events p wf h w (x ∷ xs) k r = let one = one_event p wf h w x k r.0 in (one.0, all_events p wf (x ∷ h) (after_event p w x) xs one.1 r.1)

pub keeps_pending_law : (p : Plan) → IsWellFormed p → (history : List Event) → HistoryFrom p (opening_points p) history → PendingLaw p history
keeps_pending_law p wf history r =
    all_events p wf [] (opening_points p) history (record { released = λ j s. absurd (false≢true s); bound = λ e s. absurd (false≢true s); taken = λ e s. absurd (false≢true s); started = λ j s. absurd (false≢true s) }) r
