-- What an actor holds stays so, through its own references and looks and through the events of others.
use Rattle.std.proofs.Common.{◌≡◌, ℕ, ◌<◌, ◌+◌, ◌&&◌, Bool, true, false, if◌then◌else◌, List, [], ◌∷◌, Option, Some}
use Rattle.std.proofs.Common.{None, is_some, refl, sym, subst, ap, ◌∙◌, inl, inr, arith, nat_lt, ◌==◌}
use Rattle.std.specs.List.{list_any, count_by}
use Rattle.std.specs.Option.{option_map_or}
use Rattle.std.proofs.lemmas.Bool.{and_parts, or_cases, false≢true, eq-eqb, eqb-true, ne_eqb, cases_eq, cond-true}
use Rattle.std.proofs.lemmas.Bool.{cond-false}
use Rattle.vq_model.specs.declared.script.ActorName.{ActorName}
use Rattle.vq_model.specs.declared.script.ActorName.TheVariants.{Host as HostActor, Submit as SubmitActor}
use Rattle.vq_model.specs.declared.script.ActorName.TheVariants.{Ring as RingActor}
use Rattle.vq_model.specs.declared.plan.Need.{Need}
use Rattle.vq_model.specs.declared.plan.Event.TheVariants.{Refer, Look, Unref}
use Rattle.vq_model.specs.Plan.{Plan, initial, resolver}
use Rattle.vq_model.proofs.Puts.{put_here, put_there}
use Rattle.vq_model.specs.Naming.{same_actor}
use Rattle.vq_model.proofs.Actors.{same_actor_is, same_actor_self}
use Rattle.vq_point_laws.specs.Points.{PointState, Reference, next_job, resolves, count_of, is_reference, holds, with_note}
use Rattle.vq_point_laws.specs.Points.{without_first, after_event}
use Rattle.vq_turns.specs.declared.task.Task.{Task}
use Rattle.vq_turns.specs.declared.task.Task.TheVariants.{AwaitNeeds}
use Rattle.vq_turns.specs.declared.look.Holding.{Holding as Held}
use Rattle.vq_turns.specs.Turns.{held_for, with_holding}
use Rattle.vq_turn_laws.specs.Holdings.{needs_held, bit, is_holding, HoldsTruly}
use Rattle.vq_turn_laws.specs.Orders.{waited_since}
use Rattle.vq_history_laws.specs.Measure.{one}
use Rattle.vq_history_laws.proofs.Cited.{count_cons}
use Rattle.vq_turn_laws.proofs.References.{AtIndex, at_index, index_at, index_low, held_few, held_counts}

-- Lists of what is held

with_counts : (test : Held → Bool) (h : Held) (hs : List Held) →
    count_by test (with_holding h hs) ≡ one (test h) + count_by test hs
with_counts test h [] = count_cons test h []
with_counts test h (x ∷ xs) = by_test (nat_lt h.need x.need) (with_counts test h xs)
  where
    by_test : (b : Bool) → count_by test (with_holding h xs) ≡ one (test h) + count_by test xs →
        count_by test (if b then h ∷ x ∷ xs else x ∷ with_holding h xs) ≡ one (test h) + count_by test (x ∷ xs)
    by_test true r = count_cons test h (x ∷ xs)
    by_test false r = let u = count_cons test x (with_holding h xs) in let v = count_cons test x xs in omega arith

with_here : (h : Held) (hs : List Held) → held_for h.need hs ≡ None → held_for h.need (with_holding h hs) ≡ Some h
with_here h [] n = ap (λ (b : Bool). if b then Some h else None) (eq-eqb h.need h.need refl)
with_here h (x ∷ xs) n = by_test (nat_lt h.need x.need) (x.need == h.need) refl (with_here h xs)
  where
    by_test : (b c : Bool) → (x.need == h.need) ≡ c →
        (held_for h.need xs ≡ None → held_for h.need (with_holding h xs) ≡ Some h) →
        held_for h.need (if b then h ∷ x ∷ xs else x ∷ with_holding h xs) ≡ Some h
    by_test true c e f = ap (λ (b : Bool). if b then Some h else held_for h.need (x ∷ xs)) (eq-eqb h.need h.need refl)
    by_test false true e f = absurd
        (let z = sym (ap (λ (b : Bool). if b then Some x else held_for h.need xs) e) ∙ n in cc)
    by_test false false e f =
        ap (λ (b : Bool). if b then Some x else held_for h.need (with_holding h xs)) e ∙ f
        (sym (ap (λ (b : Bool). if b then Some x else held_for h.need xs) e) ∙ n)

with_there : (h : Held) (hs : List Held) (k : ℕ) → (k ≡ h.need → ⊥) → held_for k (with_holding h hs) ≡ held_for k hs
with_there h [] k n = ap (λ (b : Bool). if b then Some h else None) (ne_eqb h.need k (λ e. n (sym e)))
with_there h (x ∷ xs) k n = by_test (nat_lt h.need x.need) (with_there h xs k n)
  where
    by_test : (b : Bool) → held_for k (with_holding h xs) ≡ held_for k xs →
        held_for k (if b then h ∷ x ∷ xs else x ∷ with_holding h xs) ≡ held_for k (x ∷ xs)
    by_test true r = ap (λ (b : Bool). if b then Some h else held_for k (x ∷ xs)) (ne_eqb h.need k (λ e. n (sym e)))
    by_test false r = ap (λ o. if x.need == k then Some x else o) r

same_index : (k : ℕ) (ns : List Need) (i : ℕ) (m n : Need) → AtIndex k ns i m → AtIndex k ns i n → m ≡ n
same_index k [] i m n a b = absurd a
same_index k (x ∷ xs) i m n (inl a) (inl b) = sym a.1 ∙ b.1
same_index k (x ∷ xs) i m n (inl a) (inr b) = absurd (let s = a.0 in let r = index_low (k + 1) xs i n b in omega arith)
same_index k (x ∷ xs) i m n (inr a) (inl b) = absurd (let s = b.0 in let r = index_low (k + 1) xs i m a in omega arith)
same_index k (x ∷ xs) i m n (inr a) (inr b) = same_index (k + 1) xs i m n a b

module _ (p : Plan) (e : ℕ) (h : Held) (hs : List Held) where
  held_above : (k : ℕ) (ns : List Need) → h.need < k → needs_held p e (with_holding h hs) k ns ≡ needs_held p e hs k ns
  held_above k [] l = refl
  held_above k (n ∷ ns) l =
      let r = held_above (k + 1) ns (omega arith) in
      let s : bit (is_some (held_for k (with_holding h hs)) && resolves p e n) ≡ bit
      (is_some (held_for k hs) && resolves p e n) = ap (λ o. bit (is_some o && resolves p e n))
      (with_there h hs k (λ q. omega arith)) in
      omega arith

  held_more : (k : ℕ) (ns : List Need) (n : Need) → held_for h.need hs ≡ None → AtIndex k ns h.need n →
      needs_held p e (with_holding h hs) k ns ≡ needs_held p e hs k ns + bit (resolves p e n)
  held_more k [] n none m = absurd m
  held_more k (x ∷ xs) n none (inl i) =
      let r = held_above (k + 1) xs (let s = i.0 in omega arith) in
      let new : bit (is_some (held_for k (with_holding h hs)) && resolves p e x) ≡ bit (resolves p e n) = ap
      (λ (z : ℕ). bit (is_some (held_for z (with_holding h hs)) && resolves p e x)) i.0 ∙
      (ap (λ o. bit (is_some o && resolves p e x)) (with_here h hs none) ∙ ap
      (λ (z : Need). bit (resolves p e z)) i.1) in
      let old : bit (is_some (held_for k hs) && resolves p e x) ≡ 0 = ap
      (λ (z : ℕ). bit (is_some (held_for z hs) && resolves p e x)) i.0 ∙ ap
      (λ o. bit (is_some o && resolves p e x)) none in
      omega arith
  held_more k (x ∷ xs) n none (inr m) =
      let r = held_more (k + 1) xs n none m in
      let low = index_low (k + 1) xs h.need n m in
      let s : bit (is_some (held_for k (with_holding h hs)) && resolves p e x) ≡ bit
      (is_some (held_for k hs) && resolves p e x) = ap (λ o. bit (is_some o && resolves p e x))
      (with_there h hs k (λ q. omega arith)) in
      omega arith

-- References in the world

none_left : (a : ActorName) (q e : ℕ) (f r : ℕ) (x : Reference) → is_reference a q e x ≡ true →
    is_reference a f r x ≡ ((f == q) && (r == e))
none_left a q e f r x h =
    let outer = and_parts (same_actor a x.actor && (q == x.point)) (e == x.op) h in
    let inner = and_parts (same_actor a x.actor) (q == x.point) outer.0 in
    ap (λ b. b && (f == x.point) && (r == x.op)) inner.0
    ∙ (ap (λ (z : ℕ). (f == z) && (r == x.op)) (sym (eqb-true q x.point inner.1)) ∙ ap (λ (z : ℕ). (f == q) && (r == z))
    (sym (eqb-true e x.op outer.1)))

less_counts : (test other : Reference → Bool) (v : Bool) → ((x : Reference) → test x ≡ true → other x ≡ v) →
    (rs : List Reference) → list_any test rs ≡ true → count_by other rs ≡ one v + count_by other (without_first test rs)
less_counts test other v f [] m = absurd (false≢true m)
less_counts test other v f (x ∷ xs) m = by_test (test x) refl (less_counts test other v f xs)
  where
    by_test : (b : Bool) → test x ≡ b →
        (list_any test xs ≡ true → count_by other xs ≡ one v + count_by other (without_first test xs)) →
        count_by other (x ∷ xs) ≡ one v + count_by other (without_first test (x ∷ xs))
    by_test true e g =
        let u = count_cons other x xs in
        let o : one (other x) ≡ one v = ap one (f x e) in
        let c : count_by other (without_first test (x ∷ xs)) ≡ count_by other xs = ap (count_by other)
        (cond-true (test x) xs (x ∷ without_first test xs) e) in
        omega arith
    by_test false e g =
        let u = count_cons other x xs in
        let c : count_by other (without_first test (x ∷ xs)) ≡ count_by other (x ∷ without_first test xs) = ap
        (count_by other) (cond-false (test x) xs (x ∷ without_first test xs) e) in
        let d = count_cons other x (without_first test xs) in
        let r = g (elim (or_cases (test x) (list_any test xs) m)
        [ inl t ↦ absurd (false≢true (sym e ∙ t)) | inr t ↦ t ]) in
        omega arith

noted_count : (p : Plan) (w : PointState) (notes : ℕ → List ℕ) (a : ActorName) (j e f : ℕ) → next_job p w a ≡ Some j →
    count_of (with_note notes (next_job p w a) e j) f ≡ one (e == f) + count_of (notes j) f
noted_count p w notes a j e f h =
    ap (λ xs. count_of xs f) (ap (λ o. with_note notes o e j) h ∙ put_here notes j (e ∷ notes j)) ∙ count_cons
    (λ y. y == f) e (notes j)

pub noted_away : (p : Plan) (w : PointState) (notes : ℕ → List ℕ) (a : ActorName) (e j f : ℕ) →
    (next_job p w a ≡ Some j → ⊥) → count_of (with_note notes (next_job p w a) e j) f ≡ count_of (notes j) f
noted_away p w notes a e j f n = by_next (next_job p w a) n
  where
    by_next : (o : Option ℕ) → (o ≡ Some j → ⊥) → count_of (with_note notes o e j) f ≡ count_of (notes j) f
    by_next None n = refl
    by_next (Some i) n = ap (λ xs. count_of xs f) (put_there notes i (e ∷ notes i) j (λ s. n (ap Some (sym s))))

-- An actor's own events while it waits

module _ (p : Plan) (w : PointState) (a : ActorName) (before : List Task) (j : ℕ) (ns : List Need)
    (holding : List Held) where
  -- A reference more.
  pub after_refer : HoldsTruly p w a before j ns holding false → (i q e : ℕ) (n : Need) → AtIndex 0 ns i n →
      held_for i holding ≡ None → resolver p n.chain n.value ≡ Some e → initial p n.chain < n.value →
      next_job p w a ≡ Some j → HoldsTruly p (after_event p w (Refer a q e)) a before j ns
      (with_holding (record { need = i; point = q; op = e }) holding) false
  after_refer t i q e n at none res over nxt =
      record {
        tie = λ f r.
            let u = count_cons (is_reference a f r) new_reference w.held in
            let v = with_counts (is_holding f r) new holding in
            let s : one (is_reference a f r new_reference) ≡ one (is_holding f r new) = ap
            (λ b. one (b && (f == q) && (r == e))) (same_actor_self a) in
            let old = t.tie f r in
            omega arith;
        of_need = λ m k h is x at'. elim (cases_eq k i) [
          | inl s ↦
              let same : new ≡ h = let z = sym (with_here new holding none) ∙ subst
              (λ (y : ℕ). held_for y (with_holding new holding) ≡ Some h) s is in cc in
              let one_need : n ≡ x = same_index 0 ns i n x at
              (subst (λ (y : ℕ). AtIndex 0 ns y x) s (at_index ns k x at')) in
              ap (λ (z : Need). resolver p z.chain z.value) (sym one_need) ∙ (res ∙ ap (λ (z : Held). Some z.op) same)
          | inr d ↦ t.of_need refl k h (sym (with_there new holding k d) ∙ is) x at'
        ];
        above = λ m k h is x at'. elim (cases_eq k i) [
          | inl s ↦
              let one_need : n ≡ x = same_index 0 ns i n x at
              (subst (λ (y : ℕ). AtIndex 0 ns y x) s (at_index ns k x at')) in
              subst (λ (z : Need). initial p z.chain < z.value) one_need over
          | inr d ↦ t.above refl k h (sym (with_there new holding k d) ∙ is) x at'
        ];
        referred = λ f.
            let c = noted_count p w w.referred a j e f nxt in
            let m = held_more p f new holding 0 ns n none at in
            let o = t.referred f in
            let s = bits f in
            omega arith;
        looked = λ f.
            let c = noted_count p w w.referred a j e f nxt in
            let m = held_more p f new holding 0 ns n none at in
            let o = t.looked f in
            let s = bits f in
            omega arith;
      }
    where
      new : Held
      new = record { need = i; point = q; op = e }

      new_reference : Reference
      new_reference = record { actor = a; point = q; op = e }

      bits : (f : ℕ) → bit (resolves p f n) ≡ one (e == f)
      bits f = ap (λ o. bit (option_map_or (λ z. z == f) o false)) res

  -- A look that sees its signal ends the waiting.
  pub after_look : HoldsTruly p w a before j ns holding false → (i : ℕ) (n : Need) (h : Held) → AtIndex 0 ns i n →
      held_for i holding ≡ Some h → next_job p w a ≡ Some j →
      HoldsTruly p (after_event p w (Look a h.point h.op)) a before j ns holding true
  after_look t i n h at is nxt =
      record {
        tie = t.tie;
        of_need = λ m. absurd (false≢true (sym m));
        above = λ m. absurd (false≢true (sym m));
        referred = λ f. let o = t.referred f in let m = held_few p f holding 0 ns in omega arith;
        looked = λ f.
            let c = noted_count p w w.looked a j h.op f nxt in
            let o = t.looked f in
            elim (cases_eq h.op f) [
              | inl s ↦
                  let counts = held_counts p f holding 0 ns i n at (ap is_some is)
                  (ap (λ o. option_map_or (λ z. z == f) o false) (t.of_need refl i h is n (index_at ns i n at))
                  ∙ eq-eqb h.op f s) in
                  let one_ : one (h.op == f) ≡ 1 = ap one (eq-eqb h.op f s) in
                  omega arith
              | inr d ↦ let none : one (h.op == f) ≡ 0 = ap one (ne_eqb h.op f d) in omega arith
            ];
      }

  -- So does a value that is past.
  pub meets : HoldsTruly p w a before j ns holding false → HoldsTruly p w a before j ns holding true
  meets t =
      record {
        tie = t.tie;
        of_need = λ m. absurd (false≢true (sym m));
        above = λ m. absurd (false≢true (sym m));
        referred = λ f. let o = t.referred f in let m = held_few p f holding 0 ns in omega arith;
        looked = λ f. let o = t.looked f in omega arith;
      }

-- A reference less.
pub after_unref : (p : Plan) (w : PointState) (a : ActorName) (before : List Task) (j : ℕ) (ns : List Need) (h : Held)
    (hs : List Held) → HoldsTruly p w a before j ns (h ∷ hs) true → holds w a h.point h.op ≡ true →
    HoldsTruly p (after_event p w (Unref a h.point h.op)) a before j ns hs true
after_unref p w a before j ns h hs t held =
    record {
      tie = λ f r.
          let u = less_counts (is_reference a h.point h.op) (is_reference a f r) ((f == h.point) && (r == h.op))
          (none_left a h.point h.op f r) w.held held in
          let v = count_cons (is_holding f r) h hs in
          let old = t.tie f r in
          omega arith;
      of_need = λ m. absurd (false≢true (sym m));
      above = λ m. absurd (false≢true (sym m));
      referred = t.referred;
      looked = t.looked;
    }

-- Where nothing is held any more the waiting is done.
pub leaves_wait : (p : Plan) (w : PointState) (a : ActorName) (before : List Task) (j : ℕ) (ns : List Need) →
    HoldsTruly p w a before j ns [] true → HoldsTruly p w a (AwaitNeeds ns ∷ before) j [] [] false
leaves_wait p w a before j ns t =
    record {
      tie = t.tie;
      of_need = λ m k h is n at. absurd (let z = at in cc);
      above = λ m k h is n at. absurd (let z = at in cc);
      referred = λ f. let o = t.referred f in omega arith;
      looked = λ f. let o = t.looked f in omega arith;
    }

-- A wait begins.
pub enters_wait : (p : Plan) (w : PointState) (a : ActorName) (before : List Task) (j : ℕ) (ns : List Need) →
    HoldsTruly p w a before j [] [] false → HoldsTruly p w a before j ns [] false
enters_wait p w a before j ns t =
    record {
      tie = t.tie;
      of_need = λ m k h is. absurd (let z = is in cc);
      above = λ m k h is. absurd (let z = is in cc);
      referred = λ f. let o = t.referred f in omega arith;
      looked = λ f. let o = t.looked f in let z = zero_held f 0 ns in omega arith;
    }
  where
    zero_held : (f k : ℕ) (ms : List Need) → needs_held p f [] k ms ≡ 0
    zero_held f k [] = refl
    zero_held f k (m ∷ ms) = let r = zero_held f (k + 1) ms in omega arith

-- The events of others

module _ (p : Plan) (w : PointState) (a b : ActorName) (before : List Task) (j : ℕ) (ns : List Need)
    (holding : List Held) (met : Bool) (t : HoldsTruly p w a before j ns holding met)
    (other : same_actor a b ≡ false) where
  pub other_refers : (q e : ℕ) → (next_job p w b ≡ Some j → ⊥) →
      HoldsTruly p (after_event p w (Refer b q e)) a before j ns holding met
  other_refers q e n =
      record {
        tie = λ f r.
            let u = count_cons (is_reference a f r) (record { actor = b; point = q; op = e }) w.held in
            let s : one (is_reference a f r (record { actor = b; point = q; op = e })) ≡ 0 = ap
            (λ c. one (c && (f == q) && (r == e))) other in
            let old = t.tie f r in
            omega arith;
        of_need = t.of_need;
        above = t.above;
        referred = λ f. let c = noted_away p w w.referred b e j f n in let o = t.referred f in omega arith;
        looked = λ f. let c = noted_away p w w.referred b e j f n in let o = t.looked f in omega arith;
      }

  pub other_looks : (q e : ℕ) → (next_job p w b ≡ Some j → ⊥) →
      HoldsTruly p (after_event p w (Look b q e)) a before j ns holding met
  other_looks q e n =
      record {
        tie = t.tie;
        of_need = t.of_need;
        above = t.above;
        referred = t.referred;
        looked = λ f. let c = noted_away p w w.looked b e j f n in let o = t.looked f in omega arith;
      }

  pub other_unrefers : (q e : ℕ) → holds w b q e ≡ true →
      HoldsTruly p (after_event p w (Unref b q e)) a before j ns holding met
  other_unrefers q e held =
      record {
        tie = λ f r.
            let u = less_counts (is_reference b q e) (is_reference a f r) false
            (λ x h. not_mine f r x
            (and_parts (same_actor b x.actor) (q == x.point)
            (and_parts (same_actor b x.actor && (q == x.point)) (e == x.op) h).0).0) w.held held in
            let old = t.tie f r in
            omega arith;
        of_need = t.of_need;
        above = t.above;
        referred = t.referred;
        looked = t.looked;
      }
    where
      not_mine : (f r : ℕ) (x : Reference) → same_actor b x.actor ≡ true → is_reference a f r x ≡ false
      not_mine f r x h = ap (λ c. c && (f == x.point) && (r == x.op))
          (subst (λ (z : ActorName). same_actor a z ≡ false) (same_actor_is b x.actor h) other)

-- Between waits

-- events that leave references as they are, and tasks that wait for no needs
pub same_references : (p : Plan) (w v : PointState) (a : ActorName) (before : List Task) (j : ℕ) (ns : List Need)
    (holding : List Held) (met : Bool) → v.held ≡ w.held → v.referred ≡ w.referred → v.looked ≡ w.looked →
    HoldsTruly p w a before j ns holding met → HoldsTruly p v a before j ns holding met
same_references p w v a before j ns holding met h r l t =
    record {
      tie = λ q e. ap (count_by (is_reference a q e)) h ∙ t.tie q e;
      of_need = t.of_need;
      above = t.above;
      referred = λ e. let x : count_of (v.referred j) e ≡ count_of (w.referred j) e = ap
          (λ (f : ℕ → List ℕ). count_of (f j) e) r in let o = t.referred e in omega arith;
      looked = λ e.
          let x : count_of (v.referred j) e ≡ count_of (w.referred j) e = ap (λ (f : ℕ → List ℕ). count_of (f j) e) r in
          let y : count_of (v.looked j) e ≡ count_of (w.looked j) e = ap (λ (f : ℕ → List ℕ). count_of (f j) e) l in
          let o = t.looked e in
          omega arith;
    }

pub passes_task : (p : Plan) (w : PointState) (a : ActorName) (t : Task) (before : List Task) (j : ℕ) →
    ((e : ℕ) → waited_since p e (t ∷ before) ≡ waited_since p e before) → HoldsTruly p w a before j [] [] false →
    HoldsTruly p w a (t ∷ before) j [] [] false
passes_task p w a t before j same k =
    record {
      tie = k.tie;
      of_need = k.of_need;
      above = k.above;
      referred = λ e. let s = same e in let o = k.referred e in omega arith;
      looked = k.looked;
    }
