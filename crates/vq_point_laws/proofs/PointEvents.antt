-- Events that leave points and references as they are.
use Rattle.std.proofs.Common.{◌≡◌, ℕ, ◌+◌, ◌≤◌, Bool, true, false, not, ◌&&◌, cond, eqb, List, ◌∷◌, Option, Some, None, refl, sym, ap, ◌∙◌, ◌⊎◌, inl, inr, subst, arith, ◌==◌}
use Rattle.std.specs.List.{list_any}
use Rattle.std.proofs.lemmas.Bool.{eqb-true, eqb-false, eq-eqb, ne_eqb, or_cases, or_left, or_right, and_parts, and_from, false≢true, cases_Bool, cases_eq, cond-true, cond-false, not-true}
use Rattle.std.proofs.lemmas.Option.{same_Some}
use Rattle.vq_model.specs.declared.script.ActorName.{ActorName}
use Rattle.vq_model.specs.declared.plan.Answer.{Answer as AnswerTo}
use Rattle.vq_model.specs.declared.plan.Event.{Event}
use Rattle.vq_model.specs.declared.plan.Event.TheVariants.{Submit, Take, Release, Bind, Refer, Look, Unref, Complete, Free, Start, Apply, Signal, Finish, Answer}
use Rattle.vq_model.specs.Plan.{Plan, chain_of}
use Rattle.vq_ground.specs.Lists.{has}
use Rattle.vq_model.specs.Machine.{with_signal, put}
use Rattle.vq_point_laws.specs.Points.{PointState, at_option, holds, is_pending, is_reference, without_first, after_event}
use Rattle.vq_point_laws.specs.HistoryLaws.{came, signals, completes, last_take, stands_free, was_freed_later, refers_since, unrefers_since, made_points, is_on_chain, carried_when_referred}
use Rattle.vq_ground.proofs.Lists.{has_here, has_there, has_cases}
use Rattle.vq_model.proofs.Puts.{put_here, put_there, put_cases, put_keeps}
use Rattle.vq_model.specs.Naming.{same_actor}
use Rattle.vq_point_laws.proofs.PointFacts.{held_at, Latest, Waits, Links, none_some, latest_by, none_held, held_point, fewer_held, same_held, still_held}

-- Events that leave points and references as they are

module _ (p : Plan) (h : List Event) (w : PointState) (k : Links p h w) where
  pub after_submit : (j : ℕ) → Links p (Submit j ∷ h) (after_event p w (Submit j))
  after_submit j =
      record {
        points = k.points;
        beyond = k.beyond;
        carries = k.carries;
        dropped = k.dropped;
        free_in = k.free_in;
        free_out = k.free_out;
        free_order = λ t. latest_by h (Submit j ∷ h) (w.free t) (λ x r m n f. f) (k.free_order t);
        waits = λ x g. let v = k.waits x g in record { op = v.op; carried = v.carried; past = v.past; signaled = v.signaled; completed = v.completed };
        pending = k.pending;
        made = k.made;
        referred = λ b x f g. k.referred b x f g;
        held_carries = λ b x f g. k.held_carries b x f g;
        counts = k.counts;
        idle = k.idle;
      }

  pub after_release : (j : ℕ) → Links p (Release j ∷ h) (after_event p w (Release j))
  after_release j =
      record {
        points = k.points;
        beyond = k.beyond;
        carries = k.carries;
        dropped = k.dropped;
        free_in = k.free_in;
        free_out = k.free_out;
        free_order = λ t. latest_by h (Release j ∷ h) (w.free t) (λ x r m n f. f) (k.free_order t);
        waits = λ x g. let v = k.waits x g in record { op = v.op; carried = v.carried; past = v.past; signaled = v.signaled; completed = v.completed };
        pending = k.pending;
        made = k.made;
        referred = λ b x f g. k.referred b x f g;
        held_carries = λ b x f g. k.held_carries b x f g;
        counts = k.counts;
        idle = k.idle;
      }

  pub after_bind : (e q : ℕ) → Links p (Bind e q ∷ h) (after_event p w (Bind e q))
  after_bind e q =
      record {
        points = k.points;
        beyond = k.beyond;
        carries = k.carries;
        dropped = k.dropped;
        free_in = k.free_in;
        free_out = k.free_out;
        free_order = λ t. latest_by h (Bind e q ∷ h) (w.free t) (λ x r m n f. f) (k.free_order t);
        waits = λ x g. let v = k.waits x g in record { op = v.op; carried = v.carried; past = v.past; signaled = v.signaled; completed = v.completed };
        pending = k.pending;
        made = k.made;
        referred = λ b x f g. k.referred b x f g;
        held_carries = λ b x f g. k.held_carries b x f g;
        counts = k.counts;
        idle = k.idle;
      }

  pub after_look : (a : ActorName) (q e : ℕ) → Links p (Look a q e ∷ h) (after_event p w (Look a q e))
  after_look a q e =
      record {
        points = k.points;
        beyond = k.beyond;
        carries = k.carries;
        dropped = k.dropped;
        free_in = k.free_in;
        free_out = k.free_out;
        free_order = λ t. latest_by h (Look a q e ∷ h) (w.free t) (λ x r m n f. f) (k.free_order t);
        waits = λ x g. let v = k.waits x g in record { op = v.op; carried = v.carried; past = v.past; signaled = v.signaled; completed = v.completed };
        pending = k.pending;
        made = k.made;
        referred = λ b x f g. k.referred b x f g;
        held_carries = λ b x f g. k.held_carries b x f g;
        counts = k.counts;
        idle = k.idle;
      }

  pub after_start : (j : ℕ) → Links p (Start j ∷ h) (after_event p w (Start j))
  after_start j =
      record {
        points = k.points;
        beyond = k.beyond;
        carries = k.carries;
        dropped = k.dropped;
        free_in = k.free_in;
        free_out = k.free_out;
        free_order = λ t. latest_by h (Start j ∷ h) (w.free t) (λ x r m n f. f) (k.free_order t);
        waits = λ x g. let v = k.waits x g in record { op = v.op; carried = v.carried; past = v.past; signaled = v.signaled; completed = v.completed };
        pending = k.pending;
        made = k.made;
        referred = λ b x f g. k.referred b x f g;
        held_carries = λ b x f g. k.held_carries b x f g;
        counts = k.counts;
        idle = k.idle;
      }

  pub after_apply : (j c : ℕ) → Links p (Apply j c ∷ h) (after_event p w (Apply j c))
  after_apply j c =
      record {
        points = k.points;
        beyond = k.beyond;
        carries = k.carries;
        dropped = k.dropped;
        free_in = k.free_in;
        free_out = k.free_out;
        free_order = λ t. latest_by h (Apply j c ∷ h) (w.free t) (λ x r m n f. f) (k.free_order t);
        waits = λ x g. let v = k.waits x g in record { op = v.op; carried = v.carried; past = v.past; signaled = v.signaled; completed = v.completed };
        pending = k.pending;
        made = k.made;
        referred = λ b x f g. k.referred b x f g;
        held_carries = λ b x f g. k.held_carries b x f g;
        counts = k.counts;
        idle = k.idle;
      }

  pub after_finish : (j : ℕ) → Links p (Finish j ∷ h) (after_event p w (Finish j))
  after_finish j =
      record {
        points = k.points;
        beyond = k.beyond;
        carries = k.carries;
        dropped = k.dropped;
        free_in = k.free_in;
        free_out = k.free_out;
        free_order = λ t. latest_by h (Finish j ∷ h) (w.free t) (λ x r m n f. f) (k.free_order t);
        waits = λ x g. let v = k.waits x g in record { op = v.op; carried = v.carried; past = v.past; signaled = v.signaled; completed = v.completed };
        pending = k.pending;
        made = k.made;
        referred = λ b x f g. k.referred b x f g;
        held_carries = λ b x f g. k.held_carries b x f g;
        counts = k.counts;
        idle = k.idle;
      }

  pub after_answer : (j : ℕ) (a : AnswerTo) → Links p (Answer j a ∷ h) (after_event p w (Answer j a))
  after_answer j a =
      record {
        points = k.points;
        beyond = k.beyond;
        carries = k.carries;
        dropped = k.dropped;
        free_in = k.free_in;
        free_out = k.free_out;
        free_order = λ t. latest_by h (Answer j a ∷ h) (w.free t) (λ x r m n f. f) (k.free_order t);
        waits = λ x g. let v = k.waits x g in record { op = v.op; carried = v.carried; past = v.past; signaled = v.signaled; completed = v.completed };
        pending = k.pending;
        made = k.made;
        referred = λ b x f g. k.referred b x f g;
        held_carries = λ b x f g. k.held_carries b x f g;
        counts = k.counts;
        idle = k.idle;
      }

  pub after_signal : (e : ℕ) → Links p (Signal e ∷ h) (after_event p w (Signal e))
  after_signal e =
      record {
        points = k.points;
        beyond = k.beyond;
        carries = k.carries;
        dropped = k.dropped;
        free_in = k.free_in;
        free_out = k.free_out;
        free_order = λ t. latest_by h (Signal e ∷ h) (w.free t) (λ x r m n f. f) (k.free_order t);
        waits = λ x g. let v = k.waits x g in record { op = v.op; carried = v.carried; past = v.past; signaled = or_right (eqb v.op e) (came (signals v.op) h) v.signaled; completed = v.completed };
        pending = k.pending;
        made = λ f g. by_chain (chain_of p e) f g;
        referred = λ b x f g. k.referred b x f g;
        held_carries = λ b x f g. k.held_carries b x f g;
        counts = k.counts;
        idle = k.idle;
      }
    where
      by_chain : (o : Option ℕ) → (f : ℕ) → (with_signal p w.machine.progress e o).made f ≡ true → came (signals f) (Signal e ∷ h) ≡ true
      by_chain None f g = or_right (eqb f e) (came (signals f) h) (k.made f g)
      by_chain (Some t) f g =
          elim (put_cases w.machine.progress.made e f g) [
            | inl i ↦ or_left (eqb f e) (came (signals f) h) (eq-eqb f e i)
            | inr o ↦ or_right (eqb f e) (came (signals f) h) (k.made f o)
          ]

  pub after_refer : (a : ActorName) (q e : ℕ) → w.carried q ≡ Some e → Links p (Refer a q e ∷ h) (after_event p w (Refer a q e))
  after_refer a q e c =
      record {
        points = k.points;
        beyond = k.beyond;
        carries = k.carries;
        dropped = k.dropped;
        free_in = k.free_in;
        free_out = k.free_out;
        free_order = λ t. latest_by h (Refer a q e ∷ h) (w.free t) (λ x r m n f. f) (k.free_order t);
        waits = λ x g. let v = k.waits x g in record { op = v.op; carried = v.carried; past = v.past; signaled = v.signaled; completed = v.completed };
        pending = k.pending;
        made = k.made;
        referred = λ b x f g. elim (or_cases (is_reference b x f (record { actor = a; point = q; op = e })) (list_any (is_reference b x f) w.held) g) [
          | inl i ↦ new b x f i
          | inr o ↦ old b x f o (same_actor b a && eqb x q) refl
        ];
        held_carries = λ b x f g. elim (or_cases (is_reference b x f (record { actor = a; point = q; op = e })) (list_any (is_reference b x f) w.held) g) [
          | inl i ↦ let s = parts_of b x f i in ap w.carried s.1 ∙ (c ∙ ap Some (sym s.2))
          | inr o ↦ k.held_carries b x f o
        ];
        counts = λ x. counted x (cases_eq x q);
        idle = λ x g. cond-false (eqb x q) (held_at x w.held + 1) (held_at x w.held) (ne_eqb x q (λ i. none_some g (ap w.carried i ∙ c))) ∙ k.idle x g;
      }
    where
      parts_of : (b : ActorName) (x f : ℕ) → is_reference b x f (record { actor = a; point = q; op = e }) ≡ true → ((same_actor b a && eqb x q) ≡ true) × (x ≡ q) × (f ≡ e)
      parts_of b x f i =
          let outer = and_parts (same_actor b a && eqb x q) (eqb f e) i in
          (outer.0, eqb-true x q (and_parts (same_actor b a) (eqb x q) outer.0).1, eqb-true f e outer.1)

      new : (b : ActorName) (x f : ℕ) → is_reference b x f (record { actor = a; point = q; op = e }) ≡ true → carried_when_referred b x (Refer a q e ∷ h) ≡ Some f
      new b x f i =
          let s = parts_of b x f i in
          cond-true (same_actor b a && eqb x q) (last_take x h) (carried_when_referred b x h) s.0
          ∙ (ap (λ z. last_take z h) s.1 ∙ (k.carries q e c ∙ ap Some (sym s.2)))

      old : (b : ActorName) (x f : ℕ) → holds w b x f ≡ true → (t : Bool) → (same_actor b a && eqb x q) ≡ t → carried_when_referred b x (Refer a q e ∷ h) ≡ Some f
      old b x f o true t =
          cond-true (same_actor b a && eqb x q) (last_take x h) (carried_when_referred b x h) t ∙ k.carries x f (k.held_carries b x f o)
      old b x f o false t =
          cond-false (same_actor b a && eqb x q) (last_take x h) (carried_when_referred b x h) t ∙ k.referred b x f o

      counted : (x : ℕ) → ((x ≡ q) ⊎ (x ≡ q → ⊥)) → cond (eqb x q) (held_at x w.held + 1) (held_at x w.held) + unrefers_since x h ≡ cond (eqb x q) (refers_since x h + 1) (refers_since x h)
      counted x (inl i) =
          let a = cond-true (eqb x q) (held_at x w.held + 1) (held_at x w.held) (eq-eqb x q i) in
          let b = cond-true (eqb x q) (refers_since x h + 1) (refers_since x h) (eq-eqb x q i) in
          let c = k.counts x in
          omega arith
      counted x (inr n) =
          let a = cond-false (eqb x q) (held_at x w.held + 1) (held_at x w.held) (ne_eqb x q n) in
          let b = cond-false (eqb x q) (refers_since x h + 1) (refers_since x h) (ne_eqb x q n) in
          let c = k.counts x in
          omega arith

  pub after_unrefer : (a : ActorName) (q e : ℕ) → holds w a q e ≡ true → Links p (Unref a q e ∷ h) (after_event p w (Unref a q e))
  after_unrefer a q e c =
      record {
        points = k.points;
        beyond = k.beyond;
        carries = k.carries;
        dropped = k.dropped;
        free_in = k.free_in;
        free_out = k.free_out;
        free_order = λ t. latest_by h (Unref a q e ∷ h) (w.free t) (λ x r m n f. f) (k.free_order t);
        waits = λ x g. let v = k.waits x g in record { op = v.op; carried = v.carried; past = v.past; signaled = v.signaled; completed = v.completed };
        pending = k.pending;
        made = k.made;
        referred = λ b x f g. k.referred b x f (still_held (is_reference a q e) (is_reference b x f) w.held g);
        held_carries = λ b x f g. k.held_carries b x f (still_held (is_reference a q e) (is_reference b x f) w.held g);
        counts = λ x. counted x (cases_eq x q);
        idle = λ x g. unheld x (cases_eq x q) (k.idle x g);
      }
    where
      counted : (x : ℕ) → ((x ≡ q) ⊎ (x ≡ q → ⊥)) → held_at x (without_first (is_reference a q e) w.held) + cond (eqb x q) (unrefers_since x h + 1) (unrefers_since x h) ≡ refers_since x h
      counted x (inl i) =
          let b = cond-true (eqb x q) (unrefers_since x h + 1) (unrefers_since x h) (eq-eqb x q i) in
          let f = subst (λ z. held_at z w.held ≡ held_at z (without_first (is_reference a q e) w.held) + 1) (sym i) (fewer_held a q e w.held c) in
          let d = k.counts x in
          omega arith
      counted x (inr n) =
          let b = cond-false (eqb x q) (unrefers_since x h + 1) (unrefers_since x h) (ne_eqb x q n) in
          let f = same_held a q e x w.held n in
          let d = k.counts x in
          omega arith

      unheld : (x : ℕ) → ((x ≡ q) ⊎ (x ≡ q → ⊥)) → held_at x w.held ≡ 0 → held_at x (without_first (is_reference a q e) w.held) ≡ 0
      unheld x (inl i) z = let f = subst (λ y. held_at y w.held ≡ held_at y (without_first (is_reference a q e) w.held) + 1) (sym i) (fewer_held a q e w.held c) in absurd (omega arith)
      unheld x (inr n) z = same_held a q e x w.held n ∙ z

  pub after_complete : (e : ℕ) → is_pending w e ≡ true → w.machine.progress.made e ≡ true → Links p (Complete e ∷ h) (after_event p w (Complete e))
  after_complete e g m =
      record {
        points = k.points;
        beyond = k.beyond;
        carries = k.carries;
        dropped = k.dropped;
        free_in = k.free_in;
        free_out = k.free_out;
        free_order = λ t. latest_by h (Complete e ∷ h) (w.free t) (λ x r m n f. f) (k.free_order t);
        waits = λ x f. waited (w.point_of e) refl x f;
        pending = λ f x a b. k.pending f x a (unpast f b);
        made = k.made;
        referred = λ b x f c. k.referred b x f c;
        held_carries = λ b x f c. k.held_carries b x f c;
        counts = k.counts;
        idle = k.idle;
      }
    where
      open_op : w.past e ≡ false
      open_op = not-true (w.past e) (and_parts (w.bound e) (not (w.past e)) g).1

      unpast : (f : ℕ) → put w.past e true f ≡ false → w.past f ≡ false
      unpast f b = elim (cases_Bool (w.past f)) [ inl t ↦ absurd (false≢true (sym b ∙ put_keeps w.past e f t)) | inr t ↦ t ]

      older : (x : ℕ) → w.waiting x ≡ true → Waits (after_event p w (Complete e)) (Complete e ∷ h) x
      older x f =
          let v = k.waits x f in
          record { op = v.op; carried = v.carried; past = put_keeps w.past e v.op v.past; signaled = v.signaled; completed = or_right (eqb v.op e) (came (completes v.op) h) v.completed }

      waited : (o : Option ℕ) → w.point_of e ≡ o → (x : ℕ) → at_option {A = ℕ → Bool} (λ q f. put f q true) o w.waiting x ≡ true → Waits (after_event p w (Complete e)) (Complete e ∷ h) x
      waited None i x f = older x f
      waited (Some q) i x f =
          elim (put_cases w.waiting q x f) [
            | inl j ↦ record {
              op = e;
              carried = ap w.carried j ∙ k.pending e q i open_op;
              past = put_here w.past e true;
              signaled = k.made e m;
              completed = or_left (eqb e e) (came (completes e) h) (eq-eqb e e refl);
            }
            | inr o ↦ older x o
          ]

  -- A take of a point that carries nothing. What the free lists become is handed in.
  module _ (e q : ℕ) (fresh : Bool) (none : w.carried q ≡ None) (without : w.point_of e ≡ None)
      (number : (after_event p w (Take e q fresh)).points ≡ made_points (Take e q fresh ∷ h))
      (below : (x : ℕ) → (after_event p w (Take e q fresh)).points ≤ x → (w.points ≤ x) × (x ≡ q → ⊥))
      (kept : (t x : ℕ) → has ((after_event p w (Take e q fresh)).free t) x ≡ true → (has (w.free t) x ≡ true) × (x ≡ q → ⊥))
      (still : (t x : ℕ) → has (w.free t) x ≡ true → (x ≡ q → ⊥) → has ((after_event p w (Take e q fresh)).free t) x ≡ true)
      (ordered : (t : ℕ) → Latest h ((after_event p w (Take e q fresh)).free t)) where
    last_here : last_take q (Take e q fresh ∷ h) ≡ Some e
    last_here = cond-true (eqb q q) (Some e) (last_take q h) (eq-eqb q q refl)

    last_there : (x : ℕ) → (x ≡ q → ⊥) → last_take x (Take e q fresh ∷ h) ≡ last_take x h
    last_there x n = cond-false (eqb x q) (Some e) (last_take x h) (ne_eqb x q n)

    taken_not : (x f : ℕ) → w.carried x ≡ Some f → x ≡ q → ⊥
    taken_not x f c i = none_some none (ap w.carried (sym i) ∙ c)

    free_there : (x : ℕ) → stands_free x (Take e q fresh ∷ h) ≡ true → (x ≡ q → ⊥) × (stands_free x h ≡ true)
    free_there x f =
        let parts = and_parts (not (eqb x q)) (stands_free x h) f in
        (eqb-false x q (not-true (eqb x q) parts.0), parts.1)

    pub after_take : Links p (Take e q fresh ∷ h) (after_event p w (Take e q fresh))
    after_take =
        record {
          points = number;
          beyond = λ x l. let b = below x l in let k' = k.beyond x b.0 in (put_there w.carried q (Some e) x b.1 ∙ k'.0, last_there x b.1 ∙ k'.1);
          carries = λ x f c. carried_now x f c (cases_eq x q);
          dropped = λ x f c l. dropped_now x f c l (cases_eq x q);
          free_in = λ t x m.
              let b = kept t x m in
              let f = k.free_in t x b.0 in
              (put_there w.carried q (Some e) x b.1 ∙ f.0, (f.1.0, last_there x b.1 ∙ f.1.1, f.1.2), and_from (not (eqb x q)) (stands_free x h) (ap not (ne_eqb x q b.1)) f.2);
          free_out = λ t x f c. let b = free_there x f in still t x (k.free_out t x b.1 (c.0, sym (last_there x b.0) ∙ c.1, c.2)) b.0;
          free_order = λ t. latest_by h (Take e q fresh ∷ h) ((after_event p w (Take e q fresh)).free t) (λ x r m n f. f) (ordered t);
          waits = λ x f. let v = k.waits x f in record { op = v.op; carried = put_there w.carried q (Some e) x (taken_not x v.op v.carried) ∙ v.carried; past = v.past; signaled = v.signaled; completed = v.completed };
          pending = λ f x a b. pending_now f x a b (cases_eq f e);
          made = k.made;
          referred = λ b x f c. k.referred b x f c;
          held_carries = λ b x f c. let d = k.held_carries b x f c in put_there w.carried q (Some e) x (taken_not x f d) ∙ d;
          counts = λ x. counted x (cases_eq x q);
          idle = λ x c. idle_now x c (cases_eq x q);
        }
      where
        carried_now : (x f : ℕ) → put w.carried q (Some e) x ≡ Some f → ((x ≡ q) ⊎ (x ≡ q → ⊥)) → last_take x (Take e q fresh ∷ h) ≡ Some f
        carried_now x f c (inl i) =
            let same : Some e ≡ Some f = sym (ap (put w.carried q (Some e)) i ∙ put_here w.carried q (Some e)) ∙ c in
            ap (λ z. last_take z (Take e q fresh ∷ h)) i ∙ (last_here ∙ same)
        carried_now x f c (inr n) = last_there x n ∙ k.carries x f (sym (put_there w.carried q (Some e) x n) ∙ c)

        dropped_now : (x f : ℕ) → put w.carried q (Some e) x ≡ None → last_take x (Take e q fresh ∷ h) ≡ Some f → ((x ≡ q) ⊎ (x ≡ q → ⊥)) → stands_free x (Take e q fresh ∷ h) ≡ true
        dropped_now x f c l (inl i) = none_some c (ap (put w.carried q (Some e)) i ∙ put_here w.carried q (Some e))
        dropped_now x f c l (inr n) = and_from (not (eqb x q)) (stands_free x h) (ap not (ne_eqb x q n)) (k.dropped x f (sym (put_there w.carried q (Some e) x n) ∙ c) (sym (last_there x n) ∙ l))

        pending_now : (f x : ℕ) → put w.point_of e (Some q) f ≡ Some x → w.past f ≡ false → ((f ≡ e) ⊎ (f ≡ e → ⊥)) → put w.carried q (Some e) x ≡ Some f
        pending_now f x a b (inl i) =
            let same = same_Some q x (sym (ap (put w.point_of e (Some q)) i ∙ put_here w.point_of e (Some q)) ∙ a) in
            ap (put w.carried q (Some e)) (sym same) ∙ (put_here w.carried q (Some e) ∙ ap Some (sym i))
        pending_now f x a b (inr n) =
            let c = k.pending f x (sym (put_there w.point_of e (Some q) f n) ∙ a) b in
            put_there w.carried q (Some e) x (taken_not x f c) ∙ c

        counted : (x : ℕ) → ((x ≡ q) ⊎ (x ≡ q → ⊥)) → held_at x w.held + unrefers_since x (Take e q fresh ∷ h) ≡ refers_since x (Take e q fresh ∷ h)
        counted x (inl i) =
            let a = cond-true (eqb x q) 0 (unrefers_since x h) (eq-eqb x q i) in
            let b = cond-true (eqb x q) 0 (refers_since x h) (eq-eqb x q i) in
            let c = k.idle x (ap w.carried i ∙ none) in
            omega arith
        counted x (inr n) =
            let a = cond-false (eqb x q) 0 (unrefers_since x h) (ne_eqb x q n) in
            let b = cond-false (eqb x q) 0 (refers_since x h) (ne_eqb x q n) in
            let c = k.counts x in
            omega arith

        idle_now : (x : ℕ) → put w.carried q (Some e) x ≡ None → ((x ≡ q) ⊎ (x ≡ q → ⊥)) → held_at x w.held ≡ 0
        idle_now x c (inl i) = none_some c (ap (put w.carried q (Some e)) i ∙ put_here w.carried q (Some e))
        idle_now x c (inr n) = k.idle x (sym (put_there w.carried q (Some e) x n) ∙ c)

  -- A point is freed. What the free lists become is handed in, for its chain.
  module _ (q : ℕ) (v : Waits w h q) (unheld : list_any (λ r. r.point == q) w.held ≡ false) where
    freed_not : (x : ℕ) → w.carried x ≡ None → x ≡ q → ⊥
    freed_not x c i = none_some (ap w.carried (sym i) ∙ c) v.carried

    stands_here : stands_free q (Free q ∷ h) ≡ true
    stands_here = or_left (eqb q q) (stands_free q h) (eq-eqb q q refl)

    stands_there : (x : ℕ) → stands_free x h ≡ true → stands_free x (Free q ∷ h) ≡ true
    stands_there x f = or_right (eqb x q) (stands_free x h) f

    abbrev free_after : Option ℕ → ℕ → List ℕ
    free_after o = at_option {A = ℕ → List ℕ} (λ t f. put f t (q ∷ f t)) o w.free

    -- the order in which other points were freed
    later_there : (a b : ℕ) → (b ≡ q → ⊥) → was_freed_later a b h ≡ true → was_freed_later a b (Free q ∷ h) ≡ true
    later_there a b n f = or_right (eqb a q) (not (eqb b q) && was_freed_later a b h) (and_from (not (eqb b q)) (was_freed_later a b h) (ap not (ne_eqb b q n)) f)

    not_in : (t x : ℕ) → has (w.free t) x ≡ true → x ≡ q → ⊥
    not_in t x m = freed_not x (k.free_in t x m).0

    old_order : (t : ℕ) → Latest (Free q ∷ h) (w.free t)
    old_order t = latest_by h (Free q ∷ h) (w.free t) (λ a b m n f. later_there a b (not_in t b n) f) (k.free_order t)

    pub after_free : (o : Option ℕ) → chain_of p v.op ≡ o → Links p (Free q ∷ h) (record w { waiting = put w.waiting q false; carried = put w.carried q None; free = free_after o })
    after_free o on =
        record {
          points = k.points;
          beyond = λ x l. let b = k.beyond x l in (put_there w.carried q None x (freed_not x b.0) ∙ b.0, b.1);
          carries = λ x f c. carried_now x f c (cases_eq x q);
          dropped = λ x f c l. dropped_now x f c l (cases_eq x q);
          free_in = λ t x m. now_in o on t x m;
          free_out = λ t x f c. elim (or_cases (eqb x q) (stands_free x h) f) [ inl i ↦ out_here o on t x (eqb-true x q i) c | inr i ↦ out_there o t x (k.free_out t x i c) ];
          free_order = λ t. order_now o t;
          waits = λ x f. waiting_now x f (cases_eq x q);
          pending = λ f x a b. let c = k.pending f x a b in put_there w.carried q None x (λ i. false≢true (sym b ∙ ap w.past (same_Some f v.op (sym c ∙ (ap w.carried i ∙ v.carried))) ∙ v.past)) ∙ c;
          made = k.made;
          referred = λ b x f c. k.referred b x f c;
          held_carries = λ b x f c. put_there w.carried q None x (λ i. false≢true (sym unheld ∙ subst (λ z. list_any (λ r. r.point == z) w.held ≡ true) i (held_point b x f w.held c))) ∙ k.held_carries b x f c;
          counts = k.counts;
          idle = λ x c. idle_now x c (cases_eq x q);
        }
      where
        carried_now : (x f : ℕ) → put w.carried q None x ≡ Some f → ((x ≡ q) ⊎ (x ≡ q → ⊥)) → last_take x h ≡ Some f
        carried_now x f c (inl i) = none_some (ap (put w.carried q None) i ∙ put_here w.carried q None) c
        carried_now x f c (inr n) = k.carries x f (sym (put_there w.carried q None x n) ∙ c)

        dropped_now : (x f : ℕ) → put w.carried q None x ≡ None → last_take x h ≡ Some f → ((x ≡ q) ⊎ (x ≡ q → ⊥)) → stands_free x (Free q ∷ h) ≡ true
        dropped_now x f c l (inl i) = ap (λ z. stands_free z (Free q ∷ h)) i ∙ stands_here
        dropped_now x f c l (inr n) = stands_there x (k.dropped x f (sym (put_there w.carried q None x n) ∙ c) l)

        old_in : (t x : ℕ) → has (w.free t) x ≡ true → (put w.carried q None x ≡ None) × is_on_chain p t x (Free q ∷ h) × (stands_free x (Free q ∷ h) ≡ true)
        old_in t x m = let f = k.free_in t x m in (put_there w.carried q None x (freed_not x f.0) ∙ f.0, f.1, stands_there x f.2)

        now_in : (c : Option ℕ) → chain_of p v.op ≡ c → (t x : ℕ) → has (free_after c t) x ≡ true → (put w.carried q None x ≡ None) × is_on_chain p t x (Free q ∷ h) × (stands_free x (Free q ∷ h) ≡ true)
        now_in None on' t x m = old_in t x m
        now_in (Some u) on' t x m = by_chain (cases_eq t u)
          where
            here : t ≡ u → (q ≡ x) ⊎ (has (w.free t) x ≡ true)
            here i = has_cases q (w.free t) x (sym (ap (λ (zs : List ℕ). has zs x) (ap (put w.free u (q ∷ w.free u)) i ∙ (put_here w.free u (q ∷ w.free u) ∙ ap (λ z. q ∷ w.free z) (sym i)))) ∙ m)

            by_chain : ((t ≡ u) ⊎ (t ≡ u → ⊥)) → (put w.carried q None x ≡ None) × is_on_chain p t x (Free q ∷ h) × (stands_free x (Free q ∷ h) ≡ true)
            by_chain (inl i) =
                elim (here i) [
                  | inl j ↦ (ap (put w.carried q None) (sym j) ∙ put_here w.carried q None, (v.op, ap (λ z. last_take z h) (sym j) ∙ k.carries q v.op v.carried, on' ∙ ap Some (sym i)), ap (λ z. stands_free z (Free q ∷ h)) (sym j) ∙ stands_here)
                  | inr j ↦ old_in t x j
                ]
            by_chain (inr n) = old_in t x (sym (ap (λ (zs : List ℕ). has zs x) (put_there w.free u (q ∷ w.free u) t n)) ∙ m)

        out_here : (c : Option ℕ) → chain_of p v.op ≡ c → (t x : ℕ) → x ≡ q → is_on_chain p t x (Free q ∷ h) → has (free_after c t) x ≡ true
        out_here c on' t x i o' =
            let same = same_Some o'.0 v.op (sym o'.1 ∙ (ap (λ z. last_take z h) i ∙ k.carries q v.op v.carried)) in
            let on_t : chain_of p v.op ≡ Some t = ap (chain_of p) (sym same) ∙ o'.2 in
            subst (λ d. has (free_after d t) x ≡ true) (sym on_t ∙ on')
            (ap (λ (zs : List ℕ). has zs x) (put_here w.free t (q ∷ w.free t)) ∙ subst (λ z. has (q ∷ w.free t) z ≡ true) (sym i) (has_here q (w.free t)))

        out_there : (c : Option ℕ) → (t x : ℕ) → has (w.free t) x ≡ true → has (free_after c t) x ≡ true
        out_there None t x m = m
        out_there (Some u) t x m =
            elim (cases_eq t u) [
              | inl i ↦ ap (λ (zs : List ℕ). has zs x) (ap (put w.free u (q ∷ w.free u)) i ∙ put_here w.free u (q ∷ w.free u)) ∙ has_there q (w.free u) x (subst (λ z. has (w.free z) x ≡ true) i m)
              | inr n ↦ ap (λ (zs : List ℕ). has zs x) (put_there w.free u (q ∷ w.free u) t n) ∙ m
            ]

        order_now : (c : Option ℕ) → (t : ℕ) → Latest (Free q ∷ h) (free_after c t)
        order_now None t = old_order t
        order_now (Some u) t =
            elim (cases_eq t u) [
              | inl i ↦ subst (Latest (Free q ∷ h)) (sym (ap (put w.free u (q ∷ w.free u)) i ∙ put_here w.free u (q ∷ w.free u))) (first u)
              | inr n ↦ subst (Latest (Free q ∷ h)) (sym (put_there w.free u (q ∷ w.free u) t n)) (old_order t)
            ]
          where
            absent : (b : Bool) → (y : ℕ) → has (w.free y) q ≡ b → has (w.free y) q ≡ false
            absent true y e = absurd (not_in y q e refl)
            absent false y e = e

            first : (y : ℕ) → Latest (Free q ∷ h) (q ∷ w.free y)
            first y = ((λ r m. or_left (eqb q q) (not (eqb r q) && was_freed_later q r h) (eq-eqb q q refl)), absent (has (w.free y) q) y refl, old_order y)

        waiting_now : (x : ℕ) → put w.waiting q false x ≡ true → ((x ≡ q) ⊎ (x ≡ q → ⊥)) → Waits (record w { waiting = put w.waiting q false; carried = put w.carried q None; free = free_after o }) (Free q ∷ h) x
        waiting_now x f (inl i) = absurd (false≢true (sym (ap (put w.waiting q false) i ∙ put_here w.waiting q false) ∙ f))
        waiting_now x f (inr n) =
            let u = k.waits x (sym (put_there w.waiting q false x n) ∙ f) in
            record { op = u.op; carried = put_there w.carried q None x n ∙ u.carried; past = u.past; signaled = u.signaled; completed = u.completed }

        idle_now : (x : ℕ) → put w.carried q None x ≡ None → ((x ≡ q) ⊎ (x ≡ q → ⊥)) → held_at x w.held ≡ 0
        idle_now x c (inl i) = ap (λ z. held_at z w.held) i ∙ none_held q w.held unheld
        idle_now x c (inr n) = k.idle x (sym (put_there w.carried q None x n) ∙ c)
