-- What ties points and references to the events that came before.
use Rattle.std.proofs.Common.{ℕ, ◌+◌, cond, eqb, List, [], ◌∷◌, ◌≡◌, true, false, Some, ◌≤◌, None, Option, sym, ◌∙◌, refl, ◌==◌, ◌&&◌, inl, inr, Bool, ap}
use Rattle.vq_point_laws.specs.Points.{Reference, PointState, holds, is_reference, without_first}
use Rattle.vq_model.specs.declared.plan.Event.{Event}
use Rattle.vq_model.specs.Plan.{Plan}
use Rattle.vq_ground.specs.Lists.{has}
use Rattle.vq_point_laws.specs.HistoryLaws.{was_freed_later, came, signals, completes, last_take, stands_free, refers_since, unrefers_since, made_points, is_on_chain, carried_when_referred}
use Rattle.vq_model.specs.declared.script.ActorName.{ActorName}
use Rattle.vq_ground.proofs.Lists.{has_here, has_there}
use Rattle.std.specs.List.{list_any}
use Rattle.std.proofs.lemmas.Bool.{eqb-false, ne_eqb, or_parts, cond-false, eqb-true, eq-eqb, or_cases, or_left, or_right, and_parts, false≢true, cond-true}
use Rattle.vq_model.specs.Naming.{same_actor}

-- how many references to a point are held
abbrev pub held_at : ℕ → List Reference → ℕ
held_at q [] = 0
held_at q (r ∷ rs) = cond (eqb q r.point) (held_at q rs + 1) (held_at q rs)

-- points in the order in which they were freed, the last first
abbrev pub Latest : List Event → List ℕ → Type 0
Latest h [] = Unit {0}
Latest h (q ∷ qs) = ((r : ℕ) → has qs r ≡ true → was_freed_later q r h ≡ true) × (has qs q ≡ false) × Latest h qs

-- a point that waits to be freed
pub record Waits (w : PointState) (h : List Event) (q : ℕ) : Type 0 where
  pub op : ℕ
  pub carried : w.carried q ≡ Some op
  pub past : w.past op ≡ true
  pub signaled : came (signals op) h ≡ true
  pub completed : came (completes op) h ≡ true

-- the world, and what came before it
pub record Links (p : Plan) (h : List Event) (w : PointState) : Type 0 where
  pub points : w.points ≡ made_points h
  pub beyond : (q : ℕ) → w.points ≤ q → (w.carried q ≡ None) × (last_take q h ≡ None)
  pub carries : (q e : ℕ) → w.carried q ≡ Some e → last_take q h ≡ Some e
  pub dropped : (q e : ℕ) → w.carried q ≡ None → last_take q h ≡ Some e → stands_free q h ≡ true
  pub free_in : (t q : ℕ) → has (w.free t) q ≡ true → (w.carried q ≡ None) × is_on_chain p t q h × (stands_free q h ≡ true)
  pub free_out : (t q : ℕ) → stands_free q h ≡ true → is_on_chain p t q h → has (w.free t) q ≡ true
  pub free_order : (t : ℕ) → Latest h (w.free t)
  pub waits : (q : ℕ) → w.waiting q ≡ true → Waits w h q
  pub pending : (e q : ℕ) → w.point_of e ≡ Some q → w.past e ≡ false → w.carried q ≡ Some e
  pub made : (e : ℕ) → w.machine.progress.made e ≡ true → came (signals e) h ≡ true
  pub referred : (a : ActorName) (q e : ℕ) → holds w a q e ≡ true → carried_when_referred a q h ≡ Some e
  pub held_carries : (a : ActorName) (q e : ℕ) → holds w a q e ≡ true → w.carried q ≡ Some e
  pub counts : (q : ℕ) → held_at q w.held + unrefers_since q h ≡ refers_since q h
  pub idle : (q : ℕ) → w.carried q ≡ None → held_at q w.held ≡ 0

-- Lists

pub none_some : {A B : Type 0} {x : A} {o : Option A} → o ≡ None → o ≡ Some x → B
none_some a b = absurd (let c = sym a ∙ b in cc)

pub latest_by : (g h : List Event) (qs : List ℕ) → ((q r : ℕ) → has qs q ≡ true → has qs r ≡ true → was_freed_later q r g ≡ true → was_freed_later q r h ≡ true) → Latest g qs → Latest h qs
latest_by g h [] f l = tt
latest_by g h (q ∷ qs) f l =
    ((λ r m. f q r (has_here q qs) (has_there q qs r m) (l.0 r m)), l.1, latest_by g h qs (λ x r m n. f x r (has_there q qs x m) (has_there q qs r n)) l.2)

pub none_held : (q : ℕ) (rs : List Reference) → list_any (λ r. r.point == q) rs ≡ false → held_at q rs ≡ 0
none_held q [] h = refl
none_held q (r ∷ rs) h =
    let parts = or_parts (eqb r.point q) (list_any (λ x. x.point == q) rs) h in
    cond-false (eqb q r.point) (held_at q rs + 1) (held_at q rs) (ne_eqb q r.point (λ e. eqb-false r.point q parts.0 (sym e))) ∙ none_held q rs parts.1

-- a held reference is one to its point
pub held_point : (a : ActorName) (q e : ℕ) (rs : List Reference) → list_any (is_reference a q e) rs ≡ true → list_any (λ r. r.point == q) rs ≡ true
held_point a q e [] h = h
held_point a q e (r ∷ rs) h =
    elim (or_cases (is_reference a q e r) (list_any (is_reference a q e) rs) h) [
      | inl t ↦
          let here = eqb-true q r.point (and_parts (same_actor a r.actor) (eqb q r.point) (and_parts (same_actor a r.actor && eqb q r.point) (eqb e r.op) t).0).1 in
          or_left (eqb r.point q) (list_any (λ x. x.point == q) rs) (eq-eqb r.point q (sym here))
      | inr t ↦ or_right (eqb r.point q) (list_any (λ x. x.point == q) rs) (held_point a q e rs t)
    ]

-- a reference less
pub fewer_held : (a : ActorName) (q e : ℕ) (rs : List Reference) → list_any (is_reference a q e) rs ≡ true → held_at q rs ≡ held_at q (without_first (is_reference a q e) rs) + 1
fewer_held a q e [] h = absurd (false≢true h)
fewer_held a q e (r ∷ rs) h = by_test (is_reference a q e r) refl (fewer_held a q e rs)
  where
    by_test : (b : Bool) → is_reference a q e r ≡ b → (list_any (is_reference a q e) rs ≡ true → held_at q rs ≡ held_at q (without_first (is_reference a q e) rs) + 1) → held_at q (r ∷ rs) ≡ held_at q (cond (is_reference a q e r) rs (r ∷ without_first (is_reference a q e) rs)) + 1
    by_test true i f =
        let here = (and_parts (same_actor a r.actor) (eqb q r.point) (and_parts (same_actor a r.actor && eqb q r.point) (eqb e r.op) i).0).1 in
        cond-true (eqb q r.point) (held_at q rs + 1) (held_at q rs) here ∙ sym (ap (λ (zs : List Reference). held_at q zs + 1) (cond-true (is_reference a q e r) rs (r ∷ without_first (is_reference a q e) rs) i))
    by_test false i f =
        let rest = f (elim (or_cases (is_reference a q e r) (list_any (is_reference a q e) rs) h) [ inl t ↦ absurd (false≢true (sym i ∙ t)) | inr t ↦ t ]) in
        let kept = ap (λ (zs : List Reference). held_at q zs + 1) (cond-false (is_reference a q e r) rs (r ∷ without_first (is_reference a q e) rs) i) in
        either (eqb q r.point) rest ∙ sym kept
      where
        either : (b : Bool) → held_at q rs ≡ held_at q (without_first (is_reference a q e) rs) + 1 → cond b (held_at q rs + 1) (held_at q rs) ≡ cond b (held_at q (without_first (is_reference a q e) rs) + 1) (held_at q (without_first (is_reference a q e) rs)) + 1
        either true s = ap (λ n. n + 1) s
        either false s = s

pub same_held : (a : ActorName) (q e x : ℕ) (rs : List Reference) → (x ≡ q → ⊥) → held_at x (without_first (is_reference a q e) rs) ≡ held_at x rs
same_held a q e x [] n = refl
same_held a q e x (r ∷ rs) n = by_test (is_reference a q e r) refl (same_held a q e x rs n)
  where
    by_test : (b : Bool) → is_reference a q e r ≡ b → held_at x (without_first (is_reference a q e) rs) ≡ held_at x rs → held_at x (cond (is_reference a q e r) rs (r ∷ without_first (is_reference a q e) rs)) ≡ held_at x (r ∷ rs)
    by_test true i f =
        let here = eqb-true q r.point (and_parts (same_actor a r.actor) (eqb q r.point) (and_parts (same_actor a r.actor && eqb q r.point) (eqb e r.op) i).0).1 in
        ap (λ (zs : List Reference). held_at x zs) (cond-true (is_reference a q e r) rs (r ∷ without_first (is_reference a q e) rs) i)
        ∙ sym (cond-false (eqb x r.point) (held_at x rs + 1) (held_at x rs) (ne_eqb x r.point (λ m. n (m ∙ sym here))))
    by_test false i f =
        ap (λ (zs : List Reference). held_at x zs) (cond-false (is_reference a q e r) rs (r ∷ without_first (is_reference a q e) rs) i)
        ∙ ap (λ k. cond (eqb x r.point) (k + 1) k) f

pub still_held : (test other : Reference → Bool) (rs : List Reference) → list_any other (without_first test rs) ≡ true → list_any other rs ≡ true
still_held test other [] h = h
still_held test other (r ∷ rs) h = by_test (test r) refl (still_held test other rs)
  where
    by_test : (b : Bool) → test r ≡ b → (list_any other (without_first test rs) ≡ true → list_any other rs ≡ true) → list_any other (r ∷ rs) ≡ true
    by_test true i f =
        or_right (other r) (list_any other rs) (sym (ap (λ (zs : List Reference). list_any other zs) (cond-true (test r) rs (r ∷ without_first test rs) i)) ∙ h)
    by_test false i f =
        elim (or_cases (other r) (list_any other (without_first test rs)) (sym (ap (λ (zs : List Reference). list_any other zs) (cond-false (test r) rs (r ∷ without_first test rs) i)) ∙ h)) [
          | inl t ↦ or_left (other r) (list_any other rs) t
          | inr t ↦ or_right (other r) (list_any other rs) (f t)
        ]
