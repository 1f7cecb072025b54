-- What an actor holds, by counts.
use Rattle.std.proofs.Common.{
  ◌≡◌,
  ℕ,
  zero,
  suc,
  ◌<◌,
  ◌&&◌,
  ◌==◌,
  Bool,
  true,
  false,
  List,
  [],
  ◌∷◌,
  Some,
  None,
  refl,
  sym,
  ap,
  ◌∙◌,
  inl,
  inr,
  subst,
  arith,
}
use Rattle.std.specs.Prelude.{nat_lt, count_by, IsTrue, ◌↔◌, nat_eq}
use Rattle.std.specs.List.{list_any}
use Rattle.std.proofs.lemmas.Bool.{false≢true, and_parts, and_from, or_cases, or_left, or_right, eqb-true, eq-eqb}
use Rattle.vq_model.specs.declared.script.ActorName.{ActorName}
use Rattle.vq_model.specs.Naming.{same_actor}
use Rattle.vq_ground.proofs.Bools.{same_tests}
use Rattle.vq_history_laws.proofs.Cited.{counted_any, none_counted}
use Rattle.vq_point_laws.specs.Points.{Reference, holds, is_reference, next_job, needs_resolved}
use Rattle.vq_core.specs.CoreState.{Course, world, IsCourse}
use Rattle.vq_tables.specs.Notes.{held_by}
use Rattle.vq_core.proofs.Courses.{world_keeps, counts_any}

-- an element that passes a test
pub record Passes {A : Type 0} (test : A → Bool) (xs : List A) : Type 0 where
  pub one : A
  pub passes : test one ≡ true
  pub among : (other : A → Bool) → other one ≡ true → list_any other xs ≡ true

pub passing : {A : Type 0} (test : A → Bool) (xs : List A) → list_any test xs ≡ true → Passes test xs
passing test [] h = absurd (false≢true h)
passing test (x ∷ xs) h = elim (or_cases (test x) (list_any test xs) h) [
  | inl t ↦ record { one = x; passes = t; among = λ other o. or_left (other x) (list_any other xs) o }
  | inr t ↦ let r = passing test xs t in record {
    one = r.one;
    passes = r.passes;
    among = λ other o. or_right (other
        x) (list_any other xs) (r.among other o);
  }
]

module _ (s : Course) (k : IsCourse s) (a : ActorName) (q e : ℕ) where
  idle_unless : (holds (world s) a q e ≡ true → ⊥) → false ≡ holds (world s) a q e
  idle_unless not = by_test (holds (world s) a q e) refl
    where
      by_test : (b : Bool) → holds (world s) a q e ≡ b → false ≡ holds (world s) a q e
      by_test false h = sym h
      by_test true h = absurd (not h)

  pub none_next : next_job s.plan (world s) a ≡ None → false ≡ holds (world s) a q e
  none_next n = idle_unless (λ h. let r = (world_keeps s k).references a q e h in let c = sym n ∙ r.1 in absurd (cc))

  pub none_carried : ((world s).carried q ≡ Some e → ⊥) → false ≡ holds (world s) a q e
  none_carried n = idle_unless (λ h. n ((world_keeps s k).links.held_carries a q e h))

  pub none_needed : (j : ℕ) → next_job s.plan (world s) a ≡ Some j → needs_resolved s.plan j e ≡ 0 →
      false ≡ holds (world s) a q e
  none_needed j n z = idle_unless (λ h. one h ((world_keeps s k).references a q e h))
    where
      one : holds (world s) a q e ≡ true → (i : ℕ) × (next_job s.plan (world s) a ≡ Some i)
          × (0 < needs_resolved s.plan i e) → ⊥
      one h r =
          let same : j ≡ r.0 = let c = sym n ∙ r.1 in cc in
          let more = r.2 in
          let none = ap (λ (i : ℕ). needs_resolved s.plan i e) (sym same) ∙ z in
          absurd (omega arith)

  pub held_is : (n : ℕ) → (world s).carried q ≡ Some e → n ≡ held_by (world s).held a e →
      nat_lt 0 n ≡ holds (world s) a q e
  held_is n c is =
      ap (nat_lt 0) is ∙ (counts_any (λ (r : Reference). same_actor a r.actor && (r.op == e)) (world s).held
      ∙ same_tests (list_any (λ (r : Reference). same_actor a r.actor && (r.op == e)) (world s).held) (holds (world
      s) a q e) to from)
    where
      from : holds (world s) a q e ≡ true → list_any (λ (r : Reference). same_actor a r.actor && (r.op == e)) (world
          s).held ≡ true
      from h =
          let x = passing (is_reference a q e) (world s).held h in
          let both = and_parts (same_actor a x.one.actor && (q == x.one.point)) (e == x.one.op) x.passes in
          x.among (λ r. same_actor a r.actor && (r.op == e))
          (and_from (same_actor a x.one.actor) (x.one.op == e) (and_parts (same_actor a x.one.actor) (q ==
          x.one.point) both.0).0
          (eq-eqb x.one.op e (sym (eqb-true e x.one.op both.1))))

      to : list_any (λ (r : Reference). same_actor a r.actor && (r.op == e)) (world s).held ≡ true →
          holds (world s) a q e ≡ true
      to h =
          let x = passing (λ (r : Reference). same_actor a r.actor && (r.op == e)) (world s).held h in
          let both = and_parts (same_actor a x.one.actor) (x.one.op == e) x.passes in
          let op = eqb-true x.one.op e both.1 in
          let own : holds (world s) a x.one.point e ≡ true =
          x.among (is_reference a x.one.point e)
          (and_from (same_actor a x.one.actor && (x.one.point == x.one.point)) (e == x.one.op) (and_from (same_actor
          a x.one.actor) (x.one.point == x.one.point) both.0 (eq-eqb x.one.point x.one.point refl)) (eq-eqb e
          x.one.op (sym op))) in
          let w = world_keeps s k in
          let first = w.points.carries x.one.point e (w.links.held_carries a x.one.point e own) in
          let second = w.points.carries q e c in
          let same : x.one.point ≡ q = let z = sym first ∙ second in cc in
          subst (λ (z : ℕ). holds (world s) a z e ≡ true) same own

-- no reference is counted where none is held
pub none_iff_zero : {A : Type 0} (test : A → Bool) (xs : List A) (n : ℕ) → n ≡ count_by test xs →
    IsTrue (nat_eq n 0) ↔ (list_any test xs ≡ false)
none_iff_zero test xs n is = (
  (λ h. none_counted test xs (sym is ∙ eqb-true n 0 h)),
  (λ h. eq-eqb n 0 (by_count n is h)),
)
  where
    by_count : (n : ℕ) → n ≡ count_by test xs → list_any test xs ≡ false → n ≡ 0
    by_count zero e h = refl
    by_count (suc n) e h = absurd (false≢true (sym h ∙ counted_any test xs (omega arith)))
