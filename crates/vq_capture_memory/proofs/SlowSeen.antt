-- The slow tests say what the definition says: where a write is available, visible, seen and unseen.
use Rattle.std.proofs.Common.{◌≡◌, ◌⊎◌, Bool, true, false, List, [], ◌∷◌, ◌&&◌, refl, sym, ◌∙◌, ap, inl, inr, Option, Some, None}
use Rattle.std.specs.Prelude.{nat_lt, not, is_some}
use Rattle.std.specs.List.{list_any, list_all}
use Rattle.std.proofs.lemmas.Bool.{or_cases, or_left, or_right, and_from, false≢true, not-true}
use Rattle.vq_ground.proofs.Bools.{never}
use Rattle.vq_ground.proofs.Tests.{below_of_test, below_test}
use Rattle.vq_capture.specs.declared.stage.Stage.{Stage}
use Rattle.vq_capture.specs.declared.capture.Step.{Step}
use Rattle.vq_capture.specs.Points.{Point, points_of, points_of_step, IsMember}
use Rattle.vq_capture.specs.Before.{Before, is_direct}
use Rattle.vq_capture.specs.Races.{conflict, Conflicts, Ordered}
use Rattle.vq_capture_laws.specs.Closure.{all_behind, is_before, is_ordered}
use Rattle.vq_capture_laws.proofs.Cited.{AreRising, points_in_order, before_by_test, test_of_before, sound, complete}
use Rattle.vq_capture_laws.proofs.Cited.{any_of, one_of_any, each_of_all, all_of_each, and_left, and_right, true_of_not}
use Rattle.vq_capture_laws.proofs.Cited.{in_flat_map, ordered_by_test, test_of_ordered}
use Rattle.vq_capture_memory.specs.Seen.{makes_available, makes_visible, IsMadeAvailable, AvailableAt, by_itself, made}
use Rattle.vq_capture_memory.specs.Seen.{IsAvailableTo, IsVisibleTo}
use Rattle.vq_capture_memory.specs.UnseenWrites.{is_read, asks_memory, IsDelivered, Sees, IsUnseen}
use Rattle.vq_capture_memory.specs.SlowMemory.{is_made_available, any_available, is_available_to, is_made_visible, is_visible_to, is_delivered, sees, is_unseen}

module _ (steps : List Step) (rising : AreRising steps) where
  -- Availability

  made_by_test : (x p : Point) → IsMember p (points_of steps) → is_made_available steps x p ≡ true → IsMadeAvailable steps x p
  made_by_test x p m h = record {
    edge = record { point = m; direct = and_left (is_direct steps x p) (makes_available p x) h };
    scope = and_right (is_direct steps x p) (makes_available p x) h;
  }

  test_of_made : (x p : Point) → IsMadeAvailable steps x p → is_made_available steps x p ≡ true
  test_of_made x p m = and_from (is_direct steps x p) (makes_available p x) m.edge.direct m.scope

  no_stage : (o : Option Stage) → not (is_some o) ≡ true → o ≡ None
  no_stage None h = refl
  no_stage (Some s) h = never h

  available_by_test : (x : Point) (test : Point → Bool) → any_available steps x test ≡ true → (p : Point) × AvailableAt steps x p × (test p ≡ true)
  available_by_test x test h = elim (or_cases (not (is_some x.stage) && test x) (list_any (λ p. is_made_available steps x p && test p) (points_of steps)) h) [
    | inl i ↦ (x, by_itself (no_stage x.stage (and_left (not (is_some x.stage)) (test x) i)), and_right (not (is_some x.stage)) (test x) i)
    | inr a ↦ let r = one_of_any (λ p. is_made_available steps x p && test p) (points_of steps) a in
        (r.0, made (made_by_test x r.0 r.1 (and_left (is_made_available steps x r.0) (test r.0) r.2)), and_right (is_made_available steps x r.0) (test r.0) r.2)
  ]

  test_of_available : (x : Point) (test : Point → Bool) (p : Point) → AvailableAt steps x p → test p ≡ true → any_available steps x test ≡ true
  test_of_available x test p (by_itself e) t =
      or_left (not (is_some x.stage) && test x) (list_any (λ p. is_made_available steps x p && test p) (points_of steps))
      (and_from (not (is_some x.stage)) (test x) (ap (λ (o : Option Stage). not (is_some o)) e) t)
  test_of_available x test p (made m) t =
      or_right (not (is_some x.stage) && test x) (list_any (λ p. is_made_available steps x p && test p) (points_of steps))
      (any_of (λ p. is_made_available steps x p && test p) (points_of steps) p m.edge.point
      (and_from (is_made_available steps x p) (test p) (test_of_made x p m) t))

  available_to_by_test : (x y : Point) → IsMember y (points_of steps) → is_available_to steps x y ≡ true → IsAvailableTo steps x y
  available_to_by_test x y m h = elim (or_cases (is_made_available steps x y) (any_available steps x (λ p. is_before steps p y)) h) [
    | inl i ↦ inl (made_by_test x y m i)
    | inr a ↦ let r = available_by_test x (λ p. is_before steps p y) a in
        inr (r.0, r.1, before_by_test steps r.0 y m r.2)
  ]

  test_of_available_to : (x y : Point) → IsAvailableTo steps x y → is_available_to steps x y ≡ true
  test_of_available_to x y (inl m) =
      or_left (is_made_available steps x y) (any_available steps x (λ p. is_before steps p y)) (test_of_made x y m)
  test_of_available_to x y (inr (p, a, b)) =
      or_right (is_made_available steps x y) (any_available steps x (λ p. is_before steps p y))
      (test_of_available x (λ p. is_before steps p y) p a (test_of_before steps p y (points_in_order steps rising) b))

  -- Visibility

  behind_by_member : (p q : Point) → IsMember q (p ∷ all_behind steps p) → (p ≡ q) ⊎ Before steps p q
  behind_by_member p q (inl e) = inl (sym e)
  behind_by_member p q (inr m) = inr (sound steps p (points_of steps) [] (λ z n. absurd n) (λ z n. n) q m)

  member_of_behind : (p q : Point) → (p ≡ q) ⊎ Before steps p q → IsMember q (p ∷ all_behind steps p)
  member_of_behind p q (inl e) = inl (sym e)
  member_of_behind p q (inr b) = inr (complete steps p q (points_in_order steps rising) b)

  shown : Point → Point → Bool
  shown y p = list_any (is_made_visible steps y) (p ∷ all_behind steps p)

  visible_by_test : (x y : Point) → IsMember y (points_of steps) → is_visible_to steps x y ≡ true → IsVisibleTo steps x y
  visible_by_test x y m h =
      let r = available_by_test x (λ p. list_any (is_made_visible steps y) (p ∷ all_behind steps p)) h in
      let v = one_of_any (is_made_visible steps y) (r.0 ∷ all_behind steps r.0) r.2 in (
        r.0,
        v.0,
        r.1,
        record {
          behind = behind_by_member r.0 v.0 v.1;
          edge = record { point = m; direct = and_left (is_direct steps v.0 y) (makes_visible v.0 y) v.2 };
          scope = and_right (is_direct steps v.0 y) (makes_visible v.0 y) v.2;
        },
      )

  test_of_visible : (x y : Point) → IsVisibleTo steps x y → is_visible_to steps x y ≡ true
  test_of_visible x y (p, q, a, v) =
      test_of_available x (λ p. list_any (is_made_visible steps y) (p ∷ all_behind steps p)) p a
      (any_of (is_made_visible steps y) (p ∷ all_behind steps p) q (member_of_behind p q v.behind)
      (and_from (is_direct steps q y) (makes_visible q y) v.edge.direct v.scope))

  -- What is seen

  delivered_by_test : (w : Bool) (x y : Point) → IsMember y (points_of steps) → is_delivered steps w x y ≡ true → IsDelivered steps w x y
  delivered_by_test true x y m h = visible_by_test x y m h
  delivered_by_test false x y m h = available_to_by_test x y m h

  test_of_delivered : (w : Bool) (x y : Point) → IsDelivered steps w x y → is_delivered steps w x y ≡ true
  test_of_delivered true x y d = test_of_visible x y d
  test_of_delivered false x y d = test_of_available_to x y d

  pub sees_by_test : (a b : Step) → IsMember b steps → sees steps a b ≡ true → Sees steps a b
  sees_by_test a b n h x y p q =
      delivered_by_test (is_read b.statement) x y (in_flat_map points_of_step y b steps n q)
      (each_of_all (λ v. is_delivered steps (is_read b.statement) x v) (points_of_step b) y
      (each_of_all (λ u. list_all (λ v. is_delivered steps (is_read b.statement) u v) (points_of_step b)) (points_of_step a) x h p) q)

  pub test_of_sees : (a b : Step) → Sees steps a b → sees steps a b ≡ true
  test_of_sees a b s =
      all_of_each (λ u. list_all (λ v. is_delivered steps (is_read b.statement) u v) (points_of_step b)) (points_of_step a)
      (λ x p. all_of_each (λ v. is_delivered steps (is_read b.statement) x v) (points_of_step b)
      (λ y q. test_of_delivered (is_read b.statement) x y (s x y p q)))

  -- What is unseen

  pub unseen_by_test : (a b : Step) → IsMember a steps → IsMember b steps → is_unseen steps a b ≡ true → IsUnseen steps a b
  unseen_by_test a b m n h =
      let above = nat_lt a.line b.line in
      let ordered = is_ordered steps a b in
      let unseen = not (sees steps a b) in
      let behind_above = and_right above (conflict a b && (asks_memory a b && (ordered && unseen))) h in
      let behind_conflict = and_right (conflict a b) (asks_memory a b && (ordered && unseen)) behind_above in
      let behind_asked = and_right (asks_memory a b) (ordered && unseen) behind_conflict in
      record {
        pair = record {
          first = m;
          second = n;
          above = below_of_test a.line b.line (and_left above (conflict a b && (asks_memory a b && (ordered && unseen))) h);
          conflicts = and_left (conflict a b) (asks_memory a b && (ordered && unseen)) behind_above;
        };
        asked = and_left (asks_memory a b) (ordered && unseen) behind_conflict;
        ordered = ordered_by_test steps rising a b n (and_left ordered unseen behind_asked);
        unseen = λ s. false≢true (sym (not-true (sees steps a b) (and_right ordered unseen behind_asked)) ∙ test_of_sees a b s);
      }

  -- the test of a pair that conflicts, is asked and is ordered, and doesn't see
  test_of_parts : (a b : Step) → Conflicts steps a b → asks_memory a b ≡ true → Ordered steps a b → (sees steps a b ≡ true → ⊥) → is_unseen steps a b ≡ true
  test_of_parts a b c k o u =
      and_from (nat_lt a.line b.line) (conflict a b && (asks_memory a b && (is_ordered steps a b && not (sees steps a b))))
      (below_test a.line b.line c.above)
      (and_from (conflict a b) (asks_memory a b && (is_ordered steps a b && not (sees steps a b))) c.conflicts
      (and_from (asks_memory a b) (is_ordered steps a b && not (sees steps a b)) k
      (and_from (is_ordered steps a b) (not (sees steps a b)) (test_of_ordered steps rising a b o)
      (true_of_not (sees steps a b) u))))

  pub test_of_unseen : (a b : Step) → IsUnseen steps a b → is_unseen steps a b ≡ true
  test_of_unseen a b u =
      test_of_parts a b u.pair u.asked u.ordered (λ h. u.unseen (sees_by_test a b u.pair.second h))

  -- where no test holds, what is ordered and asked sees
  pub seen_without : (a b : Step) → Conflicts steps a b → asks_memory a b ≡ true → Ordered steps a b → (is_unseen steps a b ≡ true → ⊥) → Sees steps a b
  seen_without a b c k o none = by_test (sees steps a b) refl
    where
      by_test : (t : Bool) → sees steps a b ≡ t → Sees steps a b
      by_test true e = sees_by_test a b c.second e
      by_test false e = absurd (none (test_of_parts a b c k o (λ h. never (sym e ∙ h))))
