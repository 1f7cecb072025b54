-- A need that is reached, and the operation that resolves it.
use Rattle.std.proofs.Common.{◌≡◌, ℕ, ◌<◌, ◌≤◌, Some, Option, Bool, ltb, true, false, List, [], ◌∷◌, filter, refl, sym, ap, ◌∙◌, inl, inr}
use Rattle.vq_model.specs.Plan.{Plan, initial, resolver, waits_for_any}
use Rattle.vq_ground.specs.Lists.{has}
use Rattle.vq_model.specs.declared.plan.Need.{Need}
use Rattle.std.specs.List.{list_all, filter_map, list_any}
use Rattle.std.proofs.lemmas.Bool.{and_parts, false≢true, cond-true, cond-false, leb-true, ltb-true}
use Rattle.vq_model.specs.Machine.{is_reached, are_reached}
use Rattle.vq_ground.proofs.Mapped.{has_option}
use Rattle.vq_model.specs.Edges.{Stage, awaited_at, needs_at}

-- Waits

-- a need that an awaited operation resolves
pub record IsNeed (p : Plan) (payload : ℕ → ℕ) (r : ℕ) : Type 0 where
  pub chain : ℕ
  pub value : ℕ
  pub above : initial p chain < value
  pub reached : value ≤ payload chain
  pub resolves : resolver p chain value ≡ Some r

abbrev resolve : Plan → Need → Option ℕ
resolve p n = resolver p n.chain n.value

abbrev is_above : Plan → Need → Bool
is_above p n = ltb (initial p n.chain) n.value

need_of : (p : Plan) (payload : ℕ → ℕ) (ns : List Need) (r : ℕ) → has (filter_map (resolve p) (filter (is_above p) ns)) r ≡ true → list_all (is_reached payload) ns ≡ true → IsNeed p payload r
need_of p payload [] r h a = absurd (false≢true h)
need_of p payload (n ∷ ns) r h a = by_test (is_above p n) refl (need_of p payload ns r)
  where
    parts : (is_reached payload n ≡ true) × (list_all (is_reached payload) ns ≡ true)
    parts = and_parts (is_reached payload n) (list_all (is_reached payload) ns) a

    by_test : (b : Bool) → is_above p n ≡ b → (has (filter_map (resolve p) (filter (is_above p) ns)) r ≡ true → list_all (is_reached payload) ns ≡ true → IsNeed p payload r) → IsNeed p payload r
    by_test true e f =
        let e' : filter (is_above p) (n ∷ ns) ≡ n ∷ filter (is_above p) ns = cond-true (is_above p n) (n ∷ filter (is_above p) ns) (filter (is_above p) ns) e in
        elim (has_option (resolve p n) (filter_map (resolve p) (filter (is_above p) ns)) r (sym (ap (λ zs. has (filter_map (resolve p) zs) r) e') ∙ h)) [
          | inl i ↦ record { chain = n.chain; value = n.value; above = ltb-true (initial p n.chain) n.value e; reached = leb-true n.value (payload n.chain) parts.0; resolves = i }
          | inr i ↦ f i parts.1
        ]
    by_test false e f =
        let e' : filter (is_above p) (n ∷ ns) ≡ filter (is_above p) ns = cond-false (is_above p n) (n ∷ filter (is_above p) ns) (filter (is_above p) ns) e in
        f (sym (ap (λ zs. has (filter_map (resolve p) zs) r) e') ∙ h) parts.1

pub awaited_need : (p : Plan) (payload : ℕ → ℕ) (j : ℕ) (k : Stage) (r : ℕ) → has (awaited_at p j k) r ≡ true → are_reached p payload j k ≡ true → IsNeed p payload r
awaited_need p payload j k r h a = by_test (waits_for_any p j) refl
  where
    by_test : (b : Bool) → waits_for_any p j ≡ b → IsNeed p payload r
    by_test true e =
        absurd (false≢true (sym (ap (λ zs. has zs r) (cond-true (waits_for_any p j) [] (filter_map (resolve p) (filter (is_above p) (needs_at p j k))) e)) ∙ h))
    by_test false e =
        need_of p payload (needs_at p j k) r (sym (ap (λ zs. has zs r) (cond-false (waits_for_any p j) [] (filter_map (resolve p) (filter (is_above p) (needs_at p j k))) e)) ∙ h)
        (sym (cond-false (waits_for_any p j) (list_any (is_reached payload) (needs_at p j k)) (list_all (is_reached payload) (needs_at p j k)) e) ∙ a)
