-- Needs that are reached stay so where numbers rise.
use Rattle.std.proofs.Common.{◌≡◌, ℕ, ◌≤◌, true, arith, List, [], ◌∷◌, refl, inl, inr, Bool, false, sym, ◌∙◌}
use Rattle.std.proofs.lemmas.Bool.{leb-true, le-leb, and_parts, and_from, or_cases, or_left, or_right, cond-true, cond-false}
use Rattle.vq_model.specs.declared.plan.Need.{Need}
use Rattle.vq_model.specs.Plan.{Plan, waits_for_any}
use Rattle.vq_model.specs.Machine.{is_reached, are_reached}
use Rattle.std.specs.List.{list_all, list_any}
use Rattle.vq_model.specs.Edges.{Stage, needs_at}

-- needs that are reached stay so where numbers rise

pub reached_still : (payload later : ℕ → ℕ) → ((t : ℕ) → payload t ≤ later t) → (n : Need) → is_reached payload n ≡ true → is_reached later n ≡ true
reached_still payload later r n h =
    let a = leb-true n.value (payload n.chain) h in
    let b = r n.chain in
    le-leb n.value (later n.chain) (omega arith)

all_still : (payload later : ℕ → ℕ) → ((t : ℕ) → payload t ≤ later t) → (ns : List Need) → list_all (is_reached payload) ns ≡ true → list_all (is_reached later) ns ≡ true
all_still payload later r [] h = refl
all_still payload later r (n ∷ ns) h =
    let parts = and_parts (is_reached payload n) (list_all (is_reached payload) ns) h in
    and_from (is_reached later n) (list_all (is_reached later) ns) (reached_still payload later r n parts.0) (all_still payload later r ns parts.1)

any_still : (payload later : ℕ → ℕ) → ((t : ℕ) → payload t ≤ later t) → (ns : List Need) → list_any (is_reached payload) ns ≡ true → list_any (is_reached later) ns ≡ true
any_still payload later r [] h = h
any_still payload later r (n ∷ ns) h =
    elim (or_cases (is_reached payload n) (list_any (is_reached payload) ns) h) [
      | inl t ↦ or_left (is_reached later n) (list_any (is_reached later) ns) (reached_still payload later r n t)
      | inr t ↦ or_right (is_reached later n) (list_any (is_reached later) ns) (any_still payload later r ns t)
    ]

pub are_reached_still : (p : Plan) (payload later : ℕ → ℕ) → ((t : ℕ) → payload t ≤ later t) → (j : ℕ) (k : Stage) → are_reached p payload j k ≡ true → are_reached p later j k ≡ true
are_reached_still p payload later r j k h = by_test (waits_for_any p j) refl
  where
    by_test : (b : Bool) → waits_for_any p j ≡ b → are_reached p later j k ≡ true
    by_test true e =
        cond-true (waits_for_any p j) (list_any (is_reached later) (needs_at p j k)) (list_all (is_reached later) (needs_at p j k)) e
        ∙ any_still payload later r (needs_at p j k) (sym (cond-true (waits_for_any p j) (list_any (is_reached payload) (needs_at p j k)) (list_all (is_reached payload) (needs_at p j k)) e) ∙ h)
    by_test false e =
        cond-false (waits_for_any p j) (list_any (is_reached later) (needs_at p j k)) (list_all (is_reached later) (needs_at p j k)) e
        ∙ all_still payload later r (needs_at p j k) (sym (cond-false (waits_for_any p j) (list_any (is_reached payload) (needs_at p j k)) (list_all (is_reached payload) (needs_at p j k)) e) ∙ h)
