-- Where the rule allows a step, it holds right before it and right after it.
use Rattle.std.proofs.Common.{◌≡◌, ℕ, ◌+◌, ◌%◌, ◌^◌, eqb, slice_index, sym, subst, refl}
use prog.Atomic.{either}
use Rattle.atomic_table.specs.Table as Table
use Rattle.atomic_table.specs.Table.{State, Allows, step, stepped, homes_after}
use mathlib.Core.Option.{none}
use Rattle.vq_model.specs.Plan.{Plan}
use Rattle.vq_board_laws.specs.declared.view.LoggedBuffers.{LoggedBuffers}
use Rattle.vq_board_laws.specs.declared.view.View.{View}
use Rattle.vq_board_laws.specs.Moments.{IsStep, StepFacts, in_load, in_store, in_change}
use Rattle.vq_board_laws.specs.Rule.{Kept}
use Rattle.vq_board_laws.specs.Steps.{Mine}

module _ (p : Plan) (slots id : ℕ) (m : Mine) where
  step_at : (word : ℕ) (f : ℕ → ℕ) (told : ℕ → Mine → Type 0) → Allows (Kept p) slots id m word f told → Allows (Kept p) slots id m word f (λ n m'. told n m' × IsStep m.0.plan m.0 m'.0 word n (f n))
  unfolding IsStep
  step_at word f told allowed s k deep at fits =
      let t = allowed s k deep at fits in
      let plan : m.0.plan ≡ p = k.rule.ownership.plans id m.0 at in
      let n : ℕ = slice_index s.words word in (
        t.0,
        t.1,
        t.2,
        t.3,
        (
          t.4,
          record {
            before = s;
            kept = subst (λ (q : Plan). Kept q s) (sym plan) k;
            place = id;
            at = at;
            finds = refl;
            homes = homes_after s.homes m.1 t.1;
            after = subst (λ (q : Plan). Kept q (stepped s word (f n) id m.1 t.0 t.1)) (sym plan) t.3;
          },
        ),
      )

  module _ (told : Table.Step LoggedBuffers → Mine → ℕ → Mine → Type 0) (at word : ℕ) (same : at ≡ word) where
    pub loads_at : Allows (Kept p) slots id m word (λ n. n) (told (step slots word 0 0 none) m) → Allows (Kept p) slots id m at (λ n. n) (in_load told (step slots at 0 0 none) m)
    loads_at allowed =
        subst (λ (i : ℕ). Allows (Kept p) slots id m i (λ n. n) (in_load told (step slots i 0 0 none) m)) (sym same) (step_at word (λ n. n) (told (step slots word 0 0 none) m) allowed)

    pub stores_at : (x : ℕ) → Allows (Kept p) slots id m word (λ _. x) (λ _. told (step slots word x 0 none) m x) → Allows (Kept p) slots id m at (λ _. x) (λ _. in_store told (step slots at x 0 none) m x)
    stores_at x allowed =
        subst (λ (i : ℕ). Allows (Kept p) slots id m i (λ _. x) (λ _. in_store told (step slots i x 0 none) m x)) (sym same) here
      where
        here : Allows (Kept p) slots id m word (λ _. x) (λ _. in_store told (step slots word x 0 none) m x)
        here s k deep mine fits =
            let t = step_at word (λ _. x) (λ _. told (step slots word x 0 none) m x) allowed s k deep mine fits in
            (t.0, t.1, t.2, t.3, (t.4.0, (slice_index s.words word, t.4.1)))

    changes_at : (f : ℕ → ℕ) (a b : ℕ) → Allows (Kept p) slots id m word f (told (step slots word a b none) m) → Allows (Kept p) slots id m at f (in_change told (step slots at a b none) m)
    changes_at f a b allowed =
        subst (λ (i : ℕ). Allows (Kept p) slots id m i f (in_change told (step slots i a b none) m)) (sym same) here
      where
        here : Allows (Kept p) slots id m word f (in_change told (step slots word a b none) m)
        here s k deep mine fits =
            let t = step_at word f (told (step slots word a b none) m) allowed s k deep mine fits in
            (t.0, t.1, t.2, t.3, (t.4.0, (f (slice_index s.words word), t.4.1)))

    pub adds_at : (k : ℕ) → Allows (Kept p) slots id m word (λ n. (n + k) % 2 ^ 64) (told (step slots word k 0 none) m) → Allows (Kept p) slots id m at (λ n. (n + k) % 2 ^ 64) (in_change told (step slots at k 0 none) m)
    adds_at k allowed = changes_at (λ n. (n + k) % 2 ^ 64) k 0 allowed

    pub exchanges_at : (old new : ℕ) → Allows (Kept p) slots id m word (λ n. either (eqb n old) new n) (told (step slots word old new none) m) → Allows (Kept p) slots id m at (λ n. either (eqb n old) new n) (in_change told (step slots at old new none) m)
    exchanges_at old new allowed = changes_at (λ n. either (eqb n old) new n) old new allowed

-- what there is to a step
pub step_facts : (p : Plan) (v w : View) (word found left : ℕ) → IsStep p v w word found left → StepFacts p v w word found left
unfolding IsStep
step_facts p v w word found left step = step
