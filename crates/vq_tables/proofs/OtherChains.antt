-- Needs on another chain than that of an operation, which it can't resolve.
use Rattle.std.proofs.Common.{◌≡◌, ℕ, ◌==◌, ◌∙◌, false, Option, Some, None, refl, sym, ap, inl, inr}
use Rattle.std.specs.Prelude.{nat_le}
use Rattle.std.specs.List.{slice_get}
use Rattle.std.specs.Option.{option_map, option_map_or}
use Rattle.std.proofs.lemmas.Bool.{cases_eq, ne_eqb}
use Rattle.vq_model.specs.declared.plan.Need.{Need}
use Rattle.vq_model.specs.declared.plan.Op.{Op}
use Rattle.vq_model.specs.LoweredPlans.{IsPlan}
use Rattle.vq_model.specs.Plan.{Plan, chain, chain_of, resolver, value}
use Rattle.vq_ground.proofs.Searches.{find_member}
use Rattle.vq_plan_laws.proofs.Cited.{plan_well_formed}
use Rattle.vq_point_laws.specs.Points.{resolves}

pub never_resolves : (p : Plan) → IsPlan p → (e : ℕ) (o : Op) (n : Need) → slice_get p.ops e ≡ Some o →
    (o.chain ≡ n.chain → ⊥) → resolves p e n ≡ false
never_resolves p i e o n at other = by_option (resolver p n.chain n.value) refl
  where
    by_option : (x : Option ℕ) → resolver p n.chain n.value ≡ x → option_map_or (λ r. r == e) x false ≡ false
    by_option None q = refl
    by_option (Some r) q =
        elim (cases_eq r e) [
          | inl same ↦
              absurd (let within = (plan_well_formed p i).of_chain r n.chain
              (find_member (λ k. nat_le n.value (value p k)) (chain p n.chain) r q) in
              let here : chain_of p e ≡ Some o.chain = ap (option_map (λ (x : Op). x.chain)) at in
              let there : Some o.chain ≡ Some n.chain = sym here ∙ (ap (chain_of p) (sym same) ∙ within) in
              let equal : o.chain ≡ n.chain = cc in
              other equal)
          | inr apart ↦ ne_eqb r e apart
        ]
