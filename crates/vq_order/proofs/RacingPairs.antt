-- Races among pairs of commands, the lesser number first.
use Rattle.std.proofs.Common.{◌≡◌, ℕ, ◌<◌, true, length, sym, inl, inr, subst, arith}
use Rattle.std.proofs.lemmas.Bool.{cases_eq, cases_lt}
use Rattle.vq_model.specs.Checks.{IsRaceAt, IsLeastPair, NoLines}
use Rattle.vq_model.specs.LoweredPlans.{IsPlan}
use Rattle.vq_model.specs.Plan.{Plan, commands_of, line_of_command}
use Rattle.vq_ground.specs.Lists.{has}
use Rattle.vq_model.specs.Races.{IsRace}
use Rattle.vq_model.specs.WellFormed.{IsWellFormed}
use Rattle.vq_model.proofs.Plans.{command_exists}
use Rattle.vq_plan_laws.proofs.Cited.{plan_lines, plan_well_formed}
use Rattle.vq_order.proofs.RaceLaws.{race_swap, first_pair_is_least}

pub race_exists : (p : Plan) → IsWellFormed p → (c d : ℕ) → IsRace p c d → (c < length p.commands) × (d < length p.commands)
race_exists p w c d r = (command_exists p w r.first_job c r.first, command_exists p w r.second_job d r.second)

pub not_itself : (p : Plan) → IsWellFormed p → (c d : ℕ) → c ≡ d → ¬ IsRace p c d
not_itself p w c d e r = r.two_jobs (w.one_job c r.first_job r.second_job r.first (subst (λ z. has (commands_of p r.second_job) z ≡ true) (sym e) r.second))

-- the first pair is the least
pub first_is_least : (p : Plan) → IsPlan p → (c d : ℕ) → c < d → IsRace p c d → ((a : ℕ) → a < c → ¬ IsRace p a d) → ((a b : ℕ) → a < b → b < d → ¬ IsRace p a b) → IsLeastPair (IsRaceAt p) (line_of_command p c) (line_of_command p d)
first_is_least p i c d l r f g =
    let w = plan_well_formed p i in
    first_pair_is_least p w (plan_lines p i).commands (race_exists p w) c d l r (λ a b m s. elim (cases_lt d b) [
      | inl h ↦ inl h
      | inr h ↦ elim (cases_eq d b) [
        | inl e ↦ elim (cases_lt a c) [ inl k ↦ absurd (f a k (subst (IsRace p a) (sym e) s)) | inr k ↦ inr (e, k) ]
        | inr n ↦ absurd (g a b m (grind arith) s)
      ]
    ])

-- no pair, so none at all
pub no_pair_races : (p : Plan) → IsPlan p → ((a b : ℕ) → a < b → b < length p.commands → ¬ IsRace p a b) → NoLines (IsRaceAt p)
no_pair_races p i f x y r = elim (cases_lt r.first r.second) [
  | inl l ↦ f r.first r.second l (race_exists p (plan_well_formed p i) r.first r.second r.race).1 r.race
  | inr g ↦ elim (cases_eq r.first r.second) [
    | inl e ↦ not_itself p (plan_well_formed p i) r.first r.second e r.race
    | inr n ↦ f r.second r.first (grind arith) (race_exists p (plan_well_formed p i) r.first r.second r.race).0 (race_swap p r.first r.second r.race)
  ]
]
