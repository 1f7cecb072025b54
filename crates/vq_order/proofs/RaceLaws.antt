-- The first pair of racing commands in the order of numbers is the least by lines.
use Rattle.std.proofs.Common.{◌≡◌, ℕ, ◌<◌, ◌≤◌, Bool, true, false, ◌||◌, List, length, Option, Some, None, refl, sym, ap, ◌∙◌, ◌⊎◌, inl, inr, subst, arith}
use Rattle.std.specs.Option.{option_map_or, option_to_list}
use Rattle.std.specs.List.{list_any}
use Rattle.std.proofs.lemmas.Bool.{cases_eq, cases_lt}
use Rattle.vq_model.specs.declared.script.Command.{Command}
use Rattle.vq_model.specs.Ranges.{share, conflict, written_range, read_range}
use Rattle.vq_model.specs.Plan.{Plan, commands_of, command_at}
use Rattle.vq_ground.specs.Lists.{has}
use Rattle.vq_model.specs.WellFormed.{IsWellFormed}
use Rattle.vq_model.specs.Races.{conflicts, IsRace}
use Rattle.vq_model.specs.Checks.{IsRaceAt, IsLeastPair}
use Rattle.vq_model.specs.Plan.{line_of_command}
use Rattle.vq_order_laws.proofs.Cited.{share_comm}

-- Conflicts go both ways

or_swap : (a b c : Bool) → ((a || b) || c) ≡ ((a || c) || b)
or_swap true b c = refl
or_swap false true true = refl
or_swap false true false = refl
or_swap false false true = refl
or_swap false false false = refl

pub conflict_swap : (sizes : List ℕ) (x y : Command) → conflict sizes x y ≡ conflict sizes y x
conflict_swap sizes x y =
    let wx = written_range sizes x in
    let wy = written_range sizes y in
    let a = option_map_or (share wx) (read_range y) false in
    let b = option_map_or (share wy) (read_range x) false in
    ap (λ t. (t || a) || b) (share_comm wx wy) ∙ or_swap (share wy wx) a b

pub conflicts_swap : (p : Plan) (c d : ℕ) → conflicts p c d ≡ conflicts p d c
conflicts_swap p c d = go (command_at p c) (command_at p d)
  where
    go : (o q : Option Command) → list_any (λ x. list_any (conflict p.sizes x) (option_to_list q)) (option_to_list o) ≡ list_any (λ x. list_any (conflict p.sizes x) (option_to_list o)) (option_to_list q)
    go None None = refl
    go None (Some y) = refl
    go (Some x) None = refl
    go (Some x) (Some y) = ap (λ t. (t || false) || false) (conflict_swap p.sizes x y)

pub race_swap : (p : Plan) (c d : ℕ) → IsRace p c d → IsRace p d c
race_swap p c d r =
    record {
      first_job = r.second_job;
      second_job = r.first_job;
      first = r.second;
      second = r.first;
      two_jobs = λ e. r.two_jobs (sym e);
      conflict = conflicts_swap p d c ∙ r.conflict;
      unordered = r.unordered_back;
      unordered_back = r.unordered;
    }

-- Lines of commands rise with their numbers. So the pair with the least second number, and then the least first one, is named.
pub first_pair_is_least : (p : Plan) → IsWellFormed p → ((c d : ℕ) → c < d → d < length p.commands → line_of_command p c < line_of_command p d) → ((c d : ℕ) → IsRace p c d → (c < length p.commands) × (d < length p.commands)) → (c d : ℕ) → c < d → IsRace p c d
    → ((a b : ℕ) → a < b → IsRace p a b → (d < b) ⊎ ((d ≡ b) × (c ≤ a))) → IsLeastPair (IsRaceAt p) (line_of_command p c) (line_of_command p d)
first_pair_is_least p w rise within c d l race least =
    record {
      holds = record { first = c; second = d; race = race; in_order = (let a = rise c d l (within c d race).1 in omega arith); first_line = refl; second_line = refl };
      least = λ x y r. by_order x y r (cases_lt r.first r.second);
    }
  where
    named : (a b : ℕ) → a < b → IsRace p a b → (line_of_command p d < line_of_command p b) ⊎ ((line_of_command p d ≡ line_of_command p b) × (line_of_command p c ≤ line_of_command p a))
    named a b m r = elim (least a b m r) [
      | inl q ↦ inl (rise d b q (within a b r).1)
      | inr q ↦ inr (ap (line_of_command p) q.0, elim (cases_eq c a) [ inl e ↦ (let g = ap (line_of_command p) e in omega arith) | inr e ↦ (let k = q.1 in let g = rise c a (grind arith) (within a b r).0 in omega arith) ])
    ]

    by_order : (x y : ℕ) (r : IsRaceAt p x y) → ((r.first < r.second) ⊎ (r.second ≤ r.first)) → (line_of_command p d < y) ⊎ ((line_of_command p d ≡ y) × (line_of_command p c ≤ x))
    by_order x y r (inl m) =
        subst (λ (z : ℕ × ℕ). (line_of_command p d < z.1) ⊎ ((line_of_command p d ≡ z.1) × (line_of_command p c ≤ z.0))) (λ i. (sym r.first_line i, sym r.second_line i)) (named r.first r.second m r.race)
    by_order x y r (inr m) = elim (cases_eq r.first r.second) [
      | inl e ↦ absurd (r.race.two_jobs (same r e))
      | inr e ↦
          let g = rise r.second r.first (grind arith) (within r.first r.second r.race).0 in
          let o = r.in_order in
          absurd (omega arith)
    ]
      where
        same : (r : IsRaceAt p x y) → r.first ≡ r.second → r.race.first_job ≡ r.race.second_job
        same r e = w.one_job r.first r.race.first_job r.race.second_job r.race.first (subst (λ z. has (commands_of p r.race.second_job) z ≡ true) (sym e) r.race.second)
