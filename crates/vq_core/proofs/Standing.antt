-- Where an operation stands, by its timeline.
use Rattle.std.proofs.Common.{◌≡◌, ℕ, Bool, true, false, cond, Option, Some, None, refl, sym, ap, ◌∙◌}
use Rattle.std.specs.Prelude.{nat_lt}
use Rattle.std.specs.List.{slice_get}
use Rattle.std.specs.Option.{option_map_or}
use Rattle.std.proofs.lemmas.Bool.{ltb-true}
use Rattle.vq_model.specs.declared.plan.Op.{Op}
use Rattle.vq_point_laws.specs.Timeline.{Timeline, KeepsLists, point_at}
use Rattle.vq_timeline_core.specs.Answers.{place_of, open_place}
use Rattle.vq_timeline_core.specs.declared.answers.OpPlace.{OpPlace}
use Rattle.vq_timeline_core.specs.declared.answers.OpPlace.TheVariants as place_as
use Rattle.vq_turns.specs.declared.look.Found.{Found}
use Rattle.vq_turns.specs.declared.look.Found.TheVariants as found_as
use Rattle.vq_turns.specs.Turns.{found_by}
use Rattle.vq_core_laws.specs.TimelineOf.{IsTimelineOf}
use Rattle.vq_core.specs.CoreState.{Course, world, IsCourse}
use Rattle.vq_core.proofs.Courses.{plan_facts}
use Rattle.vq_core.proofs.Ops.{first_is, point_is}

-- what is found of an operation, by its place
abbrev pub found_at : ℕ → OpPlace → Found
found_at e place_as.Past = found_as.Past
found_at e (place_as.Pending q) = found_as.Pending e q
found_at e (place_as.Taken q) = found_as.NotYet e
found_at e place_as.Without = found_as.NotYet e

by_parts : (e : ℕ) (past bound : Bool) (o : Option ℕ) → (bound ≡ true → o ≡ None → ⊥) →
    cond past (Some found_as.Past)
    (cond bound (Some (found_as.Pending e (option_map_or (λ q. q) o 0))) (Some (found_as.NotYet e))) ≡ Some
    (found_at e (cond past place_as.Past (open_place bound o)))
by_parts e true bound o had = refl
by_parts e false true None had = absurd (had refl refl)
by_parts e false true (Some q) had = refl
by_parts e false false None had = refl
by_parts e false false (Some q) had = refl

module _ (s : Course) (k : IsCourse s) (e : ℕ) (o : Op) (at : slice_get s.plan.ops e ≡ Some o) (l : Timeline)
    (is : IsTimelineOf s.plan (world s) o.chain l) (kept : KeepsLists l) where
  past_is : nat_lt o.index l.completed ≡ (world s).past e
  past_is = first_is s.plan (plan_facts s k) e o at (world s).past l.completed is.completed

  bound_is : nat_lt o.index l.bound ≡ (world s).bound e
  bound_is = first_is s.plan (plan_facts s k) e o at (world s).bound l.bound is.bound

  point : point_at l o.index ≡ (world s).point_of e
  point = point_is s.plan (plan_facts s k) e o at (world s) l is

  pub standing_is : (x : OpPlace) → place_of l o.index ≡ x → found_by (world s) (Some e) ≡ Some (found_at e x)
  standing_is x h =
      by_parts e ((world s).past e) ((world s).bound e) ((world s).point_of e)
      (λ b none. kept.had o.index (ltb-true o.index l.bound (bound_is ∙ b)) (point ∙ none))
      ∙ sym (λ i. Some (found_at e (cond (past_is i) place_as.Past (open_place (bound_is i) (point i)))))
      ∙ ap (λ (y : OpPlace). Some (found_at e y)) h
