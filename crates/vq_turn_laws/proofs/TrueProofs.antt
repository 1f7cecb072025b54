-- That a place is true has at most one proof, so it may be a ghost fact of a type.
use Rattle.std.proofs.Common.{ℕ, Bool, List, [], ◌∷◌, refl}
use Rattle.std.proofs.Props.{props}
use Rattle.vq_model.specs.declared.script.ActorName.{ActorName}
use Rattle.vq_model.specs.declared.plan.Need.{Need}
use Rattle.vq_model.specs.Plan.{Plan}
use Rattle.vq_point_laws.specs.Points.{PointState}
use Rattle.vq_turns.specs.declared.task.Task.{Task}
use Rattle.vq_turns.specs.declared.task.Task.TheVariants.{AwaitSubmitted, AwaitReleased, AwaitFinished, AwaitBound}
use Rattle.vq_turns.specs.declared.task.Task.TheVariants.{AwaitNeeds, Submit, Take, Release, Bind, Start, Apply, Signal}
use Rattle.vq_turns.specs.declared.task.Task.TheVariants.{Compare, Answer, Finish}
use Rattle.vq_turns.specs.declared.look.Holding.{Holding}
use Rattle.vq_turns.specs.declared.look.Seen.{Seen}
use Rattle.vq_turns.specs.Turns.{Place}
use Rattle.vq_turn_laws.specs.Holdings.{HoldsTruly}
use Rattle.vq_turn_laws.specs.Places.{IsDone, IsLeft}
use Rattle.vq_turn_laws.specs.Tasks.{Each}
use Rattle.vq_turn_laws.specs.TruePlaces.{Stands, SawTruly, IsTrueFor}
use Rattle.vq_turn_laws.specs.Worlds.{Sees}

done_prop : (w : PointState) (t : Task) → IsProp (IsDone w t)
done_prop w (AwaitSubmitted j) = Prim.hlevel props
done_prop w (AwaitReleased j) = Prim.hlevel props
done_prop w (AwaitFinished j) = Prim.hlevel props
done_prop w (AwaitBound e) = Prim.hlevel props
done_prop w (AwaitNeeds ns) = Prim.hlevel props
done_prop w (Submit j) = Prim.hlevel props
done_prop w (Take e c) = Prim.hlevel props
done_prop w (Release j) = Prim.hlevel props
done_prop w (Bind e) = Prim.hlevel props
done_prop w (Start j) = Prim.hlevel props
done_prop w (Apply j d) = Prim.hlevel props
done_prop w (Signal e) = Prim.hlevel props
done_prop w (Compare c v) = Prim.hlevel props
done_prop w (Answer j q) = Prim.hlevel props
done_prop w (Finish j) = Prim.hlevel props

left_prop : (w : PointState) (t : Task) → IsProp (IsLeft w t)
left_prop w (AwaitSubmitted j) = Prim.hlevel props
left_prop w (AwaitReleased j) = Prim.hlevel props
left_prop w (AwaitFinished j) = Prim.hlevel props
left_prop w (AwaitBound e) = Prim.hlevel props
left_prop w (AwaitNeeds ns) = Prim.hlevel props
left_prop w (Submit j) = Prim.hlevel props
left_prop w (Take e c) = Prim.hlevel props
left_prop w (Release j) = Prim.hlevel props
left_prop w (Bind e) = Prim.hlevel props
left_prop w (Start j) = Prim.hlevel props
left_prop w (Apply j d) = Prim.hlevel props
left_prop w (Signal e) = Prim.hlevel props
left_prop w (Compare c v) = Prim.hlevel props
left_prop w (Answer j q) = Prim.hlevel props
left_prop w (Finish j) = Prim.hlevel props

each_prop : (P : Task → Type 0) → ((t : Task) → IsProp (P t)) → (ts : List Task) → IsProp (Each P ts)
each_prop P f [] x y = refl
each_prop P f (t ∷ ts) x y = λ i. (f t x.0 y.0 i, each_prop P f ts x.1 y.1 i)

sees_prop : (p : Plan) (w : PointState) (j : ℕ) (qs : List (ℕ × ℕ)) (xs : List Seen) → IsProp (Sees p w j qs xs)
sees_prop p w j [] [] = Prim.hlevel props
sees_prop p w j [] (x ∷ xs) = Prim.hlevel props
sees_prop p w j ((t, v) ∷ qs) [] = Prim.hlevel props
sees_prop p w j ((t, v) ∷ qs) (x ∷ xs) = let rest = sees_prop p w j qs xs in Prim.hlevel props

holds_prop : (p : Plan) (w : PointState) (a : ActorName) (before : List Task) (j : ℕ) (ns : List Need)
    (holding : List Holding) (met : Bool) → IsProp (HoldsTruly p w a before j ns holding met)
holds_prop p w a before j ns holding met = Prim.hlevel props

stands_prop : (p : Plan) (w : PointState) (a : ActorName) (before after : List Task) (holding : List Holding)
    (met : Bool) → IsProp (Stands p w a before after holding met)
stands_prop p w a before after holding met = Prim.hlevel
    (props, each_prop (IsDone w) (done_prop w), each_prop (IsLeft w) (left_prop w), holds_prop)

saw_prop : (p : Plan) (w : PointState) (before after : List Task) (seen : List Seen) →
    IsProp (SawTruly p w before after seen)
saw_prop p w before after seen = Prim.hlevel (props, sees_prop)

pub true_for_prop : (p : Plan) (w : PointState) (a : ActorName) (x : Place) → IsProp (IsTrueFor p w a x)
true_for_prop p w a x = Prim.hlevel (props, stands_prop, saw_prop)
