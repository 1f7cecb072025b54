-- A history with one event more.
use Rattle.std.proofs.Common.{◌≡◌, List, [], ◌∷◌, ◌++◌, fold, refl}
use Rattle.vq_model.specs.declared.plan.Event.{Event}
use Rattle.vq_model.specs.Plan.{Plan}
use Rattle.vq_point_laws.specs.Points.{PointState, CanCome, after_event, HistoryFrom}

pub history_push : (p : Plan) (w : PointState) (xs : List Event) (x : Event) → HistoryFrom p w xs →
    CanCome p (fold (after_event p) w xs) x → HistoryFrom p w (xs ++ x ∷ [])
history_push p w [] x h can = (can, tt)
history_push p w (y ∷ ys) x h can = (h.0, history_push p (after_event p w y) ys x h.1 can)

pub world_push : (p : Plan) (w : PointState) (xs : List Event) (x : Event) →
    fold (after_event p) w (xs ++ x ∷ []) ≡ after_event p (fold (after_event p) w xs) x
world_push p w [] x = refl
world_push p w (y ∷ ys) x = world_push p (after_event p w y) ys x
