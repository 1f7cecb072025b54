-- Points found in use one after another: the pass has looked, and its own lists are as they were.
use Rattle.std.proofs.Common.{◌≡◌, ℕ, List, [], ◌∷◌, ◌++◌, refl, sym, ap, ◌∙◌, subst, inl, inr}
use Rattle.vq_model.specs.Plan.{Plan}
use Rattle.vq_point_laws.specs.Timeline.{Timeline}
use Rattle.vq_board_laws.specs.declared.view.View.{View}
use Rattle.vq_board_laws.specs.MayPoints.{MayRetire}
use Rattle.vq_timeline_laws.specs.Shelves.{IsKept}
use Rattle.vq_timeline_laws.specs.Waiting.{FindsInUse, FindsAllInUse}

-- the pass has looked, and done nothing else
abbrev pub HasLooked : View → View → Type 0
HasLooked v w = w ≡ record v { known = w.known; unmade = w.unmade; steps = w.steps }

looked_on : (u v w : View) → HasLooked u v → HasLooked v w → HasLooked u w
looked_on u v w a b =
    b ∙ ap (λ (z : View). record z { known = w.known; unmade = w.unmade; steps = w.steps }) a

pub one_looked : (v w : View) (q : ℕ) → FindsInUse v w q → HasLooked v w
one_looked v w q (inl (n, used, is)) =
    is ∙ ap (λ (z : View). record v { known = z.known; unmade = z.unmade; steps = z.steps }) (sym is)
one_looked v w q (inr (n, found, changed, is)) =
    is ∙ ap (λ (z : View). record v { known = z.known; unmade = z.unmade; steps = z.steps }) (sym is)

pub all_looked : (qs : List ℕ) (v w : View) → FindsAllInUse qs v w → HasLooked v w
all_looked [] v w same = same ∙ ap (λ (z : View). record v { known = z.known; unmade = z.unmade; steps = z.steps }) (sym same)
all_looked (q ∷ qs) v w (u, one, all) = looked_on v u w (one_looked v u q one) (all_looked qs u w all)

-- one more
pub found_more : (qs : List ℕ) (q : ℕ) (v u w : View) → FindsAllInUse qs v u → FindsInUse u w q →
    FindsAllInUse (qs ++ q ∷ []) v w
found_more [] q v u w same one = (w, subst (λ (z : View). FindsInUse z w q) same one, refl)
found_more (r ∷ qs) q v u w (m, first, all) one = (m, first, found_more qs q m u w all one)

-- what is true of the shelf stays so
pub kept_looked : (p : Plan) (t : ℕ) (c : Timeline) (v w : View) → HasLooked v w → IsKept p t c v → IsKept p t c w
kept_looked p t c v w same x =
    subst (λ (z : View). IsKept p t c z) (sym same)
    (record { plan = x.plan; lawful = x.lawful; lists = x.lists; kept = x.kept })

pub retires_still : (p : Plan) (v w : View) (q e : ℕ) → HasLooked v w → MayRetire p v q e → MayRetire p w q e
retires_still p v w q e same m =
    subst (λ (z : View). MayRetire p z q e) (sym same) (record { carries = m.carries; past = m.past })
