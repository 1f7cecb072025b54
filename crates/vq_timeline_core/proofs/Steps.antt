-- What each call leaves of a timeline's lists, written field by field.
use Rattle.std.proofs.Common.{◌≡◌, ℕ, ◌+◌, ◌<◌, List, [], ◌∷◌, ◌++◌, length, filter, not, set, Option, Some, None, replicate, sym, ◌∙◌, ap, subst}
use Rattle.std.specs.Prelude.{◌==◌}
use Rattle.vq_point_laws.specs.Timeline.{Timeline, KeepsLists, new_timeline, point_at, MayTake, take_from, after_complete, complete_from, MayFree, after_free}
use Rattle.vq_ground.specs.Lists.{AreRisingFrom}
use Rattle.vq_point_laws.proofs.Cited.{new_keeps, take_keeps, complete_keeps, least_pending, free_keeps}

pub opened_keeps : (initial : ℕ) (values vs ws fs : List ℕ) (ps : List (Option ℕ)) → AreRisingFrom initial values → vs ≡ values → ps ≡ replicate (length values) None → ws ≡ [] → fs ≡ [] → KeepsLists (record { initial = initial; values = vs; points = ps; bound = 0; completed = 0; waiting = ws; free = fs; made = 0 })
opened_keeps initial values vs ws fs ps h a b c d =
    let same : new_timeline initial values ≡ record { initial = initial; values = vs; points = ps; bound = 0; completed = 0; waiting = ws; free = fs; made = 0 } =
    λ i. record { initial = initial; values = sym a i; points = sym b i; bound = 0; completed = 0; waiting = sym c i; free = sym d i; made = 0 } in
    subst KeepsLists same (new_keeps initial values h)

pub reused_keeps : (t : Timeline) (index fresh point : ℕ) (rest : List ℕ) → KeepsLists t → MayTake t index fresh → t.free ≡ point ∷ rest → KeepsLists (record t { points = set t.points index (Some point); free = rest })
reused_keeps t index fresh point rest k can e =
    subst (λ (free : List ℕ). KeepsLists (take_from t index fresh free)) e (take_keeps t index fresh k can)

pub fresh_keeps : (t : Timeline) (index fresh : ℕ) (rest : List ℕ) → KeepsLists t → MayTake t index fresh → t.free ≡ [] → rest ≡ [] → KeepsLists (record t { points = set t.points index (Some fresh); free = rest; made = t.made + 1 })
fresh_keeps t index fresh rest k can e f =
    subst (λ (free : List ℕ). KeepsLists (record t { points = set t.points index (Some fresh); free = free; made = t.made + 1 })) (e ∙ sym f)
    (subst (λ (free : List ℕ). KeepsLists (take_from t index fresh free)) e (take_keeps t index fresh k can))

pub completed_is : (t : Timeline) (point : ℕ) (waiting : List ℕ) → KeepsLists t → t.completed < t.bound → point_at t t.completed ≡ Some point → waiting ≡ t.waiting ++ point ∷ [] → record t { completed = t.completed + 1; waiting = waiting } ≡ after_complete t
completed_is t point waiting k some e w =
    let least = least_pending t k some in
    let found = least.1.point in
    let same : point ≡ least.0.point = cc in
    (λ i. record t { completed = t.completed + 1; waiting = (w ∙ ap (λ (p : ℕ). t.waiting ++ p ∷ []) same) i })
    ∙ sym (ap (complete_from t) least.1.first)

pub completed_keeps : (t : Timeline) (point : ℕ) (waiting : List ℕ) → KeepsLists t → t.completed < t.bound → point_at t t.completed ≡ Some point → waiting ≡ t.waiting ++ point ∷ [] → KeepsLists (record t { completed = t.completed + 1; waiting = waiting })
completed_keeps t point waiting k some e w =
    subst KeepsLists (sym (completed_is t point waiting k some e w)) (complete_keeps t k)

pub freed_is : (t : Timeline) (point : ℕ) (waiting free : List ℕ) → waiting ≡ filter (λ p. not (p == point)) t.waiting → free ≡ point ∷ t.free → record t { waiting = waiting; free = free } ≡ after_free t point
freed_is t point waiting free w f = λ i. record t { waiting = w i; free = f i }

pub freed_keeps : (t : Timeline) (point : ℕ) (waiting free : List ℕ) → KeepsLists t → MayFree t point → waiting ≡ filter (λ p. not (p == point)) t.waiting → free ≡ point ∷ t.free → KeepsLists (record t { waiting = waiting; free = free })
freed_keeps t point waiting free k can w f =
    subst KeepsLists (sym (freed_is t point waiting free w f)) (free_keeps t point k can)
