-- References that are held for needs of the wait that is next.
use Rattle.std.proofs.Common.{◌≡◌, ℕ, ◌<◌, Bool, true, false, if◌then◌else◌, List, [], ◌∷◌, length, All, Some}
use Rattle.std.proofs.Common.{sym, subst, find, nat_lt, ◌∙◌, ◌==◌}
use Rattle.std.specs.List.{slice_get}
use Rattle.std.proofs.lemmas.List.Elements.{All-nil, All-cons, All-head, All-tail}
use Rattle.vq_ground.proofs.Gets.{get_some, get_within}
use Rattle.vq_model.specs.declared.plan.Need.{Need}
use Rattle.vq_turns.specs.declared.look.Holding.{Holding}
use Rattle.vq_turns.specs.declared.task.Task.{Task}
use Rattle.vq_turns.specs.declared.task.Task.TheVariants.{AwaitNeeds}
use Rattle.vq_turns.specs.Turns.{Place, held_for, with_holding, holding_also}
use Rattle.vq_core_run.specs.Seats.{HoldsForNeeds}

-- what is found passes, where all of a list do
all_found : {A : Type 0} (P : A → Type 0) (test : A → Bool) (xs : List A) (x : A) → All P xs →
    find test xs ≡ Some x → P x
all_found P test [] x all e = absurd (cc)
all_found {A} P test (y ∷ ys) x all e = by_test (test y) e (all_found P test ys x (All-tail P y ys all))
  where
    by_test : (b : Bool) → (if b then Some y else find test ys) ≡ Some x → (find test ys ≡ Some x → P x) → P x
    by_test true z others = let same : y ≡ x = cc in subst P same (All-head P y ys all)
    by_test false z others = others z

-- one reference more
all_with : (P : Holding → Type 0) (h : Holding) (hs : List Holding) → P h → All P hs → All P (with_holding h hs)
all_with P h [] p all = All-cons P h [] p (All-nil P)
all_with P h (x ∷ xs) p all = by_test (nat_lt h.need x.need) (all_with P h xs p (All-tail P x xs all))
  where
    by_test : (b : Bool) → All P (with_holding h xs) → All P (if b then h ∷ x ∷ xs else x ∷ with_holding h xs)
    by_test true others = All-cons P h (x ∷ xs) p all
    by_test false others = All-cons P x (with_holding h xs) (All-head P x xs all) others

-- where nothing is held
pub nothing_held : (tasks : List Task) (x : Place) → x.holding ≡ [] → HoldsForNeeds tasks x
nothing_held tasks x none =
    λ ns at. subst (λ (hs : List Holding). All (λ h. h.need < length ns) hs) (sym none) (All-nil (λ h. h.need < length
    ns))

some_task : (t u : Task) → Some t ≡ Some u → t ≡ u
some_task t u e = cc

some_needs : (ns ms : List Need) → AwaitNeeds ns ≡ AwaitNeeds ms → ns ≡ ms
some_needs ns ms e = cc

module _ (tasks : List Task) (x : Place) (ns : List Need) (next : slice_get tasks x.done ≡ Some (AwaitNeeds ns)) where
  -- the needs of a wait that is next are these
  same_needs : (P : List Need → Type 0) → P ns → (ms : List Need) → slice_get tasks x.done ≡ Some (AwaitNeeds ms) → P ms
  same_needs P p ms at =
      let same : ns ≡ ms = some_needs ns ms (some_task (AwaitNeeds ns) (AwaitNeeds ms) (sym next ∙ at)) in
      subst P same p

  pub held_also : (k e q : ℕ) (n : Need) → slice_get ns k ≡ Some n → HoldsForNeeds tasks x →
      HoldsForNeeds tasks (holding_also x k e q)
  held_also k e q n at h =
      same_needs (λ (ms : List Need). All (λ g. g.need < length ms) (holding_also x k e q).holding)
      (all_with (λ (g : Holding). g.need < length ns) (record { need = k; point = q; op = e }) x.holding
      (get_within ns k n at) (h ns next))

  -- the first reference is given back, and others are left
  pub held_behind : (g h : Holding) (hs : List Holding) → x.holding ≡ g ∷ h ∷ hs → HoldsForNeeds tasks x →
      HoldsForNeeds tasks (record x { holding = h ∷ hs; met = true })
  held_behind g h hs e k =
      same_needs (λ (ms : List Need). All (λ f. f.need < length ms) (h ∷ hs))
      (All-tail (λ (f : Holding). f.need < length ns) g (h ∷ hs)
      (subst (λ (fs : List Holding). All (λ f. f.need < length ns) fs) e (k ns next)))

  -- a reference is for a need of the wait
  pub need_of : (k q e : ℕ) → held_for k x.holding ≡ Some (record { need = k; point = q; op = e }) →
      HoldsForNeeds tasks x → (n : Need) × (slice_get ns k ≡ Some n)
  need_of k q e is h =
      get_some ns k (all_found (λ (f : Holding). f.need < length ns) (λ f. f.need == k) x.holding (record {
        need = k;
        point = q;
        op = e;
      }) (h ns next) is)

-- where a reference is held for a need, something is held
pub held_some : (k : ℕ) (hs : List Holding) (h : Holding) → held_for k hs ≡ Some h → hs ≡ [] → ⊥
held_some k [] h e n = cc
held_some k (g ∷ hs) h e n = cc
