-- Waits for needs, for whichever actor it is that the pass serves: the waiting one is its own.
use Rattle.std.proofs.Common.{◌≡◌, ℕ, ◌<◌, ◌≤◌, true, false, List, ◌∷◌, Some, None, length, refl, sym, subst}
use Rattle.std.specs.List.{slice_get, list_any}
use Rattle.std.proofs.lemmas.Bool.{false≢true}
use Rattle.vq_board_laws.proofs.Cited.{learns_look}
use Rattle.vq_model.specs.Checks.{IsLawful}
use Rattle.vq_model.specs.LoweredPlans.{IsPlan}
use Rattle.vq_model.specs.declared.plan.Lane.TheVariants.{Host as HostLane, Queue as QueueLane}
use Rattle.vq_model.specs.declared.plan.Need.{Need}
use Rattle.vq_model.specs.declared.script.ActorName.{ActorName}
use Rattle.vq_model.specs.declared.script.ActorName.TheVariants.{Host as HostActor, Submit as SubmitActor}
use Rattle.vq_model.specs.declared.script.ActorName.TheVariants.{Ring as RingActor}
use Rattle.vq_model.specs.Outputs.{asking}
use Rattle.vq_model.specs.Plan.{Plan}
use Rattle.vq_point_laws.specs.PointWord.{parts}
use Rattle.vq_turns.specs.declared.look.Holding.{Holding}
use Rattle.vq_turns.specs.declared.task.Task.TheVariants.{AwaitNeeds}
use Rattle.vq_turns.specs.Programs.{program}
use Rattle.vq_turns.specs.Turns.{Place, held_for, holding_also}
use Rattle.vq_actor.specs.Stages.{Serves}
use Rattle.vq_actor.specs.Waits.{met_at, looked_at, given_back}
use Rattle.vq_board_laws.specs.declared.view.View.{View}
use Rattle.vq_board_laws.specs.MayPoints.{MayRefer}
use Rattle.vq_board_laws.specs.Points.{reference, Lists}
use Rattle.vq_board_laws.specs.PointSteps.{sees, refers, unrefers}
use Rattle.vq_board_laws.specs.Roles.{role_number}
use Rattle.vq_board_laws.specs.Words.{Carries}
use Rattle.vq_board_laws.specs.Learning.{Learns}
use Rattle.vq_access_laws.specs.Tests.{shows_reached}
use Rattle.vq_access_laws.specs.TruePasses.{AreTrue, Moves, is_for, role_of_actor}
use Rattle.vq_access_laws.proofs.Guards.{kind, role, runner_own}
use Rattle.vq_access_laws.proofs.HeldLists.{held_one}
use Rattle.vq_access_laws.proofs.OwnRules.{learned_own, learned_lists, learned_role, learned_told}
use Rattle.vq_access_laws.proofs.PlainSteps.{true_learned}
use Rattle.vq_access_laws.proofs.TaskKinds.{is_task_of}
use Rattle.vq_access_laws.proofs.WaitSteps.{own_held, own_first, own_room, own_past, own_met, own_referred, own_given_back, held_reached, seen_made, here}

module _ (p : Plan) (i : IsPlan p) (l : IsLawful p) (a : ActorName) (v : View) (places : ActorName → Place)
    (k : AreTrue p a v places) (b : ActorName) (s : Serves p a b) (ns : List Need)
    (next : slice_get (program p b) (places b).done ≡ Some (AwaitNeeds ns)) where
  own : b ≡ a
  own = runner_own p i l a v places k b s (AwaitNeeds ns) next (λ q. refl)

  next_own : slice_get (program p a) (places a).done ≡ Some (AwaitNeeds ns)
  next_own = subst (λ (c : ActorName). slice_get (program p c) (places c).done ≡ Some (AwaitNeeds ns)) own next

  -- a reference may be taken for a need for which none is held
  pub may_refer : (n q e : ℕ) → is_for p ns (record { need = n; point = q; op = e }) ≡ true →
      held_for n (places b).holding ≡ None → length ns ≤ 16 → MayRefer p v
  may_refer n q e t none few = by_actor b (role p i l a v places k b s) (kind p i l a v places k b s (AwaitNeeds ns) next)
    where
      room : length v.refs < 16
      room = own_room p i l a v places k ns next_own (record { need = n; point = q; op = e }) t
          (subst (λ (c : ActorName). held_for n (places c).holding ≡ None) own none) few

      by_actor : (c : ActorName) → v.role ≡ role_number p (role_of_actor p c) → is_task_of p c (AwaitNeeds ns) ≡ true → MayRefer p v
      by_actor HostActor r h = record { lane = HostLane; runner = sym r; room = room }
      by_actor (SubmitActor c) r h = absurd (false≢true h)
      by_actor (RingActor c) r h = record { lane = QueueLane c; runner = sym r; room = room }

  -- what is held for a need is a reference of the pass, to a point that may be
  pub listed_held : (n q e : ℕ) → held_for n (places b).holding ≡ Some (record { need = n; point = q; op = e }) →
      Lists v.refs (reference q e) × (q < length p.ops)
  listed_held n q e at = own_held p i l a v places k ns next_own n (record { need = n; point = q; op = e })
      (subst (λ (c : ActorName). held_for n (places c).holding ≡ Some (record { need = n; point = q; op = e })) own at)

  pub listed_first : (h : Holding) (hs : List Holding) → (places b).holding ≡ h ∷ hs →
      Lists v.refs (reference h.point h.op) × (h.point < length p.ops)
  listed_first h hs is = own_first p i l a v places k ns next_own h hs
      (subst (λ (c : ActorName). (places c).holding ≡ h ∷ hs) own is)

  module _ (after : ActorName → Place) where
    -- a need was found past: looks showed it reached
    pub true_past : (w : View) → Learns v w → (places b).met ≡ false → list_any (shows_reached p w.known) ns ≡ true →
        Moves places b (met_at (places b) (places b).holding) after → AreTrue p a w after
    true_past w learned unmet reached moves = own_past p i l a v places k ns next_own after w
        (learned_own v w learned) (learned_role v w learned) (learned_told v w learned (asking p) k.told) (learned_lists v w learned None)
        (subst (λ (c : ActorName). (places c).met ≡ false) own unmet) reached
        (subst (λ (c : ActorName). Moves places c (met_at (places c) (places c).holding) after) own moves)

    -- the point of a reference was seen signaled
    pub true_met : (n q e m : ℕ) → held_for n (places b).holding ≡ Some (record { need = n; point = q; op = e }) → Carries m e →
        (parts m).signaled ≡ true → Moves places b (looked_at (places b)) after → AreTrue p a (sees v q m) after
    true_met n q e m at carries signaled moves =
        let at2 = subst (λ (c : ActorName). held_for n (places c).holding ≡ Some (record { need = n; point = q; op = e })) own at in
        let h = here p i l a v places k ns next_own in
        own_met p i l a v places k ns next_own after (sees v q m)
        (learned_own v (sees v q m) (learns_look v q m)) refl k.told (learned_lists v (sees v q m) (learns_look v q m) None)
        (held_reached p (sees v q m).known ns (record { need = n; point = q; op = e })
        (held_one (is_for p ns) n (places a).holding (record { need = n; point = q; op = e }) at2 h.holds.for_needs).0
        (seen_made v q m e carries signaled))
        (subst (λ (c : ActorName). Moves places c (looked_at (places c)) after) own moves)

-- with the look before the exchange
module _ (p : Plan) (i : IsPlan p) (l : IsLawful p) (a : ActorName) (v : View) (places : ActorName → Place)
    (k : AreTrue p a v places) (b : ActorName) (s : Serves p a b) (ns : List Need)
    (next : slice_get (program p b) (places b).done ≡ Some (AwaitNeeds ns)) (after : ActorName → Place) where
  pub true_referred : (n q e m : ℕ) → is_for p ns (record { need = n; point = q; op = e }) ≡ true →
      held_for n (places b).holding ≡ None → Moves places b (holding_also (places b) n e q) after →
      AreTrue p a (refers (sees v q m) q e m) after
  true_referred n q e m t none moves =
      let is = own p i l a v places k b s ns next in
      own_referred p i l a (sees v q m) places (true_learned p i l a v places k (sees v q m) (learns_look v q m)) ns
      (next_own p i l a v places k b s ns next) after n q e m t
      (subst (λ (c : ActorName). held_for n (places c).holding ≡ None) is none)
      (subst (λ (c : ActorName). Moves places c (holding_also (places c) n e q) after) is moves)

  pub true_given_back : (n q e m : ℕ) (rest : List Holding) → (places b).met ≡ true →
      (places b).holding ≡ record { need = n; point = q; op = e } ∷ rest →
      Moves places b (given_back (places b) (places b).holding) after → AreTrue p a (unrefers (sees v q m) q e m) after
  true_given_back n q e m rest met is moves =
      let mine = own p i l a v places k b s ns next in
      own_given_back p i l a (sees v q m) places (true_learned p i l a v places k (sees v q m) (learns_look v q m)) ns
      (next_own p i l a v places k b s ns next) after (record { need = n; point = q; op = e }) rest m
      (subst (λ (c : ActorName). (places c).met ≡ true) mine met)
      (subst (λ (c : ActorName). (places c).holding ≡ record { need = n; point = q; op = e } ∷ rest) mine is)
      (subst (λ (c : ActorName). Moves places c (given_back (places c) (record { need = n; point = q; op = e } ∷ rest)) after) mine
      (subst (λ (hs : List Holding). Moves places b (given_back (places b) hs) after) is moves))
