-- What a look for a need shows.
use Rattle.std.proofs.Common.{◌≡◌, ◌≤◌, ◌<◌, ℕ, true, List, Some, length, refl, sym, ap, ◌∙◌, subst, inl, inr}
use Rattle.std.specs.List.{slice_get, list_any}
use Rattle.vq_board_laws.proofs.Cited.{learns_none, learns_recall}
use Rattle.vq_model.specs.Plan.{Plan, initial, resolver}
use Rattle.vq_model.specs.declared.plan.Need.{Need}
use Rattle.vq_model.specs.declared.script.ActorName.{ActorName}
use Rattle.vq_turns.specs.declared.look.Found.{Found}
use Rattle.vq_turns.specs.declared.look.Found.TheVariants.{Past, Pending}
use Rattle.vq_turns.specs.declared.task.Task.TheVariants.{AwaitNeeds}
use Rattle.vq_turns.specs.Programs.{program}
use Rattle.vq_turns.specs.Turns.{Place}
use Rattle.vq_actor.specs.Meanings.{FoundAt}
use Rattle.vq_board_laws.specs.declared.view.OpState.{OpState}
use Rattle.vq_board_laws.specs.declared.view.OpState.TheVariants.{Unbound as UnboundOp}
use Rattle.vq_board_laws.specs.declared.view.OpState.TheVariants.{Bound as BoundOp, Past as PastOp}
use Rattle.vq_board_laws.specs.declared.view.View.{View}
use Rattle.vq_board_laws.specs.PointSteps.{recalls}
use Rattle.vq_board.specs.declared.parts.Pass.{Pass}
use Rattle.vq_board.specs.Named.{view}
use Rattle.vq_board_laws.specs.Learning.{Learns}
use Rattle.vq_access_laws.specs.Tests.{shows_reached}
use Rattle.vq_access_laws.proofs.Cited.{initial_reached, past_reached}
use Rattle.vq_access.specs.Found.{HasFound, found_by}
use Rattle.vq_access.specs.Lasts.{IsFound, FindsTruly}
use Rattle.vq_access.specs.Taken.{HasLearned}

module _ (p : Plan) (x y : Pass) (t v : ℕ) (f : Found) where
  pub found_learned : HasFound p x y t v f → HasLearned x y
  found_learned (same, inl early) =
      (same, subst (λ (w : View). Learns (view x) w) (sym early.same) (learns_none (view x)))
  found_learned (same, inr r) =
      (same, subst (λ (w : View). Learns (view x) w) (sym r.recalled) (learns_recall (view x) r.op r.state))

  was_past : (e : ℕ) (s : OpState) → Past ≡ found_by e s → s ≡ PastOp
  was_past e UnboundOp h = absurd (cc)
  was_past e (BoundOp q) h = absurd (cc)
  was_past e PastOp h = refl

  pub found_past : HasFound p x y t v f → f ≡ Past → (ns : List Need) (k : ℕ) (n : Need) → slice_get ns k ≡ Some n →
      n.chain ≡ t → n.value ≡ v → list_any (shows_reached p (view y).known) ns ≡ true
  found_past (same, inl early) past ns k n at chain value =
      subst (λ (w : View). list_any (shows_reached p w.known) ns ≡ true) (sym early.same)
      (initial_reached p (view x).known ns k n at
      (subst (λ (u : ℕ). n.value ≤ initial p u) (sym chain) (subst (λ (u : ℕ). u ≤ initial p t) (sym value) early.early)))
  found_past (same, inr r) past ns k n at chain value =
      let is_past = was_past r.op r.state (sym past ∙ r.answer) in
      let resolves = ap (λ (u : ℕ). resolver p u n.value) chain ∙ (ap (resolver p t) value ∙ r.resolves) in
      subst (λ (w : View). list_any (shows_reached p w.known) ns ≡ true) (sym r.recalled)
      (subst (λ (s : OpState). list_any (shows_reached p (recalls (view x) r.op s).known) ns ≡ true) (sym is_past)
      (past_reached p (view x) ns k r.op n at resolves))

  pending : (e q g : ℕ) (s : OpState) → Pending e q ≡ found_by g s → (g ≡ e) × (s ≡ BoundOp q)
  pending e q g UnboundOp h = absurd (cc)
  pending e q g PastOp h = absurd (cc)
  pending e q g (BoundOp r) h = (cc, cc)

  pub found_pending : HasFound p x y t v f → (e q : ℕ) → f ≡ Pending e q →
      (q < length p.ops) × (resolver p t v ≡ Some e)
  found_pending (same, inl early) e q is = absurd (let a = early.answer in let b = is in cc)
  found_pending (same, inr r) e q is =
      let parts = pending e q r.op r.state (sym is ∙ r.answer) in
      (r.point q parts.1, r.resolves ∙ ap (λ (g : ℕ). Some g) parts.0)

same_need : (m n : Need) → Some m ≡ Some n → m ≡ n
same_need m n e = cc

same_wait : (ms ns : List Need) → Some (AwaitNeeds ms) ≡ Some (AwaitNeeds ns) → ms ≡ ns
same_wait ms ns e = cc

same_found : (k e q l f r : ℕ) → FoundAt k e q ≡ FoundAt l f r → (k ≡ l) × (e ≡ f) × (q ≡ r)
same_found k e q l f r h = (cc, cc, cc)

-- what was found is so, after the look
pub finds_now : (p : Plan) (a : ActorName) (y : Place) (ns : List Need) (k e q t v : ℕ) (n : Need) →
    slice_get (program p a) y.done ≡ Some (AwaitNeeds ns) → slice_get ns k ≡ Some n → n.chain ≡ t → n.value ≡ v →
    (q < length p.ops) × (resolver p t v ≡ Some e) → FindsTruly p a y (FoundAt k e q)
finds_now p a y ns k e q t v n next at chain value is l f r h =
    let same = same_found k e q l f r h in
    subst (λ (m : ℕ). IsFound p a y m f r) same.0
    (subst (λ (m : ℕ). IsFound p a y k m r) same.1
    (subst (λ (m : ℕ). IsFound p a y k e m) same.2
    record {
      point = is.0;
      resolves = λ ms m there at_m.
          let ws = same_wait ns ms (sym next ∙ there) in
          let one = same_need n m (sym at ∙ (ap (λ (us : List Need). slice_get us k) ws ∙ at_m)) in
          ap (λ (u : Need). resolver p u.chain u.value) (sym one)
          ∙ (ap (λ (u : ℕ). resolver p u n.value) chain ∙ (ap (resolver p t) value ∙ is.1));
    }))
