use Rattle.std.proofs.Common.{◌≡◌, ◌≤◌, ℕ, Result, Ok, Err, sym, le_refl, subst}
use Rattle.std.specs.Prelude.{OnOk, OnErr}
use Rattle.vq_live.specs.Live.{Live}
use Rattle.vq_live.specs.Calls.{after_reserve}
use Rattle.vq_live.specs.declared.answers.ReserveFault.{ReserveFault}
use Rattle.vq_live_lock.proofs.InHand.{still}
use Rattle.vq_live_lock.proofs.locked.LiveGuard.reserve.Goals as goal

same_payload : (r : Result (Unit {0}) ReserveFault) (x y : Live) (count : ℕ) → OnOk r (y ≡ after_reserve x count) →
    OnErr r (y ≡ x) → x.payload ≤ y.payload
same_payload (Ok done) x y count ok err = subst (λ (z : Live). x.payload ≤ z.payload) (sym ok) (le_refl x.payload)
same_payload (Err fault) x y count ok err = subst (λ (z : Live). x.payload ≤ z.payload) (sym err) (le_refl x.payload)

pub returns-clause-taken : goal.returns-clause-taken
returns-clause-taken c =
    still c.args.of.now c.args.self.now c.content.result.now c.reserve.new.self c.requires c.content.ensures.value
    c.reserve.ensures.kept
    (same_payload c.reserve.result _ _ c.args.count c.reserve.ensures.after c.reserve.ensures.unchanged)
