-- A timeline under its lock: what is known of it before a call, and again after it.
use Rattle.std.proofs.Common.{◌≡◌, ◌≤◌, ◌∷◌, ℕ, List, [], ap, sym, ◌∙◌, subst, le_trans}
use Rattle.atomic_table.specs.Table.{Me}
use Rattle.vq_live.specs.Live.{Live, KeepsLive}
use Rattle.vq_lock.specs.declared.lock.KeyedLock.{KeyedLock}
use Rattle.vq_lock.specs.declared.lock.Guard.{Guard}
use Rattle.vq_lock.specs.declared.parts.Turn.{Turn}
use Rattle.vq_lock.specs.Named.{Has}
use Rattle.std.specs.Arc.{arc_value}
use Rattle.vq_live_lock.specs.declared.bell.Bell.{Bell}
use Rattle.vq_live_lock.specs.declared.gauge.Gauge.{Gauge}
use Rattle.vq_live_lock.specs.declared.kept.Kept.{Kept}
use Rattle.vq_live_lock.specs.declared.kept.Home.{Home}
use Rattle.vq_lock.specs.Lending.{guard_with}
use Rattle.vq_lock.proofs.Cited.{wrote}
use Rattle.vq_live_lock.specs.declared.locked.LockedLive.{LockedLive}
use Rattle.vq_live_lock.specs.declared.locked.LiveGuard.{LiveGuard}
use Rattle.vq_live_lock.specs.Keeping.{IsHeld}
use Rattle.vq_live_lock.specs.Locked.{IsTaken}

abbrev in_hand : Kept → List (ℕ × Kept) → Kept
in_hand x [] = x
in_hand x (t ∷ ts) = t.1

-- a guard has one content
same_content : (l : KeyedLock Home Kept) (g : Guard Home Kept) (x y : Kept) → Has l g x → Has l g y → x ≡ y
same_content l g x y a b = ap (λ (m : Me Kept (Turn Home)). in_hand x m.1) (sym a.1 ∙ b.1)

pub shown : (h : Gauge) (bell : Bell) (l : KeyedLock Home Kept) (g : Guard Home Kept) (x y : Kept) → Has l g x →
    IsHeld h bell x → Has l g y → IsHeld h bell y
shown h bell l g x y a is b = subst (λ (z : Kept). IsHeld h bell z) (same_content l g x y a b) is

abbrev changed : Kept → Live → Kept
changed x v = record { timeline = v; pen = x.pen; least = x.least; heard = x.heard }

-- a guard is still its lock's after a call that kept the law and let the payload fall nowhere
pub still : (t : LockedLive) (g : LiveGuard) (x : Kept) (v : Live) → IsTaken t g → Has t.lock g.guard x →
    KeepsLive v → x.timeline.payload ≤ v.payload → IsTaken t (record { guard = guard_with g.guard (changed x v) })
still t g x v is has kept rises =
    let h = shown t.gauge (arc_value t.bell) t.lock g.guard is.0 x is.1 is.2 has in (
      changed x v,
      wrote t.lock g.guard x (changed x v) has,
      (kept, (h.1.0, h.1.1, le_trans h.1.2 rises)),
    )
