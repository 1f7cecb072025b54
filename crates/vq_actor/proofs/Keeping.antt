-- What calls keep, one after another.
use Rattle.std.proofs.Common.{◌≡◌, ℕ, Bool, List, [], ◌++◌, filter, refl, sym, ap, ◌∙◌, arith, append-nil}
use Rattle.vq_model.specs.declared.plan.Event.{Event}
use Rattle.vq_actor.specs.Meanings.{Meaning, Keeps, IsEarlier, IsShownSince, noting}

pub earlier_along : (r s t : ℕ × ℕ) → IsEarlier r s → IsEarlier s t → IsEarlier r t
earlier_along r s t x y =
    let a = x.0 in
    let b = x.1 in
    let c = y.0 in
    let d = y.1 in
    (omega arith, omega arith)

pub keeps_itself : (a : Meaning) → Keeps a a
keeps_itself a =
    record { plan = refl; actor = refl; noted = refl; steps = (omega arith, omega arith); lenders = refl }

pub keeps_along : (a b c : Meaning) → Keeps a b → Keeps b c → Keeps a c
keeps_along a b c x y =
    record {
      plan = y.plan ∙ x.plan;
      actor = y.actor ∙ x.actor;
      noted = y.noted ∙ x.noted;
      steps = earlier_along a.steps b.steps c.steps x.steps y.steps;
      lenders = y.lenders ∙ x.lenders;
    }

-- what is shown since a later moment is shown since an earlier one
pub shown_before : (r s : ℕ × ℕ) (shown : ℕ × ℕ → Type 0) → IsEarlier r s →
    IsShownSince s shown → IsShownSince r shown
shown_before r s shown e h t le = h t (earlier_along t r s le e)

-- Events

-- a call that makes no event
pub none_noted : (a : Meaning) (xs : List Event) → xs ≡ a.events → xs ≡ noting a []
none_noted a xs e = e ∙ sym (append-nil a.events)

-- nothing was made before
pub noted_behind : (a m : Meaning) (es xs : List Event) → Keeps a m → m.events ≡ a.events → xs ≡ noting m es →
    xs ≡ noting a es
noted_behind a m es xs k e is =
    is ∙ (ap (λ ys. ys ++ filter m.noted es) e ∙ ap (λ (f : Event → Bool). a.events ++ filter f es) k.noted)
