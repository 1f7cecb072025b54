-- The value for which a note is left.
use Rattle.std.proofs.Common.{◌≡◌, ◌≤◌, ◌<◌, ℕ, Option, Some, None, sym, subst, arith, le_refl}
use Rattle.vq_live_lock.specs.Gauges.{IsAbove, IsNoted}

-- it is above the payload, not above the wanted value, nor above what was noted
pub record IsLeast (kept : Option ℕ) (value payload least : ℕ) : Type 0 where
  pub higher : payload < least
  pub within : least ≤ value
  pub lower : (x : ℕ) → IsNoted kept x → least ≤ x

kept_least : (least value payload : ℕ) → least ≤ value → payload < least → IsLeast (Some least) value payload least
kept_least least value payload within higher = record { higher = higher; within = within; lower = λ x h. h }

pub from_kept : (kept : Option ℕ) (l value payload least : ℕ) → kept ≡ Some l → least ≡ l → l ≤ value → IsAbove kept payload →
    IsLeast kept value payload least
from_kept kept l value payload least is same within above =
    subst (λ (n : ℕ). IsLeast kept value payload n) (sym same)
    (subst (λ (o : Option ℕ). IsLeast o value payload l) (sym is)
    (kept_least l value payload within (subst (λ (o : Option ℕ). IsAbove o payload) is above)))

value_least : (kept : Option ℕ) (value payload : ℕ) → payload < value → ((x : ℕ) → IsNoted kept x → value ≤ x) →
    IsLeast kept value payload value
value_least kept value payload higher lower = record { higher = higher; within = le_refl value; lower = lower }

pub from_more : (kept : Option ℕ) (l value payload least : ℕ) → kept ≡ Some l → least ≡ value → value < l → payload < value →
    IsLeast kept value payload least
from_more kept l value payload least is same more higher =
    subst (λ (n : ℕ). IsLeast kept value payload n) (sym same)
    (value_least kept value payload higher (subst (λ (o : Option ℕ). (x : ℕ) → IsNoted o x → value ≤ x) (sym is) (λ x h. omega arith)))

pub from_none : (kept : Option ℕ) (value payload least : ℕ) → kept ≡ None → least ≡ value → payload < value →
    IsLeast kept value payload least
from_none kept value payload least is same higher =
    subst (λ (n : ℕ). IsLeast kept value payload n) (sym same)
    (value_least kept value payload higher (subst (λ (o : Option ℕ). (x : ℕ) → IsNoted o x → value ≤ x) (sym is) (λ x h. absurd h)))
