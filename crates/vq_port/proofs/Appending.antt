-- Facts on what a sink was given, for those who write it several times.
use Rattle.std.proofs.Common.{◌≡◌, ℕ, ◌+◌, ◌-◌, ◌≤◌, List, [], ◌++◌, length, take, drop, Some, None, sym, ◌∙◌, ap, subst, arith, append_assoc}
use Rattle.std.proofs.Math.Seq.{take-add}
use Rattle.std.proofs.lemmas.Grind.{common_steps}
use Rattle.std.specs.declared.option.Option.{Option}
use Rattle.vq_port.specs.Writing.{Appends, Stays, StillTells}

-- some bytes were written, and then some more
pub appends_more : (a b : List ℕ) (x y z : Option (List ℕ)) → Appends a x y → Appends b y z → Appends (a ++ b) x z
appends_more a b x y None p q = tt
appends_more a b x None (Some all) p q = absurd q
appends_more a b None (Some mid) (Some all) p q = absurd p
appends_more a b (Some had) (Some mid) (Some all) p q = q ∙ (ap (λ (w : List ℕ). w ++ b) p ∙ append_assoc had a b)

-- the first bytes were written, and then the first of the rest
pub appends_rest : (bytes rest : List ℕ) (done count : ℕ) (x y z : Option (List ℕ)) → rest ≡ drop done bytes →
    Appends (take done bytes) x y → Appends (take count rest) y z → Appends (take (done + count) bytes) x z
appends_rest bytes rest done count x y z e p q =
    let both : take done bytes ++ take count rest ≡ take (done + count) bytes = rw e (sym (take-add done count bytes)) in
    subst (λ (w : List ℕ). Appends w x z) both (appends_more (take done bytes) (take count rest) x y z p q)

-- what is behind the first of the rest
pub rest_behind : (bytes rest : List ℕ) (done count : ℕ) → rest ≡ drop done bytes → take (length rest - count) (drop count rest) ≡ drop (done + count) bytes
rest_behind bytes rest done count e = grind (arith, common_steps)

-- there are so many in the rest
pub rest_length : (bytes rest : List ℕ) (done count : ℕ) → done ≤ length bytes → rest ≡ drop done bytes → count ≤ length rest → done + count ≤ length bytes
rest_length bytes rest done count l e h = grind (arith, common_steps)

-- so many bytes were told, and then so many more
pub tells_more : (a b : ℕ) (x y z : Option (List ℕ)) (room room' room'' : ℕ) →
    StillTells a x y room room' → StillTells b y z room' room'' → StillTells (a + b) x z room room''
tells_more a b None y z room room' room'' p q = tt
tells_more a b (Some w) None z room room' room'' p q = λ fits.
    let first : a ≤ room = omega arith in
    let none = (p first).0 in absurd (cc none)
tells_more a b (Some w) (Some v) z room room' room'' p q = λ fits.
    let first : a ≤ room = omega arith in
    let left : room ≤ room' + a = (p first).1 in
    let second : b ≤ room' = omega arith in
    let last : room' ≤ room'' + b = (q second).1 in
    ((q second).0, omega arith)
