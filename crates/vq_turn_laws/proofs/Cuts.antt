-- A program cut at a place: the tasks before it, latest first, and those that are left.
use Rattle.std.proofs.Common.{Some, ◌≡◌, ℕ, zero, suc, ◌+◌, List, [], ◌∷◌, take, drop, sym, subst, ap, arith}
use Rattle.std.specs.List.{slice_get}
use Rattle.std.proofs.lemmas.List.{take-append-drop}
use Rattle.vq_model.specs.declared.script.ActorName.{ActorName}
use Rattle.vq_model.specs.Plan.{Plan}
use Rattle.vq_turns.specs.declared.task.Task.{Task}
use Rattle.vq_turn_laws.specs.Orders.{InOrder}
use Rattle.vq_turn_laws.specs.Tasks.{AreApart, Among, onto}
use Rattle.vq_turn_laws.proofs.ProgramLaws.{among_right}
use Rattle.vq_turn_laws.proofs.Apart.{apart_behind}

-- the tasks before a place, latest first
abbrev pub done_of : ℕ → List Task → List Task
done_of n ts = onto (take n ts) []

next_of : (n : ℕ) (ts before : List Task) (t : Task) (us : List Task) → drop n ts ≡ t ∷ us →
    (drop (suc n) ts ≡ us) × (onto (take (suc n) ts) before ≡ t ∷ onto (take n ts) before)
next_of zero [] before t us h = absurd (let z = h in cc)
next_of zero (x ∷ xs) before t us h =
    let first : x ≡ t = let z = h in cc in
    let rest : xs ≡ us = let z = h in cc in
    (rest, ap (λ u. u ∷ before) first)
next_of (suc n) [] before t us h = absurd (let z = h in cc)
next_of (suc n) (x ∷ xs) before t us h = next_of n xs (x ∷ before) t us h

-- behind the next task
pub next_cut : (n : ℕ) (ts : List Task) (t : Task) (us : List Task) → drop n ts ≡ t ∷ us →
    (drop (n + 1) ts ≡ us) × (done_of (n + 1) ts ≡ t ∷ done_of n ts)
next_cut n ts t us h =
    let more : suc n ≡ n + 1 = omega arith in
    subst (λ (m : ℕ). (drop m ts ≡ us) × (done_of m ts ≡ t ∷ done_of n ts)) more (next_of n ts [] t us h)

-- the tasks that are left begin with the next one
pub next_left : (n : ℕ) (ts : List Task) (t : Task) → slice_get ts n ≡ Some t → drop n ts ≡ t ∷ drop (n + 1) ts
next_left n ts t h = let more : suc n ≡ n + 1 = omega arith in subst (λ (m : ℕ). drop n ts ≡ t ∷ drop m ts) more
    (from_next n ts h)
  where
    from_next : (n : ℕ) (ts : List Task) → slice_get ts n ≡ Some t → drop n ts ≡ t ∷ drop (suc n) ts
    from_next zero [] h = absurd (let z = h in cc)
    from_next zero (u ∷ us) h = let same : u ≡ t = let z = h in cc in ap (λ v. v ∷ us) same
    from_next (suc n) [] h = absurd (let z = h in cc)
    from_next (suc n) (u ∷ us) h = from_next n us h

-- .. and the next one stands first of those
pub next_at : (n : ℕ) (ts : List Task) (t : Task) (us : List Task) → drop n ts ≡ t ∷ us →
    (slice_get ts n ≡ Some t) × (drop (suc n) ts ≡ us)
next_at zero [] t us h = absurd (let z = h in cc)
next_at zero (v ∷ vs) t us h = let same : v ≡ t = let z = h in cc in let rest : vs ≡ us = let z = h in cc in
    (ap Some same, rest)
next_at (suc n) [] t us h = absurd (let z = h in cc)
next_at (suc n) (v ∷ vs) t us h = next_at n vs t us h

order_from : (p : Plan) (a : ActorName) (n : ℕ) (ts before : List Task) → InOrder p a before ts →
    InOrder p a (onto (take n ts) before) (drop n ts)
order_from p a zero ts before o = o
order_from p a (suc n) [] before o = o
order_from p a (suc n) (t ∷ ts) before o = order_from p a n ts (t ∷ before) o.1

pub order_cut : (p : Plan) (a : ActorName) (n : ℕ) (ts : List Task) → InOrder p a [] ts →
    InOrder p a (done_of n ts) (drop n ts)
order_cut p a n ts o = order_from p a n ts [] o

pub apart_cut : (n : ℕ) (ts : List Task) → AreApart ts → AreApart (drop n ts)
apart_cut n ts k = apart_behind (take n ts) (drop n ts) (subst AreApart (sym (take-append-drop n ts)) k)

pub among_cut : (n : ℕ) (ts : List Task) (t : Task) → Among t (drop n ts) → Among t ts
among_cut n ts t m = subst (Among t) (take-append-drop n ts) (among_right t (take n ts) (drop n ts) m)
