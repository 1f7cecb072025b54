-- What one poll has seen, read by read.
use Rattle.std.proofs.Common.{◌≡◌, ◌≢◌, ℕ, zero, suc, ◌<◌, List, [], ◌∷◌, set, length, Option, Some, None, refl, sym, ap, ◌∙◌, subst, arith, inl, inr}
use native.Mathlib.Decide.{ℕ_discrete}
use Rattle.std.specs.List.{slice_get}
use Rattle.futures.specs.declared.task.context.Context.{Context}
use Rattle.futures.specs.Task.{Keeps, IsArmed}
use Rattle.vq_board_laws.specs.declared.view.View.{View}
use Rattle.vq_board_laws.specs.Learning.{Learns}
use Rattle.vq_payload.specs.Reading.{HasRead}
use Rattle.vq_poll.specs.declared.awaited.Awaited.{Awaited}
use Rattle.vq_poll.specs.declared.pairs.Pair.{Pair}
use Rattle.vq_poll.specs.Hearing.{HearsBell}
use Rattle.vq_poll.specs.Looks.{Look, WasRead}
use Rattle.vq_poll.specs.Seeing.{IsSeen, NotSeen, Looked, HasValue}
use Rattle.vq_poll.specs.Watching.{plan_at}
use Rattle.vq_poll.proofs.Polled.{heard_still, read_heard}

set_here : {A : Type 0} (xs : List A) (i : ℕ) (y : A) → i < length xs → slice_get (set xs i y) i ≡ Some y
set_here [] i y l = absurd (omega arith)
set_here (x ∷ xs) zero y l = refl
set_here (x ∷ xs) (suc i) y l = set_here xs i y (omega arith)

set_other : {A : Type 0} (xs : List A) (i j : ℕ) (y : A) → i ≢ j → slice_get (set xs i y) j ≡ slice_get xs j
set_other [] i j y n = refl
set_other (x ∷ xs) zero zero y n = absurd (n refl)
set_other (x ∷ xs) zero (suc j) y n = refl
set_other (x ∷ xs) (suc i) zero y n = refl
set_other (x ∷ xs) (suc i) (suc j) y n = set_other xs i j y (λ e. n (ap suc e))

-- the value was read before
pub seen_before : (a : Awaited) (v w : View) (cx : Context) (seen : List (Option ℕ)) (index n : ℕ) (x : Pair) →
    slice_get a.pairs.items index ≡ Some x → Looked a v w cx seen → IsSeen a.pairs.items seen x.chain n → HasValue a v w cx seen index n
seen_before a v w cx seen index n x at looked is =
    let r = looked.noted x.chain n is in
    record {
      looked = looked;
      read = λ y there. (let same : x ≡ y = (let q = at in let z = there in cc) in subst (λ (z : Pair). WasRead looked.looks z.chain n) same r);
      hears = λ y there. (let same : x ≡ y = (let q = at in let z = there in cc) in
          subst (λ (z : Pair). HearsBell cx a.watched.bells.now z.chain) same (read_heard cx a.watched.bells.now looked.looks x.chain n looked.heard r));
      armed = looked.arms x.chain n r;
    }

-- the value is read now
module _ (a : Awaited) (v w z : View) (cx cy : Context) (seen : List (Option ℕ)) (index n : ℕ) (x : Pair)
    (at : slice_get a.pairs.items index ≡ Some x)
    (looked : Looked a v w cx seen)
    (room : index < length seen)
    (unseen : NotSeen a.pairs.items seen x.chain)
    (learned : Learns w z)
    (read : HasRead (plan_at a.watched) x.chain w z n)
    (hears : HearsBell cy a.watched.bells.now x.chain)
    (armed : IsArmed cy)
    (kept : Keeps cx cy) where
  abbrev now : Look
  now = record { chain = x.chain; value = n }

  abbrev after : List (Option ℕ)
  after = set seen index (Some n)

  noted : (t m : ℕ) → IsSeen a.pairs.items after t m → WasRead (now ∷ looked.looks) t m
  noted t m (i, y, there, chain, is) = elim (ℕ_discrete index i) [
    | yes same ↦
        let pair : slice_get a.pairs.items i ≡ Some x = subst (λ (k : ℕ). slice_get a.pairs.items k ≡ Some x) same at in
        let value : slice_get after i ≡ Some (Some n) = subst (λ (k : ℕ). slice_get after k ≡ Some (Some n)) same (set_here seen index (Some n) room) in
        let x_is : x ≡ y = (let q = pair in let r = there in cc) in
        let n_is : n ≡ m = (let q = value in let r = is in cc) in
        inl (ap (λ (u : Pair). u.chain) x_is ∙ chain, n_is)
    | no other ↦ inr (looked.noted t m (i, y, there, chain, sym (set_other seen index i (Some n) other) ∙ is))
  ]

  whole : (t m : ℕ) → WasRead (now ∷ looked.looks) t m → IsSeen a.pairs.items after t m
  whole t m (inl (chain, value)) = (index, x, at, chain, set_here seen index (Some n) room ∙ ap (λ (k : ℕ). Some (Some k)) value)
  whole t m (inr r) = older (looked.whole t m r)
    where
      older : IsSeen a.pairs.items seen t m → IsSeen a.pairs.items after t m
      older (i, y, there, chain, is) = elim (ℕ_discrete index i) [
        | yes same ↦
            let pair : slice_get a.pairs.items i ≡ Some x = subst (λ (k : ℕ). slice_get a.pairs.items k ≡ Some x) same at in
            absurd (unseen m (i, x, pair, refl, is))
        | no other ↦ (i, y, there, chain, set_other seen index i (Some n) other ∙ is)
      ]

  pub seen_now : HasValue a v z cy after index n
  seen_now =
      record {
        looked = record {
          looks = now ∷ looked.looks;
          reads = (w, looked.reads, learned, read);
          heard = (hears, heard_still cx cy a.watched.bells.now kept looked.looks looked.heard);
          once = ((λ m r. unseen m (looked.whole x.chain m r)), looked.once);
          noted = noted;
          whole = whole;
          arms = λ t m r. armed;
        };
        read = λ y there. inl ((let same : x ≡ y = (let q = at in let r = there in cc) in ap (λ (u : Pair). u.chain) same), refl);
        hears = λ y there. (let same : x ≡ y = (let q = at in let r = there in cc) in subst (λ (u : Pair). HearsBell cy a.watched.bells.now u.chain) same hears);
        armed = armed;
      }

-- before the first read

abbrev pub AllNone : List (Option ℕ) → Type 0
AllNone [] = Unit {0}
AllNone (None ∷ xs) = AllNone xs
AllNone (Some n ∷ xs) = ⊥

pub none_at : (seen : List (Option ℕ)) → AllNone seen → (i n : ℕ) → ¬ (slice_get seen i ≡ Some (Some n))
none_at [] h i n e = absurd (let z = e in cc)
none_at (None ∷ xs) h zero n e = absurd (let z = e in cc)
none_at (None ∷ xs) h (suc i) n e = none_at xs h i n e
none_at (Some k ∷ xs) h i n e = absurd h

pub looked_none : (a : Awaited) (v : View) (cx : Context) (seen : List (Option ℕ)) → ((i n : ℕ) → ¬ (slice_get seen i ≡ Some (Some n))) → Looked a v v cx seen
looked_none a v cx seen none =
    record {
      looks = [];
      reads = refl;
      heard = tt;
      once = tt;
      noted = λ t n s. absurd (none s.0 n s.4);
      whole = λ t n r. absurd r;
      arms = λ t n r. absurd r;
    }
