-- What a read that doesn't reach a pair shows of it.
use Rattle.std.proofs.Common.{◌≡◌, ℕ, suc, ◌<◌, ◌≤◌, ◌⊎◌, Bool, nat_le, nat_lt, List, length, Option, Some, None, find, refl, sym, ap, ◌∙◌, subst, arith, inl, inr}
use Rattle.std.specs.List.{slice_get}
use Rattle.std.proofs.lemmas.Bool.{false≢true, leb-true, lt-ltb, ltb-true, cases_lt}
use Rattle.vq_ground.proofs.Gets.{place_in, get_has}
use Rattle.vq_model.specs.Plan.{Plan, chain, chain_of, initial, value, resolver}
use Rattle.vq_ground.proofs.Searches.{find_fails, IsFirst, first_of}
use Rattle.vq_core_laws.proofs.Cited.{Facts, chain_places}
use Rattle.vq_board_laws.specs.declared.view.OwnStep.{OwnStep}
use Rattle.vq_board_laws.specs.declared.view.View.{View}
use Rattle.vq_board_laws.specs.OwnSteps.{HasStep, IsUnmadeStep}
use Rattle.vq_board_laws.specs.Learning.{Learns}
use Rattle.vq_payload.specs.Reading.{IsNextAbove, ShowsNext, HasRead}
use Rattle.vq_poll.specs.declared.pairs.Pair.{Pair}
use Rattle.vq_poll.specs.Missing.{IsHeldUp, IsMissed}
use Rattle.vq_poll.proofs.Learned.{step_still}

module _ (p : Plan) (f : Facts p) (t n : ℕ) where
  abbrev above : ℕ → Bool
  above e = nat_lt n (value p e)

  in_chain_at : (i e : ℕ) → slice_get (chain p t) i ≡ Some e → chain_of p e ≡ Some t
  in_chain_at i e at = f.formed.of_chain e t (get_has (chain p t) i e at)

  -- an operation above the value stands at or behind the first such one
  first_least : (op : ℕ) → IsFirst above (chain p t) op → (i e : ℕ) → slice_get (chain p t) i ≡ Some e → n < value p e → value p op ≤ value p e
  first_least op a i e at l =
      let behind = a.none i e at (lt-ltb n (value p e) l) in
      elim (cases_lt a.place i) [
        | inl more ↦ let up = chain_places p (initial p t) (chain p t) (f.order.chains t) a.place i op e a.is at more in omega arith
        | inr isnt ↦
            let same : i ≡ a.place = omega arith in
            let eq : op ≡ e = (let y : slice_get (chain p t) a.place ≡ Some e = subst (λ (z : ℕ). slice_get (chain p t) z ≡ Some e) same at in let z = a.is in cc) in
            let w = ap (value p) eq in omega arith
      ]

  next_above : (op : ℕ) → IsFirst above (chain p t) op → IsNextAbove p t n op
  next_above op a =
      record {
        in_chain = in_chain_at a.place op a.is;
        above = ltb-true n (value p op) a.passes;
        least = λ e of l. let z = place_in (chain p t) e (f.formed.in_chain e t of) in first_least op a z.0 e z.1 l;
      }

step_shown : (v w : View) (e : ℕ) → ShowsNext v w e → HasStep (length v.steps) (λ s _. IsUnmadeStep e s) w.steps
step_shown v w e h =
    let u = h.unmade in
    let size : length w.steps ≡ suc (length u.before) = ap (λ (ss : List OwnStep). length ss) u.are in
    let new = h.new in
    subst (λ (ss : List OwnStep). HasStep (length v.steps) (λ s _. IsUnmadeStep e s) ss) (sym u.are) (inl (omega arith, u.shows))

-- a pair above the value read is missed in the read
pub missed_now : (p : Plan) → Facts p → (v w : View) (x : Pair) (n : ℕ) → HasRead p x.chain v w n → n < x.value → IsMissed p v w x
missed_now p f v w x n read l =
    record {
      above = (let low = read.known.greatest (initial p x.chain) (inl refl) in omega arith);
      unreached = by_next (find (above p f x.chain n) (chain p x.chain)) refl (resolver p x.chain x.value) refl;
    }
  where
    by_next : (o : Option ℕ) → find (above p f x.chain n) (chain p x.chain) ≡ o → (r : Option ℕ) → resolver p x.chain x.value ≡ r → (resolver p x.chain x.value ≡ None) ⊎ IsHeldUp p v w x
    by_next o is None at = inl at
    by_next None is (Some r) at =
        let a = first_of (λ e. nat_le x.value (value p e)) (chain p x.chain) r at in
        let up = leb-true x.value (value p r) a.passes in
        let none = find_fails (above p f x.chain n) (chain p x.chain) r is (get_has (chain p x.chain) a.place r a.is) in
        absurd (false≢true (sym none ∙ lt-ltb n (value p r) (omega arith)))
    by_next (Some op) is (Some r) at =
        let a = first_of (above p f x.chain n) (chain p x.chain) op is in
        let b = first_of (λ e. nat_le x.value (value p e)) (chain p x.chain) r at in
        let up = leb-true x.value (value p r) b.passes in
        let next = next_above p f x.chain n op a in
        inr (record {
          reaching = r;
          resolves = at;
          op = op;
          in_chain = next.in_chain;
          within = first_least p f x.chain n op a b.place r b.is (omega arith);
          unmade = step_shown v w op (read.next op next);
        })

-- what was missed between two views was missed between an earlier and a later one
pub missed_still : (p : Plan) (u v w z : View) (x : Pair) → Learns u v → Learns w z → IsMissed p v w x → IsMissed p u z x
missed_still p u v w z x a b h =
    record { above = h.above; unreached = elim h.unreached [ inl none ↦ inl none | inr held ↦ inr (still held) ] }
  where
    still : IsHeldUp p v w x → IsHeldUp p u z x
    still held =
        record {
          reaching = held.reaching;
          resolves = held.resolves;
          op = held.op;
          in_chain = held.in_chain;
          within = held.within;
          unmade = step_still (λ s _. IsUnmadeStep held.op s) u v w z a b held.unmade;
        }
