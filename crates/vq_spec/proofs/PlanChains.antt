-- The operations and the chains of a plan, and the jobs that a job waits for.
use Rattle.std.proofs.Common.{◌≡◌, ℕ, suc, ◌+◌, ◌<◌, ◌≤◌, ◌^◌, Bool, true, false, cond, eqb, leb, List, [], ◌∷◌, ◌++◌, length, get_or, map, take, All, Option, Some, None, option_map, refl, sym, ap, ◌∙◌, subst, arith, zero-add}
use Rattle.std.specs.List.{slice_get, filter_map, cons_option, enumerate_from, position_or_len, find}
use Rattle.std.specs.Option.{option_map_or}
use Rattle.std.proofs.lemmas.List.{length-take-le, map-append}
use Rattle.std.proofs.lemmas.List.Sorted.{length_permutation}
use Rattle.std.proofs.lemmas.List.Sums.{prefix_len-le-length}
use Rattle.std.proofs.lemmas.Option.{slice_get_read, slice_get-get_or}
use Rattle.vq_model.specs.declared.script.Script.{Script}
use Rattle.vq_model.specs.declared.plan.Op.{Op}
use Rattle.vq_model.specs.Lowering.{plan_of}
use Rattle.vq_model.specs.Plan.{value, chain, resolver}
use Rattle.vq_ground.specs.Lists.{has}
use Rattle.vq_model.specs.SameScript.{IsRead}
use Rattle.vq_model.specs.Signals.{Signaling, all_signals, chain_ops, op_at, value_at}
use Rattle.vq_ground.proofs.Gets.{get-map, get-enumerate, get_some, get_within}
use Rattle.vq_plan_laws.proofs.Cited.{well_formed, op_value_is, op_is, chain_is}
use Rattle.vq_reading_laws.proofs.Cited.{read_valid}
use Rattle.vq_spec.specs.declared.chains.Chain.{Chain}
use Rattle.vq_spec.specs.ChainParts.{member, members, placed, place_in, valued, Sorts, AreSorted, IsSearchable, AreChains, first_with}
use Rattle.vq_spec.specs.Counts.{unplaced}
use Rattle.vq_spec.proofs.ChainOrder.{strict_chain, chain_pairs, first_is, place_is}
use Rattle.vq_spec.proofs.Ranges.{take_push, enumerate-append}
use Rattle.vq_spec.proofs.SortedPairs.{map_numbers}

-- Chains

-- the operations whose places aren't known yet
abbrev pub unplaced_ops : Script → List Op
unplaced_ops s = map (unplaced s) (enumerate_from 0 (all_signals s))

pub are_chains : (s : Script) → IsRead s → (ops : List Op) → ops ≡ unplaced_ops s →
    (chains : List Chain) → AreSorted ops (length s.semaphores) chains → AreChains s chains
are_chains s i ops e chains h =
    record {
      number = h.number;
      ops = λ t c at. (h.each t c at).ops
          ∙ (ap (map (λ p. p.1)) (pairs t c at) ∙ map_numbers (value_at s) (chain_ops s t));
      pairs = pairs;
      sorted = λ t c at. (h.each t c at).sorted;
    }
  where
    pairs : (t : ℕ) (c : Chain) → slice_get chains t ≡ Some c →
        c.pairs.items ≡ map (valued s) (chain_ops s t)
    pairs t c at =
        let inside = get_within chains t c at in
        let n = h.number in
        chain_pairs s t i (omega arith) c
        (subst (λ os. Sorts (members os t) c) e (h.each t c at))

few_members : (t a : ℕ) (ops : List Op) →
    length (filter_map (member t) (enumerate_from a ops)) ≤ length ops
few_members t a [] = omega arith
few_members t a (o ∷ ops) = by_test (eqb o.chain t) (few_members t (a + 1) ops)
  where
    by_test : (b : Bool) → length (filter_map (member t) (enumerate_from (a + 1) ops)) ≤ length ops →
        length (cons_option (cond b (Some (o.value, a)) None)
        (filter_map (member t) (enumerate_from (a + 1) ops))) ≤ suc (length ops)
    by_test true l = omega arith
    by_test false l = omega arith

pub searchable : (ops : List Op) (count : ℕ) (chains : List Chain) → length ops < 2 ^ 32 →
    AreSorted ops count chains → All IsSearchable chains
searchable ops count chains few h t d l =
    let c = get_or chains t d in
    let own = h.each t c (slice_get-get_or chains t d l) in
    let n = length_permutation (members ops t) c.pairs.items own.permutation in
    let m = few_members t 0 ops in
    record { sorted = own.sorted; few = omega arith }

-- a chain that is read
pub chain_read : (chains : List Chain) (t : ℕ) (c : Chain) → t < length chains →
    c ≡ get_or chains t c → slice_get chains t ≡ Some c
chain_read chains t c l e = slice_get_read chains (length chains) t c refl l e

-- Places

pub placed_is : (chains : List Chain) (e : ℕ) (o : Op) (c : Chain) (index : ℕ) →
    slice_get chains o.chain ≡ Some c → index ≡ place_in c.pairs.items o.value e →
    record { chain = o.chain; index = index; value = o.value; job = o.job; line = o.line }
    ≡ placed chains (e, o)
placed_is chains e o c index at h = λ i. record {
  chain = o.chain;
  index = (h ∙ ap (λ x. option_map_or (λ d. place_in d.pairs.items o.value e) x 0) (sym at)) i;
  value = o.value;
  job = o.job;
  line = o.line;
}

pub place_fits : (pairs : List (ℕ × ℕ)) (value op : ℕ) → place_in pairs value op ≤ length pairs
place_fits pairs value op = prefix_len-le-length _ pairs

pub placed_push : (chains : List Chain) (ops : List Op) (e : ℕ) (o : Op) (was new : List Op)
    (made : Op) → slice_get ops e ≡ Some o →
    was ≡ map (placed chains) (enumerate_from 0 (take e ops)) → made ≡ placed chains (e, o) →
    new ≡ was ++ made ∷ [] → new ≡ map (placed chains) (enumerate_from 0 (take (e + 1) ops))
placed_push chains ops e o was new made at h m a =
    let inside = get_within ops e o at in
    let n : 0 + length (take e ops) ≡ e = omega (arith, length-take-le e ops (omega arith)) in
    a
    ∙ ((λ i. h i ++ m i ∷ [])
    ∙ sym (ap (λ xs. map (placed chains) (enumerate_from 0 xs)) (take_push ops e o at)
    ∙ (ap (map (placed chains)) (enumerate-append 0 (take e ops) (o ∷ [])
    ∙ ap (λ k. enumerate_from 0 (take e ops) ++ (k, o) ∷ []) n)
    ∙ map-append (placed chains) (enumerate_from 0 (take e ops)) ((e, o) ∷ []))))

same_places : {X : Type 0} (xs ys : List X) → ((i : ℕ) → slice_get xs i ≡ slice_get ys i) →
    xs ≡ ys
same_places [] [] f = refl
same_places [] (y ∷ ys) f = absurd (let c : None ≡ Some y = f 0 in cc)
same_places (x ∷ xs) [] f = absurd (let c : Some x ≡ None = f 0 in cc)
same_places (x ∷ xs) (y ∷ ys) f =
    let c : Some x ≡ Some y = f 0 in
    let e : x ≡ y = cc in
    λ i. e i ∷ same_places xs ys (λ k. f (suc k)) i

get_numbered : {X Y : Type 0} (f : ℕ × X → Y) (xs : List X) (e : ℕ) →
    slice_get (map f (enumerate_from 0 xs)) e ≡ option_map (λ x. f (e, x)) (slice_get xs e)
get_numbered {X} {Y} f xs e =
    get-map f (enumerate_from 0 xs) e
    ∙ (ap (option_map f) (get-enumerate 0 xs e) ∙ by_item (slice_get xs e))
  where
    by_item : (o : Option X) →
        option_map f (option_map (λ x. (0 + e, x)) o) ≡ option_map (λ x. f (e, x)) o
    by_item None = refl
    by_item (Some x) = let g : ℕ → Option Y = λ n. Some (f (n, x)) in ap g (zero-add e)

module _ (s : Script) (i : IsRead s) where
  in_chain : (e : ℕ) (x : Signaling) → slice_get (all_signals s) e ≡ Some x →
      x.semaphore < length s.semaphores → has (chain_ops s x.semaphore) e ≡ true
  in_chain e x at l =
      ap (λ es. has es e) (sym (chain_is s x.semaphore l))
      ∙ (well_formed s (read_valid s i)).in_chain e x.semaphore
      (ap (option_map (λ o. o.chain)) (op_is s e ∙ ap (option_map (λ y. op_at s (e, y))) at))

  -- the operations with their places are the plan's
  pub placed_ops : (chains : List Chain) → AreChains s chains →
      map (placed chains) (enumerate_from 0 (unplaced_ops s)) ≡ (plan_of s).ops
  placed_ops chains k = same_places _ _ (λ e. at e (slice_get (all_signals s) e) refl)
    where
      index_is : (e : ℕ) (x : Signaling) → slice_get (all_signals s) e ≡ Some x →
          option_map_or (λ c. place_in c.pairs.items (value_at s e) e)
          (slice_get chains x.semaphore) 0
          ≡ position_or_len (λ f. eqb f e) (chain_ops s x.semaphore)
      index_is e x at =
          let l = (read_valid s i).signals e x at in
          let n = k.number in
          let c = get_some chains x.semaphore (omega arith) in
          ap (λ o. option_map_or (λ c. place_in c.pairs.items (value_at s e) e) o 0) c.1
          ∙ (ap (λ ps. place_in ps (value_at s e) e) (k.pairs x.semaphore c.0 c.1)
          ∙ place_is s (chain_ops s x.semaphore) e (strict_chain s i x.semaphore l)
          (in_chain e x at l))

      by_signal : (e : ℕ) (o : Option Signaling) → slice_get (all_signals s) e ≡ o →
          option_map (λ y. placed chains (e, y)) (option_map (λ x. unplaced s (e, x)) o)
          ≡ option_map (λ x. op_at s (e, x)) o
      by_signal e None h = refl
      by_signal e (Some x) h = λ t. Some (record {
        chain = x.semaphore;
        index = index_is e x h t;
        value = value_at s e;
        job = x.job;
        line = x.line;
      })

      at : (e : ℕ) (o : Option Signaling) → slice_get (all_signals s) e ≡ o →
          slice_get (map (placed chains) (enumerate_from 0 (unplaced_ops s))) e
          ≡ slice_get (plan_of s).ops e
      at e o h =
          get_numbered (placed chains) (unplaced_ops s) e
          ∙ (ap (option_map (λ y. placed chains (e, y)))
          (get_numbered (unplaced s) (all_signals s) e)
          ∙ (by_signal e (slice_get (all_signals s) e) refl ∙ sym (op_is s e)))

  -- the chain of an operation exists
  pub unplaced_exist : All (λ o. o.chain < length s.semaphores) (unplaced_ops s)
  unplaced_exist e d l =
      by_signal (get_some (unplaced_ops s) e l)
    where
      by_signal : (o : Op) × (slice_get (unplaced_ops s) e ≡ Some o) →
          (get_or (unplaced_ops s) e d).chain < length s.semaphores
      by_signal o = from (slice_get (all_signals s) e) refl
        where
          from : (x : Option Signaling) → slice_get (all_signals s) e ≡ x →
              (get_or (unplaced_ops s) e d).chain < length s.semaphores
          from None h = absurd (let c : None ≡ Some o.0 = sym
              (get_numbered (unplaced s) (all_signals s) e
              ∙ ap (option_map (λ x. unplaced s (e, x))) h) ∙ o.1 in cc)
          from (Some x) h =
              let c : Some (get_or (unplaced_ops s) e d) ≡ Some (unplaced s (e, x)) = sym
              (slice_get-get_or (unplaced_ops s) e d l)
              ∙ (get_numbered (unplaced s) (all_signals s) e
              ∙ ap (option_map (λ x. unplaced s (e, x))) h) in
              let q : get_or (unplaced_ops s) e d ≡ unplaced s (e, x) = cc in
              subst (λ (o : Op). o.chain < length s.semaphores) (sym q)
              ((read_valid s i).signals e x h)

  -- Resolvers

  pub resolver_is : (chains : List Chain) → AreChains s chains → (t v : ℕ) (c : Chain) →
      slice_get chains t ≡ Some c → first_with c.pairs.items v ≡ resolver (plan_of s) t v
  resolver_is chains k t v c at =
      let inside = get_within chains t c at in
      let n = k.number in
      ap (λ ps. first_with ps v) (k.pairs t c at)
      ∙ (first_is s (chain_ops s t) v
      ∙ (sym (λ j. find (λ e. leb v (op_value_is s e j)) (chain_ops s t))
      ∙ ap (find (λ e. leb v (value (plan_of s) e))) (sym (chain_is s t (omega arith)))))

  pub chain_kept : (chains : List Chain) → AreChains s chains → (t : ℕ) (c : Chain) →
      slice_get chains t ≡ Some c → c.ops ≡ chain (plan_of s) t
  chain_kept chains k t c at =
      let inside = get_within chains t c at in
      let n = k.number in
      k.ops t c at ∙ sym (chain_is s t (omega arith))
