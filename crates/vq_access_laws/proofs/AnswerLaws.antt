-- What was read for a host step shows its answer.
use Rattle.std.proofs.Common.{◌≡◌, ℕ, suc, ◌<◌, ◌≤◌, ◌⊎◌, Bool, true, false, ◌&&◌, ◌||◌, ◌==◌, nat_le, nat_lt, List, [], ◌∷◌, ◌++◌, Option, Some, None, All, map, find, refl, sym, ap, ◌∙◌, subst, arith, inl, inr, if◌then◌else◌}
use Rattle.std.specs.List.{slice_get, list_any, list_all}
use Rattle.std.specs.Option.{option_map_or}
use Rattle.std.proofs.lemmas.Bool.{false≢true, eqb-true, leb-true, le-leb, lt-ltb, ltb-true, and_parts, or_cases, cases_lt}
use Rattle.std.proofs.lemmas.List.{append_assoc, append-nil}
use Rattle.std.proofs.lemmas.List.Elements.{All-nil, All-cons}
use Rattle.vq_ground.proofs.Searches.{IsFirst, first_of}
use Rattle.vq_ground.proofs.Gets.{get_has}
use Rattle.vq_model.specs.declared.plan.Answer.TheVariants.{Reached, Timeout, NotReady}
use Rattle.vq_model.specs.declared.plan.Need.{Need}
use Rattle.vq_model.specs.declared.plan.Question.{Question}
use Rattle.vq_model.specs.declared.plan.Question.TheVariants.{Silent, Reached as AsksReached, PollAll, PollAny, Fence, Value as AsksValue}
use Rattle.vq_model.specs.Plan.{Plan, chain, chain_of, initial, value, resolver, asked, is_silent}
use Rattle.vq_ground.specs.Lists.{has}
use Rattle.vq_ground.proofs.Lists.{has_cases, any_at}
use Rattle.vq_turns.specs.declared.look.Seen.{Seen}
use Rattle.vq_turns.specs.declared.task.Task.{Task}
use Rattle.vq_turns.specs.declared.task.Task.TheVariants.{Compare}
use Rattle.vq_turns.specs.Turns.{reaches, answer_by, first_past}
use Rattle.vq_turn_laws.specs.Tasks.{onto, compares, compared_now}
use Rattle.vq_core_laws.proofs.Cited.{Facts, chain_places}
use Rattle.vq_board.specs.Firsts.{shows_made}
use Rattle.vq_board.proofs.Cited.{shown_known}
use Rattle.vq_board_laws.specs.declared.view.View.{View}
use Rattle.vq_board_laws.specs.Knowledge.{IsKnownValue}
use Rattle.vq_board_laws.specs.May.{KnowsReached}
use Rattle.vq_board_laws.specs.Shows.{Misses, IsHeldUp, IsNextUnmade, ShowsValue, ShowsBy, OneOf}
use Rattle.vq_access_laws.specs.Tests.{shows_value, notes_next, saw_value, saw_values}

abbrev pub pair_of : Need → ℕ × ℕ
pair_of n = (n.chain, n.value)

-- what stands compared behind the comparisons for some needs
pub compared_onto : (ns : List Need) (b : List Task) → compared_now (onto (compares ns) b) ≡ compared_now b ++ map pair_of ns
compared_onto [] b = sym (append-nil (compared_now b))
compared_onto (n ∷ ns) b = compared_onto ns (Compare n.chain n.value ∷ b) ∙ append_assoc (compared_now b) ((n.chain, n.value) ∷ []) (map pair_of ns)

none_of : (f : ℕ → Bool) (xs : List ℕ) → find f xs ≡ None → (x : ℕ) → has xs x ≡ true → f x ≡ false
none_of f [] h x m = absurd (false≢true m)
none_of f (y ∷ ys) h x m = by_test (f y) refl h (none_of f ys)
  where
    by_test : (b : Bool) → f y ≡ b → (if b then Some y else find f ys) ≡ None → (find f ys ≡ None → (x : ℕ) → has ys x ≡ true → f x ≡ false) → f x ≡ false
    by_test true t e rest = absurd (let z = e in cc)
    by_test false t e rest = elim (has_cases y ys x m) [ inl same ↦ subst (λ (z : ℕ). f z ≡ false) same t | inr there ↦ rest e x there ]

module _ (p : Plan) (f : Facts p) (v : View) where
  -- one comparison
  module _ (n : Need) (s : Seen) (h : saw_value p v (pair_of n) s ≡ true) where
    abbrev t : ℕ
    t = n.chain

    parts_one : ((s.wanted == n.value) ≡ true) × ((nat_le (initial p t) s.past && (shows_value p v.known t s.past && notes_next p v.unmade t s.past)) ≡ true)
    parts_one = and_parts (s.wanted == n.value) (nat_le (initial p t) s.past && (shows_value p v.known t s.past && notes_next p v.unmade t s.past)) h

    pub wanted : s.wanted ≡ n.value
    wanted = eqb-true s.wanted n.value parts_one.0

    parts_two : (nat_le (initial p t) s.past ≡ true) × ((shows_value p v.known t s.past && notes_next p v.unmade t s.past) ≡ true)
    parts_two = and_parts (nat_le (initial p t) s.past) (shows_value p v.known t s.past && notes_next p v.unmade t s.past) parts_one.1

    low : initial p t ≤ s.past
    low = leb-true (initial p t) s.past parts_two.0

    parts_three : (shows_value p v.known t s.past ≡ true) × (notes_next p v.unmade t s.past ≡ true)
    parts_three = and_parts (shows_value p v.known t s.past) (notes_next p v.unmade t s.past) parts_two.1

    abbrev above : ℕ → Bool
    above e = nat_lt s.past (value p e)

    pub value_known : IsKnownValue p v.known t s.past
    value_known = elim (or_cases (s.past == initial p t) (list_any (λ e. (value p e == s.past) && shows_made v.known e) (chain p t)) parts_three.0) [
      | inl same ↦ inl (eqb-true s.past (initial p t) same)
      | inr some ↦
          let r = any_at (λ e. (value p e == s.past) && shows_made v.known e) (chain p t) some in
          let q = and_parts (value p r.0 == s.past) (shows_made v.known r.0) r.2 in
          inr (r.0, f.formed.of_chain r.0 t r.1, eqb-true (value p r.0) s.past q.0, shown_known p v.known r.0 q.1)
    ]

    pub reached : n.value ≤ s.past → KnowsReached p v.known n
    reached l = elim (or_cases (s.past == initial p t) (list_any (λ e. (value p e == s.past) && shows_made v.known e) (chain p t)) parts_three.0) [
      | inl same ↦ let e = eqb-true s.past (initial p t) same in inl (omega arith)
      | inr some ↦
          let r = any_at (λ e. (value p e == s.past) && shows_made v.known e) (chain p t) some in
          let q = and_parts (value p r.0 == s.past) (shows_made v.known r.0) r.2 in
          let e = eqb-true (value p r.0) s.past q.0 in
          inr (record { op = r.0; in_chain = r.1; reaches = omega arith; made = shown_known p v.known r.0 q.1 })
    ]

    in_chain_at : (i e : ℕ) → slice_get (chain p t) i ≡ Some e → chain_of p e ≡ Some t
    in_chain_at i e at = f.formed.of_chain e t (get_has (chain p t) i e at)

    -- an operation above the value stands at or behind the first such one
    first_least : (op : ℕ) → (a : IsFirst above (chain p t) op) → (i e : ℕ) → slice_get (chain p t) i ≡ Some e → s.past < value p e → value p op ≤ value p e
    first_least op a i e at l =
        let behind = a.none i e at (lt-ltb s.past (value p e) l) in
        elim (cases_lt a.place i) [
          | inl more ↦ let up = chain_places p (initial p t) (chain p t) (f.order.chains t) a.place i op e a.is at more in omega arith
          | inr isnt ↦ let same : i ≡ a.place = omega arith in
              let eq : op ≡ e = (let y : slice_get (chain p t) a.place ≡ Some e = subst (λ (z : ℕ). slice_get (chain p t) z ≡ Some e) same at in let z = a.is in cc) in
              let w = ap (value p) eq in omega arith
        ]

    pub missed : s.past < n.value → Misses p v n
    missed l = record { above = (let first = low in omega arith); unreached = by_next (find above (chain p t)) refl parts_three.1 (resolver p t n.value) refl }
      where
        by_next : (o : Option ℕ) → find above (chain p t) ≡ o → option_map_or (has v.unmade) o true ≡ true → (r : Option ℕ) → resolver p t n.value ≡ r → (resolver p n.chain n.value ≡ None) ⊎ IsHeldUp p v n
        by_next o is noted None at = inl at
        by_next None is noted (Some r) at =
            let a = first_of (λ e. nat_le n.value (value p e)) (chain p t) r at in
            let up = leb-true n.value (value p r) a.passes in
            let none = none_of above (chain p t) is r (get_has (chain p t) a.place r a.is) in
            absurd (false≢true (sym none ∙ lt-ltb s.past (value p r) (omega arith)))
        by_next (Some op) is noted (Some r) at =
            let a = first_of above (chain p t) op is in
            let b = first_of (λ e. nat_le n.value (value p e)) (chain p t) r at in
            let up = leb-true n.value (value p r) b.passes in
            inr (record {
              reaching = r;
              resolves = at;
              op = op;
              in_chain = in_chain_at a.place op a.is;
              within = first_least op a b.place r b.is (omega arith);
              unmade = noted;
            })

    pub shows : ShowsValue p v t s.past
    shows = record { known = value_known; next = by_next (find above (chain p t)) refl parts_three.1 }
      where
        by_next : (o : Option ℕ) → find above (chain p t) ≡ o → option_map_or (has v.unmade) o true ≡ true → ((e : ℕ) → chain_of p e ≡ Some t → value p e ≤ s.past) ⊎ IsNextUnmade p v t s.past
        by_next None is noted = inl (λ e of. elim (cases_lt s.past (value p e)) [
          | inl l ↦ absurd (false≢true (sym (none_of above (chain p t) is e (f.formed.in_chain e t of)) ∙ lt-ltb s.past (value p e) l))
          | inr isnt ↦ omega arith
        ])
        by_next (Some op) is noted =
            let a = first_of above (chain p t) op is in
            inr (record {
              op = op;
              in_chain = in_chain_at a.place op a.is;
              above = ltb-true s.past (value p op) a.passes;
              least = λ e of l. let z = placed (chain p t) e (f.formed.in_chain e t of) in first_least op a z.0 e z.1 l;
              unmade = noted;
            })
          where
            placed : (xs : List ℕ) (x : ℕ) → has xs x ≡ true → (i : ℕ) × (slice_get xs i ≡ Some x)
            placed [] x m = absurd (false≢true m)
            placed (y ∷ ys) x m = elim (has_cases y ys x m) [ inl same ↦ (0, ap Some same) | inr there ↦ let r = placed ys x there in (suc r.0, r.1) ]

  -- all comparisons
  all_shown : (ns : List Need) (xs : List Seen) → saw_values p v (map pair_of ns) xs ≡ true → list_all reaches xs ≡ true → All (KnowsReached p v.known) ns
  all_shown [] xs h r = All-nil (KnowsReached p v.known)
  all_shown (n ∷ ns) [] h r = absurd (false≢true h)
  all_shown (n ∷ ns) (s ∷ xs) h r =
      let q = and_parts (saw_value p v (pair_of n) s) (saw_values p v (map pair_of ns) xs) h in
      let z = and_parts (reaches s) (list_all reaches xs) r in
      let w = wanted n s q.0 in
      let l = leb-true s.wanted s.past z.0 in
      All-cons (KnowsReached p v.known) n ns (reached n s q.0 (omega arith)) (all_shown ns xs q.1 z.1)

  some_missed : (ns : List Need) (xs : List Seen) → saw_values p v (map pair_of ns) xs ≡ true → list_all reaches xs ≡ false → OneOf (Misses p v) ns
  some_missed [] [] h r = absurd (false≢true (sym r))
  some_missed [] (s ∷ xs) h r = absurd (false≢true h)
  some_missed (n ∷ ns) [] h r = absurd (false≢true h)
  some_missed (n ∷ ns) (s ∷ xs) h r = by_test (reaches s) refl (some_missed ns xs)
    where
      q : (saw_value p v (pair_of n) s ≡ true) × (saw_values p v (map pair_of ns) xs ≡ true)
      q = and_parts (saw_value p v (pair_of n) s) (saw_values p v (map pair_of ns) xs) h

      by_test : (b : Bool) → reaches s ≡ b → (saw_values p v (map pair_of ns) xs ≡ true → list_all reaches xs ≡ false → OneOf (Misses p v) ns) → OneOf (Misses p v) (n ∷ ns)
      by_test true t rest = let o = rest q.1 (sym (ap (λ (b : Bool). b && list_all reaches xs) t) ∙ r) in record { place = suc o.place; pair = o.pair; is = o.is; holds = o.holds }
      by_test false t rest = record { place = 0; pair = n; is = refl; holds = missed n s q.0 (below (wanted n s q.0)) }
        where
          below : s.wanted ≡ n.value → s.past < n.value
          below w = elim (cases_lt s.past n.value) [ inl l ↦ l | inr isnt ↦ absurd (false≢true (sym t ∙ le-leb s.wanted s.past (omega arith))) ]

  one_shown : (ns : List Need) (xs : List Seen) → saw_values p v (map pair_of ns) xs ≡ true → list_any reaches xs ≡ true → OneOf (KnowsReached p v.known) ns
  one_shown [] [] h r = absurd (false≢true r)
  one_shown [] (s ∷ xs) h r = absurd (false≢true h)
  one_shown (n ∷ ns) [] h r = absurd (false≢true h)
  one_shown (n ∷ ns) (s ∷ xs) h r =
      let q = and_parts (saw_value p v (pair_of n) s) (saw_values p v (map pair_of ns) xs) h in
      let w = wanted n s q.0 in
      elim (or_cases (reaches s) (list_any reaches xs) r) [
        | inl t ↦ let l = leb-true s.wanted s.past t in record { place = 0; pair = n; is = refl; holds = reached n s q.0 (omega arith) }
        | inr t ↦ let o = one_shown ns xs q.1 t in record { place = suc o.place; pair = o.pair; is = o.is; holds = o.holds }
      ]

  all_missed : (ns : List Need) (xs : List Seen) → saw_values p v (map pair_of ns) xs ≡ true → list_any reaches xs ≡ false → All (Misses p v) ns
  all_missed [] xs h r = All-nil (Misses p v)
  all_missed (n ∷ ns) [] h r = absurd (false≢true h)
  all_missed (n ∷ ns) (s ∷ xs) h r =
      let q = and_parts (saw_value p v (pair_of n) s) (saw_values p v (map pair_of ns) xs) h in
      let z = or_false (reaches s) (list_any reaches xs) r in
      let w = wanted n s q.0 in
      let l : s.past < n.value = elim (cases_lt s.past n.value) [ inl l ↦ l | inr isnt ↦ absurd (false≢true (sym z.0 ∙ le-leb s.wanted s.past (omega arith))) ] in
      All-cons (Misses p v) n ns (missed n s q.0 l) (all_missed ns xs q.1 z.1)
    where
      or_false : (a b : Bool) → (a || b) ≡ false → (a ≡ false) × (b ≡ false)
      or_false true b h = absurd (false≢true (sym h))
      or_false false b h = (refl, h)

  -- the answer by what was read is one that the pass shows
  pub shows_answer : (j : ℕ) (asks : Question) (xs : List Seen) → is_silent asks ≡ false → saw_values p v (map pair_of (asked p j)) xs ≡ true →
      ((t : ℕ) → asks ≡ AsksValue t → (n : Need) × (ns : List Need) × (asked p j ≡ n ∷ ns) × (n.chain ≡ t)) → ShowsBy p v j asks (answer_by asks xs)
  shows_answer j Silent xs loud h value = absurd (false≢true (sym loud))
  shows_answer j AsksReached xs loud h value = tt
  shows_answer j PollAll xs loud h value = by_test (list_all reaches xs) refl
    where
      by_test : (b : Bool) → list_all reaches xs ≡ b → ShowsBy p v j PollAll (if b then Reached else Timeout)
      by_test true t = all_shown (asked p j) xs h t
      by_test false t = some_missed (asked p j) xs h t
  shows_answer j PollAny xs loud h value = by_test (list_any reaches xs) refl
    where
      by_test : (b : Bool) → list_any reaches xs ≡ b → ShowsBy p v j PollAny (if b then Reached else Timeout)
      by_test true t = one_shown (asked p j) xs h t
      by_test false t = all_missed (asked p j) xs h t
  shows_answer j Fence xs loud h value = by_test (list_all reaches xs) refl
    where
      by_test : (b : Bool) → list_all reaches xs ≡ b → ShowsBy p v j Fence (if b then Reached else NotReady)
      by_test true t = all_shown (asked p j) xs h t
      by_test false t = some_missed (asked p j) xs h t
  shows_answer j (AsksValue t) xs loud h value =
      let r = value t refl in first r.0 r.1 xs (subst (λ (ns : List Need). saw_values p v (map pair_of ns) xs ≡ true) r.2 h) r.3
    where
      first : (n : Need) (ns : List Need) (xs : List Seen) → saw_values p v (map pair_of (n ∷ ns)) xs ≡ true → n.chain ≡ t → ShowsValue p v t (first_past xs)
      first n ns [] h e = absurd (false≢true h)
      first n ns (s ∷ xs) h e = subst (λ (u : ℕ). ShowsValue p v u s.past) e (shows n s (and_parts (saw_value p v (pair_of n) s) (saw_values p v (map pair_of ns) xs) h).0)
