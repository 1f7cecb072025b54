-- An answer that a pass shows is one that the machine may give.
use Rattle.std.proofs.Common.{◌≡◌, ℕ, zero, suc, ◌<◌, ◌≤◌, ◌&&◌, ◌||◌, Bool, true, false, not, eqb, ltb, leb, find, List, [], ◌∷◌, None, Some, All, refl, ap, sym, ◌∙◌, subst, arith, inl, inr, eq-eqb}
use mathlib.Core.Option.{some}
use mathlib.Core.Logic.{dite}
use native.Mathlib.Decide.{ℕ_discrete, dec_le}
use lib.ListN.{get_elem?}
use Rattle.std.specs.List.{slice_get, list_all, list_any}
use Rattle.std.proofs.lemmas.Bool.{cond-true, cond-false, false≢true, le-leb, lt-leb, lt-ltb, and_from, or_left, or_right}
use Rattle.std.proofs.lemmas.Map.Keys.{any_passes_from_place}
use Rattle.atomic_table.specs.Table.{State}
use Rattle.vq_model.specs.declared.plan.Answer.{Answer}
use Rattle.vq_model.specs.declared.plan.Answer.TheVariants.{Reached, Timeout, NotReady, Value}
use Rattle.vq_model.specs.declared.plan.Need.{Need}
use Rattle.vq_model.specs.declared.plan.Question.{Question}
use Rattle.vq_model.specs.declared.plan.Question.TheVariants.{Silent, Reached as AsksReached, PollAll, PollAny, Fence}
use Rattle.vq_model.specs.declared.plan.Question.TheVariants.{Value as AsksValue}
use Rattle.vq_model.specs.Edges.{At, AtEnd}
use Rattle.vq_model.specs.Machine.{Progress, State as MachineState, is_reached, are_reached, was_since, may_answer}
use Rattle.vq_model.specs.Plan.{Plan, asked, question, is_silent, value, initial, chain, chain_of}
use Rattle.vq_ground.specs.Lists.{has}
use Rattle.vq_model.specs.SureOrder.{RisesFrom}
use Rattle.vq_model.specs.WellFormed.{AreInOrder}
use Rattle.vq_ground.proofs.Lists.{has_cases, split_at, any_has}
use Rattle.vq_ground.proofs.Searches.{find_fails}
use Rattle.vq_order_laws.proofs.Cited.{plan_has_sure_order}
use Rattle.vq_plan_laws.proofs.Cited.{plan_well_formed, plan_hosts, needs_alike, same_reached}
use Rattle.vq_run_laws.proofs.Cited.{above_initial}
use Rattle.vq_board_laws.specs.declared.view.View.{View}
use Rattle.vq_board_laws.specs.declared.view.LoggedBuffers.{LoggedBuffers}
use Rattle.vq_board_laws.specs.Words.{Words, words_of, made_of, payload_of, shown}
use Rattle.vq_board_laws.specs.Knowledge.{KnowsMade}
use Rattle.vq_board_laws.specs.May.{KnowsReached}
use Rattle.vq_board_laws.specs.Reached.{SinceStart}
use Rattle.vq_board_laws.specs.Rule.{Kept}
use Rattle.vq_board_laws.specs.RunLaws.{RunLaws}
use Rattle.vq_board_laws.specs.Shows.{Misses, ShowsValue, ShowsBy}
use Rattle.vq_board_laws.proofs.Needs.{all_hold, knows_made, known_reached}
use Rattle.vq_board_laws.proofs.Runs.{end_state}

-- Tests on lists

none_hold : (P : Need → Type 0) (test : Need → Bool) (ns : List Need) → ((n : Need) → P n → test n ≡ false) → All P ns → list_any test ns ≡ false
none_hold P test [] f h = refl
none_hold P test (n ∷ ns) f h = (λ i. f n (h 0 n (omega arith)) i || none_hold P test ns f (λ k d l. h (suc k) d (omega arith)) i)

one_fails : (test : Need → Bool) (ns : List Need) (i : ℕ) (n : Need) → slice_get ns i ≡ Some n → test n ≡ false → list_all test ns ≡ false
one_fails test [] i n e t = absurd (let c : None ≡ Some n = e in cc)
one_fails test (m ∷ ns) zero n e t = let same : m ≡ n = cc in ap (λ b. b && list_all test ns) (ap test same ∙ t)
one_fails test (m ∷ ns) (suc i) n e t = by_first (test m) (one_fails test ns i n e t)
  where
    by_first : (b : Bool) → list_all test ns ≡ false → (b && list_all test ns) ≡ false
    by_first true h = h
    by_first false h = refl

-- the first of a list in order that reaches a value is the least that does
first_least : (p : Plan) (n : ℕ) (xs : List ℕ) (r e : ℕ) → AreInOrder p xs → find (λ x. leb n (value p x)) xs ≡ Some r → has xs e ≡ true → n ≤ value p e → value p r ≤ value p e
first_least p n [] r e o f m l = absurd (false≢true m)
first_least p n (x ∷ xs) r e o f m l = by_test (leb n (value p x)) refl (first_least p n xs r e o.1)
  where
    by_test : (b : Bool) → leb n (value p x) ≡ b → (find (λ y. leb n (value p y)) xs ≡ Some r → has xs e ≡ true → n ≤ value p e → value p r ≤ value p e) → value p r ≤ value p e
    by_test true t rest =
        let g : Some x ≡ Some r = sym (cond-true (leb n (value p x)) (Some x) (find (λ y. leb n (value p y)) xs) t) ∙ f in
        let same : x ≡ r = cc in
        let is : value p x ≡ value p r = ap (value p) same in
        elim (has_cases x xs e m) [
          | inl here ↦ let at : value p x ≡ value p e = ap (value p) here in omega arith
          | inr later ↦ elim (o.0 e later) [ inl above ↦ omega arith | inr tie ↦ let at = tie.0 in omega arith ]
        ]
    by_test false t rest =
        let g : find (λ y. leb n (value p y)) xs ≡ Some r = sym (cond-false (leb n (value p x)) (Some x) (find (λ y. leb n (value p y)) xs) t) ∙ f in
        elim (has_cases x xs e m) [
          | inl here ↦ absurd (let up : leb n (value p x) ≡ true = le-leb n (value p x) (let at : value p x ≡ value p e = ap (value p) here in omega arith) in false≢true (sym t ∙ up))
          | inr later ↦ rest g later l
        ]

module _ (p : Plan) (laws : RunLaws p) (s : State LoggedBuffers View) (id j : ℕ) (v : View) (k : Kept p s) (at : get_elem? s.views id ≡ some v) (runs : v.runs ≡ Some j) where
  abbrev d : Words
  d = words_of s.words

  -- the machine that the words show
  abbrev now : MachineState
  now = end_state p (shown p d) d.job s.views k.rule.run

  paid : now.progress.payload ≡ payload_of p (made_of d)
  paid = ap (λ (z : Progress). z.payload) k.rule.run.leads

  since : SinceStart p now v.runs v.unmade
  since = k.rule.run.since id v at

  made_now : (e : ℕ) → KnowsMade p v.known e → now.progress.made e ≡ true
  made_now e h = ap (λ (z : Progress). z.made e) k.rule.run.leads ∙ knows_made p d s.views v.known e laws k.rule.run (k.rule.knowledge id v at) h

  reached : (n : Need) → KnowsReached p v.known n → is_reached now.progress.payload n ≡ true
  reached n h = ap (λ (f : ℕ → ℕ). is_reached f n) paid ∙ known_reached p d s.views v.known n laws k.rule.run (k.rule.knowledge id v at) h

  -- a pair that the pass misses was above the payload at the start
  missed : (n : Need) → Misses p v n → now.at_start j n.chain < n.value
  missed n miss = elim (dec_le n.value (now.at_start j n.chain)) [
    | no low ↦ omega arith
    | yes high ↦ absurd (elim (since.payload j n.chain runs) [
      | inl first ↦ let above = miss.above in omega arith
      | inr one ↦
          let e : ℕ = one.0 in
          let member = (plan_well_formed p k.plan).in_chain e n.chain one.1 in
          let is = one.2 in
          elim miss.unreached [
            | inl none ↦ false≢true (sym (find_fails (λ x. leb n.value (value p x)) (chain p n.chain) e none member) ∙ le-leb n.value (value p e) (omega arith))
            | inr held ↦
                let least = first_least p n.value (chain p n.chain) held.reaching e ((plan_well_formed p k.plan).chain_order n.chain) held.resolves member (omega arith) in
                let below = since.noted j held.op n.chain runs held.unmade held.in_chain in
                let within = held.within in omega arith
          ]
    ])
  ]

  unreached : (n : Need) → Misses p v n → is_reached (now.at_start j) n ≡ false
  unreached n miss = lt-leb n.value (now.at_start j n.chain) (missed n miss)

  -- an operation of a chain sets more than the initial value
  above_first : (e t : ℕ) → chain_of p e ≡ Some t → initial p t < value p e
  above_first e t c =
      let f = split_at (chain p t) e ((plan_well_formed p k.plan).in_chain e t c) in
      above_initial p (initial p t) f.front f.back e (subst (RisesFrom p (initial p t)) f.whole ((plan_has_sure_order p k.plan k.lawful).chains t))

  -- the payload at the start is at most a value that the pass shows
  start_within : (t n : ℕ) → ShowsValue p v t n → now.at_start j t ≤ n
  start_within t n shows = elim (since.payload j t runs) [
    | inl first ↦ elim shows.known [
      | inl same ↦ omega arith
      | inr one ↦ let above = above_first one.0 t one.1 in let is = one.2 in omega arith
    ]
    | inr one ↦
        let is = one.2 in
        elim shows.next [
          | inl all ↦ let low = all one.0 one.1 in omega arith
          | inr next ↦ elim (dec_le (now.at_start j t) n) [
            | yes low ↦ low
            | no high ↦
                let least = next.least one.0 one.1 (omega arith) in
                let below = since.noted j next.op t runs next.unmade next.in_chain in
                absurd (omega arith)
          ]
        ]
  ]

  was_value : (t n : ℕ) → ShowsValue p v t n → was_since p now j t n ≡ true
  was_value t n shows =
      let low = start_within t n shows in
      let test : ℕ → Bool = λ e. now.progress.made e && eqb (value p e) n in
      let later : Bool = ltb (now.at_start j t) n && list_any test (chain p t) in
      dite (ℕ_discrete n (now.at_start j t))
      (λ same. or_left (eqb n (now.at_start j t)) later (eq-eqb n (now.at_start j t) same))
      (λ ne. or_right (eqb n (now.at_start j t)) later (and_from (ltb (now.at_start j t) n) (list_any test (chain p t)) (lt-ltb (now.at_start j t) n (omega arith)) (elim shows.known [
        | inl first ↦ absurd (elim (since.payload j t runs) [
          | inl start ↦ ne (first ∙ sym start)
          | inr one ↦ let above = above_first one.0 t one.1 in let is = one.2 in omega arith
        ])
        | inr one ↦ any_has test (chain p t) one.0 ((plan_well_formed p k.plan).in_chain one.0 t one.1) (and_from (now.progress.made one.0) (eqb (value p one.0) n) (made_now one.0 one.3) (eq-eqb (value p one.0) n one.2))
      ])))

  -- the needs of a host step all hold back its start
  waited : question p j ≡ AsksReached → are_reached p now.progress.payload j AtEnd ≡ true
  waited asks =
      let host = ((plan_hosts p k.plan).asks j (ap is_silent asks)).0 in
      let same = needs_alike p j 0 ((plan_well_formed p k.plan).host_waits j host) in
      let begun = k.rule.jobs.reached j (let t = ((k.rule.jobs.own id v at).0.runs_one j runs).1 in omega arith) in
      same_reached p j AtEnd (At 1) (sym same) now.progress.payload ∙ (ap (λ (f : ℕ → ℕ). are_reached p f j (At 1)) paid ∙ begun)

  guarded_by : (q : Question) (a : Answer) → question p j ≡ q → ShowsBy p v j q a → may_answer p now j q a ≡ true
  guarded_by AsksReached Reached is h = waited is
  guarded_by PollAll Reached is h = all_hold (KnowsReached p v.known) (is_reached now.progress.payload) (asked p j) reached h
  guarded_by PollAny Reached is h = any_passes_from_place (is_reached now.progress.payload) (asked p j) h.place h.pair h.is (reached h.pair h.holds)
  guarded_by Fence Reached is h = all_hold (KnowsReached p v.known) (is_reached now.progress.payload) (asked p j) reached h
  guarded_by PollAll Timeout is h = ap not (one_fails (is_reached (now.at_start j)) (asked p j) h.place h.pair h.is (unreached h.pair h.holds))
  guarded_by PollAny Timeout is h = ap not (none_hold (Misses p v) (is_reached (now.at_start j)) (asked p j) unreached h)
  guarded_by Fence NotReady is h = ap not (one_fails (is_reached (now.at_start j)) (asked p j) h.place h.pair h.is (unreached h.pair h.holds))
  guarded_by (AsksValue t) (Value n) is h = was_value t n h
  guarded_by Silent Reached is h = absurd h
  guarded_by Silent Timeout is h = absurd h
  guarded_by Silent NotReady is h = absurd h
  guarded_by Silent (Value n) is h = absurd h
  guarded_by AsksReached Timeout is h = absurd h
  guarded_by AsksReached NotReady is h = absurd h
  guarded_by AsksReached (Value n) is h = absurd h
  guarded_by PollAll NotReady is h = absurd h
  guarded_by PollAll (Value n) is h = absurd h
  guarded_by PollAny NotReady is h = absurd h
  guarded_by PollAny (Value n) is h = absurd h
  guarded_by Fence Timeout is h = absurd h
  guarded_by Fence (Value n) is h = absurd h
  guarded_by (AsksValue t) Reached is h = absurd h
  guarded_by (AsksValue t) Timeout is h = absurd h
  guarded_by (AsksValue t) NotReady is h = absurd h

  pub guarded : (a : Answer) → ShowsBy p v j (question p j) a → may_answer p now j (question p j) a ≡ true
  guarded a = guarded_by (question p j) a refl
