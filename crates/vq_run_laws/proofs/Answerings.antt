-- What each state of a run keeps of the answers given so far.
use Rattle.std.proofs.lemmas.Option.{same_Some}
use Rattle.vq_order_laws.proofs.Cited.{rising_at}
use Rattle.std.proofs.Common.{◌≡◌, ℕ, ◌<◌, ◌≤◌, true, false, Option, Some, is_some, option_map, ◌⊎◌, sym, ap, ◌∙◌, Bool, ◌&&◌, cond, eqb, ltb, List, [], ◌∷◌, None, refl, inl, inr, subst, arith}
use Rattle.vq_model.specs.Plan.{Plan, initial, value, chain_of, question, is_host_step, is_silent, needs, asked, waits_for_any, signals_of, chain, job_of}
use Rattle.vq_ground.specs.Lists.{has}
use Rattle.vq_model.specs.Edges.{must_finish, At, AtEnd}
use Rattle.vq_model.specs.Machine.{State, is_reached, are_reached, Step, StartStep, ApplyStep, SignalStep, FinishStep, AnswerStep, put, after_step, with_signal, CanStart, CanFinish, CanAnswer, CanStep, may_answer, was_since}
use Rattle.vq_model.specs.Outputs.{Answered, Shows, IsShownReached, Allowed, IsIn, here, there, Resolves, shown_pairs, ShowsBy, from_floor, carried, AtMostCeiling, IsAboveLow, AllowedBy}
use Rattle.vq_run_laws.proofs.StateFacts.{RaisedTo, Invariant, HasCome, by_signal, by_finish}
use Rattle.vq_run_laws.proofs.PairLists.{told_before, any_in, all_in, not_all_in, not_any_in, in_told, before_put}
use Rattle.std.proofs.lemmas.Bool.{true≢false, eqb-true, or_cases, and_parts, false≢true, cases_eq, cases_lt, cond-true, leb-true, leb-false, ltb-true}
use Rattle.std.specs.List.{list_all, list_any}
use Rattle.std.specs.Option.{option_to_list}
use Rattle.vq_model.specs.declared.plan.Need.{Need}
use Rattle.vq_model.specs.declared.plan.Answer.{Answer}
use Rattle.vq_model.specs.declared.plan.Answer.TheVariants.{Reached, Timeout, NotReady, Value}
use Rattle.vq_model.specs.declared.plan.Question.{Question}
use Rattle.vq_model.specs.declared.plan.Question.TheVariants.{Silent, Reached as AsksReached, PollAll, PollAny, Fence, Value as AsksValue}
use Rattle.vq_model.specs.WellFormed.{IsWellFormed, KeepsHostOrder}
use Rattle.vq_model.specs.HappensBefore.{HappensBefore}
use Rattle.vq_model.specs.Sure.{IsSure}
use Rattle.vq_model.specs.SureOrder.{RisesFrom, KeepsChains}
use Rattle.vq_model.specs.Windows.{at_first, sure, IsPossiblyReached, possible, IsPossible, IsMadeWith, itself, signaled_earlier}
use Rattle.vq_ground.proofs.Lists.{split_at, has-append_cases, has_here, has_there, has_cases, list_all_has}
use Rattle.vq_model.proofs.Puts.{put_here, put_there, put_cases, put_keeps}
use Rattle.vq_run_laws.proofs.KeptSteps.{need_made, made_below, sure_ready}
use Rattle.vq_plan_laws.proofs.Cited.{same_sure, needs_alike}
use Rattle.vq_run_laws.proofs.Payloads.{front_below}

pub record Answering (p : Plan) (s : State) (told : ℕ → Option Answered) : Type 0 where
  pub agrees : (j : ℕ) → option_map (λ x. x.answer) (told j) ≡ s.answer j
  pub named : (j : ℕ) (x : Answered) → told j ≡ Some x → x.job ≡ j
  pub asking : (j : ℕ) (x : Answered) → told j ≡ Some x → (is_silent (question p j) ≡ false) × (s.progress.started j ≡ true)
  pub done : (j : ℕ) → s.progress.finished j ≡ true → is_silent (question p j) ≡ false → is_some (s.answer j) ≡ true
  pub first_done : (i j : ℕ) → s.progress.started j ≡ true → has (must_finish p j) i ≡ true → s.progress.finished i ≡ true
  pub earlier_done : (i j : ℕ) → i < j → is_host_step p i ≡ true → is_host_step p j ≡ true → s.progress.started j ≡ true → s.progress.finished i ≡ true
  pub raised : (e t : ℕ) → s.progress.made e ≡ true → chain_of p e ≡ Some t → value p e ≤ s.progress.payload t
  pub above : (t : ℕ) → initial p t ≤ s.progress.payload t
  pub from_start : (h t : ℕ) → s.progress.started h ≡ true → s.at_start h t ≤ s.progress.payload t
  pub start_is : (h t : ℕ) → s.progress.started h ≡ true → (s.at_start h t ≡ initial p t) ⊎ RaisedTo p s.progress.made t (s.at_start h t)
  pub low : (h t m : ℕ) → s.progress.started h ≡ true → is_silent (question p h) ≡ false → IsShownReached p (told_before told h) h t m → m ≤ s.at_start h t
  pub shown : (j : ℕ) (x : Answered) (e : ℕ) → told j ≡ Some x → Shows p x e → s.progress.made e ≡ true
  pub allowed : (j : ℕ) (x : Answered) → told j ≡ Some x → Allowed p (told_before told j) x

pub none_told : {A : Type 0} {x : Answered} {o : Option Answered} → o ≡ Some x → is_some o ≡ false → A
none_told a b = absurd (true≢false (sym (ap (λ (o : Option Answered). is_some o) a) ∙ b))

module _ (p : Plan) (w : IsWellFormed p) (host : KeepsHostOrder p) (ch : KeepsChains p) (s : State) (told : ℕ → Option Answered) (k : Invariant p s.progress) (a : Answering p s told) where
  -- an operation of a job that signals nothing
  no_signals : {A : Type 0} (h r : ℕ) → signals_of p h ≡ [] → job_of p r ≡ Some h → A
  no_signals h r none i = absurd (false≢true (sym (ap (λ rs. has rs r) none) ∙ w.in_job r h i))

  -- a job that signals nothing is finished before a job after it is at its end
  finished_before : (h j : ℕ) → signals_of p h ≡ [] → HasCome p s.progress.started s.progress.finished s.progress.made s.progress.applied j AtEnd → HappensBefore p h j → s.progress.finished h ≡ true
  finished_before h j none c b = at_end (k.before h j AtEnd c b)
    where
      at_end : HasCome p s.progress.started s.progress.finished s.progress.made s.progress.applied h AtEnd → s.progress.finished h ≡ true
      at_end (by_signal e i m) = no_signals h e none i
      at_end (by_finish f) = f

  -- while a step that signals nothing runs, or before it starts, no operation is made whose job comes after it
  made_possible : (h t e : ℕ) → signals_of p h ≡ [] → s.progress.finished h ≡ false → chain_of p e ≡ Some t → s.progress.made e ≡ true → IsPossible p h t e
  made_possible h t e none open_step c m =
      let o = k.made_job e m in
      record {
        in_chain = c;
        job = o.job;
        of_job = o.is;
        other = λ i. no_signals h e none (o.is ∙ ap Some i);
        not_after = λ b. false≢true (sym open_step ∙ finished_before h o.job none (by_signal e o.is m) b);
      }

  number_possible : (h t : ℕ) → signals_of p h ≡ [] → s.progress.finished h ≡ false → IsPossiblyReached p h t (s.progress.payload t)
  number_possible h t none open_step =
      elim (k.raised t) [
        | inl i ↦ subst (IsPossiblyReached p h t) (sym i) at_first
        | inr o ↦ subst (IsPossiblyReached p h t) o.sets (possible (made_possible h t o.op none open_step (w.of_chain o.op t o.in_chain) o.was_made))
      ]

  -- an operation whose value a made one has reached is made
  made_upto : (t e o : ℕ) → has (chain p t) e ≡ true → has (chain p t) o ≡ true → s.progress.made o ≡ true → value p e ≤ value p o → s.progress.made e ≡ true
  made_upto t e o me mo m l =
      let f = split_at (chain p t) e me in
      let rise = subst (RisesFrom p (initial p t)) f.whole (ch t) in
      elim (has-append_cases f.front (e ∷ f.back) o (subst (λ zs. has zs o ≡ true) f.whole mo)) [
        | inl i ↦ let b = front_below p (initial p t) f.front f.back e o rise i in absurd (omega arith)
        | inr i ↦ elim (has_cases e f.back o i) [
          | inl j ↦ subst (λ z. s.progress.made z ≡ true) (sym j) m
          | inr j ↦ made_below p w ch s.progress.payload s.progress.started s.progress.finished s.progress.made s.progress.applied k e f.back o (rising_at p (initial p t) f.front f.back e rise) j m
        ]
      ]

  -- a reached pair's resolver is made
  pair_made : (n : Need) (e : ℕ) → n.value ≤ s.progress.payload n.chain → Resolves p n e → s.progress.made e ≡ true
  pair_made n e l r =
      need_made p w ch s.progress.payload s.progress.started s.progress.finished s.progress.made s.progress.applied k e (record { chain = n.chain; value = n.value; above = r.above; reached = l; resolves = r.resolves })

  -- what is known at the start of a step bounds its window from below
  low_now : (h t m : ℕ) → is_silent (question p h) ≡ false → IsShownReached p (told_before told h) h t m → (made_sure : (e : ℕ) → IsSure p e h → s.progress.made e ≡ true) → m ≤ s.progress.payload t
  low_now h t m q (from_floor at_first) f = a.above t
  low_now h t m q (from_floor (sure {e = e} c u)) f = a.raised e t (f e u) c
  low_now h t m q (carried {f = o} x e i sh c on) f =
      let j = in_told told 0 h x i in
      let made_e = a.shown j.0 x e j.3 sh in
      a.raised o t (by_carry e o made_e c) on
    where
      by_carry : (e o : ℕ) → s.progress.made e ≡ true → IsMadeWith p e o → s.progress.made o ≡ true
      by_carry e o me itself = me
      by_carry e o me (signaled_earlier {j = j} i q l) = k.made_earlier o e j me q i (omega arith)
      by_carry e o me (sure {j = j} i u) = k.sure o j AtEnd (by_signal e i me) u

  -- An answer of a running step is allowed, with some pair, and what it shows is made.
  module _ (h : ℕ) (st : s.progress.started h ≡ true) (open_step : s.progress.finished h ≡ false) (asks : is_silent (question p h) ≡ false) where
    abbrev as_told : Answer → Option Need → Answered
    as_told x n = record { job = h; answer = x; pick = n }

    record IsFine (q : Question) (x : Answer) : Type 0 where
      pick : Option Need
      fine : AllowedBy p (told_before told h) (as_told x pick) q x
      makes : (e : ℕ) → ShowsBy p (as_told x pick) e q x → s.progress.made e ≡ true

    none : signals_of p h ≡ []
    none = (host.asks h asks).1

    reached_is : (n : Need) → is_reached s.progress.payload n ≡ true → n.value ≤ s.progress.payload n.chain
    reached_is n r = leb-true n.value (s.progress.payload n.chain) r

    under : (n : Need) → is_reached s.progress.payload n ≡ true → AtMostCeiling p h n
    under n r = (s.progress.payload n.chain, number_possible h n.chain none open_step, reached_is n r)

    over : (n : Need) → is_reached (s.at_start h) n ≡ false → IsAboveLow p (told_before told h) h n
    over n r m l = let b = a.low h n.chain m st asks l in let c = leb-false n.value (s.at_start h n.chain) r in omega arith

    only : (n m : Need) → IsIn n (m ∷ []) → n ≡ m
    only n _ here = refl
    only n m (there i) = elim i [ ]

    waited : are_reached p s.progress.payload h AtEnd ≡ true → IsFine AsksReached Reached
    waited r = by_any (waits_for_any p h) refl
      where
        pairs : (b : Bool) → waits_for_any p h ≡ b → (x : Option Need) → shown_pairs p (as_told Reached x) AsksReached ≡ cond b (option_to_list x) []
        pairs b e x = ap (λ c. cond c (option_to_list x) []) e

        by_any : (b : Bool) → waits_for_any p h ≡ b → IsFine AsksReached Reached
        by_any true e =
            let f = any_in (is_reached s.progress.payload) (needs p h) (sym (cond-true (waits_for_any p h) (list_any (is_reached s.progress.payload) (needs p h)) (list_all (is_reached s.progress.payload) (needs p h)) e) ∙ r) in
            record {
              pick = Some f.0;
              fine = λ y. (f.0, refl, f.1, under f.0 f.2);
              makes = λ o c. let j = only c.0 f.0 (subst (IsIn c.0) (pairs true e (Some f.0)) c.1) in pair_made c.0 o (subst (λ z. z.value ≤ s.progress.payload z.chain) (sym j) (reached_is f.0 f.2)) c.2;
            }
        by_any false e =
            record {
              pick = None;
              fine = λ y. absurd (false≢true (sym e ∙ y));
              makes = λ o c. absurd (elim (subst (IsIn c.0) (pairs false e None) c.1) [ ]);
            }

    -- a value of a read
    read_value : (t n : ℕ) → was_since p s h t n ≡ true → IsFine (AsksValue t) (Value n)
    read_value t n r =
        elim (or_cases (eqb n (s.at_start h t)) (ltb (s.at_start h t) n && list_any (λ e. s.progress.made e && eqb (value p e) n) (chain p t)) r) [
          | inl i ↦ at_start_value (eqb-true n (s.at_start h t) i)
          | inr i ↦
              let parts = and_parts (ltb (s.at_start h t) n) (list_any (λ e. s.progress.made e && eqb (value p e) n) (chain p t)) i in
              let f = any_op (chain p t) parts.1 in
              let q = and_parts (s.progress.made f.0) (eqb (value p f.0) n) f.2 in
              by_op f.0 f.1 q.0 (eqb-true (value p f.0) n q.1) (ltb-true (s.at_start h t) n parts.0)
        ]
      where
        any_op : (es : List ℕ) → list_any (λ e. s.progress.made e && eqb (value p e) n) es ≡ true → (e : ℕ) × (has es e ≡ true) × ((s.progress.made e && eqb (value p e) n) ≡ true)
        any_op [] g = absurd (false≢true g)
        any_op (e ∷ es) g =
            elim (or_cases (s.progress.made e && eqb (value p e) n) (list_any (λ e. s.progress.made e && eqb (value p e) n) es) g) [
              | inl i ↦ (e, has_here e es, i)
              | inr i ↦ let f = any_op es i in (f.0, has_there e es f.0 f.1, f.2)
            ]

        by_op : (o : ℕ) → has (chain p t) o ≡ true → s.progress.made o ≡ true → value p o ≡ n → s.at_start h t < n → IsFine (AsksValue t) (Value n)
        by_op o mo m v l =
            let on = w.of_chain o t mo in
            record {
              pick = None;
              fine = record {
                known = inr (o, on, v);
                low = λ x y. let b = a.low h t x st asks y in omega arith;
                high = (value p o, possible (made_possible h t o none open_step on m), omega arith);
              };
              makes = λ e c. made_upto t e o (w.in_chain e t c.0) mo m (let d = c.2 in omega arith);
            }

        at_start_value : n ≡ s.at_start h t → IsFine (AsksValue t) (Value n)
        at_start_value i =
            elim (a.start_is h t st) [
              | inl j ↦ record {
                pick = None;
                fine = record {
                  known = inl (i ∙ j);
                  low = λ x y. let b = a.low h t x st asks y in omega arith;
                  high = (initial p t, at_first, omega arith);
                };
                makes = λ e c. let d = c.1 in absurd (omega arith);
              }
              | inr o ↦
                  let on = w.of_chain o.op t o.in_chain in
                  let v = o.sets in
                  record {
                    pick = None;
                    fine = record {
                      known = inr (o.op, on, v ∙ sym i);
                      low = λ x y. let b = a.low h t x st asks y in omega arith;
                      high = (value p o.op, possible (made_possible h t o.op none open_step on o.was_made), omega arith);
                    };
                    makes = λ e c. made_upto t e o.op (w.in_chain e t c.0) o.in_chain o.was_made (let d = c.2 in omega arith);
                  }
            ]

    answer_fine : (q : Question) (x : Answer) → may_answer p s h q x ≡ true → IsFine q x
    answer_fine AsksReached Reached r = waited r
    answer_fine PollAll Reached r =
        record {
          pick = None;
          fine = λ n i. under n (all_in (is_reached s.progress.payload) (asked p h) n r i);
          makes = λ o c. pair_made c.0 o (reached_is c.0 (all_in (is_reached s.progress.payload) (asked p h) c.0 r c.1)) c.2;
        }
    answer_fine PollAny Reached r =
        let f = any_in (is_reached s.progress.payload) (asked p h) r in
        record {
          pick = Some f.0;
          fine = (f.0, refl, f.1, under f.0 f.2);
          makes = λ o c. let j = only c.0 f.0 c.1 in pair_made c.0 o (subst (λ z. z.value ≤ s.progress.payload z.chain) (sym j) (reached_is f.0 f.2)) c.2;
        }
    answer_fine Fence Reached r =
        record {
          pick = None;
          fine = λ n i. under n (all_in (is_reached s.progress.payload) (asked p h) n r i);
          makes = λ o c. pair_made c.0 o (reached_is c.0 (all_in (is_reached s.progress.payload) (asked p h) c.0 r c.1)) c.2;
        }
    answer_fine PollAll Timeout r =
        let f = not_all_in (is_reached (s.at_start h)) (asked p h) r in
        record { pick = None; fine = (f.0, f.1, over f.0 f.2); makes = λ o c. absurd c }
    answer_fine PollAny Timeout r =
        record { pick = None; fine = λ n i. over n (not_any_in (is_reached (s.at_start h)) (asked p h) n r i); makes = λ o c. absurd c }
    answer_fine Fence NotReady r =
        let f = not_all_in (is_reached (s.at_start h)) (asked p h) r in
        record { pick = None; fine = (f.0, f.1, over f.0 f.2); makes = λ o c. absurd c }
    answer_fine (AsksValue t) (Value n) r = read_value t n r
    answer_fine q x r = absurd (false≢true r)

  -- Steps

  start_keeps : (j : ℕ) → CanStart p s.progress j → Answering p (after_step p s (StartStep j)) told
  start_keeps j g =
      record {
        agrees = a.agrees;
        named = a.named;
        asking = λ i x t. let o = a.asking i x t in (o.0, put_keeps s.progress.started j i o.1);
        done = a.done;
        first_done = λ i q st m. elim (put_cases s.progress.started j q st) [ inl e ↦ finished_now i (subst (λ z. has (must_finish p z) i ≡ true) e m) | inr o ↦ a.first_done i q o m ];
        earlier_done = λ i q l hi hq st. elim (put_cases s.progress.started j q st) [ inl e ↦ earlier_now i (subst (λ z. i < z) e l) hi (subst (λ z. is_host_step p z ≡ true) e hq) | inr o ↦ a.earlier_done i q l hi hq o ];
        raised = a.raised;
        above = a.above;
        from_start = λ h t st. elim (cases_eq h j) [ inl e ↦ (let v = at_here h t e in omega arith) | inr n ↦ (let v = at_there h t n in let o = a.from_start h t (was h st n) in omega arith) ];
        start_is = λ h t st. elim (cases_eq h j) [
          | inl e ↦ subst (λ z. (z ≡ initial p t) ⊎ RaisedTo p s.progress.made t z) (sym (at_here h t e)) (k.raised t)
          | inr n ↦ subst (λ z. (z ≡ initial p t) ⊎ RaisedTo p s.progress.made t z) (sym (at_there h t n)) (a.start_is h t (was h st n))
        ];
        low = λ h t m st q l. elim (cases_eq h j) [
          | inl e ↦ (let v = at_here h t e in let b = low_now h t m q l (λ x u. sure_now (subst (λ z. is_silent (question p z) ≡ false) e q) x (subst (IsSure p x) e u)) in omega arith)
          | inr n ↦ (let v = at_there h t n in let b = a.low h t m (was h st n) q l in omega arith)
        ];
        shown = a.shown;
        allowed = a.allowed;
      }
    where
      was : (h : ℕ) → put s.progress.started j true h ≡ true → (h ≡ j → ⊥) → s.progress.started h ≡ true
      was h st n = sym (put_there s.progress.started j true h n) ∙ st

      at_here : (h t : ℕ) → h ≡ j → put s.at_start j s.progress.payload h t ≡ s.progress.payload t
      at_here h t e = ap (λ z. put s.at_start j s.progress.payload z t) e ∙ ap (λ (f : ℕ → ℕ). f t) (put_here s.at_start j s.progress.payload)

      at_there : (h t : ℕ) → (h ≡ j → ⊥) → put s.at_start j s.progress.payload h t ≡ s.at_start h t
      at_there h t n = ap (λ (f : ℕ → ℕ). f t) (put_there s.at_start j s.progress.payload h n)

      parts : (list_all s.progress.finished (must_finish p j) ≡ true) × (are_reached p s.progress.payload j (At 1) ≡ true)
      parts = and_parts (list_all s.progress.finished (must_finish p j)) (are_reached p s.progress.payload j (At 1)) g.ready

      finished_now : (i : ℕ) → has (must_finish p j) i ≡ true → s.progress.finished i ≡ true
      finished_now i m = list_all_has s.progress.finished (must_finish p j) i parts.0 m

      -- all needs of a host step hold back its start
      sure_now : is_silent (question p j) ≡ false → (x : ℕ) → IsSure p x j → s.progress.made x ≡ true
      sure_now q x u =
          sure_ready p w ch s.progress.payload s.progress.started s.progress.finished s.progress.made s.progress.applied k j (At 1) finished_now parts.1 x
          (same_sure p x j AtEnd (At 1) (sym (needs_alike p j 0 (w.host_waits j (host.asks j q).0))) u)

      earlier_now : (i : ℕ) → i < j → is_host_step p i ≡ true → is_host_step p j ≡ true → s.progress.finished i ≡ true
      earlier_now i l hi hj =
          let q = host.lane i j l hi hj in
          let f = finished_now q.0 q.4 in
          elim (cases_eq i q.0) [
            | inl e ↦ subst (λ z. s.progress.finished z ≡ true) (sym e) f
            | inr n ↦ a.earlier_done i q.0 (below q.0 q.1 n) hi q.3 (k.finished_started q.0 f)
          ]
        where
          below : (z : ℕ) → i ≤ z → (i ≡ z → ⊥) → i < z
          below z l n = grind arith

  apply_keeps : (c : ℕ) → Answering p (after_step p s (ApplyStep c)) told
  apply_keeps c =
      record {
        agrees = a.agrees;
        named = a.named;
        asking = a.asking;
        done = a.done;
        first_done = a.first_done;
        earlier_done = a.earlier_done;
        raised = a.raised;
        above = a.above;
        from_start = a.from_start;
        start_is = a.start_is;
        low = a.low;
        shown = a.shown;
        allowed = a.allowed;
      }

  finish_keeps : (j : ℕ) → CanFinish p s j → Answering p (after_step p s (FinishStep j)) told
  finish_keeps j g =
      record {
        agrees = a.agrees;
        named = a.named;
        asking = a.asking;
        done = λ i f q. elim (put_cases s.progress.finished j i f) [
          | inl e ↦ elim (or_cases (is_silent (question p j)) (is_some (s.answer j)) g.answered) [
            | inl x ↦ absurd (false≢true (sym (ap (λ z. is_silent (question p z)) (sym e) ∙ q) ∙ x))
            | inr x ↦ subst (λ z. is_some (s.answer z) ≡ true) (sym e) x
          ]
          | inr o ↦ a.done i o q
        ];
        first_done = λ i q st m. put_keeps s.progress.finished j i (a.first_done i q st m);
        earlier_done = λ i q l hi hq st. put_keeps s.progress.finished j i (a.earlier_done i q l hi hq st);
        raised = a.raised;
        above = a.above;
        from_start = a.from_start;
        start_is = a.start_is;
        low = a.low;
        shown = a.shown;
        allowed = a.allowed;
      }

  signal_keeps : (e t : ℕ) → chain_of p e ≡ Some t → s.progress.payload t < value p e → Answering p (record s { progress = with_signal p s.progress e (Some t) }) told
  signal_keeps e t c l =
      record {
        agrees = a.agrees;
        named = a.named;
        asking = a.asking;
        done = a.done;
        first_done = a.first_done;
        earlier_done = a.earlier_done;
        raised = λ f u m on. elim (put_cases s.progress.made e f m) [
          | inl i ↦ (let v = here u (same_Some u t (sym on ∙ (ap (chain_of p) i ∙ c))) in let x = ap (value p) i in omega arith)
          | inr o ↦ (let r = a.raised f u o on in let g = rises u in omega arith)
        ];
        above = λ u. let r = a.above u in let g = rises u in omega arith;
        from_start = λ h u st. let r = a.from_start h u st in let g = rises u in omega arith;
        start_is = λ h u st. elim (a.start_is h u st) [
          | inl i ↦ inl i
          | inr o ↦ inr (record { op = o.op; in_chain = o.in_chain; was_made = put_keeps s.progress.made e o.op o.was_made; sets = o.sets })
        ];
        low = a.low;
        shown = λ j x f i sh. put_keeps s.progress.made e f (a.shown j x f i sh);
        allowed = a.allowed;
      }
    where
      here : (u : ℕ) → u ≡ t → put s.progress.payload t (value p e) u ≡ value p e
      here u i = ap (put s.progress.payload t (value p e)) i ∙ put_here s.progress.payload t (value p e)

      rises : (u : ℕ) → s.progress.payload u ≤ put s.progress.payload t (value p e) u
      rises u =
          elim (cases_eq u t) [
            | inl i ↦ (let v = here u i in let x = ap s.progress.payload i in omega arith)
            | inr n ↦ (let v = put_there s.progress.payload t (value p e) u n in omega arith)
          ]

  not_silent : (j : ℕ) (q : Question) (x : Answer) → may_answer p s j q x ≡ true → is_silent q ≡ false
  not_silent j Silent Reached r = absurd (false≢true r)
  not_silent j Silent Timeout r = absurd (false≢true r)
  not_silent j Silent NotReady r = absurd (false≢true r)
  not_silent j Silent (Value n) r = absurd (false≢true r)
  not_silent j q x r = refl

  answer_keeps : (j : ℕ) (x : Answer) → CanAnswer p s j x → (told' : ℕ → Option Answered) × Answering p (after_step p s (AnswerStep j x)) told'
  answer_keeps j x g = (put told j (Some new), now)
    where
      asks : is_silent (question p j) ≡ false
      asks = not_silent j (question p j) x g.allowed

      contradicts : {A : Type 0} → s.progress.finished j ≡ true → A
      contradicts f = absurd (false≢true (sym g.unanswered ∙ a.done j f asks))

      open_now : (b : Bool) → s.progress.finished j ≡ b → s.progress.finished j ≡ false
      open_now true e = contradicts e
      open_now false e = e

      good : IsFine j g.started (open_now (s.progress.finished j) refl) asks (question p j) x
      good = answer_fine j g.started (open_now (s.progress.finished j) refl) asks (question p j) x g.allowed

      new : Answered
      new = record { job = j; answer = x; pick = good.pick }

      same : (h : ℕ) → h ≤ j → told_before (put told j (Some new)) h ≡ told_before told h
      same h l = before_put told j new 0 h (omega arith)

      -- no later host step has started
      not_later : {A : Type 0} (h : ℕ) → j < h → s.progress.started h ≡ true → is_silent (question p h) ≡ false → A
      not_later h l st q = contradicts (a.earlier_done j h l (host.asks j asks).0 (host.asks h q).0 st)

      now : Answering p (after_step p s (AnswerStep j x)) (put told j (Some new))
      now =
          record {
            agrees = λ i. elim (cases_eq i j) [
              | inl e ↦ ap (option_map (λ y. y.answer)) (ap (put told j (Some new)) e ∙ put_here told j (Some new)) ∙ sym (ap (put s.answer j (Some x)) e ∙ put_here s.answer j (Some x))
              | inr n ↦ ap (option_map (λ y. y.answer)) (put_there told j (Some new) i n) ∙ (a.agrees i ∙ sym (put_there s.answer j (Some x) i n))
            ];
            named = λ i y t. elim (cases_eq i j) [
              | inl e ↦ let f = told_here i y e t in ap (λ z. z.job) (sym f) ∙ sym e
              | inr n ↦ a.named i y (told_there i y n t)
            ];
            asking = λ i y t. elim (cases_eq i j) [
              | inl e ↦ subst (λ z. (is_silent (question p z) ≡ false) × (s.progress.started z ≡ true)) (sym e) (asks, g.started)
              | inr n ↦ a.asking i y (told_there i y n t)
            ];
            done = λ i f q. elim (cases_eq i j) [
              | inl e ↦ ap (λ (o : Option Answer). is_some o) (ap (put s.answer j (Some x)) e ∙ put_here s.answer j (Some x))
              | inr n ↦ ap (λ (o : Option Answer). is_some o) (put_there s.answer j (Some x) i n) ∙ a.done i f q
            ];
            first_done = a.first_done;
            earlier_done = a.earlier_done;
            raised = a.raised;
            above = a.above;
            from_start = a.from_start;
            start_is = a.start_is;
            low = λ h t m st q l. elim (cases_lt j h) [
              | inl b ↦ not_later h b st q
              | inr b ↦ a.low h t m st q (subst (λ zs. IsShownReached p zs h t m) (same h b) l)
            ];
            shown = λ i y f t sh. elim (cases_eq i j) [
              | inl e ↦ good.makes f (subst (λ z. Shows p z f) (sym (told_here i y e t)) sh)
              | inr n ↦ a.shown i y f (told_there i y n t) sh
            ];
            allowed = λ i y t. elim (cases_eq i j) [
              | inl e ↦ subst (λ z. Allowed p (told_before (put told j (Some new)) z) y) (sym e) (subst (λ zs. Allowed p zs y) (sym (same j (let l : j ≤ j = omega arith in l))) (subst (λ z. Allowed p (told_before told j) z) (told_here i y e t) good.fine))
              | inr n ↦
                  let old = told_there i y n t in
                  let o = a.asking i y old in
                  elim (cases_lt j i) [
                    | inl b ↦ not_later i b o.1 o.0
                    | inr b ↦ subst (λ zs. Allowed p zs y) (sym (same i b)) (a.allowed i y old)
                  ]
            ];
          }
        where
          told_there : (i : ℕ) (y : Answered) → (i ≡ j → ⊥) → put told j (Some new) i ≡ Some y → told i ≡ Some y
          told_there i y n t = sym (put_there told j (Some new) i n) ∙ t

          told_here : (i : ℕ) (y : Answered) → i ≡ j → put told j (Some new) i ≡ Some y → new ≡ y
          told_here i y e t = let c : Some new ≡ Some y = sym (ap (put told j (Some new)) e ∙ put_here told j (Some new)) ∙ t in cc

  pub step_keeps : (x : Step) → CanStep p s x → (told' : ℕ → Option Answered) × Answering p (after_step p s x) told'
  step_keeps (StartStep j) g = (told, start_keeps j g)
  step_keeps (ApplyStep c) g = (told, apply_keeps c)
  step_keeps (SignalStep e) g =
      let P : Option ℕ → Type 0 = λ o. Answering p (record s { progress = with_signal p s.progress e o }) told in
      (told, subst P (sym g.in_chain) (signal_keeps e g.chain g.in_chain g.rises))
  step_keeps (FinishStep j) g = (told, finish_keeps j g)
  step_keeps (AnswerStep j x) g = answer_keeps j x g
