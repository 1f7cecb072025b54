-- One more job is done: marks, heads and payloads follow.
use Rattle.std.proofs.Common.{◌≡◌, ◌≢◌, ℕ, zero, suc, ◌+◌, ◌<◌, ◌≤◌, max, Bool, true, false, List, [], ◌∷◌, ◌++◌, length, get_or, replicate, filter, fold, map, Option, Some, None, refl, sym, ap, ◌∙◌, ◌⊎◌, inl, inr, subst, arith}
use Rattle.std.proofs.Math.ListN.{set, get_or-append}
use Rattle.std.specs.List.{range_with_len}
use Rattle.std.specs.Option.{option_map_or}
use Rattle.std.proofs.lemmas.List.{get_or-set_same, get_or-set_other, length-set, length-append, length-replicate, get_or-replicate}
use Rattle.std.proofs.Math.Seq.{get_or-append_seam}
use Rattle.std.proofs.lemmas.Bool.{false≢true, cases_eq, cases_lt, or_cases, or_left, or_right, cond-false}
use Rattle.vq_model.specs.Plan.{Plan, job_of, chain_of, chain, initial, value, signals_of}
use Rattle.vq_ground.specs.Lists.{has}
use Rattle.vq_model.specs.Edges.{must_finish}
use Rattle.vq_model.specs.Lanes.{lane_at, KeepsLanes}
use Rattle.vq_model.specs.SlowRun.{is_ready, is_of, payload_after, lowest_ready, slow_from}
use Rattle.vq_model.specs.WellFormed.{IsWellFormed}
use Rattle.vq_ground.proofs.Lists.{has-append_left, has-append_right, has_here, list_all_has, not_pushed, pushed}
use Rattle.vq_ground.proofs.Searches.{find_passes}
use Rattle.vq_ground.proofs.Numbers.{has-range_cases}
use Rattle.vq_ground.proofs.Searches.{find_member}
use Rattle.vq_spec.specs.SlowProgress.{IsClosed, IsHead, AreHeads, AreMarks, ArePayloads, IsPayloadOf, with_some, PayloadsWith, IsProgress}
use Rattle.vq_spec.proofs.SlowHeads.{ready_first, lane_done, payload_is, one_payload}
use Rattle.vq_ground.proofs.Bools.{same_tests}

-- a job that is ready keeps what is done closed
pub closed_push : (p : Plan) (lanes : KeepsLanes p) (done : List ℕ) (j : ℕ) → IsClosed p done → is_ready p done j ≡ true → IsClosed p (done ++ j ∷ [])
closed_push p lanes done j closed r i q h m = elim (pushed done j q h) [
  | inl d ↦ has-append_left done (j ∷ []) i (closed i q d m)
  | inr e ↦ has-append_left done (j ∷ []) i (list_all_has (has done) (must_finish p j) i (ready_first p lanes done closed j r).1 (subst (λ z. has (must_finish p z) i ≡ true) (sym e) m))
]

pub marks_push : (p : Plan) (done : List ℕ) (marks : List Bool) (j : ℕ) → j < length p.jobs → AreMarks p done marks → AreMarks p (done ++ j ∷ []) (set marks j true)
marks_push p done marks j l m =
    record {
      count = length-set marks j true ∙ m.count;
      each = λ q h. elim (cases_eq q j) [
        | inl e ↦ subst (λ z. get_or (set marks j true) z false ≡ has (done ++ j ∷ []) z) (sym e) (get_or-set_same marks j true false (let n = m.count in omega arith) ∙ sym (has-append_right done (j ∷ []) j (has_here j [])))
        | inr n ↦ get_or-set_other marks j q true false n ∙ (m.each q h ∙ same_tests (has done q) (has (done ++ j ∷ []) q) (λ t. has-append_left done (j ∷ []) q t) (λ t. elim (pushed done j q t) [ inl d ↦ d | inr e ↦ absurd (n (sym e)) ]))
      ];
    }

module _ (p : Plan) (lanes : KeepsLanes p) (done : List ℕ) (closed : IsClosed p done) (j : ℕ) (exists : j < length p.jobs) (new : has done j ≡ false) where
  -- a later job of the lane isn't done
  later_waits : (q : ℕ) → j < q → q < length p.jobs → lane_at p q ≡ lane_at p j → has done q ≡ false
  later_waits q l h e = by_bool (has done q) refl
    where
      by_bool : (b : Bool) → has done q ≡ b → has done q ≡ false
      by_bool false d = d
      by_bool true d = absurd (false≢true (sym new ∙ lane_done p lanes done closed q j q (omega arith) h (λ k m. closed k q d m) l (sym e)))

  -- the head of the job's lane moves on to the next job there; the other heads stay
  pub heads_push : (heads : List ℕ) (next : ℕ) → AreHeads p done heads → get_or heads (lane_at p j) 0 ≡ j → next ≤ length p.jobs → j < next
      → ((i : ℕ) → j < i → i < next → lane_at p i ≢ lane_at p j) → (next < length p.jobs → lane_at p next ≡ lane_at p j)
      → AreHeads p (done ++ j ∷ []) (set heads (lane_at p j) next)
  heads_push heads next hs at within up none in_lane =
      record { count = length-set heads (lane_at p j) next ∙ hs.count; each = λ l b. each l b (cases_eq l (lane_at p j)) }
    where
      here : lane_at p j < length heads
      here = let n = hs.count in let m = lanes.lane_exists j in omega arith

      moved : IsHead p (done ++ j ∷ []) (lane_at p j) next
      moved =
          record {
            within = within;
            before = λ i l e. elim (cases_lt i j) [
              | inl a ↦ has-append_left done (j ∷ []) i ((subst (IsHead p done (lane_at p j)) at (hs.each (lane_at p j) (lanes.lane_exists j))).before i a e)
              | inr a ↦ elim (cases_eq i j) [
                | inl s ↦ subst (λ z. has (done ++ j ∷ []) z ≡ true) (sym s) (has-append_right done (j ∷ []) j (has_here j []))
                | inr s ↦ absurd (none i (grind arith) l e)
              ]
            ];
            in_lane = in_lane;
            waits = λ l. not_pushed done j next (later_waits next up l (in_lane l)) (λ q. (let k : j < j = subst (λ z. j < z) (sym q) up in omega arith));
          }

      each : (l : ℕ) → l ≤ length p.script.queues → ((l ≡ lane_at p j) ⊎ (l ≢ lane_at p j)) → IsHead p (done ++ j ∷ []) l (get_or (set heads (lane_at p j) next) l 0)
      each l b (inl e) = subst (λ z. IsHead p (done ++ j ∷ []) z (get_or (set heads (lane_at p j) next) z 0)) (sym e) (subst (IsHead p (done ++ j ∷ []) (lane_at p j)) (sym (get_or-set_same heads (lane_at p j) next 0 here)) moved)
      each l b (inr n) =
          let old = hs.each l b in
          subst (IsHead p (done ++ j ∷ []) l) (sym (get_or-set_other heads (lane_at p j) l next 0 n)) (record {
            within = old.within;
            before = λ i h e. has-append_left done (j ∷ []) i (old.before i h e);
            in_lane = old.in_lane;
            waits = λ h. not_pushed done j (get_or heads l 0) (old.waits h) (λ q. n (sym (old.in_lane h) ∙ ap (lane_at p) (sym q)));
          })

-- Payloads while the signals of a job are made

module _ (p : Plan) (w : IsWellFormed p) (done : List ℕ) where
  push_cases : (signals : List ℕ) (e f : ℕ) → with_some p done (signals ++ e ∷ []) f ≡ true → (with_some p done signals f ≡ true) ⊎ (e ≡ f)
  push_cases signals e f h = elim (or_cases (is_of p done f) (has (signals ++ e ∷ []) f) h) [
    | inl a ↦ inl (or_left (is_of p done f) (has signals f) a)
    | inr a ↦ elim (pushed signals e f a) [ inl b ↦ inl (or_right (is_of p done f) (has signals f) b) | inr b ↦ inr b ]
  ]

  push_old : (signals : List ℕ) (e f : ℕ) → with_some p done signals f ≡ true → with_some p done (signals ++ e ∷ []) f ≡ true
  push_old signals e f h = elim (or_cases (is_of p done f) (has signals f) h) [
    | inl a ↦ or_left (is_of p done f) (has (signals ++ e ∷ []) f) a
    | inr a ↦ or_right (is_of p done f) (has (signals ++ e ∷ []) f) (has-append_left signals (e ∷ []) f a)
  ]

  -- the payload of the operation's chain is raised to its value
  pub payload_raised : (signals : List ℕ) (e t n : ℕ) → chain_of p e ≡ Some t → IsPayloadOf p (with_some p done signals) t n → IsPayloadOf p (with_some p done (signals ++ e ∷ [])) t (max n (value p e))
  payload_raised signals e t n c k =
      record {
        from = elim (cases_lt n (value p e)) [
          | inl l ↦ inr (e, w.in_chain e t c, or_right (is_of p done e) (has (signals ++ e ∷ []) e) (has-append_right signals (e ∷ []) e (has_here e [])), (omega arith))
          | inr l ↦ (let same : max n (value p e) ≡ n = omega arith in elim k.from [
            | inl a ↦ inl (same ∙ a)
            | inr a ↦ inr (a.0, a.1, push_old signals e a.0 a.2, a.3 ∙ sym same)
          ])
        ];
        above_initial = let a = k.above_initial in omega arith;
        above = λ f h o. elim (push_cases signals e f o) [
          | inl a ↦ (let b = k.above f h a in omega arith)
          | inr a ↦ (let b = ap (value p) a in omega arith)
        ];
      }

  pub payload_kept : (signals : List ℕ) (e s t n : ℕ) → chain_of p e ≡ Some s → t ≢ s → IsPayloadOf p (with_some p done signals) t n → IsPayloadOf p (with_some p done (signals ++ e ∷ [])) t n
  payload_kept signals e s t n c apart k =
      record {
        from = elim k.from [ inl a ↦ inl a | inr a ↦ inr (a.0, a.1, push_old signals e a.0 a.2, a.3) ];
        above_initial = k.above_initial;
        above = λ f h o. elim (push_cases signals e f o) [
          | inl a ↦ k.above f h a
          | inr a ↦ (let d : Some s ≡ Some t = sym c ∙ (ap (chain_of p) a ∙ w.of_chain f t h) in let q : s ≡ t = cc in absurd (apart (sym q)))
        ];
      }

  -- before the signals, and after them
  pub payload_start : (t : ℕ) → IsPayloadOf p (with_some p done []) t (payload_after p done t)
  payload_start t =
      let k = payload_is p done t in
      record {
        from = elim k.from [ inl a ↦ inl a | inr a ↦ inr (a.0, a.1, or_left (is_of p done a.0) false a.2, a.3) ];
        above_initial = k.above_initial;
        above = λ f h o. elim (or_cases (is_of p done f) false o) [ inl a ↦ k.above f h a | inr a ↦ absurd (false≢true a) ];
      }

  of_push : (j e : ℕ) → is_of p (done ++ j ∷ []) e ≡ with_some p done (signals_of p j) e
  of_push j e = same_tests (is_of p (done ++ j ∷ []) e) (with_some p done (signals_of p j) e) (to (job_of p e) refl) (back (job_of p e) refl)
    where
      to : (o : Option ℕ) → job_of p e ≡ o → is_of p (done ++ j ∷ []) e ≡ true → with_some p done (signals_of p j) e ≡ true
      to None q h = absurd (false≢true (sym (ap (λ x. option_map_or (has (done ++ j ∷ [])) x false) q) ∙ h))
      to (Some i) q h = elim (pushed done j i (sym (ap (λ x. option_map_or (has (done ++ j ∷ [])) x false) q) ∙ h)) [
        | inl d ↦ or_left (is_of p done e) (has (signals_of p j) e) (ap (λ x. option_map_or (has done) x false) q ∙ d)
        | inr s ↦ or_right (is_of p done e) (has (signals_of p j) e) (w.in_job e j (q ∙ ap Some (sym s)))
      ]

      back : (o : Option ℕ) → job_of p e ≡ o → with_some p done (signals_of p j) e ≡ true → is_of p (done ++ j ∷ []) e ≡ true
      back o q h = elim (or_cases (is_of p done e) (has (signals_of p j) e) h) [
        | inl a ↦ old o q a
        | inr a ↦ ap (λ x. option_map_or (has (done ++ j ∷ [])) x false) (w.of_job e j a) ∙ has-append_right done (j ∷ []) j (has_here j [])
      ]
        where
          old : (o : Option ℕ) → job_of p e ≡ o → is_of p done e ≡ true → is_of p (done ++ j ∷ []) e ≡ true
          old None q a = absurd (false≢true (sym (ap (λ x. option_map_or (has done) x false) q) ∙ a))
          old (Some i) q a = ap (λ x. option_map_or (has (done ++ j ∷ [])) x false) q ∙ has-append_left done (j ∷ []) i (sym (ap (λ x. option_map_or (has done) x false) q) ∙ a)

  pub payload_end : (j t n : ℕ) → IsPayloadOf p (with_some p done (signals_of p j)) t n → n ≡ payload_after p (done ++ j ∷ []) t
  payload_end j t n k =
      one_payload p (done ++ j ∷ []) t n (payload_after p (done ++ j ∷ []) t) (record {
        from = elim k.from [ inl a ↦ inl a | inr a ↦ inr (a.0, a.1, of_push j a.0 ∙ a.2, a.3) ];
        above_initial = k.above_initial;
        above = λ f h o. k.above f h (sym (of_push j f) ∙ o);
      }) (payload_is p (done ++ j ∷ []) t)

-- The loop of the slow run

pub slow_more : (p : Plan) (n j : ℕ) (done : List ℕ) → lowest_ready p done ≡ Some j → slow_from (suc n) p done ≡ slow_from n p (done ++ j ∷ [])
slow_more p n j done e = ap (λ o. option_map_or (λ i. slow_from n p (done ++ i ∷ [])) o done) e

pub slow_stops : (p : Plan) (n : ℕ) (done : List ℕ) → lowest_ready p done ≡ None → slow_from n p done ≡ done
slow_stops p zero done e = refl
slow_stops p (suc n) done e = ap (λ o. option_map_or (λ i. slow_from n p (done ++ i ∷ [])) o done) e

-- all payloads

pub payloads_start : (p : Plan) → IsWellFormed p → (done payloads : List ℕ) → ArePayloads p done payloads → PayloadsWith p done [] payloads
payloads_start p w done payloads k = record { count = k.count; each = λ t l. subst (IsPayloadOf p (with_some p done []) t) (sym (k.each t l)) (payload_start p w done t) }

pub payloads_end : (p : Plan) → IsWellFormed p → (done : List ℕ) (j : ℕ) (payloads : List ℕ) → PayloadsWith p done (signals_of p j) payloads → ArePayloads p (done ++ j ∷ []) payloads
payloads_end p w done j payloads k = record { count = k.count; each = λ t l. payload_end p w done j t (get_or payloads t 0) (k.each t l) }

pub payloads_step : (p : Plan) → IsWellFormed p → (done signals : List ℕ) (e s : ℕ) (payloads : List ℕ) → chain_of p e ≡ Some s → s < length p.script.semaphores → PayloadsWith p done signals payloads → PayloadsWith p done (signals ++ e ∷ []) (set payloads s (max (get_or payloads s 0) (value p e)))
payloads_step p w done signals e s payloads c l k =
    record {
      count = length-set payloads s (max (get_or payloads s 0) (value p e)) ∙ k.count;
      each = λ t h. elim (cases_eq t s) [
        | inl q ↦ subst (λ z. IsPayloadOf p (with_some p done (signals ++ e ∷ [])) z (get_or (set payloads s (max (get_or payloads s 0) (value p e))) z 0)) (sym q) (subst (IsPayloadOf p (with_some p done (signals ++ e ∷ [])) s) (sym (get_or-set_same payloads s (max (get_or payloads s 0) (value p e)) 0 (let n = k.count in omega arith))) (payload_raised p w done signals e s (get_or payloads s 0) c (k.each s l)))
        | inr q ↦ subst (IsPayloadOf p (with_some p done (signals ++ e ∷ [])) t) (sym (get_or-set_other payloads s t (max (get_or payloads s 0) (value p e)) 0 q)) (payload_kept p w done signals e s t (get_or payloads t 0) c q (k.each t h))
      ];
    }

pub payloads_same : (p : Plan) → IsWellFormed p → (done signals : List ℕ) (e s : ℕ) (payloads : List ℕ) → chain_of p e ≡ Some s → value p e ≤ get_or payloads s 0 → PayloadsWith p done signals payloads → PayloadsWith p done (signals ++ e ∷ []) payloads
payloads_same p w done signals e s payloads c low k =
    record {
      count = k.count;
      each = λ t h. elim (cases_eq t s) [
        | inl q ↦ (let same : max (get_or payloads s 0) (value p e) ≡ get_or payloads s 0 = omega arith in subst (λ z. IsPayloadOf p (with_some p done (signals ++ e ∷ [])) z (get_or payloads z 0)) (sym q) (subst (IsPayloadOf p (with_some p done (signals ++ e ∷ [])) s) same (payload_raised p w done signals e s (get_or payloads s 0) c (subst (λ z. IsPayloadOf p (with_some p done signals) z (get_or payloads z 0)) q (k.each t h)))))
        | inr q ↦ payload_kept p w done signals e s t (get_or payloads t 0) c q (k.each t h)
      ];
    }

none_of : (p : Plan) (xs : List ℕ) → filter (is_of p []) xs ≡ []
none_of p [] = refl
none_of p (x ∷ xs) = cond-false (is_of p [] x) (x ∷ filter (is_of p []) xs) (filter (is_of p []) xs) (by_job (job_of p x)) ∙ none_of p xs
  where
    by_job : (o : Option ℕ) → option_map_or (has []) o false ≡ false
    by_job None = refl
    by_job (Some i) = refl

-- before any job is done the payloads are the initial values
pub first_payload : (p : Plan) (t : ℕ) → payload_after p [] t ≡ initial p t
first_payload p t = ap (λ (xs : List ℕ). fold max (initial p t) (map (value p) xs)) (none_of p (chain p t))

pub payload_push : (p : Plan) (payloads : List ℕ) (n x : ℕ) → length payloads ≡ n → ((k : ℕ) → k < n → get_or payloads k 0 ≡ payload_after p [] k) → x ≡ initial p n → (length (payloads ++ x ∷ []) ≡ n + 1) × ((k : ℕ) → k < n + 1 → get_or (payloads ++ x ∷ []) k 0 ≡ payload_after p [] k)
payload_push p payloads n x c f e = (
  (let l = length-append payloads (x ∷ []) in omega arith),
  (λ k h. elim (cases_lt k n) [
    | inl l ↦ get_or-append payloads (x ∷ []) 0 k (omega arith) ∙ f k l
    | inr g ↦
        let q : k ≡ length payloads = omega arith in
        let r : k ≡ n = omega arith in
        ap (λ z. get_or (payloads ++ x ∷ []) z 0) q ∙ (get_or-append_seam payloads x [] 0 ∙ (e ∙ (sym (first_payload p n) ∙ ap (payload_after p []) (sym r))))
  ]),
)

pub lowest_facts : (p : Plan) (done : List ℕ) (j : ℕ) → lowest_ready p done ≡ Some j → (j < length p.jobs) × (is_ready p done j ≡ true)
lowest_facts p done j e = (
  (let l = (has-range_cases (length p.jobs) 0 j (find_member (is_ready p done) (range_with_len 0 (length p.jobs)) j e)).1 in omega arith),
  find_passes (is_ready p done) (range_with_len 0 (length p.jobs)) j e,
)

-- where the slow run begins
pub starts : (p : Plan) (marks : List Bool) (payloads heads : List ℕ) → marks ≡ replicate (length p.jobs) false → ArePayloads p [] payloads → AreHeads p [] heads → IsProgress p [] marks payloads heads
starts p marks payloads heads e n h =
    record {
      closed = λ i j d m. absurd (false≢true d);
      marks_right = record { count = ap length e ∙ length-replicate (length p.jobs) false; each = λ j l. ap (λ (xs : List Bool). get_or xs j false) e ∙ get_or-replicate (length p.jobs) j false false l };
      payloads_right = n;
      heads_right = h;
    }
