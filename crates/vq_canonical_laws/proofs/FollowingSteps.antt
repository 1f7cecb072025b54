-- A line of the host without a fault says a step that may follow what the lines before say.
use Rattle.std.proofs.Common.{◌≡◌, ℕ, ◌%◌, ◌<◌, ◌≤◌, ◌==◌, Bool, true, false, not, ◌&&◌, List, [], ◌∷◌, length, map, Option, Some, None, option_map, refl, sym, ap, ◌∙◌, subst, arith}
use Rattle.std.specs.Prelude.{nat_lt}
use Rattle.std.specs.List.{AllByRecursion as Every}
use Rattle.std.specs.Str.{bytes_eq}
use Rattle.std.proofs.lemmas.Bool.{false≢true, or_parts, and_parts, ltb-false}
use Rattle.vq_ground.proofs.Positions.{found_at}
use Rattle.vq_model.specs.declared.statement.Form.{Form}
use Rattle.vq_model.specs.declared.statement.Line.{Line}
use Rattle.vq_model.specs.declared.statement.LineForm.{LineForm}
use Rattle.vq_model.specs.declared.statement.LineForm.TheVariants.{HostSignalLine, HostWaitAllLine, HostWaitAnyLine, HostPollAllLine, HostPollAnyLine, HostReadLine, HostFenceWaitLine, HostFencePollLine, HostFenceResetLine, HostIdleLine}
use Rattle.vq_model.specs.declared.statement.Statement.{Statement}
use Rattle.vq_model.specs.declared.statement.Statement.TheVariants.{TakeHostStep}
use Rattle.vq_model.specs.declared.script.HostStep.{HostStep}
use Rattle.vq_model.specs.declared.script.HostStep.TheVariants.{Signal, WaitAll, WaitAny, PollAll, PollAny, Read, FenceWait, FencePoll, FenceReset, Idle}
use Rattle.vq_model.specs.declared.script.Pair.{Pair}
use Rattle.vq_model.specs.Context.{is_timeline, is_fence, count}
use Rattle.vq_model.specs.Limits.{limits_of}
use Rattle.vq_model.specs.declared.limits.Limits.{Limits}
use Rattle.vq_model.specs.Forms.{places}
use Rattle.vq_model.specs.Meaning.{agree, matches, of_two, pair_at, pair_places, pairs_at}
use Rattle.vq_model.specs.Text.{numeral}
use Rattle.vq_model.specs.Context.{number_at, is_job}
use Rattle.vq_model.specs.Earlier.{earlier}
use Rattle.vq_model.specs.LineFaults.{pairs_of, passes_limit}
use Rattle.vq_model.specs.Forms.{TimelineName, FenceName}
use Rattle.vq_reading_laws.proofs.Cited.{below}
use Rattle.vq_canonical_laws.proofs.LineTests.{PassesTests}
use Rattle.vq_canonical_laws.proofs.SaidContext.{most_before, most_said, timeline_at_said, fence_at_said}
use Rattle.vq_canonical_laws.proofs.ScriptParts.{Told, Parts, Say, May, IsOfKindIn, IsTimed, AreTimed, StepFits, count_jobs}
use Rattle.vq_canonical_laws.proofs.WrittenNumbers.{numeral_below}

-- a line of the host
abbrev pub is_host_line : LineForm → Bool
is_host_line HostSignalLine = true
is_host_line HostWaitAllLine = true
is_host_line HostWaitAnyLine = true
is_host_line HostPollAllLine = true
is_host_line HostPollAnyLine = true
is_host_line HostReadLine = true
is_host_line HostFenceWaitLine = true
is_host_line HostFencePollLine = true
is_host_line HostFenceResetLine = true
is_host_line HostIdleLine = true
is_host_line other = false

-- words make up pairs: an even number of them, and some
abbrev are_pairs : List (List ℕ) → Bool
are_pairs words = nat_lt 0 (length words) && (length words % 2 == 0)

module _ (before : List Line) (p : Parts) (h : Say before p) where
  -- the pairs that words say
  abbrev said_pairs : List (List ℕ) → Option (List Pair)
  said_pairs words = pairs_at (number_at before) (map (λ x. x.1) (pair_places words))

  -- what a name stands for
  timeline_found : (name : List ℕ) (t : ℕ) → number_at before TimelineName name ≡ Some t →
      IsOfKindIn is_timeline p.semaphores t
  timeline_found name t e =
      let found =
      found_at (λ x. bytes_eq name x.name && is_timeline x.kind) p.semaphores t
      (sym (timeline_at_said before p h name) ∙ e) in
      record {
        semaphore = found.0;
        there = found.1;
        tested = (and_parts (bytes_eq name found.0.name) (is_timeline found.0.kind) found.2).1;
      }

  fence_found : (name : List ℕ) (t : ℕ) → number_at before FenceName name ≡ Some t →
      IsOfKindIn is_fence p.semaphores t
  fence_found name t e =
      let found =
      found_at (λ x. bytes_eq name x.name && is_fence x.kind) p.semaphores t
      (sym (fence_at_said before p h name) ∙ e) in
      record {
        semaphore = found.0;
        there = found.1;
        tested = (and_parts (bytes_eq name found.0.name) (is_fence found.0.kind) found.2).1;
      }

  -- a pair
  pair_found : (name value : List ℕ) (t v : Option ℕ) (pair : Pair) → number_at before TimelineName name ≡ t →
      numeral value ≡ v → of_two (λ x y. record { semaphore = x; value = y }) t v ≡ Some pair →
      IsTimed p.semaphores pair
  pair_found name value None v pair e f i = absurd (let c : None ≡ Some pair = i in cc)
  pair_found name value (Some t) None pair e f i = absurd (let c : None ≡ Some pair = i in cc)
  pair_found name value (Some t) (Some v) pair e f i =
      let one : Pair = record { semaphore = t; value = v } in
      let same : one ≡ pair = cc in
      subst (IsTimed p.semaphores) same (timeline_found name t e, numeral_below value v f)

  -- pairs
  pairs_found : (words : List (List ℕ)) (pairs : List Pair) → said_pairs words ≡ Some pairs →
      Every (IsTimed p.semaphores) pairs
  pairs_found [] pairs i =
      let same : [] ≡ pairs = cc in subst (Every (IsTimed p.semaphores)) same tt
  pairs_found (name ∷ []) pairs i =
      let same : [] ≡ pairs = cc in subst (Every (IsTimed p.semaphores)) same tt
  pairs_found (name ∷ value ∷ words) pairs i =
      by_parts (pair_at (number_at before) name value) (said_pairs words) refl refl i (pairs_found words)
    where
      by_parts : (a : Option Pair) (b : Option (List Pair)) → pair_at (number_at before) name value ≡ a →
          said_pairs words ≡ b → of_two (λ (x : Pair) (xs : List Pair). x ∷ xs) a b ≡ Some pairs →
          ((qs : List Pair) → said_pairs words ≡ Some qs → Every (IsTimed p.semaphores) qs) →
          Every (IsTimed p.semaphores) pairs
      by_parts None b e f i more = absurd (let c : None ≡ Some pairs = i in cc)
      by_parts (Some a) None e f i more = absurd (let c : None ≡ Some pairs = i in cc)
      by_parts (Some a) (Some qs) e f i more =
          let same : a ∷ qs ≡ pairs = cc in
          subst (Every (IsTimed p.semaphores)) same (
            pair_found name value (number_at before TimelineName name) (numeral value) a refl refl e,
            more qs f,
          )

  -- one at least
  some_found : (words : List (List ℕ)) (pairs : List Pair) → are_pairs words ≡ true →
      said_pairs words ≡ Some pairs → 0 < length pairs
  some_found [] pairs m i = absurd (false≢true m)
  some_found (name ∷ []) pairs m i = absurd (false≢true m)
  some_found (name ∷ value ∷ words) pairs m i =
      by_parts (pair_at (number_at before) name value) (said_pairs words) i
    where
      by_parts : (a : Option Pair) (b : Option (List Pair)) →
          of_two (λ (x : Pair) (xs : List Pair). x ∷ xs) a b ≡ Some pairs → 0 < length pairs
      by_parts None b i = absurd (let c : None ≡ Some pairs = i in cc)
      by_parts (Some a) None i = absurd (let c : None ≡ Some pairs = i in cc)
      by_parts (Some a) (Some qs) i =
          let same : a ∷ qs ≡ pairs = cc in
          subst (λ (xs : List Pair). 0 < length xs) same (omega arith)

  module _ (s : Statement) (outside : p.batch ≡ None)
      (limited : passes_limit (earlier before) s ≡ false) where
    -- a step follows where its names fit
    step_follows : (step : HostStep) → TakeHostStep step ≡ s →
        (length (pairs_of step) ≤ (limits_of p.version).pairs → StepFits p.version p.semaphores step) →
        May p s
    step_follows step same fits =
        let limits =
        or_parts (not (nat_lt (count is_job before) (most_before before).jobs))
        (nat_lt (most_before before).pairs (length (pairs_of step)))
        (subst (λ (z : Statement). passes_limit (earlier before) z ≡ false)
        (sym same) limited) in
        let few = below (count is_job before) (most_before before).jobs limits.0 in
        let short = ltb-false (most_before before).pairs (length (pairs_of step)) limits.1 in
        let most = ap (λ (l : Limits). l.jobs) (most_said before p h) in
        let most_pairs = ap (λ (l : Limits). l.pairs) (most_said before p h) in
        let jobs : count is_job before ≡ length p.jobs =
        h.job_count ∙ ap (λ (b : Option Told). count_jobs p.jobs b) outside in
        subst (May p) same
        (record { outside = outside; fits = fits (omega arith); few = omega arith })

    -- one that names pairs
    pairs_follow : (of : List Pair → HostStep) (words : List (List ℕ)) →
        ((ps : List Pair) → pairs_of (of ps) ≡ ps) →
        ((ps : List Pair) → AreTimed p.version p.semaphores ps →
        StepFits p.version p.semaphores (of ps)) →
        are_pairs words ≡ true →
        option_map (λ ps. TakeHostStep (of ps)) (said_pairs words) ≡ Some s → May p s
    pairs_follow of words own fits m i = by_pairs (said_pairs words) refl i
      where
        by_pairs : (o : Option (List Pair)) → said_pairs words ≡ o →
            option_map (λ ps. TakeHostStep (of ps)) o ≡ Some s → May p s
        by_pairs None e i = absurd (let c : None ≡ Some s = i in cc)
        by_pairs (Some ps) e i =
            step_follows (of ps) (cc)
            (λ l. fits ps (record {
              all = pairs_found words ps e;
              some_pairs = some_found words ps m e;
              few = subst (λ (qs : List Pair). length qs ≤ (limits_of p.version).pairs) (own ps) l;
            }))

    -- one that names a timeline or a fence
    name_follows : (of : ℕ → HostStep) (o : Option ℕ) →
        ((t : ℕ) → o ≡ Some t → StepFits p.version p.semaphores (of t)) →
        option_map (λ t. TakeHostStep (of t)) o ≡ Some s → May p s
    name_follows of None fits i = absurd (let c : None ≡ Some s = i in cc)
    name_follows of (Some t) fits i = step_follows (of t) (cc) (λ l. fits t refl)

  module _ (form : Form) where
    -- A line of the host without a fault says a step that may follow.
    pub host_may : (f : LineForm) (words : List (List ℕ)) (s : Statement) → p.batch ≡ None →
        is_host_line f ≡ true → matches words f ≡ true → PassesTests form before words f s → May p s
    host_may HostSignalLine (a ∷ b ∷ name ∷ value ∷ []) s o g m t =
        by_pair (pair_at (number_at before) name value) refl t.said
      where
        by_pair : (x : Option Pair) → pair_at (number_at before) name value ≡ x →
            option_map (λ q. TakeHostStep (Signal q)) x ≡ Some s → May p s
        by_pair None e i = absurd (let c : None ≡ Some s = i in cc)
        by_pair (Some q) e i =
            step_follows s o t.limited (Signal q) (cc)
            (λ l. pair_found name value (number_at before TimelineName name) (numeral value) q refl refl e)
    host_may HostSignalLine words s o g m t = absurd (false≢true m)
    host_may HostWaitAllLine (a ∷ b ∷ c ∷ words) s o g m t =
        pairs_follow s o t.limited (λ ps. WaitAll ps) words (λ ps. refl) (λ ps k. k)
        (and_parts (are_pairs words) (agree (places HostWaitAllLine) (a ∷ b ∷ c ∷ words)) m).0 t.said
    host_may HostWaitAllLine words s o g m t = absurd (false≢true m)
    host_may HostWaitAnyLine (a ∷ b ∷ c ∷ words) s o g m t =
        pairs_follow s o t.limited (λ ps. WaitAny ps) words (λ ps. refl) (λ ps k. k)
        (and_parts (are_pairs words) (agree (places HostWaitAnyLine) (a ∷ b ∷ c ∷ words)) m).0 t.said
    host_may HostWaitAnyLine words s o g m t = absurd (false≢true m)
    host_may HostPollAllLine (a ∷ b ∷ c ∷ words) s o g m t =
        pairs_follow s o t.limited (λ ps. PollAll ps) words (λ ps. refl) (λ ps k. k)
        (and_parts (are_pairs words) (agree (places HostPollAllLine) (a ∷ b ∷ c ∷ words)) m).0 t.said
    host_may HostPollAllLine words s o g m t = absurd (false≢true m)
    host_may HostPollAnyLine (a ∷ b ∷ c ∷ words) s o g m t =
        pairs_follow s o t.limited (λ ps. PollAny ps) words (λ ps. refl) (λ ps k. k)
        (and_parts (are_pairs words) (agree (places HostPollAnyLine) (a ∷ b ∷ c ∷ words)) m).0 t.said
    host_may HostPollAnyLine words s o g m t = absurd (false≢true m)
    host_may HostReadLine (a ∷ b ∷ name ∷ []) s o g m t =
        name_follows s o t.limited (λ x. Read x) (number_at before TimelineName name)
        (λ x e. timeline_found name x e) t.said
    host_may HostReadLine words s o g m t = absurd (false≢true m)
    host_may HostFenceWaitLine (a ∷ b ∷ c ∷ name ∷ []) s o g m t =
        name_follows s o t.limited (λ x. FenceWait x) (number_at before FenceName name)
        (λ x e. fence_found name x e) t.said
    host_may HostFenceWaitLine words s o g m t = absurd (false≢true m)
    host_may HostFencePollLine (a ∷ b ∷ c ∷ name ∷ []) s o g m t =
        name_follows s o t.limited (λ x. FencePoll x) (number_at before FenceName name)
        (λ x e. fence_found name x e) t.said
    host_may HostFencePollLine words s o g m t = absurd (false≢true m)
    host_may HostFenceResetLine (a ∷ b ∷ c ∷ name ∷ []) s o g m t =
        name_follows s o t.limited (λ x. FenceReset x) (number_at before FenceName name)
        (λ x e. fence_found name x e) t.said
    host_may HostFenceResetLine words s o g m t = absurd (false≢true m)
    host_may HostIdleLine (a ∷ b ∷ []) s o g m t =
        let said : Some (TakeHostStep Idle) ≡ Some s = t.said in
        step_follows s o t.limited Idle (cc) (λ l. tt)
    host_may HostIdleLine words s o g m t = absurd (false≢true m)
    host_may f words s o g m t = absurd (false≢true g)
