-- A run brings about what a host step waits for, and what its answer shows.
use Rattle.std.proofs.Common.{ℕ, Bool, true, false, List, ◌≡◌, ◌<◌, Some, refl, sym, ap, ◌∙◌, inl, inr, arith, length}
use Rattle.std.specs.List.{list_all, list_any}
use Rattle.std.proofs.lemmas.Bool.{cases_lt, cond-true, false≢true, le-leb}
use Rattle.vq_ground.specs.Lists.{has}
use Rattle.vq_ground.proofs.Lists.{has-append_right}
use Rattle.vq_ground.proofs.Mapped.{has_mapped}
use Rattle.vq_model.specs.declared.plan.Need.{Need}
use Rattle.vq_model.specs.declared.plan.Question.{Question}
use Rattle.vq_model.specs.declared.plan.Question.TheVariants.{Reached as AsksReached}
use Rattle.vq_model.specs.Plan.{Plan, initial, is_silent, job_of, needs, question, waits_for_any}
use Rattle.std.specs.List.{filter_map}
use Rattle.vq_model.specs.Edges.{AtEnd, awaited_at, must_finish}
use Rattle.vq_model.specs.HappensBefore.{HappensBefore, one}
use Rattle.vq_model.specs.Machine.{State, are_reached, is_reached}
use Rattle.vq_model.specs.Outputs.{AtMostCeiling, IsIn, Resolves}
use Rattle.vq_model.specs.Sure.{finished_first, waited_for}
use Rattle.vq_model.specs.SureOrder.{HasSureOrder}
use Rattle.vq_model.specs.WellFormed.{IsWellFormed, KeepsHostOrder}
use Rattle.vq_model.specs.Windows.{itself}
use Rattle.vq_order_laws.proofs.Cited.{edges_agree, finished_hop, reached_still}
use Rattle.vq_output_laws.specs.ToldOutputs.{AnswersWaitsForAny}
use Rattle.vq_output_laws.proofs.Goals.{awaited_job, finishes, makes}
use Rattle.vq_output_laws.proofs.Growing.{Sound, Grows, Brings, brings_each, brings_here, brings_on, grows_on, is_in, of_in}
use Rattle.vq_output_laws.proofs.Jobs.{all_reached, low, reached_made}
use Rattle.vq_output_laws.proofs.Pairs.{any_of}
use Rattle.vq_output_laws.proofs.Shown.{pair_possible, resolvable}
use Rattle.vq_output_laws.proofs.Wants.{MayMake, MayRun, for_shown, for_step, to_step, wants_closed}

-- whether a question is that of a wait
abbrev pub is_wait : Question → Bool
is_wait AsksReached = true
is_wait other = false

-- a step that isn't answered waits for all
pub silent_for_all : (p : Plan) → AnswersWaitsForAny p → (j : ℕ) → is_silent (question p j) ≡ true → waits_for_any p j ≡ false
silent_for_all p any j q = by_any (waits_for_any p j) refl
  where
    by_any : (b : Bool) → waits_for_any p j ≡ b → waits_for_any p j ≡ false
    by_any false e = e
    by_any true e = absurd (false≢true (ap is_silent (sym (any j e)) ∙ q))

module _ (p : Plan) (w : IsWellFormed p) (host : KeepsHostOrder p) (o : HasSureOrder p) (any : AnswersWaitsForAny p) (h : ℕ) (asks : is_silent (question p h) ≡ false) (Shown : ℕ → Type 0) (shown : (e i : ℕ) → Shown e → job_of p e ≡ Some i → HappensBefore p h i → ⊥) (s : State) (done : (i : ℕ) → i < h → is_silent (question p i) ≡ false → s.progress.finished i ≡ true) where
  abbrev pub Run : ℕ → Type 0
  Run = MayRun p w host o (silent_for_all p any) h asks Shown shown

  abbrev pub Make : ℕ → Type 0
  Make = MayMake p w host o (silent_for_all p any) h asks Shown shown

  -- from each later state on
  abbrev pub From : (State → Type 0) → Type 0
  From Q = (u : State) → Sound p u → Grows Run Make s u → Brings p Run Make u Q

  -- a pair that may have been reached and is shown can be reached
  pub pair_brought : (n : Need) → AtMostCeiling p h n → ((e : ℕ) → Resolves p n e → Shown e) → From (λ v. is_reached v.progress.payload n ≡ true)
  pair_brought n c f u k g =
      elim (cases_lt (initial p n.chain) n.value) [
        | inl above ↦
            (let r = resolvable p w host o h asks n c above in
            let x = pair_possible p w host o h asks n r.0 r.1 c in
            brings_on p w o.chains Run Make u (λ v. v.progress.made r.0 ≡ true) (λ v. is_reached v.progress.payload n ≡ true)
            (makes p w o Run Make s (wants_closed p w host o (silent_for_all p any) h asks Shown shown s done) r.0 x.job (for_shown r.0 (f r.0 r.1) itself) x.of_job u k g)
            (λ v kv gv m. brings_here p w o.chains Run Make v (λ z. is_reached z.progress.payload n ≡ true) kv (reached_made p w o v kv n r.0 r.1.resolves m)))
        | inr below ↦
            (let l = low p w o u k n.chain in
            brings_here p w o.chains Run Make u (λ v. is_reached v.progress.payload n ≡ true) k (le-leb n.value (u.progress.payload n.chain) (omega arith)))
      ]

  -- an operation that is shown can be made
  pub shown_brought : (e i : ℕ) → Shown e → job_of p e ≡ Some i → From (λ v. v.progress.made e ≡ true)
  shown_brought e i t q u k g = makes p w o Run Make s (wants_closed p w host o (silent_for_all p any) h asks Shown shown s done) e i (for_shown e t itself) q u k g

  -- each pair of a list
  pub pairs_brought : (ns : List Need) → ((n : Need) → IsIn n ns → AtMostCeiling p h n) → ((n : Need) (e : ℕ) → IsIn n ns → Resolves p n e → Shown e) → From (λ v. (n : Need) → IsIn n ns → is_reached v.progress.payload n ≡ true)
  pairs_brought ns c f u k g =
      brings_each p w o.chains Run Make Need (λ n v. is_reached v.progress.payload n ≡ true) (λ n a b gab x. reached_still a.progress.payload b.progress.payload gab.payload n x) ns u k
      (λ n i v kv gv. pair_brought n (c n i) (λ e r. f n e i r) v kv (grows_on Run Make s u v g gv))

  -- what must be finished before a host step, and what it waits for
  pub record IsReady (v : State) : Type 0 where
    pub first : (i : ℕ) → has (must_finish p h) i ≡ true → v.progress.finished i ≡ true
    pub reached : are_reached p v.progress.payload h AtEnd ≡ true

  module _ (exists : h < length p.jobs) where
    one_first : (i : ℕ) → has (must_finish p h) i ≡ true → From (λ v. v.progress.finished i ≡ true)
    one_first i m u k g = by_question (is_silent (question p i)) refl
      where
        by_question : (b : Bool) → is_silent (question p i) ≡ b → Brings p Run Make u (λ v. v.progress.finished i ≡ true)
        by_question true q =
            let hop = finished_hop p o.reachable i h exists m in
            let l = w.finished_first i h m in
            finishes p w o Run Make s (wants_closed p w host o (silent_for_all p any) h asks Shown shown s done) i
            (record { silent = q; exists = omega arith; leads = to_step (one hop) })
            (λ e r. for_step (finished_first (record { job = i; of_job = r; first = m; earlier = hop.earlier }))) u k g
        by_question false q = brings_here p w o.chains Run Make u (λ v. v.progress.finished i ≡ true) k (g.finished i (done i (w.finished_first i h m) q))

    one_awaited : (r : ℕ) → has (awaited_at p h AtEnd) r ≡ true → From (λ v. v.progress.made r ≡ true)
    one_awaited r m u k g =
        let i = awaited_job p w o h r m in
        makes p w o Run Make s (wants_closed p w host o (silent_for_all p any) h asks Shown shown s done) r i.0
        (for_step (waited_for (record {
          job = i.0;
          of_job = i.1;
          by_op = r;
          same_job = i.1;
          at_or_later = omega arith;
          waits = m;
          earlier = edges_agree p w o i.0 h exists (has-append_right (must_finish p h) (filter_map (job_of p) (awaited_at p h AtEnd)) i.0 (has_mapped (job_of p) (awaited_at p h AtEnd) r i.0 m i.1));
        }))) i.1 u k g

    -- what a step waits for: all of it, or a pair that its answer picks
    pub record Picks : Type 0 where
      pub pair : Need
      pub one_of : IsIn pair (needs p h)
      pub ceiling : AtMostCeiling p h pair
      pub shows : (e : ℕ) → Resolves p pair e → Shown e

    waits : (waits_for_any p h ≡ true → Picks) → From (λ v. are_reached p v.progress.payload h AtEnd ≡ true)
    waits picks u k g = by_any (waits_for_any p h) refl
      where
        by_any : (b : Bool) → waits_for_any p h ≡ b → Brings p Run Make u (λ v. are_reached p v.progress.payload h AtEnd ≡ true)
        by_any true e =
            let c = picks e in
            brings_on p w o.chains Run Make u (λ v. is_reached v.progress.payload c.pair ≡ true) (λ v. are_reached p v.progress.payload h AtEnd ≡ true)
            (pair_brought c.pair c.ceiling c.shows u k g)
            (λ v kv gv r. brings_here p w o.chains Run Make v (λ z. are_reached p z.progress.payload h AtEnd ≡ true) kv
            (cond-true (waits_for_any p h) (list_any (is_reached v.progress.payload) (needs p h)) (list_all (is_reached v.progress.payload) (needs p h)) e
            ∙ any_of (is_reached v.progress.payload) (needs p h) c.pair c.one_of r))
        by_any false e =
            brings_on p w o.chains Run Make u (λ v. (r : ℕ) → IsIn r (awaited_at p h AtEnd) → v.progress.made r ≡ true) (λ v. are_reached p v.progress.payload h AtEnd ≡ true)
            (brings_each p w o.chains Run Make ℕ (λ r v. v.progress.made r ≡ true) (λ r a b gab x. gab.made r x) (awaited_at p h AtEnd) u k (λ r m v kv gv. one_awaited r (of_in (awaited_at p h AtEnd) r m) v kv (grows_on Run Make s u v g gv)))
            (λ v kv gv mades. brings_here p w o.chains Run Make v (λ z. are_reached p z.progress.payload h AtEnd ≡ true) kv (all_reached p w o h v kv e (λ r m. mades r (is_in (awaited_at p h AtEnd) r m))))

    pub ready : (waits_for_any p h ≡ true → Picks) → Sound p s → Brings p Run Make s IsReady
    ready picks k =
        brings_on p w o.chains Run Make s (λ v. (i : ℕ) → IsIn i (must_finish p h) → v.progress.finished i ≡ true) IsReady
        (brings_each p w o.chains Run Make ℕ (λ i v. v.progress.finished i ≡ true) (λ i a b gab x. gab.finished i x) (must_finish p h) s k (λ i m v kv gv. one_first i (of_in (must_finish p h) i m) v kv gv))
        (λ v kv gv firsts.
        brings_on p w o.chains Run Make v (λ z. are_reached p z.progress.payload h AtEnd ≡ true) IsReady (waits picks v kv gv)
        (λ z kz gz r. brings_here p w o.chains Run Make z IsReady kz (record { first = λ i m. gz.finished i (firsts i (is_in (must_finish p h) i m)); reached = r })))
