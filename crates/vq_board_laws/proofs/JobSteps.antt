-- The steps on a job's word before its start keep the rule: the look, submit and release.
use Rattle.std.proofs.Common.{◌≡◌, ℕ, zero, suc, ◌<◌, ◌≤◌, true, ◌∷◌, length, set, refl, ap, sym, ◌∙◌, subst, arith, ltb, not}
use mathlib.Core.Option.{some, none}
use lib.ListN.{get_elem?}
use native.Mathlib.Decide.{dec_le}
use Rattle.std.proofs.lemmas.Bool.{le-ltb, false≢true, and_parts, ltb-true}
use Rattle.atomic_table.specs.Table.{State, step, keeps, Allows}
use Rattle.vq_model.specs.Plan.{Plan, is_batch, is_host_step}
use Rattle.vq_ground.specs.Lists.{has}
use Rattle.vq_model.specs.Machine.{put, Progress}
use Rattle.vq_ground.proofs.Lists.{has_here, has_there}
use Rattle.vq_model.proofs.Puts.{put_here}
use Rattle.vq_model.proofs.Plans.{batch_exists}
use Rattle.vq_board_laws.specs.declared.view.View.{View}
use Rattle.vq_board_laws.specs.declared.view.LoggedBuffers.{LoggedBuffers}
use Rattle.vq_board_laws.specs.declared.view.JobState.{JobState}
use Rattle.vq_board_laws.specs.declared.view.JobState.TheVariants.{Waiting, Submitted, Released, Started, Finished}
use Rattle.vq_board_laws.specs.declared.view.Fact.TheVariants.{Job}
use Rattle.vq_board_laws.specs.Roles.{submitter}
use Rattle.vq_board_laws.specs.Words.{Words, words_of, job_word, made_of, log_of, payload_of, shown}
use Rattle.vq_board_laws.specs.Knowledge.{state_number, state_at, Knows}
use Rattle.vq_board_laws.specs.Reached.{IsReached}
use Rattle.vq_board_laws.specs.Rule.{Kept}
use Rattle.vq_board_laws.specs.May.{MaySubmit, MayRelease}
use Rattle.vq_board_laws.specs.Steps.{Mine, looks, submits, releases, looked, submitted, released}
use Rattle.vq_board_laws.proofs.Columns.{put_each}
use Rattle.vq_board_laws.proofs.Frames.{facts_stay, kept_load, so_of, knowledge_stays, ownership_stays, points_stay, references_stay}
use Rattle.vq_board_laws.proofs.JobParts.{kept_job, so_job, log_rejob, jobs_early}
use Rattle.vq_board_laws.proofs.Runs.{order_stays, reached_fields, reached_stays}

-- A look

number_of_state : (n : ℕ) → n ≤ 4 → n ≡ state_number (state_at n)
number_of_state zero h = refl
number_of_state (suc zero) h = refl
number_of_state (suc (suc zero)) h = refl
number_of_state (suc (suc (suc zero))) h = refl
number_of_state (suc (suc (suc (suc zero)))) h = refl
number_of_state (suc (suc (suc (suc (suc n))))) h = absurd (omega arith)

pub state_of_number : (s : JobState) → state_at (state_number s) ≡ s
state_of_number Waiting = refl
state_of_number Submitted = refl
state_of_number Released = refl
state_of_number Started = refl
state_of_number Finished = refl

pub looks_at_job : (p : Plan) (slots id : ℕ) (m : Mine) (j : ℕ) → Allows (Kept p) slots id m (job_word j) (λ n. n) (looked (step slots (job_word j) 0 0 none) m)
looks_at_job p slots id m j s k deep at fits =
    let d : Words = words_of s.words in
    let r = k.rule in
    let v : View = m.0 in
    let n : ℕ = d.job j in
    let w : View = looks v j (state_at n) in
    let number = number_of_state n (r.jobs.ranged j) in (
      w,
      keeps,
      tt,
      kept_load p s (job_word j) id v w k at refl refl refl refl refl (omega arith, r.knowledge id v at) (reached_stays p (shown p d) d.job d.job s.views id v w r.run at refl (λ told o. o)),
      λ i same. let is : j ≡ i = omega arith in (
        state_at n,
        number,
        ap (λ (z : ℕ). (looks v z (state_at n), m.1)) is,
        (λ least known. so_of d v.known (Job j least) (r.knowledge id v at) (subst (λ (z : ℕ). Knows v.known (Job z least)) (sym is) known)),
      ),
    )

-- Submit and release

-- a word that rises by less than a start shows the same
pub early_shows : (p : Plan) (d : Words) (j x : ℕ) → d.job j < x → x ≤ 2 → shown p d ≡ shown p (record d { job = put d.job j x })
early_shows p d j x up low =
    let same : (t : ℕ) → 2 ≤ t → (a : ℕ) → ltb t (d.job a) ≡ ltb t (put d.job j x a) = λ t l. put_each d.job j x (λ a y. ltb t (d.job a) ≡ ltb t y) (le-ltb t (d.job j) (omega arith) ∙ sym (le-ltb t x (omega arith))) (λ a ne. refl) in λ i. record {
      payload = payload_of p (made_of d);
      started = λ a. same 2 (omega arith) a i;
      finished = λ a. same 3 (omega arith) a i;
      made = made_of d;
      applied = log_of p d;
    }

module _ (p : Plan) (s : State LoggedBuffers View) (id j : ℕ) (v : View) (k : Kept p s) (at : get_elem? s.views id ≡ some v) where
  -- the batch that the host may submit is waiting, and the one that a pass may release is submitted
  pub submit_finds : MaySubmit p v j → (words_of s.words).job j ≡ 0
  submit_finds may = elim (dec_le 1 ((words_of s.words).job j)) [ yes h ↦ absurd (false≢true (sym may.new ∙ (k.rule.jobs.own id v at).1.submitted_all may.host j may.batch h)) | no h ↦ omega arith ]

  pub release_finds : MayRelease p v j → (words_of s.words).job j ≡ 1
  release_finds may =
      let far = may.submitted in
      let first : 1 ≤ state_number far.0 = far.1 in
      let least : state_number far.0 ≤ (words_of s.words).job j = so_of (words_of s.words) v.known (Job j far.0) (k.rule.knowledge id v at) far.2 in
      elim (dec_le 2 ((words_of s.words).job j)) [ yes h ↦ absurd (false≢true (sym may.new ∙ (k.rule.jobs.own id v at).1.released_all j may.batch may.submitter h)) | no h ↦ omega arith ]

module _ (p : Plan) (s : State LoggedBuffers View) (id j x : ℕ) (v w : View) (k : Kept p s) (at : get_elem? s.views id ≡ some v) where
  -- the run that the words show stays where the word rises by less than a start
  shown_early : (words_of s.words).job j < x → x ≤ 2 → reached_fields w ≡ reached_fields v → IsReached p (shown p (record (words_of s.words) { job = put (words_of s.words).job j x })) (put (words_of s.words).job j x) (set s.views id w)
  shown_early up low fields =
      let d : Words = words_of s.words in
      let job' : ℕ → ℕ = put d.job j x in
      let more : (a : ℕ) → 2 < d.job a → 2 < job' a = put_each d.job j x (λ a y. 2 < d.job a → 2 < y) (λ h. absurd (omega arith)) (λ a ne h. h) in
      let less : (a : ℕ) → 3 < job' a → 3 < d.job a = put_each d.job j x (λ a y. 3 < y → 3 < d.job a) (λ h. absurd (omega arith)) (λ a ne h. h) in
      subst (λ (z : Progress). IsReached p z job' (set s.views id w)) (early_shows p d j x up low) (reached_stays p (shown p d) d.job job' s.views id v w k.rule.run at fields (order_stays p d.job job' more less))

pub submits_job : (p : Plan) (slots id : ℕ) (m : Mine) (j : ℕ) → MaySubmit p m.0 j → Allows (Kept p) slots id m (job_word j) (λ _. 1) (λ _. submitted (step slots (job_word j) 1 0 none) m 1)
submits_job p slots id m j may s k deep at fits =
    let d : Words = words_of s.words in
    let r = k.rule in
    let v : View = m.0 in
    let w : View = submits v j in
    let o = (r.jobs.own id v at).1 in
    let known = r.knowledge id v at in
    let inside : j < length p.jobs = batch_exists p j may.batch in
    let zero_word = submit_finds p s id j v k at may in
    let up : d.job j < 1 = omega arith in (
      w,
      keeps,
      tt,
      kept_job p s j 1 (set s.views id w) k inside record {
        knowledge = knowledge_stays d (record d { job = put d.job j 1 }) s.views id w (so_job d j 1 (omega arith)) r.knowledge
            (subst (λ (z : ℕ). 1 ≤ z) (sym (put_here d.job j 1)) (omega arith), facts_stay d (record d { job = put d.job j 1 }) v.known (so_job d j 1 (omega arith)) known);
        run = shown_early p s id j 1 v w k at up (omega arith) refl;
        jobs = jobs_early p d.job (made_of d) (log_of p d) j 1 s.views id v w r.jobs r.ownership.roles at up (omega arith) refl
            record {
              submitted_all = λ h. put_each d.job j 1 (λ b y. is_batch p b ≡ true → 0 < y → has (j ∷ v.submitted) b ≡ true) (λ _ _. has_here j v.submitted) (λ b ne c g. has_there j v.submitted b (o.submitted_all h b c g));
              released_all = put_each d.job j 1 (λ b y. is_batch p b ≡ true → submitter p b ≡ v.role → 1 < y → has v.released b ≡ true) (λ _ _ h. absurd (omega arith)) (λ b ne. o.released_all b);
            }
            (λ role submitted released ne u. record {
              submitted_all = λ h. absurd (ne (h ∙ sym may.host));
              released_all = put_each d.job j 1 (λ b y. is_batch p b ≡ true → submitter p b ≡ role → 1 < y → has released b ≡ true) (λ _ _ h. absurd (omega arith)) (λ b ne. u.released_all b);
            })
            (λ i batch l h. so_of d v.known (Job i Finished) known (may.before i l h));
        log = log_rejob p d.job d.place d.turn (log_of p d) s.homes s.views id j 1 w r.log (λ h. absurd (let t = (r.log.taken j h).0 in omega arith)) (r.log.holding id v at);
        ownership = ownership_stays p d.count s.views id v w r.ownership at refl;
        points = points_stay p d.op d.point d.count s.views id v w r.points at refl;
        references = references_stay d.point s.views id v w r.references at refl;
      },
      λ i same. let is : j ≡ i = omega arith in ap (λ (z : ℕ). (submits v z, m.1)) is,
    )

pub releases_job : (p : Plan) (slots id : ℕ) (m : Mine) (j : ℕ) → MayRelease p m.0 j → Allows (Kept p) slots id m (job_word j) (λ _. 2) (λ _. released (step slots (job_word j) 2 0 none) m 2)
releases_job p slots id m j may s k deep at fits =
    let d : Words = words_of s.words in
    let r = k.rule in
    let v : View = m.0 in
    let w : View = releases v j in
    let o = (r.jobs.own id v at).1 in
    let known = r.knowledge id v at in
    let inside : j < length p.jobs = batch_exists p j may.batch in
    let one_word = release_finds p s id j v k at may in
    let up : d.job j < 2 = omega arith in (
      w,
      keeps,
      tt,
      kept_job p s j 2 (set s.views id w) k inside record {
        knowledge = knowledge_stays d (record d { job = put d.job j 2 }) s.views id w (so_job d j 2 (omega arith)) r.knowledge
            (subst (λ (z : ℕ). 2 ≤ z) (sym (put_here d.job j 2)) (omega arith), facts_stay d (record d { job = put d.job j 2 }) v.known (so_job d j 2 (omega arith)) known);
        run = shown_early p s id j 2 v w k at up (omega arith) refl;
        jobs = jobs_early p d.job (made_of d) (log_of p d) j 2 s.views id v w r.jobs r.ownership.roles at up (omega arith) refl
            record {
              submitted_all = λ h. put_each d.job j 2 (λ b y. is_batch p b ≡ true → 0 < y → has v.submitted b ≡ true) (λ c _. o.submitted_all h j c (omega arith)) (λ b ne. o.submitted_all h b);
              released_all = put_each d.job j 2 (λ b y. is_batch p b ≡ true → submitter p b ≡ v.role → 1 < y → has (j ∷ v.released) b ≡ true) (λ _ _ _. has_here j v.released) (λ b ne c l g. has_there j v.released b (o.released_all b c l g));
            }
            (λ role submitted released ne u. record {
              submitted_all = λ h. put_each d.job j 2 (λ b y. is_batch p b ≡ true → 0 < y → has submitted b ≡ true) (λ c _. u.submitted_all h j c (omega arith)) (λ b ne. u.submitted_all h b);
              released_all = put_each d.job j 2 (λ b y. is_batch p b ≡ true → submitter p b ≡ role → 1 < y → has released b ≡ true) (λ _ l _. absurd (ne (sym l ∙ may.submitter))) (λ b ne. u.released_all b);
            })
            (λ i batch l h. r.jobs.waited i j batch (omega arith) l h);
        log = log_rejob p d.job d.place d.turn (log_of p d) s.homes s.views id j 2 w r.log (λ h. absurd (let t = (r.log.taken j h).0 in omega arith)) (r.log.holding id v at);
        ownership = ownership_stays p d.count s.views id v w r.ownership at refl;
        points = points_stay p d.op d.point d.count s.views id v w r.points at refl;
        references = references_stay d.point s.views id v w r.references at refl;
      },
      λ i same. let is : j ≡ i = omega arith in ap (λ (z : ℕ). (releases v z, m.1)) is,
    )
