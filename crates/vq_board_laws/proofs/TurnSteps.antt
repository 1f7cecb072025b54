-- Taking and giving the turn over the buffers keeps the rule.
use Rattle.std.proofs.Common.{◌≡◌, ◌≢◌, ℕ, suc, ◌+◌, ◌<◌, ◌≤◌, eqb, List, [], ◌∷◌, length, map, set, refl, ap, sym, ◌∙◌, subst, arith, length-set, Some, None}
use mathlib.Core.Option.{some, none}
use mathlib.Core.Option as maybe
use lib.ListN.{get_elem?}
use prog.Atomic.{either}
use Rattle.atomic_table.specs.Table.{State, step, Act, keeps, takes, gives, Valid, stepped, carried_after, Allows}
use Rattle.atomic_table.proofs.Lists.{exchanged}
use Rattle.vq_model.specs.Memory.{Memory}
use Rattle.vq_model.specs.Plan.{Plan}
use Rattle.vq_board_laws.specs.declared.view.View.{View}
use Rattle.vq_board_laws.specs.declared.view.LoggedBuffers.{LoggedBuffers}
use Rattle.vq_board_laws.specs.declared.view.Fact.{Fact}
use Rattle.vq_board_laws.specs.Words.{Words, words_of, turn_word, made_of, log_of, shown}
use Rattle.vq_board_laws.specs.Knowledge.{AreSo}
use Rattle.vq_board_laws.specs.Log.{Log, Holding, AtHome}
use Rattle.vq_board_laws.specs.Rule.{Rule, Kept}
use Rattle.vq_board_laws.specs.Steps.{Mine, takes_turn, misses_turn, gives_turn, took_turn, gave_turn}
use Rattle.vq_board_laws.proofs.Columns.{turn_set}
use Rattle.vq_board_laws.proofs.Frames.{Homes, facts_stay, so_unread, knowledge_stays, jobs_stay, log_stays, ownership_stays, points_stay, references_stay, job_fields, owner_fields, point_fields}
use Rattle.vq_board_laws.proofs.Logs.{filled_short}
use Rattle.vq_board_laws.proofs.Runs.{reached_stays, reached_fields}
use Rattle.vq_board_laws.proofs.Sizes.{log_sizes}
use Rattle.vq_board_laws.proofs.Views.{each_pass, other_role}

-- Where the turn changes, what is left to show is of the log and the turn.
pub keeps_turn : (p : Plan) (s : State LoggedBuffers View) (id x : ℕ) (homes : Homes) (v w : View) → Kept p s → get_elem? s.views id ≡ some v
    → w.known ≡ v.known → job_fields w ≡ job_fields v → owner_fields w ≡ owner_fields v → point_fields w ≡ point_fields v → w.refs ≡ v.refs → reached_fields w ≡ reached_fields v
    → Log p (words_of s.words).job (words_of s.words).place x (log_of p (words_of s.words)) homes (set s.views id w)
    → Kept p record { words = set s.words turn_word x; homes = homes; views = set s.views id w }
keeps_turn p s id x homes v w k at known jobs owner points refs reached log =
    let d : Words = words_of s.words in
    let r = k.rule in record {
      plan = k.plan;
      lawful = k.lawful;
      count = length-set s.words turn_word x ∙ k.count;
      rule = subst (λ (e : Words). Rule p e homes (set s.views id w)) (sym (turn_set s.words x (let c = k.count in omega arith))) record {
        knowledge = knowledge_stays d (record d { turn = x }) s.views id w (so_unread d d.place x d.count) r.knowledge (facts_stay d (record d { turn = x }) w.known (so_unread d d.place x d.count) (subst (λ (fs : List Fact). AreSo d fs) (sym known) (r.knowledge id v at)));
        run = reached_stays p (shown p d) d.job d.job s.views id v w r.run at reached (λ told o. o);
        jobs = jobs_stay p d.job (made_of d) (log_of p d) s.views id v w r.jobs at jobs;
        log = log;
        ownership = ownership_stays p d.count s.views id v w r.ownership at owner;
        points = points_stay p d.op d.point d.count s.views id v w r.points at points;
        references = references_stay d.point s.views id v w r.references at refs;
      };
    }

one_home : (hs : Homes) (y : maybe.Option LoggedBuffers) → length hs ≡ 1 → set hs 0 y ≡ y ∷ []
one_home [] y h = absurd (omega arith)
one_home (x ∷ []) y h = refl
one_home (x ∷ z ∷ zs) y h = absurd (omega arith)

-- no other pass runs the job
pub one_runner : (p : Plan) (s : State LoggedBuffers View) (k : Kept p s) (id i j : ℕ) (v u : View) → get_elem? s.views id ≡ some v → get_elem? s.views i ≡ some u → i ≢ id → v.runs ≡ Some j → u.runs ≡ Some j → ⊥
one_runner p s k id i j v u at e ne runs theirs =
    let roles = k.rule.ownership.roles in
    other_role i id u v (roles i u e) (roles id v at) ne (sym ((k.rule.jobs.own i u e).0.runs_one j theirs).0 ∙ ((k.rule.jobs.own id v at).0.runs_one j runs).0)

-- no two passes have the turn
pub one_holder : (p : Plan) (s : State LoggedBuffers View) (k : Kept p s) (id i n a : ℕ) (v u : View) → get_elem? s.views id ≡ some v → get_elem? s.views i ≡ some u → i ≢ id → v.held ≡ Some n → u.held ≡ Some a → ⊥
one_holder p s k id i n a v u at e ne h g =
    let t = (k.rule.log.holding id v at).job n h in
    let r = (k.rule.log.holding i u e).job a g in
    let same : r.0 ≡ t.0 = (let x = t.2 in let y = r.2 in omega arith) in
    one_runner p s k id i t.0 v u at e ne t.1 (r.1 ∙ ap (λ (z : ℕ). Some z) same)

-- Taking

module _ (p : Plan) (s : State LoggedBuffers View) (id j : ℕ) (v : View) (k : Kept p s) (at : get_elem? s.views id ≡ some v) (runs : v.runs ≡ Some j) (turnless : v.held ≡ None) (free : (words_of s.words).turn ≡ 0) where
  abbrev taken_home : AtHome p (log_of p (words_of s.words)) s.homes
  taken_home = k.rule.log.free free

  abbrev taken_view : View
  taken_view = takes_turn v taken_home.value.filled taken_home.value.buffers

  taken_log : Log p (words_of s.words).job (words_of s.words).place (suc j) (log_of p (words_of s.words)) (set s.homes 0 none) (set s.views id taken_view)
  taken_log =
      let d : Words = words_of s.words in
      let x : LoggedBuffers = taken_home.value in
      let one = (k.rule.jobs.own id v at).0.runs_one j runs in
      record {
        later = k.rule.log.later;
        free = λ h. absurd (omega arith);
        taken = λ i h. let same : j ≡ i = omega arith in subst (λ (z : ℕ). (d.job z ≡ 3) × (z < length p.jobs)) same (one.1, one.2);
        holding = each_pass (λ i z. Holding p (suc j) (log_of p d) z.runs z.held z.bytes) s.views id taken_view
            record {
              counted = λ i h. let g : x.filled ≡ i = cc in sym g ∙ taken_home.filled;
              folded = λ i h. taken_home.bytes;
              job = λ i h. (j, runs, refl);
              own = λ i e h. (x.filled, refl);
            }
            (λ i u ne e. let o = k.rule.log.holding i u e in record {
              counted = o.counted;
              folded = o.folded;
              job = λ a h. let g = o.job a h in let named = g.2 in absurd (omega arith);
              own = λ a f h. let same : a ≡ j = omega arith in absurd (one_runner p s k id i j v u at e ne runs (f ∙ ap (λ (z : ℕ). Some z) same));
            });
      }

pub takes_memory : (p : Plan) (slots id : ℕ) (m : Mine) (j : ℕ) → m.0.runs ≡ Some j → m.0.held ≡ None
    → Allows (Kept p) slots id m turn_word (λ n. either (eqb n 0) (suc j) n) (took_turn (step slots turn_word 0 (suc j) none) m)
takes_memory p slots id m j runs turnless s k deep at fits =
    let d : Words = words_of s.words in
    let v : View = m.0 in
    let n : ℕ = d.turn in
    let plan : v.plan ≡ p = k.rule.ownership.plans id v at in
    let Goes : ℕ → Type 0 = λ y. (w : View) × (a : Act LoggedBuffers) × Valid s.homes m.1 a × Kept p (stepped s turn_word y id m.1 w a) × took_turn (step slots turn_word 0 (suc j) none) m n (w, carried_after m.1 a) in
    exchanged n 0 (suc j) Goes
    (λ is.
    let home = taken_home p s id j v k at runs turnless is in
    let x : LoggedBuffers = home.value in
    let room : x.filled ≤ length v.plan.commands = (let short = filled_short d.place (length p.commands) in let f = home.filled in let same : length v.plan.commands ≡ length p.commands = ap (λ (q : Plan). length q.commands) plan in omega arith) in
    let sizes : map length x.buffers ≡ v.plan.sizes = ap (λ (b : Memory). map length b) home.bytes ∙ (log_sizes p s k ∙ ap (λ (q : Plan). q.sizes) (sym plan)) in (
      takes_turn v x.filled x.buffers,
      takes 0 x,
      subst (λ (hs : Homes). get_elem? hs 0 ≡ some (some x)) (sym home.home) refl,
      keeps_turn p s id (suc j) (set s.homes 0 none) v (takes_turn v x.filled x.buffers) k at refl refl refl refl refl refl (taken_log p s id j v k at runs turnless is),
      ((λ _. (x, refl, room, sizes)), λ ne. absurd (ne is)),
    ))
    (λ ne. (
      misses_turn v n,
      keeps,
      tt,
      keeps_turn p s id n s.homes v (misses_turn v n) k at refl refl refl refl refl refl (log_stays p d.job d.place n (log_of p d) s.homes s.views id v (misses_turn v n) k.rule.log at refl),
      ((λ is. absurd (ne is)), λ _. refl),
    ))

-- Giving

gives_held : (p : Plan) (slots id : ℕ) (v : View) (x : LoggedBuffers) → slots ≡ 1 → v.held ≡ Some x.filled → x.buffers ≡ v.bytes
    → Allows (Kept p) slots id (v, (0, x) ∷ []) turn_word (λ _. 0) (λ _. gave_turn (step slots turn_word 0 0 none) (v, (0, x) ∷ []) 0)
gives_held p slots id v x one held bytes s k deep at fits =
    let d : Words = words_of s.words in
    let own = k.rule.log.holding id v at in (
      gives_turn v,
      gives,
      tt,
      keeps_turn p s id 0 (set s.homes 0 (some x)) v (gives_turn v) k at refl refl refl refl refl refl record {
        later = k.rule.log.later;
        free = λ h. record { value = x; home = one_home s.homes (some x) (deep ∙ one); filled = own.counted x.filled held; bytes = bytes ∙ own.folded x.filled held };
        taken = λ i h. absurd (omega arith);
        holding = each_pass (λ i z. Holding p 0 (log_of p d) z.runs z.held z.bytes) s.views id (gives_turn v)
            record { counted = λ i h. absurd cc; folded = λ i h. absurd cc; job = λ i h. absurd cc; own = λ i e h. absurd (omega arith) }
            (λ i u ne e. record {
              counted = (k.rule.log.holding i u e).counted;
              folded = (k.rule.log.holding i u e).folded;
              job = λ a h. absurd (one_holder p s k id i x.filled a v u at e ne held h);
              own = λ a f h. absurd (omega arith);
            });
      },
      refl,
    )

pub gives_memory : (p : Plan) (slots id : ℕ) (m : Mine) (x : LoggedBuffers) → m.1 ≡ (0, x) ∷ [] → slots ≡ 1 → m.0.held ≡ Some x.filled → x.buffers ≡ m.0.bytes
    → Allows (Kept p) slots id m turn_word (λ _. 0) (λ _. gave_turn (step slots turn_word 0 0 none) m 0)
gives_memory p slots id m x e one held bytes =
    subst (λ (ts : List (ℕ × LoggedBuffers)). Allows (Kept p) slots id (m.0, ts) turn_word (λ _. 0) (λ _. gave_turn (step slots turn_word 0 0 none) (m.0, ts) 0)) (sym e) (gives_held p slots id m.0 x one held bytes)

-- as the calls write it
pub takes_memory_as : (p : Plan) (slots id : ℕ) (m : Mine) (j : ℕ) → m.0.runs ≡ Some j → m.0.held ≡ None
    → Allows (Kept p) slots id m turn_word (λ n. either (eqb n 0) (j + 1) n) (took_turn (step slots turn_word 0 (j + 1) none) m)
takes_memory_as p slots id m j runs turnless = let next : suc j ≡ j + 1 = omega arith in
    subst (λ (x : ℕ). Allows (Kept p) slots id m turn_word (λ n. either (eqb n 0) x n) (took_turn (step slots turn_word 0 x none) m)) next (takes_memory p slots id m j runs turnless)
