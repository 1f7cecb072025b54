-- The parts of the rule where an operation's word changes, and what is known made.
use Rattle.std.proofs.Common.{◌≡◌, ◌≢◌, ◌⊎◌, ℕ, ◌+◌, ◌<◌, Bool, true, false, List, [], length, set, ap, sym, ◌∙◌, subst, arith, inl, inr, length-set}
use mathlib.Core.Option.{some}
use mathlib.Core.Option as maybe
use lib.ListN.{get_elem?}
use Rattle.atomic_table.specs.Table.{State}
use Rattle.vq_model.specs.Plan.{Plan}
use Rattle.vq_ground.specs.Lists.{has}
use Rattle.vq_model.specs.Machine.{put, Progress}
use Rattle.vq_point_laws.specs.PointWord.{parts}
use Rattle.vq_board_laws.specs.declared.view.View.{View}
use Rattle.vq_board_laws.specs.declared.view.LoggedBuffers.{LoggedBuffers}
use Rattle.vq_board_laws.specs.declared.view.Reference.{Reference}
use Rattle.vq_board_laws.specs.declared.view.Fact.{Fact}
use Rattle.vq_board_laws.specs.declared.view.Fact.TheVariants.{Job, Taken, Bound, BoundTo, Made, Past}
use Rattle.vq_board_laws.specs.Words.{Words, Carries, words_of, op_word, is_made, made_of, log_of, shown}
use Rattle.vq_board_laws.specs.Knowledge.{IsSo, AreSo, Each}
use Rattle.vq_board_laws.specs.Jobs.{Jobs}
use Rattle.vq_board_laws.specs.Points.{Points, OwnShelf, IsOfShelf}
use Rattle.vq_board_laws.specs.Reached.{IsReached}
use Rattle.vq_board_laws.specs.Rule.{Rule, Kept}
use Rattle.vq_board_laws.proofs.Columns.{put_each, op_set}
use Rattle.vq_board_laws.proofs.Frames.{knowledge_stays, jobs_stay, log_stays, ownership_stays, references_stay, job_fields, log_fields, owner_fields}
use Rattle.vq_board_laws.proofs.MadeWords.{shown_remade}
use Rattle.vq_board_laws.proofs.Runs.{reached_stays, reached_fields}
use Rattle.vq_board_laws.proofs.Shelves.{one_shelf}
use Rattle.vq_board_laws.proofs.Views.{each_pass, away, other_role}

-- The word of an operation, in the list of words

pub kept_op : (p : Plan) (s : State LoggedBuffers View) (e x : ℕ) (views : List View) → Kept p s → e < length p.ops → Rule p (record (words_of s.words) { op = put (words_of s.words).op e x }) s.homes views
    → Kept p record { words = set s.words (op_word e) x; homes = s.homes; views = views }
kept_op p s e x views k inside r = record {
  plan = k.plan;
  lawful = k.lawful;
  count = length-set s.words (op_word e) x ∙ k.count;
  rule = subst (λ (d : Words). Rule p d s.homes views) (sym (op_set s.words e x (let c = k.count in omega arith))) r;
}

-- what was so stays so, where as much is made as before and the operation is bound to no other point than before
pub so_op : (d : Words) (e x : ℕ) → is_made (put d.op e x) d.point ≡ made_of d → x ≢ 0 → ((q : ℕ) → (d.op e ≡ q + 2) ⊎ (d.op e ≡ 1) → (x ≡ q + 2) ⊎ (x ≡ 1)) → (d.op e ≡ 1 → x ≡ 1)
    → (f : Fact) → IsSo d f → IsSo (record d { op = put d.op e x }) f
so_op d e x same some_word to past (Job j s) h = h
so_op d e x same some_word to past (Taken a) h = elim h [ inl ne ↦ inl (put_each d.op e x (λ b y. d.op b ≢ 0 → y ≢ 0) (λ _. some_word) (λ b _ g. g) a ne) | inr c ↦ inr c ]
so_op d e x same some_word to past (Bound a) h = put_each d.op e x (λ b y. d.op b ≢ 0 → y ≢ 0) (λ _. some_word) (λ b _ g. g) a h
so_op d e x same some_word to past (BoundTo a q) h = put_each d.op e x (λ b y. (d.op b ≡ q + 2) ⊎ (d.op b ≡ 1) → (y ≡ q + 2) ⊎ (y ≡ 1)) (to q) (λ b _ g. g) a h
so_op d e x same some_word to past (Made a) h = ap (λ (m : ℕ → Bool). m a) same ∙ h
so_op d e x same some_word to past (Past a) h = put_each d.op e x (λ b y. d.op b ≡ 1 → y ≡ 1) past (λ b _ g. g) a h

-- Shelves

-- the operations of another shelf stay as they are
shelf_else : (p : Plan) (op point : ℕ → ℕ) (e x mine role : ℕ) (owned : List ℕ) (carrying : List Reference) (bound past : List ℕ) → IsOfShelf p e mine → role ≢ mine → (op e ≡ 1 → x ≡ 1)
    → OwnShelf p op point role owned carrying bound past → OwnShelf p (put op e x) point role owned carrying bound past
shelf_else p op point e x mine role owned carrying bound past shelf ne up own = record {
  free = own.free;
  taken = own.taken;
  complete = own.complete;
  single = own.single;
  bound_all = put_each op e x (λ b y. IsOfShelf p b role → y ≢ 0 → has bound b ≡ true) (λ l _. absurd (ne (one_shelf p e role mine l shelf))) (λ b _. own.bound_all b);
  bound_only = put_each op e x (λ b y. has bound b ≡ true → IsOfShelf p b role × (y ≢ 0)) (λ h. absurd (ne (one_shelf p e role mine (own.bound_only e h).0 shelf))) (λ b _. own.bound_only b);
  past_all = put_each op e x (λ b y. IsOfShelf p b role → y ≡ 1 → has past b ≡ true) (λ l _. absurd (ne (one_shelf p e role mine l shelf))) (λ b _. own.past_all b);
  past_only = put_each op e x (λ b y. has past b ≡ true → y ≡ 1) (λ h. up (own.past_only e h)) (λ b _. own.past_only b);
}

-- The points, where the word of an operation of the pass that steps changes.
pub points_reop : (p : Plan) (op point : ℕ → ℕ) (count : ℕ) (views : List View) (id e x : ℕ) (v w : View) → Points p op point count views → Each (λ i z. z.role ≡ i) views → get_elem? views id ≡ some v
    → IsOfShelf p e v.role → x ≢ 0 → (op e ≡ 1 → x ≡ 1) → ((q : ℕ) → x ≡ q + 2 → Carries (point q) e) → ((q : ℕ) → Carries (point q) e → (x ≡ q + 2) ⊎ (x ≡ 1))
    → ((q : ℕ) → Carries (point q) e → x ≡ 1 → (parts (point q)).signaled ≡ true)
    → OwnShelf p (put op e x) point w.role w.owned w.carrying w.bound w.past → Points p (put op e x) point count (set views id w)
points_reop p op point count views id e x v w k roles at shelf some_word up carried home past mine = record {
  carried = put_each op e x (λ b y. (q : ℕ) → y ≡ q + 2 → Carries (point q) b) carried (λ b _. k.carried b);
  home = λ q. put_each op e x (λ b y. Carries (point q) b → (y ≡ 0) ⊎ (y ≡ q + 2) ⊎ (y ≡ 1)) (λ c. inr (home q c)) (λ b _. k.home q b);
  past_set = λ q. put_each op e x (λ b y. Carries (point q) b → y ≡ 1 → (parts (point q)).signaled ≡ true) (past q) (λ b _. k.past_set q b);
  clear = λ q. put_each op e x (λ b y. Carries (point q) b → y ≡ 0 → (parts (point q)).signaled ≡ false) (λ _ z. absurd (some_word z)) (λ b _. k.clear q b);
  unmade = k.unmade;
  words = k.words;
  shelves = each_pass (λ i z. OwnShelf p (put op e x) point z.role z.owned z.carrying z.bound z.past) views id w mine
      (λ i u ne t. shelf_else p op point e x v.role u.role u.owned u.carrying u.bound u.past shelf (other_role i id u v (roles i u t) (roles id v at) ne) up (k.shelves i u t));
  absent = λ role h. let t = away views id v w role at (roles id v at) h in shelf_else p op point e x v.role role [] [] [] [] shelf t.1 up (k.absent role t.0);
}

-- Where an operation's word changes and as much is made as before, what is left to show is of the points.
pub op_rule : (p : Plan) (d : Words) (homes : List (maybe.Option LoggedBuffers)) (views : List View) (id e x : ℕ) (v w : View) → Rule p d homes views → get_elem? views id ≡ some v
    → is_made (put d.op e x) d.point ≡ made_of d → ((f : Fact) → IsSo d f → IsSo (record d { op = put d.op e x }) f) → AreSo (record d { op = put d.op e x }) w.known
    → job_fields w ≡ job_fields v → log_fields w ≡ log_fields v → owner_fields w ≡ owner_fields v → w.refs ≡ v.refs → reached_fields w ≡ reached_fields v
    → Points p (put d.op e x) d.point d.count (set views id w) → Rule p (record d { op = put d.op e x }) homes (set views id w)
op_rule p d homes views id e x v w r at same up known jobs log owner refs reached points = record {
  knowledge = knowledge_stays d (record d { op = put d.op e x }) views id w up r.knowledge known;
  run = subst (λ (z : Progress). IsReached p z d.job (set views id w)) (sym (shown_remade p d (put d.op e x) d.point same)) (reached_stays p (shown p d) d.job d.job views id v w r.run at reached (λ told o. o));
  jobs = subst (λ (m : ℕ → Bool). Jobs p d.job m (log_of p d) (set views id w)) (sym same) (jobs_stay p d.job (made_of d) (log_of p d) views id v w r.jobs at jobs);
  log = log_stays p d.job d.place d.turn (log_of p d) homes views id v w r.log at log;
  ownership = ownership_stays p d.count views id v w r.ownership at owner;
  points = points;
  references = references_stay d.point views id v w r.references at refs;
}
