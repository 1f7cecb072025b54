-- The parts of the rule where a point's word changes.
use Rattle.std.proofs.Common.{◌≡◌, ◌≢◌, ◌⊎◌, ℕ, ◌+◌, ◌<◌, ◌≤◌, Bool, true, false, List, [], length, set, refl, ap, sym, ◌∙◌, subst, arith, ⊎_elim, inl, length-set}
use Rattle.std.specs.Prelude.{sum_by}
use Rattle.std.proofs.lemmas.Bool.{false≢true}
use mathlib.Core.Option.{some}
use lib.ListN.{get_elem?}
use Rattle.atomic_table.specs.Table.{State}
use Rattle.vq_model.specs.Machine.{Progress, put}
use Rattle.vq_model.specs.Plan.{Plan}
use Rattle.vq_ground.specs.Lists.{has}
use Rattle.vq_model.proofs.Puts.{put_there}
use Rattle.vq_point_laws.specs.PointWord.{parts}
use Rattle.vq_board_laws.specs.declared.view.View.{View}
use Rattle.vq_board_laws.specs.declared.view.LoggedBuffers.{LoggedBuffers}
use Rattle.vq_board_laws.specs.declared.view.Reference.{Reference}
use Rattle.vq_board_laws.specs.declared.view.Fact.{Fact}
use Rattle.vq_board_laws.specs.declared.view.Fact.TheVariants.{Job, Taken, Bound, BoundTo, Made, Past}
use Rattle.vq_board_laws.specs.Words.{Words, words_of, point_word, Carries, is_made, made_of, log_of, shown}
use Rattle.vq_board_laws.specs.Knowledge.{IsSo, AreSo}
use Rattle.vq_board_laws.specs.Jobs.{Jobs}
use Rattle.vq_board_laws.specs.Ownership.{Ownership}
use Rattle.vq_board_laws.specs.Points.{Points, OwnShelf, IsOfShelf, IsWord, Lists, reference}
use Rattle.vq_board_laws.specs.References.{References, refs_to}
use Rattle.vq_board_laws.specs.Reached.{IsReached}
use Rattle.vq_board_laws.specs.Rule.{Rule, Kept}
use Rattle.vq_board_laws.proofs.Columns.{put_each, point_set}
use Rattle.vq_board_laws.proofs.Frames.{Homes, knowledge_stays, jobs_stay, log_stays, ownership_stays, job_fields, log_fields, owner_fields, point_fields, PointFields}
use Rattle.vq_board_laws.proofs.MadeWords.{shown_remade}
use Rattle.vq_board_laws.proofs.PointBits.{no_word}
use Rattle.vq_board_laws.proofs.ReferenceLists.{of_point, counted, part_of_sum}
use Rattle.vq_board_laws.proofs.Runs.{reached_stays, reached_fields}
use Rattle.vq_board_laws.proofs.Views.{each_pass, same_length, away, other_role, sum_moves, sum_stays}

-- The word of a point, in the list of words

pub kept_point : (p : Plan) (s : State LoggedBuffers View) (q x : ℕ) (views : List View) → Kept p s → q < length p.ops → Rule p (record (words_of s.words) { point = put (words_of s.words).point q x }) s.homes views
    → Kept p record { words = set s.words (point_word q) x; homes = s.homes; views = views }
kept_point p s q x views k inside r = record {
  plan = k.plan;
  lawful = k.lawful;
  count = length-set s.words (point_word q) x ∙ k.count;
  rule = subst (λ (d : Words). Rule p d s.homes views) (sym (point_set s.words q x (let c = k.count in omega arith))) r;
}

-- Where as much is made, what is left to show is of the points and of the references

pub so_point : (d : Words) (q x : ℕ) → is_made d.op (put d.point q x) ≡ made_of d → ((a e : ℕ) → Carries (d.point a) e → (d.op e ≢ 0) ⊎ ((b : ℕ) × Carries (put d.point q x b) e))
    → (f : Fact) → IsSo d f → IsSo (record d { point = put d.point q x }) f
so_point d q x same taken (Job j s) h = h
so_point d q x same taken (Taken e) h = ⊎_elim (λ (u : d.op e ≢ 0). inl u) (λ t. taken t.0 e t.1) h
so_point d q x same taken (Bound e) h = h
so_point d q x same taken (BoundTo e r) h = h
so_point d q x same taken (Made e) h = ap (λ (m : ℕ → Bool). m e) same ∙ h
so_point d q x same taken (Past e) h = h

pub repoints : (p : Plan) (d : Words) (homes : Homes) (views : List View) (id q x : ℕ) (v w : View) → Rule p d homes views → get_elem? views id ≡ some v
    → is_made d.op (put d.point q x) ≡ made_of d → job_fields w ≡ job_fields v → log_fields w ≡ log_fields v → owner_fields w ≡ owner_fields v → reached_fields w ≡ reached_fields v
    → ((f : Fact) → IsSo d f → IsSo (record d { point = put d.point q x }) f) → AreSo (record d { point = put d.point q x }) w.known
    → Points p d.op (put d.point q x) d.count (set views id w) → References (put d.point q x) (set views id w)
    → Rule p (record d { point = put d.point q x }) homes (set views id w)
repoints p d homes views id q x v w r at same jobs log owner reached up known points references =
    let e : Words = record d { point = put d.point q x } in
    let is : made_of d ≡ made_of e = sym same in
    record {
      knowledge = knowledge_stays d e views id w up r.knowledge known;
      run = subst (λ (s : Progress). IsReached p s d.job (set views id w)) (sym (shown_remade p d d.op (put d.point q x) same)) (reached_stays p (shown p d) d.job d.job views id v w r.run at reached (λ told o. o));
      jobs = subst (λ (m : ℕ → Bool). Jobs p d.job m (log_of p d) (set views id w)) is (jobs_stay p d.job (made_of d) (log_of p d) views id v w r.jobs at jobs);
      log = log_stays p d.job d.place d.turn (log_of p d) homes views id v w r.log at log;
      ownership = ownership_stays p d.count views id v w r.ownership at owner;
      points = points;
      references = references;
    }

-- The point carries the same

module _ (point : ℕ → ℕ) (q x : ℕ) (same_held : (parts x).held ≡ (parts (point q)).held) (same_op : (parts x).op ≡ (parts (point q)).op) where
  pub carries_up : (a e : ℕ) → Carries (point a) e → Carries (put point q x a) e
  carries_up a e = put_each point q x (λ b y. Carries (point b) e → Carries y e) (λ c. record { held = same_held ∙ c.held; op = same_op ∙ c.op }) (λ b ne c. c) a

  pub carries_down : (a e : ℕ) → Carries (put point q x a) e → Carries (point a) e
  carries_down a e = put_each point q x (λ b y. Carries y e → Carries (point b) e) (λ c. record { held = sym same_held ∙ c.held; op = sym same_op ∙ c.op }) (λ b ne c. c) a

  module _ (p : Plan) (op : ℕ → ℕ) (held : (parts (point q)).held ≡ true) where
    not_zero : point q ≡ 0 → ⊥
    not_zero z = no_word (point q) (parts (point q)).op z record { held = held; op = refl }

    shelf_carries : (t : PointFields) → OwnShelf p op point t.0 t.1 t.2 t.3 t.4 → OwnShelf p op (put point q x) t.0 t.1 t.2 t.3 t.4
    shelf_carries t own = record {
      free = put_each point q x (λ a y. has t.1 a ≡ true → ((e : ℕ) → ¬ Lists t.2 (reference a e)) → y ≡ 0) (λ l empty. absurd (not_zero (own.free q l empty))) (λ a ne. own.free a);
      taken = λ a e m. let k = own.taken a e m in (k.0, k.1, carries_up a e k.2);
      complete = λ a e l c. own.complete a e l (carries_down a e c);
      single = own.single;
      bound_all = own.bound_all;
      bound_only = own.bound_only;
      past_all = own.past_all;
      past_only = own.past_only;
    }

    pub points_carry : (count : ℕ) (views : List View) (id : ℕ) (v w : View) → Points p op point count views → get_elem? views id ≡ some v → point_fields w ≡ point_fields v
        → ((e : ℕ) → Carries (point q) e → op e ≡ 1 → (parts x).signaled ≡ true) → ((e : ℕ) → Carries (point q) e → op e ≡ 0 → (parts x).signaled ≡ false) → IsWord x
        → Points p op (put point q x) count (set views id w)
    points_carry count views id v w k at same past clear word =
        let Q : PointFields → Type 0 = λ t. OwnShelf p op (put point q x) t.0 t.1 t.2 t.3 t.4 in
        record {
          carried = λ e a is. carries_up a e (k.carried e a is);
          home = λ a e c. k.home a e (carries_down a e c);
          past_set = λ a e c. put_each point q x (λ b y. Carries (point b) e → op e ≡ 1 → (parts y).signaled ≡ true) (past e) (λ b ne. k.past_set b e) a (carries_down a e c);
          clear = λ a e c. put_each point q x (λ b y. Carries (point b) e → op e ≡ 0 → (parts y).signaled ≡ false) (clear e) (λ b ne. k.clear b e) a (carries_down a e c);
          unmade = put_each point q x (λ a y. count ≤ a → y ≡ 0) (λ h. absurd (not_zero (k.unmade q h))) (λ a ne. k.unmade a);
          words = put_each point q x (λ a y. IsWord y) word (λ a ne. k.words a);
          shelves = each_pass (λ i z. Q (point_fields z)) views id w (subst Q (sym same) (shelf_carries (point_fields v) (k.shelves id v at))) (λ i u ne e. shelf_carries (point_fields u) (k.shelves i u e));
          absent = λ role h. shelf_carries (role, [], [], [], []) (k.absent role (same_length views id role w h));
        }

-- The point carries another operation than before, or none

pub stays_there : (point : ℕ → ℕ) (q x a e : ℕ) → a ≢ q → Carries (point a) e → Carries (put point q x a) e
stays_there point q x a e ne c = subst (λ (y : ℕ). Carries y e) (sym (put_there point q x a ne)) c

module _ (p : Plan) (op point : ℕ → ℕ) (count : ℕ) (views : List View) (id q x : ℕ) (v w : View) (k : Points p op point count views) (o : Ownership p count views) (at : get_elem? views id ≡ some v) (owned : has v.owned q ≡ true)
    (apart : (role e : ℕ) → role ≢ v.role → Carries x e → ¬ IsOfShelf p e role) where
  -- the shelves of others stay
  shelf_apart : (t : PointFields) → ¬ (has t.1 q ≡ true) → t.0 ≢ v.role → OwnShelf p op point t.0 t.1 t.2 t.3 t.4 → OwnShelf p op (put point q x) t.0 t.1 t.2 t.3 t.4
  shelf_apart t other ne own = record {
    free = put_each point q x (λ a y. has t.1 a ≡ true → ((e : ℕ) → ¬ Lists t.2 (reference a e)) → y ≡ 0) (λ l empty. absurd (other l)) (λ a ne. own.free a);
    taken = λ a e m. let h = own.taken a e m in (h.0, h.1, stays_there point q x a e (λ is. other (subst (λ (z : ℕ). has t.1 z ≡ true) is h.0)) h.2);
    complete = λ a e l. put_each point q x (λ b y. Carries y e → Lists t.2 (reference b e)) (λ c. absurd (apart t.0 e ne c l)) (λ b ne. own.complete b e l) a;
    single = own.single;
    bound_all = own.bound_all;
    bound_only = own.bound_only;
    past_all = own.past_all;
    past_only = own.past_only;
  }

  -- what is left to show is of the shelf whose point it is
  pub points_replace : ((a : ℕ) → op a ≢ q + 2) → ((e : ℕ) → Carries x e → (op e ≡ 0) × ((parts x).signaled ≡ false)) → (count ≤ q → x ≡ 0) → IsWord x → w.role ≡ v.role → OwnShelf p op (put point q x) v.role w.owned w.carrying w.bound w.past
      → Points p op (put point q x) count (set views id w)
  points_replace unbound new none word role mine = record {
    carried = λ e. put_each point q x (λ a y. op e ≡ a + 2 → Carries y e) (λ is. absurd (unbound e is)) (λ a ne. k.carried e a);
    home = λ a e. put_each point q x (λ b y. Carries y e → (op e ≡ 0) ⊎ (op e ≡ b + 2) ⊎ (op e ≡ 1)) (λ c. inl (new e c).0) (λ b ne. k.home b e) a;
    past_set = λ a e. put_each point q x (λ b y. Carries y e → op e ≡ 1 → (parts y).signaled ≡ true) (λ c h. absurd (let z = (new e c).0 in omega arith)) (λ b ne. k.past_set b e) a;
    clear = λ a e. put_each point q x (λ b y. Carries y e → op e ≡ 0 → (parts y).signaled ≡ false) (λ c h. (new e c).1) (λ b ne. k.clear b e) a;
    unmade = put_each point q x (λ a y. count ≤ a → y ≡ 0) none (λ a ne. k.unmade a);
    words = put_each point q x (λ a y. IsWord y) word (λ a ne. k.words a);
    shelves = each_pass (λ i z. OwnShelf p op (put point q x) z.role z.owned z.carrying z.bound z.past) views id w (subst (λ (n : ℕ). OwnShelf p op (put point q x) n w.owned w.carrying w.bound w.past) (sym role) mine)
        (λ i u ne e. shelf_apart (point_fields u) (λ h. ne (o.owners i id q u v e at h owned)) (other_role i id u v (o.roles i u e) (o.roles id v at) ne) (k.shelves i u e));
    absent = λ n h. let t = away views id v w n at (o.roles id v at) h in shelf_apart (n, [], [], [], []) (λ g. false≢true g) t.1 (k.absent n t.0);
  }

-- References

module _ (point : ℕ → ℕ) (views : List View) (r : References point views) where
  -- to a point without references no pass has one
  pub none_refers : (q : ℕ) → (parts (point q)).refs ≡ 0 → (i : ℕ) (u : View) (e : ℕ) → get_elem? views i ≡ some u → ¬ Lists u.refs (reference q e)
  none_refers q none i u e at m = let one : 0 < of_point q u.refs = counted (reference q e) u.refs m in let part = part_of_sum (refs_to q) views i u at in let all = r.counts q in omega arith

  module _ (id q x : ℕ) (v w : View) (at : get_elem? views id ≡ some v) where
    -- what was carried is
    pub references_move : ((a e : ℕ) → Carries (point a) e → Carries (put point q x a) e) → ((a e : ℕ) → Lists w.refs (reference a e) → Carries (put point q x a) e) → length w.refs ≤ 16
        → (parts x).refs + refs_to q v ≡ (parts (point q)).refs + refs_to q w → ((a : ℕ) → a ≢ q → refs_to a w ≡ refs_to a v) → References (put point q x) (set views id w)
    references_move up mine few here else = record {
      carried = each_pass (λ i z. (a e : ℕ) → Lists z.refs (reference a e) → Carries (put point q x a) e) views id w mine (λ i u ne is a e m. up a e (r.carried i u is a e m));
      few = each_pass (λ i z. length z.refs ≤ 16) views id w few (λ i u ne is. r.few i u is);
      counts = put_each point q x (λ a y. (parts y).refs ≡ sum_by (refs_to a) (set views id w)) (let all = r.counts q in let moves = sum_moves (refs_to q) views id v w at in omega arith)
          (λ a ne. r.counts a ∙ sym (sum_stays (refs_to a) views id v w at (else a ne)));
    }

    -- the point has no references
    pub references_replace : (parts (point q)).refs ≡ 0 → (parts x).refs ≡ 0 → w.refs ≡ v.refs → References (put point q x) (set views id w)
    references_replace none new same =
        let still : (i : ℕ) (u : View) → get_elem? views i ≡ some u → (a e : ℕ) → Lists u.refs (reference a e) → Carries (put point q x a) e =
        λ i u is a e m. stays_there point q x a e (λ q_is. none_refers q none i u e is (subst (λ (z : ℕ). Lists u.refs (reference z e)) q_is m)) (r.carried i u is a e m) in
        let alike : (a : ℕ) → refs_to a w ≡ refs_to a v = (λ a. ap (of_point a) same) in record {
          carried = each_pass (λ i z. (a e : ℕ) → Lists z.refs (reference a e) → Carries (put point q x a) e) views id w (λ a e m. still id v at a e (subst (λ (rs : List Reference). Lists rs (reference a e)) same m)) (λ i u ne is. still i u is);
          few = each_pass (λ i z. length z.refs ≤ 16) views id w (subst (λ (rs : List Reference). length rs ≤ 16) (sym same) (r.few id v at)) (λ i u ne is. r.few i u is);
          counts = put_each point q x (λ a y. (parts y).refs ≡ sum_by (refs_to a) (set views id w)) (new ∙ (sym none ∙ (r.counts q ∙ sym (sum_stays (refs_to q) views id v w at (alike q)))))
              (λ a ne. r.counts a ∙ sym (sum_stays (refs_to a) views id v w at (alike a)));
        }
