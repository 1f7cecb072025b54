-- What is made, where one word of a point or of an operation changes.
use Rattle.std.proofs.Common.{◌≡◌, ℕ, ◌+◌, ◌-◌, Bool, true, false, ◌||◌, ◌&&◌, eqb, ltb, refl, ap, ◌∙◌, arith, eq-eqb, ne_eqb, ⊎_elim}
use Rattle.std.proofs.lemmas.Bool.{lt-ltb, ltb-true, and_parts}
use Rattle.vq_model.specs.Machine.{put}
use Rattle.vq_model.specs.Plan.{Plan}
use Rattle.vq_point_laws.specs.PointWord.{parts}
use Rattle.vq_board_laws.specs.declared.view.View.{View}
use Rattle.vq_board_laws.specs.Points.{Points}
use Rattle.vq_board_laws.specs.Words.{Words, Carries, is_made, made_of, payload_of, shown, shows_made}
use Rattle.vq_board_laws.proofs.Columns.{put_each}
use Rattle.vq_board_laws.proofs.PointBits.{SameBits}
use Rattle.std.specs.Prelude.{List}

-- whether an operation is made, by its word
module _ (op point : ℕ → ℕ) (e : ℕ) where
  pub bound_value : (q : ℕ) → op e ≡ q + 2 → is_made op point e ≡ shows_made (point q) e
  bound_value q is = let minus : q + 2 - 2 ≡ q = omega arith in rw (is, ne_eqb (q + 2) 1 (λ h. omega arith), lt-ltb 1 (q + 2) (omega arith), minus) refl

  pub unbound_value : op e ≡ 0 → is_made op point e ≡ false
  unbound_value is = rw is refl

  pub past_value : op e ≡ 1 → is_made op point e ≡ true
  past_value is = rw is refl

pub unsignaled_value : (n e : ℕ) → Carries n e → (parts n).signaled ≡ false → shows_made n e ≡ false
unsignaled_value n e c s = rw (c.held, s) refl

pub signaled_value : (n e : ℕ) → Carries n e → (parts n).signaled ≡ true → shows_made n e ≡ true
signaled_value n e c s = rw (c.held, s, eq-eqb (parts n).op e c.op) refl

pub made_bit : (n e : ℕ) → shows_made n e ≡ true → (parts n).signaled ≡ true
made_bit n e h =
    let rest = and_parts (parts n).held ((parts n).signaled && eqb (parts n).op e) h in
    (and_parts (parts n).signaled (eqb (parts n).op e) rest.1).0

-- Where a word changes

and_same : (b x y : Bool) → (b ≡ true → x ≡ y) → (b && x) ≡ (b && y)
and_same true x y h = h refl
and_same false x y h = refl

-- a point's word changes, and shows as much made of an operation, if that is bound to it
pub made_point_at : (op point : ℕ → ℕ) (q x k : ℕ) → (op k ≡ q + 2 → shows_made x k ≡ shows_made (point q) k) → is_made op (put point q x) k ≡ is_made op point k
made_point_at op point q x k h = ap (λ (b : Bool). eqb (op k) 1 || b) (and_same (ltb 1 (op k)) (shows_made (put point q x (op k - 2)) k) (shows_made (point (op k - 2)) k)
    (λ e. let low = ltb-true 1 (op k) e in put_each point q x (λ a y. a ≡ op k - 2 → shows_made y k ≡ shows_made (point a) k) (λ is. h (omega arith)) (λ a ne is. refl) (op k - 2) refl))

pub made_point : (op point : ℕ → ℕ) (q x : ℕ) → ((k : ℕ) → op k ≡ q + 2 → shows_made x k ≡ shows_made (point q) k) → is_made op (put point q x) ≡ is_made op point
made_point op point q x h = λ i k. made_point_at op point q x k (h k) i

-- an operation's word changes, and it is as much made as it was
pub made_op : (op point : ℕ → ℕ) (e x : ℕ) → (eqb x 1 || (ltb 1 x && shows_made (point (x - 2)) e)) ≡ is_made op point e → is_made (put op e x) point ≡ is_made op point
made_op op point e x h = λ i k. put_each op e x (λ a y. (eqb y 1 || (ltb 1 y && shows_made (point (y - 2)) a)) ≡ is_made op point a) h (λ a ne. refl) k i

-- a point's word changes in nothing but its references
pub made_recounted : (op point : ℕ → ℕ) (q x : ℕ) → SameBits x (point q) → is_made op (put point q x) ≡ is_made op point
made_recounted op point q x bits = made_point op point q x (λ a is i. bits.held i && (bits.signaled i && eqb (bits.op i) a))

-- where as much is made, the words show the same
pub shown_remade : (p : Plan) (d : Words) (op point : ℕ → ℕ) → is_made op point ≡ made_of d → shown p (record d { op = op; point = point }) ≡ shown p d
shown_remade p d op point same = ap (λ (m : ℕ → Bool). record (shown p d) { payload = payload_of p m; made = m }) same

-- What a point shows

-- a point that carries an operation and is signaled shows it made
pub shows : (p : Plan) (op point : ℕ → ℕ) (count : ℕ) (views : List View) (q e : ℕ) → Points p op point count views → Carries (point q) e → (parts (point q)).signaled ≡ true → is_made op point e ≡ true
shows p op point count views q e points c bit = ⊎_elim (λ (h : op e ≡ 0). let clear = points.clear q e c h in absurd cc)
    (⊎_elim (λ (h : op e ≡ q + 2). bound_value op point e q h ∙ signaled_value (point q) e c bit) (λ (h : op e ≡ 1). past_value op point e h)) (points.home q e c)

-- a point that carries an operation and isn't signaled shows it unmade
pub not_shown : (p : Plan) (op point : ℕ → ℕ) (count : ℕ) (views : List View) (q e : ℕ) → Points p op point count views → Carries (point q) e → (parts (point q)).signaled ≡ false → is_made op point e ≡ false
not_shown p op point count views q e points c bit = ⊎_elim (λ (h : op e ≡ 0). unbound_value op point e h)
    (⊎_elim (λ (h : op e ≡ q + 2). bound_value op point e q h ∙ unsignaled_value (point q) e c bit) (λ (h : op e ≡ 1). let set = points.past_set q e c h in absurd cc)) (points.home q e c)
