-- What a pass knows after a look at the signal's point, or at the signal.
use Rattle.std.proofs.Common.{◌≡◌, ℕ, Bool, true, false, List, [], ◌∷◌, ◌++◌, if◌then◌else◌, sym, ap, subst, ◌∙◌, inl}
use Rattle.std.proofs.lemmas.Bool.{false≢true}
use Rattle.vq_point_laws.specs.PointWord.{parts, PointWord}
use Rattle.vq_point.specs.declared.PointWord.{PointWord as PointParts}
use Rattle.vq_point.specs.Word.{bits_of}
use Rattle.vq_model.specs.Plan.{Plan}
use Rattle.vq_board_laws.specs.declared.view.Fact.{Fact}
use Rattle.vq_board_laws.specs.declared.view.Fact.TheVariants.{Made, Taken}
use Rattle.vq_board_laws.specs.declared.view.View.{View}
use Rattle.vq_board_laws.specs.Knowledge.{Knows, KnowsMade}
use Rattle.vq_board_laws.specs.PointSteps.{point_facts, moved_on, sees, unrefers, misses_point}
use Rattle.vq_board_laws.proofs.Cited.{made_still, knows_first, knows_more}

abbrev facts : Bool → Bool → ℕ → List Fact
facts h s e = if h then (if s then Made e ∷ Taken e ∷ [] else Taken e ∷ []) else []

made_in : (h s : Bool) (o e : ℕ) → h ≡ true → s ≡ true → o ≡ e → Knows (facts h s o) (Made e)
made_in false s o e held signaled is = absurd (false≢true held)
made_in true false o e held signaled is = absurd (false≢true signaled)
made_in true true o e held signaled is = inl (ap Made is)

-- a point that carries the operation and is signaled shows it made
pub look_made : (v w : View) (q e : ℕ) (word : PointParts) → w ≡ sees v q (bits_of word)
    → parts (bits_of word) ≡ record { op = word.op; refs = word.refs; signaled = word.signaled; held = word.held } → (word.held ≡ true) × (word.op ≡ e) → word.signaled ≡ true → Knows w.known (Made e)
look_made v w q e word is said carried signaled =
    let n = bits_of word in
    let held : (parts n).held ≡ true = ap (λ (x : PointWord). x.held) said ∙ carried.0 in
    let set : (parts n).signaled ≡ true = ap (λ (x : PointWord). x.signaled) said ∙ signaled in
    let its : (parts n).op ≡ e = ap (λ (x : PointWord). x.op) said ∙ carried.1 in
    let shown : Knows (point_facts n) (Made e) = made_in (parts n).held (parts n).signaled (parts n).op e held set its in
    subst (λ (u : View). Knows u.known (Made e)) (sym is) (knows_first (point_facts n ++ moved_on q n v.known) v.known (Made e) (knows_first (point_facts n) (moved_on q n v.known) (Made e) shown))

-- what is known made is known so after a look, whatever else the step did to the point
looked_made : (p : Plan) (v w : View) (q n e : ℕ) → w.known ≡ (sees v q n).known → KnowsMade p v.known e → KnowsMade p w.known e
looked_made p v w q n e is made =
    made_still p v.known w.known (λ f h. subst (λ (fs : List Fact). Knows fs f) (sym is) (knows_more (point_facts n ++ moved_on q n v.known) v.known f h)) e made

pub given_back_made : (p : Plan) (v w : View) (q n o e : ℕ) → w ≡ unrefers (sees v q n) q o n → KnowsMade p v.known e → KnowsMade p w.known e
given_back_made p v w q n o e is made = looked_made p v w q n e (ap (λ (u : View). u.known) is) made

pub lost_made : (p : Plan) (v w : View) (q n found e : ℕ) → w ≡ misses_point (sees v q n) q found → KnowsMade p v.known e → KnowsMade p w.known e
lost_made p v w q n found e is made = looked_made p v w q n e (ap (λ (u : View). u.known) is) made
