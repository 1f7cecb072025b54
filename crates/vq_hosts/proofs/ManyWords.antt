-- A line outside of blocks with more words than one without a fault has.
use Rattle.std.proofs.Common.{◌≡◌, ◌<◌, ℕ, Bool, true, false, ◌||◌, ◌&&◌, not, cond, List, [], ◌∷◌, length, Some, Err, refl, sym, ap, ◌∙◌, arith, nat_lt}
use Rattle.std.specs.Option.{option_map_or}
use Rattle.std.specs.Prelude.{find}
use Rattle.std.proofs.lemmas.Bool.{false≢true}
use Rattle.vq_ground.proofs.Bools.{and_false}
use Rattle.vq_model.specs.declared.script.Mode.TheVariants.{Immediate, Deferred, Threaded}
use Rattle.vq_model.specs.declared.statement.FaultKind.{FaultKind}
use Rattle.vq_model.specs.declared.statement.FaultKind.TheVariants.{Order}
use Rattle.vq_model.specs.declared.statement.Form.TheVariants.{Plain}
use Rattle.vq_model.specs.declared.statement.LineForm.{LineForm}
use Rattle.vq_model.specs.declared.statement.LineForm.TheVariants.{BufferLine, TimelineLine, BinaryLine, FenceLine, QueueLine}
use Rattle.vq_model.specs.Context.{section}
use Rattle.vq_model.specs.LineFaults.{is_declaration}
use Rattle.vq_model.specs.Meaning.{forms_at, matches}
use Rattle.vq_model.specs.Reading.{read_statement}
use Rattle.vq_blocks.specs.declared.block.BlockForm.TheVariants.{ThreadForm}
use Rattle.vq_blocks.specs.BlockFaults.{declares_late}
use Rattle.vq_blocks.specs.BlockForms.{matches_block}
use Rattle.vq_blocks.specs.BlockReading.{read_hosts_words}
use Rattle.vq_blocks.specs.Blocks.{Told, is_of_block, is_outside}
use Rattle.vq_hosts.specs.BlockTests.{is_syntax}
use Rattle.vq_hosts.proofs.RestLines.{rest_unread}

-- a kind stays where a declaration isn't late
in_time : (syntax : Bool) (kind : FaultKind) → cond (not syntax && false) Order kind ≡ kind
in_time true kind = refl
in_time false kind = refl

module _ (w1 w2 w3 w4 : List ℕ) (ws : List (List ℕ)) where
  -- four words and more are no declaration
  undeclared : (f : LineForm) → matches (w1 ∷ w2 ∷ w3 ∷ w4 ∷ ws) f ≡ true → is_declaration f ≡ false
  undeclared BufferLine m = absurd (false≢true m)
  undeclared TimelineLine m = absurd (false≢true m)
  undeclared BinaryLine m = absurd (false≢true m)
  undeclared FenceLine m = absurd (false≢true m)
  undeclared (QueueLine Immediate) m = absurd (false≢true m)
  undeclared (QueueLine Deferred) m = absurd (false≢true m)
  undeclared (QueueLine Threaded) m = absurd (false≢true m)
  undeclared other m = refl

  none_declared : (forms : List LineForm) →
      option_map_or is_declaration (find (matches (w1 ∷ w2 ∷ w3 ∷ w4 ∷ ws)) forms) false ≡ false
  none_declared [] = refl
  none_declared (f ∷ forms) = by_match (matches (w1 ∷ w2 ∷ w3 ∷ w4 ∷ ws) f) refl (none_declared forms)
    where
      by_match : (b : Bool) → matches (w1 ∷ w2 ∷ w3 ∷ w4 ∷ ws) f ≡ b →
          option_map_or is_declaration (find (matches (w1 ∷ w2 ∷ w3 ∷ w4 ∷ ws)) forms) false ≡ false →
          option_map_or is_declaration (cond b (Some f) (find (matches (w1 ∷ w2 ∷ w3 ∷ w4 ∷ ws)) forms)) false ≡ false
      by_match true m more = undeclared f m
      by_match false m more = more

pub many_rest : (told : Told) (n : ℕ) (words : List (List ℕ)) (kind : FaultKind) → 63 < length words →
    told.inside ≡ false → read_statement Plain told.rest n words ≡ Err kind → read_hosts_words told n words ≡ Err kind
many_rest told n [] kind many e r = absurd (omega arith)
many_rest told n (w1 ∷ []) kind many e r = absurd (omega arith)
many_rest told n (w1 ∷ w2 ∷ []) kind many e r = absurd (omega arith)
many_rest told n (w1 ∷ w2 ∷ w3 ∷ []) kind many e r = absurd (omega arith)
many_rest told n (w1 ∷ w2 ∷ w3 ∷ w4 ∷ ws) kind many e r =
    let words = w1 ∷ w2 ∷ w3 ∷ w4 ∷ ws in
    let outside : is_of_block told words ≡ false =
    ap (λ (b : Bool). b || (is_outside (section told.rest) && matches_block words ThreadForm)) e
    ∙ and_false (is_outside (section told.rest)) in
    let late : declares_late told words ≡ false =
    ap (λ (b : Bool). nat_lt 0 (length told.threads) && b) (none_declared w1 w2 w3 w4 ws (forms_at Plain told.rest))
    ∙ and_false (nat_lt 0 (length told.threads)) in
    rest_unread told n words (omega arith) outside false (sym late) kind r
    ∙ ap (λ (k : FaultKind). Err k) (in_time (is_syntax kind) kind)
