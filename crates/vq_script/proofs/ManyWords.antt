-- The form of a line with many words, which has pairs if it has one.
use Rattle.std.proofs.Common.{◌≡◌, ◌<◌, ◌%◌, ℕ, Bool, true, false, List, [], ◌∷◌, ◌++◌, length, take, drop, refl, sym, ap, ◌∙◌, arith}
use Rattle.std.specs.Prelude.{nat_lt, ◌==◌, ◌&&◌}
use Rattle.std.specs.Borrow.{Bor}
use Rattle.std.proofs.lemmas.Bool.{false≢true}
use Rattle.std.proofs.lemmas.Bool.Decides.{nat_tests}
use Rattle.vq_model.specs.declared.script.Mode.TheVariants.{Immediate, Deferred, Threaded}
use Rattle.vq_model.specs.declared.statement.LineForm.{LineForm}
use Rattle.vq_model.specs.declared.statement.LineForm.TheVariants.{VersionLine, BufferLine, TimelineLine, BinaryLine, FenceLine, QueueLine}
use Rattle.vq_model.specs.declared.statement.LineForm.TheVariants.{SubmitLine, HostSignalLine, HostWaitAllLine, HostWaitAnyLine, HostPollAllLine, HostPollAnyLine}
use Rattle.vq_model.specs.declared.statement.LineForm.TheVariants.{HostReadLine, HostFenceWaitLine, HostFencePollLine, HostFenceResetLine, HostIdleLine, ScheduleLine}
use Rattle.vq_model.specs.declared.statement.LineForm.TheVariants.{WaitTimelineLine, WaitBinaryLine, HeldTimelineLine, HeldBinaryLine, FillWholeLine, FillLine}
use Rattle.vq_model.specs.declared.statement.LineForm.TheVariants.{UpdateLine, CopyLine, SignalTimelineLine, SignalBinaryLine, BatchFenceLine, EndLine}
use Rattle.vq_model.specs.declared.statement.LineForm.TheVariants.{TurnLine, TurnsLine}
use Rattle.vq_model.specs.Forms.{places}
use Rattle.vq_model.specs.Meaning.{matches, open_places, pair_places}
use Rattle.vq_lexer.specs.Words.{texts}
use Rattle.vq_script.specs.SaidLines.{is_pairs_line}

-- Seven words and more
module _ (w1 w2 w3 w4 w5 w6 w7 : List ℕ) (a : List (List ℕ)) where
  -- they are of a form with pairs
  pairs_alone : (f : LineForm) → matches (w1 ∷ w2 ∷ w3 ∷ w4 ∷ w5 ∷ w6 ∷ w7 ∷ a) f ≡ true → is_pairs_line f ≡ true
  pairs_alone VersionLine m = absurd (false≢true m)
  pairs_alone BufferLine m = absurd (false≢true m)
  pairs_alone TimelineLine m = absurd (false≢true m)
  pairs_alone BinaryLine m = absurd (false≢true m)
  pairs_alone FenceLine m = absurd (false≢true m)
  pairs_alone (QueueLine Immediate) m = absurd (false≢true m)
  pairs_alone (QueueLine Deferred) m = absurd (false≢true m)
  pairs_alone (QueueLine Threaded) m = absurd (false≢true m)
  pairs_alone SubmitLine m = absurd (false≢true m)
  pairs_alone HostSignalLine m = absurd (false≢true m)
  pairs_alone HostWaitAllLine m = refl
  pairs_alone HostWaitAnyLine m = refl
  pairs_alone HostPollAllLine m = refl
  pairs_alone HostPollAnyLine m = refl
  pairs_alone HostReadLine m = absurd (false≢true m)
  pairs_alone HostFenceWaitLine m = absurd (false≢true m)
  pairs_alone HostFencePollLine m = absurd (false≢true m)
  pairs_alone HostFenceResetLine m = absurd (false≢true m)
  pairs_alone HostIdleLine m = absurd (false≢true m)
  pairs_alone ScheduleLine m = absurd (false≢true m)
  pairs_alone WaitTimelineLine m = absurd (false≢true m)
  pairs_alone WaitBinaryLine m = absurd (false≢true m)
  pairs_alone HeldTimelineLine m = absurd (false≢true m)
  pairs_alone HeldBinaryLine m = absurd (false≢true m)
  pairs_alone FillWholeLine m = absurd (false≢true m)
  pairs_alone FillLine m = absurd (false≢true m)
  pairs_alone UpdateLine m = absurd (false≢true m)
  pairs_alone CopyLine m = absurd (false≢true m)
  pairs_alone SignalTimelineLine m = absurd (false≢true m)
  pairs_alone SignalBinaryLine m = absurd (false≢true m)
  pairs_alone BatchFenceLine m = absurd (false≢true m)
  pairs_alone EndLine m = absurd (false≢true m)
  pairs_alone TurnLine m = absurd (false≢true m)
  pairs_alone TurnsLine m = absurd (false≢true m)

  -- the pairs are those behind the third word
  pairs_behind : (f : LineForm) → is_pairs_line f ≡ true →
      open_places (places f) (w1 ∷ w2 ∷ w3 ∷ w4 ∷ w5 ∷ w6 ∷ w7 ∷ a) ≡ pair_places (w4 ∷ w5 ∷ w6 ∷ w7 ∷ a)
  pairs_behind VersionLine e = absurd (false≢true e)
  pairs_behind BufferLine e = absurd (false≢true e)
  pairs_behind TimelineLine e = absurd (false≢true e)
  pairs_behind BinaryLine e = absurd (false≢true e)
  pairs_behind FenceLine e = absurd (false≢true e)
  pairs_behind (QueueLine Immediate) e = absurd (false≢true e)
  pairs_behind (QueueLine Deferred) e = absurd (false≢true e)
  pairs_behind (QueueLine Threaded) e = absurd (false≢true e)
  pairs_behind SubmitLine e = absurd (false≢true e)
  pairs_behind HostSignalLine e = absurd (false≢true e)
  pairs_behind HostWaitAllLine e = refl
  pairs_behind HostWaitAnyLine e = refl
  pairs_behind HostPollAllLine e = refl
  pairs_behind HostPollAnyLine e = refl
  pairs_behind HostReadLine e = absurd (false≢true e)
  pairs_behind HostFenceWaitLine e = absurd (false≢true e)
  pairs_behind HostFencePollLine e = absurd (false≢true e)
  pairs_behind HostFenceResetLine e = absurd (false≢true e)
  pairs_behind HostIdleLine e = absurd (false≢true e)
  pairs_behind ScheduleLine e = absurd (false≢true e)
  pairs_behind WaitTimelineLine e = absurd (false≢true e)
  pairs_behind WaitBinaryLine e = absurd (false≢true e)
  pairs_behind HeldTimelineLine e = absurd (false≢true e)
  pairs_behind HeldBinaryLine e = absurd (false≢true e)
  pairs_behind FillWholeLine e = absurd (false≢true e)
  pairs_behind FillLine e = absurd (false≢true e)
  pairs_behind UpdateLine e = absurd (false≢true e)
  pairs_behind CopyLine e = absurd (false≢true e)
  pairs_behind SignalTimelineLine e = absurd (false≢true e)
  pairs_behind SignalBinaryLine e = absurd (false≢true e)
  pairs_behind BatchFenceLine e = absurd (false≢true e)
  pairs_behind EndLine e = absurd (false≢true e)
  pairs_behind TurnLine e = absurd (false≢true e)
  pairs_behind TurnsLine e = absurd (false≢true e)

  -- which form it is, is told by the first of them and by whether the rest are even
  as_many : (b : List (List ℕ)) (heads : Bool) → length a % 2 ≡ length b % 2 →
      ((nat_lt 0 (length (w4 ∷ w5 ∷ w6 ∷ w7 ∷ a)) && (length (w4 ∷ w5 ∷ w6 ∷ w7 ∷ a) % 2 == 0)) && heads)
      ≡ ((nat_lt 0 (length (w4 ∷ w5 ∷ w6 ∷ w7 ∷ b)) && (length (w4 ∷ w5 ∷ w6 ∷ w7 ∷ b) % 2 == 0)) && heads)
  as_many b heads same =
      let parity : length (w4 ∷ w5 ∷ w6 ∷ w7 ∷ a) % 2 ≡ length (w4 ∷ w5 ∷ w6 ∷ w7 ∷ b) % 2 = omega arith in
      let one : nat_lt 0 (length (w4 ∷ w5 ∷ w6 ∷ w7 ∷ a)) ≡ true = grind (arith, nat_tests) in
      let other : nat_lt 0 (length (w4 ∷ w5 ∷ w6 ∷ w7 ∷ b)) ≡ true = grind (arith, nat_tests) in
      λ i. ((one ∙ sym other) i && (parity i == 0)) && heads

  same_form : (b : List (List ℕ)) → length a % 2 ≡ length b % 2 → (f : LineForm) →
      matches (w1 ∷ w2 ∷ w3 ∷ w4 ∷ w5 ∷ w6 ∷ w7 ∷ a) f ≡ matches (w1 ∷ w2 ∷ w3 ∷ w4 ∷ w5 ∷ w6 ∷ w7 ∷ b) f
  same_form b same VersionLine = refl
  same_form b same BufferLine = refl
  same_form b same TimelineLine = refl
  same_form b same BinaryLine = refl
  same_form b same FenceLine = refl
  same_form b same (QueueLine Immediate) = refl
  same_form b same (QueueLine Deferred) = refl
  same_form b same (QueueLine Threaded) = refl
  same_form b same SubmitLine = refl
  same_form b same HostSignalLine = refl
  same_form b same HostWaitAllLine = as_many b _ same
  same_form b same HostWaitAnyLine = as_many b _ same
  same_form b same HostPollAllLine = as_many b _ same
  same_form b same HostPollAnyLine = as_many b _ same
  same_form b same HostReadLine = refl
  same_form b same HostFenceWaitLine = refl
  same_form b same HostFencePollLine = refl
  same_form b same HostFenceResetLine = refl
  same_form b same HostIdleLine = refl
  same_form b same ScheduleLine = refl
  same_form b same WaitTimelineLine = refl
  same_form b same WaitBinaryLine = refl
  same_form b same HeldTimelineLine = refl
  same_form b same HeldBinaryLine = refl
  same_form b same FillWholeLine = refl
  same_form b same FillLine = refl
  same_form b same UpdateLine = refl
  same_form b same CopyLine = refl
  same_form b same SignalTimelineLine = refl
  same_form b same SignalBinaryLine = refl
  same_form b same BatchFenceLine = refl
  same_form b same EndLine = refl
  same_form b same TurnLine = refl
  same_form b same TurnsLine = refl

-- The words of a line that are 63 and more

-- .. which are an even number, or an odd one
pub form_even : (words : List (Bor (List ℕ))) (more all : List (List ℕ)) →
    texts words ++ more ≡ all → length (texts words) ≡ 63 → (length all % 2 == 0) ≡ true →
    (f : LineForm) → matches (texts (take 8 words)) f ≡ matches all f
form_even [] more all parts many even f = absurd (omega arith)
form_even (w1 ∷ []) more all parts many even f = absurd (omega arith)
form_even (w1 ∷ w2 ∷ []) more all parts many even f = absurd (omega arith)
form_even (w1 ∷ w2 ∷ w3 ∷ []) more all parts many even f = absurd (omega arith)
form_even (w1 ∷ w2 ∷ w3 ∷ w4 ∷ []) more all parts many even f = absurd (omega arith)
form_even (w1 ∷ w2 ∷ w3 ∷ w4 ∷ w5 ∷ []) more all parts many even f = absurd (omega arith)
form_even (w1 ∷ w2 ∷ w3 ∷ w4 ∷ w5 ∷ w6 ∷ []) more all parts many even f = absurd (omega arith)
form_even (w1 ∷ w2 ∷ w3 ∷ w4 ∷ w5 ∷ w6 ∷ w7 ∷ []) more all parts many even f = absurd (omega arith)
form_even (w1 ∷ w2 ∷ w3 ∷ w4 ∷ w5 ∷ w6 ∷ w7 ∷ w8 ∷ rest) more all parts many even f =
    let counted = ap (λ (ws : List (List ℕ)). length ws) parts in
    let parity : length all % 2 ≡ 0 = grind (arith, nat_tests) in
    sym (same_form w1.now w2.now w3.now w4.now w5.now w6.now w7.now (w8.now ∷ texts rest ++ more) (w8.now ∷ []) (omega arith) f)
    ∙ ap (λ (ws : List (List ℕ)). matches ws f) parts

pub form_odd : (words : List (Bor (List ℕ))) (more all : List (List ℕ)) →
    texts words ++ more ≡ all → length (texts words) ≡ 63 → (length all % 2 == 0) ≡ false →
    (f : LineForm) → matches (texts (take 7 words)) f ≡ matches all f
form_odd [] more all parts many even f = absurd (omega arith)
form_odd (w1 ∷ []) more all parts many even f = absurd (omega arith)
form_odd (w1 ∷ w2 ∷ []) more all parts many even f = absurd (omega arith)
form_odd (w1 ∷ w2 ∷ w3 ∷ []) more all parts many even f = absurd (omega arith)
form_odd (w1 ∷ w2 ∷ w3 ∷ w4 ∷ []) more all parts many even f = absurd (omega arith)
form_odd (w1 ∷ w2 ∷ w3 ∷ w4 ∷ w5 ∷ []) more all parts many even f = absurd (omega arith)
form_odd (w1 ∷ w2 ∷ w3 ∷ w4 ∷ w5 ∷ w6 ∷ []) more all parts many even f = absurd (omega arith)
form_odd (w1 ∷ w2 ∷ w3 ∷ w4 ∷ w5 ∷ w6 ∷ w7 ∷ []) more all parts many even f = absurd (omega arith)
form_odd (w1 ∷ w2 ∷ w3 ∷ w4 ∷ w5 ∷ w6 ∷ w7 ∷ w8 ∷ rest) more all parts many even f =
    let counted = ap (λ (ws : List (List ℕ)). length ws) parts in
    let parity : length all % 2 ≡ 1 = grind (arith, nat_tests) in
    sym (same_form w1.now w2.now w3.now w4.now w5.now w6.now w7.now (w8.now ∷ texts rest ++ more) [] (omega arith) f)
    ∙ ap (λ (ws : List (List ℕ)). matches ws f) parts

-- Many words

pub many_pairs : (words : List (List ℕ)) → 63 < length words → (f : LineForm) →
    matches words f ≡ true → is_pairs_line f ≡ true
many_pairs [] many f m = absurd (omega arith)
many_pairs (w1 ∷ []) many f m = absurd (omega arith)
many_pairs (w1 ∷ w2 ∷ []) many f m = absurd (omega arith)
many_pairs (w1 ∷ w2 ∷ w3 ∷ []) many f m = absurd (omega arith)
many_pairs (w1 ∷ w2 ∷ w3 ∷ w4 ∷ []) many f m = absurd (omega arith)
many_pairs (w1 ∷ w2 ∷ w3 ∷ w4 ∷ w5 ∷ []) many f m = absurd (omega arith)
many_pairs (w1 ∷ w2 ∷ w3 ∷ w4 ∷ w5 ∷ w6 ∷ []) many f m = absurd (omega arith)
many_pairs (w1 ∷ w2 ∷ w3 ∷ w4 ∷ w5 ∷ w6 ∷ w7 ∷ rest) many f m = pairs_alone w1 w2 w3 w4 w5 w6 w7 rest f m

pub many_behind : (words : List (List ℕ)) → 63 < length words → (f : LineForm) → is_pairs_line f ≡ true →
    open_places (places f) words ≡ pair_places (drop 3 words)
many_behind [] many f e = absurd (omega arith)
many_behind (w1 ∷ []) many f e = absurd (omega arith)
many_behind (w1 ∷ w2 ∷ []) many f e = absurd (omega arith)
many_behind (w1 ∷ w2 ∷ w3 ∷ []) many f e = absurd (omega arith)
many_behind (w1 ∷ w2 ∷ w3 ∷ w4 ∷ []) many f e = absurd (omega arith)
many_behind (w1 ∷ w2 ∷ w3 ∷ w4 ∷ w5 ∷ []) many f e = absurd (omega arith)
many_behind (w1 ∷ w2 ∷ w3 ∷ w4 ∷ w5 ∷ w6 ∷ []) many f e = absurd (omega arith)
many_behind (w1 ∷ w2 ∷ w3 ∷ w4 ∷ w5 ∷ w6 ∷ w7 ∷ rest) many f e = pairs_behind w1 w2 w3 w4 w5 w6 w7 rest f e

pub many_unnamed : (words : List (List ℕ)) → 63 < length words → matches words VersionLine ≡ false
many_unnamed [] many = absurd (omega arith)
many_unnamed (w1 ∷ []) many = absurd (omega arith)
many_unnamed (w1 ∷ w2 ∷ []) many = absurd (omega arith)
many_unnamed (w1 ∷ w2 ∷ w3 ∷ []) many = absurd (omega arith)
many_unnamed (w1 ∷ w2 ∷ w3 ∷ w4 ∷ []) many = absurd (omega arith)
many_unnamed (w1 ∷ w2 ∷ w3 ∷ w4 ∷ w5 ∷ []) many = absurd (omega arith)
many_unnamed (w1 ∷ w2 ∷ w3 ∷ w4 ∷ w5 ∷ w6 ∷ []) many = absurd (omega arith)
many_unnamed (w1 ∷ w2 ∷ w3 ∷ w4 ∷ w5 ∷ w6 ∷ w7 ∷ rest) many = refl
