-- The lines of a text whose first part has whole lines.
use Rattle.std.proofs.Common.{ℕ, ◌≡◌, ◌<◌, ◌≤◌, ◌+◌, ◌-◌, ◌⊎◌, inl, inr, Bool, true, false, not, cond, eqb, List, [], ◌∷◌, ◌++◌, length, take, drop, map, get_or, suc, refl, sym, ap, subst, ◌∙◌, arith}
use Rattle.std.specs.Prelude.{◌&&◌}
use Rattle.std.specs.List.{list_all, slice_split, onto_first}
use Rattle.std.specs.Str.Lines.{strip_carriage_return}
use Rattle.std.proofs.lemmas.Bool.Decides.{nat_tests}
use Rattle.std.proofs.lemmas.List.{append-nil, append_assoc, map-append, length-append, take-append-drop, length-take, length-drop, get_or-take, get_or_default, take_all, take_rest, drop_all}
use Rattle.std.proofs.lemmas.List.Folds.{list_all-append}
use Rattle.std.proofs.lemmas.List.Splits.{slice_split_none}
use Rattle.std.proofs.Math.Seq.{drop-append_seam, take-add, take-append_seam, take-suc}
use Rattle.vq_model.specs.Text.{is_line_feed, lines_of, without_empty_end}
use Rattle.vq_given.specs.declared.given.Cut.{Cut}
use Rattle.vq_given.specs.Cutting.{AreWholeLines, Nothing, Ended, IsCut, IsUncut, IsWholeLine, Fed, Last, is_cut_line}
use Rattle.vq_trace.specs.FirstLines.{AtEnd, AtFeed, EndsLine, IsUnbroken}

abbrev pub HasFirst : List (List ℕ) → Type 0
HasFirst parts = (first : List ℕ) × (rest : List (List ℕ)) × (parts ≡ first ∷ rest)

-- a split has a first part
pub split_has_first : (xs : List ℕ) → HasFirst (slice_split is_line_feed xs)
split_has_first [] = ([], [], refl)
split_has_first (x ∷ xs) = by_test (is_line_feed x) (split_has_first xs)
  where
    by_test : (b : Bool) → HasFirst (slice_split is_line_feed xs) →
        HasFirst (cond b ([] ∷ slice_split is_line_feed xs) (onto_first x (slice_split is_line_feed xs)))
    by_test true h = ([], slice_split is_line_feed xs, refl)
    by_test false h = (x ∷ h.0, h.1, ap (onto_first x) h.2)

onto : (x : ℕ) (parts more : List (List ℕ)) → HasFirst parts → onto_first x (parts ++ more) ≡ onto_first x parts ++ more
onto x parts more h =
    ap (λ (ps : List (List ℕ)). onto_first x (ps ++ more)) h.2
    ∙ sym (ap (λ (ps : List (List ℕ)). onto_first x ps ++ more) h.2)

-- at a line feed a split is cut in two
split_at : (before back : List ℕ) →
    slice_split is_line_feed (before ++ 10 ∷ back) ≡ slice_split is_line_feed before ++ slice_split is_line_feed back
split_at [] back = refl
split_at (x ∷ xs) back = by_test (is_line_feed x) (split_at xs back)
  where
    by_test : (b : Bool) →
        slice_split is_line_feed (xs ++ 10 ∷ back) ≡ slice_split is_line_feed xs ++ slice_split is_line_feed back →
        cond b ([] ∷ slice_split is_line_feed (xs ++ 10 ∷ back)) (onto_first x (slice_split is_line_feed (xs ++ 10 ∷ back)))
        ≡ cond b ([] ∷ slice_split is_line_feed xs) (onto_first x (slice_split is_line_feed xs))
        ++ slice_split is_line_feed back
    by_test true h = ap (λ (ps : List (List ℕ)). [] ∷ ps) h
    by_test false h =
        ap (onto_first x) h ∙ onto x (slice_split is_line_feed xs) (slice_split is_line_feed back) (split_has_first xs)

-- parts before others stay
kept_parts : (xs : List (List ℕ)) (y : List ℕ) (ys : List (List ℕ)) →
    without_empty_end (xs ++ y ∷ ys) ≡ xs ++ without_empty_end (y ∷ ys)
kept_parts [] y ys = refl
kept_parts (x ∷ []) y ys = refl
kept_parts (x ∷ z ∷ xs) y ys = ap (λ (ps : List (List ℕ)). x ∷ ps) (kept_parts (z ∷ xs) y ys)

abbrev pub fed_lines : List ℕ → List (List ℕ)
fed_lines before = map strip_carriage_return (slice_split is_line_feed before)

pub lines_after : (before back : List ℕ) → lines_of (before ++ 10 ∷ back) ≡ fed_lines before ++ lines_of back
lines_after before back =
    let h = split_has_first back in
    ap (λ (ps : List (List ℕ)). map strip_carriage_return (without_empty_end ps)) (split_at before back)
    ∙ ap (λ (ps : List (List ℕ)). map strip_carriage_return (without_empty_end (slice_split is_line_feed before ++ ps))) h.2
    ∙ ap (map strip_carriage_return) (kept_parts (slice_split is_line_feed before) h.0 h.1)
    ∙ map-append strip_carriage_return (slice_split is_line_feed before) (without_empty_end (h.0 ∷ h.1))
    ∙ ap (λ (ps : List (List ℕ)). fed_lines before ++ map strip_carriage_return (without_empty_end ps)) (sym h.2)

-- the lines of whole lines come first
pub lines_whole : (front back : List ℕ) → AreWholeLines front → lines_of (front ++ back) ≡ lines_of front ++ lines_of back
lines_whole front back (Nothing e) =
    subst (λ (bs : List ℕ). lines_of (bs ++ back) ≡ lines_of bs ++ lines_of back) (sym e) refl
lines_whole front back (Ended before e) =
    subst (λ (bs : List ℕ). lines_of (bs ++ back) ≡ lines_of bs ++ lines_of back) (sym e)
    (ap lines_of (append_assoc before (10 ∷ []) back)
    ∙ lines_after before back
    ∙ sym (ap (λ (ls : List (List ℕ)). ls ++ lines_of back) (lines_after before [] ∙ append-nil (fed_lines before))))

-- A line

fed_line : (line : List ℕ) → IsUnbroken line → lines_of (line ++ 10 ∷ []) ≡ strip_carriage_return line ∷ []
fed_line line h =
    lines_after line [] ∙ append-nil (fed_lines line) ∙ ap (map strip_carriage_return) (slice_split_none is_line_feed line h)

last_line : (text : List ℕ) → 0 < length text → IsUnbroken text → lines_of text ≡ strip_carriage_return text ∷ []
last_line text some none =
    let empty : eqb (length text) 0 ≡ false = grind (arith, nat_tests) in
    rw (slice_split_none is_line_feed text none, empty) refl

-- The first line of a text is one line, and is whole.
pub record IsFirstLine (text : List ℕ) (n : ℕ) : Type 0 where
  pub line : List ℕ
  pub one : lines_of (take n text) ≡ line ∷ []
  pub whole : IsWholeLine (take n text) (drop n text)
  -- whole lines follow, or nothing
  pub ended : AreWholeLines (take n text) ⊎ (n ≡ length text)

pub first_line : (text : List ℕ) (n : ℕ) → 0 < length text → EndsLine text n → IsFirstLine text n
first_line text n some (AtFeed line e h) =
    record {
      line = strip_carriage_return line;
      one = ap lines_of e ∙ fed_line line h;
      whole = Fed line e;
      ended = inl (Ended line e);
    }
first_line text n some (AtEnd e h) =
    let long : length text ≤ n = omega (arith, e) in
    record {
      line = strip_carriage_return text;
      one = ap lines_of (take_all n text long) ∙ last_line text some h;
      whole = Last (drop_all n text long);
      ended = inr e;
    }

-- .. as a search for its line feed finds it
pub ends_at_feed : (text : List ℕ) (i : ℕ) → i < length text → get_or text i 0 ≡ 10 →
    ((k : ℕ) → k < i → is_line_feed (get_or text k 0) ≡ false) → EndsLine text (i + 1)
ends_at_feed text i l e h =
    let next : i + 1 ≡ suc i = omega arith in
    let long = length-take i text in
    AtFeed (take i text)
    (ap (λ (n : ℕ). take n text) next ∙ take-suc text i 0 l ∙ ap (λ (b : ℕ). take i text ++ b ∷ []) e)
    (λ k d m. subst (λ b. is_line_feed b ≡ false)
    (sym (get_or-take i text k d (omega (arith, long, m, l)) ∙ get_or_default text k d 0 (omega (arith, long, m, l))))
    (h k (omega (arith, long, m, l))))

pub ends_with_text : (text : List ℕ) → ((k : ℕ) → k < length text → is_line_feed (get_or text k 0) ≡ false) →
    EndsLine text (length text)
ends_with_text text h =
    AtEnd refl (λ k d m. subst (λ b. is_line_feed b ≡ false) (sym (get_or_default text k d 0 m)) (h k m))

-- The search for the line that cuts

-- Lines up to a place were passed: they don't cut, and their number is known.
pub record HavePassed (text : List ℕ) (start number : ℕ) : Type 0 where
  pub within : start ≤ length text
  pub whole : AreWholeLines (take start text) ⊎ (start ≡ length text)
  pub uncut : IsUncut (take start text)
  pub counted : number ≡ length (lines_of (take start text)) + 1

-- whole lines stand before the end of a text
front_whole : (text : List ℕ) (start number : ℕ) → start < length text → HavePassed text start number →
    AreWholeLines (take start text)
front_whole text start number l passed = elim passed.whole [
  | inl w ↦ w
  | inr e ↦ absurd (omega (arith, e, l))
]

module _ (text : List ℕ) (start number m : ℕ) (l : start < length text) (passed : HavePassed text start number)
    (within : m ≤ length (drop start text)) (first : IsFirstLine (drop start text) m) where
  abbrev line : List ℕ
  line = take m (drop start text)

  parts : text ≡ take start text ++ (line ++ drop m (drop start text))
  parts =
      sym (take-append-drop start text)
      ∙ ap (λ (bs : List ℕ). take start text ++ bs) (sym (take-append-drop m (drop start text)))

  front_len : length (take start text) ≡ start
  front_len = let long = length-take start text in omega (arith, long, l)

  line_len : length line ≡ m
  line_len = let long = length-take m (drop start text) in omega (arith, long, within)

  more_front : take (start + m) text ≡ take start text ++ line
  more_front = take-add start m text

  lines_more : lines_of (take (start + m) text) ≡ lines_of (take start text) ++ first.line ∷ []
  lines_more =
      ap lines_of more_front ∙ lines_whole (take start text) line (front_whole text start number l passed)
      ∙ ap (λ (ls : List (List ℕ)). lines_of (take start text) ++ ls) first.one

  -- a line more than those that were passed
  pub few_passed : number ≤ length (lines_of text)
  few_passed =
      let whole = ap (λ (bs : List ℕ). length (lines_of bs)) (sym (take-append-drop start text))
      ∙ ap (λ (ls : List (List ℕ)). length ls) (lines_whole (take start text) (drop start text) (front_whole text start number l passed)) in
      let long = length-append (lines_of (take start text)) (lines_of (drop start text)) in
      let before = passed.counted in
      let more = some_lines in
      omega (arith, whole, long, before, more)
    where
      some_lines : 0 < length (lines_of (drop start text))
      some_lines = elim first.ended [
        | inl w ↦
            let all = ap (λ (bs : List ℕ). length (lines_of bs)) (sym (take-append-drop m (drop start text)))
            ∙ ap (λ (ls : List (List ℕ)). length ls) (lines_whole line (drop m (drop start text)) w)
            ∙ ap (λ (ls : List (List ℕ)). length (ls ++ lines_of (drop m (drop start text)))) first.one in
            omega (arith, all)
        | inr e ↦
            let all : length (lines_of (drop start text)) ≡ length (first.line ∷ []) =
            ap (λ (bs : List ℕ). length (lines_of bs)) (sym (take_all m (drop start text) (omega (arith, e))))
            ∙ ap (λ (ls : List (List ℕ)). length ls) first.one in
            omega (arith, all)
      ]

  pub one_passed : is_cut_line first.line ≡ false → HavePassed text (start + m) (number + 1)
  one_passed not_cut =
      record {
        within = let long = drop_len in omega (arith, long, within, l);
        whole = elim first.ended [
          | inl w ↦ inl (joined w)
          | inr e ↦ inr (let long = drop_len in omega (arith, long, e, l))
        ];
        uncut =
            ap (list_all (λ x. not (is_cut_line x))) lines_more
            ∙ list_all-append (λ x. not (is_cut_line x)) (lines_of (take start text)) (first.line ∷ [])
            ∙ both (list_all (λ x. not (is_cut_line x)) (lines_of (take start text))) (is_cut_line first.line)
            passed.uncut not_cut;
        counted =
            let more = ap (λ (ls : List (List ℕ)). length ls) lines_more in
            let long = length-append (lines_of (take start text)) (first.line ∷ []) in
            let before = passed.counted in
            omega (arith, more, long, before);
      }
    where
      drop_len : length (drop start text) + start ≡ length text
      drop_len = let long = length-drop start text in omega (arith, long, l)

      both : (a b : Bool) → a ≡ true → b ≡ false → (a && (not b && true)) ≡ true
      both a b e f = λ i. e i && (not (f i) && true)

      joined : AreWholeLines line → AreWholeLines (take (start + m) text)
      joined (Nothing e) =
          subst AreWholeLines (sym (more_front ∙ ap (λ (bs : List ℕ). take start text ++ bs) e ∙ append-nil (take start text)))
          (front_whole text start number l passed)
      joined (Ended before e) =
          Ended (take start text ++ before)
          (more_front ∙ ap (λ (bs : List ℕ). take start text ++ bs) e ∙ sym (append_assoc (take start text) before (10 ∷ [])))

  pub cut_here : is_cut_line first.line ≡ true → (cut : Cut) → cut.script_end ≡ start → cut.trace_start ≡ start + m →
      cut.first ≡ number + 1 → IsCut text cut
  cut_here cut_line cut a b c =
      record {
        script = take start text;
        line = line;
        trace = drop m (drop start text);
        parts = parts ∙ sym (append_assoc (take start text) line (drop m (drop start text)));
        script_end = a ∙ sym front_len;
        trace_start = let x = front_len in let y = line_len in omega (arith, x, y, b);
        before = front_whole text start number l passed;
        uncut = passed.uncut;
        cutting = first.line;
        one_line = first.one;
        cuts = cut_line;
        whole = first.whole;
        first = let before = passed.counted in omega (arith, before, c);
      }

-- The first line of the bytes from a place on.

pub line_at : (text : List ℕ) (start m : ℕ) → start < length text →
    EndsLine (take (length text - start) (drop start text)) m → IsFirstLine (drop start text) m
line_at text start m l ends =
    let long = length-drop start text in
    first_line (drop start text) m (omega (arith, long, l))
    (subst (λ (bs : List ℕ). EndsLine bs m) (take_rest text start) ends)

pub within_at : (text : List ℕ) (start m : ℕ) → m ≤ length (take (length text - start) (drop start text)) →
    m ≤ length (drop start text)
within_at text start m h = subst (λ (bs : List ℕ). m ≤ length bs) (take_rest text start) h

-- What a cut leaves

cut_script : (text : List ℕ) (cut : Cut) (is : IsCut text cut) → take cut.script_end text ≡ is.script
cut_script text cut is =
    (λ i. take (is.script_end i) ((is.parts ∙ append_assoc is.script is.line is.trace) i))
    ∙ take-append_seam is.script (is.line ++ is.trace)

cut_trace : (text : List ℕ) (cut : Cut) (is : IsCut text cut) → drop cut.trace_start text ≡ is.trace
cut_trace text cut is =
    let long = length-append is.script is.line in
    let start : cut.trace_start ≡ length (is.script ++ is.line) = let e = is.trace_start in omega (arith, long, e) in
    (λ i. drop (start i) (is.parts i)) ∙ drop-append_seam (is.script ++ is.line) is.trace

-- a whole line stands before others
pub line_first : (line rest : List ℕ) → IsWholeLine line rest → lines_of (line ++ rest) ≡ lines_of line ++ lines_of rest
line_first line rest (Fed before e) = lines_whole line rest (Ended before e)
line_first line rest (Last e) =
    subst (λ (bs : List ℕ). lines_of (line ++ bs) ≡ lines_of line ++ lines_of bs) (sym e)
    (ap lines_of (append-nil line) ∙ sym (append-nil (lines_of line)))

cut_lines : (text : List ℕ) (cut : Cut) (is : IsCut text cut) →
    length (lines_of text) ≡ length (lines_of is.script) + (1 + length (lines_of is.trace))
cut_lines text cut is =
    let all = ap lines_of (is.parts ∙ append_assoc is.script is.line is.trace)
    ∙ lines_whole is.script (is.line ++ is.trace) is.before
    ∙ ap (λ (ls : List (List ℕ)). lines_of is.script ++ ls)
    (line_first is.line is.trace is.whole ∙ ap (λ (ls : List (List ℕ)). ls ++ lines_of is.trace) is.one_line) in
    let count = ap (λ (ls : List (List ℕ)). length ls) all in
    let long = length-append (lines_of is.script) (is.cutting ∷ lines_of is.trace) in
    omega (arith, count, long)

pub fewer_lines : (text : List ℕ) (cut : Cut) → IsCut text cut →
    length (lines_of (take cut.script_end text)) < length (lines_of text)
fewer_lines text cut is =
    let same = ap (λ (bs : List ℕ). length (lines_of bs)) (cut_script text cut is) in
    let count = cut_lines text cut is in
    omega (arith, same, count)

pub trace_lines : (text : List ℕ) (cut : Cut) → IsCut text cut →
    cut.first + length (lines_of (drop cut.trace_start text)) ≡ length (lines_of text) + 1
trace_lines text cut is =
    let same = ap (λ (bs : List ℕ). length (lines_of bs)) (cut_trace text cut is) in
    let count = cut_lines text cut is in
    let first = is.first in
    omega (arith, same, count, first)
