-- A text is cut at one place.
use Rattle.std.proofs.Common.{◌≡◌, ℕ, ◌<◌, ◌≤◌, Bool, true, false, cond, eqb, List, [], ◌∷◌, ◌++◌, length, map, refl, sym, ap, ◌∙◌, subst, arith, append_assoc}
use Rattle.vq_trace.proofs.Cited.{HasFirst, split_has_first, lines_after, lines_whole, line_first}
use native.Mathlib.Decide.{dec_le}
use Rattle.std.specs.Prelude.{not}
use Rattle.std.specs.List.{list_all, slice_split, onto_first}
use Rattle.std.specs.Str.Lines.{strip_carriage_return}
use Rattle.std.proofs.lemmas.Bool.{and_parts, true≢false}
use Rattle.std.proofs.lemmas.Bool.Decides.{nat_tests}
use Rattle.std.proofs.lemmas.List.{length-append, append-nil}
use Rattle.vq_model.specs.Text.{is_line_feed, lines_of, without_empty_end}
use Rattle.vq_given.specs.declared.given.Cut.{Cut}
use Rattle.vq_given.specs.Cutting.{AreWholeLines, Nothing, Ended, IsWholeLine, Fed, Last, IsCut, IsUncut, is_cut_line}

-- Lists in two parts

-- of a list that is cut at two places, what stands between them
parted : (a b c d : List ℕ) → a ++ b ≡ c ++ d → length a ≤ length c → (m : List ℕ) × (c ≡ a ++ m) × (b ≡ m ++ d)
parted [] b c d e l = (c, refl, e)
parted (x ∷ a) b [] d e l = absurd (omega arith)
parted (x ∷ a) b (y ∷ c) d e l =
    let tails : a ++ b ≡ c ++ d = cc in
    let heads : y ≡ x = cc in
    let found = parted a b c d tails (omega arith) in
    (found.0, (λ i. heads i ∷ found.1 i), found.2)

all_right : (p : List ℕ → Bool) (xs ys : List (List ℕ)) → list_all p (xs ++ ys) ≡ true → list_all p ys ≡ true
all_right p [] ys h = h
all_right p (x ∷ xs) ys h = all_right p xs ys (and_parts (p x) (list_all p (xs ++ ys)) h).1

-- a line that cuts isn't one that doesn't
not_both : (line : List ℕ) → is_cut_line line ≡ true → not (is_cut_line line) ≡ true → ⊥
not_both line cutting uncut = true≢false (sym uncut ∙ ap not cutting)

-- a text that isn't empty has lines
some_lines : (x : ℕ) (text : List ℕ) → lines_of (x ∷ text) ≡ [] → ⊥
some_lines x text e = by_test (is_line_feed x) (split_has_first text) e
  where
    by_test : (b : Bool) → HasFirst (slice_split is_line_feed text) →
        map strip_carriage_return (without_empty_end (cond b ([] ∷ slice_split is_line_feed text)
        (onto_first x (slice_split is_line_feed text)))) ≡ [] → ⊥
    by_test true h e =
        let some : strip_carriage_return [] ∷ map strip_carriage_return (without_empty_end (h.0 ∷ h.1)) ≡ [] =
        subst (λ (ps : List (List ℕ)). map strip_carriage_return (without_empty_end ([] ∷ ps)) ≡ []) h.2 e in
        cc
    by_test false h e =
        by_more h.1 (subst (λ (ps : List (List ℕ)). map strip_carriage_return (without_empty_end (onto_first x ps)) ≡ []) h.2 e)
      where
        by_more : (more : List (List ℕ)) → map strip_carriage_return (without_empty_end ((x ∷ h.0) ∷ more)) ≡ [] → ⊥
        by_more [] f =
            let full : eqb (length (x ∷ h.0)) 0 ≡ false = grind (arith, nat_tests) in
            let some : strip_carriage_return (x ∷ h.0) ∷ [] ≡ [] =
            subst (λ (b : Bool). map strip_carriage_return (cond {A = List (List ℕ)} b [] ((x ∷ h.0) ∷ [])) ≡ []) full f in
            cc
        by_more (next ∷ more) f =
            let some : strip_carriage_return (x ∷ h.0) ∷ map strip_carriage_return (without_empty_end (next ∷ more)) ≡ [] = f in cc

-- whole lines that end others
whole_end : (a m : List ℕ) → AreWholeLines (a ++ m) → 1 ≤ length m → (front : List ℕ) × (m ≡ front ++ 10 ∷ [])
whole_end a m (Nothing is) l =
    absurd (let sizes : length (a ++ m) ≡ 0 = ap length is in omega (arith, length-append a m))
whole_end a m (Ended before is) l =
    let sizes : length (a ++ m) ≡ length (before ++ 10 ∷ []) = ap length is in
    let found = parted a m before (10 ∷ []) is (omega (arith, length-append a m, length-append before (10 ∷ []))) in
    (found.0, found.2)

module _ (text : List ℕ) where
  -- the script of one cut doesn't end before that of another
  not_before : (a b : Cut) (x : IsCut text a) (y : IsCut text b) → length x.script < length y.script → ⊥
  not_before a b x y l = against
    where
      between : (m : List ℕ) × (y.script ≡ x.script ++ m) × (x.line ++ x.trace ≡ m ++ (y.line ++ y.trace))
      between = parted x.script (x.line ++ x.trace) y.script (y.line ++ y.trace)
          (sym (append_assoc x.script x.line x.trace) ∙ (sym x.parts ∙ (y.parts ∙ append_assoc y.script y.line y.trace)))
          (omega arith)

      m : List ℕ
      m = between.0

      some : 1 ≤ length m
      some =
          let sizes : length y.script ≡ length (x.script ++ m) = ap length between.1 in
          omega (arith, length-append x.script m)

      end : (front : List ℕ) × (m ≡ front ++ 10 ∷ [])
      end = whole_end x.script m (subst AreWholeLines between.1 y.before) some

      lines_between : HasFirst (lines_of m)
      lines_between =
          let first = split_has_first end.0 in (
            strip_carriage_return first.0,
            map strip_carriage_return first.1 ++ [],
            ap lines_of end.1 ∙ (lines_after end.0 []
                ∙ ap (λ (ps : List (List ℕ)). map strip_carriage_return ps ++ []) first.2),
          )

      uncut_between : list_all (λ line. not (is_cut_line line)) (lines_of m) ≡ true
      uncut_between =
          all_right (λ line. not (is_cut_line line)) (lines_of x.script) (lines_of m)
          (subst (λ (ls : List (List ℕ)). list_all (λ line. not (is_cut_line line)) ls ≡ true)
          (ap lines_of between.1 ∙ lines_whole x.script m x.before) y.uncut)

      same : lines_of m ++ lines_of (y.line ++ y.trace) ≡ x.cutting ∷ lines_of x.trace
      same =
          sym (lines_whole m (y.line ++ y.trace) (Ended end.0 end.1))
          ∙ (sym (ap lines_of between.2)
          ∙ (line_first x.line x.trace x.whole
          ∙ ap (λ (ls : List (List ℕ)). ls ++ lines_of x.trace) x.one_line))

      first_cuts : lines_between.0 ≡ x.cutting
      first_cuts =
          let whole : lines_between.0 ∷ (lines_between.1 ++ lines_of (y.line ++ y.trace)) ≡ x.cutting ∷ lines_of x.trace =
          sym (ap (λ (ls : List (List ℕ)). ls ++ lines_of (y.line ++ y.trace)) lines_between.2) ∙ same in
          cc

      against : ⊥
      against =
          let uncut_first = and_parts (not (is_cut_line lines_between.0)) (list_all (λ line. not (is_cut_line line)) lines_between.1)
          (subst (λ (ls : List (List ℕ)). list_all (λ line. not (is_cut_line line)) ls ≡ true) lines_between.2 uncut_between) in
          not_both x.cutting x.cuts (subst (λ (line : List ℕ). not (is_cut_line line) ≡ true) first_cuts uncut_first.0)

  same_size : (a b : Cut) (x : IsCut text a) (y : IsCut text b) → length x.script ≡ length y.script
  same_size a b x y = elim (dec_le (length x.script) (length y.script)) [
    | yes le ↦ elim (dec_le (length y.script) (length x.script)) [
      | yes ge ↦ omega arith
      | no gt ↦ absurd (not_before a b x y (omega arith))
    ]
    | no gt ↦ absurd (not_before b a y x (omega arith))
  ]

  -- nor does its line
  module _ (a b : Cut) (x : IsCut text a) (y : IsCut text b) where
    behind : (m : List ℕ) × (y.script ≡ x.script ++ m) × (x.line ++ x.trace ≡ m ++ (y.line ++ y.trace))
    behind = parted x.script (x.line ++ x.trace) y.script (y.line ++ y.trace)
        (sym (append_assoc x.script x.line x.trace) ∙ (sym x.parts ∙ (y.parts ∙ append_assoc y.script y.line y.trace)))
        (let same = same_size a b x y in omega arith)

    none_between : behind.0 ≡ []
    none_between = empty behind.0 (let same = same_size a b x y in
        let sizes : length y.script ≡ length (x.script ++ behind.0) = ap length behind.1 in
        omega (arith, length-append x.script behind.0))
      where
        empty : (m : List ℕ) → length m ≡ 0 → m ≡ []
        empty [] e = refl
        empty (z ∷ m) e = absurd (omega arith)

    pub same_script : y.script ≡ x.script
    same_script = behind.1 ∙ (ap (λ (m : List ℕ). x.script ++ m) none_between ∙ append-nil x.script)

    same_rest : x.line ++ x.trace ≡ y.line ++ y.trace
    same_rest = behind.2 ∙ ap (λ (m : List ℕ). m ++ (y.line ++ y.trace)) none_between

    line_not_before : length x.line < length y.line → ⊥
    line_not_before l = against
      where
        rest : (m : List ℕ) × (y.line ≡ x.line ++ m) × (x.trace ≡ m ++ y.trace)
        rest = parted x.line x.trace y.line y.trace same_rest (omega arith)

        by_rest : (m : List ℕ) → y.line ≡ x.line ++ m → x.trace ≡ m ++ y.trace → IsWholeLine x.line x.trace → ⊥
        by_rest [] e f w = let sizes : length y.line ≡ length (x.line ++ []) = ap length e in omega (arith, length-append x.line [])
        by_rest (z ∷ m) e f (Last none) = let some : z ∷ (m ++ y.trace) ≡ [] = sym f ∙ none in cc
        by_rest (z ∷ m) e f (Fed before is) =
            let lines : x.cutting ∷ lines_of (z ∷ m) ≡ y.cutting ∷ [] =
            sym (ap (λ (ls : List (List ℕ)). ls ++ lines_of (z ∷ m)) x.one_line)
            ∙ (sym (line_first x.line (z ∷ m) (Fed before is)) ∙ (sym (ap lines_of e) ∙ y.one_line)) in
            some_lines z m (let none : lines_of (z ∷ m) ≡ [] = cc in none)

        against : ⊥
        against = by_rest rest.0 rest.1 rest.2 x.whole

  same_line : (a b : Cut) (x : IsCut text a) (y : IsCut text b) → length x.line ≡ length y.line
  same_line a b x y = elim (dec_le (length x.line) (length y.line)) [
    | yes le ↦ elim (dec_le (length y.line) (length x.line)) [
      | yes ge ↦ omega arith
      | no gt ↦ absurd (line_not_before a b x y (omega arith))
    ]
    | no gt ↦ absurd (line_not_before b a y x (omega arith))
  ]

  -- a text is cut at one place
  pub one_cut : (a b : Cut) → IsCut text a → IsCut text b → a ≡ b
  one_cut a b x y =
      let size = same_size a b x y in
      let line = same_line a b x y in
      let lines : length (lines_of y.script) ≡ length (lines_of x.script) = ap (λ (s : List ℕ). length (lines_of s)) (same_script a b x y) in
      let end : a.script_end ≡ b.script_end = x.script_end ∙ (size ∙ sym y.script_end) in
      let start : a.trace_start ≡ b.trace_start = (let first = x.trace_start in let other = y.trace_start in omega arith) in
      let first : a.first ≡ b.first = (let first = x.first in let other = y.first in omega arith) in
      λ i. record { script_end = end i; trace_start = start i; first = first i }

  -- a text that is cut has a line that cuts
  pub cut_or_not : (a : Cut) → IsCut text a → IsUncut text → ⊥
  cut_or_not a x uncut =
      let lines : lines_of text ≡ lines_of x.script ++ (x.cutting ∷ lines_of x.trace) =
      ap lines_of (x.parts ∙ append_assoc x.script x.line x.trace)
      ∙ (lines_whole x.script (x.line ++ x.trace) x.before
      ∙ ap (λ (ls : List (List ℕ)). lines_of x.script ++ ls) (line_first x.line x.trace x.whole
      ∙ ap (λ (ls : List (List ℕ)). ls ++ lines_of x.trace) x.one_line)) in
      let all = all_right (λ line. not (is_cut_line line)) (lines_of x.script) (x.cutting ∷ lines_of x.trace)
      (subst (λ (ls : List (List ℕ)). list_all (λ line. not (is_cut_line line)) ls ≡ true) lines uncut) in
      not_both x.cutting x.cuts (and_parts (not (is_cut_line x.cutting)) (list_all (λ line. not (is_cut_line line)) (lines_of x.trace)) all).0
