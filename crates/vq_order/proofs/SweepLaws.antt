-- What is kept of a cell, with one more read or write.
use Rattle.std.proofs.Common.{◌≡◌, ℕ, zero, suc, ◌<◌, ◌+◌, Bool, true, false, List, [], ◌∷◌, ◌++◌, length, take, get_or, Some, refl, sym, ap, ◌∙◌, ◌⊎◌, inl, inr, subst, arith, add-one}
use Rattle.std.proofs.Math.Seq.{take-suc}
use Rattle.std.proofs.lemmas.Bool.{false≢true}
use Rattle.vq_model.specs.Edges.{stage_of}
use Rattle.vq_model.specs.HappensBefore.{HappensBeforeCommand}
use Rattle.vq_model.specs.LoweredPlans.{IsPlan}
use Rattle.vq_model.specs.Plan.{Plan}
use Rattle.vq_order.specs.declared.races.accesses.Visitor.{Visitor}
use Rattle.vq_order.specs.declared.races.cells.Cell.{Cell}
use Rattle.vq_order.specs.Swept.{AtOrBefore, IsOfJob, Visit, Touched, ByWriter, ByReader, KeepsCell, HasCommands, IsAmong, IsAfterSome, IsAfterAll, IsKnown, KeepsLater}
use Rattle.vq_clocks.proofs.Cited.{later_command}
use Rattle.vq_order.proofs.WindowLaws.{before_then}
use Rattle.vq_order_laws.proofs.Cited.{before_end}

-- a command is at or before itself
itself_earlier : {p : Plan} (d j : Visitor) → d ≡ j → AtOrBefore p j d
itself_earlier {p} d j e = inl (sym (ap (λ (v : Visitor). v.job) e), let s = ap (λ (v : Visitor). v.command) e in omega arith)

pub itself_known : (p : Plan) (a : Visitor) → IsKnown p a a
itself_known p a = record { comes = λ b e. inl e }

module _ (p : Plan) (plan : IsPlan p) where
  pub then_before : (h i j : Visitor) → IsOfJob p i → AtOrBefore p h i → AtOrBefore p i j → AtOrBefore p h j
  then_before h i j own (inl e) (inl f) = let a = e.1 in let b = f.1 in inl (e.0 ∙ f.0, omega arith)
  then_before h i j own (inl e) (inr b) = inr (subst (λ z. HappensBeforeCommand p z j.job j.command) (sym e.0) b)
  then_before h i j own (inr a) (inl f) = inr (subst (λ z. HappensBeforeCommand p h.job z j.command) f.0 (later_command p plan h.job i.job i.command j.command own f.1 a))
  then_before h i j own (inr a) (inr b) = inr (before_then p h.job i.job j.job (stage_of p j.job j.command) (before_end p h.job i.job (stage_of p i.job i.command) a) b)

  abbrev here : ℕ → Visitor → Bool → Visit
  here k j w = record { cell = k; by = j; writes = w }

  writer_then : (cell : Cell) → HasCommands p cell → (j d : Visitor) → IsAfterSome p cell.writer d → ByWriter p cell.writer j → AtOrBefore p j d
  writer_then cell own j d f b = then_before j b.last d (own.writer b.last b.is_last) b.comes (f b.last b.is_last)

  reader_then : (cell : Cell) → HasCommands p cell → (j d : Visitor) → IsAfterAll p cell.readers.items d → ByReader p cell.readers.items j → AtOrBefore p j d
  reader_then cell own j d f b = then_before j b.later d (own.readers b.later b.is_kept) b.comes (f b.later b.is_kept)

  pub read_keeps : (cell : Cell) (new : Cell) → HasCommands p cell → (d : Visitor) → new.writer ≡ cell.writer → IsAfterSome p cell.writer d → KeepsLater p cell.readers.items d new.readers.items → (log : List Visit) (k : ℕ) → KeepsCell p log k cell → KeepsCell p (here k d false ∷ log) k new
  read_keeps cell new own d same after later log k c =
      record {
        wrote = λ j t. elim t [
          | inl e ↦ absurd (false≢true e.2)
          | inr o ↦ subst (λ w. ByWriter p w j) (sym same) (c.wrote j o)
        ];
        read = λ j t. elim t [
          | inl e ↦ inr (record { later = d; is_kept = later.one_more; comes = itself_earlier d j e.1 })
          | inr o ↦ elim (c.read j o) [
            | inl b ↦ inl (subst (λ w. ByWriter p w j) (sym same) b)
            | inr b ↦ elim (later.others b.later b.is_kept) [
              | inl q ↦ inr (record { later = d; is_kept = later.one_more; comes = then_before j b.later d (own.readers b.later b.is_kept) b.comes q })
              | inr q ↦ inr (record { later = b.later; is_kept = q; comes = b.comes })
            ]
          ]
        ];
        in_order = λ i j w s t. elim s [
          | inl e ↦ absurd (false≢true e.2)
          | inr o ↦ elim t [
            | inl e ↦ inl (subst (AtOrBefore p i) e.1 (writer_then cell own i d after (c.wrote i o)))
            | inr u ↦ c.in_order i j w o u
          ]
        ];
      }

  -- all that touched a cell comes before one that follows its last writer and all readers since
  touched_before : (cell : Cell) → HasCommands p cell → (d : Visitor) → IsAfterSome p cell.writer d → IsAfterAll p cell.readers.items d → (log : List Visit) (k : ℕ) → KeepsCell p log k cell → (j : Visitor) (w : Bool) → Touched log k j w → AtOrBefore p j d
  touched_before cell own d f g log k c j true t = writer_then cell own j d f (c.wrote j t)
  touched_before cell own d f g log k c j false t = elim (c.read j t) [
    | inl b ↦ writer_then cell own j d f b
    | inr b ↦ reader_then cell own j d g b
  ]

  pub write_keeps : (cell : Cell) (new : Cell) → HasCommands p cell → (d : Visitor) → new.writer ≡ Some d → IsAfterSome p cell.writer d → IsAfterAll p cell.readers.items d → (log : List Visit) (k : ℕ) → KeepsCell p log k cell → KeepsCell p (here k d true ∷ log) k new
  write_keeps cell new own d same f g log k c =
      record {
        wrote = λ j t. elim t [
          | inl e ↦ record { last = d; is_last = same; comes = itself_earlier d j e.1 }
          | inr o ↦ record { last = d; is_last = same; comes = touched_before cell own d f g log k c j true o }
        ];
        read = λ j t. elim t [
          | inl e ↦ absurd (false≢true (sym e.2))
          | inr o ↦ inl (record { last = d; is_last = same; comes = touched_before cell own d f g log k c j false o })
        ];
        in_order = λ i j w s t. elim s [
          | inl e ↦ elim t [
            | inl q ↦ inl (itself_earlier j i (sym q.1 ∙ e.1))
            | inr u ↦ inr (subst (AtOrBefore p j) e.1 (touched_before cell own d f g log k c j w u))
          ]
          | inr o ↦ elim t [
            | inl q ↦ inl (subst (AtOrBefore p i) q.1 (touched_before cell own d f g log k c i true o))
            | inr u ↦ c.in_order i j w o u
          ]
        ];
      }

-- Commands in lists

abbrev pub no_visitor : Visitor
no_visitor = record { job = 0; command = 0 }

pub among_left : (xs ys : List Visitor) (v : Visitor) → IsAmong xs v → IsAmong (xs ++ ys) v
among_left [] ys v h = absurd h
among_left (x ∷ xs) ys v (inl e) = inl e
among_left (x ∷ xs) ys v (inr h) = inr (among_left xs ys v h)

among_last : (xs : List Visitor) (v : Visitor) → IsAmong (xs ++ v ∷ []) v
among_last [] v = inl refl
among_last (x ∷ xs) v = inr (among_last xs v)

among_cases : (xs : List Visitor) (y v : Visitor) → IsAmong (xs ++ y ∷ []) v → IsAmong xs v ⊎ (y ≡ v)
among_cases [] y v (inl e) = inr e
among_cases [] y v (inr h) = absurd h
among_cases (x ∷ xs) y v (inl e) = inl (inl e)
among_cases (x ∷ xs) y v (inr h) = elim (among_cases xs y v h) [ inl m ↦ inl (inr m) | inr e ↦ inr e ]

pub among_at : (xs : List Visitor) (i : ℕ) (none : Visitor) → i < length xs → IsAmong xs (get_or xs i none)
among_at [] i none l = absurd (omega arith)
among_at (x ∷ xs) zero none l = inl refl
among_at (x ∷ xs) (suc i) none l = inr (among_at xs i none (omega arith))

-- one more of a list
pub taken_among : (xs : List Visitor) (i : ℕ) (none v : Visitor) → i < length xs → IsAmong (take (i + 1) xs) v → IsAmong (take i xs) v ⊎ (get_or xs i none ≡ v)
taken_among xs i none v l h = among_cases (take i xs) (get_or xs i none) v (subst (λ (ys : List Visitor). IsAmong ys v) (rw add-one (take-suc xs i none l)) h)

-- Readers that are kept, one after another

module _ (p : Plan) (by : Visitor) (xs : List Visitor) (i : ℕ) (none : Visitor) (l : i < length xs) where
  abbrev pub Others : List Visitor → ℕ → Type 0
  Others kept n = (y : Visitor) → IsAmong (take n xs) y → AtOrBefore p y by ⊎ IsAmong kept y

  abbrev pub Only : List Visitor → Type 0
  Only kept = (y : Visitor) → IsAmong kept y → IsAmong xs y

  pub keep_one : (kept : List Visitor) → Others kept i × Only kept → Others (kept ++ get_or xs i none ∷ []) (i + 1) × Only (kept ++ get_or xs i none ∷ [])
  keep_one kept k = (
    (λ y h. elim (taken_among xs i none y l h) [
      | inl m ↦ elim (k.0 y m) [ inl b ↦ inl b | inr n ↦ inr (among_left kept (get_or xs i none ∷ []) y n) ]
      | inr e ↦ inr (subst (IsAmong (kept ++ get_or xs i none ∷ [])) e (among_last kept (get_or xs i none)))
    ]),
    (λ y h. elim (among_cases kept (get_or xs i none) y h) [
      | inl m ↦ k.1 y m
      | inr e ↦ subst (IsAmong xs) e (among_at xs i none l)
    ]),
  )

  pub skip_one : (kept : List Visitor) → AtOrBefore p (get_or xs i none) by → Others kept i × Only kept → Others kept (i + 1) × Only kept
  skip_one kept b k = (
    (λ y h. elim (taken_among xs i none y l h) [ inl m ↦ k.0 y m | inr e ↦ inl (subst (λ z. AtOrBefore p z by) e b) ]),
    k.1,
  )

pub kept_at_last : (p : Plan) (by : Visitor) (xs kept : List Visitor) → ((y : Visitor) → IsAmong xs y → AtOrBefore p y by ⊎ IsAmong kept y) → ((y : Visitor) → IsAmong kept y → IsAmong xs y) → KeepsLater p xs by (kept ++ by ∷ [])
kept_at_last p by xs kept f g =
    record {
      one_more = among_last kept by;
      others = λ y h. elim (f y h) [ inl b ↦ inl b | inr n ↦ inr (among_left kept (by ∷ []) y n) ];
      only = λ y h. elim (among_cases kept by y h) [ inl m ↦ inl (g y m) | inr e ↦ inr (sym e) ];
    }

pub read_kept : (p : Plan) (cell new : Cell) (d : Visitor) → new.writer ≡ cell.writer → HasCommands p cell → IsOfJob p d → KeepsLater p cell.readers.items d new.readers.items → HasCommands p new
read_kept p cell new d same h l later =
    record {
      writer = λ j e. h.writer j (sym same ∙ e);
      readers = λ j m. elim (later.only j m) [ inl o ↦ h.readers j o | inr e ↦ subst (IsOfJob p) (sym e) l ];
    }

pub write_kept : (p : Plan) (new : Cell) (d : Visitor) → new.writer ≡ Some d → new.readers.items ≡ [] → IsOfJob p d → HasCommands p new
write_kept p new d same none l =
    record {
      writer = λ j e. let q : Some d ≡ Some j = sym same ∙ e in let r : d ≡ j = cc in subst (IsOfJob p) r l;
      readers = λ j m. absurd (subst (λ (xs : List Visitor). IsAmong xs j) none m);
    }
