-- Going through cells, one after another.
use Rattle.std.proofs.Common.{◌≡◌, ◌≢◌, ℕ, zero, suc, Bool, true, false, List, [], ◌∷◌, set, Some, None, refl, sym, ◌∙◌, ◌⊎◌, inl, inr, subst, arith}
use Rattle.std.specs.List.{slice_get}
use Rattle.std.proofs.lemmas.List.{length-set}
use Rattle.vq_model.specs.Plan.{Plan}
use Rattle.vq_order.specs.declared.races.accesses.Visitor.{Visitor}
use Rattle.vq_order.specs.declared.races.cells.Cell.{Cell}
use Rattle.vq_order.specs.Swept.{Visit, Touched, KeepsCell, HasCommands, Touches, KeepsAll, HaveCommands, Extended, Sweeps}

-- a cell after one of them has changed
pub changed_cases : (cells : List Cell) (k : ℕ) (new : Cell) (i : ℕ) (cell : Cell) → slice_get (set cells k new) i ≡ Some cell → ((i ≡ k) × (cell ≡ new)) ⊎ ((k ≢ i) × (slice_get cells i ≡ Some cell))
changed_cases [] k new i cell e = absurd (let q : None ≡ Some cell = e in cc)
changed_cases (c ∷ cells) zero new zero cell e = let q : cell ≡ new = cc in inl (refl, q)
changed_cases (c ∷ cells) zero new (suc i) cell e = inr ((λ q. let r : zero ≡ suc i = q in omega arith), e)
changed_cases (c ∷ cells) (suc k) new zero cell e = inr ((λ q. let r : suc k ≡ zero = q in omega arith), e)
changed_cases (c ∷ cells) (suc k) new (suc i) cell e = elim (changed_cases cells k new i cell e) [
  | inl q ↦ (let a = q.0 in inl ((omega arith), q.1))
  | inr q ↦ inr ((λ r. q.0 (let s = r in omega arith)), q.1)
]

module _ (p : Plan) where
  -- a touch of another cell changes nothing
  elsewhere : (log : List Visit) (t : Visit) (k : ℕ) (cell : Cell) → t.cell ≢ k → KeepsCell p log k cell → KeepsCell p (t ∷ log) k cell
  elsewhere log t k cell n c =
      record {
        wrote = λ j h. c.wrote j (old j true h);
        read = λ j h. c.read j (old j false h);
        in_order = λ i j w h m. c.in_order i j w (old i true h) (old j w m);
      }
    where
      old : (j : Visitor) (w : Bool) → Touched (t ∷ log) k j w → Touched log k j w
      old j w (inl e) = absurd (n e.0)
      old j w (inr m) = m

  -- one cell is touched
  pub sweeps_one : (cells : List Cell) (k : ℕ) (j : Visitor) (w : Bool) (old new : Cell) → slice_get cells k ≡ Some old → HaveCommands p cells → Touches p j w old new → Sweeps p cells (set cells k new) (λ i m v. (i ≡ k) × (m ≡ j) × (v ≡ w))
  sweeps_one cells k j w old new e h t =
      record {
        count = length-set cells k new;
        kept = λ i cell g. elim (changed_cases cells k new i cell g) [
          | inl q ↦ subst (HasCommands p) (sym q.1) t.kept
          | inr q ↦ h i cell q.1
        ];
        extends = λ log keeps. record {
          longer = record { cell = k; by = j; writes = w } ∷ log;
          keeps = λ i cell g. elim (changed_cases cells k new i cell g) [
            | inl q ↦ subst (λ (z : ℕ × Cell). KeepsCell p (record { cell = k; by = j; writes = w } ∷ log) z.0 z.1) (λ n. (sym q.0 n, sym q.1 n)) (t.keeps log k (keeps k old e))
            | inr q ↦ elsewhere log (record { cell = k; by = j; writes = w }) i cell q.0 (keeps i cell q.1)
          ];
          before = λ i m v h. inr h;
          own = λ i m v h. inl (sym h.0, sym h.1, sym h.2);
        };
      }

  pub sweeps_none : (cells : List Cell) (Own : ℕ → Visitor → Bool → Type 0) → HaveCommands p cells → ((k : ℕ) (j : Visitor) (w : Bool) → ¬ Own k j w) → Sweeps p cells cells Own
  sweeps_none cells Own h n =
      record { count = refl; kept = h; extends = λ log keeps. record { longer = log; keeps = keeps; before = λ k j w t. t; own = λ k j w t. absurd (n k j w t) } }

  -- one after another; of the touches of both these are some
  pub sweeps_then : (a b c : List Cell) (First Second Own : ℕ → Visitor → Bool → Type 0) → Sweeps p a b First → Sweeps p b c Second → ((k : ℕ) (j : Visitor) (w : Bool) → Own k j w → First k j w ⊎ Second k j w) → Sweeps p a c Own
  sweeps_then a b c First Second Own f s parts =
      record {
        count = s.count ∙ f.count;
        kept = s.kept;
        extends = λ log keeps. both log (f.extends log keeps);
      }
    where
      both : (log : List Visit) → Extended p b log First → Extended p c log Own
      both log x =
          let y = s.extends x.longer x.keeps in
          record {
            longer = y.longer;
            keeps = y.keeps;
            before = λ k j w t. y.before k j w (x.before k j w t);
            own = λ k j w t. elim (parts k j w t) [ inl m ↦ y.before k j w (x.own k j w m) | inr m ↦ y.own k j w m ];
          }

  pub sweeps_own : (a b : List Cell) (More Own : ℕ → Visitor → Bool → Type 0) → Sweeps p a b More → ((k : ℕ) (j : Visitor) (w : Bool) → Own k j w → More k j w) → Sweeps p a b Own
  sweeps_own a b More Own s f =
      record {
        count = s.count;
        kept = s.kept;
        extends = λ log keeps. (let x = s.extends log keeps in record { longer = x.longer; keeps = x.keeps; before = x.before; own = λ k j w t. x.own k j w (f k j w t) });
      }

  pub untouched_keeps : (cells : List Cell) → KeepsAll p [] cells
  untouched_keeps cells k cell e = record { wrote = λ j t. absurd t; read = λ j t. absurd t; in_order = λ i j w t u. absurd t }
