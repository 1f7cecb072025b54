-- The values of signal operations: a timeline's as written, else the number of signals up to this one.
use Rattle.std.proofs.Common.{◌≡◌, ℕ, zero, suc, List, [], ◌∷◌, ◌++◌, take, Some, option_map, refl, sym, ap, ◌∙◌, append-nil, Option, ◌+◌, true, count_by, false}
use Rattle.std.specs.List.{slice_get}
use Rattle.std.proofs.lemmas.List.{append_assoc}
use Rattle.vq_model.specs.declared.script.Script.{Script}
use Rattle.vq_model.specs.Signals.{Signaling, signal_value, values_from, all_signals, value_at, signals_semaphore, is_timeline_at}
use Rattle.std.specs.Option.{option_map_or}
use Rattle.std.proofs.lemmas.Bool.{cond-true, cond-false}

value_from : (s : Script) (earlier xs : List Signaling) (e : ℕ) → slice_get (values_from s earlier xs) e ≡ option_map (signal_value s (earlier ++ take e xs)) (slice_get xs e)
value_from s earlier [] e = refl
value_from s earlier (x ∷ xs) zero = ap (λ (ys : List Signaling). Some (signal_value s ys x)) (sym (append-nil earlier))
value_from s earlier (x ∷ xs) (suc e) =
    value_from s (earlier ++ x ∷ []) xs e ∙ ap (λ (ys : List Signaling). option_map (signal_value s ys) (slice_get xs e)) (append_assoc earlier (x ∷ []) (take e xs))

pub value_is : (s : Script) (e : ℕ) (x : Signaling) → slice_get (all_signals s) e ≡ Some x → value_at s e ≡ signal_value s (take e (all_signals s)) x
value_is s e x h =
    ap (λ (o : Option ℕ). option_map_or (λ v. v) o 0) (value_from s [] (all_signals s) e ∙ ap (option_map (signal_value s (take e (all_signals s)))) h)

pub timeline_value : (s : Script) (e : ℕ) (x : Signaling) → slice_get (all_signals s) e ≡ Some x → is_timeline_at s x.semaphore ≡ true → value_at s e ≡ x.value
timeline_value s e x h t = value_is s e x h ∙ cond-true (is_timeline_at s x.semaphore) x.value (count_by (signals_semaphore x.semaphore) (take e (all_signals s)) + 1) t

pub counted_value : (s : Script) (e : ℕ) (x : Signaling) → slice_get (all_signals s) e ≡ Some x → is_timeline_at s x.semaphore ≡ false → value_at s e ≡ count_by (signals_semaphore x.semaphore) (take e (all_signals s)) + 1
counted_value s e x h t = value_is s e x h ∙ cond-false (is_timeline_at s x.semaphore) x.value (count_by (signals_semaphore x.semaphore) (take e (all_signals s)) + 1) t
