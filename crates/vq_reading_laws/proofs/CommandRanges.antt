-- Commands whose ranges were tested fit.
use Rattle.std.proofs.Common.{ℕ, List, map, ◌≡◌, zero, suc, ◌<◌, [], ◌∷◌, length, refl, arith, ◌+◌, Bool, true, false, not, ◌&&◌}
use Rattle.vq_model.specs.declared.statement.Line.{Line}
use Rattle.vq_model.specs.Context.{buffers}
use Rattle.std.specs.List.{slice_get, slice_index_or}
use Rattle.std.specs.Option.{option_map_or}
use Rattle.vq_model.specs.declared.script.Buffer.{Buffer}
use Rattle.std.specs.Prelude.{nat_lt}
use Rattle.std.proofs.lemmas.Bool.{ltb-true, ltb-false, false≢true, and_parts}
use Rattle.vq_model.specs.LineFaults.{is_within, is_command_in_range}
use Rattle.vq_model.specs.FittingCommands.{IsWithin, Fits}
use Rattle.vq_model.specs.Ranges.{is_aligned, overlaps_itself}
use Rattle.vq_model.specs.declared.script.Command.{Command}
use Rattle.vq_model.specs.declared.script.Command.TheVariants.{Fill, Update, Copy}
use Rattle.vq_model.specs.declared.script.FillSize.TheVariants.{Whole, Count}
use Rattle.vq_model.specs.Context.{size_in}
use Rattle.vq_model.specs.Limits.{update_bytes}

-- the sizes of the buffers that lines declare
abbrev pub sizes_before : List Line → List ℕ
sizes_before before = map (λ b. b.size) (buffers before)

-- Commands in range

-- the size of a buffer that has one
size_is : (bs : List Buffer) (b : ℕ) → 0 < option_map_or (λ x. x.size) (slice_get bs b) 0 →
    (b < length (map (λ x. x.size) bs)) × (slice_index_or (map (λ x. x.size) bs) b 0
    ≡ option_map_or (λ x. x.size) (slice_get bs b) 0)
size_is [] b l = absurd (omega arith)
size_is (x ∷ bs) zero l = (omega arith, refl)
size_is (x ∷ bs) (suc b) l = let r = size_is bs b l in let q = r.0 in (omega arith, r.1)

-- bytes within a buffer
within : (before : List Line) (b o n : ℕ) → is_within (buffers before) b o n ≡ true →
    IsWithin (sizes_before before) (record { buffer = b; start = o; size = n })
within before b o n h =
    let parts =
    and_parts (nat_lt o (size_in (buffers before) b) && nat_lt 0 n)
    (not (nat_lt (size_in (buffers before) b) (o + n))) h in
    let front = and_parts (nat_lt o (size_in (buffers before) b)) (nat_lt 0 n) parts.0 in
    let some = ltb-true o (size_in (buffers before) b) front.0 in
    let ends =
    ltb-false (size_in (buffers before) b) (o + n)
    (not_true (nat_lt (size_in (buffers before) b) (o + n)) parts.1) in
    let size = size_is (buffers before) b (omega arith) in
    let same = size.1 in
    record { exists = size.0; ends = omega arith }
  where
    not_true : (b : Bool) → not b ≡ true → b ≡ false
    not_true true h = absurd (false≢true h)
    not_true false h = refl

-- A command in range that doesn't overlap itself fits its buffers.
pub fits_in_range : (before : List Line) (c : Command) → is_command_in_range (buffers before) c ≡ true →
    overlaps_itself (sizes_before before) c ≡ false → Fits (sizes_before before) c
fits_in_range before (Fill b o Whole w) h k =
    let parts = and_parts (nat_lt o (size_in (buffers before) b)) (is_aligned o) h in
    let some = ltb-true o (size_in (buffers before) b) parts.0 in
    let size = size_is (buffers before) b (omega arith) in
    let same = size.1 in
    record {
      written = record { exists = size.0; ends = omega arith };
      read = tt;
      aligned =
          parts.1;
      apart = k;
    }
fits_in_range before (Fill b o (Count n) w) h k =
    let parts = and_parts (is_within (buffers before) b o n && is_aligned o) (is_aligned n) h in
    let front = and_parts (is_within (buffers before) b o n) (is_aligned o) parts.0 in
    record {
      written = within before b o n front.0;
      read = tt;
      aligned =
          both (is_aligned o) (is_aligned n) front.1 parts.1;
      apart = k;
    }
  where
    both : (a b : Bool) → a ≡ true → b ≡ true → (a && b) ≡ true
    both true b h k = k
    both false b h k = h
fits_in_range before (Update b o bytes) h k =
    let parts =
    and_parts (is_within (buffers before) b o (length bytes) && is_aligned o && is_aligned (length bytes))
    (not (nat_lt update_bytes (length bytes))) h in
    let front =
    and_parts (is_within (buffers before) b o (length bytes) && is_aligned o) (is_aligned (length bytes))
    parts.0 in
    let first = and_parts (is_within (buffers before) b o (length bytes)) (is_aligned o) front.0 in
    record {
      written = within before b o (length bytes) first.0;
      read = tt;
      aligned =
          both (is_aligned o) (is_aligned (length bytes)) first.1 front.1;
      apart = k;
    }
  where
    both : (a b : Bool) → a ≡ true → b ≡ true → (a && b) ≡ true
    both true b h k = k
    both false b h k = h
fits_in_range before (Copy s from t to n) h k =
    let parts = and_parts (is_within (buffers before) s from n) (is_within (buffers before) t to n) h in
    record {
      written = within before t to n parts.1;
      read =
          within before s from n parts.0;
      aligned = refl;
      apart = k;
    }
