-- No wake is lost.
use Rattle.std.proofs.Common.{◌≡◌, ◌≢◌, ◌≤◌, ◌<◌, ◌-◌, ◌%◌, ◌^◌, ℕ, Option, Some, None, refl, subst, arith, inl, inr}
use Rattle.std.specs.Prelude.{slice_index}
use Rattle.vq_live_lock.specs.declared.rule.Known.{Known}
use Rattle.vq_live_lock.specs.Gauges.{Covers, IsAbove, IsNoted, IsRungOrKept, note_at}
use Rattle.vq_live_lock.specs.Wakes.{LosesNoWake}

-- what is kept is above the gauge
not_kept : (kept : Option ℕ) (value n : ℕ) → IsNoted kept value → IsAbove kept n → value ≤ n → ⊥
not_kept None value n noted above shown = noted
not_kept (Some least) value n noted above shown = omega arith

rung_since : (v pen : Known) (value n : ℕ) → v.least ≡ Some value → IsAbove pen.least n → value ≤ n → IsRungOrKept v pen →
    v.rings < pen.rings
rung_since v pen value n is above shown (inl h) = h
rung_since v pen value n is above shown (inr (h, covers)) =
    absurd (not_kept pen.least value n (subst (λ (o : Option ℕ). Covers pen.least o) is covers) above shown)

sees : (word total rings : ℕ) → word ≡ total % 2 ^ 64 → rings < total → (total - rings) % 2 ^ 32 ≢ 0 →
    word % 2 ^ 32 ≢ rings % 2 ^ 32
sees word total rings is more many = λ same. many (omega arith)

pub no_wake_lost : LosesNoWake
no_wake_lost initial value rings g b t (i, n, at) shown =
    let since : rings < t.pen.rings = rung_since (note_at n value rings) t.pen value (slice_index g.words 0) refl
    (t.gauge.above t.place t.pen t.is_pen t.writes) shown
    (t.gauge.rung i t.place (note_at n value rings) t.pen at t.is_pen refl t.writes) in
    let known : t.heard.rings ≤ t.bell.total = t.bell.below t.seat t.heard t.is_heard in
    let knows = t.knows in
    let more : rings < t.bell.total = omega arith in
    (t.bell.total, t.bell.word, more, sees (slice_index b.words 0) t.bell.total rings t.bell.word more)
