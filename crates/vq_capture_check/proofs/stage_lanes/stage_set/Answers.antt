use Rattle.std.proofs.Common.{◌≡◌, Bool, false, ℕ, [], ◌∷◌, refl}
use Rattle.std.proofs.Common.{zero, suc, get_or}
use Rattle.vq_capture_clocks.specs.LaneSets.{has_lane}
use Rattle.vq_capture_clocks.proofs.Cited.{in_nothing}
use Rattle.vq_capture_check.proofs.stage_lanes.stage_set.Goals as goal

none : (p : ℕ) → has_lane 0 p ≡ get_or {A = Bool} [] p false
none zero = in_nothing zero
none (suc p) = in_nothing (suc p)

pub returns : goal.returns
returns c =
    let m = c.args.mask.now in
    let s0 : (p : ℕ) → has_lane c.put-set.result p ≡ get_or (m.begin ∷ []) p false = c.put-set.ensures ([]) refl none in
    let s1 : (p : ℕ) → has_lane c.put-set-2.result p ≡ get_or (m.begin ∷ m.indirect ∷ []) p false = c.put-set-2.ensures (m.begin ∷ []) refl s0 in
    let s2 : (p : ℕ) → has_lane c.put-set-3.result p ≡ get_or (m.begin ∷ m.indirect ∷ m.input ∷ []) p false = c.put-set-3.ensures (m.begin ∷ m.indirect ∷ []) refl s1 in
    let s3 : (p : ℕ) → has_lane c.put-set-4.result p ≡ get_or (m.begin ∷ m.indirect ∷ m.input ∷ m.vertex ∷ []) p false = c.put-set-4.ensures (m.begin ∷ m.indirect ∷ m.input ∷ []) refl s2 in
    let s4 : (p : ℕ) → has_lane c.put-set-5.result p ≡ get_or (m.begin ∷ m.indirect ∷ m.input ∷ m.vertex ∷ m.early ∷ []) p false = c.put-set-5.ensures (m.begin ∷ m.indirect ∷ m.input ∷ m.vertex ∷ []) refl s3 in
    let s5 : (p : ℕ) → has_lane c.put-set-6.result p ≡ get_or (m.begin ∷ m.indirect ∷ m.input ∷ m.vertex ∷ m.early ∷ m.fragment ∷ []) p false = c.put-set-6.ensures (m.begin ∷ m.indirect ∷ m.input ∷ m.vertex ∷ m.early ∷ []) refl s4 in
    let s6 : (p : ℕ) → has_lane c.put-set-7.result p ≡ get_or (m.begin ∷ m.indirect ∷ m.input ∷ m.vertex ∷ m.early ∷ m.fragment ∷ m.late ∷ []) p false = c.put-set-7.ensures (m.begin ∷ m.indirect ∷ m.input ∷ m.vertex ∷ m.early ∷ m.fragment ∷ []) refl s5 in
    let s7 : (p : ℕ) → has_lane c.put-set-8.result p ≡ get_or (m.begin ∷ m.indirect ∷ m.input ∷ m.vertex ∷ m.early ∷ m.fragment ∷ m.late ∷ m.color ∷ []) p false = c.put-set-8.ensures (m.begin ∷ m.indirect ∷ m.input ∷ m.vertex ∷ m.early ∷ m.fragment ∷ m.late ∷ []) refl s6 in
    let s8 : (p : ℕ) → has_lane c.put-set-9.result p ≡ get_or (m.begin ∷ m.indirect ∷ m.input ∷ m.vertex ∷ m.early ∷ m.fragment ∷ m.late ∷ m.color ∷ m.compute ∷ []) p false = c.put-set-9.ensures (m.begin ∷ m.indirect ∷ m.input ∷ m.vertex ∷ m.early ∷ m.fragment ∷ m.late ∷ m.color ∷ []) refl s7 in
    let s9 : (p : ℕ) → has_lane c.put-set-10.result p ≡ get_or (m.begin ∷ m.indirect ∷ m.input ∷ m.vertex ∷ m.early ∷ m.fragment ∷ m.late ∷ m.color ∷ m.compute ∷ m.copy ∷ []) p false = c.put-set-10.ensures (m.begin ∷ m.indirect ∷ m.input ∷ m.vertex ∷ m.early ∷ m.fragment ∷ m.late ∷ m.color ∷ m.compute ∷ []) refl s8 in
    let s10 : (p : ℕ) → has_lane c.put-set-11.result p ≡ get_or (m.begin ∷ m.indirect ∷ m.input ∷ m.vertex ∷ m.early ∷ m.fragment ∷ m.late ∷ m.color ∷ m.compute ∷ m.copy ∷ m.host ∷ []) p false = c.put-set-11.ensures (m.begin ∷ m.indirect ∷ m.input ∷ m.vertex ∷ m.early ∷ m.fragment ∷ m.late ∷ m.color ∷ m.compute ∷ m.copy ∷ []) refl s9 in
    let s11 : (p : ℕ) → has_lane c.put-set-12.result p ≡ get_or (m.begin ∷ m.indirect ∷ m.input ∷ m.vertex ∷ m.early ∷ m.fragment ∷ m.late ∷ m.color ∷ m.compute ∷ m.copy ∷ m.host ∷ m.other ∷ []) p false = c.put-set-12.ensures (m.begin ∷ m.indirect ∷ m.input ∷ m.vertex ∷ m.early ∷ m.fragment ∷ m.late ∷ m.color ∷ m.compute ∷ m.copy ∷ m.host ∷ []) refl s10 in
    let s12 : (p : ℕ) → has_lane c.put-set-13.result p ≡ get_or (m.begin ∷ m.indirect ∷ m.input ∷ m.vertex ∷ m.early ∷ m.fragment ∷ m.late ∷ m.color ∷ m.compute ∷ m.copy ∷ m.host ∷ m.other ∷ m.end ∷ []) p false = c.put-set-13.ensures (m.begin ∷ m.indirect ∷ m.input ∷ m.vertex ∷ m.early ∷ m.fragment ∷ m.late ∷ m.color ∷ m.compute ∷ m.copy ∷ m.host ∷ m.other ∷ []) refl s11 in
    c.put.ensures (m.begin ∷ m.indirect ∷ m.input ∷ m.vertex ∷ m.early ∷ m.fragment ∷ m.late ∷ m.color ∷ m.compute ∷ m.copy ∷ m.host ∷ m.other ∷ m.end ∷ []) refl s12
