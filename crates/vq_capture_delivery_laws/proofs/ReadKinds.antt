-- A scope has a read of some kinds where it has reads of one of them, alone.
use Rattle.std.proofs.Common.{◌≡◌, ◌⊎◌, Bool, true, false, ℕ, List, [], ◌∷◌, refl, sym, ◌∙◌, ap, subst, inl, inr}
use Rattle.std.specs.Prelude.{◌&&◌, ◌||◌, not, if◌then◌else◌}
use Rattle.std.proofs.lemmas.Bool.{or_cases, or_left, or_right, and_from}
use Rattle.vq_ground.proofs.Bools.{never}
use Rattle.vq_capture.specs.declared.stage.AccessMask.{AccessMask}
use Rattle.vq_capture.specs.MaskWords.{no_access}
use Rattle.vq_capture.specs.Points.{IsMember}
use Rattle.vq_capture_laws.proofs.Cited.{and_left, and_right}
use Rattle.vq_capture_memory.specs.AccessKinds.{names_read, share_read, has_all_kinds, has_read}
use Rattle.vq_capture_delivery.specs.MemoryLanes.{every_read, is_of_kind}
use Rattle.vq_capture_delivery_laws.proofs.KindLanes.{At}

abbrev Flag : Type 0
Flag = AccessMask → Bool

abbrev later_flags : List Flag
later_flags =
    (λ m. m.index_read) ∷ (λ m. m.attribute_read) ∷ (λ m. m.uniform_read) ∷ (λ m. m.sampled_read)
    ∷ (λ m. m.storage_read) ∷ (λ m. m.attachment_read) ∷ []

abbrev flags : List Flag
flags = (λ m. m.memory_read) ∷ later_flags

-- whether a test passed before, or does of one of some flags
abbrev passes : (Flag → Bool) → Bool → List Flag → Bool
passes g before [] = before
passes g before (f ∷ fs) = passes g (before || g f) fs

passes_before : (g : Flag → Bool) (t : Bool) (fs : List Flag) → t ≡ true → passes g t fs ≡ true
passes_before g t [] e = e
passes_before g t (f ∷ fs) e = passes_before g (t || g f) fs (or_left t (g f) e)

passes_at : (g : Flag → Bool) (t : Bool) (fs : List Flag) (f : Flag) → IsMember f fs → g f ≡ true → passes g t fs ≡ true
passes_at g t [] f m h = absurd m
passes_at g t (r ∷ fs) f (inl e) h =
    passes_before g (t || g r) fs (or_right t (g r) (subst (λ (u : Flag). g u ≡ true) e h))
passes_at g t (r ∷ fs) f (inr m) h = passes_at g (t || g r) fs f m h

passes_from : (g : Flag → Bool) (t : Bool) (fs : List Flag) → passes g t fs ≡ true → (t ≡ true) ⊎ ((f : Flag) × IsMember f fs × (g f ≡ true))
passes_from g t [] e = inl e
passes_from g t (f ∷ fs) e = by (passes_from g (t || g f) fs e)
  where
    by : ((t || g f) ≡ true) ⊎ ((r : Flag) × IsMember r fs × (g r ≡ true)) →
        (t ≡ true) ⊎ ((r : Flag) × IsMember r (f ∷ fs) × (g r ≡ true))
    by (inl h) = elim (or_cases t (g f) h) [ inl i ↦ inl i | inr i ↦ inr (f, inl refl, i) ]
    by (inr (r, m, h)) = inr (r, inr m, h)

-- tests of the flags in turn
turn_at : (g : Flag → Bool) (f : Flag) → IsMember f flags → g f ≡ true → passes g (g (λ m. m.memory_read)) later_flags ≡ true
turn_at g f (inl e) h =
    passes_before g (g (λ m. m.memory_read)) later_flags (subst (λ (u : Flag). g u ≡ true) e h)
turn_at g f (inr m) h = passes_at g (g (λ m. m.memory_read)) later_flags f m h

turn_from : (g : Flag → Bool) → passes g (g (λ m. m.memory_read)) later_flags ≡ true → (f : Flag) × IsMember f flags × (g f ≡ true)
turn_from g h = elim (passes_from g (g (λ m. m.memory_read)) later_flags h) [
  | inl e ↦ ((λ m. m.memory_read), inl refl, e)
  | inr r ↦ (r.0, inr r.1, r.2)
]

share_is : (a b : AccessMask) → share_read a b ≡ passes (λ f. f a && f b) (a.memory_read && b.memory_read) later_flags
share_is a b = refl

names_is : (a : AccessMask) → names_read a ≡ passes (λ f. f a) a.memory_read later_flags
names_is a = refl

share_at : (a b : AccessMask) (f : Flag) → IsMember f flags → f a ≡ true → f b ≡ true → share_read a b ≡ true
share_at a b f m p q = share_is a b ∙ turn_at (λ f. f a && f b) f m (and_from (f a) (f b) p q)

share_from : (a b : AccessMask) → share_read a b ≡ true → (f : Flag) × IsMember f flags × (f a ≡ true) × (f b ≡ true)
share_from a b h =
    let r = turn_from (λ f. f a && f b) (sym (share_is a b) ∙ h) in
    (r.0, r.1, and_left (r.0 a) (r.0 b) r.2, and_right (r.0 a) (r.0 b) r.2)

names_at : (a : AccessMask) (f : Flag) → IsMember f flags → f a ≡ true → names_read a ≡ true
names_at a f m h = names_is a ∙ turn_at (λ f. f a) f m h

names_from : (a : AccessMask) → names_read a ≡ true → (f : Flag) × IsMember f flags × (f a ≡ true)
names_from a h = turn_from (λ f. f a) (sym (names_is a) ∙ h)

-- Single kinds

-- a kind whose only read is that of a flag
pub record IsOnly (k : AccessMask) (f : Flag) : Type 0 where
  pub flag : IsMember f flags
  pub has : f k ≡ true
  pub only : (g : Flag) → IsMember g flags → g k ≡ true → g ≡ f

nothing_else : (g : Flag) → IsMember g flags → g no_access ≡ true → ⊥
nothing_else g (inl e) h = never (subst (λ (u : Flag). u no_access ≡ true) e h)
nothing_else g (inr (inl e)) h = never (subst (λ (u : Flag). u no_access ≡ true) e h)
nothing_else g (inr (inr (inl e))) h = never (subst (λ (u : Flag). u no_access ≡ true) e h)
nothing_else g (inr (inr (inr (inl e)))) h = never (subst (λ (u : Flag). u no_access ≡ true) e h)
nothing_else g (inr (inr (inr (inr (inl e))))) h = never (subst (λ (u : Flag). u no_access ≡ true) e h)
nothing_else g (inr (inr (inr (inr (inr (inl e)))))) h = never (subst (λ (u : Flag). u no_access ≡ true) e h)
nothing_else g (inr (inr (inr (inr (inr (inr (inl e))))))) h = never (subst (λ (u : Flag). u no_access ≡ true) e h)
nothing_else g (inr (inr (inr (inr (inr (inr (inr m))))))) h = absurd m

-- one flag of a kind with no other
only_in : (k : AccessMask) (f : Flag) (fs : List Flag) → ((g : Flag) → IsMember g fs → (g ≡ f) ⊎ (g k ≡ false)) → (g : Flag) → IsMember g fs → g k ≡ true → g ≡ f
only_in k f fs each g m h = elim (each g m) [ inl e ↦ e | inr e ↦ never (sym e ∙ h) ]

module _ (k : AccessMask) (f : Flag) where
  -- of each flag that it is this one, or isn't had
  abbrev Each : List Flag → Type 0
  Each [] = Unit {0}
  Each (g ∷ gs) = ((g ≡ f) ⊎ (g k ≡ false)) × Each gs

  each_of : (gs : List Flag) → Each gs → (g : Flag) → IsMember g gs → (g ≡ f) ⊎ (g k ≡ false)
  each_of [] e g m = absurd m
  each_of (h ∷ gs) e g (inl q) = subst (λ (u : Flag). (u ≡ f) ⊎ (u k ≡ false)) (sym q) e.0
  each_of (h ∷ gs) e g (inr m) = each_of gs e.1 g m

  is_only : IsMember f flags → f k ≡ true → Each flags → IsOnly k f
  is_only m h e = record { flag = m; has = h; only = only_in k f flags (each_of flags e) }

-- a kind of reads is that of those that name none, or of one flag
abbrev pub KindIs : AccessMask → Type 0
KindIs k = (k ≡ no_access) ⊎ ((f : Flag) × IsOnly k f)

pub kind_is : (i : ℕ) (k : AccessMask) → At i k every_read → KindIs k
kind_is i k (inl (e, q)) = inl q
kind_is i k (inr (j, e, inl (d, q))) = subst (λ (m : AccessMask). KindIs m) (sym q) (inr (
  (λ m. m.memory_read),
  is_only (record no_access { memory_read = true }) (λ m. m.memory_read) (inl refl) refl (inl refl, (inr refl, (inr refl, (inr refl, (inr refl, (inr refl, (inr refl, tt))))))),
))
kind_is i k (inr (j, e, inr (j1, e1, inl (d, q)))) = subst (λ (m : AccessMask). KindIs m) (sym q) (inr (
  (λ m. m.index_read),
  is_only (record no_access { index_read = true }) (λ m. m.index_read) (inr (inl refl)) refl (inr refl, (inl refl, (inr refl, (inr refl, (inr refl, (inr refl, (inr refl, tt))))))),
))
kind_is i k (inr (j, e, inr (j1, e1, inr (j2, e2, inl (d, q))))) = subst (λ (m : AccessMask). KindIs m) (sym q) (inr (
  (λ m. m.attribute_read),
  is_only (record no_access { attribute_read = true }) (λ m. m.attribute_read) (inr (inr (inl refl))) refl (inr refl, (inr refl, (inl refl, (inr refl, (inr refl, (inr refl, (inr refl, tt))))))),
))
kind_is i k (inr (j, e, inr (j1, e1, inr (j2, e2, inr (j3, e3, inl (d, q)))))) = subst (λ (m : AccessMask). KindIs m) (sym q) (inr (
  (λ m. m.uniform_read),
  is_only (record no_access { uniform_read = true }) (λ m. m.uniform_read) (inr (inr (inr (inl refl)))) refl (inr refl, (inr refl, (inr refl, (inl refl, (inr refl, (inr refl, (inr refl, tt))))))),
))
kind_is i k (inr (j, e, inr (j1, e1, inr (j2, e2, inr (j3, e3, inr (j4, e4, inl (d, q))))))) = subst (λ (m : AccessMask). KindIs m) (sym q) (inr (
  (λ m. m.sampled_read),
  is_only (record no_access { sampled_read = true }) (λ m. m.sampled_read) (inr (inr (inr (inr (inl refl))))) refl (inr refl, (inr refl, (inr refl, (inr refl, (inl refl, (inr refl, (inr refl, tt))))))),
))
kind_is i k (inr (j, e, inr (j1, e1, inr (j2, e2, inr (j3, e3, inr (j4, e4, inr (j5, e5, inl (d, q)))))))) = subst (λ (m : AccessMask). KindIs m) (sym q) (inr (
  (λ m. m.storage_read),
  is_only (record no_access { storage_read = true }) (λ m. m.storage_read) (inr (inr (inr (inr (inr (inl refl)))))) refl (inr refl, (inr refl, (inr refl, (inr refl, (inr refl, (inl refl, (inr refl, tt))))))),
))
kind_is i k (inr (j, e, inr (j1, e1, inr (j2, e2, inr (j3, e3, inr (j4, e4, inr (j5, e5, inr (j6, e6, inl (d, q))))))))) = subst (λ (m : AccessMask). KindIs m) (sym q) (inr (
  (λ m. m.attachment_read),
  is_only (record no_access { attachment_read = true }) (λ m. m.attachment_read) (inr (inr (inr (inr (inr (inr (inl refl))))))) refl (inr refl, (inr refl, (inr refl, (inr refl, (inr refl, (inr refl, (inl refl, tt))))))),
))
kind_is i k (inr (j, e, inr (j1, e1, inr (j2, e2, inr (j3, e3, inr (j4, e4, inr (j5, e5, inr (j6, e6, inr (j7, e7, m))))))))) = absurd m

-- the kind of a flag
abbrev HasKind : Flag → Type 0
HasKind f = (i : ℕ) × (k : AccessMask) × At i k every_read × (f k ≡ true)

kind_of_flag : (f : Flag) → IsMember f flags → HasKind f
kind_of_flag f (inl e) = subst (λ (u : Flag). HasKind u) (sym e) (1, record no_access { memory_read = true }, inr (0, refl, inl (refl, refl)), refl)
kind_of_flag f (inr (inl e)) = subst (λ (u : Flag). HasKind u) (sym e) (2, record no_access { index_read = true }, inr (1, refl, inr (0, refl, inl (refl, refl))), refl)
kind_of_flag f (inr (inr (inl e))) = subst (λ (u : Flag). HasKind u) (sym e) (3, record no_access { attribute_read = true }, inr (2, refl, inr (1, refl, inr (0, refl, inl (refl, refl)))), refl)
kind_of_flag f (inr (inr (inr (inl e)))) = subst (λ (u : Flag). HasKind u) (sym e) (4, record no_access { uniform_read = true }, inr (3, refl, inr (2, refl, inr (1, refl, inr (0, refl, inl (refl, refl))))), refl)
kind_of_flag f (inr (inr (inr (inr (inl e))))) = subst (λ (u : Flag). HasKind u) (sym e) (5, record no_access { sampled_read = true }, inr (4, refl, inr (3, refl, inr (2, refl, inr (1, refl, inr (0, refl, inl (refl, refl)))))), refl)
kind_of_flag f (inr (inr (inr (inr (inr (inl e)))))) = subst (λ (u : Flag). HasKind u) (sym e) (6, record no_access { storage_read = true }, inr (5, refl, inr (4, refl, inr (3, refl, inr (2, refl, inr (1, refl, inr (0, refl, inl (refl, refl))))))), refl)
kind_of_flag f (inr (inr (inr (inr (inr (inr (inl e))))))) = subst (λ (u : Flag). HasKind u) (sym e) (7, record no_access { attachment_read = true }, inr (6, refl, inr (5, refl, inr (4, refl, inr (3, refl, inr (2, refl, inr (1, refl, inr (0, refl, inl (refl, refl)))))))), refl)
kind_of_flag f (inr (inr (inr (inr (inr (inr (inr m))))))) = absurd m

-- Scopes

module _ (scope own : AccessMask) where
  abbrev most : AccessMask → Bool
  most k = has_all_kinds scope || scope.memory_read || share_read scope k

  by_most : (k : AccessMask) → most k ≡ true → has_read scope k ≡ true
  by_most k h = or_left (most k) (names_read scope && not (names_read k)) h

  by_all : (k : AccessMask) → (has_all_kinds scope || scope.memory_read) ≡ true → has_read scope k ≡ true
  by_all k h = by_most k (or_left (has_all_kinds scope || scope.memory_read) (share_read scope k) h)

  by_share : (k : AccessMask) → share_read scope k ≡ true → has_read scope k ≡ true
  by_share k h = by_most k (or_right (has_all_kinds scope || scope.memory_read) (share_read scope k) h)

  by_names : (k : AccessMask) → names_read scope ≡ true → names_read k ≡ false → has_read scope k ≡ true
  by_names k h e =
      or_right (most k) (names_read scope && not (names_read k)) (and_from (names_read scope) (not (names_read k)) h (ap (λ (b : Bool). not b) e))

  -- why a scope has a read of some kinds
  abbrev HasRead : AccessMask → Type 0
  HasRead k =
      ((has_all_kinds scope || scope.memory_read) ≡ true) ⊎ ((share_read scope k ≡ true) ⊎ ((names_read scope ≡ true) × (names_read k ≡ false)))

  of_not_name : (b : Bool) → not b ≡ true → b ≡ false
  of_not_name true e = never e
  of_not_name false e = refl

  has_read_is : (k : AccessMask) → has_read scope k ≡ true → HasRead k
  has_read_is k h = elim (or_cases (most k) (names_read scope && not (names_read k)) h) [
    | inl i ↦ elim (or_cases (has_all_kinds scope || scope.memory_read) (share_read scope k) i) [ inl j ↦ inl j | inr j ↦ inr (inl j) ]
    | inr i ↦ inr (inr (and_left (names_read scope) (not (names_read k)) i, of_not_name (names_read k) (and_right (names_read scope) (not (names_read k)) i)))
  ]

  names_of_share : (k : AccessMask) → share_read scope k ≡ true → names_read scope ≡ true
  names_of_share k h = let r = share_from scope k h in names_at scope r.0 r.1 r.2

  -- a kind of some reads that a scope has
  abbrev pub SomeKind : Type 0
  SomeKind = (i : ℕ) × (k : AccessMask) × At i k every_read × (is_of_kind own k ≡ true) × (has_read scope k ≡ true)

  -- a kind of a read that names some, by a flag
  flag_kind : names_read own ≡ true → (f : Flag) → IsMember f flags → f own ≡ true →
      ((k : AccessMask) → f k ≡ true → has_read scope k ≡ true) → SomeKind
  flag_kind e f m h g =
      let r = kind_of_flag f m in (
        r.0,
        r.1,
        r.2,
        subst (λ (b : Bool). (if b then share_read own r.1 else not (names_read r.1)) ≡ true) (sym e) (share_at own r.1 f m h r.3),
        g r.1 r.3,
      )

  pub some_kind : has_read scope own ≡ true → SomeKind
  some_kind h = by (names_read own) refl (has_read_is own h)
    where
      none_named : names_read own ≡ false → has_read scope no_access ≡ true → SomeKind
      none_named e g =
          (0, no_access, inl (refl, refl), subst (λ (b : Bool). (if b then share_read own no_access else true) ≡ true) (sym e) refl, g)

      by : (t : Bool) → names_read own ≡ t → HasRead own → SomeKind
      by false e (inl i) = none_named e (by_all no_access i)
      by false e (inr (inl i)) = none_named e (by_names no_access (names_of_share own i) refl)
      by false e (inr (inr i)) = none_named e (by_names no_access i.0 refl)
      by true e (inl i) = let r = names_from own e in flag_kind e r.0 r.1 r.2 (λ k q. by_all k i)
      by true e (inr (inl i)) =
          let r = share_from scope own i in
          flag_kind e r.0 r.1 r.3 (λ k q. by_share k (share_at scope k r.0 r.1 r.2 q))
      by true e (inr (inr i)) = never (sym i.1 ∙ e)

  pub of_kind : (i : ℕ) (k : AccessMask) → At i k every_read → is_of_kind own k ≡ true → has_read scope k ≡ true → has_read scope own ≡ true
  of_kind i k a o h = by (kind_is i k a) (names_read own) refl o (has_read_is k h)
    where
      by : KindIs k → (t : Bool) → names_read own ≡ t → (if t then share_read own k else not (names_read k)) ≡ true → HasRead k → has_read scope own ≡ true
      by c t e q (inl g) = by_all own g
      by (inl c) true e q g =
          let r = share_from own no_access (subst (λ (m : AccessMask). share_read own m ≡ true) c q) in
          absurd (nothing_else r.0 r.1 r.3)
      by (inl c) false e q (inr (inl g)) = by_names own (names_of_share k g) e
      by (inl c) false e q (inr (inr g)) = by_names own g.0 e
      by (inr (f, c)) true e q (inr (inl g)) =
          let r = share_from own k q in
          let s = share_from scope k g in
          by_share own
          (share_at scope own f c.flag
          (subst (λ (u : Flag). u scope ≡ true) (c.only s.0 s.1 s.3) s.2)
          (subst (λ (u : Flag). u own ≡ true) (c.only r.0 r.1 r.3) r.2))
      by (inr (f, c)) true e q (inr (inr g)) = never (sym g.1 ∙ names_at k f c.flag c.has)
      by (inr (f, c)) false e q (inr g) =
          never (sym (ap (λ (b : Bool). not b) (names_at k f c.flag c.has)) ∙ q)
