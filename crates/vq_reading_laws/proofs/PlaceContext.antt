-- What the context says of the place of a line.
use Rattle.std.proofs.Common.{◌≡◌, ℕ, ◌<◌, List, length, ◌≤◌, Bool, true, false, ◌||◌, refl, sym, arith, ◌+◌, cond, [], ◌∷◌, ◌++◌, length-append, ap, ◌∙◌, subst}
use Rattle.std.specs.Prelude.{nat_lt}
use Rattle.vq_ground.proofs.Tests.{at_least_of_test}
use Rattle.vq_model.specs.declared.statement.Section.TheVariants.{InBatch, Outside, InSchedule}
use Rattle.vq_model.specs.declared.statement.Line.{Line}
use Rattle.vq_model.specs.declared.statement.Form.{Form}
use Rattle.vq_model.specs.Context.{section, queues, open_batch, is_wait, is_signal, count, some, section_after, queue_of, is_submit, is_end}
use Rattle.vq_reading_laws.proofs.Standing.{Where, is_outside, is_inside, in_schedule, declared_by, where_after, Stands}
use Rattle.std.proofs.lemmas.Bool.{ltb-true, lt-ltb}
use Rattle.std.specs.List.{filter_map}
use Rattle.std.proofs.lemmas.List.Elements.{filter_map-append}
use Rattle.vq_model.specs.declared.statement.Section.{Section}
use Rattle.vq_model.specs.declared.statement.Statement.{Statement}
use Rattle.vq_model.specs.declared.statement.Statement.TheVariants.{HasVersion, BeginBatch, DeclareBuffer, DeclareSemaphore, DeclareQueue, AddWait, AddCommand, AddSignal, AddFence, EndBatch, BeginSchedule, TakeTurns, TakeHostStep}
use Rattle.vq_model.specs.Reading.{with_line}
use Rattle.vq_reading_laws.proofs.LinePushes.{a_line, count_push, section_push, some_push, open_push}
use Rattle.std.proofs.lemmas.List.{length-map}
use Rattle.vq_model.specs.declared.script.Queue.{Queue}
use Rattle.vq_model.specs.Context.{part_of}
use Rattle.vq_reading_laws.proofs.LineFacts.{Said}

-- What the context says of a place

-- What lines say that lead into a batch.
pub record LeadInside (before : List Line) (q w g k : ℕ) : Type 0 where
  pub part : section before ≡ InBatch
  pub exists : q < length (queues before)
  pub waits : count is_wait (open_batch before) ≡ w
  pub signals : count is_signal (open_batch before) ≡ g
  pub parts : (j : ℕ) → some (λ s. nat_lt j (part_of s)) (open_batch before) ≡ nat_lt j k

-- lines lead to a place
abbrev pub Lead : List Line → Where → Type 0
Lead before is_outside = section before ≡ Outside
Lead before (is_inside q w g k) = LeadInside before q w g k
Lead before in_schedule = section before ≡ InSchedule

-- parts up to k, and one more
parts_join : (j k p : ℕ) → k ≤ p → (nat_lt j k || (nat_lt j p || false)) ≡ nat_lt j p
parts_join j k p l = by_test (nat_lt j k) refl
  where
    neither : (b : Bool) → (b || false) ≡ b
    neither true = refl
    neither false = refl

    by_test : (b : Bool) → nat_lt j k ≡ b → (b || (nat_lt j p || false)) ≡ nat_lt j p
    by_test true e = let m = ltb-true j k e in sym (lt-ltb j p (omega arith))
    by_test false e = neither (nat_lt j p)

none_below : (j : ℕ) → false ≡ nat_lt j 0
none_below j = by_test (nat_lt j 0) refl
  where
    by_test : (b : Bool) → nat_lt j 0 ≡ b → false ≡ b
    by_test true e = let m = ltb-true j 0 e in absurd (omega arith)
    by_test false e = refl

module _ (before : List Line) (n : ℕ) (s : Statement) where
  -- what a line more of an open batch leads to
  inside_more : (q w g k v h p : ℕ) → LeadInside before q w g k →
      section_after InBatch s ≡ InBatch →
      (is_submit s || is_end s) ≡ false → v ≡ w + cond (is_wait s) 1 0 →
      h ≡ g + cond (is_signal s) 1 0 → part_of s ≡ p → k ≤ p →
      LeadInside (with_line before n s) q v h p
  inside_more q w g k v h p t stays opens waits signals part l =
      let opened : open_batch (with_line before n s) ≡ open_batch before ++ a_line n s ∷ [] =
      open_push before n s
      ∙ ap (λ (b : Bool). cond b [] (open_batch before ++ a_line n s ∷ [])) opens in
      let more = ap length (filter_map-append queue_of before (a_line n s ∷ []))
      ∙ length-append (queues before) (filter_map queue_of (a_line n s ∷ [])) in
      let there = t.exists in
      let cw = count_push is_wait (open_batch before) n s in
      let cs = count_push is_signal (open_batch before) n s in
      let tw = t.waits in
      let ts = t.signals in
      record {
        part = section_push before n s ∙ (ap (λ (x : Section). section_after x s) t.part ∙ stays);
        exists = omega arith;
        waits = ap (count is_wait) opened ∙ (cw ∙ omega arith);
        signals = ap (count is_signal) opened ∙ (cs ∙ omega arith);
        parts =
            λ j. ap (some (λ z. nat_lt j (part_of z))) opened
            ∙ (some_push (open_batch before) n s (λ z. nat_lt j (part_of z))
            ∙ ((λ i. t.parts j i || (nat_lt j (part i) || false)) ∙ parts_join j k p l));
      }

  -- what a line that begins a batch leads to
  inside_first : (q : ℕ) → s ≡ BeginBatch q → q < length (queues before) →
      LeadInside (with_line before n s) q 0 0 0
  inside_first q e l =
      let opened : open_batch (with_line before n s) ≡ [] =
      open_push before n s
      ∙ ap (λ (z : Statement). cond (is_submit z || is_end z) []
      (open_batch before ++ a_line n z ∷ [])) e in
      let more = ap length (filter_map-append queue_of before (a_line n s ∷ []))
      ∙ length-append (queues before) (filter_map queue_of (a_line n s ∷ [])) in
      record {
        part = section_push before n s ∙ ap (section_after (section before)) e;
        exists = omega arith;
        waits = ap (count is_wait) opened;
        signals = ap (count is_signal) opened;
        parts = λ j. ap (some (λ z. nat_lt j (part_of z))) opened ∙ none_below j;
      }

-- A line leads on where a statement stands.
pub lead_more : (before : List Line) (n : ℕ) (was : Where) (s : Statement) → Lead before was →
    Stands (declared_by before) was s → Lead (with_line before n s) (where_after was s)
lead_more before n is_outside (HasVersion version) t h =
    section_push before n (HasVersion version) ∙ t
lead_more before n is_outside (DeclareBuffer name size) t h =
    section_push before n (DeclareBuffer name size) ∙ t
lead_more before n is_outside (DeclareSemaphore name kind) t h =
    section_push before n (DeclareSemaphore name kind) ∙ t
lead_more before n is_outside (DeclareQueue name mode) t h =
    section_push before n (DeclareQueue name mode) ∙ t
lead_more before n is_outside (BeginBatch q) t h =
    let same = length-map (queues before) (λ (x : Queue). x.mode) in
    inside_first before n (BeginBatch q) q refl (omega arith)
lead_more before n (is_inside q w g k) (AddWait pair from) t h =
    inside_more before n (AddWait pair from) q w g k (w + 1) g 1 t refl refl refl
    (omega arith) refl h.parts
lead_more before n (is_inside q w g k) (AddCommand c) t h =
    inside_more before n (AddCommand c) q w g k w g 2 t refl refl (omega arith) (omega arith)
    refl h.1
lead_more before n (is_inside q w g k) (AddSignal pair) t h =
    inside_more before n (AddSignal pair) q w g k w (g + 1) 3 t refl refl (omega arith) refl
    refl h.2
lead_more before n (is_inside q w g k) (AddFence f) t h =
    inside_more before n (AddFence f) q w g k w g 4 t refl refl (omega arith) (omega arith)
    refl h.1
lead_more before n (is_inside q w g k) EndBatch t h = section_push before n EndBatch
lead_more before n is_outside (TakeHostStep step) t h =
    section_push before n (TakeHostStep step) ∙ t
lead_more before n is_outside BeginSchedule t h = section_push before n BeginSchedule
lead_more before n in_schedule (TakeTurns actor count) t h =
    section_push before n (TakeTurns actor count) ∙ t
lead_more before n was s t h = absurd h

-- What a line without a fault says stands where the lines lead.
pub said_stands : (form : Form) (before : List Line) (was : Where) (s : Statement) →
    Lead before was → Said form before (section before) s → Stands (declared_by before) was s
said_stands form before is_outside s t h =
    outside s (subst (λ (x : Section). Said form before x s) t h)
  where
    outside : (s : Statement) → Said form before Outside s → Stands (declared_by before) is_outside s
    outside (HasVersion version) h = h.1
    outside (DeclareBuffer name size) h = tt
    outside (DeclareSemaphore name kind) h = tt
    outside (DeclareQueue name mode) h = tt
    outside (BeginBatch q) h =
        let same = length-map (queues before) (λ (x : Queue). x.mode) in
        let l = h.0 in
        omega arith
    outside (TakeHostStep step) h = h.0
    outside BeginSchedule h = tt
    outside s h = absurd h
said_stands form before in_schedule s t h =
    scheduled s (subst (λ (x : Section). Said form before x s) t h)
  where
    scheduled : (s : Statement) → Said form before InSchedule s →
        Stands (declared_by before) in_schedule s
    scheduled (TakeTurns actor count) h = h.0
    scheduled s h = absurd h
said_stands form before (is_inside q w g k) s t h =
    inside s (subst (λ (x : Section). Said form before x s) t.part h)
  where
    kept : (j : ℕ) → some (λ s. nat_lt j (part_of s)) (open_batch before) ≡ false → k ≤ j
    kept j h = at_least_of_test j k (sym (t.parts j) ∙ h)

    inside : (s : Statement) → Said form before InBatch s →
        Stands (declared_by before) (is_inside q w g k) s
    inside (AddWait pair from) h =
        let few = h.few in
        let same = t.waits in
        record {
          counted = h.counted;
          whole = h.whole;
          mark = h.mark;
          few = omega arith;
          parts = kept 1 h.parts;
        }
    inside (AddCommand c) h = (h.fits, kept 2 h.parts)
    inside (AddSignal pair) h =
        let few = h.few in let same = t.signals in (h.mark, omega arith, kept 3 h.parts)
    inside (AddFence f) h = (h.0, kept 4 h.1)
    inside EndBatch h = tt
    inside s h = absurd h
