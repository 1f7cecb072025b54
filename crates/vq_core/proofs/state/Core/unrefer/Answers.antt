use Rattle.std.proofs.Common.{
  ◌≡◌,
  ◌<◌,
  ◌+◌,
  ◌-◌,
  [],
  ◌∙◌,
  ◌==◌,
  ℕ,
  Some,
  length,
  get_or,
  set,
  refl,
  sym,
  ap,
  subst,
  arith,
}
use Rattle.std.specs.Prelude.{count_by}
use Rattle.std.specs.List.{slice_get}
use Rattle.vq_model.specs.declared.script.ActorName.{ActorName}
use Rattle.vq_model.specs.declared.plan.Event.TheVariants.{Unref}
use Rattle.vq_model.specs.Lanes.{lane_number}
use Rattle.vq_model.specs.Plan.{Plan}
use Rattle.vq_model.specs.Naming.{same_actor}
use Rattle.vq_point_laws.specs.Points.{
  Reference,
  CanUnrefer,
  after_event,
  next_job,
  actor_of_lane,
  without_first,
  is_reference,
  needs_resolved,
}
use Rattle.vq_history_laws.specs.Histories.{points_after}
use Rattle.vq_core_laws.proofs.Cited.{carried_below}
use Rattle.vq_core.specs.CoreState.{Course, world}
use Rattle.vq_tables.specs.Lanes.{AreLanes, no_lane}
use Rattle.vq_tables.specs.Notes.{AreNotes, IsNote, place_in, no_note}
use Rattle.vq_tables.specs.Tables.{ArePoints, IsSlot}
use Rattle.vq_tables.proofs.Cited.{lane_within, lane_referred, actor_less, others_less, point_less, points_less}
use Rattle.vq_tables.proofs.Cited.{own}
use Rattle.vq_tables.proofs.Cited.{note_within, notes_unreferred, some_held, next_actor}
use Rattle.vq_core.proofs.EventParts.{points_few, some_of_option}
use Rattle.vq_core.proofs.Pushes.{inside_facts, inside_keeps, more_room, core_next}
use Rattle.vq_tables.proofs.Cited.{slot_referred}
use Rattle.vq_tables.proofs.Cited.{timelines_by}
use Rattle.vq_core.proofs.state.Core.unrefer.Goals as goal

pub unwrap-job-requires : goal.unwrap-job-requires
unwrap-job-requires c =
    let a = c.self.inside in
    let k = c.self.invariant in
    let p = a.ordered in
    let w = points_after p a.history.items in
    let t = k.tells in
    let x = Unref c.args.actor c.args.point c.args.op in
    let g = subst (λ (s : Course). CanUnrefer (world s) c.args.actor c.args.point c.args.op) (sym c.self.view_is)
    c.requires in
    let keeps = inside_keeps a k in
    let held_for = keeps.references c.args.actor c.args.point c.args.op g in
    let read = c.next_job.ensures.job ∙ sym (ap (λ (s : Course). next_job s.plan (world s) c.args.actor)
    c.self.view_is) ∙ held_for.1 in
    some_of_option c.next_job.result held_for.0 read

pub overflow_sub-note : goal.overflow_sub-note
overflow_sub-note c =
    let a = c.self.inside in
    let k = c.self.invariant in
    let p = a.ordered in
    let w = points_after p a.history.items in
    let t = k.tells in
    let x = Unref c.args.actor c.args.point c.args.op in
    let g = subst (λ (s : Course). CanUnrefer (world s) c.args.actor c.args.point c.args.op) (sym c.self.view_is)
    c.requires in
    let f = inside_facts a k in
    let keeps = inside_keeps a k in
    let actor = c.args.actor in
    let q = c.args.point in
    let e = c.args.op in
    let j = c.unwrap-job.result in
    let next = sym (c.next_job.ensures.job ∙ sym (ap (λ (s : Course). next_job s.plan (world s) actor)
    c.self.view_is)) ∙ c.unwrap-job.ensures in
    let holds = g in
    let held_for = keeps.references actor q e holds in
    let own_job : held_for.0 ≡ j = (let z = sym held_for.1 ∙ next in cc) in
    let some : 0 < needs_resolved p j e = subst (λ (i : ℕ). 0 < needs_resolved p i e) own_job held_for.2 in
    let place = c.place_of_need-place.ensures ∙ sym (ap (λ (s : Course). place_in s.plan j e) c.self.view_is) in
    let note_is = c.at-note.ensures ∙ ap (λ (n : ℕ). get_or (get_or a.notes j []) n no_note) place in
    let note = subst (IsNote p w.machine.progress.finished w.held w.referred w.looked j e) (sym note_is)
    (t.notes.each j e some) in
    let some_left = some_held p w.machine.progress.finished w.held w.referred w.looked a.notes t.notes actor j e next
    some c.at-note.result note q g in
    omega arith

pub put-requires-clause-place : goal.put-requires-clause-place
put-requires-clause-place c =
    let a = c.self.inside in
    let k = c.self.invariant in
    let p = a.ordered in
    let w = points_after p a.history.items in
    let t = k.tells in
    let x = Unref c.args.actor c.args.point c.args.op in
    let g = subst (λ (s : Course). CanUnrefer (world s) c.args.actor c.args.point c.args.op) (sym c.self.view_is)
    c.requires in
    let f = inside_facts a k in
    let keeps = inside_keeps a k in
    let actor = c.args.actor in
    let q = c.args.point in
    let e = c.args.op in
    let j = c.unwrap-job.result in
    let next = sym (c.next_job.ensures.job ∙ sym (ap (λ (s : Course). next_job s.plan (world s) actor)
    c.self.view_is)) ∙ c.unwrap-job.ensures in
    let holds = g in
    let held_for = keeps.references actor q e holds in
    let own_job : held_for.0 ≡ j = (let z = sym held_for.1 ∙ next in cc) in
    let some : 0 < needs_resolved p j e = subst (λ (i : ℕ). 0 < needs_resolved p i e) own_job held_for.2 in
    let place = c.place_of_need-place.ensures ∙ sym (ap (λ (s : Course). place_in s.plan j e) c.self.view_is) in
    let note_is = c.at-note.ensures ∙ ap (λ (n : ℕ). get_or (get_or a.notes j []) n no_note) place in
    let note = subst (IsNote p w.machine.progress.finished w.held w.referred w.looked j e) (sym note_is)
    (t.notes.each j e some) in
    subst (λ (n : ℕ). n < length (get_or a.notes j [])) (sym place) (note_within p w.machine.progress.finished w.held
    w.referred w.looked a.notes t.notes actor j e next some c.at-note.result note)

pub unrefer-requires-clause-exists : goal.unrefer-requires-clause-exists
unrefer-requires-clause-exists c =
    let a = c.self.inside in
    let k = c.self.invariant in
    let p = a.ordered in
    let w = points_after p a.history.items in
    let t = k.tells in
    let x = Unref c.args.actor c.args.point c.args.op in
    let g = subst (λ (s : Course). CanUnrefer (world s) c.args.actor c.args.point c.args.op) (sym c.self.view_is)
    c.requires in
    let f = inside_facts a k in
    let keeps = inside_keeps a k in
    let actor = c.args.actor in
    let q = c.args.point in
    let e = c.args.op in
    let j = c.unwrap-job.result in
    let next = sym (c.next_job.ensures.job ∙ sym (ap (λ (s : Course). next_job s.plan (world s) actor)
    c.self.view_is)) ∙ c.unwrap-job.ensures in
    let job = c.job.result.now in
    let at = subst (λ (r : Plan). slice_get r.jobs j ≡ Some job) (c.plan.ensures.value
    ∙ ap (λ (s : Course). s.plan) (sym c.self.view_is)) c.job.ensures in
    let lane = own p w.released w.machine.progress.finished w.held a.lanes t.lanes j job at in
    let who = next_actor p w.machine.progress.finished actor j job at next in
    subst (λ (n : ℕ). n < length a.lanes) (sym c.number-lane.ensures)
    (lane_within p f w.released w.machine.progress.finished w.held a.lanes t.lanes j job at)

pub unrefer-requires-clause-some : goal.unrefer-requires-clause-some
unrefer-requires-clause-some c =
    let a = c.self.inside in
    let k = c.self.invariant in
    let p = a.ordered in
    let w = points_after p a.history.items in
    let t = k.tells in
    let x = Unref c.args.actor c.args.point c.args.op in
    let g = subst (λ (s : Course). CanUnrefer (world s) c.args.actor c.args.point c.args.op) (sym c.self.view_is)
    c.requires in
    let f = inside_facts a k in
    let keeps = inside_keeps a k in
    let actor = c.args.actor in
    let q = c.args.point in
    let e = c.args.op in
    let j = c.unwrap-job.result in
    let next = sym (c.next_job.ensures.job ∙ sym (ap (λ (s : Course). next_job s.plan (world s) actor)
    c.self.view_is)) ∙ c.unwrap-job.ensures in
    let job = c.job.result.now in
    let at = subst (λ (r : Plan). slice_get r.jobs j ≡ Some job) (c.plan.ensures.value
    ∙ ap (λ (s : Course). s.plan) (sym c.self.view_is)) c.job.ensures in
    let lane = own p w.released w.machine.progress.finished w.held a.lanes t.lanes j job at in
    let who = next_actor p w.machine.progress.finished actor j job at next in
    let less = actor_less actor q e w.held g in
    let mine = subst (λ (b : ActorName). count_by (λ (r : Reference). same_actor b r.actor) (without_first
    (is_reference actor q e) w.held) + 1 ≡ count_by (λ (r : Reference). same_actor b r.actor) w.held) who less in
    let refs = lane.references in
    let some : 0 < (get_or a.lanes (lane_number job.lane) no_lane).held = omega arith in
    subst (λ (n : ℕ). 0 < (get_or a.lanes n no_lane).held) (sym c.number-lane.ensures) some

pub overflow_sub-slot : goal.overflow_sub-slot
overflow_sub-slot c =
    let a = c.self.inside in
    let k = c.self.invariant in
    let p = a.ordered in
    let w = points_after p a.history.items in
    let t = k.tells in
    let x = Unref c.args.actor c.args.point c.args.op in
    let g = subst (λ (s : Course). CanUnrefer (world s) c.args.actor c.args.point c.args.op) (sym c.self.view_is)
    c.requires in
    let f = inside_facts a k in
    let keeps = inside_keeps a k in
    let actor = c.args.actor in
    let q = c.args.point in
    let e = c.args.op in
    let j = c.unwrap-job.result in
    let next = sym (c.next_job.ensures.job ∙ sym (ap (λ (s : Course). next_job s.plan (world s) actor)
    c.self.view_is)) ∙ c.unwrap-job.ensures in
    let slot_is = c.at-slot.ensures ∙ ap (get_or a.slots q) c.empty.ensures in
    let slot = subst (IsSlot w.carried w.waiting w.held q) (sym slot_is) (t.slots.each q) in
    let point_once = point_less actor q e w.held g in
    let point_refs = slot.references in
    omega arith

pub put-requires-2 : goal.put-requires-2
put-requires-2 c =
    let a = c.self.inside in
    let k = c.self.invariant in
    let p = a.ordered in
    let w = points_after p a.history.items in
    let t = k.tells in
    let x = Unref c.args.actor c.args.point c.args.op in
    let g = subst (λ (s : Course). CanUnrefer (world s) c.args.actor c.args.point c.args.op) (sym c.self.view_is)
    c.requires in
    let f = inside_facts a k in
    let keeps = inside_keeps a k in
    let actor = c.args.actor in
    let q = c.args.point in
    let e = c.args.op in
    let j = c.unwrap-job.result in
    let next = sym (c.next_job.ensures.job ∙ sym (ap (λ (s : Course). next_job s.plan (world s) actor)
    c.self.view_is)) ∙ c.unwrap-job.ensures in
    let below = carried_below p f w keeps q e (keeps.links.held_carries actor q e g) in
    let points = points_few a k in
    let n = t.slots.count in
    omega arith

pub push_reserved-requires : goal.push_reserved-requires
push_reserved-requires c =
    let a = c.self.inside in
    let k = c.self.invariant in
    let p = a.ordered in
    let w = points_after p a.history.items in
    let t = k.tells in
    let x = Unref c.args.actor c.args.point c.args.op in
    let g = subst (λ (s : Course). CanUnrefer (world s) c.args.actor c.args.point c.args.op) (sym c.self.view_is)
    c.requires in
    let size = a.history.ok.0 in
    let room = more_room a k x g in
    omega arith

pub invariant_of-self : goal.invariant_of-self
invariant_of-self c =
    let a = c.self.inside in
    let k = c.self.invariant in
    let p = a.ordered in
    let w = points_after p a.history.items in
    let t = k.tells in
    let x = Unref c.args.actor c.args.point c.args.op in
    let g = subst (λ (s : Course). CanUnrefer (world s) c.args.actor c.args.point c.args.op) (sym c.self.view_is)
    c.requires in
    let f = inside_facts a k in
    let keeps = inside_keeps a k in
    let actor = c.args.actor in
    let q = c.args.point in
    let e = c.args.op in
    let j = c.unwrap-job.result in
    let next = sym (c.next_job.ensures.job ∙ sym (ap (λ (s : Course). next_job s.plan (world s) actor)
    c.self.view_is)) ∙ c.unwrap-job.ensures in
    let holds = g in
    let held_for = keeps.references actor q e holds in
    let own_job : held_for.0 ≡ j = (let z = sym held_for.1 ∙ next in cc) in
    let some : 0 < needs_resolved p j e = subst (λ (i : ℕ). 0 < needs_resolved p i e) own_job held_for.2 in
    let place = c.place_of_need-place.ensures ∙ sym (ap (λ (s : Course). place_in s.plan j e) c.self.view_is) in
    let note_is = c.at-note.ensures ∙ ap (λ (n : ℕ). get_or (get_or a.notes j []) n no_note) place in
    let note = subst (IsNote p w.machine.progress.finished w.held w.referred w.looked j e) (sym note_is)
    (t.notes.each j e some) in
    let job = c.job.result.now in
    let at = subst (λ (r : Plan). slice_get r.jobs j ≡ Some job) (c.plan.ensures.value
    ∙ ap (λ (s : Course). s.plan) (sym c.self.view_is)) c.job.ensures in
    let lane = own p w.released w.machine.progress.finished w.held a.lanes t.lanes j job at in
    let who = next_actor p w.machine.progress.finished actor j job at next in
    let less = actor_less actor q e w.held g in
    let mine = subst (λ (b : ActorName). count_by (λ (r : Reference). same_actor b r.actor) (without_first
    (is_reference actor q e) w.held) + 1 ≡ count_by (λ (r : Reference). same_actor b r.actor) w.held) who less in
    let refs = lane.references in
    let slot_is = c.at-slot.ensures ∙ ap (get_or a.slots q) c.empty.ensures in
    let slot = subst (IsSlot w.carried w.waiting w.held q) (sym slot_is) (t.slots.each q) in
    let point_once = point_less actor q e w.held g in
    let point_refs = slot.references in
    let below = carried_below p f w keeps q e (keeps.links.held_carries actor q e g) in
    let points = points_few a k in
    let point_exists : q < length p.ops = omega arith in
    let point_left : c.at-slot.result.references - 1 ≡ count_by (λ (r : Reference). r.point == q) (without_first
    (is_reference actor q e) w.held) = omega arith in
    let lane_left : (get_or a.lanes (lane_number job.lane) no_lane).held - 1 ≡ count_by (λ (r : Reference).
    same_actor (actor_of_lane job.lane) r.actor) (without_first (is_reference actor q e) w.held) = omega arith in
    core_next a k x g _ refl c.push_reserved.ensures.items (let e = c.push_reserved.ensures.capacity in omega arith)
    (record {
      earlier = t.earlier;
      submitted = t.submitted;
      jobs = t.jobs;
      answers = t.answers;
      made = t.made;
      points = t.points;
      slots = subst (ArePoints (length p.ops) w.carried w.waiting (without_first (is_reference actor q e) w.held))
          (sym c.put-2.ensures)
          (slot_referred (length p.ops) w.carried w.waiting w.held a.slots t.slots q point_exists c.at-slot.result
          slot (without_first (is_reference actor q e) w.held) (c.at-slot.result.references - 1) point_left
          (points_less actor q e w.held));
      payloads = t.payloads;
      timelines = timelines_by p w (after_event p w x) a.timelines.items refl refl refl refl refl refl t.timelines;
      lanes = subst (AreLanes p w.released w.machine.progress.finished (without_first (is_reference actor q e)
          w.held)) (sym (c.unrefer.ensures ∙ ap (λ (n : ℕ). set a.lanes n (record (get_or a.lanes n no_lane) {
            held =
                (get_or a.lanes n no_lane).held - 1;
          })) c.number-lane.ensures))
          (lane_referred p f w.released w.machine.progress.finished w.held a.lanes t.lanes j job at (without_first
          (is_reference actor q e) w.held) ((get_or a.lanes (lane_number job.lane) no_lane).held - 1) lane_left
          (λ l d. subst (λ (b : ActorName). count_by (λ (r : Reference). same_actor (actor_of_lane l) r.actor)
          (without_first (is_reference b q e) w.held) ≡ count_by (λ (r : Reference). same_actor (actor_of_lane l)
          r.actor) w.held) (sym who) (others_less job.lane q e w.held l d)));
      notes = subst (AreNotes p w.machine.progress.finished (without_first (is_reference actor q e) w.held)
          w.referred w.looked) (sym (c.put.ensures
          ∙ ap (λ (n : ℕ). set a.notes j (set (get_or a.notes j []) n (record c.at-note.result {
            held =
                c.at-note.result.held - 1;
          }))) place))
          (notes_unreferred p w.machine.progress.finished w.held w.referred w.looked a.notes t.notes actor j e next
          some c.at-note.result note q g);
      buffers = t.buffers;
      sizes = t.sizes;
      left = t.left;
    })
