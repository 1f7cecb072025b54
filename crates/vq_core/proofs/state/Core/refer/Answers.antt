use Rattle.std.proofs.Common.{
  ◌≡◌,
  ◌<◌,
  ◌+◌,
  ◌∷◌,
  [],
  ◌∙◌,
  ◌==◌,
  ℕ,
  Option,
  Some,
  length,
  get_or,
  set,
  refl,
  sym,
  ap,
  subst,
  arith,
}
use Rattle.std.specs.Prelude.{count_by}
use Rattle.std.specs.List.{slice_get}
use Rattle.vq_model.specs.declared.script.ActorName.{ActorName}
use Rattle.std.proofs.Common.{◌&&◌}
use Rattle.vq_model.specs.declared.plan.Event.TheVariants.{Refer}
use Rattle.vq_model.specs.Lanes.{lane_number}
use Rattle.vq_model.specs.Machine.{put}
use Rattle.vq_model.specs.Plan.{Plan}
use Rattle.vq_model.specs.Naming.{same_actor}
use Rattle.vq_point_laws.specs.Points.{
  Reference,
  CanRefer,
  after_event,
  next_job,
  actor_of_lane,
  with_note,
  count_of,
  needs_resolved,
}
use Rattle.vq_history_laws.specs.Histories.{points_after}
use Rattle.vq_core_laws.proofs.Cited.{noted_few, carried_below}
use Rattle.vq_core.specs.CoreState.{Course, world}
use Rattle.vq_tables.specs.Lanes.{AreLanes, no_lane}
use Rattle.vq_tables.specs.Notes.{AreNotes, IsNote, place_in, no_note}
use Rattle.vq_tables.specs.Tables.{ArePoints, IsSlot}
use Rattle.vq_tables.proofs.Cited.{lane_within, lane_referred, actor_more, others_more, point_more, points_more}
use Rattle.vq_tables.proofs.Cited.{own}
use Rattle.vq_tables.proofs.Cited.{note_within, notes_referred, next_actor}
use Rattle.vq_core.proofs.EventParts.{points_few, count_few}
use Rattle.vq_core.proofs.Pushes.{inside_facts, inside_keeps, inside_held, more_room, few_events, core_next}
use Rattle.vq_tables.proofs.Cited.{slot_referred}
use Rattle.vq_tables.proofs.Cited.{timelines_by}
use Rattle.vq_core.proofs.state.Core.refer.Goals as goal

pub overflow_add-note : goal.overflow_add-note
overflow_add-note c =
    let a = c.self.inside in
    let k = c.self.invariant in
    let p = a.ordered in
    let w = points_after p a.history.items in
    let t = k.tells in
    let x = Refer c.args.actor c.args.point c.args.op in
    let g = subst (λ (s : Course). CanRefer s.plan (world s) c.args.actor c.args.point c.args.op) (sym
    c.self.view_is) c.requires in
    let f = inside_facts a k in
    let keeps = inside_keeps a k in
    let actor = c.args.actor in
    let q = c.args.point in
    let e = c.args.op in
    let j = c.unwrap-job.result in
    let next = sym (c.next_job.ensures.job ∙ sym (ap (λ (s : Course). next_job s.plan (world s) actor)
    c.self.view_is)) ∙ c.unwrap-job.ensures in
    let owner : g.job ≡ j = (let z = sym g.is_next ∙ next in cc) in
    let wanted = subst (λ (i : ℕ). count_of (w.referred i) e < needs_resolved p i e) owner g.wanted in
    let some : 0 < needs_resolved p j e = omega arith in
    let place = c.place_of_need-place.ensures ∙ sym (ap (λ (s : Course). place_in s.plan j e) c.self.view_is) in
    let note_is = c.at-note.ensures ∙ ap (λ (n : ℕ). get_or (get_or a.notes j []) n no_note) place in
    let note = subst (IsNote p w.machine.progress.finished w.held w.referred w.looked j e) (sym note_is)
    (t.notes.each j e some) in
    let made = note.references in
    let count = noted_few p a.history.items j e in
    let few = few_events a k x g in
    omega arith

pub overflow_add-note-2 : goal.overflow_add-note-2
overflow_add-note-2 c =
    let a = c.self.inside in
    let k = c.self.invariant in
    let p = a.ordered in
    let w = points_after p a.history.items in
    let t = k.tells in
    let x = Refer c.args.actor c.args.point c.args.op in
    let g = subst (λ (s : Course). CanRefer s.plan (world s) c.args.actor c.args.point c.args.op) (sym
    c.self.view_is) c.requires in
    let f = inside_facts a k in
    let keeps = inside_keeps a k in
    let actor = c.args.actor in
    let q = c.args.point in
    let e = c.args.op in
    let j = c.unwrap-job.result in
    let next = sym (c.next_job.ensures.job ∙ sym (ap (λ (s : Course). next_job s.plan (world s) actor)
    c.self.view_is)) ∙ c.unwrap-job.ensures in
    let owner : g.job ≡ j = (let z = sym g.is_next ∙ next in cc) in
    let wanted = subst (λ (i : ℕ). count_of (w.referred i) e < needs_resolved p i e) owner g.wanted in
    let some : 0 < needs_resolved p j e = omega arith in
    let place = c.place_of_need-place.ensures ∙ sym (ap (λ (s : Course). place_in s.plan j e) c.self.view_is) in
    let note_is = c.at-note.ensures ∙ ap (λ (n : ℕ). get_or (get_or a.notes j []) n no_note) place in
    let note = subst (IsNote p w.machine.progress.finished w.held w.referred w.looked j e) (sym note_is)
    (t.notes.each j e some) in
    let held = inside_held a k in
    let few = few_events a k x g in
    let is = note.next_held actor next in
    let count = count_few (λ (r : Reference). same_actor actor r.actor && (r.op == e)) w.held in
    omega arith

pub put-requires-clause-place : goal.put-requires-clause-place
put-requires-clause-place c =
    let a = c.self.inside in
    let k = c.self.invariant in
    let p = a.ordered in
    let w = points_after p a.history.items in
    let t = k.tells in
    let x = Refer c.args.actor c.args.point c.args.op in
    let g = subst (λ (s : Course). CanRefer s.plan (world s) c.args.actor c.args.point c.args.op) (sym
    c.self.view_is) c.requires in
    let f = inside_facts a k in
    let keeps = inside_keeps a k in
    let actor = c.args.actor in
    let q = c.args.point in
    let e = c.args.op in
    let j = c.unwrap-job.result in
    let next = sym (c.next_job.ensures.job ∙ sym (ap (λ (s : Course). next_job s.plan (world s) actor)
    c.self.view_is)) ∙ c.unwrap-job.ensures in
    let owner : g.job ≡ j = (let z = sym g.is_next ∙ next in cc) in
    let wanted = subst (λ (i : ℕ). count_of (w.referred i) e < needs_resolved p i e) owner g.wanted in
    let some : 0 < needs_resolved p j e = omega arith in
    let place = c.place_of_need-place.ensures ∙ sym (ap (λ (s : Course). place_in s.plan j e) c.self.view_is) in
    let note_is = c.at-note.ensures ∙ ap (λ (n : ℕ). get_or (get_or a.notes j []) n no_note) place in
    let note = subst (IsNote p w.machine.progress.finished w.held w.referred w.looked j e) (sym note_is)
    (t.notes.each j e some) in
    subst (λ (n : ℕ). n < length (get_or a.notes j [])) (sym place) (note_within p w.machine.progress.finished w.held
    w.referred w.looked a.notes t.notes actor j e next some c.at-note.result note)

pub refer-requires-clause-exists : goal.refer-requires-clause-exists
refer-requires-clause-exists c =
    let a = c.self.inside in
    let k = c.self.invariant in
    let p = a.ordered in
    let w = points_after p a.history.items in
    let t = k.tells in
    let x = Refer c.args.actor c.args.point c.args.op in
    let g = subst (λ (s : Course). CanRefer s.plan (world s) c.args.actor c.args.point c.args.op) (sym
    c.self.view_is) c.requires in
    let f = inside_facts a k in
    let keeps = inside_keeps a k in
    let actor = c.args.actor in
    let q = c.args.point in
    let e = c.args.op in
    let j = c.unwrap-job.result in
    let next = sym (c.next_job.ensures.job ∙ sym (ap (λ (s : Course). next_job s.plan (world s) actor)
    c.self.view_is)) ∙ c.unwrap-job.ensures in
    let job = c.job.result.now in
    let at = subst (λ (r : Plan). slice_get r.jobs j ≡ Some job) (c.plan.ensures.value
    ∙ ap (λ (s : Course). s.plan) (sym c.self.view_is)) c.job.ensures in
    let lane = own p w.released w.machine.progress.finished w.held a.lanes t.lanes j job at in
    let who = next_actor p w.machine.progress.finished actor j job at next in
    subst (λ (n : ℕ). n < length a.lanes) (sym c.number-lane.ensures)
    (lane_within p f w.released w.machine.progress.finished w.held a.lanes t.lanes j job at)

pub refer-requires-clause-small : goal.refer-requires-clause-small
refer-requires-clause-small c =
    let a = c.self.inside in
    let k = c.self.invariant in
    let p = a.ordered in
    let w = points_after p a.history.items in
    let t = k.tells in
    let x = Refer c.args.actor c.args.point c.args.op in
    let g = subst (λ (s : Course). CanRefer s.plan (world s) c.args.actor c.args.point c.args.op) (sym
    c.self.view_is) c.requires in
    let f = inside_facts a k in
    let keeps = inside_keeps a k in
    let actor = c.args.actor in
    let q = c.args.point in
    let e = c.args.op in
    let j = c.unwrap-job.result in
    let next = sym (c.next_job.ensures.job ∙ sym (ap (λ (s : Course). next_job s.plan (world s) actor)
    c.self.view_is)) ∙ c.unwrap-job.ensures in
    let job = c.job.result.now in
    let at = subst (λ (r : Plan). slice_get r.jobs j ≡ Some job) (c.plan.ensures.value
    ∙ ap (λ (s : Course). s.plan) (sym c.self.view_is)) c.job.ensures in
    let lane = own p w.released w.machine.progress.finished w.held a.lanes t.lanes j job at in
    let who = next_actor p w.machine.progress.finished actor j job at next in
    let held = inside_held a k in
    let few = few_events a k x g in
    let is = lane.references in
    let count = count_few (λ (r : Reference). same_actor (actor_of_lane job.lane) r.actor) w.held in
    let small : (get_or a.lanes (lane_number job.lane) no_lane).held + 1 < 18446744073709551616 = omega arith in
    subst (λ (n : ℕ). (get_or a.lanes n no_lane).held + 1 < 18446744073709551616) (sym c.number-lane.ensures) small

pub overflow_add-slot : goal.overflow_add-slot
overflow_add-slot c =
    let a = c.self.inside in
    let k = c.self.invariant in
    let p = a.ordered in
    let w = points_after p a.history.items in
    let t = k.tells in
    let x = Refer c.args.actor c.args.point c.args.op in
    let g = subst (λ (s : Course). CanRefer s.plan (world s) c.args.actor c.args.point c.args.op) (sym
    c.self.view_is) c.requires in
    let f = inside_facts a k in
    let keeps = inside_keeps a k in
    let actor = c.args.actor in
    let q = c.args.point in
    let e = c.args.op in
    let j = c.unwrap-job.result in
    let next = sym (c.next_job.ensures.job ∙ sym (ap (λ (s : Course). next_job s.plan (world s) actor)
    c.self.view_is)) ∙ c.unwrap-job.ensures in
    let held = inside_held a k in
    let few = few_events a k x g in
    let slot_is = c.at-slot.ensures ∙ ap (get_or a.slots q) c.empty.ensures in
    let slot = subst (IsSlot w.carried w.waiting w.held q) (sym slot_is) (t.slots.each q) in
    let is = slot.references in
    let count = count_few (λ (r : Reference). r.point == q) w.held in
    omega arith

pub put-requires-2 : goal.put-requires-2
put-requires-2 c =
    let a = c.self.inside in
    let k = c.self.invariant in
    let p = a.ordered in
    let w = points_after p a.history.items in
    let t = k.tells in
    let x = Refer c.args.actor c.args.point c.args.op in
    let g = subst (λ (s : Course). CanRefer s.plan (world s) c.args.actor c.args.point c.args.op) (sym
    c.self.view_is) c.requires in
    let f = inside_facts a k in
    let keeps = inside_keeps a k in
    let actor = c.args.actor in
    let q = c.args.point in
    let e = c.args.op in
    let j = c.unwrap-job.result in
    let next = sym (c.next_job.ensures.job ∙ sym (ap (λ (s : Course). next_job s.plan (world s) actor)
    c.self.view_is)) ∙ c.unwrap-job.ensures in
    let below = carried_below p f w keeps q e g.carries in
    let points = points_few a k in
    let n = t.slots.count in
    omega arith

pub push_reserved-requires : goal.push_reserved-requires
push_reserved-requires c =
    let a = c.self.inside in
    let k = c.self.invariant in
    let p = a.ordered in
    let w = points_after p a.history.items in
    let t = k.tells in
    let x = Refer c.args.actor c.args.point c.args.op in
    let g = subst (λ (s : Course). CanRefer s.plan (world s) c.args.actor c.args.point c.args.op) (sym
    c.self.view_is) c.requires in
    let size = a.history.ok.0 in
    let room = more_room a k x g in
    omega arith

pub invariant_of-self : goal.invariant_of-self
invariant_of-self c =
    let a = c.self.inside in
    let k = c.self.invariant in
    let p = a.ordered in
    let w = points_after p a.history.items in
    let t = k.tells in
    let x = Refer c.args.actor c.args.point c.args.op in
    let g = subst (λ (s : Course). CanRefer s.plan (world s) c.args.actor c.args.point c.args.op) (sym
    c.self.view_is) c.requires in
    let f = inside_facts a k in
    let keeps = inside_keeps a k in
    let actor = c.args.actor in
    let q = c.args.point in
    let e = c.args.op in
    let j = c.unwrap-job.result in
    let next = sym (c.next_job.ensures.job ∙ sym (ap (λ (s : Course). next_job s.plan (world s) actor)
    c.self.view_is)) ∙ c.unwrap-job.ensures in
    let owner : g.job ≡ j = (let z = sym g.is_next ∙ next in cc) in
    let wanted = subst (λ (i : ℕ). count_of (w.referred i) e < needs_resolved p i e) owner g.wanted in
    let some : 0 < needs_resolved p j e = omega arith in
    let place = c.place_of_need-place.ensures ∙ sym (ap (λ (s : Course). place_in s.plan j e) c.self.view_is) in
    let note_is = c.at-note.ensures ∙ ap (λ (n : ℕ). get_or (get_or a.notes j []) n no_note) place in
    let note = subst (IsNote p w.machine.progress.finished w.held w.referred w.looked j e) (sym note_is)
    (t.notes.each j e some) in
    let job = c.job.result.now in
    let at = subst (λ (r : Plan). slice_get r.jobs j ≡ Some job) (c.plan.ensures.value
    ∙ ap (λ (s : Course). s.plan) (sym c.self.view_is)) c.job.ensures in
    let lane = own p w.released w.machine.progress.finished w.held a.lanes t.lanes j job at in
    let who = next_actor p w.machine.progress.finished actor j job at next in
    let slot_is = c.at-slot.ensures ∙ ap (get_or a.slots q) c.empty.ensures in
    let slot = subst (IsSlot w.carried w.waiting w.held q) (sym slot_is) (t.slots.each q) in
    let below = carried_below p f w keeps q e g.carries in
    let points = points_few a k in
    let point_exists : q < length p.ops = omega arith in
    let more = subst (λ (b : ActorName). count_by (λ (r : Reference). same_actor (actor_of_lane job.lane) r.actor)
    (record { actor = b; point = q; op = e } ∷ w.held) ≡ count_by (λ (r : Reference). same_actor (actor_of_lane
    job.lane) r.actor) w.held + 1) (sym who) (actor_more (actor_of_lane job.lane) q e w.held) in
    core_next a k x g _ refl c.push_reserved.ensures.items (let e = c.push_reserved.ensures.capacity in omega arith)
    (record {
      earlier = t.earlier;
      submitted = t.submitted;
      jobs = t.jobs;
      answers = t.answers;
      made = t.made;
      points = t.points;
      slots = subst (ArePoints (length p.ops) w.carried w.waiting (record { actor = actor; point = q; op = e } ∷
          w.held)) (sym c.put-2.ensures)
          (slot_referred (length p.ops) w.carried w.waiting w.held a.slots t.slots q point_exists c.at-slot.result
          slot (record { actor = actor; point = q; op = e } ∷ w.held) (c.at-slot.result.references + 1) (ap (λ (n
          : ℕ). n + 1) slot.references ∙ sym (point_more actor q e w.held)) (points_more actor q e w.held));
      payloads = t.payloads;
      timelines = timelines_by p w (after_event p w x) a.timelines.items refl refl refl refl refl refl t.timelines;
      lanes = subst (AreLanes p w.released w.machine.progress.finished (record { actor = actor; point = q; op = e } ∷
          w.held)) (sym (c.refer.ensures ∙ ap (λ (n : ℕ). set a.lanes n (record (get_or a.lanes n no_lane) {
            held =
                (get_or a.lanes n no_lane).held + 1;
          })) c.number-lane.ensures))
          (lane_referred p f w.released w.machine.progress.finished w.held a.lanes t.lanes j job at (record {
            actor =
                actor;
            point = q;
            op = e;
          } ∷ w.held) ((get_or a.lanes (lane_number job.lane) no_lane).held + 1) (ap (λ
          (n : ℕ). n + 1) lane.references ∙ sym more)
          (λ l d. subst (λ (b : ActorName). count_by (λ (r : Reference). same_actor (actor_of_lane l) r.actor)
          (record { actor = b; point = q; op = e } ∷ w.held) ≡ count_by (λ (r : Reference). same_actor
          (actor_of_lane l) r.actor) w.held) (sym who) (others_more job.lane q e w.held l d)));
      notes = subst (λ (o : Option ℕ). AreNotes p w.machine.progress.finished (record {
        actor = actor;
        point = q;
        op
            = e;
      } ∷ w.held) (with_note w.referred o e) w.looked c.put.new.self) (sym next)
          (subst (AreNotes p w.machine.progress.finished (record { actor = actor; point = q; op = e } ∷ w.held) (put
          w.referred j (e ∷ w.referred j)) w.looked) (sym (c.put.ensures
          ∙ ap (λ (n : ℕ). set a.notes j (set (get_or a.notes j []) n (record c.at-note.result {
            referred =
                c.at-note.result.referred + 1;
            held = c.at-note.result.held + 1;
          }))) place))
          (notes_referred p w.machine.progress.finished w.held w.referred w.looked a.notes t.notes actor j e next
          some c.at-note.result note q));
      buffers = t.buffers;
      sizes = t.sizes;
      left = t.left;
    })
