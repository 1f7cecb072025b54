use Rattle.std.proofs.Common.{◌≡◌, ◌<◌, ◌+◌, ◌∷◌, [], ◌∙◌, ℕ, Option, length, get_or, set, refl, sym, ap, subst, arith}
use Rattle.vq_model.specs.declared.plan.Event.TheVariants.{Look}
use Rattle.vq_model.specs.Machine.{put}
use Rattle.vq_point_laws.specs.Points.{CanLook, after_event, next_job, with_note, count_of, needs_resolved}
use Rattle.vq_history_laws.specs.Histories.{points_after}
use Rattle.vq_core_laws.proofs.Cited.{noted_few}
use Rattle.vq_core.specs.CoreState.{Course, world}
use Rattle.vq_tables.specs.Notes.{AreNotes, IsNote, place_in, no_note}
use Rattle.vq_tables.proofs.Cited.{note_within, notes_looked}
use Rattle.vq_core.proofs.Pushes.{inside_facts, inside_keeps, more_room, few_events, core_next}
use Rattle.vq_tables.proofs.Cited.{timelines_by}
use Rattle.vq_core.proofs.state.Core.look.Goals as goal

pub overflow_add-note : goal.overflow_add-note
overflow_add-note c =
    let a = c.self.inside in
    let k = c.self.invariant in
    let p = a.ordered in
    let w = points_after p a.history.items in
    let t = k.tells in
    let x = Look c.args.actor c.args.point c.args.op in
    let g = subst (λ (s : Course). CanLook s.plan (world s) c.args.actor c.args.point c.args.op) (sym c.self.view_is)
    c.requires in
    let f = inside_facts a k in
    let keeps = inside_keeps a k in
    let actor = c.args.actor in
    let q = c.args.point in
    let e = c.args.op in
    let j = c.unwrap-job.result in
    let next = sym (c.next_job.ensures.job ∙ sym (ap (λ (s : Course). next_job s.plan (world s) actor)
    c.self.view_is)) ∙ c.unwrap-job.ensures in
    let holds = g.holds in
    let held_for = keeps.references actor q e holds in
    let own_job : held_for.0 ≡ j = (let z = sym held_for.1 ∙ next in cc) in
    let some : 0 < needs_resolved p j e = subst (λ (i : ℕ). 0 < needs_resolved p i e) own_job held_for.2 in
    let place = c.place_of_need-place.ensures ∙ sym (ap (λ (s : Course). place_in s.plan j e) c.self.view_is) in
    let note_is = c.at-note.ensures ∙ ap (λ (n : ℕ). get_or (get_or a.notes j []) n no_note) place in
    let note = subst (IsNote p w.machine.progress.finished w.held w.referred w.looked j e) (sym note_is)
    (t.notes.each j e some) in
    let owner : g.job ≡ j = (let z = sym g.is_next ∙ next in cc) in
    let fewer = subst (λ (i : ℕ). count_of (w.looked i) e < count_of (w.referred i) e) owner g.fewer in
    let seen = note.looks in
    let count = noted_few p a.history.items j e in
    let few = few_events a k x g in
    omega arith

pub put-requires-clause-place : goal.put-requires-clause-place
put-requires-clause-place c =
    let a = c.self.inside in
    let k = c.self.invariant in
    let p = a.ordered in
    let w = points_after p a.history.items in
    let t = k.tells in
    let x = Look c.args.actor c.args.point c.args.op in
    let g = subst (λ (s : Course). CanLook s.plan (world s) c.args.actor c.args.point c.args.op) (sym c.self.view_is)
    c.requires in
    let f = inside_facts a k in
    let keeps = inside_keeps a k in
    let actor = c.args.actor in
    let q = c.args.point in
    let e = c.args.op in
    let j = c.unwrap-job.result in
    let next = sym (c.next_job.ensures.job ∙ sym (ap (λ (s : Course). next_job s.plan (world s) actor)
    c.self.view_is)) ∙ c.unwrap-job.ensures in
    let holds = g.holds in
    let held_for = keeps.references actor q e holds in
    let own_job : held_for.0 ≡ j = (let z = sym held_for.1 ∙ next in cc) in
    let some : 0 < needs_resolved p j e = subst (λ (i : ℕ). 0 < needs_resolved p i e) own_job held_for.2 in
    let place = c.place_of_need-place.ensures ∙ sym (ap (λ (s : Course). place_in s.plan j e) c.self.view_is) in
    let note_is = c.at-note.ensures ∙ ap (λ (n : ℕ). get_or (get_or a.notes j []) n no_note) place in
    let note = subst (IsNote p w.machine.progress.finished w.held w.referred w.looked j e) (sym note_is)
    (t.notes.each j e some) in
    subst (λ (n : ℕ). n < length (get_or a.notes j [])) (sym place) (note_within p w.machine.progress.finished w.held
    w.referred w.looked a.notes t.notes actor j e next some c.at-note.result note)

pub push_reserved-requires : goal.push_reserved-requires
push_reserved-requires c =
    let a = c.self.inside in
    let k = c.self.invariant in
    let p = a.ordered in
    let w = points_after p a.history.items in
    let t = k.tells in
    let x = Look c.args.actor c.args.point c.args.op in
    let g = subst (λ (s : Course). CanLook s.plan (world s) c.args.actor c.args.point c.args.op) (sym c.self.view_is)
    c.requires in
    let size = a.history.ok.0 in
    let room = more_room a k x g in
    omega arith

pub invariant_of-self : goal.invariant_of-self
invariant_of-self c =
    let a = c.self.inside in
    let k = c.self.invariant in
    let p = a.ordered in
    let w = points_after p a.history.items in
    let t = k.tells in
    let x = Look c.args.actor c.args.point c.args.op in
    let g = subst (λ (s : Course). CanLook s.plan (world s) c.args.actor c.args.point c.args.op) (sym c.self.view_is)
    c.requires in
    let f = inside_facts a k in
    let keeps = inside_keeps a k in
    let actor = c.args.actor in
    let q = c.args.point in
    let e = c.args.op in
    let j = c.unwrap-job.result in
    let next = sym (c.next_job.ensures.job ∙ sym (ap (λ (s : Course). next_job s.plan (world s) actor)
    c.self.view_is)) ∙ c.unwrap-job.ensures in
    let holds = g.holds in
    let held_for = keeps.references actor q e holds in
    let own_job : held_for.0 ≡ j = (let z = sym held_for.1 ∙ next in cc) in
    let some : 0 < needs_resolved p j e = subst (λ (i : ℕ). 0 < needs_resolved p i e) own_job held_for.2 in
    let place = c.place_of_need-place.ensures ∙ sym (ap (λ (s : Course). place_in s.plan j e) c.self.view_is) in
    let note_is = c.at-note.ensures ∙ ap (λ (n : ℕ). get_or (get_or a.notes j []) n no_note) place in
    let note = subst (IsNote p w.machine.progress.finished w.held w.referred w.looked j e) (sym note_is)
    (t.notes.each j e some) in
    core_next a k x g _ refl c.push_reserved.ensures.items (let e = c.push_reserved.ensures.capacity in omega arith)
    (record {
      earlier = t.earlier;
      submitted = t.submitted;
      jobs = t.jobs;
      answers = t.answers;
      made = t.made;
      points = t.points;
      slots = t.slots;
      payloads = t.payloads;
      timelines = timelines_by p w (after_event p w x) a.timelines.items refl refl refl refl refl refl t.timelines;
      lanes = t.lanes;
      notes = subst (λ (o : Option ℕ). AreNotes p w.machine.progress.finished w.held w.referred (with_note w.looked o
          e) c.put.new.self) (sym next)
          (subst (AreNotes p w.machine.progress.finished w.held w.referred (put w.looked j (e ∷ w.looked j))) (sym
          (c.put.ensures ∙ ap (λ (n : ℕ). set a.notes j (set (get_or a.notes j []) n (record c.at-note.result {
            looked = c.at-note.result.looked + 1;
          }))) place))
          (notes_looked p w.machine.progress.finished w.held w.referred w.looked a.notes t.notes actor j e next some
          c.at-note.result note));
      buffers = t.buffers;
      sizes = t.sizes;
      left = t.left;
    })
