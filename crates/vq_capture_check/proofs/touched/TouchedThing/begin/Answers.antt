use Rattle.std.proofs.Common.{◌≡◌, ◌++◌, ◌∷◌, [], filter, refl, rules}
use Rattle.std.specs.Prelude.{not}
use Rattle.vq_capture_touched.specs.Indexed.{touches_of}
use Rattle.vq_capture_check.specs.Watching.{is_stood_for}
use Rattle.vq_capture_check.specs.Watches.{parts_of}
use Rattle.vq_capture_check.proofs.Forgotten.{begun_with}
use Rattle.vq_capture_check.proofs.touched.TouchedThing.begin.Goals as goal

pub returns : goal.returns
returns c =
    let e1 : touches_of c.forget_indexed.new.index ≡ filter (λ t. not (is_stood_for c.args.touch.step c.args.self.now.newest.items t)) (touches_of c.args.self.now.index) = search rules in
    let e2 : c.forget.new.older.items ≡ filter (λ t. not (is_stood_for c.args.touch.step c.args.self.now.newest.items t)) c.args.self.now.recent.items = search rules in
    let e3 : c.append.new.older.items ≡ c.forget.new.older.items ++ c.args.self.now.newest.items = search rules in
    let e4 : touches_of c.settle.new.index ++ c.settle.new.recent.items ≡ touches_of c.forget_indexed.new.index ++ c.append.new.older.items = search rules in
    let e5 : c.push.new.self.items ≡ c.args.touch ∷ [] = search rules in
    begun_with c.args.touch (parts_of c.args.self.now) c.requires (touches_of c.args.self.now.index) c.args.self.now.recent.items
    (touches_of c.forget_indexed.new.index) c.forget.new.older.items c.append.new.older.items
    (touches_of c.settle.new.index ++ c.settle.new.recent.items) c.push.new.self.items refl e1 e2 e3 e4 e5
