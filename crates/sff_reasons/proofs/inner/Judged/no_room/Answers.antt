-- Only a rename may need more room, and what it needs is what the read's header section grows by.
use native.Mathlib.Omega.{arith}
use Rattle.std.proofs.Common.{rules}
use Rattle.correction_format.proofs.Asked.{new-inside}
use Rattle.sff_reasons.proofs.Told.{found, kind_differs, kind_equals, found_begins, found_section, room_kept, room_told}
use Rattle.sff_reasons.proofs.inner.Judged.no_room.Goals as goal

pub returns : goal.returns
returns c =
    let j = c.args.self.now in
    room_told (found j) j.place_is _ (kind_equals _ _ c.if-ne.ensures) c.requires c.get16.ensures.0 c.up8.ensures

pub returns-then-ne : goal.returns-then-ne
returns-then-ne c = room_kept (found c.args.self.now) _ c.requires (kind_differs _ _ c.if-ne.ensures)

pub get16-requires : goal.get16-requires
get16-requires c = let h = found_begins (found c.args.self.now) c.args.self.now.place_is in omega arith

pub overflow_add-result : goal.overflow_add-result
overflow_add-result c =
    let h = found_section (found c.args.self.now) c.args.self.now.place_is in
    let k = c.get16.ensures.0 in
    search rules

pub overflow_add-fields : goal.overflow_add-fields
overflow_add-fields c =
    let t = c.args.self.now.record.now in
    let h = new-inside _ _ t.fields_of t.formed in
    search rules

pub up8-requires : goal.up8-requires
up8-requires c =
    let t = c.args.self.now.record.now in
    let h = new-inside _ _ t.fields_of t.formed in
    omega arith
