-- A record of another kind has no new clips. Those of kind 1 are above the read's bases exactly where refusal 9's test
-- refuses them.
use mathlib.Core.Path.{◌∙◌}
use Rattle.sff_reasons.proofs.Told.{found, kind_differs, kind_equals, found_begins, none_above, clips_told}
use Rattle.sff_reasons.proofs.inner.Judged.clip_above.Goals as goal

pub returns-then-ne : goal.returns-then-ne
returns-then-ne c room =
    let j = c.args.self.now in
    none_above (found j) j.place_is room (kind_differs _ _ c.if-ne.ensures)

pub base_count-requires : goal.base_count-requires
base_count-requires c = found_begins (found c.args.self.now) c.args.self.now.place_is

pub returns : goal.returns
returns c room =
    let j = c.args.self.now in
    let k = kind_equals _ _ c.if-ne.ensures in
    c.is_err.ensures.value ∙ clips_told (found j) j.place_is room k c.base_count.ensures.0 _ c.clip_test.ensures
