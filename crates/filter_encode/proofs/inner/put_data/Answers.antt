-- The filter is one of its cases: each filter's function puts the definition's data of that case where the header ends,
-- in units of the width that the arm is for, and what was judged gives what it asks.
use mathlib.Core.Path.{◌≡◌, ◌∙◌, ap}
use native.Mathlib.Omega.{arith}
use Rattle.filter_format.specs.declared.Filter.TheVariants.{Delta, Narrow}
use Rattle.filter_format.specs.Encode.{encoded_data}
use Rattle.filter_encode.proofs.Cases.{delta-width, narrow-width, delta-fits, narrow-fits, follow_fits, data_put}
use Rattle.filter_encode.proofs.inner.put_data.Goals as goal

pub put_delta-requires : goal.put_delta-requires
put_delta-requires c =
    let a = c.args in
    let w : c.in-Delta-eq1.field-0 ≡ 1 = omega arith in
    delta-fits a.level a.follow.now a.source.now c.header_length-start.ensures.0 _ c.requires (c.in-Delta-eq1.is ∙ ap Delta w)

pub put_delta-requires-in-Delta-eq2 : goal.put_delta-requires-in-Delta-eq2
put_delta-requires-in-Delta-eq2 c =
    let a = c.args in
    let w : c.in-Delta-eq2.field-0 ≡ 2 = omega (arith, c.in-Delta-eq2.field-0-test) in
    delta-fits a.level a.follow.now a.source.now c.header_length-start.ensures.0 _ c.requires (c.in-Delta-eq2.is ∙ ap Delta w)

pub put_delta-requires-in-Delta : goal.put_delta-requires-in-Delta
put_delta-requires-in-Delta c =
    let a = c.args in
    let k = delta-width c.in-Delta.is c.requires.0 in
    let w : c.in-Delta.field-0 ≡ 4 = omega (arith, c.in-Delta.field-0-test) in
    delta-fits a.level a.follow.now a.source.now c.header_length-start.ensures.0 _ c.requires (c.in-Delta.is ∙ ap Delta w)

pub put_narrowed-requires : goal.put_narrowed-requires
put_narrowed-requires c =
    let a = c.args in
    let w : c.in-Narrow-eq2.field-0 ≡ 2 = omega (arith, c.in-Narrow-eq2.field-0-test) in
    narrow-fits a.level a.follow.now a.source.now c.header_length-start.ensures.0 _ c.requires (c.in-Narrow-eq2.is ∙ ap Narrow w)

pub put_narrowed-requires-in-Narrow : goal.put_narrowed-requires-in-Narrow
put_narrowed-requires-in-Narrow c =
    let a = c.args in
    let k = narrow-width c.in-Narrow.is c.requires.0 in
    let w : c.in-Narrow.field-0 ≡ 4 = omega (arith, c.in-Narrow.field-0-test) in
    narrow-fits a.level a.follow.now a.source.now c.header_length-start.ensures.0 _ c.requires (c.in-Narrow.is ∙ ap Narrow w)

pub put_followed-requires : goal.put_followed-requires
put_followed-requires c =
    let a = c.args in
    follow_fits a.level a.follow.now a.source.now c.header_length-start.ensures.0 _ c.requires c.in-Follow.is

pub returns-in-Delta-eq1 : goal.returns-in-Delta-eq1
unfolding encoded_data
returns-in-Delta-eq1 c =
    let a = c.args in
    let w : c.in-Delta-eq1.field-0 ≡ 1 = omega arith in
    data_put a.level a.follow.now a.source.now c.header_length-start.ensures.0 (c.in-Delta-eq1.is ∙ ap Delta w) a.out.now c.put_delta.ensures

pub returns-in-Delta-eq2 : goal.returns-in-Delta-eq2
unfolding encoded_data
returns-in-Delta-eq2 c =
    let a = c.args in
    let w : c.in-Delta-eq2.field-0 ≡ 2 = omega (arith, c.in-Delta-eq2.field-0-test) in
    data_put a.level a.follow.now a.source.now c.header_length-start.ensures.0 (c.in-Delta-eq2.is ∙ ap Delta w) a.out.now c.put_delta-in-Delta-eq2.ensures

pub returns-in-Delta : goal.returns-in-Delta
unfolding encoded_data
returns-in-Delta c =
    let a = c.args in
    let k = delta-width c.in-Delta.is c.requires.0 in
    let w : c.in-Delta.field-0 ≡ 4 = omega (arith, c.in-Delta.field-0-test) in
    data_put a.level a.follow.now a.source.now c.header_length-start.ensures.0 (c.in-Delta.is ∙ ap Delta w) a.out.now c.put_delta-in-Delta.ensures

pub returns-in-Narrow-eq2 : goal.returns-in-Narrow-eq2
unfolding encoded_data
returns-in-Narrow-eq2 c =
    let a = c.args in
    let w : c.in-Narrow-eq2.field-0 ≡ 2 = omega (arith, c.in-Narrow-eq2.field-0-test) in
    data_put a.level a.follow.now a.source.now c.header_length-start.ensures.0 (c.in-Narrow-eq2.is ∙ ap Narrow w) a.out.now c.put_narrowed.ensures

pub returns-in-Narrow : goal.returns-in-Narrow
unfolding encoded_data
returns-in-Narrow c =
    let a = c.args in
    let k = narrow-width c.in-Narrow.is c.requires.0 in
    let w : c.in-Narrow.field-0 ≡ 4 = omega (arith, c.in-Narrow.field-0-test) in
    data_put a.level a.follow.now a.source.now c.header_length-start.ensures.0 (c.in-Narrow.is ∙ ap Narrow w) a.out.now c.put_narrowed-in-Narrow.ensures

pub returns-in-Follow : goal.returns-in-Follow
unfolding encoded_data
returns-in-Follow c =
    let a = c.args in
    data_put a.level a.follow.now a.source.now c.header_length-start.ensures.0 c.in-Follow.is a.out.now c.put_followed.ensures
