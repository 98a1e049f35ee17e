-- The tests are asked in document 01's order, each where none before it holds.
use Rattle.std.proofs.Common.{rules}
use Rattle.octets.specs.Numbers.{Bytes}
use Rattle.octets.proofs.AllBytes.{bytes_of_lem}
use Rattle.sff_reasons.proofs.Told.{found_by, first_22, first_25, first_23, first_24, first_26, none_26}
use Rattle.sff_reasons.proofs.inner.reason.Goals as goal

pub returns-then-other_name : goal.returns-then-other_name
returns-then-other_name c =
    let a = c.args in
    let z : Bytes a.file.now = search (bytes_of_lem, rules) in
    let s = found_by a.record.now z c.requires.file_value c.requires.position_bound in
    first_22 s a.room (c.if-other_name.ensures _)

pub returns-then-index_present : goal.returns-then-index_present
returns-then-index_present c =
    let a = c.args in
    let z : Bytes a.file.now = search (bytes_of_lem, rules) in
    let s = found_by a.record.now z c.requires.file_value c.requires.position_bound in
    first_25 s a.room (c.if-other_name.ensures _) (c.if-index_present.ensures _)

pub returns-then-clip_above : goal.returns-then-clip_above
returns-then-clip_above c =
    let a = c.args in
    let z : Bytes a.file.now = search (bytes_of_lem, rules) in
    let s = found_by a.record.now z c.requires.file_value c.requires.position_bound in
    first_23 s a.room (c.if-other_name.ensures _) (c.if-index_present.ensures _) (c.if-clip_above.ensures _)

pub returns-then-name_taken : goal.returns-then-name_taken
returns-then-name_taken c =
    let a = c.args in
    let z : Bytes a.file.now = search (bytes_of_lem, rules) in
    let s = found_by a.record.now z c.requires.file_value c.requires.position_bound in
    first_24 s a.room (c.if-other_name.ensures _) (c.if-index_present.ensures _) (c.if-clip_above.ensures _) (c.if-name_taken.ensures _)

pub returns-then-no_room : goal.returns-then-no_room
returns-then-no_room c =
    let a = c.args in
    let z : Bytes a.file.now = search (bytes_of_lem, rules) in
    let s = found_by a.record.now z c.requires.file_value c.requires.position_bound in
    first_26 s a.room (c.if-other_name.ensures _) (c.if-index_present.ensures _) (c.if-clip_above.ensures _) (c.if-name_taken.ensures _) c.if-no_room.ensures

pub returns : goal.returns
returns c =
    let a = c.args in
    let z : Bytes a.file.now = search (bytes_of_lem, rules) in
    let s = found_by a.record.now z c.requires.file_value c.requires.position_bound in
    none_26 s a.room (c.if-other_name.ensures _) (c.if-index_present.ensures _) (c.if-clip_above.ensures _) (c.if-name_taken.ensures _) c.if-no_room.ensures
