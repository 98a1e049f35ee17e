-- The edit of each kind leaves the bytes of the edited file written afresh: InPlace says so from what is known at the
-- start.
use mathlib.Core.Path.{ap, ◌∙◌}
use native.Mathlib.Omega.{arith}
use lib.ListN.{length}
use Rattle.std.proofs.Common.{rules}
use Rattle.octets.specs.Numbers.{Bytes}
use Rattle.octets.proofs.AllBytes.{bytes_of_lem}
use Rattle.sff_edit.proofs.InPlace.{ReadyToEdit, ready, ready_clips, ready_field, ready_header}
use Rattle.sff_edit.proofs.InPlace.{ready_start, ready_read}
use Rattle.sff_edit.proofs.InPlace.{clips-done, section_least, section_inside, name_room_lem, name_inside, name_done}
use Rattle.sff_edit.proofs.InPlace.{reads-least, end_inside, none_done}
use Rattle.sff_edit.proofs.inner.apply.Goals as goal

pub put_clips-requires : goal.put_clips-requires
put_clips-requires c =
    let a = c.args in
    let s : ReadyToEdit a.buffer.now a.len a.place a.record.now.fields a.record.now.bytes.now = search (ready, bytes_of_lem, rules) in
    (omega (arith, ready_read s, s.inside), ap length c.new_clips_field.ensures ∙ ready_clips s)

pub returns-in-Clips : goal.returns-in-Clips
returns-in-Clips c =
    let a = c.args in
    let s : ReadyToEdit a.buffer.now a.len a.place a.record.now.fields a.record.now.bytes.now = search (ready, bytes_of_lem, rules) in
    let z : Bytes c.put_clips.new.buffer = search (bytes_of_lem, rules) in
    let d = clips-done s c.in-Clips.is z c.new_clips_field.ensures c.put_clips.ensures in
    record { value = d.0; buffer_after = d.1 }

pub returns-in-Rename : goal.returns-in-Rename
returns-in-Rename c =
    let a = c.args in
    let s : ReadyToEdit a.buffer.now a.len a.place a.record.now.fields a.record.now.bytes.now = search (ready, bytes_of_lem, rules) in
    let n = c.put_name.ensures in
    let d = name_done s c.in-Rename.is c.new_name_field-field.ensures n.value n.buffer_after in
    record { value = d.0; buffer_after = d.1 }

pub put_name-requires : goal.put_name-requires
put_name-requires c =
    let a = c.args in
    let s : ReadyToEdit a.buffer.now a.len a.place a.record.now.fields a.record.now.bytes.now = search (ready, bytes_of_lem, rules) in
    let k = c.in-Rename.is in
    record {
      bound = (section_least s, section_inside s, s.inside);
      field_len = (ap length c.new_name_field-field.ensures ∙ ready_field s, name_inside s k);
      n_in_bounds = name_room_lem s k;
    }

pub get16-flows-requires : goal.get16-flows-requires
get16-flows-requires c =
    let a = c.args in
    let s : ReadyToEdit a.buffer.now a.len a.place a.record.now.fields a.record.now.bytes.now = search (ready, bytes_of_lem, rules) in
    omega (arith, ready_header s, s.inside)

pub read_end-end-requires : goal.read_end-end-requires
read_end-end-requires c =
    let a = c.args in
    let s : ReadyToEdit a.buffer.now a.len a.place a.record.now.fields a.record.now.bytes.now = search (ready, bytes_of_lem, rules) in
    (ready_start s, c.get16-flows.ensures.1)

pub overflow_sub-end : goal.overflow_sub-end
overflow_sub-end c =
    let a = c.args in
    let s : ReadyToEdit a.buffer.now a.len a.place a.record.now.fields a.record.now.bytes.now = search (ready, bytes_of_lem, rules) in
    let e = end_inside s c.in-Remove.is c.get16-flows.ensures.0 c.read_end-end.ensures in
    e.0

pub take_out-requires : goal.take_out-requires
take_out-requires c =
    let a = c.args in
    let s : ReadyToEdit a.buffer.now a.len a.place a.record.now.fields a.record.now.bytes.now = search (ready, bytes_of_lem, rules) in
    let e = end_inside s c.in-Remove.is c.get16-flows.ensures.0 c.read_end-end.ensures in
    record {
      in_bounds = (omega (arith, ready_header s, s.inside), e.1, s.inside);
      bound = reads-least s c.in-Remove.is;
    }

pub returns-in-Remove : goal.returns-in-Remove
returns-in-Remove c =
    let a = c.args in
    let s : ReadyToEdit a.buffer.now a.len a.place a.record.now.fields a.record.now.bytes.now = search (ready, bytes_of_lem, rules) in
    let n = c.take_out.ensures in
    let d = none_done s c.in-Remove.is c.get16-flows.ensures.0 c.read_end-end.ensures n.value n.buffer_after in
    record { value = d.0; buffer_after = d.1 }
