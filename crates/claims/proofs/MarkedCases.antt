-- Every row of the table of marked cases holds, computed from the definitions. Assumes nothing.
use mathlib.Core.Path.{refl}
use Rattle.octets.specs.Parts.{whole_part, put_at, filled, insert_at, filled_front, same}
use Rattle.octets.specs.Numbers.{big_endian_from, number, bytes_of, fields, unit_bytes, units_at}
use Rattle.octets.specs.Scans.{leading_count, first_not}
use Rattle.answers.specs.Answer.{when, shifted, ◌then◌, accepted_or}
use Rattle.answers.specs.Rows.{first_row}
use Rattle.sff_format.specs.Rules.{declared, bad_index_length, bad_index, index_size, left_limit, right_limit, is_flow, walked_count, base_matches, matched_count}
use Rattle.sff_format.specs.Model.{header_fields, layout_header, read_fields, layout_read_header, layout_read_data, layout_read, layout_reads, layout_index, layout}
use Rattle.sff_format.specs.HeaderTest.{fixed_test, characters_test, header_test}
use Rattle.sff_format.specs.ReadTest.{name_test, clip_test, bases_test, data_test, read_test, read_end}
use Rattle.sff_format.specs.FileTest.{index_due, pass_test, index_test, past_index, end_test, boundary_test, file_test}
use Rattle.sff_format.specs.Parse.{parse_read, parse_reads, parse}
use Rattle.sff_format.specs.Places.{place_from, read_place}
use Rattle.sff_format.specs.Insert.{first_base, right_end, last_base}
use Rattle.sff_format.specs.View.{view_at, insert_in}
use Rattle.sff_format.specs.Position.{position_test, file_insert, file_first, file_last}
use Rattle.correction_format.specs.Record.{name_field_test, unused_test, new_clips_test, new_name_test, record_test}
use Rattle.correction_format.specs.RecordLayout.{record_fields, layout_record, change_in}
use Rattle.correction_format.specs.Edit.{replacement, edited}
use Rattle.correction_format.specs.Reasons.{clips_above, name_among, new_name_among, position_above, other_name, index_present, clip_above, name_taken, no_room, reasons}
use Rattle.correction_format.specs.Correct.{correct_test, correct_outcome, correct_buffer}
use Rattle.filter_format.specs.Delta.{scan, deltas, undeltas, delta_bytes, undelta_bytes}
use Rattle.filter_format.specs.Narrow.{narrow_unit, narrow, extended, widen, lacking}
use Rattle.filter_format.specs.Block.{filter_of, header_length, bad_header, bad_data, decoded, undone, contents_test}
use Rattle.filter_format.specs.Undo.{layer_test, undo_layer}
use Rattle.filter_format.specs.Encode.{bad_given, bad_units, header_rest, encoded_data, encoded, encode_test, encode}
use Rattle.claims.specs.Marked.{All, table}

pub marked : All table
unfolding whole_part put_at filled insert_at filled_front same big_endian_from number bytes_of fields unit_bytes units_at leading_count first_not when shifted ◌then◌ declared bad_index_length bad_index index_size left_limit right_limit is_flow walked_count base_matches matched_count header_fields layout_header read_fields layout_read_header layout_read_data layout_read layout_reads layout_index layout fixed_test characters_test header_test name_test clip_test bases_test data_test read_test read_end index_due pass_test index_test past_index end_test boundary_test file_test parse_read parse_reads parse place_from read_place first_base right_end last_base view_at position_test accepted_or insert_in file_insert file_first file_last name_field_test unused_test new_clips_test new_name_test record_test record_fields layout_record change_in replacement edited clips_above name_among new_name_among position_above other_name index_present clip_above name_taken no_room first_row reasons correct_test correct_outcome correct_buffer scan deltas undeltas delta_bytes undelta_bytes narrow_unit narrow extended widen lacking filter_of header_length bad_header bad_data decoded undone contents_test layer_test undo_layer bad_given bad_units header_rest encoded_data encoded encode_test encode
marked = (refl, (refl, (refl, ((refl, refl, refl), (refl, (refl, (refl, (refl, (refl, (refl, (refl, (refl, (refl, (refl, ((refl, refl), ((refl, refl), ((refl, refl), ((refl, refl), ((refl, refl), ((refl, refl), ((refl, refl), ((refl, refl), ((refl, refl), tt)))))))))))))))))))))))
