-- What an accepted file says. Assumes nothing: these are definitions.
use Rattle.std.specs.Prelude.{ℕ, zero, suc, ◌+◌, ◌*◌, Bool, false, List, [], ◌∷◌}
use Rattle.octets.specs.Parts.{part}
use Rattle.octets.specs.Numbers.{words_at}
use Rattle.sff_format.specs.Model.{Read, File}
use Rattle.sff_format.specs.HeaderTest.{index_offset, index_length, read_count, header_length, flows, flow_characters, key_characters}
use Rattle.sff_format.specs.ReadTest.{section_length, name_length, base_count, quality_left, quality_right, adapter_left, adapter_right, read_end}
use Rattle.sff_format.specs.FileTest.{past_index, now_passed}

-- the read at a place, of F flow values
unfoldable pub parse_read : ℕ → List ℕ → ℕ → Read
parse_read F file place =
    let data-start = place + section_length file place in
    let count = base_count file place in
    record {
      name = part (place + 16) (name_length file place) file;
      quality_left = quality_left file place;
      quality_right = quality_right file place;
      adapter_left = adapter_left file place;
      adapter_right = adapter_right file place;
      values = words_at F data-start file;
      increments = part (data-start + 2 * F) count file;
      bases = part (data-start + 2 * F + count) count file;
      qualities = part (data-start + 2 * F + count + count) count file;
    }

-- n reads from the boundary at a place on
unfoldable pub parse_reads : List ℕ → ℕ → ℕ → Bool → List Read
parse_reads file zero place passed = []
parse_reads file (suc n) place passed =
    let at = past_index file place passed in
    parse_read (flows file) file at ∷ parse_reads file n (read_end (flows file) file at) (now_passed file place passed)

-- header, index and reads
unfoldable pub parse : List ℕ → File
parse file = record {
  flow_characters = flow_characters file;
  key = key_characters file;
  index = record { offset = index_offset file; bytes = part (index_offset file) (index_length file) file };
  reads = parse_reads file (read_count file) (header_length file) false;
}
