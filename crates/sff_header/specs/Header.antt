-- The header's fields as the code passes them on. Assumes nothing: these are definitions.
use Rattle.std.specs.Prelude.{ℕ, ◌≡◌, ◌<◌, List}
use Rattle.sff_format.specs.HeaderTest.{index_offset, index_length, read_count, header_length, key_length, flows}
use Rattle.sff_header.specs.declared.Header.{Header}
use Rattle.sff_header.specs.declared.inner.HeadedFile.TheInside.{Inside}

-- "index offset at 8 (8 bytes), index length at 16 (4), reads at 20 (4), header length at 24 (2), key length K at 26
-- (2), flows F at 28 (2)"
unfoldable pub header_of : List ℕ → Header
header_of file = record {
  index_offset = index_offset file;
  index_length = index_length file;
  reads = read_count file;
  length = header_length file;
  key_length = key_length file;
  flows = flows file;
}

-- each field is below the limit of its width; the index offset has 64 bits, as every number of the code
pub record FieldsFit (header : Header) : Type 0 where
  pub index_length_small : header.index_length < 4294967296
  pub reads_small : header.reads < 4294967296
  pub length_small : header.length < 65536
  pub key_length_small : header.key_length < 65536
  pub flows_small : header.flows < 65536

-- the same: the numbers beside a file's bytes are those that stand there
pub record FieldsRead (file : Inside) : Type 0 where
  pub index_offset_is : file.index_offset ≡ index_offset file.bytes.now
  pub index_length_is : file.index_length ≡ index_length file.bytes.now
  pub reads_is : file.reads ≡ read_count file.bytes.now
  pub length_is : file.length ≡ header_length file.bytes.now
  pub key_length_is : file.key_length ≡ key_length file.bytes.now
  pub flows_is : file.flows ≡ flows file.bytes.now
