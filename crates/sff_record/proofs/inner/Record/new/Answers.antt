-- A well-formed record has 96 bytes.
use Rattle.correction_format.proofs.Records.{record_96}
use Rattle.sff_record.proofs.inner.Record.new.Goals as goal

pub record_fields-requires : goal.record_fields-requires
record_fields-requires c = record_96 _ c.requires
