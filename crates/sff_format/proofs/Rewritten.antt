-- What the writers leave is read back as it was written, and what was read is written again as it was. Assumes nothing.
use Prim.Native.Nat.{ℕ, ◌≤◌}
use mathlib.Core.Path.{◌≡◌, sym, ap, ◌∙◌}
use mathlib.Core.Bool.{false}
use mathlib.Core.List.{List}
use lib.ListN.{length, take}
use Rattle.octets.specs.Parts.{put_at}
use Rattle.octets.specs.Numbers.{Bytes}
use Rattle.octets.proofs.Lists.{take-front}
use Rattle.answers.specs.Answer.{Accepted}
use Rattle.sff_format.specs.Rules.{declared}
use Rattle.sff_format.specs.Model.{File, no_index, layout}
use Rattle.sff_format.specs.Valid.{Valid}
use Rattle.sff_format.specs.HeaderTest.{index_offset, index_length, file_flow_characters, file_key}
use Rattle.sff_format.specs.FileTest.{file_test}
use Rattle.sff_format.specs.Parse.{parse}
use Rattle.sff_format.specs.Step.{read_back}
use Rattle.sff_format.specs.Writing.{write_each}
use Rattle.sff_format.proofs.HeaderLaws.{flow_characters_given, key_given}
use Rattle.sff_format.proofs.FileLaid.{head_ok, file_laid, file_valid}
use Rattle.sff_format.proofs.FileTaken.{file_taken, file-back}
use Rattle.sff_format.proofs.Written.{layout-bytes}
use Rattle.sff_format.proofs.Steps.{reads_in_order}
use Rattle.sff_format.proofs.Appends.{no_index_read}
use Rattle.sff_format.proofs.Writers.{write_each_lem}

-- the reader gives the reads of a file that keeps the rules
laid_back : (f : File) → Valid f → read_back (layout f) ≡ f.reads
laid_back f v = reads_in_order (layout f) (file_taken f v) (layout-bytes f v) ∙ ap (λ (g : File). g.reads) (file-back f v)

pub written_back : (content : File) → content.index ≡ no_index → Valid content → (buffer : List ℕ)
    → length (layout content) ≤ length buffer
    → read_back (take (write_each buffer content).outcome.length (write_each buffer content).buffer) ≡ content.reads
written_back content e v buffer h =
    rw (write_each_lem content e v buffer h, take-front (layout content) buffer) (laid_back content v)

module _ (file : List ℕ) (y : Bytes file) (e : file_test file ≡ Accepted) (d : declared (index_offset file) (index_length file) ≡ false) where
  -- what is read: the characters that the header's calls hand out, the reads from the reader
  abbrev again : File
  again = record {
    flow_characters = file_flow_characters file;
    key = file_key file;
    index = no_index;
    reads = read_back file;
  }

  same : again ≡ parse file
  unfolding parse
  same = λ j. record {
    flow_characters = flow_characters_given file (head_ok file e) j;
    key = key_given file (head_ok file e) j;
    index = sym (no_index_read file d) j;
    reads = reads_in_order file e y j;
  }

  pub written-again : (buffer : List ℕ) → length file ≤ length buffer
      → write_each buffer
      (record { flow_characters = file_flow_characters file; key = file_key file; index = no_index; reads = read_back file })
      ≡ record { outcome = record { answer = Accepted; length = length file }; buffer = put_at 0 file buffer }
  written-again buffer h =
      let l : layout (parse file) ≡ file = file_laid file y e in
      let w = write_each_lem (parse file) (no_index_read file d) (file_valid file y e) buffer (rw l h) in
      ap (write_each buffer) same ∙ (rw l at w)
