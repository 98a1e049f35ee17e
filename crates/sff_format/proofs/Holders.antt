-- A read that is lent is refused exactly if no accepted file could hold it. Assumes nothing.
use Prim.Native.Nat.{ℕ, ◌+◌, ◌≤◌, ◌<◌}
use mathlib.Core.Path.{◌≡◌, ap}
use mathlib.Core.Bool.{false}
use mathlib.Core.Logic.{◌↔◌}
use mathlib.Core.List.{List, [], ◌∷◌}
use native.Mathlib.Omega.{arith}
use lib.ListN.{length, take}
use Rattle.octets.specs.Numbers.{Bytes}
use Rattle.octets.proofs.AllBytes.{bytes_take}
use Rattle.answers.specs.Answer.{Accepted}
use Rattle.sff_format.specs.Rules.{declared}
use Rattle.sff_format.specs.Model.{Read, File, layout_read, layout}
use Rattle.sff_format.specs.Valid.{ValidRead, Valid}
use Rattle.sff_format.specs.HeaderTest.{index_offset, index_length, read_count, flow_characters}
use Rattle.sff_format.specs.FileTest.{file_test}
use Rattle.sff_format.specs.Parse.{parse}
use Rattle.sff_format.specs.Places.{read_at}
use Rattle.sff_format.specs.Writing.{given_test, append_test, Holder, FitsSlices}
use Rattle.sff_format.proofs.HeaderLaws.{count_is, characters_are}
use Rattle.sff_format.proofs.FileLaid.{reads-counted, file_valid}
use Rattle.sff_format.proofs.FileTaken.{header_first, file_taken, file-back}
use Rattle.sff_format.proofs.Written.{layout-bytes}
use Rattle.sff_format.proofs.Keeps.{valid_at, plain, plain_valid}
use Rattle.sff_format.proofs.Given.{given_valid, valid_given}
use Rattle.sff_format.proofs.Appends.{carried, carried_out}

module _ (characters : List ℕ) (r : Read) where
  -- a read that an accepted file holds keeps the rules of its flow characters
  holder_valid : Holder characters r → ValidRead characters r
  unfolding parse
  holder_valid h =
      let v = file_valid h.file h.bytes h.accepted in
      let n = reads-counted h.file in
      let i = h.inside in
      rw (h.characters_same, h.holds) at (valid_at (flow_characters h.file) (parse h.file).reads h.position (omega (arith, n, i)) v.reads_good)

-- and one that keeps the rules of an accepted file's flow characters is held by an accepted file with these: the one
-- written with that read alone
module _ (b : List ℕ) (y : Bytes b) (e : file_test b ≡ Accepted) (r : Read) (g : ValidRead (flow_characters b) r) where
  alone : File
  alone = plain (flow_characters b) (parse b).key (r ∷ [])

  alone_valid : Valid alone
  unfolding alone parse
  alone_valid =
      let v = file_valid b y e in
      plain_valid (flow_characters b) (parse b).key (r ∷ []) v.characters_good v.header_fits (omega arith) (g, tt)

  valid_holder : Holder (flow_characters b) r
  unfolding alone
  valid_holder =
      let f = plain (flow_characters b) (parse b).key (r ∷ []) in
      let n : read_count (layout f) ≡ 1 = count_is (layout f) f alone_valid (header_first f alone_valid) in
      record {
        file = layout f;
        bytes = layout-bytes f alone_valid;
        accepted = file_taken f alone_valid;
        characters_same = characters_are (layout f) f alone_valid (header_first f alone_valid);
        position = 0;
        inside = omega (arith, n);
        holds = ap (λ (g : File). read_at g 0) (file-back f alone_valid);
      }

-- A read's own reasons to be refused (30, 5, 6, 9, 10, 11) hold exactly if no accepted file with these flow characters
-- could hold it.
pub given_exactly : (file : List ℕ) (read : Read) → Bytes file → file_test file ≡ Accepted → FitsSlices read
    → (given_test (flow_characters file) read ≡ Accepted) ↔ Holder (flow_characters file) read
given_exactly file read y e t = (
  (λ g. valid_holder file y e read (given_valid (flow_characters file) read t g)),
  (λ k. valid_given (flow_characters file) read (holder_valid (flow_characters file) read k)),
)

-- In a buffer with room, after a file with no index and fewer reads than the count can say, an append is carried out
-- exactly if some such file could hold the read.
module _ (buffer : List ℕ) (len : ℕ) (read : Read) (y : Bytes buffer) (t : FitsSlices read) (h : len ≤ length buffer) (e : file_test (take len buffer) ≡ Accepted)
    (i : declared (index_offset (take len buffer)) (index_length (take len buffer)) ≡ false) (n : read_count (take len buffer) < 4294967295)
    (m : len + length (layout_read read) ≤ length buffer) where
  pub append_exactly : (append_test buffer len read ≡ Accepted) ↔ Holder (flow_characters (take len buffer)) read
  append_exactly =
      let g = given_exactly (take len buffer) read (bytes_take len buffer y) e t in (
        (λ a. g.0 (carried buffer len read a).given),
        (λ k. carried_out buffer len read (record { stated = h; accepted = e; no_index_lem = i; below = λ q. let a : ⊥ = omega (arith, n, q) in a; given = g.1 k; room = m })),
      )
