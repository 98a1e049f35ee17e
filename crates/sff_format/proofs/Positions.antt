-- A read that is chosen by its position: it is accepted, and its insert is the read's, within its bases. Assumes
-- nothing.
use Prim.Native.Nat.{ℕ, zero, suc, ◌+◌, ◌-◌, ◌*◌, ◌≤◌, ◌<◌}
use mathlib.Core.Path.{◌≡◌, refl, sym, ◌∙◌}
use mathlib.Core.Bool.{Bool}
use mathlib.Core.List.{List, []}
use native.Mathlib.Omega.{arith}
use lib.ListN.{length}
use borrow.Author.Tests.{ltb-true, lt-ltb, le-ltb, eqb-false, eq-eqb, ne_eqb, not-false}
use Rattle.octets.specs.Parts.{part}
use Rattle.octets.specs.Numbers.{Bytes, words_at}
use Rattle.octets.proofs.Stands.{number_small}
use Rattle.answers.specs.Answer.{Answer, Accepted, Refused, when, ◌then◌, accepted_or}
use Rattle.sff_format.specs.HeaderTest.{read_count, flows, flow_characters}
use Rattle.sff_format.specs.ReadTest.{read_test}
use Rattle.sff_format.specs.FileTest.{boundary_test, file_test}
use Rattle.sff_format.specs.Parse.{parse_read, parse}
use Rattle.sff_format.specs.Places.{read_at, place_from, read_place}
use Rattle.sff_format.specs.Insert.{insert_first, insert_last, insert_of}
use Rattle.sff_format.specs.View.{view_at, view_first, view_last, bytes_in, insert_in}
use Rattle.sff_format.specs.Position.{position_test, signal_test, view_of, file_insert, file_first, file_last}
use Rattle.answers.proofs.Answers.{first-ok, second-ok, when-ok}
use Rattle.sff_format.proofs.HeaderLaws.{fits_31, characters-length}
use Rattle.sff_format.proofs.ReadLaid.{data_fits}
use Rattle.sff_format.proofs.Boundaries.{accepted-read}
use Rattle.sff_format.proofs.FileLaid.{head_ok, sections_ok}
use Rattle.sff_format.proofs.Places.{read_found}
use Rattle.sff_format.proofs.Views.{data_inside}
use Rattle.sff_format.proofs.Inserted.{first_viewed, last_viewed, insert_viewed, span_viewed, insert-part}
use Rattle.sff_format.proofs.ViewTests.{insert_whole, read_view_accepted}

-- the read that a walk from an accepted boundary finds is accepted
pub place-accepted : (b : List ℕ) (n i p : ℕ) (q : Bool) → boundary_test b n p q ≡ Accepted → i < n → read_test (flow_characters b) b (place_from b i p q) ≡ Accepted
unfolding place_from
place-accepted b zero i p q a h = absurd (omega arith)
place-accepted b (suc n) zero p q a h = (accepted-read b n p q a).1
place-accepted b (suc n) (suc i) p q a h = place-accepted b n i _ _ (accepted-read b n p q a).2 (omega arith)

module _ (b : List ℕ) (i : ℕ) (e : file_test b ≡ Accepted) (h : i < read_count b) where
  pub read-accepted : read_test (flow_characters b) b (read_place b i) ≡ Accepted
  unfolding read_place
  read-accepted = place-accepted b (read_count b) i _ _ (sections_ok b e) h

-- what the code asks of a position, and what it answers
pub position-there : (file : List ℕ) (position : ℕ) → file_test file ≡ Accepted → position < read_count file
    → Accepted ≡ position_test file position
unfolding position_test ◌then◌ when
position-there file position e h = rw (e, lt-ltb position (read_count file) h)

pub position_none : (file : List ℕ) (position : ℕ) → file_test file ≡ Accepted → read_count file ≤ position
    → Refused 21 0 ≡ position_test file position
unfolding position_test ◌then◌ when
position_none file position e h = rw (e, le-ltb position (read_count file) h)

pub position_refused : (file : List ℕ) (position n place : ℕ) → file_test file ≡ Refused n place
    → position_test file position ≡ Refused n place
unfolding position_test ◌then◌
position_refused file position n place e = rw e

-- what stands for a refused call
module _ (b : List ℕ) (i n p : ℕ) (e : position_test b i ≡ Refused n p) where
  pub insert_refused : [] ≡ file_insert b i
  unfolding file_insert accepted_or
  insert_refused = rw e

  pub first_refused_lem : 1 ≡ file_first b i
  unfolding file_first accepted_or
  first_refused_lem = rw e

  pub last_refused : 0 ≡ file_last b i
  unfolding file_last accepted_or
  last_refused = rw e

module _ (file : List ℕ) (position : ℕ) (e : position_test file position ≡ Accepted) where
  pub position-file : file_test file ≡ Accepted
  unfolding position_test
  position-file = first-ok _ _ e

  pub position-below : position < read_count file
  unfolding position_test
  position-below = ltb-true position (read_count file) (not-false _ (when-ok _ _ _ (second-ok _ _ e)))

  pub first-view : view_first (view_of file position) ≡ file_first file position
  unfolding file_first accepted_or
  first-view = rw e

  pub last_view : view_last (view_of file position) ≡ file_last file position
  unfolding file_last accepted_or
  last_view = rw e

  pub insert-view : insert_in (view_of file position) (bytes_in file (view_of file position).bases)
      ≡ file_insert file position
  unfolding file_insert accepted_or
  insert-view = rw e

  count : length (flow_characters file) ≡ flows file
  count = characters-length file (head_ok file position-file)

  there : read_test (flow_characters file) file (read_place file position) ≡ Accepted
  there = read-accepted file position position-file position-below

  -- the flow values lie in the file
  pub values-size : (view_of file position).values.size ≡ 2 * flows file
  unfolding view_at
  values-size = refl

  pub values-inside : (view_of file position).values.at + 2 * flows file ≤ length file
  unfolding view_at
  values-inside =
      let f = rw count at (data_fits (flow_characters file) file (read_place file position) there) in
      omega arith

  module _ (y : Bytes file) where
    read_is : read_at (parse file) position ≡ parse_read (flows file) file (read_place file position)
    read_is = read_found file y position-file position position-below

    pub values_chosen : (read_at (parse file) position).values
        ≡ words_at (flows file) (view_of file position).values.at file
    unfolding view_at parse_read
    values_chosen = rw read_is

    -- what is handed over of an accepted file is the insert of its read
    pub insert_chosen : file_insert file position
        ≡ insert_of (read_at (parse file) position) (read_at (parse file) position).bases
    insert_chosen =
        sym insert-view
        ∙ rw read_is (rw count at (insert_viewed (flow_characters file) file (read_place file position) y there))

    pub first_chosen : file_first file position ≡ insert_first (read_at (parse file) position)
    first_chosen =
        sym first-view
        ∙ rw read_is (rw count at (first_viewed (flow_characters file) file (read_place file position) y there))

    pub last_chosen : file_last file position ≡ insert_last (read_at (parse file) position)
    last_chosen =
        sym last_view
        ∙ rw read_is (rw count at (last_viewed (flow_characters file) file (read_place file position) y there))

    -- it is a part of the file, within the bases of the read
    pub insert_inside : (file_insert file position ≡ part ((view_of file position).bases.at + (file_first file position - 1)) (suc (file_last file position) - file_first file position) file)
        × (file_first file position - 1 + (suc (file_last file position) - file_first file position) ≤ (view_of file position).bases.size)
    insert_inside =
        let d = rw count at (data_inside (flow_characters file) file (read_place file position) there) in
        let s = rw count at (span_viewed (flow_characters file) file (read_place file position) y there).1 in
        let t = (rw count at (insert-part (flow_characters file) file (read_place file position) y there)) (view_of file position).bases refl d.2 in
        rw (← first-view, ← last_view) (sym insert-view ∙ t, s)

-- as many bases as from the first to the last, none if it is refused
pub insert-length : (file : List ℕ) (position : ℕ) → Bytes file
    → length (file_insert file position) ≡ suc (file_last file position) - file_first file position
unfolding file_insert file_first file_last accepted_or
insert-length file position y = go (position_test file position) refl
  where
    go : (a : Answer) → position_test file position ≡ a
        → length (accepted_or a (insert_in (view_of file position) (bytes_in file (view_of file position).bases)) [])
        ≡ suc (accepted_or a (view_last (view_of file position)) 0) - accepted_or a (view_first (view_of file position)) 1
    go Accepted e = insert_whole file (view_of file position) (rw (count file position e) at (read_view_accepted (flow_characters file) file (read_place file position) y (there file position e)))
    go (Refused n p) e = refl

-- what the code asks for a signal summary, and what it answers
pub signal_none : (file : List ℕ) (position : ℕ) → position_test file position ≡ Accepted → flows file ≡ 0
    → Refused 32 0 ≡ signal_test file position
unfolding signal_test ◌then◌ when
signal_none file position e h = rw (e, eq-eqb (flows file) 0 h)

pub signal-there : (file : List ℕ) (position : ℕ) → position_test file position ≡ Accepted → (flows file ≡ 0 → ⊥)
    → Accepted ≡ signal_test file position
unfolding signal_test ◌then◌ when
signal-there file position e h = rw (e, ne_eqb (flows file) 0 h)

pub signal_refused : (file : List ℕ) (position n place : ℕ) → position_test file position ≡ Refused n place
    → signal_test file position ≡ Refused n place
unfolding signal_test ◌then◌
signal_refused file position n place e = rw e

module _ (file : List ℕ) (position : ℕ) (e : signal_test file position ≡ Accepted) where
  pub signal-position : position_test file position ≡ Accepted
  unfolding signal_test
  signal-position = first-ok _ _ e

  pub signal-flows : 1 ≤ flows file
  unfolding signal_test
  signal-flows = let h = eqb-false (flows file) 0 (when-ok _ _ _ (second-ok _ _ e)) in omega arith

  pub flows_small : Bytes file → flows file < 65536
  flows_small y =
      let f = fits_31 file (head_ok file (position-file file position signal-position)) in
      number_small 2 28 file y (omega arith)
