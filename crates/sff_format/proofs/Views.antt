-- The stretches that a step names hold what the read says: what is handed out of a read is the read. Assumes nothing.
use Prim.Native.Nat.{ℕ, ◌+◌, ◌*◌, ◌/◌, ◌≤◌}
use mathlib.Core.Path.{◌≡◌, refl, ◌∙◌}
use mathlib.Core.List.{List}
use native.Mathlib.Omega.{arith}
use lib.ListN.{length}
use Rattle.octets.specs.Numbers.{Bytes, words, words_at}
use Rattle.octets.proofs.Lists.{whole_in}
use Rattle.octets.proofs.Stands.{stands_read, stands_self, length_units, length-units_at, units_stand, stand_units}
use Rattle.answers.specs.Answer.{Accepted}
use Rattle.sff_format.specs.declared.ReadView.{ReadView}
use Rattle.sff_format.specs.Model.{Read}
use Rattle.sff_format.specs.ReadTest.{section_length, read_test}
use Rattle.sff_format.specs.Parse.{parse_read}
use Rattle.sff_format.specs.View.{view_at, bytes_in, view_read}
use Rattle.sff_format.proofs.ReadLaid.{name_fits, data_fits, read_valid}

module _ (characters b : List ℕ) (p : ℕ) (e : read_test characters b p ≡ Accepted) where
  abbrev view : ReadView
  view = view_at (length characters) b p

  abbrev read : Read
  read = parse_read (length characters) b p

  -- what it names lies in the file
  pub name_inside : view.name.at + view.name.size ≤ length b
  unfolding view_at
  name_inside = name_fits characters b p e

  pub data_inside : (view.values.at + view.values.size ≤ length b) × (view.increments.at + view.increments.size ≤ length b)
      × (view.bases.at + view.bases.size ≤ length b) × (view.qualities.at + view.qualities.size ≤ length b)
  unfolding view_at
  data_inside = let f = data_fits characters b p e in (omega arith, omega arith, omega arith, omega arith)

  pub name_viewed : bytes_in b view.name ≡ read.name
  unfolding view_at parse_read
  name_viewed = whole_in _ _ b name_inside

  increments_viewed : bytes_in b view.increments ≡ read.increments
  unfolding view_at parse_read
  increments_viewed = whole_in _ _ b data_inside.1

  pub bases_viewed : bytes_in b view.bases ≡ read.bases
  unfolding view_at parse_read
  bases_viewed = whole_in _ _ b data_inside.2

  pub qualities_viewed : bytes_in b view.qualities ≡ read.qualities
  unfolding view_at parse_read
  qualities_viewed = whole_in _ _ b data_inside.3

  pub values_viewed : Bytes b → bytes_in b view.values ≡ words read.values
  unfolding view_at parse_read
  values_viewed y =
      let F = length characters in
      let d = p + section_length b p in
      let f = data_inside.0 in
      let l : length (words (words_at F d b)) ≡ 2 * F = rw (length_units, length-units_at) in
      whole_in d (2 * F) b f ∙ stands_read d (2 * F) (words (words_at F d b)) b l (units_stand 2 b y F d (omega arith))

  clips_viewed :
      (view.quality_left ≡ read.quality_left) × (view.quality_right ≡ read.quality_right)
      × (view.adapter_left ≡ read.adapter_left) × (view.adapter_right ≡ read.adapter_right)
  unfolding view_at parse_read
  clips_viewed = (refl, refl, refl, refl)

  -- the values' bytes spell the values
  values-spelt : Bytes b → words_at (length (bytes_in b view.values) / 2) 0 (bytes_in b view.values) ≡ read.values
  values-spelt y =
      let vs : List ℕ = read.values in
      let n : length (words vs) / 2 ≡ length vs = rw (length_units 2 vs) (omega arith) in
      rw (values_viewed y, n) (stand_units 2 (words vs) vs 0 (omega arith) (read_valid characters b p y e).values_fit (stands_self (words vs)))

  -- what is handed out of a read is the read
  pub read_viewed : Bytes b → view_read b view ≡ read
  unfolding view_read
  read_viewed y = λ j. record {
    name = name_viewed j;
    quality_left = clips_viewed.0 j;
    quality_right = clips_viewed.1 j;
    adapter_left = clips_viewed.2 j;
    adapter_right = clips_viewed.3 j;
    values = values-spelt y j;
    increments = increments_viewed j;
    bases = bases_viewed j;
    qualities = qualities_viewed j;
  }
