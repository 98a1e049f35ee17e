-- "eight at most": eight filters are undone, and the ninth is refused, computed. Assumes nothing.
use mathlib.Core.Path.{◌≡◌, refl}
use mathlib.Core.List.{List, [], ◌∷◌}
use Prim.Native.Nat.{ℕ, zero, suc}
use Rattle.octets.specs.Numbers.{big_endian_from, number, bytes_of, unit_bytes, units_at}
use Rattle.octets.specs.Scans.{leading_count, first_not}
use Rattle.answers.specs.Answer.{Refused, when, ◌then◌, accepted_or}
use Rattle.filter_format.specs.Delta.{scan, deltas, undeltas, delta_bytes, undelta_bytes}
use Rattle.filter_format.specs.Block.{filter_of, header_length, bad_header, bad_data, decoded, undone, contents_test}
use Rattle.filter_format.specs.Undo.{making, refusing, block_test, undo_from, undo}
use Rattle.filter_format.specs.Encode.{header_rest, encoded_data, encoded}

-- a block under n filters of format 64, level 1
pub under : ℕ → List ℕ → List ℕ
under zero b = b
under (suc n) b = encoded 64 1 [] (under n b)

pub eight_at_most : (undo 32 (under 8 (0 ∷ 7 ∷ [])) ≡ making (7 ∷ [])) × (undo 32 (under 9 (0 ∷ 7 ∷ [])) ≡ refusing (Refused 44 0))
unfolding under big_endian_from number bytes_of unit_bytes units_at leading_count first_not when ◌then◌ accepted_or scan deltas undeltas delta_bytes undelta_bytes filter_of header_length bad_header bad_data decoded undone contents_test block_test undo_from header_rest encoded_data encoded
eight_at_most = (refl, refl)
