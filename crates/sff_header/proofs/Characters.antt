-- The flow and key characters that are handed out lie within an accepted header; where it is refused there are none.
-- Assumes nothing.
use Prim.Native.Nat.{ℕ, ◌+◌, ◌≤◌}
use mathlib.Core.Path.{◌≡◌, sym, ◌∙◌}
use mathlib.Core.List.{List, []}
use native.Mathlib.Omega.{arith}
use lib.ListN.{length}
use Rattle.octets.specs.Parts.{whole_part}
use Rattle.octets.proofs.Lists.{whole_in}
use Rattle.answers.specs.Answer.{Accepted, Refused, accepted_or}
use Rattle.sff_format.specs.HeaderTest.{key_length, flows, header_test, file_flow_characters, file_key}
use Rattle.sff_format.proofs.HeaderLaws.{header_fits, header_sized, flow_characters_given, key_given}

module _ (file : List ℕ) where
  -- the header's test refused
  module _ {n p : ℕ} (r : Refused n p ≡ header_test file) where
    pub no_flow_characters : [] ≡ file_flow_characters file
    unfolding file_flow_characters accepted_or
    no_flow_characters = rw (← r)

    pub no_key : [] ≡ file_key file
    unfolding file_key accepted_or
    no_key = rw (← r)

  -- it accepted
  module _ (a : Accepted ≡ header_test file) where
    inside : 31 + flows file + key_length file ≤ length file
    inside =
        let s = header_sized file (sym a) in
        let f = header_fits file (sym a) in
        omega arith

    pub flow_characters_part : whole_part 31 (flows file) file ≡ file_flow_characters file
    flow_characters_part =
        whole_in 31 (flows file) file (omega (arith, inside)) ∙ sym (flow_characters_given file (sym a))

    pub key_part : whole_part (31 + flows file) (key_length file) file ≡ file_key file
    key_part = whole_in (31 + flows file) (key_length file) file (omega (arith, inside)) ∙ sym (key_given file (sym a))
