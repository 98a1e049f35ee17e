-- The names of a record lie where its fields say. Assumes nothing.
use Prim.Native.Nat.{ℕ, ◌+◌, ◌≤◌}
use mathlib.Core.Path.{◌≡◌}
use mathlib.Core.List.{List}
use native.Mathlib.Omega.{arith}
use lib.ListN.{length}
use Rattle.answers.specs.Answer.{Accepted}
use Rattle.correction_format.specs.declared.Fields.{Fields}
use Rattle.correction_format.specs.Record.{record_test}
use Rattle.correction_format.specs.Fields.{FieldsOf}
use Rattle.correction_format.proofs.Asked.{fields_96, old-inside, new-inside}

module _ (x : Fields) (r : List ℕ) (e : record_test r ≡ Accepted) (o : FieldsOf x r) where
  pub whole_end : 96 ≤ length r
  whole_end = let l = fields_96 x r o e in omega arith

  pub old_end : 16 + x.old_length ≤ length r
  old_end = let h = old-inside x r o e in let l = fields_96 x r o e in omega arith

  pub old-fits : x.old_length ≤ 40
  old-fits = old-inside x r o e

  pub new_end : 56 + x.new_length ≤ length r
  new_end = let h = new-inside x r o e in let l = fields_96 x r o e in omega arith

  pub new-fits : x.new_length ≤ 40
  new-fits = new-inside x r o e
