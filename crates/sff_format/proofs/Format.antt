-- The laws that the crates above cite. Assumes nothing.
use Prim.Native.Nat.{ℕ}
use mathlib.Core.Path.{◌≡◌, sym, ap, ◌∙◌}
use mathlib.Core.Logic.{◌↔◌}
use mathlib.Core.List.{List}
use Rattle.octets.specs.Numbers.{Bytes}
use Rattle.answers.specs.Answer.{Accepted}
use Rattle.sff_format.specs.Model.{File, layout}
use Rattle.sff_format.specs.FileTest.{file_test}
use Rattle.sff_format.specs.Parse.{parse}
use Rattle.sff_format.specs.Valid.{Valid}
use Rattle.sff_format.proofs.Written.{layout-bytes}
use Rattle.sff_format.proofs.FileLaid.{file_laid, file_valid}
use Rattle.sff_format.proofs.FileTaken.{file_taken, file-back}

-- accepted exactly: some file that keeps the rules is written so
pub accepted : (file : List ℕ)
    → (Bytes file × (file_test file ≡ Accepted)) ↔ ((content : File) × Valid content × (layout content ≡ file))
accepted file = (
  (λ t. (parse file, file_valid file t.0 t.1, file_laid file t.0 t.1)),
  (λ t. (rw (← t.2) (layout-bytes t.0 t.1), ap file_test (sym t.2) ∙ file_taken t.0 t.1)),
)

-- and only one
pub one_file : (content other : File) → Valid content → Valid other → layout content ≡ layout other → content ≡ other
one_file content other v w e = sym (file-back content v) ∙ ap parse e ∙ file-back other w
