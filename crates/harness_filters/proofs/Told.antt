-- The number and the count that are copied out, of what a call gave. Assumes nothing.
use mathlib.Core.Path.{◌≡◌, refl}
use Prim.Native.Nat.{ℕ}
use Rattle.std.specs.Prelude.{Result, Ok, Err}
use Rattle.std.specs.Result.{result_unwrap_or}
use Rattle.answers.specs.declared.Refusal.{Refusal}
use Rattle.answers.specs.Answer.{number_of, answer_of}
use Rattle.filter_format.specs.Undo.{Filtered}
use Rattle.filter_format.specs.Made.{filtered_of}

pub told : (r : Result ℕ Refusal) {m : Filtered} → filtered_of r ≡ m → (number_of (answer_of r) ≡ number_of m.answer) × (result_unwrap_or r 0 ≡ m.made)
told (Ok n) e = rw (← e) (refl, refl)
told (Err x) e = rw (← e) (refl, refl)
