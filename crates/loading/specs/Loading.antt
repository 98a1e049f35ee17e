-- A word of this crate's contracts. Assumes nothing: this is a definition.
use Rattle.std.specs.Prelude.{ℕ, ◌≤◌, Option, IfSome, List, length}

-- what was read, if anything, stands in the buffer
abbrev pub Fits : Option ℕ → List ℕ → Type 0
Fits loaded buffer = IfSome loaded (λ n. n ≤ length buffer)
