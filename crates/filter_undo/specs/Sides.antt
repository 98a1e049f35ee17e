-- The words of this crate's contracts, for two buffers that change places at each layer. Assumes nothing: these are
-- definitions.
use Rattle.std.specs.Prelude.{◌≡◌, Bool, true, false, not, List, ℕ}
use Rattle.filter_format.specs.Undo.{Filtered}
use Rattle.filter_format.specs.Undo.{Result, filtered, first_after, second_after}

-- what a buffer holds afterwards, by whether it is the caller's first
abbrev pub after : Bool → Result → List ℕ → List ℕ
after true result buffer = first_after result buffer
after false result buffer = second_after buffer

-- a call that comes to `result`: what it answers, and what both buffers hold before and after it, where `is-first` says
-- whether `here` is the caller's first
abbrev pub Undid : Result → Bool → List ℕ → List ℕ → List ℕ → List ℕ → Filtered → Type 0
Undid result is-first here here' there there' r =
    (r ≡ filtered result) × ((here' ≡ after is-first result here) × (there' ≡ after (not is-first) result there))
