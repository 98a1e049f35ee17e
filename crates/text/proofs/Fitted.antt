-- A text that is measured: it is put whole where it fits, and else not at all. Assumes nothing.
use Prim.Native.Nat.{ℕ, ◌≤◌, ◌<◌}
use mathlib.Core.Path.{◌≡◌, refl}
use mathlib.Core.Bool.{Bool, true, false}
use mathlib.Core.List.{List, []}
use native.Mathlib.Omega.{arith}
use lib.Dec.{ltb}
use borrow.Author.Tests.{ltb-true, ltb-false, lt-ltb, le-ltb}
use lib.ListN.{length}
use Rattle.answers.specs.Answer.{Accepted, Refused, number_of, when, accepted_or, among, Among}
use Rattle.answers.proofs.Answers.{refused_or, refused-not}
use Rattle.answers.proofs.Numbered.{when-refusing}
use Rattle.text.specs.Writing.{fitted, text_numbers}

module _ (room : ℕ) (xs : List ℕ) where
  pub fits : length xs ≤ room → fitted room xs ≡ record { answer = Accepted; text = xs }
  unfolding fitted when accepted_or
  fits h = rw (le-ltb room (length xs) h)

  pub fits_not : room < length xs → fitted room xs ≡ record { answer = Refused 26 0; text = [] }
  unfolding fitted when accepted_or
  fits_not h = rw (lt-ltb room (length xs) h)

  pub longer : (fitted room xs).answer ≡ Refused 26 0 → room < length xs
  unfolding fitted when
  longer e = go (ltb room (length xs)) refl e
    where
      go : (t : Bool) → ltb room (length xs) ≡ t → when t 26 0 ≡ Refused 26 0 → room < length xs
      go true h f = ltb-true room (length xs) h
      go false h f = refused-not 26 0 f

  pub fitted-numbers : Among text_numbers (fitted room xs).answer
  unfolding fitted among
  fitted-numbers = when-refusing (λ n p. among n text_numbers ≡ true) (ltb room (length xs)) 26 0 refl

  -- nothing is put where the number is not 0
  pub fitted_none : (number_of (fitted room xs).answer ≡ 0 → ⊥) → (fitted room xs).text ≡ []
  unfolding fitted
  fitted_none h = refused_or (when (ltb room (length xs)) 26 0) xs [] h

  pub fitted_short : length (fitted room xs).text ≤ room
  unfolding fitted when accepted_or
  fitted_short = go (ltb room (length xs)) refl
    where
      go : (t : Bool) → ltb room (length xs) ≡ t → length (accepted_or (when t 26 0) xs []) ≤ room
      go true e = omega arith
      go false e = ltb-false room (length xs) e
