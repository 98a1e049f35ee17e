-- Pieces of text that are put one after another, and the dash. Assumes nothing.
use mathlib.Core.Path.{◌≡◌, refl, sym, ◌∙◌}
use mathlib.Core.List.{List, [], ◌∷◌, ◌++◌}
use Prim.Native.Nat.{ℕ, ◌+◌, ◌≤◌}
use native.Mathlib.Omega.{arith}
use borrow.Author.Rules.{rules}
use borrow.Author.Tests.{eq-eqb, ne_eqb}
use lib.ListN.{length, length-append}
use Rattle.octets.proofs.Lists.{put_nil, put_put, length_put}
use Rattle.text.specs.declared.inner.TextWriter.{TextWriter}
use Rattle.text.specs.Writing.{or_dash}
use Rattle.text.specs.Writer.{HasRoom, Puts}

-- nothing, and a piece after a piece
pub puts_none : (w : TextWriter) → Puts [] w w
puts_none w = record { out = sym (put_nil w.at w.out.now); at = omega arith; same_buffer = refl }

pub room_first : (xs ys : List ℕ) {w : TextWriter} → HasRoom (xs ++ ys) w → HasRoom xs w
room_first xs ys r = let e = length-append xs ys in record { fits = omega (arith, e, r.fits) }

module _ (xs ys : List ℕ) {w : TextWriter} (r : HasRoom (xs ++ ys) w) {w' : TextWriter} (p : Puts xs w w') where
  pub room_then : HasRoom ys w'
  room_then =
      let e = length-append xs ys in
      let s = length_put w.at xs w.out.now (room_first xs ys r).fits in
      record { fits = rw (p.out, p.at, s) (omega (arith, e, r.fits)) }

  pub puts_then : {w'' : TextWriter} → Puts ys w' w'' → Puts (xs ++ ys) w w''
  puts_then q = record {
    out = q.out ∙ rw (p.at, p.out) (put_put w.at xs ys w.out.now (room_first xs ys r).fits);
    at = rw (q.at, p.at, length-append) (omega arith);
    same_buffer = q.same_buffer ∙ p.same_buffer;
  }

-- a buffer into which a piece is put keeps its length
pub puts_length : (xs : List ℕ) {w w' : TextWriter} → HasRoom xs w → Puts xs w w' → length w'.out.now ≡ length w.out.now
puts_length xs {w} r p = rw p.out (length_put w.at xs w.out.now r.fits)

-- room for two pieces, from their lengths
pub room_both : (xs ys : List ℕ) {w : TextWriter} → w.at + (length xs + length ys) ≤ length w.out.now → HasRoom (xs ++ ys) w
room_both xs ys h = let e = length-append xs ys in record { fits = omega (arith, e, h) }

-- what `search` needs for a text of pieces
pub ruleset pieces = (room_first, room_then, puts_then, rules)

-- the dash, where there is nothing; else the word as it is
pub dash : (xs : List ℕ) → length xs ≡ 0 → or_dash xs ≡ 45 ∷ []
unfolding or_dash
dash xs e = rw (eq-eqb (length xs) 0 e)

pub word : (xs : List ℕ) → (length xs ≡ 0 → ⊥) → or_dash xs ≡ xs
unfolding or_dash
word xs h = rw (ne_eqb (length xs) 0 h)

-- what `word_length` answers
pub dash_length : (xs : List ℕ) → length xs ≡ 0 → 1 ≡ length (or_dash xs)
dash_length xs e = rw (dash xs e)

pub word_length : (xs : List ℕ) → (length xs ≡ 0 → ⊥) → length xs ≡ length (or_dash xs)
word_length xs h = rw (word xs h)

pub dash_short : (xs : List ℕ) → length (or_dash xs) ≤ 1 + length xs
unfolding or_dash
dash_short [] = omega arith
dash_short (x ∷ xs) = rw (word (x ∷ xs) (λ h. omega (arith, h))) (omega arith)
