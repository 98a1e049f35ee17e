-- Numbers that are put one after another, and the padding behind a section. Assumes nothing.
use Prim.Native.Nat.{ℕ, suc, ◌+◌, ◌-◌, ◌≤◌, ◌<◌}
use mathlib.Core.Path.{◌≡◌, refl, sym, ◌∙◌}
use mathlib.Core.List.{List, ◌∷◌, ◌++◌}
use native.Mathlib.Omega.{arith}
use lib.ListN.{length, replicate, drop, get_or, length-append, drop_of_length-le}
use native.Mathlib.Numerals.{add-one}
use lib.Seq.{drop-cons}
use Rattle.octets.specs.Parts.{put_at, up8, filled, padded}
use Rattle.octets.specs.Numbers.{bytes_of, fields}
use Rattle.octets.proofs.Lists.{put_nil, put_next, length_put}
use Rattle.octets.proofs.Digits.{length-bytes_of}
use Rattle.sff_sections.specs.Sections.{AllNarrow}

-- fields that are still to be put: what they lead to, and their room
pub record Putting (target : List ℕ) (rest : List (ℕ × ℕ)) (place : ℕ) (buffer : List ℕ) : Type 0 where
  pub leads : put_at place (fields rest) buffer ≡ target
  pub fits : place + length (fields rest) ≤ length buffer
  pub narrow : AllNarrow rest

module _ {target : List ℕ} {place : ℕ} {buffer : List ℕ} (xs : List (ℕ × ℕ)) (i : ℕ) (p : Putting target (drop i xs) place buffer) where
  pub put_done : length xs ≤ i → buffer ≡ target
  unfolding fields
  put_done h = let l = p.leads in let l₁ = rw (drop_of_length-le xs h) at l in sym (put_nil place buffer) ∙ l₁

  module _ (h : i < length xs) where
    abbrev pub x : ℕ × ℕ
    x = get_or xs i (0, 0)

    abbrev pub rest : List (ℕ × ℕ)
    rest = drop (suc i) xs

    first : Putting target (x ∷ rest) place buffer
    first = rw (drop-cons xs i (0, 0) h) at p

    sized : length (bytes_of x.0 x.1 ++ fields rest) ≡ x.0 + length (fields rest)
    sized = length-append (bytes_of x.0 x.1) (fields rest) ∙ rw length-bytes_of refl

    pub put_one : (x.0 ≤ 8) × (place + x.0 ≤ length buffer)
    unfolding fields
    put_one = let f = first.fits in (first.narrow.0, omega (arith, f, sized))

    pub put_more : {after : List ℕ} → after ≡ put_at place (bytes_of x.0 x.1) buffer → Putting target (drop (i + 1) xs) (place + x.0) after
    unfolding fields
    put_more e =
        let ys : List ℕ = bytes_of x.0 x.1 in
        let len : length ys ≡ x.0 = length-bytes_of x.0 x.1 in
        let f = first.fits in
        let same : length (put_at place ys buffer) ≡ length buffer = length_put place ys buffer (rw len put_one.1) in
        rw (e, add-one) record {
          leads = put_next place x.0 ys (fields rest) buffer len put_one.1 ∙ first.leads;
          fits = rw same (omega (arith, f, sized));
          narrow = first.narrow.1;
        }

-- zeros behind a list
pub padding_put : (at n : ℕ) (xs s : List ℕ) → length xs ≡ n → at + n ≤ length s
    → put_at (at + n) (replicate (up8 n - n) 0) (put_at at xs s) ≡ put_at at (padded xs) s
unfolding filled
padding_put at n xs s e h = rw e (put_next at n xs (replicate (up8 n - n) 0) s e h)
