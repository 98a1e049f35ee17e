-- A buffer that is filled from place `at` on, run by run: one law for both loops that write. Assumes nothing.
use mathlib.Core.Path.{◌≡◌, refl, sym, ap, ◌∙◌}
use mathlib.Core.List.{List, [], ◌++◌, append_assoc, append-nil}
use Prim.Native.Nat.{ℕ, ◌+◌, ◌≤◌}
use native.Mathlib.Omega.{arith}
use lib.ListN.{length, length-append}
use Rattle.octets.specs.Parts.{put_at}
use Rattle.octets.proofs.Lists.{put_nil, put_put, length_put}

-- what is made, the buffer from `at` to `to`, and what is to come are the goal; the rest of the buffer is as it was
pub record Filling (at to : ℕ) (come goal out₀ out : List ℕ) : Type 0 where
  pub made : List ℕ
  pub goes : made ++ come ≡ goal
  pub place : to ≡ at + length made
  pub fits : at + length goal ≤ length out₀
  pub is : out ≡ put_at at made out₀

pub filling_start : (at : ℕ) (goal out : List ℕ) → at + length goal ≤ length out → Filling at at goal goal out out
filling_start at goal out h = record { made = []; goes = refl; place = omega arith; fits = h; is = sym (put_nil at out) }

module _ {at to : ℕ} {come goal out₀ out : List ℕ} (f : Filling at to come goal out₀ out) where
  sum : length f.made + length come ≡ length goal
  sum = sym (length-append f.made come) ∙ ap length f.goes

  pub filling_same : length out ≡ length out₀
  filling_same = ap length f.is ∙ length_put at f.made out₀ (omega (arith, sum, f.fits))

  -- the run u is to come first
  module _ (u t : List ℕ) (e : come ≡ u ++ t) where
    pub filling_room : to + length u ≤ length out
    filling_room = let n : length come ≡ length u + length t = ap length e ∙ length-append u t in omega (arith, n, sum, f.place, f.fits, filling_same)

    pub filling_more : (next : ℕ) (out' : List ℕ) → next ≡ to + length u → out' ≡ put_at to u out → Filling at next t goal out₀ out'
    filling_more next out' n d = record {
      made = f.made ++ u;
      goes = append_assoc f.made u t ∙ ap (λ (l : List ℕ). f.made ++ l) (sym e) ∙ f.goes;
      place = rw (length-append f.made u) (omega (arith, n, f.place));
      fits = f.fits;
      is = d ∙ rw (f.is, f.place) (put_put at f.made u out₀ (omega (arith, sum, f.fits)));
    }

  module _ (e : come ≡ []) where
    all : f.made ≡ goal
    all = sym (append-nil f.made) ∙ ap (λ (l : List ℕ). f.made ++ l) (sym e) ∙ f.goes

    pub filling_done : out ≡ put_at at goal out₀
    filling_done = f.is ∙ ap (λ (l : List ℕ). put_at at l out₀) all

    pub filling_count : to ≡ at + length goal
    filling_count = f.place ∙ ap (λ (l : List ℕ). at + length l) all
