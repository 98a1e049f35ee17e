-- Encoding is what the ZTR and SCF rules of document 002 say, each unit by itself. Assumes nothing.
use Prim.Native.Nat.{ℕ, zero, suc, ◌+◌, ◌-◌, ◌%◌, ◌^◌, ◌<◌, ◌≤◌}
use native.Mathlib.Nat.{add_comm, mod-lt, mod-eq_of_lt, mod-add-mod, add-mod_right}
use native.Mathlib.Omega.{arith}
use mathlib.Core.Path.{◌≡◌, refl, sym, ap, ◌∙◌}
use mathlib.Core.Bool.{Bool, true, false, cond}
use mathlib.Core.Logic.{◌⊎◌, inl, inr}
use mathlib.Core.List.{List, [], ◌∷◌, ◌++◌}
use borrow.Author.Tests.{leb-true, leb-false}
use lib.Dec.{leb}
use lib.ListN.{length, get_or, replicate}
use Rattle.octets.specs.Numbers.{Below, Bytes, bytes_of, unit_bytes}
use Rattle.answers.specs.Answer.{Accepted, number_of}
use Rattle.answers.proofs.Answers.{first-ok, second-ok, when-ok}
use Rattle.filter_format.specs.declared.Filter.TheVariants.{Delta, Narrow, Follow}
use Rattle.filter_format.specs.Units.{range, units_of}
use Rattle.filter_format.specs.Delta.{scan, difference, latest, delta, deltas, delta_bytes}
use Rattle.filter_format.specs.Narrow.{least_narrowed, narrow_unit, narrow}
use Rattle.filter_format.specs.Follow.{predicted, followed}
use Rattle.filter_format.specs.Block.{filter_of, header_length}
use Rattle.filter_format.specs.Undo.{Result}
use Rattle.filter_format.specs.Encode.{header_rest, encoded_data, encoded, bad_units, encode_test, encode}
use Rattle.filter_format.specs.Samples.{samples_test, encode_samples}
use Rattle.filter_format.specs.Rules.{Differences, Rounds, DeltaOf, IsSmall, Shortened, AllShortened, ShortenedOf, Predicted, PredictedOf, EncodedByRule}
use Rattle.filter_format.proofs.Wholes.{range_positive, whole_units, below_units}
use Rattle.filter_format.proofs.Results.{tested_ok, tested_makes}
use Rattle.filter_format.proofs.Sampled.{samples_whole}
use Rattle.filter_format.proofs.Refusals.{encode_zero, encode_samples_zero}
use Rattle.filter_format.proofs.Scans.{below_at, length-scan, sum-difference, below-deltas}

-- a scan that remembers the latest element: what stands at i is made of the elements at i and before it
scan-at : (out : ℕ → ℕ → ℕ) (p : ℕ) (xs : List ℕ) (i : ℕ) → i < length xs → get_or (scan out latest p xs) i 0 ≡ out (get_or (p ∷ xs) i 0) (get_or xs i 0)
unfolding scan
scan-at out p [] i h = absurd (let a : ⊥ = omega arith in a)
scan-at out p (x ∷ xs) zero h = refl
scan-at out p (x ∷ xs) (suc i) h = scan-at out x xs i (omega arith)

-- formats 64, 65, 66, and SCF samples: differences
module _ (m : ℕ) (pos : 0 < m) where
  delta_differs : (xs : List ℕ) → Below m xs → Differences m xs (delta m xs)
  delta_differs xs y = record {
    as_many = length-scan (difference m) latest 0 xs;
    each = λ i h.
        let p = get_or (0 ∷ xs) i 0 in
        let x = get_or xs i 0 in
        rw (scan-at (difference m) 0 xs i h)
        (mod-lt (x + (m - p)) pos, ap (λ (k : ℕ). k % m) (add_comm (difference m p x) p) ∙ sum-difference m p x (below_at m pos (0 ∷ xs) (pos, y) i) (below_at m pos xs y i));
  }

  deltas_rounds : (level : ℕ) (xs : List ℕ) → Below m xs → Rounds m level xs (deltas m level xs)
  unfolding deltas
  deltas_rounds zero xs y = refl
  deltas_rounds (suc level) xs y = (deltas m level xs, deltas_rounds level xs y, delta_differs (deltas m level xs) (below-deltas m pos level xs y))

-- formats 70, 71: each unit in one byte where it is small
unit_shortened : (w u : ℕ) → Shortened w u (narrow_unit w u)
unfolding narrow_unit
unit_shortened w u = go (leb u 127) refl (leb (least_narrowed w) u) refl
  where
    go : (s : Bool) → leb u 127 ≡ s → (t : Bool) → leb (least_narrowed w) u ≡ t → Shortened w u (cond s (u ∷ []) (cond t (u % 256 ∷ []) (128 ∷ bytes_of w u)))
    go true a t b = record { small = λ h. ap (λ (k : ℕ). k ∷ []) (sym (mod-eq_of_lt (let i = leb-true u 127 a in omega arith))); other = λ h. absurd (h (inl (leb-true u 127 a))) }
    go false a true b = record { small = λ h. refl; other = λ h. absurd (h (inr (let i = leb-true (least_narrowed w) u b in omega arith))) }
    go false a false b = record { small = λ h. absurd (large h); other = λ h. refl }
      where
        large : IsSmall w u → ⊥
        large (inl h) = let i = leb-false u 127 a in omega arith
        large (inr h) = let i = leb-false (least_narrowed w) u b in omega arith

units_shortened : (w : ℕ) (us : List ℕ) → AllShortened w us (narrow w us)
unfolding narrow
units_shortened w [] = refl
units_shortened w (u ∷ us) = (narrow_unit w u, narrow w us, unit_shortened w u, units_shortened w us, refl)

-- format 72: differences from what the follow bytes predict
data_predicted : (follow xs : List ℕ) → Bytes follow → Bytes xs → Predicted follow xs (followed follow xs)
unfolding followed
data_predicted follow [] z y = record { as_many = refl; first = refl; each = λ i h. absurd (let a : ⊥ = omega arith in a) }
data_predicted follow (x ∷ xs) z y = record {
  as_many = ap suc (length-scan (predicted follow) latest x xs);
  first = refl;
  each = λ i h.
      let p = get_or (x ∷ xs) i 0 in
      let v = get_or xs i 0 in
      let b = below_at 256 (omega arith) xs y.1 i in
      let f = below_at 256 (omega arith) follow z p in
      rw (scan-at (predicted follow) x xs i (omega arith)) (
        mod-lt (get_or follow p 0 + (256 - v)) (omega arith),
        mod-add-mod (get_or follow p 0 + (256 - v)) 256 v ∙ ap (λ (k : ℕ). k % 256) (let e : get_or follow p 0 + (256 - v) + v ≡ get_or follow p 0 + 256 = omega arith in e) ∙ add-mod_right (get_or follow p 0) 256 ∙ mod-eq_of_lt f,
      );
}

-- a block that encoding made, by its format's filter
module _ (room format level : ℕ) (follow s : List ℕ) (y : Bytes s) (z : Bytes follow) (carried : number_of (encode room format level follow s).answer ≡ 0) where
  test_passed : encode_test room format level follow s ≡ Accepted
  unfolding encode
  test_passed = tested_ok _ _ (encode_zero room format level follow s carried)

  block_is : (encode room format level follow s).bytes ≡ encoded format level follow s
  unfolding encode
  block_is = ap (λ (r : Result). r.bytes) (tested_makes _ (encoded format level follow s) test_passed)

  units_right : bad_units (filter_of format) s ≡ false
  unfolding encode_test
  units_right = when-ok _ _ _ (first-ok _ _ (second-ok _ _ (second-ok _ _ test_passed)))

  delta_block : (w : ℕ) → filter_of format ≡ Delta w → DeltaOf (format ∷ level ∷ replicate (header_length (Delta w) - 2) 0) w level s (encode room format level follow s).bytes
  unfolding encoded header_rest encoded_data delta_bytes bad_units
  delta_block w f =
      let whole = whole_units w s (rw f at units_right) in
      (deltas (range w) level (units_of w s), deltas_rounds (range w) (range_positive w) level (units_of w s) (below_units w s whole y), block_is ∙ rw f)

  shortened_block : (w : ℕ) → filter_of format ≡ Narrow w → ShortenedOf (format ∷ []) w s (encode room format level follow s).bytes
  unfolding encoded header_rest encoded_data
  shortened_block w f = (narrow w (units_of w s), units_shortened w (units_of w s), block_is ∙ rw f)

  predicted_block : filter_of format ≡ Follow → PredictedOf (format ∷ follow) follow s (encode room format level follow s).bytes
  unfolding encoded header_rest encoded_data
  predicted_block f = (followed follow s, data_predicted follow s z y, block_is ∙ rw f)

pub encoded_by_rule : (room level : ℕ) (follow source : List ℕ) → Bytes source → Bytes follow
    → EncodedByRule room level follow source
unfolding filter_of header_length
encoded_by_rule room level follow source y z = record {
  by_64 = λ c. delta_block room 64 level follow source y z c 1 refl;
  by_65 = λ c. delta_block room 65 level follow source y z c 2 refl;
  by_66 = λ c. delta_block room 66 level follow source y z c 4 refl;
  by_70 = λ c. shortened_block room 70 level follow source y z c 2 refl;
  by_71 = λ c. shortened_block room 71 level follow source y z c 4 refl;
  by_72 = λ c. predicted_block room 72 level follow source y z c refl;
}

-- SCF samples
pub samples_by_rule : (room precision : ℕ) (source : List ℕ) → Bytes source
    → number_of (encode_samples room precision source).answer ≡ 0
    → DeltaOf [] precision 2 source (encode_samples room precision source).bytes
unfolding encode_samples delta_bytes
samples_by_rule room precision source y c =
    let ok = tested_ok _ _ (encode_samples_zero room precision source c) in
    let whole = samples_whole room precision source ok in (
      deltas (range precision) 2 (units_of precision source),
      deltas_rounds (range precision) (range_positive precision) 2 (units_of precision source)
          (below_units precision source whole y),
      ap (λ (r : Result). r.bytes)
          (tested_makes (samples_test room precision source) (delta_bytes precision 2 source) ok),
    )
