-- The flow walk and the calls: the test of increments and bases accepts exactly if both go to the end. Assumes nothing.
use Prim.Native.Nat.{ℕ, ◌+◌, ◌≤◌, ◌<◌}
use mathlib.Core.Path.{◌≡◌}
use mathlib.Core.Bool.{◌&&◌}
use mathlib.Core.List.{List, [], ◌∷◌}
use native.Mathlib.Omega.{arith}
use lib.ListN.{length}
use Rattle.octets.proofs.Scan.{more_le}
use Rattle.answers.specs.Answer.{Accepted, Refused}
use Rattle.answers.proofs.Answers.{first-ok, second-ok, both_ok, under_ok, ok_under, stopped-in, then_refused}
use Rattle.sff_format.specs.Rules.{is_flow, base_matches, walked_count, matched_count}
use Rattle.sff_format.specs.ReadTest.{bases_test}

-- a run is at most the length
walk_le : (F f : ℕ) (xs : List ℕ) → walked_count F f xs ≤ length xs
unfolding walked_count
walk_le F f [] = omega arith
walk_le F f (x ∷ xs) = more_le (is_flow F (f + x)) _ _ (walk_le F (f + x) xs)

call_le : (characters : List ℕ) (f : ℕ) (xs ys : List ℕ) → matched_count characters f xs ys ≤ length ys
unfolding matched_count
call_le characters f [] ys = omega arith
call_le characters f (x ∷ xs) [] = omega arith
call_le characters f (x ∷ xs) (y ∷ ys) = more_le (is_flow (length characters) (f + x) && base_matches characters (f + x) y) _ _ (call_le characters (f + x) xs ys)

-- increments and bases are accepted exactly if the walk and the calls go to the end
module _ (characters xs ys : List ℕ) where
  pub walk_ok : bases_test characters xs ys ≡ Accepted → walked_count (length characters) 0 xs ≡ length xs
  unfolding bases_test
  walk_ok e = let h : length xs ≤ walked_count (length characters) 0 xs = under_ok _ _ _ _ (first-ok _ _ e) in omega (arith, h, walk_le (length characters) 0 xs)

  pub calls_ok : bases_test characters xs ys ≡ Accepted → matched_count characters 0 xs ys ≡ length ys
  unfolding bases_test
  calls_ok e = let h : length xs + length ys ≤ length xs + matched_count characters 0 xs ys = under_ok _ _ _ _ (second-ok _ _ e) in omega (arith, h, call_le characters 0 xs ys)

  pub ok_bases : walked_count (length characters) 0 xs ≡ length xs → matched_count characters 0 xs ys ≡ length ys → bases_test characters xs ys ≡ Accepted
  unfolding bases_test
  ok_bases e f =
      both_ok _ _ (ok_under (walked_count (length characters) 0 xs) (length xs) _ _ (omega arith))
      (ok_under (length xs + matched_count characters 0 xs ys) (length xs + length ys) _ _ (omega arith))

-- a refused test over increments and bases names one of them
pub bases_in : (characters xs ys : List ℕ) (n p : ℕ) → bases_test characters xs ys ≡ Refused n p → p < length xs + length ys
unfolding bases_test
bases_in characters xs ys n p e =
    then_refused _ _ n p (length xs + length ys)
    (λ f. let h = stopped-in _ (walked_count (length characters) 0 xs) (length xs) n p f in omega arith)
    (λ f. stopped-in _ (length xs + matched_count characters 0 xs ys) (length xs + length ys) n p f) e
