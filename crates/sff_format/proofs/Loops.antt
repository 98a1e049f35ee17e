-- The laws by which the code's loops go over the walk and the bases: x is the flow position that the increment at k
-- leads to. Assumes nothing.
use Prim.Native.Nat.{ℕ, suc, ◌+◌, ◌≤◌, ◌<◌}
use mathlib.Core.Path.{◌≡◌}
use mathlib.Core.Bool.{true, false, ◌&&◌}
use mathlib.Core.List.{List}
use lib.ListN.{length, drop, get_or, drop_of_length-le}
use lib.Seq.{drop-cons}
use Rattle.sff_format.specs.Rules.{is_flow, base_matches, walked_count, matched_count}

pub walk_end : (F f k : ℕ) (xs : List ℕ) → length xs ≤ k → walked_count F f (drop k xs) ≡ 0
unfolding walked_count
walk_end F f k xs h = rw (drop_of_length-le xs h)

module _ (F f k x : ℕ) (xs : List ℕ) (e : x ≡ f + get_or xs k 0) (l : k < length xs) where
  pub walk_stop : is_flow F x ≡ false → walked_count F f (drop k xs) ≡ 0
  unfolding walked_count
  walk_stop t = rw (drop-cons xs k 0 l, ← e, t)

  pub walk_on : is_flow F x ≡ true → walked_count F f (drop k xs) ≡ suc (walked_count F x (drop (suc k) xs))
  unfolding walked_count
  walk_on t = rw (drop-cons xs k 0 l, ← e, t)

  module _ (characters ys : List ℕ) (m : k < length ys) where
    pub calls_stop : (is_flow (length characters) x && base_matches characters x (get_or ys k 0)) ≡ false → matched_count characters f (drop k xs) (drop k ys) ≡ 0
    unfolding matched_count
    calls_stop t = rw (drop-cons xs k 0 l, drop-cons ys k 0 m, ← e, t)

    pub calls_on : (is_flow (length characters) x && base_matches characters x (get_or ys k 0)) ≡ true → matched_count characters f (drop k xs) (drop k ys) ≡ suc (matched_count characters x (drop (suc k) xs) (drop (suc k) ys))
    unfolding matched_count
    calls_on t = rw (drop-cons xs k 0 l, drop-cons ys k 0 m, ← e, t)

pub calls_end : (characters : List ℕ) (f k : ℕ) (xs ys : List ℕ) → length xs ≤ k → matched_count characters f (drop k xs) (drop k ys) ≡ 0
unfolding matched_count
calls_end characters f k xs ys h = rw (drop_of_length-le xs h)
