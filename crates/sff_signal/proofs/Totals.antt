-- The loop over a read's values: what is seen, with what is to come, is the whole. Assumes nothing.
use Prim.Native.Nat.{ℕ, suc, ◌+◌, ◌-◌, ◌*◌, ◌≤◌, ◌<◌, min, max}
use mathlib.Core.Path.{◌≡◌, refl, sym, ap, ◌∙◌}
use mathlib.Core.List.{List, [], ◌∷◌}
use native.Mathlib.Omega.{arith}
use borrow.Author.Rules.{rules}
use Rattle.octets.specs.Numbers.{number, words_at, units_at}
use Rattle.sff_signal.specs.Signal.{sum_of, max_of, min_of}

-- the smallest of l and the list
pub lowest : ℕ → List ℕ → ℕ
lowest l [] = l
lowest l (x ∷ xs) = min l (min_of (x ∷ xs))

lowest_first : (x : ℕ) (xs : List ℕ) → lowest x xs ≡ min_of (x ∷ xs)
unfolding lowest min_of
lowest_first x [] = refl
lowest_first x (y ∷ ys) = refl

lowest_next : (l x : ℕ) (xs : List ℕ) → lowest (min l x) xs ≡ lowest l (x ∷ xs)
unfolding lowest min_of
lowest_next l x [] = refl
lowest_next l x (y ∷ ys) = omega arith

largest_next : (m x r : ℕ) → max (max m x) r ≡ max m (max x r)
largest_next m x r = omega arith

-- the values that are to come where i of n are seen
abbrev rest : List ℕ → ℕ → ℕ → ℕ → List ℕ
rest b at n i = words_at (n - i) (at + 2 * i) b

rest_next : (b : List ℕ) (at n i x : ℕ) → i < n → x ≡ number 2 (at + 2 * i) b → rest b at n i ≡ x ∷ rest b at n (i + 1)
unfolding units_at
rest_next b at n i x h e =
    let c : n - i ≡ suc (n - (i + 1)) = omega arith in
    let d : at + 2 * i + 2 ≡ at + 2 * (i + 1) = omega arith in
    rw (c, d, e)

rest_all : (b : List ℕ) (at n : ℕ) → rest b at n 0 ≡ words_at n at b
rest_all b at n = let e : at + 2 * 0 ≡ at = omega arith in let f : n - 0 ≡ n = omega arith in rw (e, f)

rest_none : (b : List ℕ) (at n i : ℕ) → n ≤ i → rest b at n i ≡ []
unfolding units_at
rest_none b at n i h = let e : n - i ≡ 0 = omega arith in rw e

-- i values are seen: their largest, their smallest and their sum
pub record Seen (b : List ℕ) (at n most least sum i : ℕ) : Type 0 where
  pub low : i ≤ n
  pub small : sum ≤ 65535 * i
  pub largest : max most (max_of (rest b at n i)) ≡ max_of (words_at n at b)
  pub smallest : lowest least (rest b at n i) ≡ min_of (words_at n at b)
  pub total : sum + sum_of (rest b at n i) ≡ sum_of (words_at n at b)

pub seen_first : (b : List ℕ) (at n x : ℕ) → 1 ≤ n → (x ≡ number 2 at b) × (x < 65536) → Seen b at n x x x 1
unfolding max_of sum_of
seen_first b at n x h e =
    let p : at ≡ at + 2 * 0 = omega arith in
    let r : words_at n at b ≡ x ∷ rest b at n 1 = sym (rest_all b at n) ∙ rest_next b at n 0 x (omega arith) (e.0 ∙ ap (λ (q : ℕ). number 2 q b) p) in
    record { low = h; small = omega arith; largest = rw r; smallest = rw r (lowest_first x (rest b at n 1)); total = rw r }

module _ {b : List ℕ} {at n most least sum i : ℕ} (k : Seen b at n most least sum i) where
  pub seen_more : (x m l : ℕ) → i < n → (x ≡ number 2 (at + 2 * i) b) × (x < 65536) → m ≡ max most x → l ≡ min least x → Seen b at n m l (sum + x) (i + 1)
  unfolding max_of sum_of
  seen_more x m l h e f g =
      let r = rest_next b at n i x h e.0 in
      let s = rw r at k.total in
      let y = k.small in
      record {
        low = omega arith;
        small = omega arith;
        largest = rw (f, largest_next most x (max_of (rest b at n (i + 1)))) (rw r at k.largest);
        smallest = rw (g, lowest_next least x (rest b at n (i + 1))) (rw r at k.smallest);
        total = omega arith;
      }

  pub seen_all : n ≤ i → (most ≡ max_of (words_at n at b)) × (least ≡ min_of (words_at n at b)) × (sum ≡ sum_of (words_at n at b))
  unfolding max_of sum_of lowest
  seen_all h =
      let r = rest_none b at n i h in
      let m : max most 0 ≡ max_of (words_at n at b) = rw r at k.largest in
      let s : sum + 0 ≡ sum_of (words_at n at b) = rw r at k.total in
      (omega arith, rw r at k.smallest, omega arith)

pub ruleset totals = (seen_first, seen_more, seen_all, rules)
