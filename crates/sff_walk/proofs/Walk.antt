-- What each turn of the loops over increments and bases shows: k is a base position, f the flow position before it, x
-- the one that its increment leads to. Assumes nothing.
use Prim.Native.Nat.{ℕ, suc, ◌+◌, ◌-◌, ◌≤◌, ◌<◌}
use mathlib.Core.Path.{◌≡◌, refl, sym, ap, ◌∙◌}
use mathlib.Core.Bool.{Bool, true, false, ◌&&◌}
use mathlib.Core.List.{List}
use native.Mathlib.Omega.{arith}
use borrow.Author.Rules.{rules}
use borrow.Author.Tests.{leb-true}
use lib.Dec.{leb}
use lib.ListN.{length, drop, get_or}
use Rattle.answers.specs.Answer.{Accepted, Refused}
use Rattle.answers.proofs.Chains.{stops, stops_last, reaches, reaches_last}
use Rattle.sff_format.specs.Rules.{is_flow, base_matches, walked_count, matched_count}
use Rattle.sff_format.specs.ReadTest.{bases_test}
use Rattle.sff_format.proofs.Loops.{walk_end, walk_stop, walk_on, calls_end, calls_stop, calls_on}

-- a flow position that keeps the rule has both bounds
pub flow_in : (F x : ℕ) → is_flow F x ≡ true → (1 ≤ x) × (x ≤ F)
unfolding is_flow
flow_in F x e = go (leb 1 x) (leb x F) refl refl e
  where
    go : (s t : Bool) → leb 1 x ≡ s → leb x F ≡ t → (s && t) ≡ true → (1 ≤ x) × (x ≤ F)
    go true true g h i = (leb-true 1 x g, leb-true x F h)
    go true false g h i = absurd (let z : ◌≡◌ {A = ℕ} 0 1 = cc in let a : ⊥ = omega arith in a)
    go false t g h i = absurd (let z : ◌≡◌ {A = ℕ} 0 1 = cc in let a : ⊥ = omega arith in a)

-- The invariant of a walk over the increments xs: what is sought from base position k₀ on is sought from k on.
pub record Walked (F f₀ k₀ : ℕ) (xs : List ℕ) (k f : ℕ) : Type 0 where
  pub low : 1 ≤ k
  pub high : k ≤ length xs + 1
  pub reached : f ≤ F
  pub is : k₀ - 1 + walked_count F f₀ (drop (k₀ - 1) xs) ≡ k - 1 + walked_count F f (drop (k - 1) xs)

pub walked_start : (F f k : ℕ) (xs : List ℕ) → 1 ≤ k → k ≤ length xs + 1 → f ≤ F → Walked F f k xs k f
walked_start F f k xs l g r = record { low = l; high = g; reached = r; is = refl }

module _ {F f₀ k₀ : ℕ} {xs : List ℕ} {k f : ℕ} (w : Walked F f₀ k₀ xs k f) where
  pub walked_end : length xs < k → length xs ≡ k₀ - 1 + walked_count F f₀ (drop (k₀ - 1) xs)
  walked_end h = let e = walk_end F f (k - 1) xs (omega arith) in omega (arith, w.high, w.is, e)

  -- t is what the test of x gave
  module _ (h : k ≤ length xs) {x : ℕ} (e : x ≡ f + get_or xs (k - 1) 0) {t : Bool} (i : t ≡ is_flow F x) where
    inside : k - 1 < length xs
    inside = omega (arith, w.low)

    pub walked_stop : t ≡ false → k - 1 ≡ k₀ - 1 + walked_count F f₀ (drop (k₀ - 1) xs)
    walked_stop g = let s = walk_stop F f (k - 1) x xs e inside (sym i ∙ g) in omega (arith, w.is, s)

    pub walked_more : t ≡ true → {k' : ℕ} → k' ≡ k + 1 → Walked F f₀ k₀ xs k' x
    walked_more g {k'} m =
        let d : is_flow F x ≡ true = sym i ∙ g in
        let q : suc (k - 1) ≡ k' - 1 = omega (arith, w.low) in
        let s : walked_count F f (drop (k - 1) xs) ≡ suc (walked_count F x (drop (k' - 1) xs)) = rw q at (walk_on F f (k - 1) x xs e inside d) in
        record { low = omega arith; high = omega arith; reached = (flow_in F x d).1; is = omega (arith, w.is, s, w.low) }

-- The invariant of the pass over the increments xs and the bases ys: what both tests seek they seek from k on.
pub record Matched (characters xs ys : List ℕ) (k f : ℕ) : Type 0 where
  pub counts : length xs ≡ length ys
  pub walked : Walked (length characters) 0 1 xs k f
  pub calls_is : matched_count characters 0 xs ys ≡ k - 1 + matched_count characters f (drop (k - 1) xs) (drop (k - 1) ys)

pub matched_start : (characters xs ys : List ℕ) → length xs ≡ length ys → Matched characters xs ys 1 0
matched_start characters xs ys h =
    record { counts = h; walked = walked_start (length characters) 0 1 xs (omega arith) (omega arith) (omega arith); calls_is = omega arith }

-- Where the pass has stopped: `matched_count` defines the place, and x is the flow position of the base there, if there
-- is one.
pub record Stopped (characters xs ys : List ℕ) (k f x stop : ℕ) : Type 0 where
  pub counts : length xs ≡ length ys
  pub walked : Walked (length characters) 0 1 xs k f
  pub place : stop ≡ k - 1
  pub is : stop ≡ matched_count characters 0 xs ys
  pub flow : k ≤ length xs → x ≡ f + get_or xs (k - 1) 0

module _ {characters xs ys : List ℕ} {k f : ℕ} (w : Matched characters xs ys k f) {x : ℕ} where
  stopped_here :
      {stop : ℕ} →
      stop ≡ k - 1 →
      (k ≤ length xs → x ≡ f + get_or xs (k - 1) 0) →
      matched_count characters f (drop (k - 1) xs) (drop (k - 1) ys) ≡ 0 →
      Stopped characters xs ys k f x stop
  stopped_here s e z = record { counts = w.counts; walked = w.walked; place = s; is = omega (arith, w.calls_is, z); flow = e }

  pub stopped_end : length xs < k → {stop : ℕ} → stop ≡ length xs → Stopped characters xs ys k f x stop
  stopped_end h s =
      let none = calls_end characters f (k - 1) xs ys (omega arith) in
      stopped_here (omega (arith, w.walked.high)) (λ l. absurd (let a : ⊥ = omega arith in a)) none

  -- t is what the test of x gave
  module _ (h : k ≤ length xs) (e : x ≡ f + get_or xs (k - 1) 0) {t : Bool} (i : t ≡ is_flow (length characters) x) where
    base_in : k - 1 < length xs
    base_in = omega (arith, w.walked.low)

    calls_none :
        (is_flow (length characters) x && base_matches characters x (get_or ys (k - 1) 0)) ≡ false →
        matched_count characters f (drop (k - 1) xs) (drop (k - 1) ys) ≡ 0
    calls_none = calls_stop (length characters) f (k - 1) x xs e base_in characters ys (omega (arith, base_in, w.counts))

    pub stopped_walk : t ≡ false → {stop : ℕ} → stop ≡ k - 1 → Stopped characters xs ys k f x stop
    stopped_walk g s = stopped_here s (λ l. e) (calls_none (rw (sym i ∙ g)))

    -- u is what the test of the base gave
    module _ (g : t ≡ true) {u : Bool} (j : u ≡ base_matches characters x (get_or ys (k - 1) 0)) where
      both : {v : Bool} → u ≡ v → (is_flow (length characters) x && base_matches characters x (get_or ys (k - 1) 0)) ≡ v
      both d = rw (sym i ∙ g) (sym j ∙ d)

      pub stopped_base : u ≡ false → {stop : ℕ} → stop ≡ k - 1 → Stopped characters xs ys k f x stop
      stopped_base a s = stopped_here s (λ l. e) (calls_none (both a))

      pub matched_more : u ≡ true → {k' : ℕ} → k' ≡ k + 1 → Matched characters xs ys k' x
      matched_more a {k'} m =
          let q : suc (k - 1) ≡ k' - 1 = omega (arith, w.walked.low) in
          let z : matched_count characters f (drop (k - 1) xs) (drop (k - 1) ys) ≡ suc (matched_count characters x (drop (k' - 1) xs) (drop (k' - 1) ys)) =
          rw q at (calls_on (length characters) f (k - 1) x xs e base_in characters ys (omega (arith, base_in, w.counts)) (both a)) in
          record { counts = w.counts; walked = walked_more w.walked h e i g m; calls_is = omega (arith, w.calls_is, z, w.walked.low) }

-- What the place means.
module _ {characters xs ys : List ℕ} {k f x stop : ℕ} (w : Stopped characters xs ys k f x stop) where
  whole : {walk : ℕ} → walk ≡ 1 - 1 + walked_count (length characters) 0 (drop (1 - 1) xs) → walked_count (length characters) 0 xs ≡ walk
  whole e = omega (arith, e)

  pub answer_end : stop ≡ length xs → Accepted ≡ bases_test characters xs ys
  unfolding bases_test
  answer_end h =
      let n : length xs < k = omega (arith, w.place, w.walked.low) in
      let c : length xs + length ys ≡ length xs + matched_count characters 0 xs ys = omega (arith, w.is, w.counts) in
      reaches _ _ _ (sym (whole (walked_end w.walked n))) _ (omega arith) (reaches_last _ _ _ c (omega arith))

  module _ (h : stop ≡ length xs → ⊥) where
    at_base : k ≤ length xs
    at_base = omega (arith, w.place, w.walked.low, w.walked.high, h)

    -- t is what the test of x gave
    module _ {t : Bool} (i : t ≡ is_flow (length characters) x) where
      pub answer_here : t ≡ false → Refused 10 stop ≡ bases_test characters xs ys
      unfolding bases_test
      answer_here g =
          let v = whole (walked_stop w.walked at_base (w.flow at_base) i g) in
          stops _ _ _ (w.place ∙ sym v) _ (omega (arith, at_base, w.place, w.walked.low))

      pub walked_past : t ≡ true → {k' : ℕ} → k' ≡ k + 1 → Walked (length characters) 0 1 xs k' x
      walked_past g = walked_more w.walked at_base (w.flow at_base) i g

    -- past the place, walk is where the rest of the walk stops
    module _
        {k' walk : ℕ}
        (v : Walked (length characters) 0 1 xs k' x)
        (e : walk ≡ k' - 1 + walked_count (length characters) x (drop (k' - 1) xs)) where
      walk_is : walk ≡ walked_count (length characters) 0 xs
      walk_is = sym (whole (e ∙ sym v.is))

      pub answer_walk : walk < length xs → Refused 10 walk ≡ bases_test characters xs ys
      unfolding bases_test
      answer_walk l = stops _ _ _ walk_is _ l

      pub answer_base : length xs ≤ walk → Refused 11 (length xs + stop) ≡ bases_test characters xs ys
      unfolding bases_test
      answer_base l =
          reaches _ _ _ walk_is _ l (stops_last _ _ _ (ap (◌+◌ (length xs)) w.is) (omega (arith, at_base, w.place, w.walked.low, w.counts)))

-- what `search` needs for the walk
pub ruleset walking = (walked_start, walked_end, walked_stop, walked_more, rules)
