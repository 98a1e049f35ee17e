-- A chain of tests accepts exactly if each accepts; a scan accepts exactly if it reaches the end. Assumes nothing.
use Prim.Native.Nat.{ℕ, ◌+◌, ◌-◌, ◌≤◌, ◌<◌}
use mathlib.Core.Path.{◌≡◌, refl, sym, ap}
use mathlib.Core.Bool.{Bool, true, false, cond, not, ◌&&◌, ◌||◌}
use mathlib.Core.Logic.{◌⊎◌, inl, inr}
use mathlib.Core.List.{List}
use native.Mathlib.Omega.{arith}
use lib.Dec.{ltb, eqb}
use lib.ListN.{length, get_or}
use borrow.Author.Tests.{not-false, ltb-true, ltb-false, lt-ltb, le-ltb, eqb-true, eq-eqb, ne_eqb}
use Rattle.octets.specs.Parts.{part}
use Rattle.octets.specs.Scans.{leading_count, first_not, Every}
use Rattle.octets.proofs.Lists.{length_part, get_d_part}
use Rattle.octets.proofs.Scan.{leading_le}
use Rattle.octets.proofs.Every.{leading_passes, leading_fails}
use Rattle.answers.specs.Answer.{Answer, Accepted, Refused, number_of, place_of, when, stopped, shifted, zero_place, ◌then◌, accepted_or}

-- the code's tests as those of the definitions, for `search`
pub ruleset tests = (lt-ltb, le-ltb, eq-eqb, ne_eqb)

pub not-accepted : {A : Type 0} (n p : ℕ) → Refused n p ≡ Accepted → A
not-accepted n p e = let z : ◌≡◌ {A = ℕ} 0 1 = cc in absurd (let f : ⊥ = omega arith in f)

pub refused-not : {A : Type 0} (n p : ℕ) → Accepted ≡ Refused n p → A
refused-not n p e = not-accepted n p (sym e)

pub first-ok : (a b : Answer) → (a then b) ≡ Accepted → a ≡ Accepted
unfolding ◌then◌
first-ok Accepted b e = refl
first-ok (Refused n p) b e = e

pub second-ok : (a b : Answer) → (a then b) ≡ Accepted → b ≡ Accepted
unfolding ◌then◌
second-ok Accepted b e = e
second-ok (Refused n p) b e = not-accepted n p e

pub both_ok : (a b : Answer) → a ≡ Accepted → b ≡ Accepted → (a then b) ≡ Accepted
unfolding ◌then◌
both_ok a b e f = rw (e, f)

pub then-accepted : (a : Answer) → (a then Accepted) ≡ a
unfolding ◌then◌
then-accepted Accepted = refl
then-accepted (Refused n p) = refl

pub then_assoc : (a b c : Answer) → ((a then b) then c) ≡ (a then (b then c))
unfolding ◌then◌
then_assoc Accepted b c = refl
then_assoc (Refused n p) b c = refl

-- what follows a test is looked at only where the test accepts
pub then_on : (a b c : Answer) → (a ≡ Accepted → b ≡ c) → (a then b) ≡ (a then c)
unfolding ◌then◌
then_on Accepted b c h = h refl
then_on (Refused n p) b c h = refl

pub when-ok : (t : Bool) (n p : ℕ) → when t n p ≡ Accepted → t ≡ false
unfolding when
when-ok true n p e = not-accepted n p e
when-ok false n p e = refl

pub ok-when : (t : Bool) (n p : ℕ) → t ≡ false → when t n p ≡ Accepted
unfolding when
ok-when t n p e = rw e

-- neither of two tests holds
pub or_left : (s t : Bool) → (s || t) ≡ false → s ≡ false
or_left true t e = e
or_left false t e = refl

pub or_right : (s t : Bool) → (s || t) ≡ false → t ≡ false
or_right true t e = let z : ◌≡◌ {A = ℕ} 0 1 = cc in absurd (let f : ⊥ = omega arith in f)
or_right false t e = e

-- one of two tests holds
pub or-either : (s t : Bool) → (s || t) ≡ true → (s ≡ true) ⊎ (t ≡ true)
or-either true t e = inl refl
or-either false t e = inr e

-- both of two tests hold
pub and_both : (s t : Bool) → (s && t) ≡ true → (s ≡ true) × (t ≡ true)
and_both true t e = (refl, e)
and_both false t e = let z : ◌≡◌ {A = ℕ} 0 1 = cc in absurd (let f : ⊥ = omega arith in f)

-- what holds of two things holds of the one that a test or an answer chooses
pub cond_keeps : {A : Type 0} (P : A → Type 0) (t : Bool) (x y : A) → P x → P y → P (cond t x y)
cond_keeps P true x y h k = h
cond_keeps P false x y h k = k

pub either_keeps : {A : Type 0} (P : A → Type 0) (a : Answer) (x y : A) → P x → P y → P (accepted_or a x y)
unfolding accepted_or
either_keeps P Accepted x y h k = h
either_keeps P (Refused n p) x y h k = k

-- the tests by their facts: "under" and "not equal"
pub under_ok : (x y n p : ℕ) → when (ltb x y) n p ≡ Accepted → y ≤ x
under_ok x y n p e = ltb-false x y (when-ok _ n p e)

pub ok_under : (x y n p : ℕ) → y ≤ x → when (ltb x y) n p ≡ Accepted
ok_under x y n p h = ok-when _ n p (le-ltb x y h)

pub same_ok : (x y n p : ℕ) → when (not (eqb x y)) n p ≡ Accepted → x ≡ y
same_ok x y n p e = eqb-true x y (not-false _ (when-ok _ n p e))

pub ok_same : (x y n p : ℕ) → x ≡ y → when (not (eqb x y)) n p ≡ Accepted
ok_same x y n p e = ok-when _ n p (ap not (eq-eqb x y e))

-- scans from a place over n bytes, to an end that is their sum
module _ (b : List ℕ) (p n to c : ℕ) (e : to ≡ p + n) (fits : p + n ≤ length b) where
  span : to - p ≡ n
  span = omega arith

  pub scan_ok : (t : ℕ → Bool) → stopped c (first_not t p to b) to ≡ Accepted → Every t (part p n b)
  unfolding first_not
  scan_ok t a =
      let h : to ≤ p + leading_count t (part p (to - p) b) = under_ok _ _ _ _ a in
      let k : to ≤ p + leading_count t (part p n b) = rw span at h in
      let l = length_part p n b fits in
      omega (arith, leading_le t (part p n b))

  pub ok-scan : (t : ℕ → Bool) → Every t (part p n b) → stopped c (first_not t p to b) to ≡ Accepted
  unfolding first_not
  ok-scan t a = let l = length_part p n b fits in rw span (ok_under (p + leading_count t (part p n b)) to _ _ (omega arith))

  -- one that refuses names the first place whose byte fails
  pub scan-refused : (t : ℕ → Bool) (m q : ℕ) → stopped c (first_not t p to b) to ≡ Refused m q
      → (m ≡ c) × (p ≤ q) × (q < to) × (t (get_or b q 0) ≡ false)
      × ((i : ℕ) → p ≤ i → i < q → t (get_or b i 0) ≡ true)
  unfolding first_not when
  scan-refused t m q a = go (leading_count t (part p n b)) refl (ltb (p + leading_count t (part p n b)) to) refl (rw span at a)
    where
      go : (k : ℕ) → k ≡ leading_count t (part p n b) → (s : Bool) → ltb (p + k) to ≡ s → when s c (p + k) ≡ Refused m q
          → (m ≡ c) × (p ≤ q) × (q < to) × (t (get_or b q 0) ≡ false)
          × ((i : ℕ) → p ≤ i → i < q → t (get_or b i 0) ≡ true)
      go k r true s f =
          let h = ltb-true (p + k) to s in
          let z : p + k ≡ q = ap place_of f in
          let l = length_part p n b fits in (
            sym (ap number_of f),
            omega arith,
            omega arith,
            rw (← z, ← get_d_part p n b k (omega arith), r) (leading_fails t (part p n b) (omega arith)),
            λ i g j.
                let w : p + (i - p) ≡ i = omega arith in
                rw (← w, ← get_d_part p n b (i - p) (omega arith)) (leading_passes t (part p n b) (i - p) (omega arith)),
          )
      go k r false s f = refused-not m q f

-- places in another count
pub shifted-ok : (from : ℕ) (a : Answer) → shifted from a ≡ Accepted → a ≡ Accepted
unfolding shifted
shifted-ok from Accepted e = refl
shifted-ok from (Refused n p) e = not-accepted n (from + p) e

pub ok-shifted : (from : ℕ) (a : Answer) → a ≡ Accepted → shifted from a ≡ Accepted
unfolding shifted
ok-shifted from a e = rw e

pub zero-place-ok : (a : Answer) → zero_place a ≡ Accepted → a ≡ Accepted
unfolding zero_place
zero-place-ok Accepted e = refl
zero-place-ok (Refused n p) e = not-accepted n 0 e

pub ok-zero-place : (a : Answer) → a ≡ Accepted → zero_place a ≡ Accepted
unfolding zero_place
ok-zero-place a e = rw e

-- what is chosen where a test has another number than 0
pub refused_or : {A : Type 0} (answer : Answer) (x y : A) → (number_of answer ≡ 0 → ⊥) → accepted_or answer x y ≡ y
unfolding accepted_or
refused_or Accepted x y h = absurd (h refl)
refused_or (Refused n p) x y h = refl

-- the place of a chain of scans that refuses lies before the end
pub stopped-in : (c q end n p : ℕ) → stopped c q end ≡ Refused n p → p < end
unfolding when
stopped-in c q end n p e = go (ltb q end) refl e
  where
    go : (t : Bool) → ltb q end ≡ t → when t c q ≡ Refused n p → p < end
    go true l f = let h = ltb-true q end l in let z : q ≡ p = ap place_of f in omega arith
    go false l f = refused-not n p f

pub then_refused : (a b : Answer) (n p end : ℕ) → (a ≡ Refused n p → p < end) → (b ≡ Refused n p → p < end) → (a then b) ≡ Refused n p → p < end
unfolding ◌then◌
then_refused Accepted b n p end f g e = g e
then_refused (Refused m q) b n p end f g e = f e
