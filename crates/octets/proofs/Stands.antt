-- `Stands p xs b`: the bytes xs stand at place p of b. A layout stands somewhere exactly if its pieces stand one after
-- another. Assumes nothing.
use Prim.Native.Nat.{ℕ, zero, suc, ◌+◌, ◌-◌, ◌*◌, ◌^◌, ◌≤◌, ◌<◌, min}
use mathlib.Core.Path.{◌≡◌, refl, sym, ap, ◌∙◌}
use mathlib.Core.Bool.{Bool, true, false}
use mathlib.Core.List.{List, [], ◌∷◌, ◌++◌, append_assoc}
use native.Mathlib.Nat.{mul-suc}
use native.Mathlib.Omega.{arith}
use borrow.Author.Tests.{eqb-true}
use lib.ListN.{length, take, drop, replicate, length-append, length-take, length-drop, length-replicate}
use lib.Seq.{take-add, drop-drop, take_at, drop_at, take-length}
use Rattle.octets.specs.Parts.{part, put_at, filled}
use Rattle.octets.specs.Numbers.{big_endian, bytes_of, Below, Bytes, number, fields, unit_bytes, units_at}
use Rattle.octets.specs.Scans.{leading_count, is_zero, Every, fails}
use Rattle.octets.proofs.Lists.{length_part, part-take, put_over}
use Rattle.octets.proofs.Digits.{length-bytes_of, big_endian-fits, bytes_of-big_endian, big_endian-small}
use Rattle.octets.proofs.AllBytes.{bytes-part}
use Rattle.octets.proofs.Every.{none_fails, every_left}

-- xs stands in b at place p
abbrev pub Stands : ℕ → List ℕ → List ℕ → Type 0
Stands p xs b = part p (length xs) b ≡ xs

-- what is read stands there
pub read-stands : (p n : ℕ) (b : List ℕ) → p + n ≤ length b → Stands p (part p n b) b
read-stands p n b h = rw (length_part p n b h)

-- what stands there is read
pub stands_read : (p n : ℕ) (xs b : List ℕ) → length xs ≡ n → Stands p xs b → part p n b ≡ xs
stands_read p n xs b e s = rw (← e) s

-- part in two
pub part_two : (p n m : ℕ) (b : List ℕ) → part p (n + m) b ≡ part p n b ++ part (p + n) m b
part_two p n m b = take-add n m (drop p b) ∙ ap (λ (l : List ℕ). take n (drop p b) ++ take m l) (drop-drop n p b)

-- two lists that stand one after the other
pub stands_both : (p q : ℕ) (xs ys b : List ℕ) → q ≡ p + length xs → Stands p xs b → Stands q ys b → Stands p (xs ++ ys) b
stands_both p q xs ys b e s t = rw (length-append, part_two p (length xs) (length ys) b, s, ← e, t)

pub stands-fits : (p : ℕ) (xs b : List ℕ) → Stands p xs b → p ≤ length b → p + length xs ≤ length b
stands-fits p xs b s h =
    let k = length-take (length xs) (drop p b) ∙ ap (λ (n : ℕ). min (length xs) n) (length-drop p b) in
    let e : min (length xs) (length b - p) ≡ length xs = sym k ∙ ap length s in
    omega arith

pub stands-left : (p : ℕ) (xs ys b : List ℕ) → p ≤ length b → Stands p (xs ++ ys) b → Stands p xs b
stands-left p xs ys b h s =
    let f : p + length (xs ++ ys) ≤ length b = stands-fits p (xs ++ ys) b s h in
    let g : p + (length xs + length ys) ≤ length b = rw length-append at f in
    let l : length (part p (length xs) b) ≡ length xs = length_part p (length xs) b (omega arith) in
    let t : part p (length xs) b ++ part (p + length xs) (length ys) b ≡ xs ++ ys = sym (part_two p (length xs) (length ys) b) ∙ rw length-append at s in
    sym (take_at (part p (length xs) b) _ (length xs) l) ∙ ap (take (length xs)) t ∙ take_at xs ys (length xs) refl

pub stands_right : (p q : ℕ) (xs ys b : List ℕ) → q ≡ p + length xs → p ≤ length b → Stands p (xs ++ ys) b → Stands q ys b
stands_right p q xs ys b e h s =
    let f : p + length (xs ++ ys) ≤ length b = stands-fits p (xs ++ ys) b s h in
    let g : p + (length xs + length ys) ≤ length b = rw length-append at f in
    let l : length (part p (length xs) b) ≡ length xs = length_part p (length xs) b (omega arith) in
    let t : part p (length xs) b ++ part (p + length xs) (length ys) b ≡ xs ++ ys = sym (part_two p (length xs) (length ys) b) ∙ rw length-append at s in
    rw e (sym (drop_at (part p (length xs) b) _ (length xs) l) ∙ ap (drop (length xs)) t ∙ drop_at xs ys (length xs) refl)

-- a list stands at its own start
pub stands_self : (xs : List ℕ) → Stands 0 xs xs
stands_self xs = take-length xs

-- zeros
zeros_leading : (xs : List ℕ) → Every is_zero xs → xs ≡ replicate (length xs) 0
unfolding leading_count
zeros_leading [] e = refl
zeros_leading (x ∷ xs) e = go (is_zero x) refl (zeros_leading xs)
  where
    go : (t : Bool) → is_zero x ≡ t → (Every is_zero xs → xs ≡ replicate (length xs) 0) → x ∷ xs ≡ 0 ∷ replicate (length xs) 0
    go true h ih =
        let s : suc (leading_count is_zero xs) ≡ suc (length xs) = rw h at e in
        let t : leading_count is_zero xs ≡ length xs = omega arith in
        let a : x ≡ 0 = eqb-true x 0 h in
        cc (ih t)
    go false h ih = let z : 0 ≡ suc (length xs) = rw h at e in absurd (omega arith)

leading_zeros : (n : ℕ) → Every is_zero (replicate n 0)
unfolding leading_count
leading_zeros zero = refl
leading_zeros (suc n) = ap suc (leading_zeros n)

-- n bytes that are zero, as a scan says it and as they are laid out
zeros_stand : (p n : ℕ) (b : List ℕ) → p + n ≤ length b → Every is_zero (part p n b) → Stands p (replicate n 0) b
zeros_stand p n b h e =
    let l : length (part p n b) ≡ n = length_part p n b h in
    let z : part p n b ≡ replicate n 0 = zeros_leading (part p n b) e ∙ ap (λ (k : ℕ). replicate k 0) l in
    rw (length-replicate, z)

stand_zeros : (p n : ℕ) (b : List ℕ) → Stands p (replicate n 0) b → Every is_zero (part p n b)
stand_zeros p n b s = rw (stands_read p n (replicate n 0) b (length-replicate n 0) s) (leading_zeros n)

-- what is filled up with zeros
pub length-filled : (n : ℕ) (xs : List ℕ) → length xs ≤ n → length (filled n xs) ≡ n
unfolding filled
length-filled n xs h = simp (length-append, length-replicate) (omega arith)

pub filled-stands : (p q n m : ℕ) (xs b : List ℕ) → q ≡ p + length xs → m ≡ n - length xs → q + m ≤ length b → Stands p xs b
    → Every is_zero (part q m b) → Stands p (filled n xs) b
unfolding filled
filled-stands p q n m xs b e f h s z =
    stands_both p q xs (replicate (n - length xs) 0) b e s (rw (← f) (zeros_stand q m b h z))

pub stands-filled : (p q n m : ℕ) (xs b : List ℕ) → q ≡ p + length xs → m ≡ n - length xs → p ≤ length b → Stands p (filled n xs) b
    → Stands p xs b × Every is_zero (part q m b)
unfolding filled
stands-filled p q n m xs b e f h s = (
  stands-left p xs (replicate (n - length xs) 0) b h s,
  stand_zeros q m b (rw f (stands_right p q xs (replicate (n - length xs) 0) b e h s)),
)

-- a name in a field of `wide` bytes at `at`, zeros after it: any front of the field that holds the name is the name and
-- zeros
pub field_filled : (at n wide w : ℕ) (r : List ℕ) → at + wide ≤ length r → fails is_zero (part (at + n) (wide - n) r) ≡ false → n ≤ w
    → w ≤ wide → part at w r ≡ filled w (part at n r)
field_filled at n wide w r h e i j =
    let l : length (part at n r) ≡ n = length_part at n r (omega arith) in
    let s : wide - n ≡ w - n + (wide - w) = omega arith in
    let two : Every is_zero (part (at + n) (w - n) r ++ part (at + n + (w - n)) (wide - w) r) =
    rw (s, part_two (at + n) (w - n) (wide - w) r) at (none_fails is_zero (part (at + n) (wide - n) r) e) in
    let z : Every is_zero (part (at + n) (w - n) r) = every_left is_zero (part (at + n) (w - n) r) (part (at + n + (w - n)) (wide - w) r) two in
    stands_read at w (filled w (part at n r)) r (length-filled w (part at n r) (omega arith))
    (filled-stands at (at + n) w (w - n) (part at n r) r (omega arith) (omega arith) (omega arith) (read-stands at n r (omega arith)) z)

-- a number
pub number-stands : (w p : ℕ) (b : List ℕ) → Bytes b → p + w ≤ length b → Stands p (bytes_of w (number w p b)) b
unfolding number
number-stands w p b y h =
    let l : length (part p w b) ≡ w = length_part p w b h in
    let e : bytes_of w (big_endian (part p w b)) ≡ part p w b = rw l at (bytes_of-big_endian (part p w b) (bytes-part p w b y) 0) in
    rw (length-bytes_of, e)

pub stands-number : (w p v : ℕ) (b : List ℕ) → v < 256 ^ w → Stands p (bytes_of w v) b → number w p b ≡ v
unfolding number
stands-number w p v b h s = rw (stands_read p w (bytes_of w v) b (length-bytes_of w v) s) (big_endian-fits w v h)

pub number_small : (w p : ℕ) (b : List ℕ) → Bytes b → p + w ≤ length b → number w p b < 256 ^ w
unfolding number
number_small w p b y h = rw (length_part p w b h) at (big_endian-small (part p w b) (bytes-part p w b y))

-- a number in the front of a list
pub number-take : (w p n : ℕ) (b : List ℕ) → p + w ≤ n → n ≤ length b → number w p (take n b) ≡ number w p b
unfolding number
number-take w p n b h k = rw (part-take p w n b h k)

-- numbers one after another: from place p + k on, b has these
abbrev pub Numbers : List ℕ → ℕ → ℕ → List (ℕ × ℕ) → Type 0
Numbers b p k [] = Unit {0}
Numbers b p k (x ∷ xs) = (number x.0 (p + k) b ≡ x.1) × Numbers b p (k + x.0) xs

abbrev pub Fit : List (ℕ × ℕ) → Type 0
Fit [] = Unit {0}
Fit (x ∷ xs) = (x.1 < 256 ^ x.0) × Fit xs

abbrev pub width : List (ℕ × ℕ) → ℕ
width [] = 0
width (x ∷ xs) = x.0 + width xs

pub length_fields_lem : (xs : List (ℕ × ℕ)) → length (fields xs) ≡ width xs
unfolding fields
length_fields_lem [] = refl
length_fields_lem (x ∷ xs) = rw (length-append, length-bytes_of, length_fields_lem xs)

pub fields-append : (xs ys : List (ℕ × ℕ)) → fields (xs ++ ys) ≡ fields xs ++ fields ys
unfolding fields
fields-append [] ys = refl
fields-append (x ∷ xs) ys = rw (fields-append xs ys, append_assoc)

-- another number in one of them is its bytes put where it stands
pub field_put : (us ws : List (ℕ × ℕ)) (w x y : ℕ) (tail : List ℕ)
    → fields (us ++ ((w, y) ∷ ws)) ++ tail ≡ put_at (width us) (bytes_of w y) (fields (us ++ ((w, x) ∷ ws)) ++ tail)
unfolding fields
field_put us ws w x y tail =
    let put = put_over (fields us) (bytes_of w y) (bytes_of w x) (fields ws ++ tail) (rw (length-bytes_of, length-bytes_of)) in
    rw (fields-append us ((w, y) ∷ ws), fields-append us ((w, x) ∷ ws), ← (length_fields_lem us)) (simp append_assoc (sym put))

pub fields_stand : (b : List ℕ) → Bytes b → (xs : List (ℕ × ℕ)) (p k : ℕ) → p + k + width xs ≤ length b → Numbers b p k xs
    → Stands (p + k) (fields xs) b
unfolding fields
fields_stand b y [] p k h n = refl
fields_stand b y (x ∷ xs) p k h n =
    stands_both (p + k) (p + (k + x.0)) (bytes_of x.0 x.1) (fields xs) b (rw length-bytes_of (omega arith))
    (rw n.0 at (number-stands x.0 (p + k) b y (omega arith)))
    (fields_stand b y xs p (k + x.0) (omega arith) n.1)

pub stand_fields : (b : List ℕ) (xs : List (ℕ × ℕ)) (p k : ℕ) → p + k ≤ length b → Fit xs → Stands (p + k) (fields xs) b → Numbers b p k xs
unfolding fields
stand_fields b [] p k h f s = tt
stand_fields b (x ∷ xs) p k h f s =
    let one : Stands (p + k) (bytes_of x.0 x.1) b = stands-left (p + k) (bytes_of x.0 x.1) (fields xs) b h s in
    let e : p + (k + x.0) ≡ p + k + length (bytes_of x.0 x.1) = rw length-bytes_of (omega arith) in
    let g : p + k + length (bytes_of x.0 x.1) ≤ length b = stands-fits (p + k) (bytes_of x.0 x.1) b one h in (
      stands-number x.0 (p + k) x.1 b f.0 one,
      stand_fields b xs p (k + x.0) (omega arith) f.1 (stands_right (p + k) (p + (k + x.0)) (bytes_of x.0 x.1) (fields xs) b e h s),
    )

-- numbers of the same width, one after another
pub length_units : (w : ℕ) (vs : List ℕ) → length (unit_bytes w vs) ≡ w * length vs
unfolding unit_bytes
length_units w [] = omega arith
length_units w (v ∷ vs) = length-append (bytes_of w v) (unit_bytes w vs) ∙ rw (length-bytes_of w v, length_units w vs, mul-suc w (length vs)) (omega arith)

pub length-units_at : (w n p : ℕ) (b : List ℕ) → length (units_at w n p b) ≡ n
unfolding units_at
length-units_at w zero p b = refl
length-units_at w (suc n) p b = ap suc (length-units_at w n (p + w) b)

-- one more of them
more : (w n p l : ℕ) → p + w * suc n ≤ l → (p + w ≤ l) × (p + w + w * n ≤ l)
more w n p l h = let e = mul-suc w n in omega arith

pub units_stand : (w : ℕ) (b : List ℕ) → Bytes b → (n p : ℕ) → p + w * n ≤ length b → Stands p (unit_bytes w (units_at w n p b)) b
unfolding unit_bytes units_at
units_stand w b y zero p h = refl
units_stand w b y (suc n) p h =
    stands_both p (p + w) (bytes_of w (number w p b)) (unit_bytes w (units_at w n (p + w) b)) b (rw length-bytes_of)
    (number-stands w p b y (more w n p (length b) h).0) (units_stand w b y n (p + w) (more w n p (length b) h).1)

pub stand_units : (w : ℕ) (b : List ℕ) (vs : List ℕ) (p : ℕ) → p ≤ length b → Below (256 ^ w) vs → Stands p (unit_bytes w vs) b
    → units_at w (length vs) p b ≡ vs
unfolding unit_bytes units_at
stand_units w b [] p h f s = refl
stand_units w b (v ∷ vs) p h f s =
    let one : Stands p (bytes_of w v) b = stands-left p (bytes_of w v) (unit_bytes w vs) b h s in
    let e : p + w ≡ p + length (bytes_of w v) = rw length-bytes_of in
    let g : p + length (bytes_of w v) ≤ length b = stands-fits p (bytes_of w v) b one h in
    rw (stands-number w p v b f.0 one, stand_units w b vs (p + w) (omega arith) f.1 (stands_right p (p + w) (bytes_of w v) (unit_bytes w vs) b e h s))

pub units_small : (w : ℕ) (b : List ℕ) → Bytes b → (n p : ℕ) → p + w * n ≤ length b → Below (256 ^ w) (units_at w n p b)
unfolding units_at
units_small w b y zero p h = tt
units_small w b y (suc n) p h = (number_small w p b y (more w n p (length b) h).0, units_small w b y n (p + w) (more w n p (length b) h).1)
