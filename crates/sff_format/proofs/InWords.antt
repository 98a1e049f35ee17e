-- What the rules come to in document 01's words, from the numbers alone: a slip that a definition and the code make
-- alike is refused here. Assumes nothing.
use Prim.Native.Nat.{ℕ, zero, suc, ◌+◌, ◌-◌, ◌%◌, ◌≤◌, ◌<◌, max, min}
use mathlib.Core.Path.{◌≡◌, refl, sym, ap, ◌∙◌}
use mathlib.Core.Bool.{Bool, true, false, cond, not, ◌&&◌, ◌||◌}
use mathlib.Core.Logic.{◌↔◌, ◌⊎◌, inl, inr, ⊎_elim}
use mathlib.Core.List.{List, [], ◌∷◌, sum}
use native.Mathlib.Omega.{arith}
use native.Mathlib.Nat.{zero-add, add-zero}
use borrow.Author.Tests.{ltb-true, ltb-false, le-ltb, leb-true, leb-false, le-leb, eqb-true, eqb-false, eq-eqb, ne_eqb, not-false}
use lib.Dec.{ltb, leb, eqb}
use lib.ListN.{length, take, get_or}
use Rattle.octets.specs.Parts.{up8}
use Rattle.octets.specs.Numbers.{Bytes}
use Rattle.octets.specs.Scans.{Every, is_flow_character, is_name_byte}
use Rattle.octets.proofs.Lists.{get_d_part}
use Rattle.octets.proofs.Every.{first_passes, every_at}
use Rattle.answers.specs.Answer.{Accepted, Refused, when, Refusing}
use Rattle.answers.proofs.Answers.{or_left, or_right, or-either, and_both}
use Rattle.answers.proofs.Numbered.{then-refusing, when-refusing, held_refusing}
use Rattle.sff_format.specs.Rules.{declared, bad_index_length, bad_index, is_flow, walked_count, base_matches, matched_count}
use Rattle.sff_format.specs.Model.{Read}
use Rattle.sff_format.specs.Valid.{ValidRead, ValidReads}
use Rattle.sff_format.specs.HeaderTest.{index_offset, index_length, read_count, header_length, key_length, flows, flow_characters, fixed_test, characters_test, header_test}
use Rattle.sff_format.specs.FileTest.{file_test}
use Rattle.sff_format.specs.Parse.{parse}
use Rattle.sff_format.specs.Places.{no_read, read_at}
use Rattle.sff_format.specs.Insert.{first_base, right_end, last_base, insert_first, insert_last, insert_of}
use Rattle.sff_format.specs.Step.{fresh_place, fresh}
use Rattle.sff_format.proofs.HeaderLaws.{header_sized, index_good}
use Rattle.sff_format.proofs.Boundaries.{undeclared}
use Rattle.sff_format.proofs.FileLaid.{reads-counted, file_valid}
use Rattle.sff_format.proofs.Keeps.{valid_at}
use Rattle.sff_format.proofs.Inserted.{first-least, length-insert}

-- "Name bytes are 33 to 126"
pub name_byte : (x : ℕ) → (is_name_byte x ≡ true) ↔ ((33 ≤ x) × (x ≤ 126))
name_byte x = (
  λ e. let h = and_both (leb 33 x) (leb x 126) e in (leb-true 33 x h.0, leb-true x 126 h.1),
  λ h. rw (le-leb 33 x h.0, le-leb x 126 h.1),
)

-- "flow and key characters are A, C, G, T"
pub flow_character : (x : ℕ) → (is_flow_character x ≡ true) ↔ ((x ≡ 65) ⊎ ((x ≡ 67) ⊎ ((x ≡ 71) ⊎ (x ≡ 84))))
flow_character x = (
  λ e. ⊎_elim
      (λ l. ⊎_elim (λ k. inl (eqb-true x 65 k)) (λ k. inr (inl (eqb-true x 67 k))) (or-either (eqb x 65) (eqb x 67) l))
      (λ l. ⊎_elim (λ k. inr (inr (inl (eqb-true x 71 k)))) (λ k. inr (inr (inr (eqb-true x 84 k)))) (or-either (eqb x 71) (eqb x 84) l))
      (or-either (eqb x 65 || eqb x 67) (eqb x 71 || eqb x 84) e),
  ⊎_elim (λ e. rw e) (⊎_elim (λ e. rw e) (⊎_elim (λ e. rw e) (λ e. rw e))),
)

-- "The running sum after each base is its flow position": of the base at j, counted from 0
abbrev pub flow_position : List ℕ → ℕ → ℕ
flow_position increments j = sum ◌+◌ 0 (take (suc j) increments)

abbrev In : ℕ → ℕ → Type 0
In F x = (1 ≤ x) × (x ≤ F)

flow_in : (F x : ℕ) → is_flow F x ≡ true → In F x
unfolding is_flow
flow_in F x e = let h = and_both (leb 1 x) (leb x F) e in (leb-true 1 x h.0, leb-true x F h.1)

in_flow : (F x : ℕ) → In F x → is_flow F x ≡ true
unfolding is_flow
in_flow F x h = rw (le-leb 1 x h.0, le-leb x F h.1)

-- "every flow position lies in 1 to F", after flow position f
walk_at : (F f : ℕ) (xs : List ℕ) → walked_count F f xs ≡ length xs → (j : ℕ) → j < length xs → In F (f + flow_position xs j)
unfolding walked_count sum
walk_at F f [] e j h = absurd (let a : ⊥ = omega arith in a)
walk_at F f (x ∷ xs) e zero h = let k = flow_in F (f + x) (first_passes (is_flow F (f + x)) _ _ e).0 in (omega arith, omega arith)
walk_at F f (x ∷ xs) e (suc j) h =
    let k = walk_at F (f + x) xs (first_passes (is_flow F (f + x)) _ _ e).1 j (omega arith) in
    (omega arith, omega arith)

at_walk : (F f : ℕ) (xs : List ℕ) → ((j : ℕ) → j < length xs → In F (f + flow_position xs j)) → walked_count F f xs ≡ length xs
unfolding walked_count sum
at_walk F f [] h = refl
at_walk F f (x ∷ xs) h =
    let k = h 0 (omega arith) in
    let t : is_flow F (f + x) ≡ true = in_flow F (f + x) (omega arith, omega arith) in
    rw t (ap suc (at_walk F (f + x) xs (λ j l. let m = h (suc j) (omega arith) in (omega arith, omega arith))))

pub walk_exactly : (F : ℕ) (xs : List ℕ)
    → (walked_count F 0 xs ≡ length xs) ↔ ((j : ℕ) → j < length xs → (1 ≤ flow_position xs j) × (flow_position xs j ≤ F))
walk_exactly F xs = (
  λ e j h. let k = walk_at F 0 xs e j h in (omega arith, omega arith),
  λ h. at_walk F 0 xs (λ j l. let k = h j l in (omega arith, omega arith)),
)

-- "Base i is the flow character at its flow, or the letter N": y is the base and f its flow position, from 1
abbrev pub Called : List ℕ → ℕ → ℕ → Type 0
Called characters f y = (y ≡ get_or characters (f - 1) 0) ⊎ (y ≡ 78)

call_is : (characters : List ℕ) (f y : ℕ) → base_matches characters f y ≡ true → Called characters f y
unfolding base_matches
call_is characters f y e =
    ⊎_elim (λ k. inl (eqb-true y _ k)) (λ k. inr (eqb-true y 78 k)) (or-either (eqb y (get_or characters (f - 1) 0)) (eqb y 78) e)

base_matches_lem : (characters : List ℕ) (f y : ℕ) → Called characters f y → base_matches characters f y ≡ true
unfolding base_matches
base_matches_lem characters f y (inl e) = rw (eq-eqb y (get_or characters (f - 1) 0) e)
base_matches_lem characters f y (inr e) = or_right_true (eqb y (get_or characters (f - 1) 0)) (eqb y 78) (eq-eqb y 78 e)
  where
    or_right_true : (s t : Bool) → t ≡ true → (s || t) ≡ true
    or_right_true true t k = refl
    or_right_true false t k = k

call_at : (characters : List ℕ) (f : ℕ) (xs ys : List ℕ) → matched_count characters f xs ys ≡ length ys → (j : ℕ) → j < length ys
    → Called characters (f + flow_position xs j) (get_or ys j 0)
unfolding matched_count sum
call_at characters f xs [] e j h = absurd (let a : ⊥ = omega arith in a)
call_at characters f [] (y ∷ ys) e j h = absurd (let a : ⊥ = omega (arith, e) in a)
call_at characters f (x ∷ xs) (y ∷ ys) e zero h =
    let t = is_flow (length characters) (f + x) in
    let k = and_both t (base_matches characters (f + x) y) (first_passes (t && base_matches characters (f + x) y) _ _ e).0 in
    rw add-zero (call_is characters (f + x) y k.1)
call_at characters f (x ∷ xs) (y ∷ ys) e (suc j) h =
    let t = is_flow (length characters) (f + x) && base_matches characters (f + x) y in
    let k = call_at characters (f + x) xs ys (first_passes t _ _ e).1 j (omega arith) in
    let m : f + x + flow_position xs j ≡ f + (x + flow_position xs j) = omega arith in
    rw m at k

at_call : (characters : List ℕ) (f : ℕ) (xs ys : List ℕ) → length xs ≡ length ys
    → ((j : ℕ) → j < length xs → In (length characters) (f + flow_position xs j))
    → ((j : ℕ) → j < length ys → Called characters (f + flow_position xs j) (get_or ys j 0)) → matched_count characters f xs ys ≡ length ys
unfolding matched_count sum
at_call characters f [] [] l h k = refl
at_call characters f [] (y ∷ ys) l h k = l
at_call characters f (x ∷ xs) [] l h k = refl
at_call characters f (x ∷ xs) (y ∷ ys) l h k =
    let i = h 0 (omega arith) in
    let t = in_flow (length characters) (f + x) (omega arith, omega arith) in
    let c = base_matches_lem characters (f + x) y (rw add-zero at (k 0 (omega arith))) in
    let more : matched_count characters (f + x) xs ys ≡ length ys =
    at_call characters (f + x) xs ys (omega arith)
    (λ j m. let n = h (suc j) (omega arith) in (omega arith, omega arith))
    (λ j m. let e : f + (x + flow_position xs j) ≡ f + x + flow_position xs j = omega arith in rw e at (k (suc j) (omega arith))) in
    rw (t, c, more)

pub calls_exactly : (characters xs ys : List ℕ) → walked_count (length characters) 0 xs ≡ length xs → length xs ≡ length ys
    → (matched_count characters 0 xs ys ≡ length ys) ↔ ((j : ℕ) → j < length ys → Called characters (flow_position xs j) (get_or ys j 0))
calls_exactly characters xs ys w l = (
  λ e j h. rw (zero-add) at (call_at characters 0 xs ys e j h),
  λ h. at_call characters 0 xs ys l (walk_at (length characters) 0 xs w) (λ j m. rw zero-add (h j m)),
)

-- so each base of a read is a flow character or N
pub base_letters : {characters : List ℕ} {read : Read} → ValidRead characters read → Every is_flow_character characters
    → (j : ℕ) → j < length read.bases
    → (is_flow_character (get_or read.bases j 0) ≡ true) ⊎ (get_or read.bases j 0 ≡ 78)
base_letters {characters} {read} v c j h =
    let n = v.increments_count in
    let w = (walk_exactly (length characters) read.increments).0 v.walk_good j (omega arith) in
    let f = every_at is_flow_character characters c (flow_position read.increments j - 1) (omega arith) in
    ⊎_elim (λ e. inl (rw e f)) inr
    ((calls_exactly characters read.increments read.bases v.walk_good n).0 v.bases_good j h)

-- the larger and the smaller of two is one of them
max_is : (x y : ℕ) → (max x y ≡ x) ⊎ (max x y ≡ y)
max_is x y = go (leb x y) refl
  where
    go : (t : Bool) → leb x y ≡ t → (max x y ≡ x) ⊎ (max x y ≡ y)
    go true e = let h = leb-true x y e in inr (omega arith)
    go false e = let h = leb-false x y e in inl (omega arith)

min_is : (x y : ℕ) → (min x y ≡ x) ⊎ (min x y ≡ y)
min_is x y = go (leb x y) refl
  where
    go : (t : Bool) → leb x y ≡ t → (min x y ≡ x) ⊎ (min x y ≡ y)
    go true e = let h = leb-true x y e in inl (omega arith)
    go false e = let h = leb-false x y e in inr (omega arith)

-- "First = max(1, both lefts)"
pub first_is : (q a : ℕ) → (1 ≤ first_base q a) × (q ≤ first_base q a) × (a ≤ first_base q a)
    × ((first_base q a ≡ 1) ⊎ ((first_base q a ≡ q) ⊎ (first_base q a ≡ a)))
unfolding first_base
first_is q a =
    let m = max q a in
    (omega arith, omega arith, omega arith, ⊎_elim inl (λ e. ⊎_elim (λ f. inr (inl (cc))) (λ f. inr (inr (cc))) (max_is q a)) (max_is 1 m))

-- the end that a right clip stands for in a read of n bases: "a 0 read as N"
abbrev pub IsEnd : ℕ → ℕ → ℕ → Type 0
IsEnd n clip end = (clip ≡ 0 → end ≡ n) × ((clip ≡ 0 → ⊥) → end ≡ clip)

end_is : (n clip end : ℕ) → IsEnd n clip end → right_end n clip ≡ end
unfolding right_end
end_is n clip end h = go (eqb clip 0) refl
  where
    go : (t : Bool) → eqb clip 0 ≡ t → cond t n clip ≡ end
    go true e = sym (h.0 (eqb-true clip 0 e))
    go false e = sym (h.1 (eqb-false clip 0 e))

-- "Last = min over both rights, a 0 read as N"
pub last_is : (n q a e f : ℕ) → IsEnd n q e → IsEnd n a f
    → (last_base n q a ≤ e) × (last_base n q a ≤ f) × ((last_base n q a ≡ e) ⊎ (last_base n q a ≡ f))
unfolding last_base
last_is n q a e f h k = rw (end_is n q e h, end_is n a f k) (omega arith, omega arith, min_is e f)

-- "If first > last the insert is empty", and else it has the bases from first to last, both counted from 1
pub insert_empty : {characters : List ℕ} {read : Read} → ValidRead characters read
    → (length (insert_of read read.bases) ≡ 0) ↔ (insert_last read < insert_first read)
insert_empty {read = read} v = let s = length-insert v read.bases refl in (λ e. omega arith, λ h. omega arith)

pub insert-at : (read : Read) (xs : List ℕ) (j : ℕ) → insert_first read + j ≤ insert_last read
    → get_or (insert_of read xs) j 0 ≡ get_or xs (insert_first read + j - 1) 0
unfolding insert_of
insert-at read xs j h =
    let o = first-least read.quality_left read.adapter_left in
    let e : insert_first read - 1 + j ≡ insert_first read + j - 1 = omega arith in
    get_d_part (insert_first read - 1) (suc (insert_last read) - insert_first read) xs j (omega arith)
    ∙ ap (λ (i : ℕ). get_or xs i 0) e

-- 8: "just one index field is 0, or index length under 8 or not a multiple of 8"; both fields 0 say that there is none
abbrev pub BadIndex : ℕ → ℕ → Type 0
BadIndex offset len = (((offset ≡ 0) × (len ≡ 0)) → ⊥) × ((offset ≡ 0) ⊎ ((len ≡ 0) ⊎ ((len < 8) ⊎ (len % 8 ≡ 0 → ⊥))))

abbrev pub GoodIndex : ℕ → ℕ → Type 0
GoodIndex offset len = ((offset ≡ 0) × (len ≡ 0)) ⊎ ((0 < offset) × (8 ≤ len) × (len % 8 ≡ 0))

not_both : {A : Type 0} → true ≡ false → A
not_both e = absurd (let z : ◌≡◌ {A = ℕ} 0 1 = cc in let a : ⊥ = omega arith in a)

pub index_fine : (offset len : ℕ) → (bad_index offset len ≡ false) ↔ GoodIndex offset len
unfolding bad_index bad_index_length declared
index_fine offset len = (go (eqb offset 0) (eqb len 0) refl refl, ⊎_elim (λ h. rw (eq-eqb offset 0 h.0, eq-eqb len 0 h.1)) fine)
  where
    go : (o l : Bool) → eqb offset 0 ≡ o → eqb len 0 ≡ l → (not (o && l) && (o || (ltb len 8 || not (eqb (len % 8) 0)))) ≡ false
        → GoodIndex offset len
    go true true p q e = inl (eqb-true offset 0 p, eqb-true len 0 q)
    go true false p q e = not_both e
    go false l p q e =
        let n = eqb-false offset 0 p in
        inr (omega (arith, n), ltb-false len 8 (or_left _ _ e), eqb-true (len % 8) 0 (not-false _ (or_right (ltb len 8) _ e)))

    fine : (0 < offset) × (8 ≤ len) × (len % 8 ≡ 0)
        → (not (eqb offset 0 && eqb len 0) && (eqb offset 0 || (ltb len 8 || not (eqb (len % 8) 0)))) ≡ false
    fine h =
        let p : offset ≡ 0 → ⊥ = λ e. let g = h.0 in omega arith in
        rw (ne_eqb offset 0 p, le-ltb len 8 h.1, eq-eqb (len % 8) 0 h.2)

pub index_bad : (offset len : ℕ) → (bad_index offset len ≡ true) ↔ BadIndex offset len
index_bad offset len = (bad, λ h. go (bad_index offset len) refl h)
  where
    bad : bad_index offset len ≡ true → BadIndex offset len
    bad e = (λ z. not_both (sym e ∙ (index_fine offset len).1 (inl z)), which (eqb offset 0) (ltb len 8) (eqb (len % 8) 0) refl refl refl e)
      where
        which : (o s m : Bool) → eqb offset 0 ≡ o → ltb len 8 ≡ s → eqb (len % 8) 0 ≡ m → bad_index offset len ≡ true
            → (offset ≡ 0) ⊎ ((len ≡ 0) ⊎ ((len < 8) ⊎ (len % 8 ≡ 0 → ⊥)))
        which true s m p q t k = inl (eqb-true offset 0 p)
        which false true m p q t k = inr (inr (inl (ltb-true len 8 q)))
        which false false false p q t k = inr (inr (inr (eqb-false (len % 8) 0 t)))
        which false false true p q t k =
            let n = eqb-false offset 0 p in
            not_both (sym k ∙ (index_fine offset len).1 (inr (omega (arith, n), ltb-false len 8 q, eqb-true (len % 8) 0 t)))

    go : (t : Bool) → bad_index offset len ≡ t → BadIndex offset len → t ≡ true
    go true e h = refl
    go false e h = absurd (⊎_elim h.0 (λ g. never g h.1) ((index_fine offset len).0 e))
      where
        never : (0 < offset) × (8 ≤ len) × (len % 8 ≡ 0) → (offset ≡ 0) ⊎ ((len ≡ 0) ⊎ ((len < 8) ⊎ (len % 8 ≡ 0 → ⊥))) → ⊥
        never g (inl z) = omega (arith, g)
        never g (inr (inl z)) = omega (arith, g)
        never g (inr (inr (inl z))) = omega (arith, g)
        never g (inr (inr (inr z))) = z g.2

-- "An index is absent when offset and length are both 0"
pub declared_exactly : (offset len : ℕ) → (declared offset len ≡ true) ↔ (((offset ≡ 0) × (len ≡ 0)) → ⊥)
unfolding declared
declared_exactly offset len = (
  λ e z. not_both (sym e ∙ rw (eq-eqb offset 0 z.0, eq-eqb len 0 z.1)),
  λ h. go (declared offset len) refl h,
)
  where
    go : (t : Bool) → declared offset len ≡ t → (((offset ≡ 0) × (len ≡ 0)) → ⊥) → t ≡ true
    go true e h = refl
    go false e h = absurd (h (undeclared offset len e))

pub header_index : (file : List ℕ) → header_test file ≡ Accepted → GoodIndex (index_offset file) (index_length file)
header_index file e = (index_fine (index_offset file) (index_length file)).0 (index_good file e)

-- no other test of the header answers 8
abbrev Eight : List ℕ → ℕ → ℕ → Type 0
Eight b n p = n ≡ 8 → (p ≡ 8) × BadIndex (index_offset b) (index_length b)

other : (b : List ℕ) (t : Bool) (n p : ℕ) → (n ≡ 8 → ⊥) → Refusing (Eight b) (when t n p)
other b t n p h = when-refusing (Eight b) t n p (λ e. absurd (h e))

eights : (b : List ℕ) → Refusing (Eight b) (header_test b)
unfolding header_test fixed_test characters_test
eights b =
    then-refusing _ _ _ (other b _ 1 _ (λ e. omega arith))
    (
    then-refusing _ _ _
    (
    then-refusing _ _ _ (other b _ 2 _ (λ e. omega arith))
    (
    then-refusing _ _ _ (other b _ 3 _ (λ e. omega arith))
    (then-refusing _ _ _ (other b _ 4 _ (λ e. omega arith)) (other b _ 5 _ (λ e. omega arith)))
    )
    )
    (
    then-refusing _ _ _ (other b _ 1 _ (λ e. omega arith))
    (
    then-refusing _ _ _ (other b _ 6 _ (λ e. omega arith))
    (
    then-refusing _ _ _ (other b _ 7 _ (λ e. omega arith))
    (held_refusing _ (bad_index (index_offset b) (index_length b)) 8 8 (λ t e. (refl, (index_bad (index_offset b) (index_length b)).0 t)))
    )
    )
    )
    )

pub header_eight : (file : List ℕ) (place : ℕ) → header_test file ≡ Refused 8 place
    → (place ≡ 8) × BadIndex (index_offset file) (index_length file)
header_eight file place e = let h : Eight file 8 place = rw e at (eights file) in h refl

-- "A fresh state has passed nothing and stands at the header's end, or at 0 if the header is refused"
pub fresh-passed : (file : List ℕ) → ((fresh file).passed_reads ≡ 0) × ((fresh file).passed_index ≡ false)
unfolding fresh
fresh-passed file = (refl, refl)

pub fresh-accepted : (file : List ℕ) → header_test file ≡ Accepted
    → ((fresh file).place ≡ header_length file) × ((fresh file).place ≡ up8 (31 + flows file + key_length file))
unfolding fresh fresh_place
fresh-accepted file e = rw e (refl, header_sized file e)

pub fresh_refused : (file : List ℕ) (n place : ℕ) → header_test file ≡ Refused n place → (fresh file).place ≡ 0
unfolding fresh fresh_place
fresh_refused file n place e = rw e

-- reads keep the rules exactly if each does
pub each_valid : (characters : List ℕ) (reads : List Read)
    → ((position : ℕ) → position < length reads → ValidRead characters (get_or reads position no_read))
    → ValidReads characters reads
each_valid characters [] h = tt
each_valid characters (read ∷ reads) h =
    (h 0 (omega arith), each_valid characters reads (λ i l. h (suc i) (omega arith)))

-- each read of an accepted file keeps the rules
pub read_keeps : (file : List ℕ) → Bytes file → file_test file ≡ Accepted → (position : ℕ) → position < read_count file
    → ValidRead (flow_characters file) (read_at (parse file) position)
unfolding parse
read_keeps file y e position h =
    valid_at (flow_characters file) (parse file).reads position (rw (reads-counted file) h)
    (file_valid file y e).reads_good
