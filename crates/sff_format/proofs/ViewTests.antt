-- A view that is accepted is handed out whole, and a view that a step gave is accepted: each part of it lies in the
-- file. Assumes nothing.
use Prim.Native.Nat.{ℕ, suc, ◌+◌, ◌-◌, ◌≤◌}
use mathlib.Core.Path.{◌≡◌, refl, subst}
use mathlib.Core.Bool.{Bool, true, false, ◌&&◌, and-false}
use mathlib.Core.List.{List}
use native.Mathlib.Omega.{arith}
use lib.ListN.{length}
use lib.Dec.{leb, ltb}
use borrow.Author.Tests.{leb-true, leb-false, ltb-false, le-ltb}
use Rattle.octets.specs.Parts.{part}
use Rattle.octets.specs.Numbers.{Bytes}
use Rattle.octets.proofs.Lists.{length_part, whole_in, whole_none}
use Rattle.answers.specs.Answer.{Answer, Accepted, Refused}
use Rattle.answers.proofs.Answers.{first-ok, second-ok, both_ok, when-ok, ok-when, under_ok, ok_under}
use Rattle.sff_format.specs.declared.Span.{Span}
use Rattle.sff_format.specs.declared.ReadView.{ReadView}
use Rattle.sff_format.specs.HeaderTest.{flows, flow_characters}
use Rattle.sff_format.specs.ReadTest.{read_test}
use Rattle.sff_format.specs.Insert.{between}
use Rattle.sff_format.specs.View.{view_at, bytes_in, view_first, view_last, view_span, insert_in, insert_outside, view_test}
use Rattle.sff_format.specs.Step.{State, Step, found, stop, boundary, step_test, step}
use Rattle.sff_format.proofs.HeaderLaws.{characters-length}
use Rattle.sff_format.proofs.Views.{name_inside, data_inside}
use Rattle.sff_format.proofs.Inserted.{first-least, span_viewed}
use Rattle.sff_format.proofs.Steps.{step-found, step-stop, header_accepted, read-accepted}

-- a stretch is handed out whole: the file's bytes from its place on, as many as it says
abbrev pub Whole : List ℕ → Span → Type 0
Whole b x = (bytes_in b x ≡ part x.at x.size b) × (length (bytes_in b x) ≡ x.size)

whole : (b : List ℕ) (x : Span) → x.at + x.size ≤ length b → Whole b x
whole b x h = let w = whole_in x.at x.size b h in (w, rw w (length_part x.at x.size b h))

-- an insert that its test takes is empty, or lies within the bases l
insert-length : (first last : ℕ) (l : List ℕ) → 1 ≤ first → (leb first last && ltb (length l) last) ≡ false → length (bytes_in l (between first last)) ≡ suc last - first
insert-length first last l o e = go (leb first last) refl e
  where
    go : (t : Bool) → leb first last ≡ t → (t && ltb (length l) last) ≡ false → length (bytes_in l (between first last)) ≡ suc last - first
    go true k f = let h = leb-true first last k in let m = ltb-false (length l) last f in (whole l (between first last) (omega arith)).1
    go false k f = let h = leb-false first last k in let n : suc last - first ≡ 0 = omega arith in rw (n, whole_none (first - 1) l)

module _ (file : List ℕ) (view : ReadView) (e : view_test file view ≡ Accepted) where
  pub name_whole : Whole file view.name
  unfolding view_test
  name_whole = whole file view.name (under_ok _ _ _ _ (first-ok _ _ e))

  pub values_whole : Whole file view.values
  unfolding view_test
  values_whole = whole file view.values (under_ok _ _ _ _ (first-ok _ _ (second-ok _ _ e)))

  pub increments_whole : Whole file view.increments
  unfolding view_test
  increments_whole = whole file view.increments (under_ok _ _ _ _ (first-ok _ _ (second-ok _ _ (second-ok _ _ e))))

  pub bases_whole : Whole file view.bases
  unfolding view_test
  bases_whole =
      whole file view.bases (under_ok _ _ _ _ (first-ok _ _ (second-ok _ _ (second-ok _ _ (second-ok _ _ e)))))

  pub qualities_whole : Whole file view.qualities
  unfolding view_test
  qualities_whole =
      whole file view.qualities
      (under_ok _ _ _ _ (first-ok _ _ (second-ok _ _ (second-ok _ _ (second-ok _ _ (second-ok _ _ e))))))

  -- all bases from the first to the last of the insert, none where the last comes before the first
  pub insert_whole : length (insert_in view (bytes_in file view.bases)) ≡ (view_span view).size
  unfolding view_test insert_in
  insert_whole =
      let t : insert_outside view ≡ false = when-ok _ _ _ (second-ok _ _ (second-ok _ _ (second-ok _ _ (second-ok _ _ (second-ok _ _ e))))) in
      insert-length (view_first view) (view_last view) (bytes_in file view.bases)
      (first-least view.quality_left view.adapter_left) (rw bases_whole.1 t)

-- the view of a read that is accepted
module _ (characters b : List ℕ) (p : ℕ) (y : Bytes b) (e : read_test characters b p ≡ Accepted) where
  insert_inside : insert_outside (view_at (length characters) b p) ≡ false
  insert_inside =
      let v = view_at (length characters) b p in
      let s = (span_viewed characters b p y e).1 in
      let o = first-least v.quality_left v.adapter_left in
      rw (le-ltb v.bases.size (view_last v) (omega arith)) (and-false (leb (view_first v) (view_last v)))

  pub read_view_accepted : view_test b (view_at (length characters) b p) ≡ Accepted
  unfolding view_test
  read_view_accepted =
      let d = data_inside characters b p e in
      both_ok _ _ (ok_under _ _ _ _ (name_inside characters b p e))
      (
      both_ok _ _ (ok_under _ _ _ _ d.0)
      (
      both_ok _ _ (ok_under _ _ _ _ d.1)
      (
      both_ok _ _ (ok_under _ _ _ _ d.2)
      (both_ok _ _ (ok_under _ _ _ _ d.3) (ok-when (insert_outside (view_at (length characters) b p)) _ _ insert_inside))
      )
      )
      )

-- what a step finds, whatever its state
abbrev FoundAccepted : List ℕ → Step → Type 0
FoundAccepted b (found v next) = view_test b v ≡ Accepted
FoundAccepted b (stop n p s) = Unit {0}

step-accepted : (b : List ℕ) (s : State) → Bytes b → FoundAccepted b (step b s)
step-accepted b s y = go (step_test b s) refl
  where
    go : (a : Answer) → step_test b s ≡ a → FoundAccepted b (step b s)
    go Accepted e =
        let c : length (flow_characters b) ≡ flows b = characters-length b (header_accepted b s e) in
        rw (step-found b s e) (rw c at (read_view_accepted (flow_characters b) b (boundary b s) y (read-accepted b s e)))
    go (Refused n p) e = rw (step-stop b s n p e) tt

pub found-accepted : (file : List ℕ) (state : State) (view : ReadView) (next : State) → Bytes file
    → step file state ≡ found view next → view_test file view ≡ Accepted
found-accepted file state view next y e = subst (FoundAccepted file) e (step-accepted file state y)
