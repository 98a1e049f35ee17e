-- A new file and an append for each read leave the file written afresh, and are carried out exactly if it keeps the
-- rules and the buffer holds it. Assumes nothing.
use Prim.Native.Nat.{ℕ, ◌+◌, ◌≤◌, ◌<◌}
use mathlib.Core.Path.{◌≡◌, refl, sym, ap, ◌∙◌}
use mathlib.Core.Bool.{false, ◌||◌}
use mathlib.Core.Logic.{◌↔◌}
use mathlib.Core.List.Sublistᴰ
use mathlib.Core.List.{List, [], ◌∷◌, ◌++◌, append_assoc, append-nil}
use native.Mathlib.Omega.{arith}
use lib.ListN.{length, take, length-append}
use Rattle.octets.specs.Parts.{put_at, up8}
use Rattle.octets.specs.Scans.{fails, is_flow_character}
use Rattle.octets.proofs.Lists.{length_put, take-front}
use Rattle.octets.proofs.Every.{none_fails, every_passes, every_left, every_right, every_both}
use Rattle.answers.specs.Answer.{Answer, Accepted, Refused, accepted_or}
use Rattle.sff_format.specs.Rules.{declared}
use Rattle.sff_format.specs.Model.{Read, File, no_index, layout_read, layout}
use Rattle.sff_format.specs.Valid.{Valid}
use Rattle.sff_format.specs.HeaderTest.{index_offset, index_length, read_count, flow_characters}
use Rattle.sff_format.specs.FileTest.{file_test}
use Rattle.sff_format.specs.Writing.{new_file, new_test, new_outcome, new_buffer, given_test, append_test, append_outcome, append_buffer, WriteResult, append_each, write_each, FitsSlices, AllFitSlices}
use Rattle.answers.proofs.Answers.{first-ok, second-ok, both_ok, when-ok, ok-when, under_ok, ok_under, not-accepted, or_left, or_right}
use Rattle.sff_format.proofs.Sizes.{length_header}
use Rattle.sff_format.proofs.HeaderLaws.{offset_is, index_length_is, count_is, characters_are}
use Rattle.sff_format.proofs.FileTaken.{header_first, file_taken, file-back}
use Rattle.sff_format.proofs.Appended.{reads-append, layout-plain}
use Rattle.sff_format.proofs.Written.{layout-bytes}
use Rattle.sff_format.proofs.Keeps.{valid_next, plain, is_plain, plain_valid, valid_some}
use Rattle.sff_format.proofs.Appends.{length_more, appended_in, carried, carried_out, append-done, append_left, append_valid}
use Rattle.sff_format.proofs.Given.{valid_given}

-- what is left where a file has been written at the front of a buffer
abbrev written : List ℕ → File → WriteResult
written buffer f = record { outcome = record { answer = Accepted; length = length (layout f) }; buffer = put_at 0 (layout f) buffer }

valid_front : (characters key : List ℕ) (us ws : List Read) → Valid (plain characters key (us ++ ws)) → Valid (plain characters key us)
valid_front characters key us ws v = valid_some (plain characters key (us ++ ws)) v (rw append-nil at (Sublistᴰ.append (Sublistᴰ.refl us) (Sublistᴰ.nil-sublist ws)))

module _ (characters key buffer : List ℕ) (us : List Read) (r : Read) (v : Valid (plain characters key (us ++ (r ∷ []))))
    (fits : length (layout (plain characters key (us ++ (r ∷ [])))) ≤ length buffer) where
  abbrev f : File
  f = plain characters key us

  abbrev L : List ℕ
  L = layout f

  abbrev B : List ℕ
  B = put_at 0 L buffer

  good : Valid f
  good = valid_front characters key us (r ∷ []) v

  front : take (length L) B ≡ L
  front = take-front L buffer

  size : length L + length (layout_read r) ≤ length buffer
  size = rw (length_more characters key us r) at fits

  whole : length B ≡ length buffer
  whole = length_put 0 L buffer (omega (arith, size))

  counted : read_count (take (length L) B) ≡ length us
  counted = ap read_count front ∙ count_is (layout (plain characters key us)) (plain characters key us) good (header_first (plain characters key us) good)

  no_index_lem : declared (index_offset (take (length L) B)) (index_length (take (length L) B)) ≡ false
  unfolding declared
  no_index_lem =
      let g = plain characters key us in
      let o : index_offset (take (length (layout g)) B) ≡ 0 = ap index_offset front ∙ offset_is (layout g) g good (header_first g good) in
      let l : index_length (take (length (layout g)) B) ≡ 0 = ap index_length front ∙ index_length_is (layout g) g good (header_first g good) in
      rw (o, l)

  given : given_test (flow_characters (take (length L) B)) r ≡ Accepted
  given =
      let g = plain characters key us in
      let c : flow_characters (take (length (layout g)) B) ≡ characters = ap flow_characters front ∙ characters_are (layout g) g good (header_first g good) in
      rw c (valid_given characters r (valid_next characters us r [] v.reads_good))

  below : read_count (take (length L) B) ≡ 4294967295 → ⊥
  below e =
      let n = v.count_fits in
      let l : length (us ++ (r ∷ [])) ≡ length us + 1 = length-append us (r ∷ []) in
      omega (arith, n, l, e, counted)

  accepted : append_test B (length L) r ≡ Accepted
  accepted =
      carried_out B (length L) r
      (record { stated = rw whole (omega (arith, size)); accepted = ap file_test front ∙ file_taken f good; no_index_lem = no_index_lem; below = below; given = given; room = rw whole size })

  -- what an append leaves is the file with one read more
  next_outcome : append_outcome B (length L) r ≡ record { answer = Accepted; length = length (layout (plain characters key (us ++ (r ∷ [])))) }
  next_outcome = append-done B (length L) r accepted ∙ rw (length_more characters key us r)

  next_buffer : append_buffer B (length L) r ≡ put_at 0 (layout (plain characters key (us ++ (r ∷ [])))) buffer
  next_buffer = append_left B (length L) r accepted ∙ rw counted (appended_in characters key us r buffer (omega (arith, size)))

-- more reads, more bytes
layout_le : (characters key : List ℕ) (us ws : List Read) → length (layout (plain characters key us)) ≤ length (layout (plain characters key (us ++ ws)))
layout_le characters key us ws =
    let f = plain characters key us in
    let g = plain characters key (us ++ ws) in
    rw (layout-plain f refl, layout-plain g refl, length-append, length-append, length_header f, length_header g, reads-append us ws, length-append) (omega arith)

each-written : (characters key buffer : List ℕ) (us ws : List Read) → Valid (plain characters key (us ++ ws)) → length (layout (plain characters key (us ++ ws))) ≤ length buffer
    → append_each (written buffer (plain characters key us)) ws ≡ written buffer (plain characters key (us ++ ws))
unfolding append_each accepted_or
each-written characters key buffer us [] v h = rw append-nil
each-written characters key buffer us (r ∷ rs) v h =
    let e : (us ++ (r ∷ [])) ++ rs ≡ us ++ (r ∷ rs) = append_assoc us (r ∷ []) rs in
    let w : Valid (plain characters key ((us ++ (r ∷ [])) ++ rs)) = rw e v in
    let k : length (layout (plain characters key ((us ++ (r ∷ [])) ++ rs))) ≤ length buffer = rw e h in
    let x = valid_front characters key (us ++ (r ∷ [])) rs w in
    let l : length (layout (plain characters key (us ++ (r ∷ [])))) ≤ length buffer = let m = layout_le characters key (us ++ (r ∷ [])) rs in omega arith in
    rw (next_outcome characters key buffer us r x l, next_buffer characters key buffer us r x l)
    (each-written characters key buffer (us ++ (r ∷ [])) rs w k ∙ rw e)

-- a new file is written where no reason to refuse holds
small_header : (m n : ℕ) → up8 (31 + m + n) < 65536 → m + n ≤ 65497
small_header m n h = omega arith

header_small : (m n : ℕ) → m + n ≤ 65497 → up8 (31 + m + n) < 65536
header_small m n h = omega arith

module _ (buffer characters key : List ℕ) (v : Valid (new_file characters key)) (fits : length (layout (new_file characters key)) ≤ length buffer) where
  new-accepted : new_test (length buffer) characters key ≡ Accepted
  unfolding new_test
  new-accepted =
      let c = every_passes is_flow_character characters (every_left is_flow_character characters key v.characters_good) in
      let k = every_passes is_flow_character key (every_right is_flow_character characters key v.characters_good) in
      both_ok _ _ (ok_under 65497 (length characters + length key) _ _ (small_header (length characters) (length key) v.header_fits))
      (both_ok _ _ (ok-when _ _ _ (rw (c, k))) (ok_under (length buffer) (length (layout (new_file characters key))) _ _ fits))

  new-outcome : new_outcome buffer characters key ≡ record { answer = Accepted; length = length (layout (new_file characters key)) }
  unfolding new_outcome accepted_or
  new-outcome = rw new-accepted

  new-buffer : new_buffer buffer characters key ≡ put_at 0 (layout (new_file characters key)) buffer
  unfolding new_buffer accepted_or
  new-buffer = rw new-accepted

module _ (content : File) (e : content.index ≡ no_index) where
  -- "Without one, a new file and an append for each read leave these bytes in any buffer that holds them"
  pub write_each_lem : Valid content → (buffer : List ℕ) → length (layout content) ≤ length buffer
      → write_each buffer content ≡ record { outcome = record { answer = Accepted; length = length (layout content) }; buffer = put_at 0 (layout content) buffer }
  unfolding write_each
  write_each_lem v buffer h =
      let c = content.flow_characters in
      let k = content.key in
      let w : Valid (plain c k content.reads) = rw (is_plain content e) v in
      let l : length (layout (plain c k content.reads)) ≤ length buffer = rw (is_plain content e) h in
      let n = valid_front c k [] content.reads w in
      let m : length (layout (new_file c k)) ≤ length buffer = let a = layout_le c k [] content.reads in omega arith in
      rw (new-outcome buffer c k n m, new-buffer buffer c k n m)
      (each-written c k buffer [] content.reads w l ∙ ap (written buffer) (is_plain content e))

-- a writer that was refused stays so
stays : (w : WriteResult) (rs : List Read) (n p : ℕ) → w.outcome.answer ≡ Refused n p → (append_each w rs).outcome.answer ≡ Refused n p
unfolding append_each accepted_or
stays w [] n p e = e
stays w (r ∷ rs) n p e = rw e

append_refused : (buffer : List ℕ) (len : ℕ) (r : Read) (n p : ℕ) → append_test buffer len r ≡ Refused n p → (append_outcome buffer len r).answer ≡ Refused n p
unfolding append_outcome
append_refused buffer len r n p e = e

new_refused : (buffer characters key : List ℕ) (n p : ℕ) → new_test (length buffer) characters key ≡ Refused n p → (new_outcome buffer characters key).answer ≡ Refused n p
unfolding new_outcome
new_refused buffer characters key n p e = e

-- what an append that was carried out shows
module _ (characters key buffer : List ℕ) (us : List Read) (r : Read) (v : Valid (plain characters key us)) (t : FitsSlices r)
    (fits : length (layout (plain characters key us)) ≤ length buffer) where
  abbrev file : File
  file = plain characters key us

  module _ (a : append_test (put_at 0 (layout file) buffer) (length (layout file)) r ≡ Accepted) where
    stood : take (length (layout file)) (put_at 0 (layout file) buffer) ≡ layout file
    stood = take-front (layout file) buffer

    fits_more : length (layout (plain characters key (us ++ (r ∷ [])))) ≤ length buffer
    fits_more =
        let m = (carried (put_at 0 (layout file) buffer) (length (layout file)) r a).room in
        let l : length (put_at 0 (layout file) buffer) ≡ length buffer = length_put 0 (layout file) buffer (omega arith) in
        rw (length_more characters key us r) (omega (arith, m, l))

    valid_more : Valid (plain characters key (us ++ (r ∷ [])))
    valid_more = rw (stood, file-back file v) at (append_valid (put_at 0 (layout file) buffer) (length (layout file)) r (rw stood (layout-bytes file v)) a t)

-- the file keeps the rules and fits the buffer
abbrev Fits : List ℕ → File → Type 0
Fits buffer f = Valid f × (length (layout f) ≤ length buffer)

each_exactly : (characters key buffer : List ℕ) (us ws : List Read) → Valid (plain characters key us) → length (layout (plain characters key us)) ≤ length buffer → AllFitSlices ws
    → (append_each (written buffer (plain characters key us)) ws).outcome.answer ≡ Accepted
    → Fits buffer (plain characters key (us ++ ws))
unfolding append_each accepted_or
each_exactly characters key buffer us [] v h t e = rw append-nil (v, h)
each_exactly characters key buffer us (r ∷ rs) v h t e = go (append_test (put_at 0 (layout (plain characters key us)) buffer) (length (layout (plain characters key us))) r) refl
    (λ x l z. each_exactly characters key buffer (us ++ (r ∷ [])) rs x l t.1 z)
  where
    go : (a : Answer) → append_test (put_at 0 (layout (plain characters key us)) buffer) (length (layout (plain characters key us))) r ≡ a
        → (Valid (plain characters key (us ++ (r ∷ []))) → length (layout (plain characters key (us ++ (r ∷ [])))) ≤ length buffer
        → (append_each (written buffer (plain characters key (us ++ (r ∷ [])))) rs).outcome.answer ≡ Accepted → Fits buffer (plain characters key ((us ++ (r ∷ [])) ++ rs)))
        → Fits buffer (plain characters key (us ++ (r ∷ rs)))
    go Accepted f more =
        let x = valid_more characters key buffer us r v t.0 h f in
        let l = fits_more characters key buffer us r v t.0 h f in
        let d : (us ++ (r ∷ [])) ++ rs ≡ us ++ (r ∷ rs) = append_assoc us (r ∷ []) rs in
        rw (← d) (more x l (rw (next_outcome characters key buffer us r x l, next_buffer characters key buffer us r x l) at e))
    go (Refused m p) f more = not-accepted m p (sym (stays _ rs m p (append_refused (put_at 0 (layout (plain characters key us)) buffer) (length (layout (plain characters key us))) r m p f)) ∙ e)

new_valid : (buffer characters key : List ℕ) → new_test (length buffer) characters key ≡ Accepted → Fits buffer (new_file characters key)
unfolding new_test
new_valid buffer characters key e =
    let six = when-ok (fails is_flow_character characters || fails is_flow_character key) _ _ (first-ok _ _ (second-ok _ _ e)) in
    let c = none_fails is_flow_character characters (or_left (fails is_flow_character characters) (fails is_flow_character key) six) in
    let k = none_fails is_flow_character key (or_right (fails is_flow_character characters) (fails is_flow_character key) six) in (
      plain_valid characters key [] (every_both is_flow_character characters key c k)
          (header_small (length characters) (length key) (under_ok _ _ _ _ (first-ok _ _ e))) (omega arith) tt,
      under_ok _ _ _ _ (second-ok _ _ (second-ok _ _ e)),
    )

-- The writers carry all of it out exactly if the file keeps the rules and the buffer holds it.
module _ (content : File) (e : content.index ≡ no_index) (buffer : List ℕ) (t : AllFitSlices content.reads) where
  pub write_exactly : ((write_each buffer content).outcome.answer ≡ Accepted)
      ↔ (Valid content × (length (layout content) ≤ length buffer))
  unfolding write_each
  write_exactly = ((λ a. go a (new_test (length buffer) content.flow_characters content.key) refl), (λ k. ap (λ (w : WriteResult). w.outcome.answer) (write_each_lem content e k.0 buffer k.1)))
    where
      go : (write_each buffer content).outcome.answer ≡ Accepted → (a : Answer)
          → new_test (length buffer) content.flow_characters content.key ≡ a → Fits buffer content
      go a Accepted n =
          let x = new_valid buffer content.flow_characters content.key n in
          rw (is_plain content e) at
          (each_exactly content.flow_characters content.key buffer [] content.reads x.0 x.1 t
          (rw (new-outcome buffer content.flow_characters content.key x.0 x.1, new-buffer buffer content.flow_characters content.key x.0 x.1) at a))
      go a (Refused m p) n =
          not-accepted m p
          (sym (stays _ content.reads m p (new_refused buffer content.flow_characters content.key m p n)) ∙ a)
