-- What is put one after another is a read's section, or a new file: s is what a buffer was, s₁ what it is after the
-- first. Assumes nothing.
use Prim.Native.Nat.{ℕ, ◌+◌, ◌-◌, ◌*◌, ◌≤◌}
use mathlib.Core.Path.{◌≡◌, refl, ap, ◌∙◌}
use mathlib.Core.List.{List, [], ◌++◌, append-nil}
use native.Mathlib.Nat.{zero-add}
use native.Mathlib.Omega.{arith}
use lib.ListN.{length, replicate, length-append, length-replicate}
use Rattle.octets.specs.Parts.{put_at, up8}
use Rattle.octets.specs.Numbers.{fields, words}
use Rattle.octets.proofs.Lists.{put_next}
use Rattle.octets.proofs.Inserts.{insert_zero}
use Rattle.octets.proofs.Stands.{length_fields_lem, length_units}
use Rattle.sff_format.specs.declared.Clips.{Clips}
use Rattle.sff_format.specs.Model.{Read, read_fields, header_fields, layout_read_header, layout_read_data, layout_read, layout_reads, layout_header, layout}
use Rattle.sff_format.specs.Writing.{new_file, read_of}
use Rattle.sff_format.proofs.Sizes.{length_head, length_data, length_header, layout_none}
use Rattle.sff_sections.specs.Sections.{clip_fields, section_fields, header_section, read_size}
use Rattle.sff_sections.proofs.Pieces.{padding_put}

pub length-read : (r : Read) → length r.increments ≡ length r.bases → length r.qualities ≡ length r.bases → length (layout_read r) ≡ read_size r
unfolding layout_read
length-read r ei eq = simp (length-append, length_head, length_data) (omega arith)

module _ (name : List ℕ) (clips : Clips) where
  pub header_section_lem : (values increments bases qualities : List ℕ)
      → layout_read_header (read_of name clips values increments bases qualities) ≡ header_section name (length bases) clips
  unfolding layout_read_header read_fields header_section section_fields clip_fields
  header_section_lem values increments bases qualities = refl

  -- a read of so many bases
  abbrev pub counted : ℕ → Read
  counted n = read_of name clips [] [] (replicate n 0) []

  pub counted_section : (n : ℕ) → layout_read_header (counted n) ≡ header_section name n clips
  counted_section n = header_section_lem [] [] (replicate n 0) [] ∙ rw length-replicate refl

  pub counted_fields : (n : ℕ) → section_fields (length name) n clips ≡ read_fields (counted n)
  unfolding read_fields section_fields clip_fields
  counted_fields n = rw length-replicate refl

-- a read's header section
pub head_put :
    (at : ℕ) (r : Read) (s : List ℕ) {xs : List (ℕ × ℕ)} {s₁ s₂ s₃ : List ℕ} →
    s₁ ≡ put_at at (fields xs) s →
    xs ≡ read_fields r →
    s₂ ≡ put_at (at + 16) r.name s₁ →
    s₃ ≡ put_at (at + (16 + length r.name)) (replicate (up8 (16 + length r.name) - (16 + length r.name)) 0) s₂ →
    at + up8 (16 + length r.name) ≤ length s →
    s₃ ≡ put_at at (layout_read_header r) s
unfolding layout_read_header read_fields
head_put at r s e₁ e e₂ e₃ h =
    let xs : List ℕ = fields (read_fields r) in
    let len : length xs ≡ 16 = length_fields_lem (read_fields r) in
    let all : length (xs ++ r.name) ≡ 16 + length r.name = length-append xs r.name ∙ ap (λ (n : ℕ). n + length r.name) len in
    rw (e₃, e₂, e₁, e, put_next at 16 xs r.name s len (omega arith)) (padding_put at (16 + length r.name) (xs ++ r.name) s all (omega arith))

-- a read's data section
pub data_put :
    (at : ℕ) (r : Read) (s : List ℕ) {s₁ s₂ s₃ s₄ s₅ : List ℕ} →
    length r.increments ≡ length r.bases →
    length r.qualities ≡ length r.bases →
    s₁ ≡ put_at at (words r.values) s →
    s₂ ≡ put_at (at + 2 * length r.values) r.increments s₁ →
    s₃ ≡ put_at (at + (2 * length r.values + length r.bases)) r.bases s₂ →
    s₄ ≡ put_at (at + (2 * length r.values + 2 * length r.bases)) r.qualities s₃ →
    s₅ ≡ put_at (at + (2 * length r.values + 3 * length r.bases)) (replicate (up8 (2 * length r.values + 3 * length r.bases) - (2 * length r.values + 3 * length r.bases)) 0) s₄ →
    at + up8 (2 * length r.values + 3 * length r.bases) ≤ length s →
    s₅ ≡ put_at at (layout_read_data r) s
unfolding layout_read_data
data_put at r s ed eq e₁ e₂ e₃ e₄ e₅ h =
    let vs : List ℕ = r.values in
    let ds : List ℕ = r.increments in
    let bs : List ℕ = r.bases in
    let qs : List ℕ = r.qualities in
    let F : ℕ = length vs in
    let N : ℕ = length bs in
    let one : length (words vs) ≡ 2 * F = length_units 2 vs in
    let two : length (words vs ++ ds) ≡ 2 * F + N = simp (length-append, one, ed) in
    let three : length (words vs ++ ds ++ bs) ≡ 2 * F + 2 * N = simp (length-append, one, ed) (omega arith) in
    let four : length (words vs ++ ds ++ bs ++ qs) ≡ 2 * F + 3 * N = simp (length-append, one, ed, eq) (omega arith) in
    rw (
      e₅,
      e₄,
      e₃,
      e₂,
      e₁,
      put_next at (2 * F) (words vs) ds s one (omega arith),
      put_next at (2 * F + N) (words vs ++ ds) bs s two (omega arith),
      put_next at (2 * F + 2 * N) (words vs ++ ds ++ bs) qs s three (omega arith),
    ) (padding_put at (2 * F + 3 * N) (words vs ++ ds ++ bs ++ qs) s four (omega arith))

-- a read's data section behind its header section, which has n bytes
pub read_put :
    (at n : ℕ) (r : Read) (s : List ℕ) {s₁ s₂ : List ℕ} →
    s₁ ≡ put_at at (layout_read_header r) s →
    n ≡ up8 (16 + length r.name) →
    s₂ ≡ put_at (at + n) (layout_read_data r) s₁ →
    at + read_size r ≤ length s →
    s₂ ≡ put_at at (layout_read r) s
unfolding layout_read
read_put at n r s e₁ e e₂ h =
    rw (e₂, e₁, e)
    (put_next at (up8 (16 + length r.name)) (layout_read_header r) (layout_read_data r) s (length_head r) (omega arith))

-- a new file is its header
pub layout-new : (flow_characters key : List ℕ) → layout (new_file flow_characters key) ≡ layout_header (new_file flow_characters key)
unfolding layout layout_reads
layout-new flow_characters key = rw (layout_none, insert_zero, append-nil)

pub length-new : (flow_characters key : List ℕ) → length (layout (new_file flow_characters key)) ≡ up8 (31 + length flow_characters + length key)
length-new flow_characters key = rw layout-new (length_header (new_file flow_characters key))

pub new_put :
    (fs ks s : List ℕ) {xs : List (ℕ × ℕ)} {s₁ s₂ s₃ s₄ : List ℕ} →
    s₁ ≡ put_at 0 (fields xs) s →
    xs ≡ header_fields (new_file fs ks) →
    s₂ ≡ put_at 31 fs s₁ →
    s₃ ≡ put_at (31 + length fs) ks s₂ →
    s₄ ≡ put_at (0 + (31 + length fs + length ks)) (replicate (up8 (31 + length fs + length ks) - (31 + length fs + length ks)) 0) s₃ →
    up8 (31 + length fs + length ks) ≤ length s →
    s₄ ≡ put_at 0 (layout (new_file fs ks)) s
unfolding layout_header header_fields
new_put fs ks s e₁ e e₂ e₃ e₄ h =
    let xs : List ℕ = fields (header_fields (new_file fs ks)) in
    let one : length xs ≡ 31 = length_fields_lem (header_fields (new_file fs ks)) in
    let two : length (xs ++ fs) ≡ 31 + length fs = length-append xs fs ∙ ap (λ (n : ℕ). n + length fs) one in
    let three : length (xs ++ fs ++ ks) ≡ 31 + length fs + length ks = length-append (xs ++ fs) ks ∙ ap (λ (n : ℕ). n + length ks) two in
    rw (
      e₄,
      e₃,
      e₂,
      e₁,
      e,
      layout-new,
      put_next 0 31 xs fs s one (omega arith),
      rw zero-add at (put_next 0 (31 + length fs) (xs ++ fs) ks s two (omega arith)),
    ) (padding_put 0 (31 + length fs + length ks) (xs ++ fs ++ ks) s three (omega arith))
