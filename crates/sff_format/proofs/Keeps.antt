-- Lists of reads that keep the rules, a file with no index, and a file that still keeps the rules without any set of
-- its reads, or with another read in the place of one. Assumes nothing.
use Prim.Native.Nat.{ℕ, zero, suc, ◌+◌, ◌≤◌, ◌<◌}
use mathlib.Core.Path.{◌≡◌, refl, sym, ap, subst, ◌∙◌}
use mathlib.Core.Bool.{true, false, false≢true}
use mathlib.Core.Logic.{◌⊎◌, inl, inr}
use mathlib.Core.List.Sublistᴰ
use mathlib.Core.List.{List, [], ◌∷◌, ◌++◌, Sublistᴰ}
use native.Mathlib.Omega.{arith}
use lib.ListN.{length, take, get_or, length-append, length-take, length-drop}
use Rattle.octets.specs.Parts.{up8}
use Rattle.octets.specs.Scans.{Every, is_flow_character}
use Rattle.sff_format.specs.Model.{Read, Index, File, no_index, layout_read, layout_reads, with_reads}
use Rattle.sff_format.specs.Rules.{declared, bad_index}
use Rattle.sff_format.specs.Valid.{ValidRead, ValidReads, IsBoundary, Valid}
use Rattle.sff_format.specs.Places.{no_read, read_at, replaced}
use Rattle.sff_format.specs.Writing.{new_file}
use Rattle.sff_format.proofs.Boundaries.{undeclared}
use Rattle.sff_format.proofs.Appended.{header_same}

module _ (characters : List ℕ) where
  pub valid_append : (us ws : List Read) → ValidReads characters us → ValidReads characters ws → ValidReads characters (us ++ ws)
  valid_append [] ws g h = h
  valid_append (u ∷ us) ws g h = (g.0, valid_append us ws g.1 h)

  pub valid_next : (us : List Read) (r : Read) (ws : List Read) → ValidReads characters (us ++ (r ∷ ws)) → ValidRead characters r
  valid_next [] r ws g = g.0
  valid_next (u ∷ us) r ws g = valid_next us r ws g.1

  -- each of them
  pub valid_at : (reads : List Read) (position : ℕ) → position < length reads → ValidReads characters reads
      → ValidRead characters (get_or reads position no_read)
  valid_at [] position h g = absurd (let a : ⊥ = omega arith in a)
  valid_at (read ∷ reads) zero h g = g.0
  valid_at (read ∷ reads) (suc position) h g = valid_at reads position (omega arith) g.1

  -- any set of them left out, and another in the place of one
  some_valid : {us rs : List Read} → Sublistᴰ us rs → ValidReads characters rs → ValidReads characters us
  some_valid Sublistᴰ.slnil g = tt
  some_valid (Sublistᴰ.cons s) g = some_valid s g.1
  some_valid (Sublistᴰ.cons-cons e s) g = (rw e g.0, some_valid s g.1)

  valid_replaced : (i : ℕ) (r : Read) (rs : List Read) → ValidReads characters rs → ValidRead characters r → ValidReads characters (replaced i (r ∷ []) rs)
  valid_replaced zero r [] g w = (w, tt)
  valid_replaced zero r (x ∷ rs) g w = (w, g.1)
  valid_replaced (suc i) r [] g w = (w, tt)
  valid_replaced (suc i) r (x ∷ rs) g w = (g.0, valid_replaced i r rs g.1 w)

some_fewer : {us rs : List Read} → Sublistᴰ us rs → length us ≤ length rs
some_fewer Sublistᴰ.slnil = omega arith
some_fewer (Sublistᴰ.cons s) = let n = some_fewer s in omega arith
some_fewer (Sublistᴰ.cons-cons e s) = let n = some_fewer s in omega arith

all_but : (i : ℕ) (rs : List Read) → Sublistᴰ (replaced i [] rs) rs
all_but zero [] = Sublistᴰ.slnil
all_but zero (r ∷ rs) = Sublistᴰ.cons (Sublistᴰ.refl rs)
all_but (suc i) [] = Sublistᴰ.slnil
all_but (suc i) (r ∷ rs) = Sublistᴰ.cons-cons refl (all_but i rs)

-- a read of the same size moves no boundary
front-replaced : (k i : ℕ) (rs : List Read) (r : Read) → i < length rs → length (layout_read r) ≡ length (layout_read (get_or rs i no_read))
    → length (layout_reads (take k (replaced i (r ∷ []) rs))) ≡ length (layout_reads (take k rs))
unfolding layout_reads
front-replaced zero i rs r h e = refl
front-replaced (suc k) i [] r h e = absurd (let a : ⊥ = omega arith in a)
front-replaced (suc k) zero (x ∷ rs) r h e = rw (length-append, length-append, e)
front-replaced (suc k) (suc i) (x ∷ rs) r h e = rw (length-append, length-append, front-replaced k i rs r (omega arith) e)

-- an index is declared exactly if there is one
pub none_declared : (f : File) → f.index ≡ no_index → declared f.index.offset (length f.index.bytes) ≡ false
unfolding declared
none_declared f e = ap (λ (x : Index). declared x.offset (length x.bytes)) e

nothing : (l : List ℕ) → length l ≡ 0 → l ≡ []
nothing [] e = refl
nothing (x ∷ l) e = absurd (let a : ⊥ = omega arith in a)

pub no_index_lem : (f : File) → declared f.index.offset (length f.index.bytes) ≡ false → f.index ≡ no_index
no_index_lem f d =
    let u = undeclared f.index.offset (length f.index.bytes) d in
    let n : f.index.bytes ≡ [] = nothing f.index.bytes u.1 in
    λ j. record { offset = u.0 j; bytes = n j }

-- a file with no index keeps the rules where its characters, their number, the count and the reads do
abbrev pub plain : List ℕ → List ℕ → List Read → File
plain characters key rs = with_reads rs (new_file characters key)

pub is_plain : (f : File) → f.index ≡ no_index → plain f.flow_characters f.key f.reads ≡ f
is_plain f e = λ j. record { flow_characters = f.flow_characters; key = f.key; index = sym e j; reads = f.reads }

pub plain_valid : (characters key : List ℕ) (rs : List Read) → Every is_flow_character (characters ++ key) → up8 (31 + length characters + length key) < 65536
    → length rs < 4294967296 → ValidReads characters rs → Valid (plain characters key rs)
unfolding bad_index declared
plain_valid characters key rs c h n g = record {
  characters_good = c;
  header_fits = h;
  count_fits = n;
  index_fits = (omega arith, omega arith, tt);
  index_good = refl;
  index_met = λ e. absurd (false≢true e);
  reads_good = g;
}

-- a file without its index, and without any set of its reads
pub valid_some : (f : File) {us : List Read} → Valid f → Sublistᴰ us f.reads → Valid (plain f.flow_characters f.key us)
valid_some f {us} v s =
    let n = some_fewer s in
    let c = v.count_fits in
    plain_valid f.flow_characters f.key us v.characters_good v.header_fits (omega arith) (some_valid f.flow_characters s v.reads_good)

module _ (f : File) (i : ℕ) (h : i < length f.reads) (v : Valid f) where
  pub valid_gone : f.index ≡ no_index → Valid (with_reads (replaced i [] f.reads) f)
  valid_gone e = subst Valid (is_plain (with_reads (replaced i [] f.reads) f) e) (valid_some f v (all_but i f.reads))

  -- another read in the place of one, of the same size, or of any where there is no index
  module _ (r : Read) (w : ValidRead f.flow_characters r) where
    abbrev rs : List Read
    rs = replaced i (r ∷ []) f.reads

    as_many : length rs ≡ length f.reads
    as_many = simp (length-append, length-take, length-drop) (omega arith)

    met : (length (layout_read r) ≡ length (layout_read (read_at f i))) ⊎ (f.index ≡ no_index)
        → declared f.index.offset (length f.index.bytes) ≡ true → IsBoundary (with_reads rs f) f.index.offset
    met (inl e) d = ((v.index_met d).0, rw (header_same f rs as_many, front-replaced (v.index_met d).0 i f.reads r h e) (v.index_met d).1)
    met (inr e) d = absurd (false≢true (sym (none_declared f e) ∙ d))

    pub valid_changed : (length (layout_read r) ≡ length (layout_read (read_at f i))) ⊎ (f.index ≡ no_index) → Valid (with_reads rs f)
    valid_changed s = record {
      characters_good = v.characters_good;
      header_fits = v.header_fits;
      count_fits = rw as_many v.count_fits;
      index_fits = v.index_fits;
      index_good = v.index_good;
      index_met = met s;
      reads_good = valid_replaced f.flow_characters i r f.reads v.reads_good w;
    }
