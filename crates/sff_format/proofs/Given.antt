-- A read that is lent to be written is accepted exactly if it keeps the rules. Assumes nothing.
use Prim.Native.Nat.{ℕ, ◌+◌, ◌≤◌, ◌<◌}
use mathlib.Core.Path.{◌≡◌}
use mathlib.Core.Bool.{false, not, ◌||◌}
use mathlib.Core.List.{List}
use native.Mathlib.Omega.{arith}
use lib.ListN.{length}
use lib.Dec.{ltb, eqb}
use borrow.Author.Tests.{not-false, ltb-false, le-ltb, eqb-true, eq-eqb}
use Rattle.octets.specs.Parts.{up8}
use Rattle.octets.specs.Scans.{is_name_byte}
use Rattle.octets.proofs.Every.{none_fails, every_passes}
use Rattle.answers.specs.Answer.{Accepted}
use Rattle.sff_format.specs.Model.{Read}
use Rattle.sff_format.specs.Valid.{ValidRead}
use Rattle.sff_format.specs.ReadTest.{clip_test}
use Rattle.sff_format.specs.Writing.{bad_counts, given_test, FitsSlices}
use Rattle.answers.proofs.Answers.{first-ok, second-ok, both_ok, when-ok, ok-when, under_ok, ok_under, zero-place-ok, ok-zero-place, or_left, or_right}
use Rattle.sff_format.proofs.Bases.{walk_ok, calls_ok, ok_bases}

-- the counts, which 30 refuses where they differ
pub counts_ok : (v F x n q : ℕ) → bad_counts F v x n q ≡ false → (v ≡ F) × (x ≡ n) × (q ≡ n) × (n < 4294967296)
unfolding bad_counts
counts_ok v F x n q e =
    let l = or_left (not (eqb v F) || not (eqb x n)) (not (eqb q n) || ltb 4294967295 n) e in
    let r = or_right (not (eqb v F) || not (eqb x n)) (not (eqb q n) || ltb 4294967295 n) e in
    let h : n ≤ 4294967295 = ltb-false 4294967295 n (or_right (not (eqb q n)) (ltb 4294967295 n) r) in (
      eqb-true v F (not-false (eqb v F) (or_left (not (eqb v F)) (not (eqb x n)) l)),
      eqb-true x n (not-false (eqb x n) (or_right (not (eqb v F)) (not (eqb x n)) l)),
      eqb-true q n (not-false (eqb q n) (or_left (not (eqb q n)) (ltb 4294967295 n) r)),
      omega arith,
    )

ok_counts : (v F x n q : ℕ) → v ≡ F → x ≡ n → q ≡ n → n < 4294967296 → bad_counts F v x n q ≡ false
unfolding bad_counts
ok_counts v F x n q a b c d =
    let h : n ≤ 4294967295 = omega arith in
    rw (eq-eqb v F a, eq-eqb x n b, eq-eqb q n c, le-ltb 4294967295 n h)

name-small : (n : ℕ) → n ≤ 65512 → up8 (16 + n) < 65536
name-small n h = omega arith

small-name : (n : ℕ) → up8 (16 + n) < 65536 → n ≤ 65512
small-name n h = omega arith

module _ (characters : List ℕ) (r : Read) where
  pub given_valid : FitsSlices r → given_test characters r ≡ Accepted → ValidRead characters r
  unfolding given_test clip_test
  given_valid g e =
      let c = counts_ok (length r.values) (length characters) (length r.increments) (length r.bases) (length r.qualities) (when-ok _ _ _ (first-ok _ _ e)) in
      let rest = second-ok _ _ (second-ok _ _ (second-ok _ _ e)) in
      let clip = zero-place-ok _ (first-ok _ _ rest) in
      let bases = zero-place-ok _ (second-ok _ _ rest) in
      record {
        name_good = none_fails is_name_byte r.name (when-ok _ _ _ (first-ok _ _ (second-ok _ _ (second-ok _ _ e))));
        name_fits = name-small (length r.name) (under_ok _ _ _ _ (first-ok _ _ (second-ok _ _ e)));
        bases_fit = c.3;
        clips_fit = g.clips_fit;
        quality_left_good = under_ok _ _ _ _ (first-ok _ _ clip);
        quality_right_good = under_ok _ _ _ _ (first-ok _ _ (second-ok _ _ clip));
        adapter_left_good = under_ok _ _ _ _ (first-ok _ _ (second-ok _ _ (second-ok _ _ clip)));
        adapter_right_good = under_ok _ _ _ _ (second-ok _ _ (second-ok _ _ (second-ok _ _ clip)));
        values_count = c.0;
        values_fit = g.values_fit;
        increments_count = c.1;
        qualities_count = c.2;
        walk_good = walk_ok characters r.increments r.bases bases;
        bases_good = calls_ok characters r.increments r.bases bases;
        bytes_good = g.bytes_good;
      }

  pub valid_given : ValidRead characters r → given_test characters r ≡ Accepted
  unfolding given_test clip_test
  valid_given v =
      both_ok _ _ (ok-when _ _ _ (ok_counts (length r.values) (length characters) (length r.increments) (length r.bases) (length r.qualities) v.values_count v.increments_count v.qualities_count v.bases_fit))
      (
      both_ok _ _ (ok_under 65512 (length r.name) _ _ (small-name (length r.name) v.name_fits))
      (
      both_ok _ _ (ok-when _ _ _ (every_passes is_name_byte r.name v.name_good))
      (
      both_ok _ _
      (ok-zero-place _
      (
      both_ok _ _ (ok_under _ _ _ _ v.quality_left_good)
      (
      both_ok _ _ (ok_under _ _ _ _ v.quality_right_good)
      (both_ok _ _ (ok_under _ _ _ _ v.adapter_left_good) (ok_under _ _ _ _ v.adapter_right_good))
      )
      )
      )
      (ok-zero-place _ (ok_bases characters r.increments r.bases v.walk_good v.bases_good))
      )
      )
      )
