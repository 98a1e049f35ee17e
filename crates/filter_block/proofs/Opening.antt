-- A block's filter undone into a buffer, filter by filter. Assumes nothing.
use Prim.Native.Nat.{ℕ, ◌+◌, ◌-◌, ◌%◌, ◌≤◌}
use mathlib.Core.Path.{◌≡◌, refl, sym, ap, ◌∙◌, subst}
use mathlib.Core.List.{List}
use native.Mathlib.Omega.{arith}
use lib.ListN.{length, drop, length-drop}
use Rattle.octets.specs.Parts.{part, put_at}
use Rattle.octets.proofs.Lists.{put_nil, length_part}
use Rattle.filter_format.specs.declared.Filter.{Filter}
use Rattle.filter_format.specs.declared.Filter.TheVariants.{Raw, Delta, Narrow, Follow, Other}
use Rattle.filter_format.specs.Delta.{undelta_bytes}
use Rattle.filter_format.specs.Narrow.{widen, lacking}
use Rattle.filter_format.specs.Follow.{unfollowed}
use Rattle.filter_format.specs.Block.{header_length, level_at, follow_at, data_at, decoded, undone}
use Rattle.filter_format.proofs.Blocks.{whole_data, none_lacking, length_delta_undone, length_follow_undone}
use Rattle.filter_block.specs.Tests.{Undoable}
use Rattle.filter_block.proofs.Tests.{part_end}

-- what was put, as the promise says it
abbrev pub Put : Filter → List ℕ → ℕ → List ℕ → List ℕ → Type 0
Put f b r out out' = (r ≡ length (undone f b)) × (out' ≡ put_at 0 (undone f b) out)

put_as : (f : Filter) (b xs out out' : List ℕ) (r : ℕ) → undone f b ≡ xs → r ≡ length xs → out' ≡ put_at 0 xs out → Put f b r out out'
put_as f b xs out out' r e l h = rw e (l, h)

pub put_other : (f : Filter) (b out : List ℕ) → f ≡ Other → Put f b 0 out out
unfolding undone decoded
put_other f b out e = rw e (refl, sym (put_nil 0 out))

module _ (b out : List ℕ) where
  -- format 0
  module _ (o : Undoable Raw b (length out)) where
    raw_is : undone Raw b ≡ drop 1 b
    unfolding undone decoded header_length
    raw_is = refl

    pub raw_fits : (1 ≤ length b) × (length b - 1 ≤ length out)
    unfolding header_length
    raw_fits = let n : length (undone Raw b) ≡ length b - 1 = ap length raw_is ∙ length-drop 1 b in (o.1, omega (arith, n, o.3))

    pub raw_put : (out' : List ℕ) → out' ≡ put_at 0 (part 1 (length b - 1) b) out → Put Raw b (length b - 1) out out'
    raw_put out' h =
        let put = h ∙ ap (λ (xs : List ℕ). put_at 0 xs out) (part_end 1 b) in
        put_as Raw b (drop 1 b) out out' (length b - 1) raw_is (sym (length-drop 1 b)) put

  -- formats 64, 65 and 66
  module _ (w start : ℕ) (o : Undoable (Delta w) b (length out)) (e : start ≡ header_length (Delta w)) where
    abbrev s : List ℕ
    s = part start (length b - start) b

    same : s ≡ data_at (Delta w) b
    same = part_end start b ∙ ap (λ (n : ℕ). drop n b) e

    whole : length (data_at (Delta w) b) % w ≡ 0
    whole = whole_data w (data_at (Delta w) b) o.2

    -- k is the width of the arm that is taken
    module _ (k : ℕ) (is : w ≡ k) where
      pub delta_given : (length s % k ≡ 0) × (0 + length s ≤ length out)
      unfolding undone
      delta_given =
          let n = length_delta_undone (level_at b) (follow_at b) (data_at (Delta w) b) w o.0 whole in
          let l : length s ≡ length (data_at (Delta w) b) = ap length same in
          rw (← is) (ap (λ (n : ℕ). n % w) l ∙ whole, omega (arith, n, l, o.3))

      pub delta_put : (level : ℕ) (out' : List ℕ) → level ≡ level_at b → out' ≡ put_at 0 (undelta_bytes k level s) out
          → Put (Delta w) b (length s) out out'
      unfolding undone decoded
      delta_put level out' l h =
          let xs : undone (Delta w) b ≡ undelta_bytes k level s = rw (← is, l, same) in
          let n = length_delta_undone (level_at b) (follow_at b) (data_at (Delta w) b) w o.0 whole in
          (ap length same ∙ sym n, h ∙ ap (λ (t : List ℕ). put_at 0 t out) (sym xs))

  -- formats 70 and 71
  module _ (w : ℕ) (o : Undoable (Narrow w) b (length out)) where
    -- the bytes behind the format byte
    abbrev behind : List ℕ
    behind = part 1 (length b - 1) b

    narrow_is : undone (Narrow w) b ≡ widen w 0 behind
    unfolding undone decoded header_length
    narrow_is = ap (widen w 0) (sym (part_end 1 b))

    module _ (k : ℕ) (is : w ≡ k) where
      pub narrow_given : (lacking k 0 behind ≡ 0) × (length (widen k 0 behind) ≤ length out)
      unfolding header_length
      narrow_given = rw (← is) (
        ap (lacking w 0) (part_end 1 b) ∙ none_lacking w (drop 1 b) o.2,
        subst (λ (xs : List ℕ). length xs ≤ length out) narrow_is o.3,
      )

      pub narrow_put : {r : ℕ} {out' : List ℕ} → r ≡ length (widen k 0 behind) → out' ≡ put_at 0 (widen k 0 behind) out
          → Put (Narrow w) b r out out'
      narrow_put {r} {out'} l h = put_as (Narrow w) b (widen k 0 behind) out out' r (narrow_is ∙ ap (λ (n : ℕ). widen n 0 behind) is) l h

  -- format 72
  module _ (o : Undoable Follow b (length out)) where
    follow_is : undone Follow b ≡ unfollowed (part 1 256 b) (part 257 (length b - 257) b)
    unfolding undone decoded header_length
    follow_is = ap (unfollowed (follow_at b)) (sym (part_end 257 b))

    long : length (undone Follow b) ≡ length b - 257
    unfolding undone header_length
    long = length_follow_undone (level_at b) (follow_at b) (drop 257 b) ∙ length-drop 257 b

    pub follow_given : (257 ≤ length b) × (length (part 1 256 b) ≡ 256) × (length (part 257 (length b - 257) b) ≤ length out)
    unfolding header_length
    follow_given =
        let h : 257 ≤ length b = o.1 in
        let fits : length b - 257 ≤ length out = subst (λ (n : ℕ). n ≤ length out) long o.3 in
        (h, length_part 1 256 b (omega arith), rw (length_part 257 (length b - 257) b (omega arith)) fits)

    pub follow_put : (out' : List ℕ) → out' ≡ put_at 0 (unfollowed (part 1 256 b) (part 257 (length b - 257) b)) out
        → Put Follow b (length b - 257) out out'
    follow_put out' h = (sym long, h ∙ ap (λ (xs : List ℕ). put_at 0 xs out) (sym follow_is))
