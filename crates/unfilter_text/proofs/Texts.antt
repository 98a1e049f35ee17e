-- What is printed in each case, if it fits: a block's data, or a line with zeros behind it. Assumes nothing.
use Prim.Native.Nat.{ℕ, ◌-◌, ◌≤◌, ◌<◌}
use mathlib.Core.Path.{◌≡◌, refl, sym, ap, ◌∙◌}
use mathlib.Core.List.{List}
use native.Mathlib.Omega.{arith}
use lib.ListN.{length, take, replicate, length-append}
use Rattle.std.specs.Prelude.{Result, Ok, Err}
use Rattle.std.specs.Result.{result_unwrap_or}
use Rattle.octets.specs.Parts.{put_at, filled}
use Rattle.octets.proofs.Lists.{take-front, length_put}
use Rattle.answers.specs.declared.Refusal.{Refusal}
use Rattle.answers.specs.Answer.{Accepted, Refused}
use Rattle.filter_format.specs.Undo.{Filtered, filtered, undo}
use Rattle.text.specs.Writing.{written_of}
use Rattle.lines.specs.Lines.{refusal_line, too_long}
use Rattle.lines.proofs.Answered.{is_long, not_long, answered-text, answered-refusal}
use Rattle.unfilter_text.specs.Unfiltering.{unfilter_text}

-- xs was put at the front, and what stands behind it cleared
pub cleared : (xs l : List ℕ) {l₁ l' : List ℕ} {n : ℕ} → length xs ≤ length l → l₁ ≡ put_at 0 xs l → n ≡ length xs
    → l' ≡ filled (length l₁) (take n l₁) → l' ≡ filled (length l) xs
cleared xs l {l₁} {l'} {n} h put count clear =
    let same : length l₁ ≡ length l = ap length put ∙ length_put 0 xs l (omega (arith, h)) in
    let front : take n l₁ ≡ xs = ap (λ (k : ℕ). take k l₁) count ∙ ap (take (length xs)) put ∙ take-front xs l in
    clear ∙ rw (same, front)

-- a refusal puts nothing
pub put_length : (result : Result ℕ Refusal) → result_unwrap_or result 0 ≡ (written_of result).length
put_length (Ok n) = refl
put_length (Err refusal) = refl

pub filled-least : (n : ℕ) (xs : List ℕ) → length xs ≤ length (filled n xs)
unfolding filled
filled-least n xs = rw (length-append xs (replicate (n - length xs) 0)) (omega arith)

module _ (room : ℕ) (b : List ℕ) where
  pub long_text : 65536 < length b → unfilter_text room b ≡ too_long
  unfolding unfilter_text
  long_text h = is_long b _ h

  module _ (h : length b ≤ 65536) where
    pub data_text : {n : ℕ} → record { answer = Accepted; made = n } ≡ filtered (undo room b) → unfilter_text room b ≡ (undo room b).bytes
    unfolding unfilter_text
    data_text e = not_long b _ h ∙ answered-text _ (sym (ap (λ (f : Filtered). f.answer) e))

    pub refusal_text : {n p : ℕ} → record { answer = Refused n p; made = 0 } ≡ filtered (undo room b) → unfilter_text room b ≡ refusal_line n p
    unfolding unfilter_text
    refusal_text e = not_long b _ h ∙ answered-refusal _ (sym (ap (λ (f : Filtered). f.answer) e))
