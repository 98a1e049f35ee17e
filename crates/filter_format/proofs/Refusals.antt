-- The numbers that each call may answer with; and so "Every answer has a number (0 accepted)": 0 is acceptance's alone.
-- Assumes nothing.
use Prim.Native.Nat.{ℕ, zero, suc}
use mathlib.Core.Path.{◌≡◌, refl}
use mathlib.Core.Bool.{Bool, true, false, cond}
use mathlib.Core.List.{List, []}
use Rattle.answers.specs.Answer.{Answer, Accepted, Refused, number_of, accepted_or, among, Among}
use Rattle.answers.proofs.Answers.{cond_keeps, either_keeps}
use Rattle.answers.proofs.Numbered.{zero_accepted, then-refusing, when-refusing, more_numbers}
use Rattle.filter_format.specs.declared.Filter.{Filter}
use Rattle.filter_format.specs.Block.{filter_at, is_raw, undone, contents_test}
use Rattle.filter_format.specs.Undo.{Result, making, refusing, block_test, layer_test, undo_from, most_filters, undo, undo_layer}
use Rattle.filter_format.specs.Encode.{encode_test, encoded, encode}
use Rattle.filter_format.specs.Delta.{delta_bytes, undelta_bytes}
use Rattle.filter_format.specs.Samples.{samples_test, encode_samples, undo_samples}
use Rattle.filter_format.proofs.Results.{tested_none}
use Rattle.filter_format.specs.Numbers.{undo_numbers, layer_numbers, encode_numbers, samples_numbers}

contents_numbers : (f : Filter) (room : ℕ) (b : List ℕ) → Among layer_numbers (contents_test f room b)
unfolding contents_test among
contents_numbers f room b =
    then-refusing _ _ _ (when-refusing _ _ 40 _ refl)
    (then-refusing _ _ _ (when-refusing _ _ 42 _ refl) (then-refusing _ _ _ (when-refusing _ _ 43 _ refl) (when-refusing _ _ 26 _ refl)))

block_numbers : (left room : ℕ) (b : List ℕ) → Among undo_numbers (block_test left room b)
unfolding block_test among
block_numbers left room b =
    let f = filter_at b in
    then-refusing _ _ _ (when-refusing _ _ 40 _ refl)
    (
    then-refusing _ _ _ (when-refusing _ _ 41 _ refl)
    (then-refusing _ _ _ (when-refusing _ _ 44 _ refl) (more_numbers layer_numbers undo_numbers refl (contents_test f room b) (contents_numbers f room b)))
    )

layer_test_numbers : (room : ℕ) (b : List ℕ) → Among layer_numbers (layer_test room b)
unfolding layer_test among
layer_test_numbers room b = then-refusing _ _ _ (when-refusing _ _ 40 _ refl) (then-refusing _ _ _ (when-refusing _ _ 41 _ refl) (contents_numbers (filter_at b) room b))

encode_test_numbers : (room format level : ℕ) (follow s : List ℕ) → Among encode_numbers (encode_test room format level follow s)
unfolding encode_test among
encode_test_numbers room format level follow s =
    then-refusing _ _ _ (when-refusing _ _ 41 _ refl)
    (then-refusing _ _ _ (when-refusing _ _ 42 _ refl) (then-refusing _ _ _ (when-refusing _ _ 43 _ refl) (when-refusing _ _ 26 _ refl)))

samples_test_numbers : (room precision : ℕ) (s : List ℕ) → Among samples_numbers (samples_test room precision s)
unfolding samples_test among
samples_test_numbers room precision s = then-refusing _ _ _ (when-refusing _ _ 42 _ refl) (then-refusing _ _ _ (when-refusing _ _ 43 _ refl) (when-refusing _ _ 26 _ refl))

-- what a test comes to has the test's number
either_numbers : (ns : List ℕ) (a : Answer) (r : Result) → Among ns a → Among ns r.answer → Among ns (accepted_or a r (refusing a)).answer
either_numbers ns a r h k = either_keeps (λ (q : Result). Among ns q.answer) a r (refusing a) k h

from-numbers : (left room : ℕ) (b : List ℕ) → Among undo_numbers (undo_from left room b).answer
unfolding undo_from
from-numbers zero room b = either_numbers undo_numbers (block_test 0 room b) (making (undone (filter_at b) b)) (block_numbers 0 room b) tt
from-numbers (suc left) room b =
    let inner = undone (filter_at b) b in
    either_numbers undo_numbers (block_test (suc left) room b) (cond (is_raw (filter_at b)) (making inner) (undo_from left room inner)) (block_numbers (suc left) room b)
    (cond_keeps (λ (q : Result). Among undo_numbers q.answer) (is_raw (filter_at b)) (making inner) (undo_from left room inner) tt (from-numbers left room inner))

pub undo-numbers : (room : ℕ) (block : List ℕ) → Among undo_numbers (undo room block).answer
undo-numbers room block = from-numbers most_filters room block

pub layer_numbers_lem : (room : ℕ) (block : List ℕ) → Among layer_numbers (undo_layer room block).answer
unfolding undo_layer
layer_numbers_lem room block =
    either_numbers layer_numbers (layer_test room block) (making (undone (filter_at block) block))
    (layer_test_numbers room block) tt

pub encode-numbers : (room format level : ℕ) (follow source : List ℕ)
    → Among encode_numbers (encode room format level follow source).answer
unfolding encode
encode-numbers room format level follow source =
    either_numbers encode_numbers (encode_test room format level follow source)
    (making (encoded format level follow source)) (encode_test_numbers room format level follow source) tt

pub encode_samples_numbers : (room precision : ℕ) (source : List ℕ)
    → Among samples_numbers (encode_samples room precision source).answer
unfolding encode_samples
encode_samples_numbers room precision source =
    either_numbers samples_numbers (samples_test room precision source) (making (delta_bytes precision 2 source))
    (samples_test_numbers room precision source) tt

pub undo_samples_numbers : (room precision : ℕ) (source : List ℕ)
    → Among samples_numbers (undo_samples room precision source).answer
unfolding undo_samples
undo_samples_numbers room precision source =
    either_numbers samples_numbers (samples_test room precision source) (making (undelta_bytes precision 2 source))
    (samples_test_numbers room precision source) tt

-- 0 is in none of these lists
pub layer_zero : (room : ℕ) (block : List ℕ) → number_of (undo_layer room block).answer ≡ 0
    → (undo_layer room block).answer ≡ Accepted
unfolding among
layer_zero room block e = zero_accepted layer_numbers refl (undo_layer room block).answer (layer_numbers_lem room block) e

pub encode_zero : (room format level : ℕ) (follow source : List ℕ)
    → number_of (encode room format level follow source).answer ≡ 0
    → (encode room format level follow source).answer ≡ Accepted
unfolding among
encode_zero room format level follow source e =
    zero_accepted encode_numbers refl (encode room format level follow source).answer
    (encode-numbers room format level follow source) e

pub encode_samples_zero : (room precision : ℕ) (source : List ℕ)
    → number_of (encode_samples room precision source).answer ≡ 0
    → (encode_samples room precision source).answer ≡ Accepted
unfolding among
encode_samples_zero room precision source e =
    zero_accepted samples_numbers refl (encode_samples room precision source).answer
    (encode_samples_numbers room precision source) e

pub undo_samples_zero : (room precision : ℕ) (source : List ℕ)
    → number_of (undo_samples room precision source).answer ≡ 0 → (undo_samples room precision source).answer ≡ Accepted
unfolding among
undo_samples_zero room precision source e =
    zero_accepted samples_numbers refl (undo_samples room precision source).answer
    (undo_samples_numbers room precision source) e

-- a refusal makes no bytes
from_none : (left room : ℕ) (b : List ℕ) → (number_of (undo_from left room b).answer ≡ 0 → ⊥) → (undo_from left room b).bytes ≡ []
unfolding undo_from accepted_or
from_none zero room b h = tested_none (block_test 0 room b) (undone (filter_at b) b) h
from_none (suc left) room b h = go (block_test (suc left) room b) (is_raw (filter_at b)) h (from_none left room (undone (filter_at b) b))
  where
    go : (a : Answer) (t : Bool)
        → (number_of (accepted_or a (cond t (making (undone (filter_at b) b)) (undo_from left room (undone (filter_at b) b))) (refusing a)).answer ≡ 0 → ⊥)
        → ((number_of (undo_from left room (undone (filter_at b) b)).answer ≡ 0 → ⊥) → (undo_from left room (undone (filter_at b) b)).bytes ≡ [])
        → (accepted_or a (cond t (making (undone (filter_at b) b)) (undo_from left room (undone (filter_at b) b))) (refusing a)).bytes ≡ []
    go Accepted true k ih = absurd (k refl)
    go Accepted false k ih = ih k
    go (Refused n p) t k ih = refl

pub undo_none : (room : ℕ) (block : List ℕ) → (number_of (undo room block).answer ≡ 0 → ⊥) → (undo room block).bytes ≡ []
undo_none room block h = from_none most_filters room block h

pub layer_none : (room : ℕ) (block : List ℕ) → (number_of (undo_layer room block).answer ≡ 0 → ⊥)
    → (undo_layer room block).bytes ≡ []
unfolding undo_layer
layer_none room block h = tested_none (layer_test room block) (undone (filter_at block) block) h

pub encode_none : (room format level : ℕ) (follow source : List ℕ)
    → (number_of (encode room format level follow source).answer ≡ 0 → ⊥)
    → (encode room format level follow source).bytes ≡ []
unfolding encode
encode_none room format level follow source h =
    tested_none (encode_test room format level follow source) (encoded format level follow source) h

pub encode_samples_none : (room precision : ℕ) (source : List ℕ)
    → (number_of (encode_samples room precision source).answer ≡ 0 → ⊥) → (encode_samples room precision source).bytes ≡ []
unfolding encode_samples
encode_samples_none room precision source h =
    tested_none (samples_test room precision source) (delta_bytes precision 2 source) h

pub undo_samples_none : (room precision : ℕ) (source : List ℕ)
    → (number_of (undo_samples room precision source).answer ≡ 0 → ⊥) → (undo_samples room precision source).bytes ≡ []
unfolding undo_samples
undo_samples_none room precision source h =
    tested_none (samples_test room precision source) (undelta_bytes precision 2 source) h
