-- The clips of a read that a step finds have 16 bits each. Assumes nothing.
use Prim.Native.Nat.{ℕ, ◌+◌, ◌≤◌}
use mathlib.Core.Path.{◌≡◌, refl, sym, subst}
use mathlib.Core.List.{List}
use native.Mathlib.Omega.{arith}
use lib.ListN.{length}
use Rattle.octets.specs.Numbers.{Bytes}
use Rattle.octets.proofs.Stands.{number_small}
use Rattle.answers.specs.Answer.{Answer, Accepted, Refused}
use Rattle.sff_format.specs.declared.ReadView.{ReadView}
use Rattle.sff_format.specs.HeaderTest.{flows, flow_characters}
use Rattle.sff_format.specs.Step.{State, Step, found, stop, boundary, step_test, step}
use Rattle.sff_format.specs.View.{view_at}
use Rattle.sff_format.proofs.ReadLaid.{fits_16}
use Rattle.sff_format.proofs.Steps.{step-found, step-stop, read-accepted}
use Rattle.harness_files.specs.Outs.{ClipsFit}

-- the clips of a read whose first 16 bytes lie in the file
small_at : (F : ℕ) (b : List ℕ) (p : ℕ) → Bytes b → p + 16 ≤ length b → ClipsFit (view_at F b p)
unfolding view_at
small_at F b p y h = record {
  quality_left = number_small 2 (p + 8) b y (omega arith);
  quality_right = number_small 2 (p + 10) b y (omega arith);
  adapter_left = number_small 2 (p + 12) b y (omega arith);
  adapter_right = number_small 2 (p + 14) b y (omega arith);
}

-- those of what a step answers
abbrev StepClipsFit : Step → Type 0
StepClipsFit (found v next) = ClipsFit v
StepClipsFit (stop n p s) = Unit {0}

step_small : (b : List ℕ) (s : State) → Bytes b → StepClipsFit (step b s)
step_small b s y = go (step_test b s) refl
  where
    go : (a : Answer) → step_test b s ≡ a → StepClipsFit (step b s)
    go Accepted e =
        let fits = fits_16 (flow_characters b) b (boundary b s) (read-accepted b s e) in
        rw (step-found b s e) (small_at (flows b) b (boundary b s) y fits)
    go (Refused n p) e = rw (step-stop b s n p e) tt

pub found-small : (b : List ℕ) (s : State) (v : ReadView) (next : State) → Bytes b → found v next ≡ step b s → ClipsFit v
found-small b s v next y e = subst StepClipsFit (sym e) (step_small b s y)
