-- The bytes after the read's header section are its name, and `==` tells whether they are the same.
use mathlib.Core.Path.{sym, ◌∙◌}
use native.Mathlib.Nat.{add-sub_cancel_left}
use Rattle.octets.proofs.Same.{same_pointwise}
use Rattle.sff_reasons.proofs.inner.has_name.Goals as goal

pub returns : goal.returns
returns c = rw (add-sub_cancel_left, c.get16.ensures.0) at c.eq.ensures ∙ sym (same_pointwise _ _)
