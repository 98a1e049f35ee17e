-- A text that a loop puts piece by piece, or measures so. Assumes nothing.
use mathlib.Core.Path.{◌≡◌, sym, ap, ◌∙◌}
use mathlib.Core.List.{List, [], ◌++◌, append_assoc, append-nil}
use Prim.Native.Nat.{ℕ, ◌+◌, ◌-◌, ◌≤◌, ◌<◌}
use native.Mathlib.Omega.{arith}
use lib.ListN.{length, length-append}
use Rattle.text.specs.declared.inner.TextWriter.{TextWriter}
use Rattle.text.specs.Writer.{HasRoom, Puts}
use Rattle.text.proofs.Writing.{puts_none, room_first, room_then, puts_then}

-- of the text `whole`, all but `rest` is put: the writer was w₀, and is w
pub record Coming (whole : List ℕ) (w₀ : TextWriter) (w : TextWriter) (rest : List ℕ) : Type 0 where
  pub done : List ℕ
  pub all : done ++ rest ≡ whole
  pub put : Puts done w₀ w
  pub room : HasRoom whole w₀

pub coming_start : {whole : List ℕ} (pieces : List ℕ) {w : TextWriter} → HasRoom whole w → whole ≡ pieces → Coming whole w w pieces
coming_start pieces {w} r e = record { done = []; all = sym e; put = puts_none w; room = r }

module _ {whole : List ℕ} {w₀ w : TextWriter} where
  -- xs is the next piece
  module _ (xs ys : List ℕ) (k : Coming whole w₀ w (xs ++ ys)) where
    pub coming_room : HasRoom xs w
    coming_room = room_first xs ys (room_then k.done (xs ++ ys) (rw k.all k.room) k.put)

    pub coming_put : {w' : TextWriter} → Puts xs w w' → Coming whole w₀ w' ys
    coming_put {w'} p =
        let e : k.done ++ xs ++ ys ≡ whole = append_assoc k.done xs ys ∙ k.all in
        let r : HasRoom (k.done ++ xs) w₀ = room_first (k.done ++ xs) ys (rw e k.room) in
        record { done = k.done ++ xs; all = e; put = puts_then k.done xs r k.put p; room = k.room }

  pub coming_done : Coming whole w₀ w [] → Puts whole w₀ w
  coming_done k = rw (← k.all, append-nil) k.put

-- of the room for the text `whole`, what all but `rest` of it leaves is `left`
pub record RoomLeft (room : ℕ) (whole : List ℕ) (left : ℕ) (rest : List ℕ) : Type 0 where
  pub is : left + length whole ≡ room + length rest

pub room_left_start : (room : ℕ) {whole : List ℕ} (pieces : List ℕ) → whole ≡ pieces → RoomLeft room whole room pieces
room_left_start room pieces e = record { is = ap (λ (xs : List ℕ). room + length xs) e }

module _ {room : ℕ} {whole : List ℕ} {left : ℕ} where
  -- xs is the next piece, for which there is room or not
  module _ (xs rest : List ℕ) (k : RoomLeft room whole left (xs ++ rest)) where
    pub room_left_more : {left' : ℕ} → length xs ≤ left → left' ≡ left - length xs → RoomLeft room whole left' rest
    room_left_more h e = let f = length-append xs rest in record { is = omega (arith, k.is, e, f, h) }

    pub room_left_none : left < length xs → room < length whole
    room_left_none h = let f = length-append xs rest in omega (arith, k.is, f, h)

  pub room_left_done : RoomLeft room whole left [] → (length whole ≤ room) × (left ≡ room - length whole)
  room_left_done k = (omega (arith, k.is), omega (arith, k.is))
