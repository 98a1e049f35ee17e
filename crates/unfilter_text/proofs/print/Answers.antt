-- A longer input than 65,536 bytes prints `too long`, any other the block's data or the line of its refusal.
use Rattle.std.proofs.Common.{arith, sym, ap, length, ◌≤◌}
use Rattle.answers.specs.Answer.{Accepted}
use lib.Seq.{length-take-le}
use Rattle.filter_format.specs.Undo.{Filtered, room_of, undo}
use Rattle.text.proofs.Fitted.{fits}
use Rattle.unfilter_text.proofs.Texts.{filled-least, long_text, data_text, refusal_text}
use Rattle.unfilter_text.proofs.print.Goals as goal

pub returns-then-input-gt65536-clause-value : goal.returns-then-input-gt65536-clause-value
returns-then-input-gt65536-clause-value c =
    let a = c.args in
    let is = long_text (room_of a.first.now a.second.now) a.input.now c.if-input-gt65536.true in
    rw is c.write_cleared.ensures.value

pub returns-then-input-gt65536-clause-first_after : goal.returns-then-input-gt65536-clause-first_after
returns-then-input-gt65536-clause-first_after c =
    let a = c.args in
    let is = long_text (room_of a.first.now a.second.now) a.input.now c.if-input-gt65536.true in
    rw is c.write_cleared.ensures.first_after

pub returns-in-Ok-clause-value : goal.returns-in-Ok-clause-value
returns-in-Ok-clause-value c =
    let a = c.args in
    let u = c.undo.ensures in
    let bytes = (undo (room_of a.first.now a.second.now) a.input.now).bytes in
    let is = data_text (room_of a.first.now a.second.now) a.input.now c.if-input-gt65536.false c.in-Ok.ensures.value in
    let most = filled-least (length a.first.now) bytes in
    let h : length bytes ≤ length a.first.now = omega (arith, ap length u.first_after) in
    rw (is, fits (length a.first.now) bytes h) (ap (λ (f : Filtered). record { answer = Accepted; length = f.made }) c.in-Ok.ensures.value)

pub returns-in-Ok-clause-first_after : goal.returns-in-Ok-clause-first_after
returns-in-Ok-clause-first_after c =
    let a = c.args in
    let u = c.undo.ensures in
    let bytes = (undo (room_of a.first.now a.second.now) a.input.now).bytes in
    let is = data_text (room_of a.first.now a.second.now) a.input.now c.if-input-gt65536.false c.in-Ok.ensures.value in
    let most = filled-least (length a.first.now) bytes in
    let h : length bytes ≤ length a.first.now = omega (arith, ap length u.first_after) in
    rw (is, fits (length a.first.now) bytes h) u.first_after

pub returns-in-Ok-clause-prefix_len : goal.returns-in-Ok-clause-prefix_len
returns-in-Ok-clause-prefix_len c =
    let a = c.args in
    let u = c.undo.ensures in
    let bytes = (undo (room_of a.first.now a.second.now) a.input.now).bytes in
    let most = filled-least (length a.first.now) bytes in
    let h : c.in-Ok.made ≤ length c.undo.new.first
    = omega (arith, ap length u.first_after, ap (λ (f : Filtered). f.made) c.in-Ok.ensures.value) in
    (h, sym (length-take-le c.in-Ok.made c.undo.new.first h))

pub returns-in-Err-clause-value : goal.returns-in-Err-clause-value
returns-in-Err-clause-value c =
    let a = c.args in
    let is = refusal_text (room_of a.first.now a.second.now) a.input.now c.if-input-gt65536.false c.in-Err.ensures.value in
    rw (is, ← c.undo.auto.first) (rw c.from.ensures at c.write_cleared-in-Err.ensures.value)

pub returns-in-Err-clause-first_after : goal.returns-in-Err-clause-first_after
returns-in-Err-clause-first_after c =
    let a = c.args in
    let is = refusal_text (room_of a.first.now a.second.now) a.input.now c.if-input-gt65536.false c.in-Err.ensures.value in
    rw (is, ← c.undo.auto.first) (rw c.from.ensures at c.write_cleared-in-Err.ensures.first_after)
