use Rattle.std.proofs.Common.{◌≡◌, ◌+◌, ◌-◌, ◌≤◌, ◌++◌, ℕ, List, refl, inl, inr, sym, ap, ◌∙◌, arith, length, length-append, take, drop}
use Rattle.std.proofs.lemmas.List.{length-drop, length-take, take_rest}
use Rattle.ceph_input.specs.Rows.{unindented}
use Rattle.ceph_input.proofs.ArrayText.{item_ends, item_full, no_room}
use Rattle.ceph_input.proofs.cutter.RowCutter.take.Goals as goal
use Rattle.ceph_input.proofs.cutter.RowCutter.take.Goals.{else-byte-eq44, then-byte-eq44}

pub returns-then-not-ends-clause-err : goal.returns-then-not-ends-clause-err
returns-then-not-ends-clause-err c tail =
    let chunk = c.args.chunk.now in
    let n = c.scan-length.result.0 in
    let item = c.self.inside.item.items in
    let got = c.extend_from_slice.new.self.items in
    let rest = take (length chunk - n) (drop n chunk) in
    let grown : got ≡ item ++ take n chunk = c.extend_from_slice.ensures.items ∙ rw c.in_ok-extend_from_slice.was refl in
    let goes = sym c.ends.ensures ∙ c.if-not-ends.true in
    let passed : c.min-room.result ≤ n = no_room c.scan-length.result.1 chunk rest c.min-room.result n c.scan-length.ensures.ended (take_rest chunk n) c.in-len1-up.len_at_least goes in
    let full : 16777216 ≤ length got = omega (arith, ap length grown, length-append item (take n chunk), length-take n chunk, length-take (length chunk - n) (drop n chunk), length-drop n chunk, c.in-len1-up.len_at_least, c.min-room.ensures, c.saturating_sub.ensures, c.len.ensures) in
    rw (← c.self.view_is) (item_full c.args.place c.scan-length.result.1 c.self.inside.byte item chunk got c.min-room.result n c.scan-length.ensures.bound
    (omega (arith, c.min-room.ensures, c.saturating_sub.ensures, c.len.ensures)) c.scan-length.ensures.rows grown rest (take_rest chunk n) c.in-len1-up.len_at_least tail goes full)

pub returns-clause-rows : goal.returns-clause-rows
returns-clause-rows c tail =
    let chunk = c.args.chunk.now in
    let n = c.scan-length.result.0 in
    let item = c.self.inside.item.items in
    let got = c.extend_from_slice.new.self.items in
    let rest = take (length chunk - n) (drop n chunk) in
    let grown : got ≡ item ++ take n chunk = c.extend_from_slice.ensures.items ∙ rw c.in_ok-extend_from_slice.was refl in
    let begun : c.saturating_sub-begun.result ≡ c.self.inside.byte + n - length (unindented got) = c.saturating_sub-begun.ensures ∙ ap (λ (l : List ℕ). c.self.inside.byte + n - length l) (c.unindented-item.ensures ∙ ap unindented c.as_slice.ensures.value) in
    rw (← c.self.view_is) (item_ends c.args.place c.scan-length.result.1 c.self.inside.byte item chunk got c.min-room.result n c.scan-length.ensures.bound
    (omega (arith, c.min-room.ensures, c.saturating_sub.ensures, c.len.ensures)) c.scan-length.ensures.rows grown rest (take_rest chunk n) c.in-len1-up.len_at_least tail
    c.if-byte-eq44.self c.saturating_sub-begun.result (take (length rest - 1) (drop 1 rest)) (sym c.ends.ensures ∙ c.if-not-ends.false)
    (elim c.if-byte-eq44.branch [ then-byte-eq44 w ↦ inl (w.if-byte-eq44.true, w.self-is) | else-byte-eq44 w ↦ inr (w.if-byte-eq44.false, w.self-is) ])
    begun (take_rest rest 1))
