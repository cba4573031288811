use Rattle.std.proofs.Common.{ℕ, ◌+◌, ◌-◌, List, take, sym, ap, ◌∙◌, arith}
use Rattle.std.proofs.lemmas.List.{at_drop_all, take_rest}
use Rattle.std.specs.Prelude.{codes, nat_eq}
use Rattle.std.specs.Global.{Vec}
use Rattle.std.specs.List.{ends_with, list_all}
use Rattle.ceph_input.specs.Keyring.{is_blank, unquoted}
use Rattle.ceph_input.proofs.Unquoting.{closing_quote, escaped_quote, other_byte, quote_inside}
use Rattle.ceph_input.proofs.quoted.read_unquoted.Goals as goal
use Rattle.ceph_input.proofs.quoted.read_unquoted.Goals.{else-byte-ne34+then-ends_with+in_ok-push-2, then-byte-ne34+in_ok-push}

pub loop-place-preserved : goal.loop-place-preserved
loop-place-preserved c =
    let l = c.loop-place in
    elim c.if-byte-ne34.branch [
      | then-byte-ne34+in_ok-push w ↦
          other_byte c.args.value.now l.place (omega arith) l.text.items c.if-byte-ne34.text.items w.if-byte-ne34.true (ap (λ (text : Vec ℕ). text.items) w.text-is ∙ w.in_ok-push.ensures.items)
          ∙ l.invariant
      | else-byte-ne34+then-ends_with+in_ok-push-2 w ↦
          escaped_quote c.args.value.now l.place (omega arith) l.text.items w.truncate.new.self.items c.if-byte-ne34.text.items w.if-byte-ne34.false
          (ap (λ (text : List ℕ). ends_with nat_eq text (codes "\\")) (sym w.as_slice.ensures.value) ∙ sym w.ends_with.ensures.value ∙ w.if-ends_with.true)
          (w.truncate.ensures.items ∙ ap (λ (n : ℕ). take (n - 1) l.text.items) (w.len.ensures ∙ l.text.ok.0)) (ap (λ (text : Vec ℕ). text.items) w.text-is ∙ w.in_ok-push-2.ensures.items)
          ∙ l.invariant
    ]

pub returns-then-are_blank : goal.returns-then-are_blank
returns-then-are_blank c =
    closing_quote c.args.value.now c.loop-place.place (omega arith) c.loop-place.text.items c.if-byte-ne34.false
    (ap (λ (text : List ℕ). ends_with nat_eq text (codes "\\")) (sym c.as_slice.ensures.value) ∙ sym c.ends_with.ensures.value ∙ c.if-ends_with.false)
    (ap (list_all is_blank) (sym (take_rest c.args.value.now (c.loop-place.place + 1))) ∙ sym c.are_blank.ensures ∙ c.if-are_blank.true)
    ∙ c.loop-place.invariant

pub returns-else-are_blank : goal.returns-else-are_blank
returns-else-are_blank c =
    quote_inside c.args.value.now c.loop-place.place (omega arith) c.loop-place.text.items c.if-byte-ne34.false
    (ap (λ (text : List ℕ). ends_with nat_eq text (codes "\\")) (sym c.as_slice.ensures.value) ∙ sym c.ends_with.ensures.value ∙ c.if-ends_with.false)
    (ap (list_all is_blank) (sym (take_rest c.args.value.now (c.loop-place.place + 1))) ∙ sym c.are_blank.ensures ∙ c.if-are_blank.false)
    ∙ c.loop-place.invariant

pub returns : goal.returns
returns c =
    sym (at_drop_all (unquoted c.loop-place.text.items) c.args.value.now c.loop-place.place (omega arith))
    ∙ c.loop-place.invariant
