use Rattle.std.proofs.Common.{◌∙◌, [], ◌∷◌, sym, ap, subst, arith, length, length-append}
use Rattle.captable.proofs.Recalling.{AreFirst, first-all, first-full, first-less, first-more, first-none, first-there}
use Rattle.captable.proofs.nodes.first_holders.Goals as goal
use Rattle.captable.proofs.nodes.first_holders.Goals.{in-Some+then-len-n, in_default}

pub named-init : goal.named-init
named-init c = record {
  first = first-none c.new-named.ensures.items c.oldest-next.ensures.first;
  few = omega (arith, ap length c.new-named.ensures.items);
}

pub unreachable-requires : goal.unreachable-requires
unreachable-requires c =
    first-there c.oldest-next.ensures.sound c.in-Some.is c.named.invariant.first (sym c.holder_at.ensures ∙ c.in_default-holder_at.is)

pub named-smaller : goal.named-smaller
named-smaller c = first-less c.oldest-next.ensures.sound c.in-Some.is c.named.invariant.first c.newer-next.ensures.next

pub named-preserved : goal.named-preserved
named-preserved c =
    let holder = c.in-Some-holder_at.holder in
    let items = c.in_ok-push.ensures.items in
    let more = first-more c.oldest-next.ensures.sound c.in-Some.is c.named.invariant.first holder (sym c.holder_at.ensures ∙ c.in-Some-holder_at.is) c.newer-next.ensures.next in
    record {
      first = subst (λ hs. AreFirst c.args.lists.now hs c.newer-next.result) (sym items) more;
      few = omega (arith, ap length items, length-append c.named.named.items (holder ∷ []), c.named.invariant.few, c.if-len-n.false, c.len.ensures);
    }

pub returns : goal.returns
returns c =
    let first = c.named.invariant.first in
    elim c.match-next.branch [
      | in-Some+then-len-n w ↦ first-full first c.args.n (omega (arith, w.len.ensures, w.if-len-n.true))
      | in_default w ↦ first-all first c.args.n w.in_default.is c.named.invariant.few
    ]
