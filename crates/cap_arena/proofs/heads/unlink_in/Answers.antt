use Rattle.std.proofs.Common.{◌≡◌, true, false, not, cond, is_some, sym, ap, ◌∙◌, nat_eq}
use Rattle.std.specs.FinMap as map
use Rattle.cap_arena.specs.declared.nodes.Ends.{Ends}
use Rattle.cap_arena.specs.Heads.{ends_at, ends_or_none, kept}
use Rattle.cap_arena.specs.Places.{unlinked_ends}
use Rattle.cap_arena.proofs.HeadMaps.{get-gone, get-kept}
use Rattle.cap_arena.proofs.heads.unlink_in.Goals as goal

pub returns-then-is_none-clause-heads : goal.returns-then-is_none-clause-heads
returns-then-is_none-clause-heads g c = λ q.
    let m = c.args.heads.now in
    let number = c.args.number in
    let none : is_some c.unlink.new.self.first ≡ false = ap is_some (sym c.first.ensures) ∙ c.is_none.ensures ∙ ap not c.if-is_none.true in
    ap (λ n. map.get n q) c.remove.ensures ∙ get-gone m number c.unlink.new.self none q ∙ ap (λ (e : Ends). cond (nat_eq number q) (kept e) (map.get m q))
    (c.unlink.ensures.ends ∙ ap (λ (e : Ends). unlinked_ends c.args.nodes.now.slots e c.args.order c.args.key) (ap ends_or_none c.in-Some.ensures.value))

pub returns-else-is_none-clause-heads : goal.returns-else-is_none-clause-heads
returns-else-is_none-clause-heads g c = λ q.
    let m = c.args.heads.now in
    let number = c.args.number in
    let some : is_some c.unlink.new.self.first ≡ true = ap is_some (sym c.first.ensures) ∙ c.is_none.ensures ∙ ap not c.if-is_none.false in
    get-kept m number c.unlink.new.self some q ∙ ap (λ (e : Ends). cond (nat_eq number q) (kept e) (map.get m q))
    (c.unlink.ensures.ends ∙ ap (λ (e : Ends). unlinked_ends c.args.nodes.now.slots e c.args.order c.args.key) (ap ends_or_none c.in-Some.ensures.value))
