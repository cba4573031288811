use Rattle.std.proofs.Common.{◌≡◌, cond, Some, ap, ◌∙◌, nat_eq}
use Rattle.std.specs.FinMap as map
use Rattle.capbits.proofs.Maps.{insert-at}
use Rattle.cap_arena.specs.declared.nodes.Ends.{Ends}
use Rattle.cap_arena.specs.Heads.{ends_at, ends_or_none}
use Rattle.cap_arena.specs.Places.{appended_ends}
use Rattle.cap_arena.proofs.heads.append_in.Goals as goal

pub returns-clause-heads : goal.returns-clause-heads
returns-clause-heads g c = λ q.
    let m = c.args.heads.now in
    let ends : c.append.new.self ≡ appended_ends (ends_at m c.args.number) c.args.key = c.append.ensures.ends ∙ ap (λ (e : Ends). appended_ends e c.args.key) (ap ends_or_none c.in-Some.ensures.value) in
    insert-at m c.args.number q c.append.new.self ∙ ap (λ (e : Ends). cond (nat_eq c.args.number q) (Some e) (map.get m q)) ends
