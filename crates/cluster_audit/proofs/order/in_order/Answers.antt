use Rattle.std.proofs.Common.{rules, ◌≡◌, ℕ, List, ◌++◌, codes, ap, ◌∙◌}
use Rattle.std.proofs.lemmas.List.Filters.{dedup_is}
use Rattle.std.proofs.lemmas.Result.{IfOk-weaker}
use Rattle.std.specs.Global.{Vec}
use Rattle.std.specs.List.{flat_map}
use Rattle.std.specs.Str.{bytes_eq}
use Rattle.cluster_audit.specs.Order.{AreInOrder}
use Rattle.cluster_audit.proofs.order.in_order.Goals as goal

pub returns : goal.returns
returns c =
    let rest : List ℕ = c.in_ok-lines.rest.now in
    let text : List (Vec ℕ) → List ℕ = λ lines. flat_map (λ line. line.items ++ codes "\n") lines ++ rest in
    let each_once = dedup_is (λ (x y : Vec ℕ). bytes_eq x.items y.items) c.sort.new.self.items c.dedup.new.self.items c.dedup.ensures.filtered in
    IfOk-weaker c.joined.result (λ ordered. ordered.items ≡ text c.as_slice.result.now) (λ ordered. AreInOrder c.args.text.now ordered.items)
    (λ ordered is. record {
      before = c.in_ok-lines.lines.items;
      all = c.sort.new.self.items;
      rest = rest;
      cut = search rules;
      same = search rules;
      sorted = search rules;
      joined = is ∙ ap text (c.as_slice.ensures.value ∙ each_once);
    })
    c.joined.ensures
