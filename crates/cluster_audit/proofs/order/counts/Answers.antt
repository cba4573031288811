use Rattle.std.proofs.Common.{◌≡◌, ℕ, ◌+◌, ◌<◌, List, [], ◌∷◌, ◌++◌, length, get_or, take, sym, ap, ◌∙◌}
use Rattle.std.proofs.lemmas.List.{flat_map_more, take_more}
use Rattle.std.specs.Global.{Vec}
use Rattle.std.specs.List.{count_by, flat_map}
use Rattle.std.specs.Str.{bytes_eq}
use Rattle.texts.specs.declared.shape.Shape.{Shape}
use Rattle.cluster_audit.specs.Order.{counted_line}
use Rattle.cluster_audit.specs.Shaped.{counted_in}
use Rattle.cluster_audit.proofs.order.counts.Goals as goal

module _ (shape : Shape) (all kinds : List (Vec ℕ)) (i : ℕ) (kind : Vec ℕ) where
  one_counted : (before after line : List ℕ) (count : ℕ) → i < length kinds → kind ≡ get_or kinds i kind → before ≡ flat_map (counted_line shape all) (take i kinds)
      → line ≡ kind.items → count ≡ count_by (λ other. bytes_eq other.items line) all → after ≡ before ++ counted_in shape line count
      → after ≡ flat_map (counted_line shape all) (take (i + 1) kinds)
  one_counted before after line count inside is begun is_line is_count more =
      more
      ∙ ap (λ (n : ℕ). before ++ counted_in shape line n) is_count
      ∙ ap (λ (l : List ℕ). before ++ counted_in shape l (count_by (λ other. bytes_eq other.items l) all)) is_line
      ∙ ap (λ (t : List ℕ). t ++ counted_line shape all kind) begun
      ∙ flat_map_more (counted_line shape all) [] (take i kinds) kind
      ∙ ap (flat_map (counted_line shape all)) (sym (take_more kinds i kind inside ∙ ap (λ (k : Vec ℕ). take i kinds ++ k ∷ []) (sym is)))

pub loop-kind-preserved : goal.loop-kind-preserved
loop-kind-preserved c =
    one_counted c.args.shape c.args.lines.now c.args.kinds.now c.loop-kind.kind-index c.kind-item.result c.loop-kind.text.items c.print_counted.new.text.items c.as_slice-line.result.now c.count_of.result
    c.loop-kind-test.true c.kind-item.is c.loop-kind.invariant c.as_slice-line.ensures.value c.count_of.ensures c.in_ok-print_counted.ensures
