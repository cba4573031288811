use Rattle.std.proofs.Common.{◌-◌, drop, length, sym, ◌∙◌, arith}
use Rattle.std.proofs.lemmas.List.{length-drop, take_all}
use Rattle.std.proofs.lemmas.Bool.Decides.{Decides-eqb}
use Rattle.std.proofs.lemmas.Slice.Eq.{starts_is}
use Rattle.capspec.proofs.Sharing.{has_at}
use Rattle.capspec.proofs.shared_prefix.has_name.Goals as goal

pub returns-then-slash-eq47 : goal.returns-then-slash-eq47
returns-then-slash-eq47 c =
    has_at (drop c.args.at c.args.text.now) c.in-Some.behind.now c.args.name.now c.in-Some.slash.now c.starts_with.result (sym (take_all (length c.args.text.now - c.args.at) (drop c.args.at c.args.text.now) (omega (arith, length-drop c.args.at c.args.text.now))) ∙ c.in-Some.ensures.cases.0) c.if-slash-eq47.true
    (starts_is Decides-eqb c.in-Some.behind.now c.args.name.now c.starts_with.result c.starts_with.ensures.value)
