use Rattle.std.proofs.Common.{◌≡◌, ℕ, List, ◌++◌, subst, sym}
use Rattle.std.specs.Prelude.{OnOk}
use Rattle.std.proofs.lemmas.Bool.{cond-false, cond-true}
use Rattle.queries.specs.Kinds.{kind_in}
use Rattle.queries.specs.Told.{text_in, told_of}
use Rattle.queries.proofs.told.print_by_scope.Goals as goal

pub returns-then-counts : goal.returns-then-counts
returns-then-counts c =
    let scope = c.args.line.scope in
    let told = told_of c.args.told in
    subst (λ (text : List ℕ). OnOk c.print_kind.result (c.print_kind.new.text.items ≡ c.args.reported.now.items ++ text))
    (sym (cond-true scope.counts (kind_in scope.shape told) (text_in scope.shape c.args.line.number told) c.if-counts.true)) c.print_kind.ensures

pub returns : goal.returns
returns c =
    let scope = c.args.line.scope in
    let told = told_of c.args.told in
    subst (λ (text : List ℕ). OnOk c.print_in.result (c.print_in.new.reported.items ≡ c.args.reported.now.items ++ text))
    (sym (cond-false scope.counts (kind_in scope.shape told) (text_in scope.shape c.args.line.number told) c.if-counts.false)) c.print_in.ensures
